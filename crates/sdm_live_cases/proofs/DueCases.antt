-- What is due of an input, what a prompt run and each end say of it: whatever the data part is, of one record that no
-- data accept, `go`.
use Rattle.std.proofs.Common.{◌≡◌, ◌∙◌, ◌<◌, ◌≤◌, ◌==◌, sym, ap, subst, refl, ℕ, Bool, List, [], ◌∷◌, ◌++◌, inl, inr, arith}
use Rattle.std.proofs.Common.{append-nil, codes, drop, length, false, Option, Some, None}
use Rattle.std.proofs.lemmas.Bool.{false≢true}
use Rattle.std.specs.List.{AllByRecursion}
use Rattle.csv.specs.Reading.{strip_bom}
use Rattle.sdm_rules.specs.Supervision.{Supervision}
use Rattle.sdm_formats.specs.FaultLines.{cause_text, form_text}
use Rattle.sdm_formats.specs.Forms.{event_of}
use Rattle.sdm_formats.specs.Input.{most_bytes}
use Rattle.sdm_report.specs.declared.outcome.Outcome.TheVariants.{Done, ReadFault, TooLong, WriteFault}
use Rattle.sdm_data.specs.Division.{divide}
use Rattle.sdm_live.specs.Exchanges.{Gave, History, asked_at, came, is_given_on, sent}
use Rattle.sdm_live.specs.Taken.{Begins}
use Rattle.sdm_live_records.specs.Live.{live_rules, refused_text}
use Rattle.sdm_live_run.specs.Live.{IsAnsweredLive, IsDue, IsDueAfter, IsLiveEnd, IsPromptLive, IsWholeAfter, IsWholeText}
use Rattle.sdm_live_run.specs.Live.{due_of, whole_of}

-- the answer to it
abbrev pub refused : List ℕ
refused = codes "refused: unknown kind\n"

-- before the dividing line nothing is due
nothing_due : (bytes text : List ℕ) → divide bytes ≡ None → IsDue bytes text → text ≡ []
nothing_due bytes text undivided due =
    let D : Option (ℕ × ℕ) → Type 0 = λ o. IsDueAfter bytes text o in subst D undivided due

-- once its line has ended the record is due, from whatever state, and not before
one_due : (s : Supervision) → due_of s (codes "go\n") ≡ refused
unfolding due_of live_rules strip_bom event_of refused_text cause_text form_text
one_due s = refl

not_yet : (s : Supervision) → due_of s (codes "go") ≡ []
unfolding due_of live_rules
not_yet s = refl

-- the end of the input ends its line
one_whole : (s : Supervision) → whole_of s (codes "go") ≡ refused
unfolding whole_of live_rules strip_bom event_of refused_text cause_text form_text
one_whole s = refl

whole_line : (s : Supervision) → whole_of s (codes "go\n") ≡ refused
unfolding whole_of live_rules strip_bom event_of refused_text cause_text form_text
whole_line s = refl

abbrev begins_with_r : List ℕ → Bool
begins_with_r [] = false
begins_with_r (c ∷ cs) = c == 114

-- bytes that are divided, with the record after the dividing line
module _ (bytes : List ℕ) (data_end start : ℕ) (divided : divide bytes ≡ Some (data_end, start))
    (records : drop start bytes ≡ codes "go\n") where
  due_after : (text : List ℕ) → IsDueAfter bytes text (Some (data_end, start)) → text ≡ refused
  due_after text (inl none) = let other : codes "go\n" ≡ [] = sym records ∙ none.0 in absurd cc
  due_after text (inr (s, opens, is)) = is ∙ (ap (due_of s) records ∙ one_due s)

  -- THE TEXT DUE is the answer
  the_text_due : (text : List ℕ) → IsDue bytes text → text ≡ refused
  the_text_due text due =
      let D : Option (ℕ × ℕ) → Type 0 = λ o. IsDueAfter bytes text o in due_after text (subst D divided due)

  whole_after : (text : List ℕ) → IsWholeAfter bytes text (Some (data_end, start)) → text ≡ refused
  whole_after text (s, opens, is) = is ∙ (ap (whole_of s) records ∙ whole_line s)

  the_whole_text : (text : List ℕ) → IsWholeText bytes text → text ≡ refused
  the_whole_text text whole =
      let D : Option (ℕ × ℕ) → Type 0 = λ o. IsWholeAfter bytes text o in whole_after text (subst D divided whole)

  -- a history in which these bytes came
  module _ (now : History) (came_is : came now ≡ bytes) where
    answered_is : IsAnsweredLive [] now → sent now ≡ refused
    answered_is a =
        let D : List ℕ → Type 0 = λ bytes. IsDue bytes a.text in
        a.sent_is ∙ the_text_due a.text (subst D (sym a.came_is ∙ came_is) a.due)

    -- ---- PROMPT

    last_ask : IsPromptLive [] (Gave [] ∷ now) → IsAnsweredLive [] now
    last_ask p =
        let asks : p.asks ≡ now ∷ asked_at now = sym (append-nil p.asks) ∙ sym p.asks_are in
        let A : List History → Type 0 = λ asks. AllByRecursion (IsAnsweredLive []) asks in
        (subst A asks p.answered).0

    -- more is asked for after the answer alone
    asked_after_it : IsPromptLive [] (Gave [] ∷ now) → sent now ≡ refused
    asked_after_it p = answered_is (last_ask p)

    -- so an ask before it isn't prompt, nor one after another answer
    asked_before_it : sent now ≡ [] → IsPromptLive [] (Gave [] ∷ now) → ⊥
    asked_before_it nothing p = let told = sym nothing ∙ asked_after_it p in absurd cc

    asked_after_another : sent now ≡ codes "taken\n" → IsPromptLive [] (Gave [] ∷ now) → ⊥
    asked_after_another other p =
        absurd (false≢true (ap begins_with_r (sym other ∙ asked_after_it p)))

    -- nor is one while it is held back
    asked_while_held : is_given_on now ≡ false → IsPromptLive [] (Gave [] ∷ now) → ⊥
    asked_while_held held p = absurd (false≢true (sym held ∙ (last_ask p).given_on))

    -- ---- THE END

    -- of an input that came to its end the answer is with the peer
    at_the_end : IsLiveEnd [] Done now → sent now ≡ refused
    at_the_end e =
        let W : List ℕ → Type 0 = λ bytes. IsWholeText bytes e.text in
        e.sent_is ∙ the_whole_text e.text (subst W (sym e.came_is ∙ came_is) e.whole)

    not_held_at_the_end : is_given_on now ≡ false → IsLiveEnd [] Done now → ⊥
    not_held_at_the_end held e = absurd (false≢true (sym held ∙ e.given_on))

    -- so it is after a read fault
    at_a_read_fault : IsLiveEnd [] ReadFault now → sent now ≡ refused
    at_a_read_fault e = answered_is e

    not_held_at_a_read_fault : is_given_on now ≡ false → IsLiveEnd [] ReadFault now → ⊥
    not_held_at_a_read_fault held e = absurd (false≢true (sym held ∙ e.given_on))

    -- after a write fault a beginning of it is
    at_a_write_fault : IsLiveEnd [] WriteFault now → Begins (sent now) refused
    at_a_write_fault e =
        let W : List ℕ → Type 0 = λ bytes. IsWholeText bytes e.text in
        let whole = the_whole_text e.text (subst W (sym e.came_is ∙ came_is) e.whole) in
        (e.begins.0, sym whole ∙ e.begins.1)

    another_at_a_write_fault : sent now ≡ codes "taken\n" → IsLiveEnd [] WriteFault now → ⊥
    another_at_a_write_fault other e =
        let begins = at_a_write_fault e in
        let told : refused ≡ codes "taken\n" ++ begins.0 = begins.1 ∙ ap (λ text. text ++ begins.0) other in
        absurd (false≢true (sym (ap begins_with_r told)))

    -- after 65,536 asks it doesn't end as too long, nor after 2^64 - 2
    too_long_too_early : length bytes ≤ most_bytes → length (asked_at now) < 18_446_744_073_709_551_615 →
        IsLiveEnd [] TooLong now → ⊥
    too_long_too_early short asks (inl e) =
        let same : length bytes ≡ length e.bytes = ap length (sym came_is ∙ e.came_is) in
        let long = e.long in omega (arith, short, same, long)
    too_long_too_early short asks (inr e) =
        let many : 18_446_744_073_709_551_615 ≤ length (asked_at now) = e.asks in omega (arith, asks, many)

    after_65_536_asks : length bytes ≤ most_bytes → length (asked_at now) ≡ 65_536 → IsLiveEnd [] TooLong now → ⊥
    after_65_536_asks short asks = too_long_too_early short (omega (arith, asks))
