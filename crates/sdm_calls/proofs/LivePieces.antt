-- Records that come piece by piece: what was told before changes nothing but the text, so the pieces add up.
use Rattle.std.proofs.Common.{◌≡◌, ◌∙◌, ap, refl, sym, Bool, true, false, ℕ, List, [], ◌∷◌, ◌++◌, length, append_assoc}
use Rattle.std.proofs.Common.{append-nil, nat_lt}
use Rattle.sdm_live.specs.Lines.{Coming}
use Rattle.sdm_live.specs.Progress.{Progress, Rules, byte_of, end_of, ends_line, longest_line, more_of, start, with_byte}
use Rattle.sdm_live.specs.Progress.{with_bytes, with_end}
use Rattle.sdm_live.specs.Taken.{standing}
use Rattle.sdm_live_records.specs.Live.{LiveState, live_rules}
use Rattle.sdm_live_run.specs.Live.{begun, due_of, whole_of}
use Rattle.sdm_calls.specs.Begun.{IsBegunBy}
use Rattle.sdm_calls.specs.Sessions.{IsAnsweredSo, LawOfSessions}

module _ {S : Type 0} (rules : Rules S) where
  -- bytes, and then more
  append : (xs ys : List ℕ) (p : Progress S) → with_bytes rules p (xs ++ ys) ≡ with_bytes rules (with_bytes rules p xs) ys
  append [] ys p = refl
  append (x ∷ xs) ys p = append xs ys (with_byte rules p x)

  -- a text before
  abbrev after_text : List ℕ → Progress S → Progress S
  after_text t p = record p { text = t ++ p.text }

  end_after : (line : List ℕ) (p : Progress S) (t : List ℕ) →
      end_of rules line (after_text t p) ≡ after_text t (end_of rules line p)
  end_after [] p t = refl
  end_after (b ∷ bs) p t =
      let after = rules.next p.state (b ∷ bs) in
      ap (λ x. record { state = after; line = []; is_over = false; text = x }) (append_assoc t p.text (rules.told after))

  more_after : (over room : Bool) (p : Progress S) (b : ℕ) (t : List ℕ) →
      more_of rules over room (after_text t p) b ≡ after_text t (more_of rules over room p b)
  more_after true room p b t = refl
  more_after false true p b t = refl
  more_after false false p b t =
      ap (λ x. record { state = p.state; line = []; is_over = true; text = x }) (append_assoc t p.text rules.too_long)

  byte_after : (ends : Bool) (p : Progress S) (b : ℕ) (t : List ℕ) →
      byte_of rules ends (after_text t p) b ≡ after_text t (byte_of rules ends p b)
  byte_after true p b t = end_after p.line p t
  byte_after false p b t = more_after p.is_over (nat_lt (length p.line) longest_line) p b t

  bytes_after : (bytes : List ℕ) (p : Progress S) (t : List ℕ) →
      with_bytes rules (after_text t p) bytes ≡ after_text t (with_bytes rules p bytes)
  bytes_after [] p t = refl
  bytes_after (b ∷ bs) p t =
      ap (λ q. with_bytes rules q bs) (byte_after (ends_line b) p b t) ∙ bytes_after bs (with_byte rules p b) t

  -- one piece more
  fed_on : (state after : S) (line left : Coming) (text told more : List ℕ)
      → with_bytes rules (standing state line []) more ≡ standing after left told
      → with_bytes rules (standing state line text) more ≡ standing after left (text ++ told)
  fed_on state after line left text told more h =
      ap (λ t. with_bytes rules (standing state line t) more) (sym (append-nil text))
      ∙ bytes_after more (standing state line []) text
      ∙ ap (after_text text) h

  -- the end
  ended_on : (state after : S) (line left : Coming) (text told : List ℕ)
      → with_end rules (standing state line []) ≡ standing after left told
      → (with_end rules (standing state line text)).text ≡ text ++ told
  ended_on state after line left text told h =
      ap (λ t. (with_end rules (standing state line t)).text) (sym (append-nil text))
      ∙ ap (λ p. p.text) (end_after line.bytes (standing state line []) text)
      ∙ ap (λ p. text ++ p.text) h

begins : (given : List ℕ) (records : LiveState) (line : Coming) → IsBegunBy given records line →
    IsAnsweredSo records.supervision [] [] records line
begins given records line h = rw (h.nothing_came) (ap (λ t. start live_rules (record { supervision = records.supervision; text = t }) []) (sym h.nothing_told))

pub sessions : LawOfSessions
unfolding due_of whole_of
sessions = record {
  begins = begins;
  feeds = λ s bytes text more told records line after left so fed.
      append live_rules bytes more (start live_rules (begun s) [])
      ∙ ap (λ p. with_bytes live_rules p more) so
      ∙ fed_on live_rules records after line left text told more fed;
  due = λ s bytes text records line so. sym (ap (λ p. p.text) so);
  whole = λ s bytes text told records line after left so ended.
      sym (ap (λ p. (with_end live_rules p).text) so ∙ ended_on live_rules records after line left text told ended);
}
