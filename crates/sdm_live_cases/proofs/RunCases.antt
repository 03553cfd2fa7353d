-- What a live run has of `run`: its rows are the text of `run` where that accepts the bytes, and what `run` promises of
-- rows holds of each of them.
use Rattle.std.proofs.Common.{◌≡◌, ◌∙◌, ◌==◌, sym, ap, subst, ℕ, Bool, List, [], ◌∷◌, inl, inr}
use Rattle.std.proofs.Common.{codes, drop, take, false, Option, Some, None}
use Rattle.std.proofs.lemmas.Bool.{false≢true}
use Rattle.sdm_rules.specs.Headline.{IsRecordSafe}
use Rattle.sdm_rules.specs.Records.{Turn}
use Rattle.sdm_rules.specs.Supervision.{Supervision}
use Rattle.sdm_row_laws.specs.OpenTurns.{AreTurnsPromised}
use Rattle.sdm_formats.specs.Flat.{Output}
use Rattle.sdm_formats.specs.Input as ends
use Rattle.sdm_data.specs.Division.{divide}
use Rattle.sdm_opening.specs.Openings.{IsOpeningOf}
use Rattle.sdm_run.specs.declared.words.Command.TheVariants.{Run}
use Rattle.sdm_run.specs.Commands.{IsOutputOf}
use Rattle.sdm_live.specs.ByLines.{lines_of}
use Rattle.sdm_live.specs.Exchanges.{History, came, sent}
use Rattle.sdm_live.specs.Taken.{Begins}
use Rattle.sdm_live_laws.specs.SameRows.{rows_in}
use Rattle.sdm_live_laws.specs.Turns.{answers_text, line_answers, live_turns}
use Rattle.sdm_live_run.specs.Rows.{AreLiveRowsSafe, IsPromisedAfter}
use Rattle.sdm_live_run.specs.SameRun.{IsRunLive}

-- ---- THE TEXT OF `run`

-- the text of `run` for these bytes
module _ (now : History) (bytes : List ℕ) (came_is : came now ≡ bytes) (output : Output)
    (is : IsOutputOf Run bytes output) (accepted : output.end ≡ ends.Done) where
  rows_are : IsRunLive [] now → rows_in (sent now) ≡ output.text
  rows_are r =
      let O : List ℕ → Type 0 = λ bytes. IsOutputOf Run bytes output in
      ap rows_in r.sent_is ∙ r.rows output (subst O (sym came_is ∙ r.came_is) is) accepted

  -- a row that was left out, one that was told twice, and one of another time
  left_out : sent now ≡ codes "taken\n" → output.text ≡ codes "0,T\n" → IsRunLive [] now → ⊥
  left_out told due r =
      let rows : [] ≡ codes "0,T\n" = ap rows_in (sym told) ∙ (rows_are r ∙ due) in absurd cc

  told_twice : sent now ≡ codes "0,T\n0,T\n" → output.text ≡ codes "0,T\n" → IsRunLive [] now → ⊥
  told_twice told due r =
      let rows : codes "0,T\n0,T\n" ≡ codes "0,T\n" = ap rows_in (sym told) ∙ (rows_are r ∙ due) in absurd cc

  of_another_time : sent now ≡ codes "taken\n5,T\n" → output.text ≡ codes "0,T\n" → IsRunLive [] now → ⊥
  of_another_time told due r =
      absurd (false≢true (ap begins_with_0 (ap rows_in (sym told) ∙ (rows_are r ∙ due))))
    where
      begins_with_0 : List ℕ → Bool
      begins_with_0 [] = false
      begins_with_0 (c ∷ cs) = c == 48

-- ---- ITS PROMISES

-- the data part opens a state, the text begins the answers from there, and the first turn keeps the promise of a row
record HasSafeFirst (data_part records text : List ℕ) : Type 0 where
  state : Supervision
  opens : IsOpeningOf data_part state
  begins : Begins text (answers_text (line_answers state (lines_of records)))
  first : (t : Turn) (more : List Turn) → live_turns state records ≡ t ∷ more → IsRecordSafe false false t.before t.event

module _ (bytes : List ℕ) (data_end start : ℕ) (divided : divide bytes ≡ Some (data_end, start)) where
  of_promised : (text told : List ℕ) → IsPromisedAfter bytes text (Some (data_end, start)) → Begins told text →
      HasSafeFirst (take data_end bytes) (drop start bytes) told
  of_promised text told (s, opens, promised) begins = record {
    state = s;
    opens = opens;
    begins = (begins.0, sym promised.answers ∙ begins.1);
    first = λ t more is.
        let P : List Turn → Type 0 = λ turns. AreTurnsPromised turns in
        (subst P is promised.turns).safe.0;
  }

  -- where a byte was handed over, what was handed over begins with promised rows
  first_safe : (now : History) (c : ℕ) (cs : List ℕ) → came now ≡ bytes → sent now ≡ c ∷ cs → AreLiveRowsSafe [] now →
      HasSafeFirst (take data_end bytes) (drop start bytes) (sent now)
  first_safe now c cs came_is some (inl nothing) = let told = sym some ∙ nothing in absurd cc
  first_safe now c cs came_is some (inr b) =
      let P : List ℕ → Type 0 = λ bytes. IsPromisedAfter bytes b.text (divide bytes) in
      let Q : Option (ℕ × ℕ) → Type 0 = λ o. IsPromisedAfter bytes b.text o in
      of_promised b.text (sent now) (subst Q divided (subst P (sym b.came_is ∙ came_is) b.promised)) b.begins

-- before the dividing line nothing is
nothing_handed : (bytes : List ℕ) (now : History) → divide bytes ≡ None → came now ≡ bytes → AreLiveRowsSafe [] now →
    sent now ≡ []
nothing_handed bytes now undivided came_is (inl nothing) = nothing
nothing_handed bytes now undivided came_is (inr b) =
    let P : List ℕ → Type 0 = λ bytes. IsPromisedAfter bytes b.text (divide bytes) in
    let Q : Option (ℕ × ℕ) → Type 0 = λ o. IsPromisedAfter bytes b.text o in
    absurd (subst Q undivided (subst P (sym b.came_is ∙ came_is) b.promised))
