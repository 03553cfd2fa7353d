-- What the laws of lists of calls say of two calls, one after the other.
use Rattle.std.proofs.Common.{◌≡◌, ℕ, List, [], ◌∷◌, ◌∙◌, refl, ap}
use Rattle.std.specs.Prelude.{Option, None, Result, map}
use Rattle.sdm_rules.specs.Records.{rows_of}
use Rattle.sdm_rules.specs.Supervision.{Supervision}
use Rattle.sdm_row_laws.specs.OpenTurns.{AreTurnsPromised}
use Rattle.sdm_opening.specs.Openings.{IsOpeningOf}
use Rattle.sdm_c.specs.declared.call_lists.Call.TheVariants as calls
use Rattle.sdm_c.specs.declared.call_lists.Written.{Written}
use Rattle.sdm_c.specs.declared.handle.Handle.{Handle}
use Rattle.sdm_c.specs.Codes.{row_in_c}
use Rattle.sdm_c.specs.CallLists.{Answer, AreMade, Asked, LawOfCalls, Made, answers_of, supervisor_in}
use Rattle.sdm_c.specs.CallRows.{LawOfCallRows, journey_of}
use Rattle.sdm_c.specs.Statuses.{IsOpen}

-- the status of the second answer
abbrev second : List Answer → ℕ
second [] = 0
second (a ∷ []) = 0
second (a ∷ b ∷ more) = b.status

module _ (h : Handle) (w : Written) (opening : Result Supervision ℕ) (one other : ℕ) (h' h'' : Handle) (w' w'' : Written)
  where
    abbrev asks : Asked
    asks = record { call = calls.Revoke 7; opening = opening; before = None }

    -- revoking a restriction, twice
    abbrev first_call : Made
    first_call = record { asked = asks; status = one; handle = h'; written = w' }

    abbrev second_call : Made
    second_call = record { asked = asks; status = other; handle = h''; written = w'' }

    -- by the law of calls the second one finds a handle without a supervisor, where the first one did
    closed_by_law : LawOfCalls → supervisor_in h ≡ None → AreMade h w (first_call ∷ second_call ∷ []) → other ≡ 1
    closed_by_law law none made =
        ap second (law h w (first_call ∷ second_call ∷ []) made)
        ∙ ap (λ (s : Option Supervision). second (answers_of s w (asks ∷ asks ∷ []))) none

    -- by the law of rows their records are those of a journey in which none is refused, which has no row, as they write none,
    -- and whose turns promise what those of `run` do
    accepted_by_law : LawOfCallRows → (given : List ℕ) → IsOpen h → IsOpeningOf given h.state →
        AreMade h w (first_call ∷ second_call ∷ []) →
        (journey_of h.state (calls.Revoke 7 ∷ calls.Revoke 7 ∷ [])).refused ≡ None
    accepted_by_law law given is_open opens made =
        (law given h w (first_call ∷ second_call ∷ []) is_open opens made refl).accepted

    promised_by_law : LawOfCallRows → (given : List ℕ) → IsOpen h → IsOpeningOf given h.state →
        AreMade h w (first_call ∷ second_call ∷ []) →
        AreTurnsPromised (journey_of h.state (calls.Revoke 7 ∷ calls.Revoke 7 ∷ [])).turns
    promised_by_law law given is_open opens made =
        (law given h w (first_call ∷ second_call ∷ []) is_open opens made refl).promised

    rowless_by_law : LawOfCallRows → (given : List ℕ) → IsOpen h → IsOpeningOf given h.state →
        AreMade h w (first_call ∷ second_call ∷ []) →
        [] ≡ map row_in_c (rows_of (journey_of h.state (calls.Revoke 7 ∷ calls.Revoke 7 ∷ [])).turns)
    rowless_by_law law given is_open opens made =
        (law given h w (first_call ∷ second_call ∷ []) is_open opens made refl).rows
