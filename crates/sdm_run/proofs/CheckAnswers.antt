-- A yes among the answers of `check` is a yes to marks that hold, on slopes that are usable since they are accepted: so
-- every motion from its claim stops.
use Rattle.std.proofs.Common.{◌≡◌, ℕ, List, [], ◌∷◌, Option, Some, None, refl}
use Rattle.std.specs.Prelude.{Ok, Err}
use Rattle.sdm_rules.specs.Slopes.{IsUsable, SlopeMap, meaning_of}
use Rattle.sdm_laws.proofs.Marks.Stopping.{marks_stop}
use Rattle.sdm_curve.specs.Maps.{IsMapData, MapData}
use Rattle.sdm_formats.specs.Input.{End}
use Rattle.sdm_certify.specs.declared.answers.Answer.{Answer}
use Rattle.sdm_certify.specs.Checker.{AreAnswers, IsCheckedFrom, IsMadeOf, IsShown, IsStopOn}
use Rattle.sdm_certify.specs.Lines.{Certified, LinesLeft, Read, lines_in, map_in}
use Rattle.sdm_certify.proofs.DecidedSlopes.{made_usable}
use Rattle.sdm_certify.proofs.ReadSegments.{map_data_read}
use Rattle.sdm_run.specs.Checks.{AreAnswersSafe, AreCheckAnswersSafe, AreYesesSafe}

-- a map that is made is usable
abbrev IsUsableMap : Option SlopeMap → Type 0
IsUsableMap None = Unit {0}
IsUsableMap (Some m) = IsUsable (meaning_of m)

usable_map : (written : MapData) → IsMapData written → (made : Option SlopeMap) → IsMadeOf written made →
    IsUsableMap made
usable_map written well_formed None h = tt
usable_map written well_formed (Some m) h = made_usable written m well_formed h

-- what is shown stops, by the law of marks
shown_stops : (made : Option SlopeMap) → IsUsableMap made → (c : Certified) → IsShown made c → IsStopOn made c.claim
shown_stops None usable c shown = shown
shown_stops (Some m) usable c shown = marks_stop (meaning_of m) c.claim c.marks usable shown

yeses_safe : (made : Option SlopeMap) → IsUsableMap made → (at : LinesLeft) (answers : List Answer) (end : End) →
    AreAnswers made at answers end → AreYesesSafe made at answers
yeses_safe made usable at [] end h = tt
yeses_safe made usable at (a ∷ more) end (c, after, read, answer, rest) =
    (c, after, read, (λ yes. shown_stops made usable c (answer.yes.0 yes)), yeses_safe made usable after more end rest)

answers_safe : (at : LinesLeft) (r : Read MapData) (answers : List Answer) (end : End) → map_in at ≡ r →
    IsCheckedFrom r answers end → AreAnswersSafe r answers
answers_safe at (Err number) answers end is h = h.0
answers_safe at (Ok (written, left)) answers end is (made, is_made, answered) =
    let usable = usable_map written (map_data_read at left written is) made is_made in
    (made, is_made, yeses_safe made usable left answers end answered)

pub check_answers_safe : (bytes : List ℕ) → AreCheckAnswersSafe bytes
check_answers_safe bytes output check =
    answers_safe (lines_in bytes) (map_in (lines_in bytes)) check.answers output.end refl check.checked
