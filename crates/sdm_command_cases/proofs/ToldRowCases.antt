-- What is said of the rows of `display` and `certify`: the record of each turn is safe, here of the first.
use Rattle.std.proofs.Common.{◌≡◌, ℕ, false, List, ◌∷◌, subst}
use Rattle.sdm_rules.specs.Headline.{AreTurnsSafe, IsRecordSafe}
use Rattle.sdm_rules.specs.Records.{Turn}
use Rattle.sdm_formats.specs.Flat.{Output}
use Rattle.sdm_formats.specs.Text.{display_tells, run_tells}
use Rattle.sdm_run.specs.declared.words.Command.TheVariants.{Certify, Display, Run}
use Rattle.sdm_run.specs.Commands.{AreRowsSafe}
use Rattle.sdm_run.specs.Journeys.{IsJourneyOutput}

first_of_run : (bytes : List ℕ) (output : Output) (told : IsJourneyOutput run_tells bytes output) (t : Turn)
    (ts : List Turn) → told.turns ≡ t ∷ ts → AreRowsSafe Run bytes → IsRecordSafe false false t.before t.event
first_of_run bytes output told t ts is h =
    (subst (λ (turns : List Turn). AreTurnsSafe false false turns) is (h output told).safe).0

first_of_display : (bytes : List ℕ) (output : Output) (told : IsJourneyOutput display_tells bytes output) (t : Turn)
    (ts : List Turn) → told.turns ≡ t ∷ ts → AreRowsSafe Display bytes → IsRecordSafe false false t.before t.event
first_of_display bytes output told t ts is h =
    (subst (λ (turns : List Turn). AreTurnsSafe false false turns) is (h output told).safe).0

-- `certify` is told of the rows that `run` has for its input
first_of_certify : (count : ℕ) (bytes : List ℕ) (output : Output) (told : IsJourneyOutput run_tells bytes output)
    (t : Turn) (ts : List Turn) → told.turns ≡ t ∷ ts → AreRowsSafe (Certify count) bytes →
    IsRecordSafe false false t.before t.event
first_of_certify count bytes output told t ts is h =
    (subst (λ (turns : List Turn). AreTurnsSafe false false turns) is (h output told).safe).0
