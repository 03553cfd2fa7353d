-- What the top call says of outputs and rows it says of an output that there is.
use Rattle.std.proofs.Common.{ℕ, List}
use Rattle.sdm_row_laws.specs.OpenTurns.{AreTurnsPromised}
use Rattle.sdm_formats.specs.Flat.{Output}
use Rattle.sdm_formats.specs.Text.{run_tells}
use Rattle.sdm_run.specs.Commands.{HasSafeRows, IsOutputOf, OfOutput}
use Rattle.sdm_run.specs.Journeys.{IsJourneyOutput}
use Rattle.sdm_run.specs.declared.words.Command.{Command}
use Rattle.sdm_run.specs.declared.words.Command.TheVariants.{Certify, Run}

-- some output has what is said of it
some_output : (command : Command) (bytes : List ℕ) (P : Output → Type 0) → OfOutput command bytes P →
    (output : Output) × IsOutputOf command bytes output × P output
some_output command bytes P h = (h.one.output, h.one.is, h.holds h.one.output h.one.is)

-- turns that are those of an output of `run`, and keep what is promised of rows
record HasPromisedTurns (bytes : List ℕ) : Type 0 where
  output : Output
  is : IsJourneyOutput run_tells bytes output
  promised : AreTurnsPromised is.turns

turns_of_run : (bytes : List ℕ) → HasSafeRows Run bytes → HasPromisedTurns bytes
turns_of_run bytes h =
    record { output = h.one.output; is = h.one.is; promised = h.safe h.one.output h.one.is }

-- those that `certify` certifies
turns_of_certify : (count : ℕ) (bytes : List ℕ) → HasSafeRows (Certify count) bytes → HasPromisedTurns bytes
turns_of_certify count bytes h =
    record { output = h.one.output; is = h.one.is; promised = h.safe h.one.output h.one.is }
