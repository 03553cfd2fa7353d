-- Each command has one output for all bytes: those of `flat`, `trial` and `upgrade` by their definitions, those of
-- `run`, `display`, `why` and `certify` since an input has one run, that of `drive` since an opening is decided in one way,
-- that of `check` since so is each claim.
use Rattle.std.proofs.Common.{ℕ, List, refl}
use Rattle.sdm_formats.specs.Flat.{flat_output}
use Rattle.sdm_formats.specs.Trial.{trial_output}
use Rattle.sdm_run.specs.declared.words.Command.{Command}
use Rattle.sdm_run.specs.declared.words.Command.TheVariants.{Flat, Run, Display, Trial, Upgrade, Drive, Certify}
use Rattle.sdm_run.specs.declared.words.Command.TheVariants.{Check, Why}
use Rattle.sdm_run.specs.Commands.{HasOneOutput, within_limit}
use Rattle.sdm_run.specs.declared.tellers.Teller.TheVariants.{Rows, Displays, Causes, Certificates}
use Rattle.sdm_run.specs.Upgrades.{upgrade_output}
use Rattle.sdm_run.proofs.CheckOutputs.{one_check}
use Rattle.sdm_run.proofs.DriveTexts.{one_drive}
use Rattle.sdm_run.proofs.RunAnswers.{one_told}

pub one_output : (command : Command) (bytes : List ℕ) → HasOneOutput command bytes
one_output (Flat decel end) bytes = record {
  output = within_limit bytes (flat_output decel end bytes);
  is = refl;
  only = λ other is. is;
}
one_output Run bytes = let one = one_told Rows bytes in record { output = one.0; is = one.1.0; only = one.1.1 }
one_output Display bytes = let one = one_told Displays bytes in record { output = one.0; is = one.1.0; only = one.1.1 }
one_output Why bytes = let one = one_told Causes bytes in record { output = one.0; is = one.1.0; only = one.1.1 }
one_output (Trial seed cycles) bytes = record { output = trial_output seed cycles; is = refl; only = λ other is. is }
one_output Upgrade bytes = record {
  output = within_limit bytes (upgrade_output bytes);
  is = refl;
  only = λ other is. is;
}
one_output (Drive seed cycles) bytes =
    let one = one_drive seed cycles bytes in record { output = one.0; is = one.1.0; only = one.1.1 }
one_output (Certify count) bytes =
    let one = one_told (Certificates count) bytes in record { output = one.0; is = one.1.0; only = one.1.1 }
one_output Check bytes = let one = one_check bytes in record { output = one.0; is = one.1.0; only = one.1.1 }
