-- The command `drive`: the summary that it defines for a data part, and what its rows promise (own).
use Rattle.std.specs.Prelude.{◌≡◌, ◌≢◌, ◌⊎◌, ◌<◌, ℕ, List, [], Option, Some, None, Result, Ok, Err, MatchBool, nat_lt}
use Rattle.std.specs.Prelude.{length, unsigned_abs}
use Rattle.toml.specs.Data.{Members}
use Rattle.sdm_rules.specs.declared.authorities.Authority.{Authority}
use Rattle.sdm_rules.specs.declared.authorities.Authority.TheVariants.{Stop, Limit}
use Rattle.sdm_rules.specs.declared.faults.OpenFault.{OpenFault}
use Rattle.sdm_rules.specs.declared.faults.OpenFault.TheVariants as open_faults
use Rattle.sdm_rules.specs.Data.{TrainAndTrack}
use Rattle.sdm_rules.specs.Opening.{IsAccepted, IsOpenFault}
use Rattle.sdm_formats.specs.declared.faults.DataFault.{DataFault}
use Rattle.sdm_formats.specs.declared.faults.DriveCause.{DriveCause}
use Rattle.sdm_formats.specs.declared.faults.DriveCause.TheVariants.{NoStop, HasRelease, ShortBuild}
use Rattle.sdm_formats.specs.Flat.{Output}
use Rattle.sdm_formats.specs.Input as ends
use Rattle.sdm_formats.specs.Input.{most_bytes}
use Rattle.sdm_data.specs.Document.{document_of}
use Rattle.sdm_data.specs.Journey.{data_of}
use Rattle.sdm_drive.specs.Drive.{Drive, drive_output, drive_rows, drive_start, step_time}
use Rattle.sdm_drive.specs.DriveJourneys.{AreStepsPromised}
use Rattle.sdm_drive.specs.DriveLaws.{AreBySvl}
use Rattle.sdm_drive.specs.Faults.{HasBuildUp, IsPlainStop}
use Rattle.sdm_drive.specs.Summaries.{Counts, counts_of}
use Rattle.sdm_report.specs.declared.outcome.Outcome.{Outcome}
use Rattle.sdm_report.specs.declared.outcome.Outcome.TheVariants.{Refused, Undrivable}
use Rattle.sdm_opening.specs.Openings.{IsDataOf}
use Rattle.sdm_run.specs.RunParts.{IsRefusedByData}

-- no text, and an end
abbrev pub no_text : ends.End → Output
no_text end = record { text = []; end = end }

-- of a stop without a release speed: the summary of the drive where the opening accepts it, else no text and the first
-- fault of the opening
abbrev pub IsOpenedDrive : ℕ → ℕ → TrainAndTrack → ℕ → ℕ → Output → Type 0
IsOpenedDrive seed cycles d eoa svl output =
    (IsAccepted d (Stop eoa svl 0) × (output ≡ record { text = drive_output d eoa svl seed cycles; end = ends.Done }))
    ⊎ ((fault : OpenFault) × IsOpenFault d (Stop eoa svl 0) fault × (output ≡ no_text (ends.Refused fault)))

-- of data: no text where they can't be driven, by the first cause, else that of the drive
abbrev pub IsDriveOver : ℕ → ℕ → TrainAndTrack → Authority → Output → Type 0
IsDriveOver seed cycles d (Limit loa speed) output = output ≡ no_text (ends.Undrivable NoStop)
IsDriveOver seed cycles d (Stop eoa svl release) output =
    MatchBool (nat_lt 0 release) (output ≡ no_text (ends.Undrivable HasRelease))
    (MatchBool (nat_lt (unsigned_abs d.train.emergency_time) step_time) (output ≡ no_text (ends.Undrivable ShortBuild))
    (IsOpenedDrive seed cycles d eoa svl output))

-- of what a document was read as: that of its data, or the first rule that is broken
abbrev pub IsDriveOfData : ℕ → ℕ → Result (TrainAndTrack × Authority) DataFault → Output → Type 0
IsDriveOfData seed cycles (Ok read) output = IsDriveOver seed cycles read.0 read.1 output
IsDriveOfData seed cycles (Err fault) output = output ≡ no_text (ends.Data fault)

-- of the document of a data part, if there is one
abbrev pub IsDriveOfDocument : ℕ → ℕ → Option Members → Output → Type 0
IsDriveOfDocument seed cycles (Some members) output = IsDriveOfData seed cycles (data_of members) output
IsDriveOfDocument seed cycles None output = output ≡ no_text ends.Toml

-- what `drive` defines for the bytes of an input, all of which are the data part: no line of them divides
abbrev pub IsDriveOutput : ℕ → ℕ → List ℕ → Output → Type 0
IsDriveOutput seed cycles bytes output =
    MatchBool (nat_lt most_bytes (length bytes)) (output ≡ no_text ends.TooLong)
    (IsDriveOfDocument seed cycles (document_of bytes) output)

-- what is promised of so many steps of a drive towards an SvL, in cm: no row has its front end past the SvL, and how far
-- this was at least ahead, the last number of the summary, is not negative; and what the steps of a drive promise
pub record IsDriveSafe (svl cycles : ℕ) (start : Drive) : Type 0 where
  pub by_svl : AreBySvl svl (drive_rows cycles start)
  pub steps : AreStepsPromised cycles start

-- whichever data the bytes hold that can be driven, this holds for the drive over them
abbrev pub AreDriveRowsSafe : ℕ → ℕ → List ℕ → Type 0
AreDriveRowsSafe seed cycles bytes =
    (d : TrainAndTrack) (eoa svl : ℕ) → IsDataOf bytes d (Stop eoa svl 0) → IsAccepted d (Stop eoa svl 0) →
    HasBuildUp d → IsDriveSafe svl cycles (drive_start d (Stop eoa svl 0) seed)

-- ---- the parts of the command

-- the counts are those of the drive over the data of the bytes
pub record IsSummaryOf (seed cycles : ℕ) (bytes : List ℕ) (counts : Counts) : Type 0 where
  pub train_and_track : TrainAndTrack
  pub eoa : ℕ
  pub svl : ℕ
  pub given : IsDataOf bytes train_and_track (Stop eoa svl 0)
  pub accepted : IsAccepted train_and_track (Stop eoa svl 0)
  pub build_up : HasBuildUp train_and_track
  pub counts_are :
      counts ≡ counts_of svl (drive_rows cycles (drive_start train_and_track (Stop eoa svl 0) seed))

-- the cause for which no train is driven over data
abbrev pub IsDriveCause : TrainAndTrack → Authority → DriveCause → Type 0
IsDriveCause d a NoStop = (loa : ℕ) × (speed : ℕ) × (a ≡ Limit loa speed)
IsDriveCause d a HasRelease = (eoa : ℕ) × (svl : ℕ) × (release : ℕ) × (a ≡ Stop eoa svl release) × (0 < release)
IsDriveCause d a ShortBuild = IsPlainStop a × (unsigned_abs d.train.emergency_time < step_time)

-- the outcome of a data part over which no train is driven: it holds no data, the cause for which they can't be driven,
-- or the first fault of the opening
abbrev pub IsUndrivenBy : List ℕ → Outcome → Type 0
IsUndrivenBy bytes (Undrivable cause) =
    (d : TrainAndTrack) × (a : Authority) × IsDataOf bytes d a × IsDriveCause d a cause
IsUndrivenBy bytes (Refused fault) =
    (fault ≢ open_faults.Memory) × (d : TrainAndTrack) × (eoa : ℕ) × (svl : ℕ) × IsDataOf bytes d (Stop eoa svl 0)
    × HasBuildUp d × IsOpenFault d (Stop eoa svl 0) fault
IsUndrivenBy bytes outcome = IsRefusedByData bytes outcome
