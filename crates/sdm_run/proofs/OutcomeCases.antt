-- Which outcomes each command may have, and when each comes.
use Rattle.std.proofs.Common.{refl, arith}
use Rattle.sdm_rules.specs.declared.faults.AuthorityFault.TheVariants.{SvlBeforeEoa}
use Rattle.sdm_rules.specs.declared.faults.EventCause.TheVariants.{Authority, Line}
use Rattle.sdm_rules.specs.declared.faults.OpenFault.TheVariants as open_faults
use Rattle.sdm_rules.specs.declared.faults.OpenFault.TheVariants.{BadAuthority}
use Rattle.sdm_rules.specs.declared.faults.TrainFault.TheVariants.{BandCount}
use Rattle.sdm_formats.specs.declared.faults.DataFault.TheVariants as data_faults
use Rattle.sdm_formats.specs.declared.faults.DriveCause.TheVariants.{NoStop}
use Rattle.sdm_report.specs.declared.outcome.InputFault.TheVariants.{Data, NoSplit, Toml}
use Rattle.sdm_report.specs.declared.outcome.Outcome.TheVariants.{Done, Usage, ReadFault, WriteFault, TooLong, BadData}
use Rattle.sdm_report.specs.declared.outcome.Outcome.TheVariants.{Refused, BadEvent, Memory, Undrivable}
use Rattle.sdm_run.specs.Answers.{ComesOfReadingAlone, LeavesOutUntouched, NeedsTheWholeInput}
use Rattle.sdm_run.specs.Shapes.{IsOutcomeIn, drive_shape, flat_shape, run_shape, trial_shape, upgrade_shape}

-- ---- when an outcome comes

-- words, reading, data and an opening are answered before any row
before_any_row : LeavesOutUntouched Usage × LeavesOutUntouched ReadFault × LeavesOutUntouched TooLong
    × LeavesOutUntouched (BadData NoSplit) × LeavesOutUntouched (Undrivable NoStop)
    × LeavesOutUntouched (Refused (BadAuthority SvlBeforeEoa))
before_any_row = (tt, tt, tt, tt, tt, tt)

-- the end, a write fault, a record and want of memory aren't
not_before_rows : (LeavesOutUntouched Done → ⊥) × (LeavesOutUntouched WriteFault → ⊥)
    × (LeavesOutUntouched (BadEvent 3 Line) → ⊥) × (LeavesOutUntouched Memory → ⊥)
not_before_rows = ((λ h. h), (λ h. h), (λ h. h), (λ h. h))

-- words and reading are answered before the bytes are
before_the_bytes_are_answered : ComesOfReadingAlone Usage × ComesOfReadingAlone ReadFault × ComesOfReadingAlone TooLong
before_the_bytes_are_answered = (tt, tt, tt)

-- nothing else is
not_of_reading_alone :
    (ComesOfReadingAlone Done → ⊥) × (ComesOfReadingAlone WriteFault → ⊥) × (ComesOfReadingAlone (BadData NoSplit) → ⊥)
    × (ComesOfReadingAlone (Refused (BadAuthority SvlBeforeEoa)) → ⊥) × (ComesOfReadingAlone (BadEvent 3 Line) → ⊥)
    × (ComesOfReadingAlone Memory → ⊥)
not_of_reading_alone = ((λ h. h), (λ h. h), (λ h. h), (λ h. h), (λ h. h), (λ h. h))

-- what answers the bytes needs them all
after_the_whole_input :
    NeedsTheWholeInput Done × NeedsTheWholeInput WriteFault × NeedsTheWholeInput (BadData NoSplit)
    × NeedsTheWholeInput (Refused (BadAuthority SvlBeforeEoa)) × NeedsTheWholeInput (BadEvent 3 Line)
after_the_whole_input = (tt, tt, tt, tt, tt)

-- words, reading and want of memory don't
not_after_the_whole_input :
    (NeedsTheWholeInput Usage → ⊥) × (NeedsTheWholeInput ReadFault → ⊥) × (NeedsTheWholeInput TooLong → ⊥)
    × (NeedsTheWholeInput Memory → ⊥)
not_after_the_whole_input = ((λ h. h), (λ h. h), (λ h. h), (λ h. h))

-- ---- which outcomes a command may have

-- `flat` reads its input, and refuses a line of it alone
outcomes_of_flat : IsOutcomeIn flat_shape Done × IsOutcomeIn flat_shape ReadFault × IsOutcomeIn flat_shape WriteFault
    × IsOutcomeIn flat_shape TooLong × IsOutcomeIn flat_shape (BadEvent 1 Line) × IsOutcomeIn flat_shape Memory
outcomes_of_flat = (tt, refl, tt, refl, (omega arith, refl), tt)

-- it tells no usage, no fault of data, of an opening or of another record, and no line before the first
not_of_flat :
    (IsOutcomeIn flat_shape Usage → ⊥) × (IsOutcomeIn flat_shape (BadData NoSplit) → ⊥)
    × (IsOutcomeIn flat_shape (BadData Toml) → ⊥)
    × (IsOutcomeIn flat_shape (BadData (Data (data_faults.Train BandCount))) → ⊥)
    × (IsOutcomeIn flat_shape (Refused (BadAuthority SvlBeforeEoa)) → ⊥)
    × (IsOutcomeIn flat_shape (BadEvent 1 (Authority SvlBeforeEoa)) → ⊥)
    × (IsOutcomeIn flat_shape (BadEvent 0 Line) → ⊥)
not_of_flat = (
  (λ h. h),
  (λ h. cc),
  (λ h. cc),
  (λ h. let e = h.0 in cc),
  (λ h. let e = h.0 in cc),
  (λ h. let e = h.1 in cc),
  (λ h. let k = h.0 in omega (arith, k)),
)

-- `run` refuses data, an opening and a record, and none of them for want of memory
outcomes_of_run :
    IsOutcomeIn run_shape Done × IsOutcomeIn run_shape ReadFault × IsOutcomeIn run_shape WriteFault
    × IsOutcomeIn run_shape TooLong × IsOutcomeIn run_shape (BadData NoSplit)
    × IsOutcomeIn run_shape (BadData Toml)
    × IsOutcomeIn run_shape (BadData (Data (data_faults.Train BandCount)))
    × IsOutcomeIn run_shape (Refused (BadAuthority SvlBeforeEoa))
    × IsOutcomeIn run_shape (BadEvent 1 (Authority SvlBeforeEoa)) × IsOutcomeIn run_shape Memory
outcomes_of_run = (tt, refl, tt, refl, refl, refl, (refl, λ e. cc), (refl, λ e. cc), (omega arith, refl), tt)

-- so it tells no usage, no want of memory in data or an opening, no line, and no record before the first
not_of_run :
    (IsOutcomeIn run_shape Usage → ⊥) × (IsOutcomeIn run_shape (BadData (Data data_faults.Memory)) → ⊥)
    × (IsOutcomeIn run_shape (Refused open_faults.Memory) → ⊥)
    × (IsOutcomeIn run_shape (BadEvent 1 Line) → ⊥) × (IsOutcomeIn run_shape (BadEvent 0 (Authority SvlBeforeEoa)) → ⊥)
not_of_run = (
  (λ h. h),
  (λ h. h.1 refl),
  (λ h. h.1 refl),
  (λ h. let e = h.1 in cc),
  (λ h. let k = h.0 in omega (arith, k)),
)

-- `trial` reads nothing and refuses nothing
outcomes_of_trial : IsOutcomeIn trial_shape Done × IsOutcomeIn trial_shape WriteFault × IsOutcomeIn trial_shape Memory
outcomes_of_trial = (tt, tt, tt)

-- so it has no outcome of reading or refusing
not_of_trial :
    (IsOutcomeIn trial_shape Usage → ⊥) × (IsOutcomeIn trial_shape ReadFault → ⊥)
    × (IsOutcomeIn trial_shape TooLong → ⊥) × (IsOutcomeIn trial_shape (BadData NoSplit) → ⊥)
    × (IsOutcomeIn trial_shape (Refused (BadAuthority SvlBeforeEoa)) → ⊥)
    × (IsOutcomeIn trial_shape (BadEvent 1 Line) → ⊥)
not_of_trial = (
  (λ h. h),
  (λ h. cc),
  (λ h. cc),
  (λ h. cc),
  (λ h. let e = h.0 in cc),
  (λ h. let e = h.1 in cc),
)

-- `drive` reads its input, and refuses data, also such that can't be driven, and an opening
outcomes_of_drive : IsOutcomeIn drive_shape Done × IsOutcomeIn drive_shape ReadFault
    × IsOutcomeIn drive_shape WriteFault × IsOutcomeIn drive_shape TooLong × IsOutcomeIn drive_shape (BadData Toml)
    × IsOutcomeIn drive_shape (BadData (Data (data_faults.Train BandCount)))
    × IsOutcomeIn drive_shape (Undrivable NoStop) × IsOutcomeIn drive_shape (Refused (BadAuthority SvlBeforeEoa))
    × IsOutcomeIn drive_shape Memory
outcomes_of_drive = (tt, refl, tt, refl, refl, (refl, λ e. cc), refl, (refl, λ e. cc), tt)

-- its input has no dividing line and no record
not_of_drive :
    (IsOutcomeIn drive_shape Usage → ⊥) × (IsOutcomeIn drive_shape (BadData NoSplit) → ⊥)
    × (IsOutcomeIn drive_shape (BadEvent 1 Line) → ⊥)
    × (IsOutcomeIn drive_shape (BadEvent 1 (Authority SvlBeforeEoa)) → ⊥)
not_of_drive = ((λ h. h), (λ h. cc), (λ h. let e = h.1 in cc), (λ h. let e = h.1 in cc))

-- no other command tells that data can't be driven
driven_by_drive_alone :
    (IsOutcomeIn flat_shape (Undrivable NoStop) → ⊥) × (IsOutcomeIn run_shape (Undrivable NoStop) → ⊥)
    × (IsOutcomeIn trial_shape (Undrivable NoStop) → ⊥) × (IsOutcomeIn upgrade_shape (Undrivable NoStop) → ⊥)
driven_by_drive_alone = ((λ h. cc), (λ h. cc), (λ h. cc), (λ h. cc))
