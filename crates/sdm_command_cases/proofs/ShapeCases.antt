-- Which commands take all their memory before they write, which outcomes `check` may have, and when data that can't be
-- driven are told.
use Rattle.std.proofs.Common.{ℕ, refl, arith}
use Rattle.std.specs.Prelude.{IsTrue}
use Rattle.sdm_rules.specs.declared.faults.AuthorityFault.TheVariants.{SvlBeforeEoa}
use Rattle.sdm_rules.specs.declared.faults.EventCause.TheVariants.{Authority, Line}
use Rattle.sdm_rules.specs.declared.faults.OpenFault.TheVariants.{BadAuthority}
use Rattle.sdm_rules.specs.declared.faults.TrainFault.TheVariants.{BandCount}
use Rattle.sdm_formats.specs.declared.faults.DataFault.TheVariants as data_faults
use Rattle.sdm_formats.specs.declared.faults.DriveCause.TheVariants.{HasRelease, NoStop, ShortBuild}
use Rattle.sdm_report.specs.declared.outcome.InputFault.TheVariants.{Data, NoSplit, Toml}
use Rattle.sdm_report.specs.declared.outcome.Outcome.TheVariants.{Done, Usage, ReadFault, WriteFault, TooLong, BadData}
use Rattle.sdm_report.specs.declared.outcome.Outcome.TheVariants.{Refused, BadEvent, Memory, Undrivable}
use Rattle.sdm_run.specs.declared.words.Command.TheVariants.{Check, Drive, Flat, Trial, Upgrade}
use Rattle.sdm_run.specs.Answers.{ComesOfReadingAlone, NeedsTheWholeInput}
use Rattle.sdm_run.specs.Shapes.{IsOutcomeIn, shape_of}

-- five commands leave out as it is for want of memory
memory_first : (n : ℕ) → IsTrue (shape_of (Flat n n)).takes_memory_first × IsTrue (shape_of (Trial n n)).takes_memory_first
    × IsTrue (shape_of Upgrade).takes_memory_first × IsTrue (shape_of (Drive n n)).takes_memory_first
    × IsTrue (shape_of Check).takes_memory_first
memory_first n = (refl, refl, refl, refl, refl)

-- `check` reads its input, and refuses a line of it alone
outcomes_of_check : IsOutcomeIn (shape_of Check) Done × IsOutcomeIn (shape_of Check) ReadFault
    × IsOutcomeIn (shape_of Check) WriteFault × IsOutcomeIn (shape_of Check) TooLong
    × IsOutcomeIn (shape_of Check) (BadEvent 1 Line) × IsOutcomeIn (shape_of Check) Memory
outcomes_of_check = (tt, refl, tt, refl, (omega arith, refl), tt)

-- it tells no usage, no fault of data, of an opening or of another record, no data that can't be driven, and no line
-- before the first
not_of_check :
    (IsOutcomeIn (shape_of Check) Usage → ⊥) × (IsOutcomeIn (shape_of Check) (BadData NoSplit) → ⊥)
    × (IsOutcomeIn (shape_of Check) (BadData Toml) → ⊥)
    × (IsOutcomeIn (shape_of Check) (BadData (Data (data_faults.Train BandCount))) → ⊥)
    × (IsOutcomeIn (shape_of Check) (Refused (BadAuthority SvlBeforeEoa)) → ⊥)
    × (IsOutcomeIn (shape_of Check) (Undrivable NoStop) → ⊥)
    × (IsOutcomeIn (shape_of Check) (BadEvent 1 (Authority SvlBeforeEoa)) → ⊥)
    × (IsOutcomeIn (shape_of Check) (BadEvent 0 Line) → ⊥)
not_of_check = (
  (λ h. h),
  (λ h. cc),
  (λ h. cc),
  (λ h. let e = h.0 in cc),
  (λ h. let e = h.0 in cc),
  (λ h. cc),
  (λ h. let e = h.1 in cc),
  (λ h. let k = h.0 in omega (arith, k)),
)

-- data that can't be driven are told after the end of the input, and of its bytes
undrivable_after_the_whole_input :
    NeedsTheWholeInput (Undrivable NoStop) × NeedsTheWholeInput (Undrivable HasRelease)
    × NeedsTheWholeInput (Undrivable ShortBuild)
undrivable_after_the_whole_input = (tt, tt, tt)

undrivable_not_of_reading_alone : ComesOfReadingAlone (Undrivable NoStop) → ⊥
undrivable_not_of_reading_alone h = h
