-- The headline over every journey: the three machines stay in order, each covered row is safe, and each row keeps its
-- other promises (own).
use Rattle.std.specs.Prelude.{◌≡◌, Bool, false, IsTrue, ⊤, List, [], ◌∷◌}
use Rattle.sdm_num.specs.Readings.{OdometerReading}
use Rattle.sdm_rules.specs.declared.records.Event.{Event}
use Rattle.sdm_rules.specs.declared.records.Event.TheVariants as record_kinds
use Rattle.sdm_rules.specs.Supervision.{Supervision, row_of}
use Rattle.sdm_rules.specs.Machines.{InOrder, KeepsOrder, must_after, may_after, held_after}
use Rattle.sdm_rules.specs.Records.{Turn}
use Rattle.sdm_rules.specs.Release.{IsReleaseSpeed, calculated}
use Rattle.sdm_rules.specs.Stop.{IsSafe}
use Rattle.sdm_rules.specs.Promises.{BeginsReleaseMonitoring, HasOnlyGaps, IsWithinCeiling}

-- at a reading the commands of the three machines stay in order, and a covered row is safe
pub record IsSupervised (s : Supervision) (r : OdometerReading) : Type 0 where
  pub order : KeepsOrder s r (held_after s r)
  pub safe : IsTrue (row_of s r).covered → IsSafe s r

-- what is promised of the row of a reading before which the exact machine holds `must` and the early one `may`
pub record IsRowSafe (must may : Bool) (s : Supervision) (r : OdometerReading) : Type 0 where
  pub order : InOrder (must_after s r must) (row_of s r).held.eb (may_after s r may)
  pub stop : IsTrue (row_of s r).covered → IsSafe s r
  pub gaps : (row_of s r).held.eb ≡ false → HasOnlyGaps s r
  pub ceiling : (row_of s r).held.eb ≡ false → IsWithinCeiling r (row_of s r)
  pub release : BeginsReleaseMonitoring s r

-- the row of a reading is safe, and so is a calculated release speed; nothing is promised of other records
abbrev pub IsRecordSafe : Bool → Bool → Supervision → Event → Type 0
IsRecordSafe must may s (record_kinds.Read r) = IsRowSafe must may s r
IsRecordSafe must may s (record_kinds.Authority a) = ⊤
IsRecordSafe must may s (record_kinds.Calculated eoa svl trip) =
    IsReleaseSpeed s.train_and_track svl trip (calculated s.train_and_track svl trip)
IsRecordSafe must may s (record_kinds.Restrict r) = ⊤
IsRecordSafe must may s (record_kinds.Revoke id) = ⊤

-- what a machine holds after a record: only a reading changes it
abbrev pub over_record : (Supervision → OdometerReading → Bool → Bool) → Supervision → Event → Bool → Bool
over_record machine s (record_kinds.Read r) held = machine s r held
over_record machine s (record_kinds.Authority a) held = held
over_record machine s (record_kinds.Calculated eoa svl trip) held = held
over_record machine s (record_kinds.Restrict r) held = held
over_record machine s (record_kinds.Revoke id) held = held

-- THE HEADLINE: each turn is safe, one after the other, from what the exact and the early machine hold before the
-- first
abbrev pub AreTurnsSafe : Bool → Bool → List Turn → Type 0
AreTurnsSafe must may [] = ⊤
AreTurnsSafe must may (t ∷ ts) =
    IsRecordSafe must may t.before t.event
    × AreTurnsSafe (over_record must_after t.before t.event must) (over_record may_after t.before t.event may) ts
