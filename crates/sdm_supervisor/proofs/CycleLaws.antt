-- What a cycle promises of its row is what the laws say of the row of the definitions.
use Rattle.std.proofs.Common.{◌≡◌, false, subst, sym}
use Rattle.std.specs.Prelude.{IsTrue}
use Rattle.sdm_num.specs.Readings.{OdometerReading}
use Rattle.sdm_rules.specs.declared.rows.Row.{Row}
use Rattle.sdm_rules.specs.Machines.{KeepsOrder}
use Rattle.sdm_rules.specs.Opening.{IsOpen}
use Rattle.sdm_rules.specs.Stop.{IsSafe}
use Rattle.sdm_rules.specs.Promises.{BeginsReleaseMonitoring, HasOnlyGaps, IsWithinCeiling}
use Rattle.sdm_rules.specs.Supervision.{Supervision, row_in, row_of}
use Rattle.sdm_laws.proofs.Rows.Headline.{machines, stop, release}
use Rattle.sdm_laws.proofs.Rows.Gaps.{gaps}
use Rattle.sdm_laws.proofs.Rows.Ceiling.{within_ceiling}
use Rattle.sdm_laws.specs.Falls.{MeetsFalls}
use Rattle.sdm_laws.proofs.Rows.Falls.{falls}
use Rattle.sdm_row_laws.specs.AllCommands.{KeepsAllOrder}
use Rattle.sdm_row_laws.specs.CoveredFalls.{MeetsEachFall}
use Rattle.sdm_row_laws.specs.ServiceStop.{CommandsNoBrake, StopsByItsEoa}
use Rattle.sdm_row_laws.proofs.AllOrder.{all_commands}
use Rattle.sdm_row_laws.proofs.CoveredFalls.{covered_falls}
use Rattle.sdm_row_laws.proofs.Service.{service_rows}
use Rattle.sdm_braking.specs.Braking.{IsSupervisable}

-- a state whose train and track are accepted is open
pub is_open : (s : Supervision) → IsSupervisable s.train_and_track → IsOpen s
is_open s accepted = record { bands = accepted.train.bands; usable = accepted.usable }

module _ (s : Supervision) (r : OdometerReading) where
  module _ (row : Row) (is : row ≡ row_of s r) where
    -- the order of the three commands
    pub order_of : IsOpen s → KeepsOrder s r row.held.eb
    unfolding row_in
    order_of opened = subst (λ (x : Row). KeepsOrder s r x.held.eb) (sym is) (machines s r opened)

    -- from a covered row a stop
    pub safe_of : IsOpen s → IsTrue row.covered → IsSafe s r
    safe_of opened covered = stop s r opened (subst (λ (x : Row). IsTrue x.covered) is covered)

    -- only gaps keep a row from being covered
    pub gaps_of : row.held.eb ≡ false → HasOnlyGaps s r
    gaps_of eb = gaps s r (subst (λ (x : Row). x.held.eb ≡ false) is eb)

    -- the order of all commands
    pub commands_of : IsOpen s → KeepsAllOrder s r row
    commands_of opened = subst (KeepsAllOrder s r) (sym is) (all_commands s r opened)

    -- the EOA from a row that commands no brake
    pub eoa_of : IsOpen s → CommandsNoBrake r row → StopsByItsEoa s r
    eoa_of opened free = service_rows s r opened (subst (CommandsNoBrake r) is free)

    -- each fall from a covered row without an emergency command
    pub falls_of : IsOpen s → IsTrue row.covered → row.held.eb ≡ false → MeetsFalls s r
    falls_of opened covered eb = falls s r opened (subst (λ (x : Row). IsTrue x.covered) is covered)
        (subst (λ (x : Row). x.held.eb ≡ false) is eb)

    -- and from any covered row
    pub each_fall_of : IsOpen s → IsTrue row.covered → MeetsEachFall s r
    each_fall_of opened covered =
        covered_falls s r opened (subst (λ (x : Row). IsTrue x.covered) is covered)

    -- the speed is within the ceiling
    pub ceiling_of : row.held.eb ≡ false → IsWithinCeiling r row
    ceiling_of eb = subst (λ (x : Row). IsWithinCeiling r x) (sym is)
        (within_ceiling s r (subst (λ (x : Row). x.held.eb ≡ false) is eb))

  -- where release speed monitoring begins
  pub release_of : IsOpen s → BeginsReleaseMonitoring s r
  release_of opened = release s r opened
