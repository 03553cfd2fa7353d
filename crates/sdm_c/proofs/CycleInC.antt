-- What the supervisor promises of a reading and its row holds of C's numbers for the reading, and of the row in C's
-- codes.
use Rattle.std.proofs.Common.{◌≡◌, Bool, true, false, refl, subst, sym, arith}
use Rattle.std.specs.Prelude.{IsTrue}
use Rattle.sdm_num.specs.Readings.{OdometerReading}
use Rattle.sdm_rules.specs.declared.rows.Row.{Row}
use Rattle.sdm_rules.specs.Supervision.{Supervision, row_of}
use Rattle.sdm_laws.specs.Falls.{MeetsFalls}
use Rattle.sdm_row_laws.specs.AllCommands.{KeepsAllOrder}
use Rattle.sdm_row_laws.specs.CoveredFalls.{MeetsEachFall}
use Rattle.sdm_row_laws.specs.ServiceStop.{CommandsNoBrake, StopsByItsEoa}
use Rattle.sdm_c.specs.declared.handle.Handle.{Handle}
use Rattle.sdm_c.specs.declared.structs.RowC.{RowC}
use Rattle.sdm_c.specs.Codes.{flag, row_in_c}

set_is : (b : Bool) → flag b ≡ 1 → b ≡ true
set_is true e = refl
set_is false e = absurd (omega arith)

clear_is : (b : Bool) → flag b ≡ 0 → b ≡ false
clear_is true e = absurd (omega arith)
clear_is false e = refl

module _ (s : Supervision) (r given : OdometerReading) (row : Row) (same : r ≡ given) where
  pub commands_in_c : row ≡ row_of s r → KeepsAllOrder s r row → KeepsAllOrder s given (row_of s given)
  commands_in_c is keeps =
      subst (λ (x : OdometerReading). KeepsAllOrder s x (row_of s x)) same (subst (KeepsAllOrder s r) is keeps)

  pub eoa_in_c : row ≡ row_of s r → (CommandsNoBrake r row → StopsByItsEoa s r) →
      CommandsNoBrake given (row_of s given) → StopsByItsEoa s given
  eoa_in_c is stops =
      subst (λ (x : OdometerReading). CommandsNoBrake x (row_of s x) → StopsByItsEoa s x) same
      (λ free. stops (subst (CommandsNoBrake r) (sym is) free))

  pub falls_in_c : (told : RowC) → told ≡ row_in_c row →
      (IsTrue row.covered → row.held.eb ≡ false → MeetsFalls s r) → told.covered ≡ 1 → told.eb ≡ 0 →
      MeetsFalls s given
  falls_in_c told is meets covered eb =
      let covered_is : flag row.covered ≡ 1 = subst (λ (x : RowC). x.covered ≡ 1) is covered in
      let eb_is : flag row.held.eb ≡ 0 = subst (λ (x : RowC). x.eb ≡ 0) is eb in
      subst (MeetsFalls s) same (meets (set_is row.covered covered_is) (clear_is row.held.eb eb_is))

  pub each_fall_in_c : (told : RowC) → told ≡ row_in_c row → (IsTrue row.covered → MeetsEachFall s r) →
      told.covered ≡ 1 → MeetsEachFall s given
  each_fall_in_c told is meets covered =
      let covered_is : flag row.covered ≡ 1 = subst (λ (x : RowC). x.covered ≡ 1) is covered in
      subst (MeetsEachFall s) same (meets (set_is row.covered covered_is))

-- the supervisor that is lent is in the state of the handle
pub lent_state : (h asked : Handle) (lent : Supervision) → asked ≡ h → lent ≡ asked.state → lent ≡ h.state
lent_state h asked lent same was = rw (was, same) refl
