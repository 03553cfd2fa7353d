-- A handle: its initial value, and its value once the supervisor that it lends comes back (own).
use Rattle.std.specs.Prelude.{◌≡◌}
use Rattle.std.specs.Borrow.{Lends, MutBor, Fml}
use denote.RawPtr.{null_ptr}
use Rattle.sdm_rules.specs.Supervision.{Supervision}
use Rattle.sdm_supervisor.specs.contracts.supervisors.Supervisor.{the_row as supervisor_row}
use Rattle.sdm_c.specs.declared.handle.Handle.{Handle}
use Rattle.sdm_c.specs.contracts.handle.Handle.{the_row}

-- all zero, as `SDM_INIT` (own)
pub record IsInit (h : Handle) : Type 0 where
  pub at : h.at ≡ null_ptr
  pub is_open : h.is_open ≡ 0

-- the handle with another supervision state (own)
abbrev pub with_state : Handle → Supervision → Handle
with_state h s = record h { state = s }

-- the handle ends with the state that the lent supervisor has last (own)
abbrev pub LendsSupervisor : MutBor Handle → MutBor Supervision → Fml
LendsSupervisor h r = Lends the_row supervisor_row h r (with_state h.now)
