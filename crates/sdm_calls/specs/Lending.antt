-- A handle: its initial value, and its value once the session that it lends comes back (own).
use Rattle.std.specs.Prelude.{◌≡◌}
use Rattle.std.specs.Borrow.{Lends, MutBor, Fml}
use denote.RawPtr.{null_ptr}
use Rattle.sdm_calls.specs.declared.sessions.Session.{Session}
use Rattle.sdm_calls.specs.contracts.sessions.Session.{the_row as session_row}
use Rattle.sdm_calls.specs.declared.live_handles.Live.{Live}
use Rattle.sdm_calls.specs.contracts.live_handles.Live.{the_row}

-- all zero, as `SDM_INIT` (own)
pub record IsInit (h : Live) : Type 0 where
  pub at : h.at ≡ null_ptr
  pub is_open : h.is_open ≡ 0

-- the handle with another session (own)
abbrev pub with_state : Live → Session → Live
with_state h s = record h { state = s }

-- the handle ends with the state that the lent session has last (own)
abbrev pub LendsSession : MutBor Live → MutBor Session → Fml
LendsSession h r = Lends the_row session_row h r (with_state h.now)

-- there is a session
abbrev pub IsOpenLive : Live → Type 0
IsOpenLive h = h.is_open ≡ 1
