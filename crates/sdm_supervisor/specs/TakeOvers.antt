-- When a supervisor may take over from another (own).
use Rattle.std.specs.Prelude.{Bool, not, ◌&&◌, ◌==◌, is_some}
use Rattle.std.specs.FinMap as finite
use Rattle.sdm_rules.specs.Supervision.{Supervision}

-- no restriction is in force and no reading was taken: the state is as after the opening, but for the authority (own)
abbrev pub is_fresh : Supervision → Bool
is_fresh s = (finite.len s.restrictions == 0) && not (is_some s.last_time)
