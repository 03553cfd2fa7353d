-- What a handle owns: where it is open, what a box of a session owns (own).
use Rattle.std.specs.Prelude.{ℕ, Bool, true, false, ◌==◌}
use base.Fml.{Fml, ftrue}
use base.Stored.{Coded}
use denote.RawPtr.{Ptr}
use Rattle.std.specs.Box.Ownership.{box_owns}
use Rattle.sdm_calls.specs.contracts.sessions.Session.{the_row}
use Rattle.sdm_calls.specs.Heap.{free_right}

-- how a session is stored (own)
abbrev pub state_coded : Coded the_row.Denot
state_coded = the_row.coded

-- the session and the right to free its block (own)
abbrev pub owned : Ptr → the_row.Denot → Fml
owned = box_owns free_right the_row

-- so where the handle is open (own)
abbrev pub owned_if : Bool → Ptr → the_row.Denot → Fml
owned_if true at state = owned at state
owned_if false at state = ftrue

-- a handle is open where its word is 1, and owns nothing at any other word (own)
abbrev pub held : ℕ → Ptr → the_row.Denot → Fml
held is_open at state = owned_if (is_open == 1) at state
