-- The heap, and the right to free what lies on it (own).
use mir.Syntax.{Ty}
use base.Fml.{Fml}
use denote.RawPtr.{Ptr}
use Rattle.std.specs.Global.{Global}
use Rattle.std.specs.contracts.impls.GlobalAllocator.TheImpl.{ghosts}

-- the heap, which is one value (own)
abbrev pub heap : Global
heap = record { memory = record { seal = tt } }

-- the right to free a block (own)
abbrev pub free_right : Ty → Ptr → Fml
free_right = ghosts.dealloc_token heap
