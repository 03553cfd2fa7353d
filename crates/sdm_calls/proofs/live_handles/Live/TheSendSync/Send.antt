-- A handle may go to another thread: what it owns is a session and the right to free its block.
use Rattle.std.specs.Prelude.{Bool, true, false, ◌==◌}
use mir.Raw.{raw}
use denote.Memory.{lone}
use base.Fraction.{full_share}
use base.Shift.{Keyless}
use denote.Exit.{Exit, unchanged, leaves, hidden, under}
use denote.Param.Send.{IsSend, Quiet, AllSend, part_keyless, owning_send, struct_send, sendable}
use denote.RawPtr.{Ptr, block_ptr, null_ptr, lies_at}
use denote.Struct.Struct.{exits_of}
use denote.Struct.Owning.{shape, fields, to}
use Rattle.std.proofs.Crossing as heap
use Rattle.sdm_calls.specs.declared.sessions.Session.{Session}
use Rattle.sdm_calls.specs.contracts.sessions.Session as Low
use Rattle.sdm_calls.proofs.sessions.Session.TheSendSync.{the_send as low}
use Rattle.sdm_calls.specs.Held.{owned_if}
use Rattle.sdm_calls.specs.Heap.{heap as the_heap}
use Rattle.sdm_calls.specs.contracts.live_handles.Live.{the_row, the_type}

quiet : {D X : Type 0} (to : D → X) (e : Exit X) → Quiet e → Quiet (hidden (under to e))
quiet to unchanged q = λ x w. tt
quiet to (leaves L l S s r₀) q = λ d. q (to d)

lies : (p : Ptr) (s : Session) → Keyless (lies_at Low.the_row full_share p s)
lies (block_ptr b o) s = part_keyless Low.the_row low full_share s b o
lies null_ptr s = tt

crosses : (b : Bool) (p : Ptr) (s : Session) → Keyless (owned_if b p s)
crosses true p s = (lies p s, heap.frees.frees the_heap (raw (lone Low.the_row.mir)) p)
crosses false p s = tt

pub send : IsSend the_row
send =
    let all : AllSend (fields the_type) = (search sendable, (search sendable, tt)) in
    owning_send the_type all (λ d. crosses (d.is_open == 1) d.at d.state)
    (λ k. quiet (to the_type) (exits_of k (fields the_type)) ((struct_send (shape the_type) all).leaving k))
