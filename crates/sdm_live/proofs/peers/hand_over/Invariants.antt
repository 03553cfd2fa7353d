-- So far the peer took a prefix of the piece.
use Rattle.std.proofs.Common.{length, ◌-◌, ◌≤◌, take}
use Rattle.sdm_live.specs.Exchanges.{Along, IsHanded}
use Rattle.sdm_live.proofs.peers.hand_over.Given as goal

abbrev pub invariant-loop-at : goal.invariant-loop-at
invariant-loop-at g l = record {
  within : l.at ≤ length l.piece;
  taken : Along (g.P.Peer.history l.fn.peer) (g.P.Peer.history l.peer) (λ h k. IsHanded h k (take l.at l.piece));
  later : g.P.Peer.faults l.fn.peer ≤ g.P.Peer.faults l.peer;
}

-- each turn takes a byte
abbrev pub decreases-loop-at : goal.decreases-loop-at
decreases-loop-at g l = length l.piece - l.at
