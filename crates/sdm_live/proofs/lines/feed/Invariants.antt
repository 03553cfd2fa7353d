-- What the bytes that are left lead to from here is what all of them lead to from the start.
use Rattle.std.proofs.Common.{drop, ◌≤◌}
use Rattle.sdm_live.specs.Exchanges.{Along}
use Rattle.sdm_live.proofs.Taking.{IsTakenOn}
use Rattle.sdm_live.proofs.lines.feed.Given as goal

abbrev pub invariant-loop-byte : goal.invariant-loop-byte
invariant-loop-byte g l = record {
  along : Along (g.P.Peer.history l.fn.peer) (g.P.Peer.history l.peer)
      (IsTakenOn g.S.Step.rules l.fn.step l.fn.line l.piece l.step l.line (drop l.byte-index l.piece));
  later : g.P.Peer.faults l.fn.peer ≤ g.P.Peer.faults l.peer;
}
