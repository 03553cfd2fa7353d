-- Whenever it is about to ask, all that was due is with the peer.
use Rattle.std.proofs.Common.{◌≤◌}
use Rattle.sdm_live.specs.Exchanges.{Along}
use Rattle.sdm_live.proofs.Serving.{HasAsked, IsAnsweredSoFar}
use Rattle.sdm_live.proofs.live.serve.Given as goal

abbrev pub invariant-reads : goal.invariant-reads
invariant-reads g l = record {
  so_far : Along (g.P.Peer.history l.fn.peer) (g.P.Peer.history l.peer)
      (IsAnsweredSoFar g.S.Step.rules l.fn.step l.given l.step l.line);
  asked : Along (g.P.Peer.history l.fn.peer) (g.P.Peer.history l.peer) (HasAsked l.asks);
  later : g.P.Peer.faults l.fn.peer ≤ g.P.Peer.faults l.peer;
}
