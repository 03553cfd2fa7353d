-- One turn after the other.
use Rattle.std.proofs.Common.{◌≡◌, ◌+◌, ◌∷◌, [], ap, subst, take, arith}
use Rattle.sdm_live.specs.declared.live.Ended.TheVariants.{Done, ReadFault, WriteFault, Endless}
use Rattle.sdm_live.specs.Answers.{IsLiveAnswer, most_asks}
use Rattle.sdm_live.specs.Exchanges.{Gave, Gave_fault, IsPrompt}
use Rattle.sdm_live.specs.Moments.{due_after, whole_after}
use Rattle.sdm_live.specs.Taken.{IsEndedPart, IsPieceAnswered, IsRestAnswered, IsTakenPart}
use Rattle.sdm_live.proofs.Along.{along_both, along_map, along_then}
use Rattle.sdm_live.proofs.Serving.{HasAsked, IsAnsweredSoFar, IsAskedSoFar, answered_now, asked, asked_again, asked_never}
use Rattle.sdm_live.proofs.Serving.{asked_still, begun_of, fault_answered, fault_prompt, first_cut_of}
use Rattle.sdm_live.proofs.Serving.{next_so_far, piece_cut, quiet_since, rest_cut, rest_whole}
use Rattle.sdm_live.proofs.live.serve.Goals as goal

pub returns-in_default-clause-answer : goal.returns-in_default-clause-answer
returns-in_default-clause-answer g c =
    let rules = g.S.Step.rules in
    let first = c.args.step.now in
    let given = c.args.given.now in
    along_map _ _ (IsTakenPart rules first c.new-line.result given)
    (λ h m. IsLiveAnswer (due_after rules first given) (whole_after rules first given) h WriteFault m)
    (λ h k p. first_cut_of rules first given c.new-line.result h k c.new-line.ensures p)
    c.in_default.ensures.err

pub reads-init : goal.reads-init
reads-init g c =
    let rules = g.S.Step.rules in
    let first = c.args.step.now in
    let given = c.args.given.now in
    record {
      so_far = along_map _ _ (IsPieceAnswered rules first c.new-line.result given c.answer_piece.new.step
          c.answer_piece.new.line) (IsAnsweredSoFar rules first given c.answer_piece.new.step c.answer_piece.new.line)
          (λ h k p. begun_of rules first given c.answer_piece.new.step c.new-line.result c.answer_piece.new.line h k
          c.new-line.ensures p)
          c.in-Ok.ensures.ok;
      asked = along_map _ _ (IsPieceAnswered rules first c.new-line.result given c.answer_piece.new.step
          c.answer_piece.new.line) (HasAsked 0) (λ h k p. asked_never h k p.taken.quiet) c.in-Ok.ensures.ok;
      later = c.in-Ok.ensures.cause.later;
    }

pub ask-requires : goal.ask-requires
ask-requires g c =
    let rules = g.S.Step.rules in
    let first = c.args.step.now in
    let given = c.args.given.now in
    let state = c.reads.step in
    let line = c.reads.line in
    c.requires.may_ask c.reads.peer
    (along_map _ _ (IsAnsweredSoFar rules first given state line) _
    (λ h k p. answered_now rules first given state line h k p) c.reads.invariant.so_far)

pub returns-in_default-ask-clause-prompt : goal.returns-in_default-ask-clause-prompt
returns-in_default-ask-clause-prompt g c =
    let rules = g.S.Step.rules in
    let first = c.args.step.now in
    let given = c.args.given.now in
    let state = c.reads.step in
    let line = c.reads.line in
    along_then _ _ _ (IsAnsweredSoFar rules first given state line) (λ k l. l ≡ Gave_fault ∷ k)
    (IsPrompt (due_after rules first given))
    (λ h k l p q. fault_prompt rules first given state line h k l p q)
    c.reads.invariant.so_far c.in_default-ask.ensures.told

pub returns-in_default-ask-clause-answer : goal.returns-in_default-ask-clause-answer
returns-in_default-ask-clause-answer g c =
    let rules = g.S.Step.rules in
    let first = c.args.step.now in
    let given = c.args.given.now in
    let state = c.reads.step in
    let line = c.reads.line in
    along_then _ _ _ (IsAnsweredSoFar rules first given state line) (λ k l. l ≡ Gave_fault ∷ k)
    (λ h m. IsLiveAnswer (due_after rules first given) (whole_after rules first given) h ReadFault m)
    (λ h k l p q. fault_answered rules first given state line h k l p q)
    c.reads.invariant.so_far c.in_default-ask.ensures.told

pub returns-in_default-answer_rest-clause-prompt : goal.returns-in_default-answer_rest-clause-prompt
returns-in_default-answer_rest-clause-prompt g c =
    let rules = g.S.Step.rules in
    let first = c.args.step.now in
    let given = c.args.given.now in
    let state = c.reads.step in
    let line = c.reads.line in
    let bytes = take c.in-Ok-ask.n c.ask.new.buffer in
    let so_far = along_then _ _ _ (IsAnsweredSoFar rules first given state line) (λ k l. l ≡ Gave bytes ∷ k)
    (IsAskedSoFar rules first given state line bytes)
    (λ h k l p q. asked rules first given state line bytes h k l p q)
    c.reads.invariant.so_far c.in-Ok-ask.ensures.told in
    along_then _ _ _ (IsAskedSoFar rules first given state line bytes) (IsEndedPart rules state line)
    (IsPrompt (due_after rules first given))
    (λ h l m p q. quiet_since rules first given state line bytes h l m p q.quiet)
    so_far c.in_default-answer_rest.ensures.err

pub returns-in_default-answer_rest-clause-answer : goal.returns-in_default-answer_rest-clause-answer
returns-in_default-answer_rest-clause-answer g c =
    let rules = g.S.Step.rules in
    let first = c.args.step.now in
    let given = c.args.given.now in
    let state = c.reads.step in
    let line = c.reads.line in
    let bytes = take c.in-Ok-ask.n c.ask.new.buffer in
    let so_far = along_then _ _ _ (IsAnsweredSoFar rules first given state line) (λ k l. l ≡ Gave bytes ∷ k)
    (IsAskedSoFar rules first given state line bytes)
    (λ h k l p q. asked rules first given state line bytes h k l p q)
    c.reads.invariant.so_far c.in-Ok-ask.ensures.told in
    let none : bytes ≡ [] = ap (λ n. take n c.ask.new.buffer) c.if-n-eq0.true in
    along_then _ _ _ (IsAskedSoFar rules first given state line bytes) (IsEndedPart rules state line)
    (λ h m. IsLiveAnswer (due_after rules first given) (whole_after rules first given) h WriteFault m)
    (λ h l m p q. rest_cut rules first given state line bytes h l m p none q)
    so_far c.in_default-answer_rest.ensures.err

pub returns-then-n-eq0-clause-prompt : goal.returns-then-n-eq0-clause-prompt
returns-then-n-eq0-clause-prompt g c =
    let rules = g.S.Step.rules in
    let first = c.args.step.now in
    let given = c.args.given.now in
    let state = c.reads.step in
    let line = c.reads.line in
    let bytes = take c.in-Ok-ask.n c.ask.new.buffer in
    let so_far = along_then _ _ _ (IsAnsweredSoFar rules first given state line) (λ k l. l ≡ Gave bytes ∷ k)
    (IsAskedSoFar rules first given state line bytes)
    (λ h k l p q. asked rules first given state line bytes h k l p q)
    c.reads.invariant.so_far c.in-Ok-ask.ensures.told in
    along_then _ _ _ (IsAskedSoFar rules first given state line bytes) (IsRestAnswered rules state line c.answer_rest.new.step c.answer_rest.new.line)
    (IsPrompt (due_after rules first given))
    (λ h l m p q. quiet_since rules first given state line bytes h l m p q.taken.quiet)
    so_far c.in-Ok-answer_rest.ensures.ok

pub returns-then-n-eq0-clause-answer : goal.returns-then-n-eq0-clause-answer
returns-then-n-eq0-clause-answer g c =
    let rules = g.S.Step.rules in
    let first = c.args.step.now in
    let given = c.args.given.now in
    let state = c.reads.step in
    let line = c.reads.line in
    let bytes = take c.in-Ok-ask.n c.ask.new.buffer in
    let so_far = along_then _ _ _ (IsAnsweredSoFar rules first given state line) (λ k l. l ≡ Gave bytes ∷ k)
    (IsAskedSoFar rules first given state line bytes)
    (λ h k l p q. asked rules first given state line bytes h k l p q)
    c.reads.invariant.so_far c.in-Ok-ask.ensures.told in
    let none : bytes ≡ [] = ap (λ n. take n c.ask.new.buffer) c.if-n-eq0.true in
    along_then _ _ _ (IsAskedSoFar rules first given state line bytes) (IsRestAnswered rules state line c.answer_rest.new.step c.answer_rest.new.line)
    (λ h m. IsLiveAnswer (due_after rules first given) (whole_after rules first given) h Done m)
    (λ h l m p q. rest_whole rules first given state line bytes h l m p c.answer_rest.new.step c.answer_rest.new.line none q)
    so_far c.in-Ok-answer_rest.ensures.ok

pub returns-in_default-answer_piece-clause-prompt : goal.returns-in_default-answer_piece-clause-prompt
returns-in_default-answer_piece-clause-prompt g c =
    let rules = g.S.Step.rules in
    let first = c.args.step.now in
    let given = c.args.given.now in
    let state = c.reads.step in
    let line = c.reads.line in
    let bytes = take c.in-Ok-ask.n c.ask.new.buffer in
    let so_far = along_then _ _ _ (IsAnsweredSoFar rules first given state line) (λ k l. l ≡ Gave bytes ∷ k)
    (IsAskedSoFar rules first given state line bytes)
    (λ h k l p q. asked rules first given state line bytes h k l p q)
    c.reads.invariant.so_far c.in-Ok-ask.ensures.told in
    along_then _ _ _ (IsAskedSoFar rules first given state line bytes) (IsTakenPart rules state line bytes)
    (IsPrompt (due_after rules first given))
    (λ h l m p q. quiet_since rules first given state line bytes h l m p q.quiet)
    so_far c.in_default-answer_piece.ensures.err

pub returns-in_default-answer_piece-clause-answer : goal.returns-in_default-answer_piece-clause-answer
returns-in_default-answer_piece-clause-answer g c =
    let rules = g.S.Step.rules in
    let first = c.args.step.now in
    let given = c.args.given.now in
    let state = c.reads.step in
    let line = c.reads.line in
    let bytes = take c.in-Ok-ask.n c.ask.new.buffer in
    let so_far = along_then _ _ _ (IsAnsweredSoFar rules first given state line) (λ k l. l ≡ Gave bytes ∷ k)
    (IsAskedSoFar rules first given state line bytes)
    (λ h k l p q. asked rules first given state line bytes h k l p q)
    c.reads.invariant.so_far c.in-Ok-ask.ensures.told in
    along_then _ _ _ (IsAskedSoFar rules first given state line bytes) (IsTakenPart rules state line bytes)
    (λ h m. IsLiveAnswer (due_after rules first given) (whole_after rules first given) h WriteFault m)
    (λ h l m p q. piece_cut rules first given state line bytes h l m p q)
    so_far c.in_default-answer_piece.ensures.err

pub reads-preserved : goal.reads-preserved
reads-preserved g c =
    let rules = g.S.Step.rules in
    let first = c.args.step.now in
    let given = c.args.given.now in
    let state = c.reads.step in
    let line = c.reads.line in
    let bytes = take c.in-Ok-ask.n c.ask.new.buffer in
    let so_far = along_then _ _ _ (IsAnsweredSoFar rules first given state line) (λ k l. l ≡ Gave bytes ∷ k)
    (IsAskedSoFar rules first given state line bytes)
    (λ h k l p q. asked rules first given state line bytes h k l p q)
    c.reads.invariant.so_far c.in-Ok-ask.ensures.told in
    let later = c.reads.invariant.later in
    let asked_later = c.in-Ok-ask.ensures.cause.later in
    let piece_later = c.in-Ok-answer_piece.ensures.cause.later in
    record {
      so_far = along_then _ _ _ (IsAskedSoFar rules first given state line bytes)
          (IsPieceAnswered rules state line bytes c.answer_piece-in-reads.new.step c.answer_piece-in-reads.new.line)
          (IsAnsweredSoFar rules first given c.answer_piece-in-reads.new.step c.answer_piece-in-reads.new.line)
          (λ h l m p q. next_so_far rules first given state line bytes h l m p c.answer_piece-in-reads.new.step c.answer_piece-in-reads.new.line q)
          so_far c.in-Ok-answer_piece.ensures.ok;
      asked = along_then _ _ _ (HasAsked (c.reads.asks + 1))
          (IsPieceAnswered rules state line bytes c.answer_piece-in-reads.new.step c.answer_piece-in-reads.new.line)
          (HasAsked (c.reads.asks + 1)) (λ h l m p q. asked_still (c.reads.asks + 1) h l m p q.taken.quiet)
          (along_then _ _ _ (HasAsked c.reads.asks) (λ k l. l ≡ Gave bytes ∷ k) (HasAsked (c.reads.asks + 1))
          (λ h k l p q. asked_again c.reads.asks bytes h k l p q) c.reads.invariant.asked c.in-Ok-ask.ensures.told)
          c.in-Ok-answer_piece.ensures.ok;
      later = omega (arith, later, asked_later, piece_later);
    }

pub returns-clause-answer : goal.returns-clause-answer
returns-clause-answer g c =
    let rules = g.S.Step.rules in
    let first = c.args.step.now in
    let given = c.args.given.now in
    let state = c.reads.step in
    let line = c.reads.line in
    let most : c.reads.asks ≡ most_asks = omega (arith, c.reads.auto.asks-end, c.reads-test.false) in
    along_both _ _ (IsAnsweredSoFar rules first given state line) (HasAsked c.reads.asks)
    (λ h m. IsLiveAnswer (due_after rules first given) (whole_after rules first given) h Endless m)
    (λ h k p asked. record {
      answered = answered_now rules first given state line h k p;
      asks = subst (λ n. HasAsked n h k) most asked;
    })
    c.reads.invariant.so_far c.reads.invariant.asked
