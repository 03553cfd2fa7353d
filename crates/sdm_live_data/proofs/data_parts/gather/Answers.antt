-- One read after the other.
use Rattle.std.proofs.Common.{◌≡◌, ◌∷◌, ◌∙◌, sym, ap, subst, [], List, ℕ, take, length, ◌<◌, arith}
use Rattle.std.proofs.Common.{◌++◌, ◌-◌, length-append}
use Rattle.std.proofs.lemmas.List.{length-take-le}
use Rattle.sdm_formats.specs.Input.{most_bytes}
use Rattle.sdm_report.specs.declared.outcome.Outcome.TheVariants.{TooLong}
use Rattle.sdm_live.specs.Exchanges.{Gave, Gave_fault}
use Rattle.sdm_live_data.specs.Divisions.{IsDivision, IsLastLine}
use Rattle.sdm_live_data.specs.Waiting.{IsGatherEnd, IsGathered, IsWaitingPrompt}
use Rattle.sdm_live.proofs.Along.{along_then}
use Rattle.sdm_live_data.proofs.Gathering.{at_first, gathered_end, gathered_fault, gathered_more}
use Rattle.sdm_live_data.proofs.Gathering.{if_divided, too_long, unanswered}
use Rattle.sdm_live_data.proofs.LastLines.{no_records, nothing_yet}
use Rattle.sdm_live_data.proofs.data_parts.gather.Goals as goal

pub returns-in_default-clause-prompt : goal.returns-in_default-clause-prompt
returns-in_default-clause-prompt g c =
    let bytes = c.reads.bytes.items in
    along_then _ _ _ (IsGathered bytes) (λ k l. l ≡ Gave_fault ∷ k) IsWaitingPrompt
    (λ h k l p q. (gathered_fault bytes c.reads.invariant.none h k l p q).prompt)
    c.reads.invariant.so_far c.in_default.ensures.told

pub returns-then-n-eq0-clause-gathered : goal.returns-then-n-eq0-clause-gathered
returns-then-n-eq0-clause-gathered g c =
    let bytes = c.reads.bytes.items in
    let piece = take c.in-Ok.n c.ask.new.buffer in
    let none : piece ≡ [] = ap (λ n. take n c.ask.new.buffer) c.if-n-eq0.true in
    if_divided c.last_division.result _
    (along_then _ _ _ (IsGathered bytes) (λ k l. l ≡ Gave piece ∷ k) (IsGathered bytes)
    (λ h k l p q. gathered_end bytes piece c.reads.invariant.none h k l p q none)
    c.reads.invariant.so_far c.in-Ok.ensures.told)

pub returns-then-n-eq0-clause-prompt : goal.returns-then-n-eq0-clause-prompt
returns-then-n-eq0-clause-prompt g c =
    let bytes = c.reads.bytes.items in
    let piece = take c.in-Ok.n c.ask.new.buffer in
    along_then _ _ _ (IsGathered bytes) (λ k l. l ≡ Gave piece ∷ k) IsWaitingPrompt
    (λ h k l p q. (gathered_more bytes piece c.reads.invariant.none h k l p q).prompt)
    c.reads.invariant.so_far c.in-Ok.ensures.told

pub returns-then-n-len-clause-prompt : goal.returns-then-n-len-clause-prompt
returns-then-n-len-clause-prompt g c =
    let bytes = c.reads.bytes.items in
    let piece = take c.in-Ok.n c.ask.new.buffer in
    along_then _ _ _ (IsGathered bytes) (λ k l. l ≡ Gave piece ∷ k) IsWaitingPrompt
    (λ h k l p q. (gathered_more bytes piece c.reads.invariant.none h k l p q).prompt)
    c.reads.invariant.so_far c.in-Ok.ensures.told

pub returns-then-n-len-clause-end : goal.returns-then-n-len-clause-end
returns-then-n-len-clause-end g c =
    let bytes = c.reads.bytes.items in
    let n = c.in-Ok.n in
    let piece = take n c.ask.new.buffer in
    let len_is = c.len.ensures ∙ c.reads.bytes.ok.0 in
    let over : most_bytes - length bytes < n = subst (λ (m : ℕ). most_bytes - m < n) len_is c.if-n-len.true in
    let long = too_long bytes c.ask.new.buffer n most_bytes c.in-Ok.ensures.bound.0 over in
    along_then _ _ _ (IsGathered bytes) (λ k l. l ≡ Gave piece ∷ k) (IsGatherEnd TooLong)
    (λ h k l p q. unanswered (λ xs. most_bytes < length xs) (bytes ++ piece) long h l
    (gathered_more bytes piece c.reads.invariant.none h k l p q))
    c.reads.invariant.so_far c.in-Ok.ensures.told

pub returns-in_default-extend_from_slice-clause-prompt : goal.returns-in_default-extend_from_slice-clause-prompt
returns-in_default-extend_from_slice-clause-prompt g c =
    let bytes = c.reads.bytes.items in
    let piece = take c.in-Ok.n c.ask.new.buffer in
    along_then _ _ _ (IsGathered bytes) (λ k l. l ≡ Gave piece ∷ k) IsWaitingPrompt
    (λ h k l p q. (gathered_more bytes piece c.reads.invariant.none h k l p q).prompt)
    c.reads.invariant.so_far c.in-Ok.ensures.told

pub returns-in-Some-clause-divided : goal.returns-in-Some-clause-divided
returns-in-Some-clause-divided g c =
    subst (λ (xs : List ℕ). IsDivision xs c.in-Some.division) c.deref-in-reads.ensures.value c.in-Some.ensures.found

pub returns-in-Some-clause-gathered : goal.returns-in-Some-clause-gathered
returns-in-Some-clause-gathered g c =
    let bytes = c.reads.bytes.items in
    let piece = take c.in-Ok.n c.ask.new.buffer in
    let all = c.extend_from_slice.new.self.items in
    along_then _ _ _ (IsGathered bytes) (λ k l. l ≡ Gave piece ∷ k) (IsGathered all)
    (λ h k l p q. subst (λ (xs : List ℕ). IsGathered xs h l) (sym c.in-Ok-extend_from_slice.ensures.items)
    (gathered_more bytes piece c.reads.invariant.none h k l p q))
    c.reads.invariant.so_far c.in-Ok.ensures.told

pub returns-in-Some-clause-prompt : goal.returns-in-Some-clause-prompt
returns-in-Some-clause-prompt g c =
    let bytes = c.reads.bytes.items in
    let piece = take c.in-Ok.n c.ask.new.buffer in
    along_then _ _ _ (IsGathered bytes) (λ k l. l ≡ Gave piece ∷ k) IsWaitingPrompt
    (λ h k l p q. (gathered_more bytes piece c.reads.invariant.none h k l p q).prompt)
    c.reads.invariant.so_far c.in-Ok.ensures.told

pub reads-init : goal.reads-init
reads-init g c =
    let bytes = c.args.bytes.now.items in
    let size = ap length c.requires.nothing in
    let last = nothing_yet bytes c.requires.nothing in
    record {
      short = omega (arith, size);
      later = omega arith;
      last = last;
      none = no_records bytes 0 last;
      so_far = at_first (g.P.Peer.history c.args.peer.now) c.requires.held bytes c.requires.nothing;
    }

pub reads-preserved : goal.reads-preserved
reads-preserved g c =
    let bytes = c.reads.bytes.items in
    let n = c.in-Ok.n in
    let piece = take n c.ask.new.buffer in
    let all = c.extend_from_slice.new.self.items in
    let items = c.in-Ok-extend_from_slice.ensures.items in
    let before = c.reads.invariant.later in
    let asked_later = c.in-Ok.ensures.cause.later in
    let room = c.if-n-len.false in
    let len_is = c.len.ensures ∙ c.reads.bytes.ok.0 in
    let short = c.reads.invariant.short in
    let sum = length-append bytes piece in
    let size = length-take-le n c.ask.new.buffer c.in-Ok.ensures.bound.0 in
    let same = ap length items in
    let start = c.whole_division.new.line_start in
    let last = subst (λ (xs : List ℕ). IsLastLine xs start) c.deref-in-reads.ensures.value
    c.in_default-whole_division.ensures.wanting in
    record {
      short = omega (arith, room, len_is, short, sum, size, same);
      later = omega (arith, before, asked_later);
      last = last;
      none = no_records all start last;
      so_far = along_then _ _ _ (IsGathered bytes) (λ k l. l ≡ Gave piece ∷ k) (IsGathered all)
          (λ h k l p q. subst (λ (xs : List ℕ). IsGathered xs h l) (sym items)
          (gathered_more bytes piece c.reads.invariant.none h k l p q))
          c.reads.invariant.so_far c.in-Ok.ensures.told;
    }
