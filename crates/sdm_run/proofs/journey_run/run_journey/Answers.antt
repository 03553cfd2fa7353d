-- The parts of the input answer for the whole of it: first what stands before the records is written, and then what is
-- told of them.
use Rattle.std.proofs.Common.{◌≡◌, ◌∙◌, ◌-◌, [], Ok, false, sym, take, drop, length, refl, arith}
use Rattle.std.proofs.lemmas.List.{take_all, length-drop}
use Rattle.sdm_events.specs.Journey.{records_of}
use Rattle.sdm_formats.specs.Flat.{Output}
use Rattle.sdm_report.specs.declared.outcome.Outcome.TheVariants.{WriteFault}
use Rattle.sdm_run.specs.Answers.{IsAnswer}
use Rattle.sdm_run.specs.RunParts.{head_text, output_of_records}
use Rattle.sdm_run.proofs.CertifyLines.{head_whole, tells_each}
use Rattle.sdm_run.proofs.HeldOutputs.{recorded_held}
use Rattle.sdm_run.proofs.OutputLeft.{all_left, cut_off, empty_left, empty_right, text_and, wrote, wrote_part}
use Rattle.sdm_run.proofs.RunAnswers.{recorded, records_possible, refused, undivided}
use Rattle.sdm_run.proofs.RunTexts.{not_first, records_not_before}
use Rattle.sdm_run.proofs.journey_run.run_journey.Goals as goal

pub returns-in_default-clause-answer : goal.returns-in_default-clause-answer
returns-in_default-clause-answer g c = rw c.new.ensures (undivided _ c.args.bytes.now c.requires.short _
    (sym c.in_default.ensures.value))

pub returns-in-Err-clause-answer : goal.returns-in-Err-clause-answer
returns-in-Err-clause-answer g c = rw c.new-in-Err.ensures (refused _ c.args.bytes.now c.requires.short _
    c.in-Some.data_end c.in-Some.records_start (sym c.in-Some.ensures.value) c.in-Err.outcome c.in-Err.ensures.refused)

pub returns-in-Err-begin-clause-answer : goal.returns-in-Err-begin-clause-answer
returns-in-Err-begin-clause-answer g c =
    let bytes = c.args.bytes.now in
    let s = c.in-Ok.supervisor in
    let text = head_text c.args.teller s.train_and_track in
    let next = output_of_records c.args.teller 1 s (records_of (drop c.in-Some.records_start bytes)) in
    let whole = text_and text next in
    rw c.new-in-Err-begin.ensures (recorded _ bytes c.requires.short (g.O.Sink.taken c.args.out.now) c.in-Some.data_end
    c.in-Some.records_start (sym c.in-Some.ensures.value)
    (λ (o : Output). IsAnswer o (g.O.Sink.taken c.args.out.now) (g.O.Sink.taken c.begin.new.out) WriteFault) s
    c.in-Ok.ensures.opened (wrote_part _ _ _ whole whole (all_left _ _) text next refl c.in-Err-begin.ensures.err))

pub returns-clause-answer : goal.returns-clause-answer
returns-clause-answer g c =
    let bytes = c.args.bytes.now in
    let start = c.in-Some.records_start in
    let s = c.in-Ok.supervisor in
    let rest : take (length bytes - start) (drop start bytes)
    ≡ drop start bytes = take_all _ _ (omega (arith, length-drop start bytes)) in
    let text = head_text c.args.teller s.train_and_track in
    let next = output_of_records c.args.teller 1 s (records_of (drop start bytes)) in
    let whole = text_and text next in
    let so_far = wrote _ _ _ whole whole (all_left _ _) text next refl (head_whole c.args.teller s.train_and_track)
    c.in-Ok-begin.ensures.ok in
    recorded _ bytes c.requires.short (g.O.Sink.taken c.args.out.now) c.in-Some.data_end start (sym c.in-Some.ensures.value)
    (λ (o : Output). IsAnswer o (g.O.Sink.taken c.args.out.now) (g.O.Sink.taken c.run_records.new.out)
    c.run_records.result.outcome) s c.in-Ok.ensures.opened (cut_off _ _ _ whole next so_far c.run_records.result.outcome
    (records_not_before c.run_records.result.outcome c.run_records.ensures.possible)
    (rw rest at c.run_records.ensures.answer))

pub returns-clause-held : goal.returns-clause-held
returns-clause-held g c end =
    let bytes = c.args.bytes.now in
    let start = c.in-Some.records_start in
    let rest : take (length bytes - start) (drop start bytes)
    ≡ drop start bytes = take_all _ _ (omega (arith, length-drop start bytes)) in
    recorded_held bytes c.requires.short c.in-Some.data_end start (sym c.in-Some.ensures.value) c.in-Ok.supervisor
    c.in-Ok.ensures.opened c.args.teller c.in-Ok-begin.ensures.read_back (rw rest at (c.run_records.ensures.held end))

pub returns-clause-not_before : goal.returns-clause-not_before
returns-clause-not_before g c = records_not_before c.run_records.result.outcome c.run_records.ensures.possible

pub returns-clause-possible : goal.returns-clause-possible
returns-clause-possible g c = records_possible c.run_records.result.outcome c.run_records.ensures.possible

pub returns-clause-first : goal.returns-clause-first
returns-clause-first g c first =
    absurd (not_first c.run_records.result.outcome c.run_records.ensures.possible first)

-- an empty text has neither a part before the records nor one of them
pub returns-in-Err-begin-clause-untouched : goal.returns-in-Err-begin-clause-untouched
returns-in-Err-begin-clause-untouched g c output of none =
    let bytes = c.args.bytes.now in
    let s = c.in-Ok.supervisor in
    let text = head_text c.args.teller s.train_and_track in
    let no_head = recorded _ bytes c.requires.short (g.O.Sink.taken c.args.out.now) c.in-Some.data_end
    c.in-Some.records_start (sym c.in-Some.ensures.value) (λ (o : Output). o.text ≡ [] → text ≡ []) s
    c.in-Ok.ensures.opened (empty_left _ _) output of none in
    let begun = c.begin.ensures.headless no_head in
    absurd cc

pub returns-clause-untouched : goal.returns-clause-untouched
returns-clause-untouched g c output of none =
    let bytes = c.args.bytes.now in
    let start = c.in-Some.records_start in
    let s = c.in-Ok.supervisor in
    let rest : take (length bytes - start) (drop start bytes)
    ≡ drop start bytes = take_all _ _ (omega (arith, length-drop start bytes)) in
    let text = head_text c.args.teller s.train_and_track in
    let next = output_of_records c.args.teller 1 s (records_of (drop start bytes)) in
    let parts = recorded _ bytes c.requires.short (g.O.Sink.taken c.args.out.now) c.in-Some.data_end start
    (sym c.in-Some.ensures.value) (λ (o : Output). o.text ≡ [] → (text ≡ []) × (next.text ≡ [])) s
    c.in-Ok.ensures.opened (λ e. (empty_left _ _ e, empty_right _ _ e)) output of none in
    let begun : c.begin.result ≡ Ok false = c.begin.ensures.headless parts.0 in
    let due : c.in-Ok-begin.is_flush_due ≡ false = cc in
    let ended = (rw rest at c.run_records.ensures.untouched) due (tells_each _ s.train_and_track parts.0) parts.1 in
    (ended.0, ended.1 ∙ c.in-Ok-begin.ensures.unhanded due)
