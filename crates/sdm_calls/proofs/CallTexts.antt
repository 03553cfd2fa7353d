-- What came of a text: a beginning in any case, and all of it where nothing was refused.
use Rattle.std.proofs.Common.{◌≡◌, ◌≢◌, ◌⊎◌, ◌∙◌, ℕ, List, [], Some, inl, inr, refl, sym, drop}
use Rattle.std.proofs.Common.{append-nil, subst, take-append-drop}
use Rattle.std.specs.Prelude.{MatchOption, Option, ⊤}
use Rattle.sdm_formats.specs.Flat.{Output}
use Rattle.sdm_report.specs.declared.outcome.Outcome.{Outcome}
use Rattle.sdm_report.specs.declared.outcome.Outcome.TheVariants.{Done, Usage, ReadFault, WriteFault, TooLong, BadData}
use Rattle.sdm_report.specs.declared.outcome.Outcome.TheVariants.{Refused, BadEvent, Memory, Undrivable}
use Rattle.sdm_run.specs.Answers.{IsAnswer, IsCutShort, TakesFor, told_end}
use Rattle.sdm_calls.specs.Endings.{IsBeginning, IsWhole}

-- no fault and no want of memory: the end is the one that is defined
told : (output : Output) (outcome : Outcome) → outcome ≢ ReadFault → outcome ≢ WriteFault → outcome ≢ Memory
    → (told_end outcome ≡ Some output.end) ⊎ IsCutShort outcome → told_end outcome ≡ Some output.end
told output outcome read write memory (inl is) = is
told output outcome read write memory (inr (inl is)) = absurd (read is)
told output outcome read write memory (inr (inr (inl is))) = absurd (write is)
told output outcome read write memory (inr (inr (inr is))) = absurd (memory is)

-- no end is there
abbrev IsNothing : {A : Type 0} → Option A → Type 0
IsNothing o = MatchOption o ⊤ (λ _. ⊥)

-- and so is the text
taken : (output : Output) (text : List ℕ) (outcome : Outcome) → told_end outcome ≡ Some output.end →
    TakesFor outcome (Some []) (Some text) output.text → text ≡ output.text
taken output text Done is h = h
taken output text Usage is h = absurd (subst IsNothing is tt)
taken output text ReadFault is h = absurd (subst IsNothing is tt)
taken output text WriteFault is h = absurd (subst IsNothing is tt)
taken output text TooLong is h = h
taken output text (BadData fault) is h = h
taken output text (Refused fault) is h = h
taken output text (BadEvent number cause) is h = h
taken output text Memory is h = absurd (subst IsNothing is tt)
taken output text (Undrivable cause) is h = h

pub whole : (output : Output) (text : List ℕ) (outcome : Outcome) → outcome ≢ ReadFault → outcome ≢ WriteFault
    → outcome ≢ Memory → IsAnswer output (Some []) (Some text) outcome → IsWhole output text outcome
whole output text outcome read write memory h =
    let end = told output outcome read write memory h.ended in
    record { end = end; all = taken output text outcome end h.taken }

-- all of a text, and nothing of it
all_of : (text all : List ℕ) → text ≡ all → IsBeginning text all
all_of text all is = record { rest = []; parts = sym is ∙ sym (append-nil text) }

none_of : (text all : List ℕ) → text ≡ [] → IsBeginning text all
none_of text all is = record { rest = all; parts = rw is refl }

pub begins : (output : Output) (text : List ℕ) (outcome : Outcome) →
    TakesFor outcome (Some []) (Some text) output.text → IsBeginning text output.text
begins output text Done h = all_of text output.text h
begins output text Usage h = none_of text output.text h
begins output text ReadFault h = none_of text output.text h
begins output text WriteFault h =
    record { rest = drop h.0 output.text; parts = rw h.2 (sym (take-append-drop h.0 output.text)) }
begins output text TooLong h = all_of text output.text h
begins output text (BadData fault) h = all_of text output.text h
begins output text (Refused fault) h = all_of text output.text h
begins output text (BadEvent number cause) h = all_of text output.text h
begins output text Memory h = record { rest = h.rest; parts = rw h.taken h.parts }
begins output text (Undrivable cause) h = all_of text output.text h
