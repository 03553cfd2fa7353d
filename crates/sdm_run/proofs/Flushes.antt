-- What out took stands when it gives on what it holds back, so an answer is one of a write fault where that fails. An
-- answer with no fault is complete.
use Rattle.std.proofs.Common.{◌≡◌, ◌∙◌, ℕ, List, [], ◌++◌, Option, None, Some, length, length-append, take, inl, inr}
use Rattle.std.proofs.Common.{refl, sym, subst, append-nil, arith}
use Rattle.std.specs.Prelude.{IfSome, Bool, true, false, MatchBool}
use Rattle.std.proofs.lemmas.List.{take_all, take-append-le}
use Rattle.std.specs.Io.KnownBytes.{Appends, Keeps}
use Rattle.sdm_formats.specs.Input as ends
use Rattle.sdm_formats.specs.Flat.{Output}
use Rattle.sdm_io.specs.Told.{AppendsPart, Told}
use Rattle.sdm_report.specs.declared.outcome.Outcome.{Outcome}
use Rattle.sdm_report.specs.declared.outcome.Outcome.TheVariants.{Done, Usage, ReadFault, WriteFault, TooLong, BadData}
use Rattle.sdm_report.specs.declared.outcome.Outcome.TheVariants.{Refused, BadEvent, Memory, Undrivable}
use Rattle.sdm_run.specs.declared.words.Command.{Command}
use Rattle.sdm_run.specs.Answers.{IsAnswer, IsComplete, IsOutcomeOf, TakesFor, told_end}
use Rattle.sdm_run.specs.Commands.{IsOutputOf}
use Rattle.sdm_run.specs.Shapes.{OfInput, shape_of}
use Rattle.sdm_run.proofs.CommandFacts.{of_input}

-- ---- what out took stands

-- what was appended stays appended
appends_kept : (old mid new : Option (List ℕ)) (text : List ℕ) → Keeps mid new → Appends old mid text →
    Appends old new text
appends_kept None mid new text k h = tt
appends_kept (Some xs) None new text k h = absurd h
appends_kept (Some xs) (Some ys) None text k h = absurd k
appends_kept (Some xs) (Some ys) (Some zs) text k h = k ∙ h

-- ---- what out took for any outcome is a prefix of the text

-- a prefix is a part
part_of_prefix : (old new : Option (List ℕ)) (prefix rest text : List ℕ) → text ≡ prefix ++ rest →
    Appends old new prefix → AppendsPart old new text
part_of_prefix old new prefix rest text parts h =
    (length prefix, rw (parts, length-append) (omega arith), subst (Appends old new) (sym is) h)
  where
    is : take (length prefix) text ≡ prefix
    is = rw parts
        (take-append-le (length prefix) prefix rest (omega arith) ∙ take_all (length prefix) prefix (omega arith))

-- so are all of it, and nothing
part_of_all : (old new : Option (List ℕ)) (text : List ℕ) → Appends old new text → AppendsPart old new text
part_of_all old new text h = part_of_prefix old new text [] text (sym (append-nil text)) h

-- where out kept what it took, it took nothing more
none_appended : (old new : Option (List ℕ)) → Keeps old new → Appends old new []
none_appended None new k = tt
none_appended (Some xs) None k = absurd k
none_appended (Some xs) (Some ys) k = k ∙ sym (append-nil xs)

-- nothing is a part of each text
part_of_none : (old new : Option (List ℕ)) (text : List ℕ) → Keeps old new → AppendsPart old new text
part_of_none old new text k = part_of_prefix old new [] text text refl (none_appended old new k)

-- for each outcome out took a part of the text
part_of : (outcome : Outcome) (old new : Option (List ℕ)) (text : List ℕ) → TakesFor outcome old new text →
    AppendsPart old new text
part_of Done old new text h = part_of_all old new text h
part_of Usage old new text h = part_of_none old new text h
part_of ReadFault old new text h = part_of_none old new text h
part_of WriteFault old new text h = h
part_of TooLong old new text h = part_of_all old new text h
part_of (BadData fault) old new text h = part_of_all old new text h
part_of (Refused fault) old new text h = part_of_all old new text h
part_of (BadEvent number cause) old new text h = part_of_all old new text h
part_of Memory old new text h = part_of_prefix old new h.prefix h.rest text h.parts h.taken
part_of (Undrivable cause) old new text h = part_of_all old new text h

-- a fault of out after an answer is answered as such
pub answer_failed : (output : Output) (old mid new : Option (List ℕ)) (outcome : Outcome) → Keeps mid new →
    IsAnswer output old mid outcome → IsAnswer output old new WriteFault
answer_failed output old mid new outcome k h =
    let part = part_of outcome old mid output.text h.taken in
    record {
      ended = inr (inr (inl refl));
      taken =
          (part.0, part.1, appends_kept old mid new (take part.0 output.text) k part.2);
    }

-- ---- completeness

-- what tells an end took the whole text
all_taken : (outcome : Outcome) (end : ends.End) (old new : Option (List ℕ)) (text : List ℕ) →
    told_end outcome ≡ Some end → TakesFor outcome old new text → Appends old new text
all_taken Done end old new text is h = h
all_taken Usage end old new text is h = absurd cc
all_taken ReadFault end old new text is h = absurd cc
all_taken WriteFault end old new text is h = absurd cc
all_taken TooLong end old new text is h = h
all_taken (BadData fault) end old new text is h = h
all_taken (Refused fault) end old new text is h = h
all_taken (BadEvent number cause) end old new text is h = h
all_taken Memory end old new text is h = absurd cc
all_taken (Undrivable cause) end old new text is h = h

-- an outcome of an output with no fault is complete: the whole text and its end, or want of memory
complete_end : (output : Output) (old new : Option (List ℕ)) (outcome : Outcome) →
    TakesFor outcome old new output.text → (outcome ≡ ReadFault → ⊥) → (outcome ≡ WriteFault → ⊥) →
    IsOutcomeOf output.end outcome →
    IsComplete output old new outcome
complete_end output old new outcome taken read write (inl told) =
    inl (told, all_taken outcome output.end old new output.text told taken)
complete_end output old new outcome taken read write (inr (inl is)) = absurd (read is)
complete_end output old new outcome taken read write (inr (inr (inl is))) = absurd (write is)
complete_end output old new outcome taken read write (inr (inr (inr is))) = inr is

-- an answer with no fault is complete
complete : (output : Output) (old new : Option (List ℕ)) (outcome : Outcome) → IsAnswer output old new outcome →
    (outcome ≡ ReadFault → ⊥) → (outcome ≡ WriteFault → ⊥) → IsComplete output old new outcome
complete output old new outcome h read write = complete_end output old new outcome h.taken read write h.ended

-- a fact of the output of the command that the words ask for, whatever the input tells
abbrev OfAsked : Option Command → Option (List ℕ) → (Output → Type 0) → Type 0
OfAsked asked left P = IfSome asked (λ command.
    OfInput (shape_of command) left (λ bytes. (output : Output) → IsOutputOf command bytes output → P output))

module _ (A B : Output → Type 0) (so : (output : Output) → A output → B output) where
  -- of the bytes that the input tells, or of all where the command reads none
  of_bytes : (reads : Bool) (left : Option (List ℕ)) (Is : List ℕ → Output → Type 0) →
      MatchBool reads (Told left (λ bytes. (output : Output) → Is bytes output → A output))
      ((bytes : List ℕ) (output : Output) → Is bytes output → A output) →
      MatchBool reads (Told left (λ bytes. (output : Output) → Is bytes output → B output))
      ((bytes : List ℕ) (output : Output) → Is bytes output → B output)
  of_bytes true None Is h = tt
  of_bytes true (Some bytes) Is h = λ output is. so output (h output is)
  of_bytes false left Is h = λ bytes output is. so output (h bytes output is)

  -- what follows of every output follows of that one
  of_command : (asked : Option Command) (left : Option (List ℕ)) → OfAsked asked left A → OfAsked asked left B
  of_command None left h = tt
  of_command (Some command) left h = of_bytes (shape_of command).reads_input left (IsOutputOf command) h

-- an answer is complete where neither the input nor out failed
pub complete_told :
    (asked : Option Command) (left old new : Option (List ℕ)) (outcome : Outcome) (Read Write : Type 0) →
    (outcome ≡ ReadFault → Read) →
    (outcome ≡ WriteFault → Write) →
    OfAsked asked left (λ output. IsAnswer output old new outcome) →
    OfAsked asked left (λ output. (Read → ⊥) → (Write → ⊥) → IsComplete output old new outcome)
complete_told asked left old new outcome Read Write read write h =
    of_command (λ output. IsAnswer output old new outcome)
    (λ output. (Read → ⊥) → (Write → ⊥) → IsComplete output old new outcome)
    (λ output answer no_read no_write.
    complete output old new outcome answer (λ is. no_read (read is)) (λ is. no_write (write is)))
    asked left h

-- what holds of every output holds of that of the command that the words ask for
pub told_of_all : (B : Output → Type 0) → ((output : Output) → B output) →
    (asked : Option Command) (left : Option (List ℕ)) → OfAsked asked left B
told_of_all B h None left = tt
told_of_all B h (Some command) left =
    of_input (shape_of command) left (λ bytes. (output : Output) → IsOutputOf command bytes output → B output)
    (λ bytes output is. h output)
