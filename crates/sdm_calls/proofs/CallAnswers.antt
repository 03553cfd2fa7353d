-- What each way of a call answers: memory that is wanting, what the program says of itself, and a command.
use Rattle.std.proofs.Common.{◌≡◌, ◌⊎◌, ℕ, List, Option, Some, None, true, false, inl, inr, refl, subst}
use Rattle.std.specs.Prelude.{Bool, MatchBool, IfSome}
use Rattle.std.specs.Io.KnownBytes.{Appends}
use Rattle.sdm_formats.specs.Flat.{Output}
use Rattle.sdm_io.specs.Told.{AppendsPart, Told}
use Rattle.sdm_report.specs.declared.outcome.Outcome.{Outcome}
use Rattle.sdm_report.specs.declared.outcome.Outcome.TheVariants.{Done, Memory, WriteFault}
use Rattle.sdm_run.specs.declared.words.Command.{Command}
use Rattle.sdm_run.specs.Answers.{IsAnswer}
use Rattle.sdm_run.specs.Commands.{OfOutput}
use Rattle.sdm_run.specs.Shapes.{OfInput, shape_of}
use Rattle.sdm_run.specs.Words.{command_of}
use Rattle.sdm_run.proofs.OutputLaws.{one_output}
use Rattle.sdm_run.proofs.RunAnswers.{memory_first}
use Rattle.sdm_words.specs.declared.about.About.{About}
use Rattle.sdm_words.specs.Abouts.{text_of}
use Rattle.sdm_words.specs.declared.asked.Asked.TheVariants as asked
use Rattle.sdm_words.specs.Words.{asked_of}
use Rattle.sdm_calls.specs.Calls.{OfOutputAsked, about_output}
use Rattle.sdm_calls.specs.Words.{about_asked, command_asked}

-- what holds of each output holds of the one that is asked for
pub of_each : (about : Option About) (command : Option Command) (bytes : List ℕ) (P : Output → Type 0) →
    ((output : Output) → P output) → OfOutputAsked about command bytes P
of_each (Some about) command bytes P all = all (about_output about)
of_each None (Some command) bytes P all = record { one = one_output command bytes; holds = λ output is. all output }
of_each None None bytes P all = tt

-- memory was refused before anything was written
pub no_memory : (about : Option About) (command : Option Command) (bytes : List ℕ) (old : Option (List ℕ)) →
    OfOutputAsked about command bytes (λ output. IsAnswer output old old Memory)
no_memory about command bytes old =
    of_each about command bytes (λ output. IsAnswer output old old Memory) (memory_first old)

-- what the program says of itself is told, all of it or a beginning
pub told_about : (about : About) (old new : Option (List ℕ)) (outcome : Outcome)
    → (outcome ≡ Done) ⊎ (outcome ≡ WriteFault)
    → (outcome ≡ Done → Appends old new (text_of about))
    → (outcome ≡ WriteFault → AppendsPart old new (text_of about))
    → IsAnswer (about_output about) old new outcome
told_about about old new outcome (inl done) whole part =
    rw done (record { ended = inl refl; taken = whole done })
told_about about old new outcome (inr fault) whole part =
    rw fault (record { ended = inr (inr (inl refl)); taken = part fault })

-- a fact of known bytes, whether they are read or not
of_known : (reads : Bool) (bytes : List ℕ) (P : List ℕ → Type 0) →
    MatchBool reads (Told (Some bytes) P) ((bytes : List ℕ) → P bytes) → P bytes
of_known true bytes P h = h
of_known false bytes P h = h bytes

-- the command, if there is one, answers the bytes of an input in memory
pub of_command : (command : Option Command) (bytes : List ℕ) (P : Output → Type 0) →
    IfSome command (λ c. OfInput (shape_of c) (Some bytes) (λ bytes. OfOutput c bytes P)) →
    OfOutputAsked None command bytes P
of_command None bytes P h = tt
of_command (Some c) bytes P h = of_known (shape_of c).reads_input bytes (λ bytes. OfOutput c bytes P) h

-- the words are those of a command, if of any
pub command_call : (words made : List (List ℕ)) (bytes source : List ℕ) (P : Output → Type 0)
    → made ≡ words → source ≡ bytes → asked_of made ≡ asked.Command
    → IfSome (command_of made) (λ c. OfInput (shape_of c) (Some source) (λ bytes. OfOutput c bytes P))
    → OfOutputAsked (about_asked (asked_of words)) (command_asked (asked_of words) words) bytes P
command_call words made bytes source P same of_source is h =
    subst (λ ws. OfOutputAsked (about_asked (asked_of ws)) (command_asked (asked_of ws) ws) bytes P) same
    (rw is (subst (λ bs. OfOutputAsked None (command_of made) bs P) of_source (of_command (command_of made) source P h)))

-- what follows for each output follows for the one that is asked for
pub of_asked : (about : Option About) (command : Option Command) (bytes : List ℕ) (P Q : Output → Type 0)
    → ((output : Output) → P output → Q output)
    → OfOutputAsked about command bytes P → OfOutputAsked about command bytes Q
of_asked (Some about) command bytes P Q then h = then (about_output about) h
of_asked None (Some command) bytes P Q then h =
    record { one = h.one; holds = λ output is. then output (h.holds output is) }
of_asked None None bytes P Q then h = tt
