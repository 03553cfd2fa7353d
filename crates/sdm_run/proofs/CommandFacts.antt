-- What each command promises of its rows, and what the limit of an input makes of its output.
use Rattle.std.proofs.Common.{◌≡◌, ℕ, ◌≤◌, ◌<◌, List, [], Option, Some, None, length, nat_lt, true, false, inl, refl, ap, sym, ◌∙◌}
use Rattle.std.proofs.Common.{subst, arith}
use Rattle.std.proofs.lemmas.Bool.Decides.{nat_tests}
use Rattle.std.proofs.KnownBytes.{Appends-nil}
use Rattle.std.specs.Prelude.{IfSome, Bool, MatchBool, IsTrue}
use Rattle.sdm_formats.specs.Input.{most_bytes}
use Rattle.sdm_formats.specs.Input as ends
use Rattle.sdm_formats.specs.Flat.{Output, flat_output}
use Rattle.sdm_formats.specs.Text.{display_tells, run_tells}
use Rattle.sdm_causes.specs.Text.{why_tells}
use Rattle.sdm_io.specs.Told.{Told}
use Rattle.sdm_run.specs.declared.words.Command.{Command}
use Rattle.sdm_run.specs.declared.words.Command.TheVariants.{Flat, Run, Display, Trial, Upgrade, Drive, Certify}
use Rattle.sdm_run.specs.declared.words.Command.TheVariants.{Check, Why}
use Rattle.sdm_report.specs.declared.outcome.Outcome.{Outcome}
use Rattle.sdm_report.specs.declared.outcome.Outcome.TheVariants.{TooLong}
use Rattle.sdm_run.specs.declared.tellers.Teller.TheVariants.{Rows, Displays, Causes, Certificates}
use Rattle.sdm_run.specs.Words.{IsCommandInRange}
use Rattle.sdm_run.specs.Answers.{IsAnswer}
use Rattle.sdm_run.specs.Commands.{AreRowsSafe, HasSafeRows, IsOutputOf, OfOutput, with_rows, within_limit}
use Rattle.sdm_run.specs.Shapes.{OfInput, Shape, shape_of}
use Rattle.sdm_run.specs.Upgrades.{upgrade_output}
use Rattle.sdm_run.proofs.CheckAnswers.{check_answers_safe}
use Rattle.sdm_run.proofs.CheckTexts.{check_too_long}
use Rattle.sdm_run.proofs.DriveTexts.{drive_rows_safe, drive_too_long}
use Rattle.sdm_run.proofs.FlatOrder.{flat_rows_safe}
use Rattle.sdm_run.proofs.OutputLaws.{one_output}
use Rattle.sdm_run.proofs.RunAnswers.{journey_too_long, turns_are_safe}
use Rattle.sdm_run.proofs.TrialRuns.{trial_rows_safe}

-- ---- rows

-- the promise of each command's rows holds for all bytes
pub rows_safe : (command : Command) (bytes : List ℕ) → IsCommandInRange command → AreRowsSafe command bytes
rows_safe (Flat decel end) bytes h = flat_rows_safe decel end bytes (omega (arith, h.0))
rows_safe Run bytes h = turns_are_safe run_tells bytes
rows_safe Display bytes h = turns_are_safe display_tells bytes
rows_safe Why bytes h = turns_are_safe why_tells bytes
rows_safe (Trial seed cycles) bytes h = trial_rows_safe seed cycles
rows_safe Upgrade bytes h = tt
rows_safe (Drive seed cycles) bytes h = drive_rows_safe seed cycles bytes
rows_safe (Certify count) bytes h = turns_are_safe run_tells bytes
rows_safe Check bytes h = check_answers_safe bytes

-- what holds of all bytes holds of those that a command answers
pub of_input : (shape : Shape) (left : Option (List ℕ)) (P : List ℕ → Type 0) → ((bytes : List ℕ) → P bytes) →
    OfInput shape left P
of_input shape left P h = by_reading shape.reads_input left
  where
    by_reading : (reads : Bool) (left : Option (List ℕ)) → MatchBool reads (Told left P) ((bytes : List ℕ) → P bytes)
    by_reading true None = tt
    by_reading true (Some bytes) = h bytes
    by_reading false left = h

-- the promise of a command's rows, at the command that the words ask for
pub rows_told : (o : Option Command) (command : Command) (left : Option (List ℕ)) → o ≡ Some command →
    IsCommandInRange command →
    IfSome o (λ command. OfInput (shape_of command) left (HasSafeRows command))
rows_told o command left is range =
    rw is (of_input (shape_of command) left (HasSafeRows command) (λ bytes. record {
      one = one_output (with_rows command) bytes;
      safe = rows_safe command bytes range;
    }))

-- ---- the bytes that are answered

-- what holds of the bytes that were read, if any are, holds of those that a command answers: a command that reads none
-- answers all alike
answered :
    (reads : Bool) (left : Option (List ℕ)) (bytes : List ℕ) (P : List ℕ → Type 0) →
    (IsTrue reads → Told left (λ told. bytes ≡ told)) → P bytes → (reads ≡ false → (other : List ℕ) → P other) →
    MatchBool reads (Told left P) ((bytes : List ℕ) → P bytes)
answered true None bytes P whole h alike = tt
answered true (Some told) bytes P whole h alike = subst P (whole refl) h
answered false left bytes P whole h alike = alike refl

-- a command that reads nothing has the same output for all bytes
outputs_alike : (command : Command) (A : Output → Type 0) (bytes : List ℕ) →
    ((output : Output) → IsOutputOf command bytes output → A output) →
    (shape_of command).reads_input ≡ false → (other : List ℕ) (output : Output) → IsOutputOf command other output →
    A output
outputs_alike (Flat decel end) A bytes h none other = absurd cc
outputs_alike Run A bytes h none other = absurd cc
outputs_alike Display A bytes h none other = absurd cc
outputs_alike Why A bytes h none other = absurd cc
outputs_alike (Trial seed cycles) A bytes h none other = h
outputs_alike Upgrade A bytes h none other = absurd cc
outputs_alike (Drive seed cycles) A bytes h none other = absurd cc
outputs_alike (Certify count) A bytes h none other = absurd cc
outputs_alike Check A bytes h none other = absurd cc

-- what answers the bytes that were read answers those of the input, at the command that the words ask for
pub answer_told :
    (o : Option Command) (command : Command) (left : Option (List ℕ)) (read bytes : List ℕ) (A : Output → Type 0) →
    o ≡ Some command →
    (IsTrue (shape_of command).reads_input → Told left (λ told. read ≡ told)) →
    bytes ≡ read →
    ((output : Output) → IsOutputOf command bytes output → A output) →
    IfSome o (λ command.
    OfInput (shape_of command) left (λ told. (output : Output) → IsOutputOf command told output → A output))
answer_told o command left read bytes A is whole same h =
    let of_read = subst (λ (b : List ℕ). (output : Output) → IsOutputOf command b output → A output) same h in
    rw is (answered (shape_of command).reads_input left read
    (λ told. (output : Output) → IsOutputOf command told output → A output) whole of_read
    (outputs_alike command A read of_read))

-- what holds of each output holds of the one that there is
of_bytes : (reads : Bool) (left : Option (List ℕ)) (command : Command) (A : Output → Type 0) →
    MatchBool reads (Told left (λ bytes. (output : Output) → IsOutputOf command bytes output → A output))
    ((bytes : List ℕ) (output : Output) → IsOutputOf command bytes output → A output) →
    MatchBool reads (Told left (λ bytes. OfOutput command bytes A)) ((bytes : List ℕ) → OfOutput command bytes A)
of_bytes true None command A h = tt
of_bytes true (Some bytes) command A h = record { one = one_output command bytes; holds = h }
of_bytes false left command A h = λ bytes. record { one = one_output command bytes; holds = h bytes }

pub of_one_output : (o : Option Command) (left : Option (List ℕ)) (A : Output → Type 0) →
    IfSome o (λ command. OfInput (shape_of command) left
    (λ bytes. (output : Output) → IsOutputOf command bytes output → A output)) →
    IfSome o (λ command. OfInput (shape_of command) left (λ bytes. OfOutput command bytes A))
of_one_output None left A h = tt
of_one_output (Some command) left A h = of_bytes (shape_of command).reads_input left command A h

-- and what holds of that one holds of each
pub of_each_output : (o : Option Command) (left : Option (List ℕ)) (A : Output → Type 0) →
    IfSome o (λ command. OfInput (shape_of command) left (λ bytes. OfOutput command bytes A)) →
    IfSome o (λ command. OfInput (shape_of command) left
    (λ bytes. (output : Output) → IsOutputOf command bytes output → A output))
of_each_output None left A h = tt
of_each_output (Some command) left A h = each (shape_of command).reads_input left h
  where
    each : (reads : Bool) (left : Option (List ℕ)) →
        MatchBool reads (Told left (λ bytes. OfOutput command bytes A)) ((bytes : List ℕ) → OfOutput command bytes A) →
        MatchBool reads (Told left (λ bytes. (output : Output) → IsOutputOf command bytes output → A output))
        ((bytes : List ℕ) (output : Output) → IsOutputOf command bytes output → A output)
    each true None h = tt
    each true (Some bytes) h = h.holds
    each false left h = λ bytes. (h bytes).holds

-- ---- the limit

-- within the limit the output is what a command makes of the input
within : (bytes : List ℕ) (output : Output) → length bytes ≤ most_bytes → within_limit bytes output ≡ output
within bytes output short =
    let no : nat_lt most_bytes (length bytes) ≡ false = grind (arith, nat_tests) in rw no

-- above it the output is empty and ends as too long
above : (bytes : List ℕ) (output : Output) → most_bytes < length bytes → within_limit bytes output ≡ record {
  text = [];
  end = ends.TooLong;
}
above bytes output long =
    let yes : nat_lt most_bytes (length bytes) ≡ true = grind (arith, nat_tests) in rw yes

-- an input within the limit is answered by what a command makes of it
pub within_answer : (bytes : List ℕ) (made : Output) (old new : Option (List ℕ)) (outcome : Outcome) →
    length bytes ≤ most_bytes → IsAnswer made old new outcome →
    (output : Output) → output ≡ within_limit bytes made → IsAnswer output old new outcome
within_answer bytes made old new outcome short h output is = rw (is, within bytes made short) h

-- and has no text where that has none
pub within_empty : (bytes : List ℕ) (made : Output) → length bytes ≤ most_bytes → (output : Output) →
    output ≡ within_limit bytes made → output.text ≡ [] → made.text ≡ []
within_empty bytes made short output is none = ap (λ (o : Output). o.text) (sym (is ∙ within bytes made short)) ∙ none

-- an input above the limit is answered as too long by each command that reads
too_long : (command : Command) (bytes : List ℕ) (old : Option (List ℕ)) → IsTrue (shape_of command).reads_input →
    most_bytes < length bytes → (output : Output) → IsOutputOf command bytes output → IsAnswer output old old TooLong
too_long (Flat decel end) bytes old reads long output is =
    rw (is, above bytes (flat_output decel end bytes) long) (record { ended = inl refl; taken = Appends-nil old })
too_long Run bytes old reads long output is = journey_too_long Rows bytes old long output is
too_long Display bytes old reads long output is = journey_too_long Displays bytes old long output is
too_long Why bytes old reads long output is = journey_too_long Causes bytes old long output is
too_long (Trial seed cycles) bytes old reads long output is = absurd cc
too_long Upgrade bytes old reads long output is =
    rw (is, above bytes (upgrade_output bytes) long) (record { ended = inl refl; taken = Appends-nil old })
too_long (Drive seed cycles) bytes old reads long output is = drive_too_long seed cycles bytes old long output is
too_long (Certify count) bytes old reads long output is = journey_too_long (Certificates count) bytes old long output is
too_long Check bytes old reads long output is = check_too_long bytes old long output is

-- what holds of all bytes above the limit holds of an input that is too long
too_long_of : (reads : Bool) (left : Option (List ℕ)) (P : List ℕ → Type 0) → IsTrue reads →
    Told left (λ bytes. most_bytes < length bytes) →
    ((bytes : List ℕ) → most_bytes < length bytes → P bytes) →
    MatchBool reads (Told left P) ((bytes : List ℕ) → P bytes)
too_long_of true None P reads long h = tt
too_long_of true (Some bytes) P reads long h = h bytes long
too_long_of false left P reads long h = absurd cc

-- an input above the limit is answered as too long, whatever it tells
pub too_long_told : (o : Option Command) (command : Command) (left old : Option (List ℕ)) → o ≡ Some command →
    IsTrue (shape_of command).reads_input → Told left (λ bytes. most_bytes < length bytes) →
    IfSome o (λ command. OfInput (shape_of command) left
    (λ bytes. (output : Output) → IsOutputOf command bytes output → IsAnswer output old old TooLong))
too_long_told o command left old is reads long =
    rw is (too_long_of (shape_of command).reads_input left (λ bytes. (output : Output) →
    IsOutputOf command bytes output → IsAnswer output old old TooLong) reads long
    (λ bytes long. too_long command bytes old reads long))
