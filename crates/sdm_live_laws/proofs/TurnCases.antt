-- What lines are answered by, which turns are taken of them, and which texts hold the end of a line within quotes.
use Rattle.std.proofs.Common.{◌≡◌, refl, [], ◌∷◌, replicate, Some, None, Ok, Err, codes, true, false}
use Rattle.csv.specs.Reading.{strip_bom}
use Rattle.sdm_rules.specs.declared.faults.EventCause.TheVariants.{Form, TimeBack}
use Rattle.sdm_rules.specs.declared.faults.EventFault.TheVariants.{UnknownKind}
use Rattle.sdm_rules.specs.Records.{Turn}
use Rattle.sdm_rules.specs.Supervision.{Supervision}
use Rattle.sdm_formats.specs.FaultLines.{cause_text, form_text}
use Rattle.sdm_formats.specs.Forms.{event_of}
use Rattle.sdm_live_records.specs.Live.{refused_text, too_long_text}
use Rattle.sdm_live_laws.specs.SameRows.{breaks_quotes}
use Rattle.sdm_live_laws.specs.Turns.{answers_text, line_answers, live_turns, turns_taken}

-- each line has one answer, in order: also one that is too long, and one after it
three_answers : (s : Supervision) → line_answers s (codes "x" ∷ replicate 1_025 97 ∷ codes "y" ∷ [])
    ≡ Some (Err (Form UnknownKind)) ∷ None ∷ Some (Err (Form UnknownKind)) ∷ []
unfolding strip_bom event_of
three_answers s = refl

-- the texts of answers stand in their order
texts : answers_text (Some (Err (Form UnknownKind)) ∷ None ∷ Some (Err (TimeBack 50 5)) ∷ [])
    ≡ codes "refused: unknown kind\nrefused: line too long\nrefused: time back\n"
unfolding refused_text too_long_text cause_text form_text
texts = refl

-- what was refused is no turn, and the turns stand in their order
two_turns : (t u : Turn) →
    turns_taken (Some (Ok t) ∷ Some (Err (TimeBack 50 5)) ∷ None ∷ Some (Ok u) ∷ []) ≡ t ∷ u ∷ []
two_turns t u = refl

-- of no lines, and of lines that are refused, no turn is taken
no_turns : (s : Supervision) → live_turns s (codes "\r\nx\n\ny") ≡ []
unfolding strip_bom event_of
no_turns s = refl

-- a line feed or a carriage return within quotes
broken : breaks_quotes (codes "read,\"5\n6\"") ≡ true
broken = refl

broken_by_return : breaks_quotes (codes "\"\r\"") ≡ true
broken_by_return = refl

-- quotes that are closed, two of them that are one, and a quote that doesn't begin its field
unbroken : breaks_quotes (codes "\"a\"\n\"b\"\"c\",d\"e\n\r\n") ≡ false
unbroken = refl
