-- Which outcomes answer an output, and what out must have taken by then: an output of two lines that ends at a third
-- one. And what the promises of the rows say: of `flat` for lines of a train with 1 m/s² towards an end at 10 m, of
-- `run`, `display` and `trial` for the first turn.
use Rattle.std.proofs.Common.{◌≡◌, ℕ, zero, suc, pos, true, false, List, [], ◌∷◌, ◌++◌, Some, length, take, get_or}
use Rattle.std.proofs.Common.{refl, ap, sym, subst, ◌∙◌, inl, inr, arith, ◌*◌}
use Rattle.std.proofs.lemmas.List.{length-append}
use Rattle.std.proofs.lemmas.Bool.{false≢true}
use Rattle.std.proofs.lemmas.Int.{ints}
use Rattle.std.specs.Prelude.{IsTrue, codes}
use Rattle.sdm_num.specs.Readings.{OdometerReading}
use Rattle.sdm_rules.specs.declared.faults.EventCause.TheVariants.{Line}
use Rattle.sdm_rules.specs.declared.records.Event.TheVariants as record_kinds
use Rattle.sdm_rules.specs.Curves.{exact, stepped, exact_at, place_at, corner, arc, arc_back, back}
use Rattle.sdm_rules.specs.Headline.{AreTurnsSafe, IsRecordSafe, IsRowSafe}
use Rattle.sdm_rules.specs.Motion.{IsInBand, Motion}
use Rattle.sdm_rules.specs.Records.{Turn, rows_of, step}
use Rattle.sdm_rules.specs.Stop.{IsMotionOn}
use Rattle.sdm_rules.specs.Supervision.{Supervision, opening, row_of}
use Rattle.sdm_row_laws.specs.OpenTurns.{AreTurnsPromised}
use Rattle.sdm_row_laws.specs.ServiceStop.{CommandsNoBrake, StopsByItsEoa}
use Rattle.sdm_formats.specs.Flat.{Output, StopsByFlatEnd, flat_after, flat_line, flat_opening, flat_output, flat_row}
use Rattle.sdm_formats.specs.Flat.{flat_slopes, flat_start}
use Rattle.sdm_formats.specs.Input as ends
use Rattle.sdm_formats.specs.Numbers.{read_int}
use Rattle.sdm_formats.specs.Trial.{reading_in_cycle, summary_text, trial_authority, trial_journey, trial_output}
use Rattle.sdm_formats.specs.Trial.{trial_train_and_track}
use Rattle.sdm_report.specs.declared.outcome.Outcome.TheVariants.{Done, ReadFault, WriteFault, BadEvent, Memory}
use Rattle.sdm_run.specs.Answers.{AreWholeLines, IsAnswer, IsComplete}
use Rattle.sdm_run.specs.Commands.{AreJourneyTurnsSafe, AreTrialRowsSafe}
use Rattle.sdm_run.specs.FlatRun.{AreFlatRowsSafe, AreFlatTurnsSafe, FlatTurn, IsEbiShown, IsFlatTurnSafe}
use Rattle.sdm_run.specs.FlatRun.{IsStopCovered, flat_may_after_turn, flat_must_after_turn, flat_row_of_turn}
use Rattle.sdm_run.specs.FlatRun.{text_of_turns, turns_of}
use Rattle.sdm_run.specs.Journeys.{IsJourneyOutput}

-- ---- answers

-- an output of two lines that ends at a third one, which is refused
abbrev two_lines : Output
two_lines = record { text = codes "a\nb\n"; end = ends.BadEvent 3 Line }

-- all of the text stands before the end that is told
whole_text : IsAnswer two_lines (Some []) (Some (codes "a\nb\n")) (BadEvent 3 Line)
whole_text = record { ended = inl refl; taken = refl }

-- and no less of it
no_less_text : IsAnswer two_lines (Some []) (Some (codes "a\n")) (BadEvent 3 Line) → ⊥
no_less_text h = let e = ap length h.taken in omega (arith, e)

-- nor is less of it complete
not_complete : IsComplete two_lines (Some []) (Some (codes "a\n")) (BadEvent 3 Line) → ⊥
not_complete (inl h) = let e = ap length h.1 in omega (arith, e)
not_complete (inr h) = cc

-- another record, and another end
no_other_record : IsAnswer two_lines (Some []) (Some (codes "a\nb\n")) (BadEvent 4 Line) → ⊥
no_other_record h = elim h.ended [
  | inl e ↦ cc
  | inr e ↦ elim e [ inl f ↦ cc | inr f ↦ elim f [ inl g ↦ cc | inr g ↦ cc ] ]
]

no_other_end : IsAnswer two_lines (Some []) (Some (codes "a\nb\n")) Done → ⊥
no_other_end h = elim h.ended [
  | inl e ↦ cc
  | inr e ↦ elim e [ inl f ↦ cc | inr f ↦ elim f [ inl g ↦ cc | inr g ↦ cc ] ]
]

-- before a read fault nothing is written, also of a text that is there
nothing_is_written : IsAnswer two_lines (Some []) (Some (codes "a\n")) ReadFault → ⊥
nothing_is_written h = let e = ap length h.taken in omega (arith, e)

-- after a write fault a prefix of the text, and no other bytes
a_prefix : IsAnswer two_lines (Some []) (Some (codes "a")) WriteFault
a_prefix = record { ended = inr (inr (inl refl)); taken = (1, omega arith, refl) }

no_other_bytes : IsAnswer two_lines (Some []) (Some (codes "b")) WriteFault → ⊥
no_other_bytes h = not_taken h.taken.0 h.taken.2
  where
    not_taken : (n : ℕ) → codes "b" ≡ [] ++ take n (codes "a\nb\n") → ⊥
    not_taken zero e = let k = ap length e in omega (arith, k)
    not_taken (suc n) e = let k = ap (λ bytes. get_or bytes 0 0) e in omega (arith, k)

-- after want of memory whole lines, and no part of one
whole_line : IsAnswer two_lines (Some []) (Some (codes "a\n")) Memory
whole_line = record {
  ended = inr (inr (inr refl));
  taken = record {
    prefix = codes "a\n";
    rest = codes "b\n";
    parts = refl;
    whole_lines = inr (codes "a", refl);
    taken = refl;
  };
}

no_part_of_a_line : IsAnswer two_lines (Some []) (Some (codes "a")) Memory → ⊥
no_part_of_a_line h = not_whole h.taken.prefix h.taken.taken h.taken.whole_lines
  where
    ends_otherwise : (bytes : List ℕ) → codes "a" ≡ bytes ++ 10 ∷ [] → ⊥
    ends_otherwise [] e = let k = ap (λ l. get_or l 0 0) e in omega (arith, k)
    ends_otherwise (x ∷ bytes) e = let k = ap length e in omega (arith, k, length-append (x ∷ bytes) (10 ∷ []))

    not_whole : (prefix : List ℕ) → codes "a" ≡ [] ++ prefix → AreWholeLines prefix → ⊥
    not_whole prefix e (inl none) = let k = ap length e in let l = ap length none in omega (arith, k, l)
    not_whole prefix e (inr (bytes, is)) = ends_otherwise bytes (e ∙ is)

-- ---- the rows of `flat`

-- a train with 1 m/s² at 8 m, with 2 m/s, towards an end at 10 m
abbrev a_turn : FlatTurn
a_turn = record {
  before = flat_opening 100 1_000;
  line = record { time = 5; front = pos (80_000 * 54_000_000); speed = 108_000 };
}

-- the line that is refused is no turn, and none after it is
one_turn : turns_of 100 1_000 (codes "5,8000,2000\n0,0\n6,8000,2000\n") ≡ a_turn ∷ []
unfolding turns_of flat_line read_int
one_turn = refl

-- the row shows 8 m
shown_ebi : IsEbiShown a_turn → (flat_row_of_turn a_turn).ebi ≡ pos 8_000
shown_ebi h = h 2_000 refl

-- a machine that holds its command while the row does not is out of order
not_in_order : IsFlatTurnSafe true true a_turn → ⊥
unfolding flat_row flat_after exact stepped exact_at place_at corner arc arc_back back
not_in_order h = false≢true (h.order.needed refl)

-- so turns with this one aren't safe
not_safe : AreFlatTurnsSafe true true (a_turn ∷ []) → ⊥
not_safe h = not_in_order h.0

-- of two turns it says that the second is safe
second_is_safe : AreFlatTurnsSafe true true (a_turn ∷ a_turn ∷ []) →
    IsFlatTurnSafe (flat_must_after_turn a_turn true) (flat_may_after_turn a_turn true) a_turn
second_is_safe h = h.1.0

-- at 8 m the row is covered, and from there each motion stops by the end
stops_when_covered : IsStopCovered a_turn → StopsByFlatEnd a_turn.before a_turn.line
unfolding flat_row exact stepped exact_at place_at corner arc arc_back back
stops_when_covered h = h refl

-- a tenth of a millimetre further it isn't, and a motion from there passes the end by as much
abbrev past_turn : FlatTurn
past_turn = record {
  before = flat_opening 100 1_000;
  line = record { time = 5; front = pos (80_001 * 54_000_000); speed = 108_000 };
}

-- the row there isn't covered, so it promises no stop
nothing_promised_past_it : IsStopCovered past_turn
unfolding flat_row exact stepped exact_at place_at corner arc arc_back back
nothing_promised_past_it covered = absurd (false≢true covered)

-- a motion from there that brakes with 1 m/s² and passes the end
abbrev past_the_end : Motion
past_the_end = record {
  scale = 1;
  place = pos 4_320_054_000_000;
  speed = 108_000;
  slices = [];
  first = record { place = pos 4_320_054_000_000; square = 11_664_000_000 };
  more = record { place = pos 5_400_054_000_000; square = 0 } ∷ [];
}

passing : IsMotionOn (flat_slopes 100) (flat_start past_turn.line) past_the_end
passing = (
  omega arith,
  record {
    place = omega (arith, ints);
    speed = omega arith;
    motion = record {
      reaction = record {
        traction = [];
        build = [];
        split = refl;
        in_traction = λ k d l. absurd (omega arith);
        in_build = λ k d l. absurd (omega arith);
        traction_time = refl;
        build_time = refl;
        slices = tt;
      };
      begins = refl;
      braking = (
        record {
          band = 0;
          slope = 200_000_000_000;
          from_band = in_the_band 11_664_000_000;
          to_band = in_the_band 0;
          one_slope = λ cell part. refl;
          brakes = record { forward = omega (arith, ints); slower = omega arith; enough = omega (arith, ints) };
        },
        refl,
      );
    };
  },
)
  where
    in_the_band : (u : ℕ) → IsInBand (flat_slopes 100) 1 0 u
    in_the_band u = record { known = omega arith; above = omega arith; below = λ lt. absurd (omega arith) }

-- it doesn't stop by the end
no_stop_past_it : StopsByFlatEnd past_turn.before past_turn.line → ⊥
no_stop_past_it h = let k = h past_the_end passing 1 (record { place = pos 0; square = 0 }) (omega arith) in
    omega (arith, ints, k)

-- ---- all rows of a command

-- the same train at 7 m
abbrev a_line : List ℕ
a_line = codes "5,7000,2000\n"

-- its turn, a metre before the curve
abbrev early_turn : FlatTurn
early_turn = record {
  before = flat_opening 100 1_000;
  line = record { time = 5; front = pos (70_000 * 54_000_000); speed = 108_000 };
}

-- the line's one turn
one_early_turn : turns_of 100 1_000 a_line ≡ early_turn ∷ []
unfolding turns_of flat_line read_int
one_early_turn = refl

-- the text is that of the row
text_of_one_row : AreFlatRowsSafe 100 1_000 a_line →
    (flat_output 100 1_000 a_line).text ≡ text_of_turns (early_turn ∷ [])
text_of_one_row h = h.text ∙ ap text_of_turns one_early_turn

-- before the first line no machine holds a command: a metre before the curve the early one doesn't, so neither does
-- the row
not_commanded : AreFlatRowsSafe 100 1_000 a_line → IsTrue (flat_row_of_turn early_turn).eb → ⊥
unfolding flat_after exact exact_at place_at corner arc arc_back back
not_commanded h holds = false≢true (sym none_early ∙ allowed holds)
  where
    none_early : flat_may_after_turn early_turn false ≡ false
    none_early = refl

    allowed : IsTrue (flat_row_of_turn early_turn).eb → IsTrue (flat_may_after_turn early_turn false)
    allowed =
        (subst (λ (turns : List FlatTurn). AreFlatTurnsSafe false false turns) one_early_turn h.safe).0.order.allowed

-- of `run` and `display`: where an output has turns, the record of the first is safe
first_turn_told : (tell : Turn → List ℕ) (bytes : List ℕ) (output : Output) (told : IsJourneyOutput tell bytes output)
    (t : Turn) (ts : List Turn) → told.turns ≡ t ∷ ts → AreJourneyTurnsSafe tell bytes →
    IsRecordSafe false false t.before t.event
first_turn_told tell bytes output told t ts is h =
    (subst (λ (turns : List Turn). AreTurnsSafe false false turns) is (h output told).safe).0

-- and a reading of a moving train that commands no brake, outside release speed monitoring, promises the EOA
first_reading_stops : (tell : Turn → List ℕ) (bytes : List ℕ) (output : Output)
    (told : IsJourneyOutput tell bytes output) (s after : Supervision) (r : OdometerReading) (ts : List Turn) →
    told.turns ≡ record { before = s; event = record_kinds.Read r; after = after } ∷ ts → AreJourneyTurnsSafe tell bytes →
    CommandsNoBrake r (row_of s r) → StopsByItsEoa s r
first_reading_stops tell bytes output told s after r ts is h =
    (subst (λ (turns : List Turn). AreTurnsPromised turns) is (h output told)).eoa 0
    (record { before = s; event = record_kinds.Read r; after = after }) (omega arith)

-- of `trial`: the text sums up the row of its one reading, which is safe
text_of_one_cycle : AreTrialRowsSafe 7 1 → (trial_output 7 1).text
    ≡ summary_text (row_of (opening trial_train_and_track trial_authority) (reading_in_cycle 7 1) ∷ [])
unfolding step
text_of_one_cycle h = h.text ∙ ap summary_text one_row
  where
    one_row : rows_of (trial_journey 7 1).turns
        ≡ row_of (opening trial_train_and_track trial_authority) (reading_in_cycle 7 1) ∷ []
    one_row = refl

-- and this row is safe
first_cycle_is_safe : AreTrialRowsSafe 7 1 →
    IsRowSafe false false (opening trial_train_and_track trial_authority) (reading_in_cycle 7 1)
unfolding step
first_cycle_is_safe h = h.turns.safe.0
