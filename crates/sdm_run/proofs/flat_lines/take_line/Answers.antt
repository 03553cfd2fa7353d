-- A line is refused by the first of its fields that is, or by its time; else it is the line of its three numbers.
use Rattle.std.proofs.Common.{◌≡◌, ◌≤ℤ◌, ◌∙◌, ℕ, ℤ, pos, negsuc, List, Some, Ok, inl, inr, to_z, of_z, w32, w64}
use Rattle.std.proofs.Common.{unsigned_abs, lit<, refl}
use Rattle.std.proofs.lemmas.Int.{to_z-of_z}
use Rattle.sdm_num.specs.Units.{place_of_mm, notches_of_mm_s}
use Rattle.sdm_formats.specs.Flat.{flat_line}
use Rattle.sdm_formats.specs.Numbers.{read_int}
use Rattle.sdm_supervisor.specs.FlatLines.{line_at}
use Rattle.sdm_text.specs.FirstNumbers.{BeginsWithNumberIn}
use Rattle.sdm_text.proofs.Between.{between_fits}
use Rattle.sdm_run.proofs.LineFields.{bad_time, bad_front, bad_speed, good_line}
use Rattle.sdm_run.proofs.flat_lines.take_line.Goals as goal

pub returns-in_err-time-clause-refused : goal.returns-in_err-time-clause-refused
returns-in_err-time-clause-refused c =
    rw c.from_residual.ensures (inl (bad_time c.args.line.now c.in_err-time.ensures.none))

pub returns-in_err-front-clause-refused : goal.returns-in_err-front-clause-refused
returns-in_err-front-clause-refused c = rw c.from_residual-in_err-front.ensures
    (inl (bad_front c.args.line.now _ _ c.in_ok-time.ensures.some c.in_err-front.ensures.none))

pub returns-in_default-clause-refused : goal.returns-in_default-clause-refused
returns-in_default-clause-refused c = inl (bad_speed c.args.line.now _ _ c.in_ok-time.ensures.some _ _
    c.in_ok-front.ensures.some c.in_default.field-0 c.in_default.ensures.fault)

-- the values that the supervisor is handed are those of the line: `a` and `b` are the numbers of its time and its
-- front after their casts
line_read : (line rest speed : List ℕ) (t f a b place : ℤ) (n notches : ℕ) → BeginsWithNumberIn line (pos 0)
    (pos 100_000_000) t rest → BeginsWithNumberIn rest (negsuc 9_999_999) (pos 110_000_000) f speed →
    read_int speed (pos 0) (pos 138_888) ≡ Ok (pos n) → a ≡ t → b ≡ f → place ≡ place_of_mm b →
    notches ≡ notches_of_mm_s n → flat_line line ≡ Some (line_at (unsigned_abs a) place notches)
line_read line rest speed t f a b place n notches first second third time front place_is notches_is =
    good_line line rest t first speed f second n third ∙ rw (time, place_is, front, notches_is) refl

-- a time in its range is itself in 64 bits
same_time : (n : ℤ) → pos 0 ≤ℤ n → n ≤ℤ pos 100_000_000 → to_z w64 (of_z w64 n) ≡ n
same_time n low high = to_z-of_z w64 n
    (between_fits w64 (pos 0) (pos 100_000_000) n (record { sfits = lit< tt }) (record { sfits = lit< tt }) low high)

-- a front end in its range is itself in 64 bits and in 32
same_front : (n : ℤ) → negsuc 9_999_999 ≤ℤ n → n ≤ℤ pos 110_000_000 → to_z w32 (of_z w32 (to_z w64 (of_z w64 n))) ≡ n
same_front n low high =
    let wide : to_z w64 (of_z w64 n) ≡ n = to_z-of_z w64 n (between_fits w64 (negsuc 9_999_999) (pos 110_000_000) n
    (record { sfits = lit< tt }) (record { sfits = lit< tt }) low high) in
    rw wide (to_z-of_z w32 n (between_fits w32 (negsuc 9_999_999) (pos 110_000_000) n (record { sfits = lit< tt })
    (record { sfits = lit< tt }) low high))

pub returns-in-Ok-cycle-clause-accepted : goal.returns-in-Ok-cycle-clause-accepted
returns-in-Ok-cycle-clause-accepted c =
    let time = same_time _ c.in_ok-time.ensures.range.0 c.in_ok-time.ensures.range.1 in
    let front = same_front _ c.in_ok-front.ensures.range.0 c.in_ok-front.ensures.range.1 in
    record {
      line = line_at (unsigned_abs (to_z w64 (of_z w64 c.in_ok-time.time))) c.of_mm-front.result c.of_mm_s-speed.result;
      read = line_read _ _ _ _ _ _ _ _ _ _ c.in_ok-time.ensures.some c.in_ok-front.ensures.some c.in-Ok.ensures.value
          time front c.of_mm-front.ensures c.of_mm_s-speed.ensures;
      in_time = c.in-Ok-cycle.ensures.in_time;
      row_is = c.in-Ok-cycle.ensures.row;
      after = c.in-Ok-cycle.ensures.after;
    }

pub returns-in-Err-clause-refused : goal.returns-in-Err-clause-refused
returns-in-Err-clause-refused c =
    let time = same_time _ c.in_ok-time.ensures.range.0 c.in_ok-time.ensures.range.1 in
    let front = same_front _ c.in_ok-front.ensures.range.0 c.in_ok-front.ensures.range.1 in
    inr (
      line_at (unsigned_abs (to_z w64 (of_z w64 c.in_ok-time.time))) c.of_mm-front.result c.of_mm_s-speed.result,
      c.in-Err.field-0,
      line_read _ _ _ _ _ _ _ _ _ _ c.in_ok-time.ensures.some c.in_ok-front.ensures.some c.in-Ok.ensures.value time
          front c.of_mm-front.ensures c.of_mm_s-speed.ensures,
      c.in-Err.ensures.time_back,
    )
