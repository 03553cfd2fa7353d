-- Each number that was read is that of its column, and the types of a reading keep it.
use Rattle.std.proofs.Common.{◌≡◌, ◌≤◌, ◌≤ℤ◌, ℕ, ℤ, pos, negsuc, drop, ◌∷◌, [], get_or, to_z, of_z, w16, w32, refl, sym, ◌∙◌}
use Rattle.std.proofs.Common.{Option, Some, None, unsigned_abs, lit<, arith, rules}
use Rattle.std.specs.Option.{SomeIff}
use Rattle.std.proofs.lemmas.Int.{ints, to_z-of_z}
use Rattle.sdm_num.specs.Readings.{IsReading, reading_of}
use Rattle.sdm_formats.specs.Forms.{read_form}
use Rattle.sdm_text.proofs.Between.{between_fits}
use Rattle.sdm_events.proofs.Fields.{seven_columns}
use Rattle.sdm_events.proofs.events.read_event.Goals as goal
use Rattle.sdm_events.proofs.events.read_event.Goals.{After-new-reading}
use Rattle.sdm_events.proofs.events.read_event.Given.{Over}

-- numbers in their ranges are a reading
is_reading : (time : ℕ) (est min max : ℤ) (speed : ℕ) (accel : ℤ) (under : ℕ) → time ≤ 100_000_000 →
    negsuc 9_999_999 ≤ℤ min → min ≤ℤ est → est ≤ℤ max → max ≤ℤ pos 110_000_000 → speed ≤ 138_888 →
    negsuc 299 ≤ℤ accel → accel ≤ℤ pos 300 → under ≤ 10_000 →
    IsReading (reading_of time est min max speed accel under)
is_reading time est min max speed accel under t low back front high s slowing gaining u = record {
  time = t;
  low = omega (arith, ints);
  back = omega (arith, ints);
  front = omega (arith, ints);
  high = omega (arith, ints);
  speed = omega arith;
  slowing = slowing;
  gaining = gaining;
  under = omega arith;
}

-- what is found of a value is that value
found : {T : Type 0} (o : Option T) (P : Type 0) (v : T) → SomeIff o P v → P → o ≡ Some v
found None P v none is = absurd (none is)
found (Some x) P v some is = let same = some.1 in cc

module _ (g : Over) (c : After-new-reading g) where
  time : to_z w32 (of_z w32 c.in_ok-time.time) ≡ c.in_ok-time.time
  time = to_z-of_z w32 _ (search (rules, ints))

  est : to_z w32 (of_z w32 c.in_ok-est.est) ≡ c.in_ok-est.est
  est = to_z-of_z w32 _ (search (rules, ints))

  min : to_z w32 (of_z w32 c.in_ok-min.min) ≡ c.in_ok-min.min
  min = to_z-of_z w32 _ (search (rules, ints))

  max : to_z w32 (of_z w32 c.in_ok-max.max) ≡ c.in_ok-max.max
  max = to_z-of_z w32 _ (search (rules, ints))

  speed : to_z w32 (of_z w32 c.in_ok-speed.speed) ≡ c.in_ok-speed.speed
  speed = to_z-of_z w32 _ (search (rules, ints))

  accel : to_z w32 (of_z w32 c.in_ok-accel.accel) ≡ c.in_ok-accel.accel
  accel = to_z-of_z w32 _ (search (rules, ints))

  under : to_z w32 (of_z w32 c.in_ok-under.under) ≡ c.in_ok-under.under
  under = to_z-of_z w32 _ (search (rules, ints))

  short : to_z w16 (of_z w16 c.in_ok-accel.accel) ≡ c.in_ok-accel.accel
  short = to_z-of_z w16 _ (between_fits w16 _ _ _ (record { sfits = lit< tt })
      (record { sfits = lit< tt }) c.in_ok-accel.ensures.range.0 c.in_ok-accel.ensures.range.1)

  -- the reading of these numbers
  is : c.new-reading.result ≡ Some (reading_of (unsigned_abs c.in_ok-time.time) c.in_ok-est.est c.in_ok-min.min
      c.in_ok-max.max (unsigned_abs c.in_ok-speed.speed) c.in_ok-accel.accel (unsigned_abs c.in_ok-under.under))
  is =
      let min_range = rw est at c.in_ok-min.ensures.range in
      let max_range = rw est at c.in_ok-max.ensures.range in
      found _ _ _ (rw (time, est, min, max, speed, accel, short, under) at c.new-reading.ensures)
      (is_reading _ _ _ _ _ _ _ (omega (arith, ints, c.in_ok-time.ensures.range)) min_range.0 min_range.1 max_range.0
      max_range.1 (omega (arith, ints, c.in_ok-speed.ensures.range)) c.in_ok-accel.ensures.range.0
      c.in_ok-accel.ensures.range.1 (omega (arith, ints, c.in_ok-under.ensures.range)))

pub unwrap-requires : goal.unwrap-requires
unwrap-requires g c = rw (is g c) refl

pub returns-clause-value : goal.returns-clause-value
unfolding read_form
returns-clause-value g c =
    let before = (goal.at.returns-clause-value g c).After-new-reading in
    let F = g.F.RecordFields.fields c.args.fields.now in
    let seven : drop 1 F ≡ get_or F 1 [] ∷ get_or F 2 [] ∷ get_or F 3 [] ∷ get_or F 4 [] ∷ get_or F 5 []
    ∷ get_or F 6 [] ∷ get_or F 7 [] ∷ [] =
    seven_columns F (sym c.len.ensures ∙ c.if-len-ne8.false) in
    let read : c.unwrap.result ≡ reading_of (unsigned_abs c.in_ok-time.time) c.in_ok-est.est c.in_ok-min.min
    c.in_ok-max.max (unsigned_abs c.in_ok-speed.speed) c.in_ok-accel.accel (unsigned_abs c.in_ok-under.under) =
    let found = is g before in cc in
    rw (
      seven,
      c.in_ok-time.ensures.value,
      c.in_ok-est.ensures.value,
      rw (est g before) at c.in_ok-min.ensures.value,
      rw (est g before) at c.in_ok-max.ensures.value,
      c.in_ok-speed.ensures.value,
      c.in_ok-accel.ensures.value,
      c.in_ok-under.ensures.value,
      read,
    ) refl
