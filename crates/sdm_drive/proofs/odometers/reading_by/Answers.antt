-- The numbers that are handed to the reading are those of the definition, and it is in its ranges.
use Rattle.std.proofs.Common.{◌≡◌, ℤ, pos, ◌%◌, ◌-ℤ◌, ◌∙◌, sym, subst, rules, arith, to_z, of_z, w16, w32, w64}
use Rattle.std.proofs.lemmas.Int.{ints, to_z-of_z}
use Rattle.std.proofs.Math.Nat.{mod-lt}
use Rattle.sdm_num.specs.Readings.{OdometerReading, IsReading, reading_of}
use Rattle.sdm_drive.specs.Drive.{TrueTrain, reading_by}
use Rattle.sdm_drive.specs.Trains.{IsOnWay}
use Rattle.sdm_drive.proofs.Millimetres.{made}
use Rattle.sdm_drive.proofs.Ranges.{in_ranges}
use Rattle.sdm_drive.proofs.odometers.reading_by.Goals as goal
use Rattle.sdm_drive.proofs.odometers.reading_by.Goals.{After-under_reading}

module _ (c : After-under_reading) where
  -- the max safe front end in mm, as it is handed in
  abbrev high : ℤ
  high = to_z w32 (of_z w32 (to_z w64 (of_z w64 c.read_front-max_mm.result)))

  -- what is handed in
  abbrev given : OdometerReading
  given =
      reading_of c.args.time (to_z w32 (of_z w32 (high -ℤ pos 5_000))) (to_z w32 (of_z w32 (high -ℤ pos 10_000))) high
      c.read_speed.result (to_z w16 (of_z w16 (to_z w16 (c.args.number % 61) -ℤ pos 20))) c.under_reading.result

  high_is : high ≡ c.read_front-max_mm.result
  high_is =
      let kept : to_z w64 (of_z w64 c.read_front-max_mm.result) ≡ c.read_front-max_mm.result =
      to_z-of_z w64 c.read_front-max_mm.result (search rules) in
      rw kept (to_z-of_z w32 c.read_front-max_mm.result (search (rules, ints)))

  is : given ≡ reading_by c.args.inhibited c.args.time c.args.number c.args.train
  is =
      let from = c.read_front-max_mm.ensures.from in
      let to = c.read_front-max_mm.ensures.to in
      let few = mod-lt c.args.number {m = 61} (omega arith) in
      subst (λ (t : TrueTrain). given ≡ reading_by c.args.inhibited c.args.time c.args.number t) c.train.view_is
      (made c.args.inhibited c.args.time c.args.number _ _ _ high _ c.read_speed.result c.under_reading.result
      (high_is ∙ c.read_front-max_mm.ensures.value)
      (to_z-of_z w32 (high -ℤ pos 5_000) (search (rules, ints)))
      (to_z-of_z w32 (high -ℤ pos 10_000) (search (rules, ints)))
      (omega (arith, ints)) c.read_speed.ensures c.under_reading.ensures)

  in_range : IsReading given
  in_range =
      let in_time = c.requires.time in
      let on_way = subst IsOnWay c.train.view_is
      (record { place = c.train.invariant.place; speed = c.train.invariant.speed }) in
      subst IsReading (sym is)
      (in_ranges c.args.inhibited c.args.time c.args.number 10_000_000 c.args.train in_time (omega arith) on_way
      c.requires.place)

pub unreachable-requires : goal.unreachable-requires
unreachable-requires c = c.in-None.ensures (in_range c.before.before)

pub returns : goal.returns
returns c = c.in-Some.ensures.1 ∙ is c.before.before
