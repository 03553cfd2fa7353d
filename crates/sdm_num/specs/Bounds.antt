-- A place that is rounded to one side of the exact place (own). An early bound is never past the exact place, and a
-- late bound never before it. So a train that is compared with an early bound is stopped too soon rather than too late.
use Rattle.std.specs.Prelude.{ℕ, ℤ, pos, neg_ℤ, ◌<◌, ◌+ℤ◌, unsigned_abs}
use Rattle.std.specs.Int.{int_div_euclid, int_min, int_max}
use Rattle.sdm_num.specs.Units.{millimetre}
use Rattle.sdm_num.specs.Fractions.{Fraction, IsAtMost, IsSame, whole}

-- a place in grains, and how many grains the exact place may be from it
pub record Bound : Type 0 where
  pub at : ℤ
  pub slack : ℕ

-- the early bound stands for the exact place `x`: from `at` to `slack` grains past it
pub record IsEarlyFor (e : Bound) (x : Fraction) : Type 0 where
  pub positive : 0 < x.m
  pub not_past : IsAtMost (whole e.at) x
  pub near : IsAtMost x (whole (e.at +ℤ pos e.slack))

-- the late bound stands for the exact place `x`: from `slack` grains before `at` up to it
pub record IsLateFor (l : Bound) (x : Fraction) : Type 0 where
  pub positive : 0 < x.m
  pub not_before : IsAtMost x (whole l.at)
  pub near : IsAtMost (whole (l.at +ℤ neg_ℤ (pos l.slack))) x

-- the number is the result of an operation on a place for which P holds
pub record IsResultOf (P : Fraction → Type 0) (op : Fraction → Fraction) (z : Fraction) : Type 0 where
  pub place : Fraction
  pub holds : P place
  pub same : IsSame (op place) z

-- the number is the result of an operation on two places: P holds for the first, Q for the second
pub record IsResultOfTwo (P Q : Fraction → Type 0) (op : Fraction → Fraction → Fraction) (z : Fraction) : Type 0 where
  pub left : Fraction
  pub right : Fraction
  pub left_holds : P left
  pub right_holds : Q right
  pub same : IsSame (op left right) z

-- the most slack that a bound may have: a millimetre
abbrev pub most_room : ℕ
most_room = millimetre

-- the early bound of the lesser of two places: it stands for exactly the lesser places of all pairs that the two bounds
-- stand for
abbrev pub earlier_of : Bound → Bound → Bound
earlier_of e d =
    let at = int_min e.at d.at in
    record { at = at; slack = unsigned_abs (int_min (e.at +ℤ pos e.slack) (d.at +ℤ pos d.slack) +ℤ neg_ℤ at) }

-- the late bound of the greater of two places: it stands for exactly the greater places of all pairs that the two
-- bounds stand for
abbrev pub later_of : Bound → Bound → Bound
later_of e d =
    let at = int_max e.at d.at in
    record {
      at = at;
      slack =
          unsigned_abs (at +ℤ neg_ℤ (int_max (e.at +ℤ neg_ℤ (pos e.slack)) (d.at +ℤ neg_ℤ (pos d.slack))));
    }

-- a place rounded down to whole millimetres
abbrev pub mm_below : ℤ → ℤ
mm_below z = int_div_euclid z (pos millimetre)

-- a place rounded up to whole millimetres
abbrev pub mm_above : ℤ → ℤ
mm_above z = neg_ℤ (int_div_euclid (neg_ℤ z) (pos millimetre))
