-- Readings in release speed monitoring that promise the SvL: until the train is tripped its true front end is at most
-- at the place for which the release speed was calculated (own).
use Rattle.std.specs.Prelude.{ℕ, pos, Bool, not, ◌&&◌, ◌||◌, nat_le, int_le, ◌+◌, ◌*◌, ◌≤◌, ◌≤ℤ◌, ◌+ℤ◌}
use Rattle.sdm_num.specs.Units.{centimetre}
use Rattle.sdm_num.specs.Readings.{OdometerReading, estimate_of}
use Rattle.sdm_rules.specs.declared.rows.Row.{Row}
use Rattle.sdm_rules.specs.Data.{TrainAndTrack}
use Rattle.sdm_rules.specs.Reaction.{build_up_from, v_delta0}
use Rattle.sdm_rules.specs.Supervision.{Supervision, row_of}
pub use Rattle.sdm_laws.specs.TripPlaces.{HasTripPlace, TripBounds, has_trip_place}
use Rattle.sdm_ride.specs.Moments.{Judging, is_ordered, is_release}

-- ---- the bounds of readings

-- how much faster than V_est the train may get until its emergency brake works: V_delta0, and what it gains with A_est1
-- for T_traction and with A_est2 for T_berem (SUBSET-026-3 3.13.9.3.2; own form)
abbrev pub excess_of : TrainAndTrack → OdometerReading → ℕ
excess_of d r =
    let b = build_up_from d (estimate_of r) in
    v_delta0 d r.under + 54 * b.accel1 * b.traction + 54 * b.accel2 * b.berem

-- the reading keeps the bounds (own)
pub record IsWithinBounds (b : TripBounds) (d : TrainAndTrack) (r : OdometerReading) : Type 0 where
  pub width : r.max ≤ℤ (r.min +ℤ pos (b.width * centimetre))
  pub excess : excess_of d r ≤ b.excess

-- the same as a test (own)
abbrev pub is_within_bounds : TripBounds → TrainAndTrack → OdometerReading → Bool
is_within_bounds b d r =
    int_le r.max (r.min +ℤ pos (b.width * centimetre)) && nat_le (excess_of d r) b.excess

-- ---- how readings are judged

-- the train isn't tripped in release speed monitoring: the row is in R without emergency command (own)
abbrev pub is_untripped : Row → Bool
is_untripped row = is_release row.state && not row.held.eb

-- the reading promises the SvL in release speed monitoring: it finds an untripped train, and keeps the bounds, under a
-- release speed that has its trip place (own)
abbrev pub promises_svl : TripBounds → Supervision → OdometerReading → Bool
promises_svl b s r =
    let d = s.train_and_track in
    is_untripped (row_of s r) && is_within_bounds b d r && has_trip_place b d s.authority

-- by the release speed: a covered row gives a promise, and so does such a reading; the emergency brake is ordered as by
-- the rows (own)
abbrev pub by_release : TripBounds → Judging
by_release b = record {
  promises = λ s r. (row_of s r).covered || promises_svl b s r;
  orders = λ s r. is_ordered (row_of s r);
}

-- guarded: the emergency brake is ordered also after each reading that gives no promise (own)
abbrev pub by_guarded : TripBounds → Judging
by_guarded b = record {
  promises = (by_release b).promises;
  orders = λ s r. is_ordered (row_of s r) || not ((by_release b).promises s r);
}
