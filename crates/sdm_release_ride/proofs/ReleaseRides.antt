-- Rides by the release speed: a covered row promises as ever, and a reading of an untripped train promises the SvL. So
-- what rides keep by any judging they keep by this one.
use Rattle.std.proofs.Common.{◌≡◌, ◌⊎◌, Bool, true, false, [], ◌∷◌, refl, inl, inr, ◌||◌}
use Rattle.std.specs.Prelude.{All}
use Rattle.sdm_num.specs.Readings.{OdometerReading}
use Rattle.sdm_rules.specs.declared.data.SlopeKind.TheVariants.{Safe}
use Rattle.sdm_rules.specs.Decelerations.{slopes_of}
use Rattle.sdm_rules.specs.Motion.{Motion}
use Rattle.sdm_rules.specs.Opening.{IsOpen}
use Rattle.sdm_rules.specs.Reaction.{reaction_start}
use Rattle.sdm_rules.specs.Stop.{IsMotionOn}
use Rattle.sdm_rules.specs.Supervision.{Supervision, row_of}
use Rattle.sdm_ride.specs.RideLaws.{AreKeptByOrders, IsByItsSvl}
use Rattle.sdm_ride.proofs.Orders.{kept_by_orders}
use Rattle.sdm_ride.proofs.Promises.{Gives, covered_gives, kept_by_clock}
use Rattle.sdm_release_ride.specs.TripPlaces.{TripBounds, by_guarded, by_release, promises_svl}
use Rattle.sdm_release_ride.specs.ReleaseRideLaws.{IsAsByRelease, LawOfReleaseOrders, LawOfReleaseRides}
use Rattle.sdm_release_ride.proofs.Untripped.{release_readings}

either_true : (a b : Bool) → (a || b) ≡ true → (a ≡ true) ⊎ (b ≡ true)
either_true true b e = inl refl
either_true false b e = inr e

-- every motion stops by the SvL of the reading
svl_gives : (b : TripBounds) (under : Supervision) (r : OdometerReading) → IsOpen under →
    (by_release b).promises under r ≡ true → (m : Motion) →
    IsMotionOn (slopes_of Safe under.train_and_track) (reaction_start under.train_and_track r) m →
    All (IsByItsSvl m.scale under r) (m.first ∷ m.more)
svl_gives b under r o promises m is = elim (either_true (row_of under r).covered (promises_svl b under r) promises) [
  | inl covered ↦ (λ k d lt. (covered_gives under r o covered m is k d lt).stops)
  | inr released ↦ (λ k d lt eoa svl release a. release_readings b under r o released eoa svl release a m is k d lt)
]

-- a reading by the release speed
release_gives : (b : TripBounds) → Gives (by_release b) IsAsByRelease
release_gives b under r o promises m is = λ k d lt. record {
  stops = svl_gives b under r o promises m is k d lt;
  covered = λ covered. covered_gives under r o covered m is k d lt;
}

pub release_rides : LawOfReleaseRides
release_rides = record {
  by_orders = λ b. kept_by_orders (by_release b) IsAsByRelease (kept_by_clock (by_release b) IsAsByRelease
      (release_gives b));
  by_clock = λ b. kept_by_clock (by_release b) IsAsByRelease (release_gives b);
}

-- guarded rides, whose readings promise the same
pub guarded_rides : (b : TripBounds) → AreKeptByOrders (by_guarded b) IsAsByRelease
guarded_rides b = kept_by_orders (by_guarded b) IsAsByRelease
    (kept_by_clock (by_guarded b) IsAsByRelease (release_gives b))

-- only the orders of a judging matter to a computer
pub release_orders : LawOfReleaseOrders
release_orders b c [] [] all = tt
release_orders b c [] (d ∷ ds) all = absurd all
release_orders b c (h ∷ hs) [] all = absurd all
release_orders b c (h ∷ hs) (d ∷ ds) all =
    let g = all.0 in (
      record { supervision = g.supervision; judged = g.judged; overdue = g.overdue; stands = g.stands },
      release_orders b d hs ds all.1,
    )
