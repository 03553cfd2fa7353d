-- A ride whose brake a computer orders: the order that counts is the one that stands at the computer's interface (own).
use Rattle.std.specs.Prelude.{◌≡◌, ℕ, suc, ⊤, All, List, [], ◌∷◌, Option, None, option_map, ◌<◌, if◌then◌else◌}
use Rattle.sdm_ride.specs.Happenings.{Happening, Record, Unread, Overdue, Change, Tick}
use Rattle.sdm_ride.specs.Moments.{Judging, Moment, after, by_free_rows, by_rows, by_svl, ordered}
use Rattle.sdm_ride.specs.Rides.{Delays, IsByTimelyOrders, MayHappen, TickRule}
use Rattle.sdm_ride.specs.RideLaws.{EndsBy, IsAsCovered, IsAsFree, IsByItsSvl, IsNeverPast, IsRideStart, KeepsPromise}
use Rattle.sdm_ride.specs.RideLaws.{Promised}
use Rattle.sdm_ride.specs.Orders.{AllGoOn, Computer}

-- ---- the order at the interface

-- for how many ticks the brake has been ordered, after a happening that leaves its order as it is (own)
abbrev pub counted : Happening → Option ℕ → Option ℕ
counted (Record e) order = order
counted Unread order = order
counted Overdue order = order
counted (Change next) order = order
counted (Tick to length) order = option_map (λ o. suc o) order

-- for how many ticks the order of the brake has stood at the interface of a computer, after a happening (own)
abbrev pub at_interface : Computer → Happening → Option ℕ → Option ℕ
at_interface c h order = if c.orders_brake then ordered (counted h order) else None

-- the next moment of a train beside its computer: that of a ride, with the order that stands at the interface (own)
abbrev pub after_beside : Judging → Moment → Happening → Computer → Moment
after_beside j m h c = record (after j m h) { order = at_interface c h m.order }

-- the moments that follow (own)
abbrev pub moments_beside : Judging → Moment → List Happening → List Computer → List Moment
moments_beside j m [] cs = []
moments_beside j m (h ∷ hs) [] = []
moments_beside j m (h ∷ hs) (c ∷ cs) = after_beside j m h c ∷ moments_beside j (after_beside j m h c) hs cs

-- a ride beside a computer: one thing after another that may happen, where the order that makes the train do something
-- is the one that stands at the interface (own)
abbrev pub IsRideBeside : Judging → TickRule → ℕ → Moment → List Happening → List Computer → Type 0
IsRideBeside j rule s m [] cs = ⊤
IsRideBeside j rule s m (h ∷ hs) [] = ⊥
IsRideBeside j rule s m (h ∷ hs) (c ∷ cs) =
    MayHappen j rule s m h × IsRideBeside j rule s (after_beside j m h c) hs cs

-- ---- the laws

-- beside each computer that goes on as a ride does the promise that stands is true of the train at every moment (own)
abbrev pub AreKeptBeside : Judging → Promised → Type 0
AreKeptBeside j what =
    (w : Delays) (s : ℕ) (m : Moment) (c : Computer) (hs : List Happening) (cs : List Computer) → 0 < s →
    IsRideStart m → c.supervision ≡ m.supervision → AllGoOn j c hs cs →
    IsRideBeside j (IsByTimelyOrders w s) s m hs cs → All (KeepsPromise what s) (moments_beside j m hs cs)

-- THE RIDE BESIDE A COMPUTER, from the order at its interface to the promise
pub record LawOfComputerRides : Type 0 where
  pub rows : AreKeptBeside by_rows IsAsCovered
  pub free_rows : AreKeptBeside by_free_rows IsAsFree
  pub svl : AreKeptBeside by_svl IsByItsSvl

-- beside each computer that goes on as a ride does, and in which every authority ends by a place, the true front end is
-- never past it (own)
abbrev pub StaysBeforeBeside : Judging → Type 0
StaysBeforeBeside j =
    (w : Delays) (s place : ℕ) (m : Moment) (c : Computer) (hs : List Happening) (cs : List Computer) → 0 < s →
    IsRideStart m → c.supervision ≡ m.supervision → AllGoOn j c hs cs →
    IsRideBeside j (IsByTimelyOrders w s) s m hs cs → All (λ d. EndsBy place d.supervision.authority) (c ∷ cs) →
    IsNeverPast s place (moments_beside j m hs cs)

-- NEVER PAST, beside a computer
pub record LawOfComputerPlaces : Type 0 where
  pub rows : StaysBeforeBeside by_rows
  pub free_rows : StaysBeforeBeside by_free_rows
  pub svl : StaysBeforeBeside by_svl
