-- A ride under the service brake has the order and the supervisor of the ride that is judged by the EOA: that a promise
-- ends by a gain of speed changes neither. So a computer orders as it does there.
use Rattle.std.proofs.Common.{Bool, true, false, [], ◌∷◌, None, if◌then◌else◌}
use Rattle.sdm_ride.specs.Happenings.{Happening}
use Rattle.sdm_ride.specs.Moments.{Moment, after}
use Rattle.sdm_ride.specs.Orders.{Computer, GoesOn, OrdersAs}
use Rattle.sdm_ride.proofs.Computers.{orders_on}
use Rattle.sdm_service_ride.specs.ServiceMoments.{Allowance, by_eoa, is_steady, steady_after}
use Rattle.sdm_service_ride.specs.ServiceOrders.{LawOfServiceOrders}

-- a promise that ends changes neither
still_orders : (steady : Bool) (m : Moment) (c : Computer) → OrdersAs m c →
    OrdersAs (if steady then m else record m { promise = None }) c
still_orders true m c h = h
still_orders false m c h = record { supervision = h.supervision; ordered = h.ordered }

-- one happening
serves_on : (a : Allowance) (m : Moment) (c : Computer) (h : Happening) (d : Computer) → OrdersAs m c →
    GoesOn by_eoa c h d → OrdersAs (steady_after a m h) d
serves_on a m c h d same g =
    still_orders (is_steady a m h) (after by_eoa m h) d (orders_on by_eoa m c h d same g)

-- the law of orders
pub service_orders : LawOfServiceOrders
service_orders a m c [] [] same all = tt
service_orders a m c [] (d ∷ ds) same all = tt
service_orders a m c (h ∷ hs) [] same all = tt
service_orders a m c (h ∷ hs) (d ∷ ds) same all =
    let next = serves_on a m c h d same all.0 in
    (next, service_orders a (steady_after a m h) d hs ds next all.1)
