-- A computer beside a ride under the service brake: what its builder owes the ride is what one owes a ride that is judged
-- by the EOA, with the service brake as its brake (own).
use Rattle.std.specs.Prelude.{List, [], ◌∷◌, ⊤}
use Rattle.sdm_ride.specs.Happenings.{Happening}
use Rattle.sdm_ride.specs.Moments.{Moment}
use Rattle.sdm_ride.specs.Orders.{AllGoOn, Computer, OrdersAs}
use Rattle.sdm_service_ride.specs.ServiceMoments.{Allowance, by_eoa, steady_after}

-- after each happening the computer orders the service brake where the ride counts an order of it (own)
abbrev pub AllServeAs : Allowance → Moment → List Happening → List Computer → Type 0
AllServeAs a m [] cs = ⊤
AllServeAs a m (h ∷ hs) [] = ⊤
AllServeAs a m (h ∷ hs) (c ∷ cs) = OrdersAs (steady_after a m h) c × AllServeAs a (steady_after a m h) hs cs

-- a computer that orders the service brake after each row that commands a brake and where a reading is missing, and takes
-- an order away after a reading that is judged alone, orders it wherever a ride counts an order, over every list of
-- happenings
abbrev pub LawOfServiceOrders : Type 0
LawOfServiceOrders =
    (a : Allowance) (m : Moment) (c : Computer) (hs : List Happening) (cs : List Computer) → OrdersAs m c →
    AllGoOn by_eoa c hs cs → AllServeAs a m hs cs
