-- A computer over messages and ticks goes on as a ride does: its clause says so of a message, and a tick changes
-- nothing.
use Rattle.std.proofs.Common.{◌≡◌, ℕ, Bool, true, false, List, [], ◌∷◌, refl, subst, sym, inl, inr}
use Rattle.std.specs.Prelude.{All, map, suc, ◌||◌}
use Rattle.std.proofs.Common.{arith}
use Rattle.std.proofs.lemmas.List.Elements.{All-nil, All-cons}
use Rattle.sdm_ride.specs.Happenings.{Happening, Tick}
use Rattle.sdm_ride.specs.Moments.{Judging, by_rows}
use Rattle.sdm_ride.specs.Orders.{AllGoOn, Computer, GoesOn}
use Rattle.sdm_ride.specs.RideLaws.{EndsBy}
use Rattle.sdm_ride.proofs.ComputerRides.{computer_places, computer_rides, never_past_own, own_ride, own_supervisions}
use Rattle.sdm_ride.proofs.ComputerRides.{starts_unordered, unordered}
use Rattle.sdm_ride.proofs.Computers.{orders}
use Rattle.sdm_release_ride.specs.ReleaseRideLaws.{StopsBefore}
use Rattle.sdm_release_ride.specs.TripPlaces.{by_guarded}
use Rattle.sdm_release_ride.proofs.ReleaseEnds.{guarded_places}
use Rattle.sdm_service_ride.specs.ServiceMoments.{by_eoa}
use Rattle.sdm_service_ride.proofs.ServiceComputers.{service_orders}
use Rattle.sdm_onboard.specs.declared.onboard.Onboard.{Onboard}
use Rattle.sdm_onboard.specs.Guard.{bounds}
use Rattle.sdm_onboard.specs.Messages.{Follows, computer_of, service_of}
use Rattle.sdm_onboard.specs.Runs.{IsOver, IsRun, LawOfMessagePlaces, LawOfMessageRides, LawOfMessages}
use Rattle.sdm_onboard.specs.Runs.{LawOfGuardedMessages, LawOfServiceMessages}

-- a guarded computer goes on as one by the rows, whose orders are among its own
either_left : (a b : Bool) → a ≡ true → (a || b) ≡ true
either_left true b e = refl
either_left false b e = absurd cc

by_rows_too : (c d : Computer) (h : Happening) → GoesOn (by_guarded bounds) c h d → GoesOn by_rows c h d
by_rows_too c d h g = record {
  supervision = g.supervision;
  judged = λ r is orders. g.judged r is (either_left _ _ orders);
  overdue = g.overdue;
  stands = g.stands;
}

-- in a tick nothing changes
over_tick : (j : Judging) (c : Computer) (to length : ℕ) → GoesOn j c (Tick to length) c
over_tick j c to length = record {
  supervision = refl;
  judged = λ r is. absurd cc;
  overdue = λ is. absurd cc;
  stands = λ none stood. stood;
}

pub goes_on : (o : Onboard) (h : Happening) (p : Onboard) → IsOver o h p → Follows o h p
goes_on o h p (inl x) = x.1.follows
goes_on o h p (inr (inl x)) = x.1.follows
goes_on o h p (inr (inr x)) =
    subst (λ (h : Happening). Follows o h p) (sym x.2)
    (subst (λ (q : Onboard). Follows o (Tick x.0 x.1) q) (sym x.3)
    (record {
      emergency = over_tick (by_guarded bounds) (computer_of o) x.0 x.1;
      service = over_tick by_eoa (service_of o) x.0 x.1;
    }))

-- the computer of one brake, over the whole run
all_go_on : (j : Judging) (brake : Onboard → Computer) →
    ((o : Onboard) (h : Happening) (p : Onboard) → Follows o h p → GoesOn j (brake o) h (brake p)) → (o : Onboard)
    (hs : List Happening) (os : List Onboard) → IsRun o hs os →
    AllGoOn j (brake o) hs (map brake os)
all_go_on j brake one o [] [] run = tt
all_go_on j brake one o [] (p ∷ ps) run = absurd run
all_go_on j brake one o (h ∷ hs) [] run = absurd run
all_go_on j brake one o (h ∷ hs) (p ∷ ps) run =
    (one o h p (goes_on o h p run.0), all_go_on j brake one p hs ps run.1)

-- the law of messages
pub runs : LawOfMessages
runs m o hs os same run =
    orders by_rows m (computer_of o) hs (map computer_of os) same
    (all_go_on by_rows computer_of (λ o h p follows. by_rows_too (computer_of o) (computer_of p) h follows.emergency) o hs os run)

-- the same of the service brake
pub service_runs : LawOfServiceMessages
service_runs a m o hs os same run =
    service_orders a m (service_of o) hs (map service_of os) same
    (all_go_on by_eoa service_of (λ o h p follows. follows.service) o hs os run)

-- ---- the train

-- what holds of each computer holds of what is seen of it
all_seen : {A B : Type 0} (P : B → Type 0) (f : A → B) (xs : List A) → All (λ x. P (f x)) xs → All P (map f xs)
all_seen P f [] all = All-nil P
all_seen P f (x ∷ xs) all =
    All-cons P (f x) (map f xs) (all 0 x (omega arith)) (all_seen P f xs (λ k d lt. all (suc k) d (omega arith)))

-- the ride of the computer
pub message_rides : LawOfMessageRides
message_rides w s m o hs os s_pos start same run ride =
    computer_rides.rows w s m (computer_of o) hs (map computer_of os) s_pos start same
    (all_go_on by_rows computer_of (λ o h p follows. by_rows_too (computer_of o) (computer_of p) h follows.emergency) o hs os run) ride

-- from messages to the place
pub message_places : LawOfMessagePlaces
message_places w s place m o hs os s_pos start same run ride ends =
    computer_places.rows w s place m (computer_of o) hs (map computer_of os) s_pos start same
    (all_go_on by_rows computer_of (λ o h p follows. by_rows_too (computer_of o) (computer_of p) h follows.emergency) o hs os run) ride
    (all_seen (λ d. EndsBy place d.supervision.authority) computer_of (o ∷ os) ends)

-- guarded, whatever the release speeds are
pub guarded_messages : LawOfGuardedMessages
guarded_messages w s place m o hs os s_pos start same run ride ends =
    let j = by_guarded bounds in
    let cs = map computer_of os in
    let all = all_go_on j computer_of (λ o h p follows. follows.emergency) o hs os run in
    never_past_own j w s m (computer_of o) hs cs same all place
    (guarded_places bounds w s place (unordered m) hs s_pos (record {
      start = starts_unordered m start;
      ride = own_ride j w s m (computer_of o) hs cs same all ride;
      authorities = own_supervisions j w s m (computer_of o) hs cs same all (λ t. StopsBefore place t.authority)
          (all_seen (λ d. StopsBefore place d.supervision.authority) computer_of (o ∷ os) ends);
    }))
