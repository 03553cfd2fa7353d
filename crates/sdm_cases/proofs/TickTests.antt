-- Tests of a tick for worked rides, at any scale: a test shows that a tick keeps the rule of a ride by the orders, or by
-- the clock. The train's slopes are 1 m/s² everywhere, or its brake doesn't work yet.
use Rattle.std.proofs.Common.{◌≡◌, ℕ, ℤ, pos, Bool, true, false, [], ◌+◌, ◌-◌, ◌*◌, ◌≤◌}
use Rattle.std.proofs.Common.{◌+ℤ◌, ◌*ℤ◌, subst, sym, arith}
use Rattle.std.specs.Prelude.{Option, Some, None, int_le, nat_le, nat_lt, not, ◌&&◌, ◌||◌}
use Rattle.std.proofs.lemmas.Bool.{and_parts, false≢true, le-leb, lt-ltb, leb-true, ltb-true, true≢false}
use Rattle.std.proofs.lemmas.Int.{ints}
use Rattle.std.proofs.lemmas.Nat.{mul-le}
use Rattle.sdm_num.proofs.Comparisons.{le_of}
use Rattle.sdm_rules.specs.declared.data.SlopeKind.TheVariants.{Safe}
use Rattle.sdm_rules.specs.Curves.{grain_energy}
use Rattle.sdm_rules.specs.Decelerations.{slopes_of}
use Rattle.sdm_rules.specs.Motion.{BrakesAtLeast}
use Rattle.sdm_rules.specs.Supervision.{Supervision}
use Rattle.sdm_ride.specs.Moments.{Moment, Promise}
use Rattle.sdm_ride.specs.Rides.{Delays, HoldsDelays, IsByClock, IsByTimelyOrders, IsTick, TickRule}
use Rattle.sdm_ride.specs.Rides.{start_of}
use Rattle.sdm_cases.proofs.RideTrain.{step_on}
use Rattle.sdm_cases.proofs.StopCases.{plain_slopes}

-- ---- moments

-- a promise so many ticks after its reading
abbrev pub aged_by : Promise → ℕ → Promise
aged_by c age = record c { age = age }

-- a moment at which a promise stands
abbrev pub stands : Promise → Supervision → ℤ → ℕ → ℕ → ℕ → Option ℕ → Moment
stands c t place speed silence age order = record {
  supervision = t;
  place = place;
  speed = speed;
  silence = silence;
  order = order;
  promise = Some (aged_by c age);
}

-- a moment just before a reading, at which none stands
abbrev pub begins : Supervision → ℤ → ℕ → Option ℕ → Moment
begins t place speed order = record {
  supervision = t;
  place = place;
  speed = speed;
  silence = 0;
  order = order;
  promise = None;
}

-- ---- tests of a tick

-- an order has stood so long
abbrev pub is_old : ℕ → Option ℕ → Bool
is_old least None = false
is_old least (Some o) = nat_le least o

pub old_is : (least o : ℕ) (order : Option ℕ) → order ≡ Some o → least ≤ o → is_old least order ≡ true
old_is least o order is long = subst (λ (x : Option ℕ). is_old least x ≡ true) (sym is) (le-leb _ _ long)

-- no more is gained than the acceleration allows, and no more way made than the mean speed
abbrev pub is_tick : ℕ → ℕ → ℕ → ℕ → Bool
is_tick a v to length = nat_le to (v + 54 * a) && nat_le (2 * length) (1_000_000 * (v + to))

tick_is : (a v to length : ℕ) → is_tick a v to length ≡ true → IsTick a v to length
tick_is a v to length e =
    let parts = and_parts (nat_le to (v + 54 * a)) _ e in
    record { gains = leb-true _ _ parts.0; moves = leb-true _ _ parts.1 }

-- the train brakes at least with 1 m/s²
abbrev pub is_braking : ℤ → ℕ → ℕ → ℕ → Bool
is_braking p v to length =
    nat_le to v
    && int_le (pos (27 * 200_000_000_000) *ℤ (p +ℤ pos length))
    (pos (27 * 200_000_000_000) *ℤ p +ℤ pos (grain_energy plain_slopes (v * v - to * to)))

pub braking_is : (p : ℤ) (v to length : ℕ) → is_braking p v to length ≡ true →
    BrakesAtLeast plain_slopes 200_000_000_000 p (v * v) (p +ℤ pos length) (to * to)
braking_is p v to length e =
    let parts = and_parts (nat_le to v) _ e in
    let le = leb-true to v parts.0 in
    record { forward = omega (arith, ints); slower = mul-le _ _ _ _ le le; enough = le_of _ _ parts.1 }

-- where one holds, the other does
pub if_so : (a b : Bool) → (not a || b) ≡ true → a ≡ true → b ≡ true
if_so true b e is = e
if_so false b e is = absurd (true≢false (sym is))

-- ---- tests of a rule

-- of a rule, by its test of a tick: of the promise with its age, the place and speed, silence and order before it, and
-- the speed and length of the tick
abbrev pub TickTest : Type 0
TickTest = Promise → ℤ → ℕ → ℕ → Option ℕ → ℕ → ℕ → Bool

-- the test shows that the rule is kept
abbrev pub Shows : TickTest → TickRule → Promise → Type 0
Shows test rule c =
    (t : Supervision) (p : ℤ) (v silence age : ℕ) (order : Option ℕ) (to length : ℕ) →
    test (aged_by c age) p v silence order to length ≡ true →
    rule (aged_by c age) (stands c t p v silence age order) to length

-- ---- the two rules

-- by the orders
abbrev pub by_orders : Delays → ℕ → TickTest
by_orders w s c p v silence order to length =
    nat_lt silence (s * w.period)
    && (is_tick (start_of c).accel1 v to length
    && ((not (is_old (s * (w.latency + w.cut_off)) order) || is_tick (start_of c).accel2 v to length)
    && (not (is_old (s * (w.latency + w.build_up)) order) || is_braking p v to length)))

pub orders_show : (w : Delays) (s : ℕ) (c : Promise) → slopes_of Safe c.under.train_and_track ≡ plain_slopes →
    HoldsDelays w c → Shows (by_orders w s) (IsByTimelyOrders w s) c
orders_show w s c plain times t p v silence age order to length may =
    let in_time = and_parts (nat_lt silence (s * w.period)) _ may in
    let traction = and_parts (is_tick (start_of c).accel1 v to length) _ in_time.1 in
    let others = and_parts
    (not (is_old (s * (w.latency + w.cut_off)) order) || is_tick (start_of c).accel2 v to length) _ traction.1 in
    record {
      times = record { traction = times.traction; emergency = times.emergency };
      orders = record {
        in_time = ltb-true _ _ in_time.0;
        traction = tick_is _ _ _ _ traction.0;
        cut_off = λ o is long. tick_is _ _ _ _ (if_so _ _ others.0 (old_is _ o order is long));
        brakes = λ o is long. (
          [],
          step_on _ plain (s * s) _ _ (braking_is p v to length (if_so _ _ others.1 (old_is _ o order is long))),
        );
      };
    }

-- the same before the brake works, whatever the slopes are
abbrev pub unbraked : Delays → ℕ → TickTest
unbraked w s c p v silence order to length =
    nat_lt silence (s * w.period)
    && (is_tick (start_of c).accel1 v to length
    && ((not (is_old (s * (w.latency + w.cut_off)) order) || is_tick (start_of c).accel2 v to length)
    && not (is_old (s * (w.latency + w.build_up)) order)))

not_both : (a : Bool) → not a ≡ true → a ≡ true → ⊥
not_both true e f = false≢true e
not_both false e f = false≢true f

pub unbraked_shows : (w : Delays) (s : ℕ) (c : Promise) → HoldsDelays w c →
    Shows (unbraked w s) (IsByTimelyOrders w s) c
unbraked_shows w s c times t p v silence age order to length may =
    let in_time = and_parts (nat_lt silence (s * w.period)) _ may in
    let traction = and_parts (is_tick (start_of c).accel1 v to length) _ in_time.1 in
    let others = and_parts
    (not (is_old (s * (w.latency + w.cut_off)) order) || is_tick (start_of c).accel2 v to length) _ traction.1 in
    record {
      times = record { traction = times.traction; emergency = times.emergency };
      orders = record {
        in_time = ltb-true _ _ in_time.0;
        traction = tick_is _ _ _ _ traction.0;
        cut_off = λ o is long. tick_is _ _ _ _ (if_so _ _ others.0 (old_is _ o order is long));
        brakes = λ o is long. absurd (not_both _ others.1 (old_is _ o order is long));
      };
    }

-- by the clock
abbrev pub by_clock : ℕ → TickTest
by_clock s c p v silence order to length =
    let cut = s * (start_of c).traction in
    let braked = s * ((start_of c).traction + (start_of c).berem) in
    (not (nat_lt c.age cut) || is_tick (start_of c).accel1 v to length)
    && ((not (nat_le cut c.age && nat_lt c.age braked) || is_tick (start_of c).accel2 v to length)
    && (not (nat_le braked c.age) || is_braking p v to length))

both : (a b : Bool) → a ≡ true → b ≡ true → (a && b) ≡ true
both true b e f = f
both false b e f = absurd (true≢false (sym e))

pub clock_shows : (s : ℕ) (c : Promise) → slopes_of Safe c.under.train_and_track ≡ plain_slopes →
    Shows (by_clock s) (IsByClock s) c
clock_shows s c plain t p v silence age order to length may =
    let cut = s * (start_of c).traction in
    let braked = s * ((start_of c).traction + (start_of c).berem) in
    let first = and_parts (not (nat_lt age cut) || is_tick (start_of c).accel1 v to length) _ may in
    let others = and_parts
    (not (nat_le cut age && nat_lt age braked) || is_tick (start_of c).accel2 v to length) _ first.1 in
    record {
      traction = λ early. tick_is _ _ _ _ (if_so _ _ first.0 (lt-ltb age cut early));
      build = λ late early. tick_is _ _ _ _
          (if_so _ _ others.0 (both (nat_le cut age) (nat_lt age braked) (le-leb cut age late) (lt-ltb age braked early)));
      brakes = λ late. (
        [],
        step_on _ plain (s * s) _ _ (braking_is p v to length (if_so _ _ others.1 (le-leb braked age late))),
      );
    }
