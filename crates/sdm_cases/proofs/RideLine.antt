-- The train of the rides that were worked at scale 1: that of the short journey, which brakes with 1 m/s² and whose
-- emergency brake works within 0.3 s; EOA and SvL at 10 m.
use Rattle.std.proofs.Common.{◌≡◌, ℕ, ℤ, pos, ◌<◌, ◌≤◌, refl, subst, sym, ap, ◌∙◌, arith}
use Rattle.std.specs.Prelude.{unsigned_abs}
use Rattle.sdm_num.specs.Readings.{OdometerReading}
use Rattle.sdm_rules.specs.declared.authorities.Authority.{Authority}
use Rattle.sdm_rules.specs.declared.authorities.Authority.TheVariants.{Stop}
use Rattle.sdm_rules.specs.declared.data.SlopeKind.{SlopeKind}
use Rattle.sdm_rules.specs.declared.data.SlopeKind.TheVariants.{Safe}
use Rattle.sdm_rules.specs.declared.motions.Point.{Point}
use Rattle.sdm_rules.specs.Data.{TrainAndTrack}
use Rattle.sdm_rules.specs.Decelerations.{slopes_of}
use Rattle.sdm_rules.specs.Motion.{BrakesAtLeast, IsStep}
use Rattle.sdm_rules.specs.Opening.{IsOpen}
use Rattle.sdm_rules.specs.Reaction.{a_est1, reaction_times}
use Rattle.sdm_rules.specs.Supervision.{opening}
use Rattle.sdm_ride.specs.Rides.{Delays, HoldsDelays}
use Rattle.sdm_cases.proofs.Journeys.{plain_national, plain_train_and_track}
use Rattle.sdm_cases.proofs.RideTrain.{ride_train, step_on, train_open, train_slopes}
use Rattle.sdm_cases.proofs.RowCases.{short_line}
use Rattle.sdm_cases.proofs.StopCases.{plain_slopes}

-- the train with the times of its traction cut-off and its service brake, in ds
unfoldable pub ride_line : ℤ → ℤ → TrainAndTrack
ride_line cut service = record short_line {
  train = record (short_line.train) { cut_off_time = cut; emergency_time = pos 3; service_time = service };
}

abbrev pub authority : Authority
authority = Stop 1000 1000 0

-- ---- its data are accepted, and its slopes are 1 m/s²

line_is : (cut service : ℤ) → ride_line cut service ≡ ride_train (pos 100) (short_line.track.speeds) cut (pos 3) service
unfolding ride_line ride_train plain_train_and_track
line_is cut service = refl

pub line_open_under : (cut service : ℤ) (a : Authority) → IsOpen (opening (ride_line cut service) a)
line_open_under cut service a =
    subst (λ d. IsOpen (opening d a)) (sym (line_is cut service)) (train_open (pos 100) _ cut (pos 3) service a)

pub line_open : (cut service : ℤ) → IsOpen (opening (ride_line cut service) authority)
line_open cut service = line_open_under cut service authority

pub line_slopes : (cut service : ℤ) (kind : SlopeKind) → slopes_of kind (ride_line cut service) ≡ plain_slopes
line_slopes cut service kind = ap (slopes_of kind) (line_is cut service) ∙ train_slopes (pos 100) _ cut (pos 3) service kind

-- a step of braking with 1 m/s², on the slopes of each kind
pub braking_in : (cut service : ℤ) (kind : SlopeKind) (x y : Point) →
    BrakesAtLeast plain_slopes 200_000_000_000 x.place x.square y.place y.square →
    IsStep (slopes_of kind (ride_line cut service)) 1 x y
braking_in cut service kind x y brakes = step_on _ (line_slopes cut service kind) 1 x y brakes

-- on those of A_safe
pub braking_step : (cut service : ℤ) (x y : Point) →
    BrakesAtLeast plain_slopes 200_000_000_000 x.place x.square y.place y.square →
    IsStep (slopes_of Safe (ride_line cut service)) 1 x y
braking_step cut service x y brakes = braking_in cut service Safe x y brakes

-- ---- its times

-- a reading every ds, orders that stand after 1 ds and cut the traction off at once, and a brake that works so many ds
-- later
abbrev pub delays : ℕ → Delays
delays b = record { period = 1; latency = 1; cut_off = 0; build_up = b }

-- the 3 ds that were handed in hold a brake that works 1 ds later, where the cut-off time is 0.2 s
pub delays_held : (service : ℤ) (a : Authority) (r : OdometerReading) (age : ℕ) →
    HoldsDelays (delays 1) (record { under = opening (ride_line (pos 2) service) a; reading = r; age = age })
unfolding ride_line plain_train_and_track plain_national reaction_times
delays_held service a r age = record { traction = λ lower. omega arith; emergency = omega arith }

-- they do so with a cut-off time of 0, too, where the train may gain at most 0.4 m/s²
pub delays_held_at_once : (service : ℤ) (a : Authority) (r : OdometerReading) (age : ℕ) → a_est1 r.accel ≤ 40 →
    HoldsDelays (delays 1) (record { under = opening (ride_line (pos 0) service) a; reading = r; age = age })
unfolding ride_line plain_train_and_track plain_national reaction_times
delays_held_at_once service a r age slow =
    record { traction = λ lower. absurd (omega (arith, lower)); emergency = omega arith }

-- and not where it may gain more
pub not_held_gaining : (service : ℤ) (a : Authority) (r : OdometerReading) (age : ℕ) → 40 < a_est1 r.accel →
    HoldsDelays (delays 1) (record { under = opening (ride_line (pos 0) service) a; reading = r; age = age }) → ⊥
unfolding ride_line plain_train_and_track plain_national reaction_times
not_held_gaining service a r age fast h = let k = h.traction (omega (arith, fast)) in omega arith

-- none hold a brake that works 2 ds later
pub delays_not_held : (cut service : ℤ) (a : Authority) (r : OdometerReading) (age : ℕ) → unsigned_abs cut ≤ 3 →
    HoldsDelays (delays 2) (record { under = opening (ride_line cut service) a; reading = r; age = age }) → ⊥
unfolding ride_line plain_train_and_track plain_national reaction_times
delays_not_held cut service a r age short h = let k = h.emergency in omega (arith, short)
