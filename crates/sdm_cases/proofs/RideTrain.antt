-- The train of worked rides: that of the short journey, with a length, a speed profile, and the times of its traction
-- cut-off, its emergency brake and its service brake. Whatever these are, its slopes are 1 m/s² everywhere.
use Rattle.std.proofs.Common.{◌≡◌, ℕ, ℤ, zero, suc, pos, List, [], ◌<◌, refl, subst, sym, ap, arith}
use Rattle.std.proofs.Math.Path.{fun_ext}
use Rattle.std.proofs.lemmas.Int.{ints}
use Rattle.std.specs.Prelude.{false, Option, Some, ◌+ℤ◌, ◌-ℤ◌, unsigned_abs}
use Rattle.std.specs.Int.{int_max, int_min}
use Rattle.std.specs.Option.{option_map_or}
use Rattle.sdm_rules.specs.declared.data.Band.{Band}
use Rattle.sdm_rules.specs.declared.authorities.Authority.{Authority}
use Rattle.sdm_rules.specs.declared.data.SlopeKind.{SlopeKind}
use Rattle.sdm_rules.specs.declared.data.SlopeKind.TheVariants.{Safe, Expected, Normal}
use Rattle.sdm_rules.specs.declared.data.SpeedStep.{SpeedStep}
use Rattle.sdm_rules.specs.declared.motions.Point.{Point}
use Rattle.sdm_rules.specs.Cells.{lowest}
use Rattle.sdm_rules.specs.Data.{TrainAndTrack}
use Rattle.sdm_rules.specs.Decelerations.{slope_at, slope_under, slopes_of}
use Rattle.sdm_rules.specs.Motion.{BrakesAtLeast, IsInBand, IsStep}
use Rattle.sdm_rules.specs.Opening.{IsAcceptedKind, IsEven, IsOpen, IsStrong}
use Rattle.sdm_rules.specs.Slopes.{Slopes}
use Rattle.sdm_rules.specs.Supervision.{opening}
use Rattle.sdm_cases.proofs.Journeys.{plain_band, plain_national, plain_train_and_track}
use Rattle.sdm_cases.proofs.RowCases.{short_line}
use Rattle.sdm_cases.proofs.StopCases.{plain_slope, plain_slopes}

-- with a length in cm, and times in ds: of the traction cut-off, of the emergency brake and of the service brake
unfoldable pub ride_train : ℤ → List SpeedStep → ℤ → ℤ → ℤ → TrainAndTrack
ride_train length_cm speeds cut emergency service = record short_line {
  train = record (short_line.train) {
    length_cm = length_cm;
    cut_off_time = cut;
    emergency_time = emergency;
    service_time = service;
  };
  track = record (short_line.track) { speeds = speeds };
}

-- ---- its data are accepted

-- the track is level under a train of any length
level : (cell : ℤ) (n : ℕ) → lowest int_min (λ c. pos 0) cell n ≡ pos 0
level cell zero = refl
level cell (suc n) = ap (int_min (pos 0)) (level (cell +ℤ pos 1) n)

-- a slope over a gradient
abbrev slope_over : SlopeKind → ℤ → Option Band → ℤ
slope_over kind grad b =
    option_map_or (slope_under kind (short_line.train) (short_line.national)
    (record { grad = grad; reduced = false; unaided = false })) b (pos 0)

train_slope : (length_cm : ℤ) (speeds : List SpeedStep) (cut emergency service : ℤ) (kind : SlopeKind) (cell : ℕ) →
    slope_at kind (ride_train length_cm speeds cut emergency service) 0 (pos cell) ≡ pos 200_000_000_000
unfolding ride_train plain_train_and_track plain_national plain_band slope_at
train_slope length_cm speeds cut emergency service Safe cell =
    ap (λ g. slope_over Safe g (Some plain_band)) (level (int_max (pos cell) (pos 0) -ℤ length_cm) (unsigned_abs length_cm))
train_slope length_cm speeds cut emergency service Expected cell =
    ap (λ g. slope_over Expected g (Some plain_band))
    (level (int_max (pos cell) (pos 0) -ℤ length_cm) (unsigned_abs length_cm))
train_slope length_cm speeds cut emergency service Normal cell =
    ap (λ g. slope_over Normal g (Some plain_band))
    (level (int_max (pos cell) (pos 0) -ℤ length_cm) (unsigned_abs length_cm))

train_accepted : (length_cm : ℤ) (speeds : List SpeedStep) (cut emergency service : ℤ) (kind : SlopeKind) →
    IsAcceptedKind kind (ride_train length_cm speeds cut emergency service)
unfolding ride_train plain_train_and_track plain_national plain_band
train_accepted length_cm speeds cut emergency service kind = record { strong = strong; even = even }
  where
    at : (cell : ℕ) → slope_at kind (ride_train length_cm speeds cut emergency service) 0 (pos cell) ≡ pos 200_000_000_000
    at cell = train_slope length_cm speeds cut emergency service kind cell

    strong : IsStrong kind (ride_train length_cm speeds cut emergency service)
    strong zero cell l = rw (at cell) (omega (arith, ints))
    strong (suc band) cell l = absurd (omega arith)

    even : (band : ℕ) → band < 1 → IsEven kind (ride_train length_cm speeds cut emergency service) band
    even zero l cell cell' = rw (at cell, at cell') (omega (arith, ints))
    even (suc band) l cell cell' = absurd (omega arith)

pub train_open : (length_cm : ℤ) (speeds : List SpeedStep) (cut emergency service : ℤ) (a : Authority) →
    IsOpen (opening (ride_train length_cm speeds cut emergency service) a)
unfolding ride_train plain_train_and_track plain_national plain_band
train_open length_cm speeds cut emergency service a = record {
  bands = record { few = omega arith; in_order = refl };
  usable = train_accepted length_cm speeds cut emergency service;
}

-- ---- its slopes

each_slope : (length_cm : ℤ) (speeds : List SpeedStep) (cut emergency service : ℤ) (kind : SlopeKind) (band : ℕ)
    (cell : ℤ) →
    unsigned_abs (slope_at kind (ride_train length_cm speeds cut emergency service) band cell) ≡ plain_slope band cell
unfolding ride_train plain_train_and_track plain_national plain_band slope_at plain_slope
each_slope length_cm speeds cut emergency service Safe zero cell =
    ap (λ g. unsigned_abs (slope_over Safe g (Some plain_band)))
    (level (int_max cell (pos 0) -ℤ length_cm) (unsigned_abs length_cm))
each_slope length_cm speeds cut emergency service Expected zero cell =
    ap (λ g. unsigned_abs (slope_over Expected g (Some plain_band)))
    (level (int_max cell (pos 0) -ℤ length_cm) (unsigned_abs length_cm))
each_slope length_cm speeds cut emergency service Normal zero cell =
    ap (λ g. unsigned_abs (slope_over Normal g (Some plain_band)))
    (level (int_max cell (pos 0) -ℤ length_cm) (unsigned_abs length_cm))
each_slope length_cm speeds cut emergency service kind (suc band) cell = refl

pub train_slopes : (length_cm : ℤ) (speeds : List SpeedStep) (cut emergency service : ℤ) (kind : SlopeKind) →
    slopes_of kind (ride_train length_cm speeds cut emergency service) ≡ plain_slopes
unfolding ride_train plain_train_and_track plain_band slopes_of plain_slopes
train_slopes length_cm speeds cut emergency service kind = ap (λ f. record { q = 100; uppers = []; slope = f })
    (fun_ext (λ band. fun_ext (λ cell. each_slope length_cm speeds cut emergency service kind band cell)))

-- ---- a step of braking

in_the_band : (m u : ℕ) → IsInBand plain_slopes m 0 u
unfolding plain_slopes
in_the_band m u = record { known = omega arith; above = omega arith; below = λ lt. absurd (omega arith) }

plain_step : (m : ℕ) (x y : Point) →
    BrakesAtLeast plain_slopes 200_000_000_000 x.place x.square y.place y.square → IsStep plain_slopes m x y
unfolding plain_slopes plain_slope
plain_step m x y brakes = record {
  band = 0;
  slope = 200_000_000_000;
  from_band = in_the_band m x.square;
  to_band = in_the_band m y.square;
  one_slope = λ cell part. refl;
  brakes = brakes;
}

-- of braking with 1 m/s², at any scale, on slopes that are so
pub step_on : (on : Slopes) → on ≡ plain_slopes → (m : ℕ) (x y : Point) →
    BrakesAtLeast plain_slopes 200_000_000_000 x.place x.square y.place y.square → IsStep on m x y
step_on on plain m x y brakes = subst (λ (on : Slopes). IsStep on m x y) (sym plain) (plain_step m x y brakes)
