-- The data of examples/realistic are accepted: two bands, and a fall of 5 per mille from 2 km to 4 km. Whatever the
-- length of the train is, the gradient under it is from -5 per mille to 0.
use Rattle.std.proofs.Common.{◌≡◌, ℕ, ℤ, zero, suc, pos, negsuc, Bool, true, false, List, [], ◌∷◌, ◌<◌, ◌≤ℤ◌, ◌∙◌, ap, refl, arith}
use Rattle.std.proofs.lemmas.Int.{ints}
use Rattle.std.specs.Prelude.{Option, Some, None, ◌+ℤ◌, ◌-ℤ◌, ◌*ℤ◌, int_le, int_lt, unsigned_abs, if◌then◌else◌}
use Rattle.std.specs.Int.{int_max, int_min, is_negative}
use Rattle.sdm_rules.specs.declared.authorities.Authority.{Authority}
use Rattle.sdm_rules.specs.declared.authorities.Authority.TheVariants.{Stop}
use Rattle.sdm_rules.specs.declared.data.Band.{Band}
use Rattle.sdm_rules.specs.declared.data.Gradient.{Gradient}
use Rattle.sdm_rules.specs.declared.data.NationalFields.{NationalFields}
use Rattle.sdm_rules.specs.declared.data.SlopeKind.{SlopeKind}
use Rattle.sdm_rules.specs.declared.data.SlopeKind.TheVariants.{Safe, Expected, Normal}
use Rattle.sdm_rules.specs.Cells.{lowest}
use Rattle.sdm_rules.specs.Data.{TrainAndTrack, TrainData}
use Rattle.sdm_rules.specs.Decelerations.{UnderTrain, a_gradient, kn_term, slope_at, slope_under, track_gradient}
use Rattle.sdm_rules.specs.Opening.{IsAcceptedKind, IsEven, IsOpen, IsStrong}
use Rattle.sdm_rules.specs.Supervision.{opening}

-- ---- the data

-- wet rails
abbrev band : Option ℤ → ℤ → ℤ → ℤ → Band
band upper emergency service normal = record {
  upper = upper;
  emergency = emergency;
  service = service;
  normal = normal;
  kdry = pos 850;
  kwet = pos 950;
  kn_up = pos 0;
  kn_down = pos 0;
  emergency_reduced = None;
}

abbrev gradients : List Gradient
gradients =
    record { start = pos 0; grad = pos 0 } ∷ record { start = pos 200_000; grad = negsuc 49 }
    ∷ record { start = pos 400_000; grad = pos 0 } ∷ []

-- the train of 200 m
unfoldable pub length_cm : ℤ
length_cm = pos 20_000

abbrev train : TrainData
train = record {
  length_cm = length_cm;
  max_speed = pos 160;
  rotating_mass = None;
  cut_off_time = pos 20;
  cut_off_interface = true;
  emergency_time = pos 30;
  service_time = pos 40;
  service_brake = true;
  bands = band (Some (pos 100)) (pos 120) (pos 90) (pos 60) ∷ band None (pos 100) (pos 80) (pos 50) ∷ [];
}

abbrev national : NationalFields
national = record {
  avadh = pos 0;
  adhesion_max = pos 70;
  guidance = false;
  service_in_target = true;
  early_release = false;
  inhibit_under_reading = false;
}

unfoldable pub realistic_line : TrainAndTrack
realistic_line = record {
  train = train;
  national = national;
  track = record {
    length_cm = pos 600_000;
    gradients = gradients;
    speeds = record { start = pos 0; speed = pos 160; delayed = true } ∷ [];
    areas = [];
    no_special = [];
  };
}

abbrev pub realistic_end : Authority
realistic_end = Stop 500_000 505_000 0

-- ---- the gradient under the train

-- from -5 per mille to 0, in tenths of a per mille
record IsSlight (grad : ℤ) : Type 0 where
  least : negsuc 49 ≤ℤ grad
  most : grad ≤ℤ pos 0

of_cell : (falls rises : Bool) → IsSlight (if rises then pos 0 else (if falls then negsuc 49 else pos 0))
of_cell falls true = record { least = omega (arith, ints); most = omega (arith, ints) }
of_cell true false = record { least = omega (arith, ints); most = omega (arith, ints) }
of_cell false false = record { least = omega (arith, ints); most = omega (arith, ints) }

slight : (cell : ℤ) → IsSlight (track_gradient gradients cell)
slight cell = of_cell (int_le (pos 200_000) cell) (int_le (pos 400_000) cell)

lesser : (a b : ℤ) (first : Bool) → IsSlight a → IsSlight b → IsSlight (if first then a else b)
lesser a b true p q = p
lesser a b false p q = q

under : (cell : ℤ) (n : ℕ) → IsSlight (lowest int_min (track_gradient gradients) cell n)
under cell zero = slight cell
under cell (suc n) =
    let rest = lowest int_min (track_gradient gradients) (cell +ℤ pos 1) n in
    lesser rest (track_gradient gradients cell) (int_lt rest (track_gradient gradients cell)) (under (cell +ℤ pos 1) n)
    (slight cell)

-- ---- its slopes

-- from 0.42 m/s² to 1.07 m/s², in 1/Q m/s²
record IsUsual (slope : ℤ) : Type 0 where
  least : pos 10_000_000_000_000 ≤ℤ slope
  most : slope ≤ℤ pos 25_000_000_000_000

-- a brake of 0.5 m/s² to 0.98 m/s² on the gradient
sum_is_usual : (c a : ℤ) → pos 11_700_000_000_000 ≤ℤ c → c ≤ℤ pos 23_000_000_000_000 →
    negsuc 1_128_149_999_999 ≤ℤ a → a ≤ℤ pos 0 → IsUsual (c +ℤ a)
sum_is_usual c a p q x y = record { least = omega (arith, ints, p, x); most = omega (arith, ints, q, y) }

gradient_is : (g : ℤ) → IsSlight g → (negsuc 1_128_149_999_999 ≤ℤ a_gradient None g) × (a_gradient None g ≤ℤ pos 0)
gradient_is (pos zero) s = (omega (arith, ints), omega (arith, ints))
gradient_is (pos (suc n)) s = let h = s.most in absurd (omega (arith, ints, h))
gradient_is (negsuc k) s = let h = s.least in (omega (arith, ints, h), omega (arith, ints, h))

abbrev over : ℤ → UnderTrain
over g = record { grad = g; reduced = false; unaided = false }

-- Kn is 0 uphill and downhill
none_of : (falls : Bool) → (if falls then pos 0 else pos 0) ≡ pos 0
none_of true = refl
none_of false = refl

no_product : (g : ℤ) → pos 2_000 *ℤ pos 0 *ℤ g ≡ pos 0
no_product g = omega (arith, ints)

normal_is : (upper : Option ℤ) (emergency service normal g : ℤ) → kn_term (band upper emergency service normal) g ≡ pos 0
normal_is upper emergency service normal g =
    ap (λ kn. pos 2_000 *ℤ kn *ℤ g) (none_of (is_negative g)) ∙ no_product g

-- with no Kn a normal service brake is the whole of it
normal_usual : (c k g : ℤ) → k ≡ pos 0 → IsSlight g → pos 1_000_000_000 ≤ℤ c → c ≤ℤ pos 1_900_000_000 →
    IsUsual (pos 11_730 *ℤ (c -ℤ k) +ℤ a_gradient None g)
normal_usual c k g none s p q =
    let a = gradient_is g s in
    sum_is_usual (pos 11_730 *ℤ (c -ℤ k)) (a_gradient None g) (omega (arith, ints, none, p)) (omega (arith, ints, none, q)) a.0
    a.1

slow_band : (kind : SlopeKind) (g : ℤ) → IsSlight g →
    IsUsual (slope_under kind train national (over g) (band (Some (pos 100)) (pos 120) (pos 90) (pos 60)))
slow_band Safe g s =
    let a = gradient_is g s in
    sum_is_usual (pos 22_732_740_000_000) (a_gradient None g) (omega (arith, ints)) (omega (arith, ints)) a.0 a.1
slow_band Expected g s =
    let a = gradient_is g s in
    sum_is_usual (pos 21_114_000_000_000) (a_gradient None g) (omega (arith, ints)) (omega (arith, ints)) a.0 a.1
slow_band Normal g s =
    normal_usual (pos 1_200_000_000) (kn_term (band (Some (pos 100)) (pos 120) (pos 90) (pos 60)) g) g
    (normal_is (Some (pos 100)) (pos 120) (pos 90) (pos 60) g) s (omega (arith, ints)) (omega (arith, ints))

fast_band : (kind : SlopeKind) (g : ℤ) → IsSlight g →
    IsUsual (slope_under kind train national (over g) (band None (pos 100) (pos 80) (pos 50)))
fast_band Safe g s =
    let a = gradient_is g s in
    sum_is_usual (pos 18_943_950_000_000) (a_gradient None g) (omega (arith, ints)) (omega (arith, ints)) a.0 a.1
fast_band Expected g s =
    let a = gradient_is g s in
    sum_is_usual (pos 18_768_000_000_000) (a_gradient None g) (omega (arith, ints)) (omega (arith, ints)) a.0 a.1
fast_band Normal g s =
    normal_usual (pos 1_000_000_000) (kn_term (band None (pos 100) (pos 80) (pos 50)) g) g
    (normal_is None (pos 100) (pos 80) (pos 50) g) s (omega (arith, ints)) (omega (arith, ints))

usual : (kind : SlopeKind) (band : ℕ) (cell : ℤ) → band < 2 → IsUsual (slope_at kind realistic_line band cell)
unfolding slope_at realistic_line
usual kind zero cell l =
    slow_band kind (lowest int_min (track_gradient gradients) (int_max cell (pos 0) -ℤ length_cm) (unsigned_abs length_cm))
    (under (int_max cell (pos 0) -ℤ length_cm) (unsigned_abs length_cm))
usual kind (suc zero) cell l =
    fast_band kind (lowest int_min (track_gradient gradients) (int_max cell (pos 0) -ℤ length_cm) (unsigned_abs length_cm))
    (under (int_max cell (pos 0) -ℤ length_cm) (unsigned_abs length_cm))
usual kind (suc (suc band)) cell l = absurd (omega (arith, l))

accepted : (kind : SlopeKind) → IsAcceptedKind kind realistic_line
unfolding realistic_line
accepted kind = record { strong = strong; even = even }
  where
    strong : IsStrong kind realistic_line
    strong band cell l = let h = (usual kind band (pos cell) l).least in omega (arith, ints, h)

    even : (band : ℕ) → band < 2 → IsEven kind realistic_line band
    even band l cell cell' =
        let most = (usual kind band (pos cell) l).most in
        let least = (usual kind band (pos cell') l).least in
        omega (arith, ints, most, least)

-- the opening over them is accepted
pub realistic_open : IsOpen (opening realistic_line realistic_end)
unfolding realistic_line
realistic_open = record {
  bands = record { few = omega arith; in_order = (pos 100, refl, omega (arith, ints), refl) };
  usable = accepted;
}
