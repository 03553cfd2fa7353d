-- What follows where no rule is broken: every test of the list of tests holds. So each number is in its range, and
-- each band in its order.
use Rattle.std.proofs.Common.{◌≡◌, ℕ, ℤ, suc, pos, true, ◌≤ℤ◌, ◌<ℤ◌, ◌<◌, ◌≤◌, List, [], ◌∷◌, Option, Some, None}
use Rattle.std.proofs.Common.{IfSome, All, length, take, refl, ap, ◌∙◌, arith}
use Rattle.std.proofs.lemmas.Int.{ints}
use Rattle.std.proofs.lemmas.List.{length-take-le}
use Rattle.std.proofs.lemmas.List.Elements.{All-nil, All-cons}
use Rattle.sdm_rules.specs.declared.data.Band.{Band}
use Rattle.sdm_rules.specs.declared.faults.TrainFault.{TrainFault}
use Rattle.sdm_rules.specs.declared.faults.TrainFault.TheVariants.{Value}
use Rattle.sdm_rules.specs.Slopes.{most_bands}
use Rattle.sdm_rules.specs.Data.{TrainData, AreBands}
use Rattle.sdm_rules.specs.Ranges.{or_else, is_within_if_any, fault_at, band_refused, train_refused, band_count_fault}
use Rattle.sdm_rules.specs.Ranges.{band_value_fault, band_order_fault, order_of_last, order_of_next, train_fault}
use Rattle.sdm_rules.specs.Ranges.{top_kmh}
use Rattle.sdm_rules.proofs.FaultLaws.{neither, not_refused}
use Rattle.sdm_train.specs.Trains.{IsBand, IsTrain}

-- ---- numbers

-- the test of a number that may be wanting, as a fact
within_if_any : (least greatest : ℤ) (n : Option ℤ) → is_within_if_any least greatest n ≡ true →
    IfSome n (λ x. (least ≤ℤ x) × (x ≤ℤ greatest))
within_if_any least greatest None h = tt
within_if_any least greatest (Some n) h = (grind (arith, ints), grind (arith, ints))

-- a band of which no number is refused has its numbers in their ranges
pub IsBand_of : (b : Band) → band_refused b ≡ None → IsBand b
IsBand_of b h = record {
  upper = within_if_any (pos 1) (pos top_kmh) b.upper (grind arith);
  emergency = grind (arith, ints);
  service = grind (arith, ints);
  normal = grind (arith, ints);
  kdry = grind (arith, ints);
  kwet = grind (arith, ints);
  kn_up = grind (arith, ints);
  kn_down = grind (arith, ints);
  emergency_reduced = within_if_any (pos 1) b.emergency b.emergency_reduced (grind arith);
}

-- ---- bands

-- the test of the count, as a fact
few_of : (count : ℕ) → band_count_fault count ≡ None → (0 < count) × (count ≤ most_bands)
few_of count h = (grind arith, grind arith)

-- so each band has, where no number of the bands is refused
each_band : (i : ℕ) (bands : List Band) → band_value_fault i bands ≡ None → All IsBand bands
each_band i [] h = All-nil IsBand
each_band i (b ∷ more) h =
    let both = neither (fault_at (λ key. Value i key) (band_refused b)) (band_value_fault (suc i) more) h in
    All-cons IsBand b more (IsBand_of b (not_refused _ (band_refused b) both.0)) (each_band (suc i) more both.1)

-- the last band has no upper speed
last_has_none : (i : ℕ) (upper : Option ℤ) → order_of_last i upper ≡ None → upper ≡ None
last_has_none i None h = refl
last_has_none i (Some upper) h = absurd (cc)

-- what is known of an upper speed that is in order: it is above `above`, and what comes after it is in order
next_has_one : (i : ℕ) (above : ℤ) (upper : Option ℤ) (later : ℤ → Option TrainFault) →
    order_of_next i above upper later ≡ None
    → (u : ℤ) × (upper ≡ Some u) × (above <ℤ u) × (later u ≡ None)
next_has_one i above None later h = absurd (cc)
next_has_one i above (Some u) later h = (u, refl, grind (arith, ints), grind arith)

-- the bands are in order, where none is out of it
in_order : (i : ℕ) (above : ℤ) (bands : List Band) → 0 < length bands → band_order_fault i above bands ≡ None →
    AreBands above bands
in_order i above [] some h = absurd (omega arith)
in_order i above (b ∷ []) some h = last_has_none i b.upper h
in_order i above (b ∷ next ∷ more) some h =
    let it = next_has_one i above b.upper (λ upper. band_order_fault (suc i) upper (next ∷ more)) h in
    (it.0, it.1, it.2, in_order (suc i) it.0 (next ∷ more) (omega arith) it.3)

-- ---- the train

-- each of the four groups of rules, where no rule is broken
record BreaksNoRule (count : ℕ) (t : TrainData) : Type 0 where
  own_numbers : train_refused t ≡ None
  few : (0 < count) × (count ≤ most_bands)
  band_numbers : band_value_fault 1 t.bands ≡ None
  band_order : band_order_fault 1 (pos 0) t.bands ≡ None

-- a train without a fault keeps each group of rules
no_rule_broken : (count : ℕ) (t : TrainData) → train_fault count t ≡ None → BreaksNoRule count t
unfolding train_fault
no_rule_broken count t h =
    let order = band_order_fault 1 (pos 0) t.bands in
    let values = band_value_fault 1 t.bands in
    let own = neither (fault_at (λ key. Value 0 key) (train_refused t))
    (or_else (band_count_fault count) (or_else values order)) h in
    let few = neither (band_count_fault count) (or_else values order) own.1 in
    let bands = neither values order few.1 in
    record {
      own_numbers = not_refused _ (train_refused t) own.0;
      few = few_of count few.0;
      band_numbers =
          bands.0;
      band_order = bands.1;
    }

-- what callers may rely on follows from what was tested
pub IsTrain_of : (t : TrainData) → train_fault (length t.bands) t ≡ None → IsTrain t
IsTrain_of t h =
    let rules = no_rule_broken (length t.bands) t h in
    let own = rules.own_numbers in
    record {
      length_cm = grind (arith, ints, own);
      max_speed = grind (arith, ints, own);
      rotating_mass = within_if_any (pos 0) (pos 50) t.rotating_mass (grind (arith, own));
      cut_off_time = grind (arith, ints, own);
      emergency_time = grind (arith, ints, own);
      service_time = grind (arith, ints, own);
      half_seconds = grind (arith, ints, own);
      not_empty = rules.few.0;
      bands = record { few = rules.few.1; in_order = in_order 1 (pos 0) t.bands rules.few.0 rules.band_order };
      each_band = each_band 1 t.bands rules.band_numbers;
      no_fault = h;
    }

-- where no rule is broken, as many bands are kept as were given
pub length-bands : (count : ℕ) (t : TrainData) (given : List Band) → t.bands ≡ take count given →
    length given ≡ most_bands → train_fault count t ≡ None → length t.bands ≡ count
length-bands count t given kept full h =
    let few = (no_rule_broken count t h).few in
    ap length kept ∙ length-take-le count given (omega arith)
