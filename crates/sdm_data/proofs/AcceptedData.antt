-- Data are accepted as they were given: too many bands are refused before any of them is looked at, and so is a length
-- that no u32 holds.
use Rattle.std.proofs.Common.{◌≡◌, ℕ, pos, ◌-◌, ◌^◌, ◌<◌, ◌≤◌, min, Option, Some, None, ◌⊎◌, inl, inr, length, refl}
use Rattle.std.proofs.Common.{ap, sym, ◌∙◌, arith}
use Rattle.std.proofs.lemmas.Bool.Decides.{nat_tests}
use Rattle.std.proofs.lemmas.List.{take_all}
use Rattle.sdm_rules.specs.declared.faults.TrainFault.{TrainFault}
use Rattle.sdm_rules.specs.declared.faults.TrainFault.TheVariants.{BandCount, Value}
use Rattle.sdm_rules.specs.declared.faults.TrackFault.{TrackFault}
use Rattle.sdm_rules.specs.declared.faults.Section.TheVariants as sections
use Rattle.sdm_rules.specs.Data.{TrainData, TrackData}
use Rattle.sdm_rules.specs.Ranges.{or_else, fault_at, train_refused, band_count_fault, band_value_fault}
use Rattle.sdm_rules.specs.Ranges.{band_order_fault, train_fault, length_fault, gradients_fault, speeds_fault}
use Rattle.sdm_rules.specs.Ranges.{areas_fault, track_fault}
use Rattle.sdm_rules.specs.Slopes.{most_bands}
use Rattle.sdm_data.specs.Given.{with_first_bands}

-- ---- the train

few_or_many : (n : ℕ) → (n ≤ most_bands) ⊎ (most_bands < n)
few_or_many n = grind arith

many_refused : (n : ℕ) → most_bands < n → band_count_fault n ≡ Some BandCount
many_refused n many = grind (arith, nat_tests)

-- no band is left out where there are not too many
first_are_all : (t : TrainData) → length t.bands ≤ most_bands → with_first_bands t ≡ t
first_are_all t few = ap (λ bands. record t { bands = bands }) (take_all most_bands t.bands few)

-- the first of a train's own numbers that is refused
abbrev own_fault : TrainData → Option TrainFault
own_fault t = fault_at (λ key. Value 0 key) (train_refused t)

-- too many bands are refused whatever they are
count_refused : (t : TrainData) (n : ℕ) → most_bands < n → train_fault n t ≡ or_else (own_fault t) (Some BandCount)
unfolding train_fault
count_refused t n many = ap (λ fault. or_else (own_fault t)
    (or_else fault (or_else (band_value_fault 1 t.bands) (band_order_fault 1 (pos 0) t.bands)))) (many_refused n many)

-- with too many bands there is some fault
refused_anyway : (own : Option TrainFault) → or_else own (Some BandCount) ≡ None → ⊥
refused_anyway None is = cc
refused_anyway (Some fault) is = cc

-- the fault is that of all the bands
pub same_train_fault : (t : TrainData) (count : ℕ) → count ≡ min (length t.bands) (2 ^ 32 - 1) →
    train_fault count (with_first_bands t) ≡ train_fault (length t.bands) t
same_train_fault t count is = by_length (few_or_many (length t.bands))
  where
    by_length : (length t.bands ≤ most_bands) ⊎ (most_bands < length t.bands) →
        train_fault count (with_first_bands t) ≡ train_fault (length t.bands) t
    by_length (inl few) =
        let all : count ≡ length t.bands = omega arith in
        ap (λ n. train_fault n (with_first_bands t)) all ∙ ap (train_fault (length t.bands)) (first_are_all t few)
    by_length (inr many) =
        count_refused (with_first_bands t) count (omega arith) ∙ sym (count_refused t (length t.bands) many)

-- a train that breaks no rule has no band past the first ones
pub accepted_bands : (t : TrainData) → train_fault (length t.bands) t ≡ None → with_first_bands t ≡ t
accepted_bands t none = by_length (few_or_many (length t.bands))
  where
    by_length : (length t.bands ≤ most_bands) ⊎ (most_bands < length t.bands) → with_first_bands t ≡ t
    by_length (inl few) = first_are_all t few
    by_length (inr many) = absurd (refused_anyway (own_fault t) (sym (count_refused t (length t.bands) many) ∙ none))

-- ---- the track

-- a track is refused with its length
length_refused : (t : TrackData) (fault : TrackFault) → length_fault t.length_cm ≡ Some fault →
    track_fault t ≡ Some fault
unfolding track_fault
length_refused t fault is = ap (λ first. or_else first (or_else (gradients_fault t.length_cm t.gradients)
    (or_else (speeds_fault t.length_cm t.speeds) (or_else (areas_fault sections.Adhesion t.length_cm t.areas)
    (areas_fault sections.NoSpecial t.length_cm t.no_special))))) is

-- the fault is that of the length as it was given
pub same_track_fault : (t : TrackData) (n : ℕ) → length_fault (pos n) ≡ length_fault t.length_cm →
    (length_fault t.length_cm ≡ None → pos n ≡ t.length_cm) →
    track_fault (record t { length_cm = pos n }) ≡ track_fault t
same_track_fault t n same kept = by_length (length_fault t.length_cm) refl
  where
    by_length : (first : Option TrackFault) → length_fault t.length_cm ≡ first →
        track_fault (record t { length_cm = pos n }) ≡ track_fault t
    by_length None is = ap (λ length. track_fault (record t { length_cm = length })) (kept is)
    by_length (Some fault) is =
        length_refused (record t { length_cm = pos n }) fault (same ∙ is) ∙ sym (length_refused t fault is)
