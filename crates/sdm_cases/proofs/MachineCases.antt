-- The three machines for the emergency command differ, so that their order says something: two bands of 0.7 m/s² meet
-- at 18 km/h, EOA and SvL lie at 1000 m, and the train runs at 14 m/s. The exact EBI is at 860 m; rounding at the
-- border costs the computed one a grain.
use Rattle.std.proofs.Common.{◌≡◌, refl, ap, ◌∙◌}
use Rattle.std.specs.Prelude.{ℕ, zero, suc, ℤ, pos, negsuc, unsigned_abs, Bool, true, false, List, [], ◌∷◌, Option}
use Rattle.std.specs.Prelude.{Some, None}
use Rattle.std.proofs.Math.Path.{fun_ext}
use Rattle.sdm_num.specs.Units.{millimetre}
use Rattle.sdm_num.specs.Fractions.{Fraction, whole}
use Rattle.sdm_num.specs.Readings.{OdometerReading, estimate_of}
use Rattle.sdm_rules.specs.declared.authorities.Authority.TheVariants.{Stop}
use Rattle.sdm_rules.specs.declared.data.Band.{Band}
use Rattle.sdm_rules.specs.declared.data.SlopeKind.{SlopeKind}
use Rattle.sdm_rules.specs.declared.data.SlopeKind.TheVariants.{Safe, Expected, Normal}
use Rattle.sdm_rules.specs.declared.targets.Target.{Target}
use Rattle.sdm_rules.specs.declared.targets.TargetKind.TheVariants.{Eoa, Svl}
use Rattle.sdm_rules.specs.Slopes.{Slopes}
use Rattle.sdm_rules.specs.Data.{TrainAndTrack}
use Rattle.sdm_rules.specs.Decelerations.{slope_at, slopes_of}
use Rattle.sdm_rules.specs.Profile.{mrsp}
use Rattle.sdm_rules.specs.Targets.{targets_of}
use Rattle.sdm_rules.specs.Reaction.{reaction_times}
use Rattle.sdm_rules.specs.Curves.{place_at, corner, arc, stepped, exact, exact_at, arc_back, back}
use Rattle.sdm_rules.specs.Limits.{CurvePlaces, SupervisionLimits, computed, exact_places, limits_of}
use Rattle.sdm_rules.specs.Triggers.{Situation, triggers_of}
use Rattle.sdm_rules.specs.Commands.{emergency_after}
use Rattle.sdm_rules.specs.Supervision.{Supervision, opening}
use Rattle.sdm_rules.specs.Machines.{machine_after, must_after, may_after}
use Rattle.sdm_cases.proofs.Openings.{opening_situation, situation_with}
use Rattle.sdm_cases.proofs.Journeys.{plain_band, plain_national, plain_train_and_track, reading_at}

-- 0.7 m/s² for each brake, up to a speed in km/h
band_up_to : Option ℤ → Band
band_up_to upper = record plain_band { upper = upper; emergency = pos 70; service = pos 70; normal = pos 70 }

-- a level line, for a train with a band up to 18 km/h and another above it
two_band_line : TrainAndTrack
two_band_line =
    let line = plain_train_and_track (pos 10_000) (Some (pos 0)) plain_band [] [] in
    record line { train = record (line.train) { bands = band_up_to (Some (pos 18)) ∷ band_up_to None ∷ [] } }

-- its state, with EOA and SvL at 1000 m
unfoldable two_bands : Supervision
two_bands = opening two_band_line (Stop 100_000 100_000 0)

-- 14 m/s, 756,000 notches, with the front ends at a place in grains
unfoldable at_14_m_s : ℤ → OdometerReading
at_14_m_s place = reading_at 0 place 756_000

-- the emergency command of a machine there that held none
commanded : CurvePlaces → ℕ → ℤ → Bool
commanded P shift place =
    let r = at_14_m_s place in
    emergency_after false (triggers_of (limits_of P two_bands.train_and_track (estimate_of r)) shift
    (situation_with two_bands.train_and_track two_bands.authority [] r)) false false

-- so a machine commands, over the opening's own situation
commanded_by : (P : CurvePlaces) (shift : ℕ) (place : ℤ) →
    machine_after P shift two_bands (at_14_m_s place) false ≡ commanded P shift place
unfolding machine_after two_bands at_14_m_s reading_at two_band_line plain_train_and_track plain_national commanded
    emergency_after
commanded_by P shift place =
    let r = at_14_m_s place in
    ap (λ now. emergency_after false (triggers_of (limits_of P two_bands.train_and_track
    (estimate_of r)) shift now) false false) (opening_situation two_bands.train_and_track two_bands.authority r)

-- 0.7 m/s² in two bands that meet at 18 km/h, cell by cell the same
even : ℕ → ℤ → ℕ
even zero cell = 140_000_000_000
even (suc zero) cell = 140_000_000_000
even (suc (suc band)) cell = 0

even_slopes : Slopes
even_slopes = record { q = 100; uppers = 270_000 ∷ []; slope = even }

-- the slopes of each kind are these, in each cell
each_slope : (kind : SlopeKind) (band : ℕ) (cell : ℤ) →
    unsigned_abs (slope_at kind two_bands.train_and_track band cell) ≡ even band cell
unfolding two_bands two_band_line band_up_to plain_train_and_track plain_national plain_band slope_at even
each_slope Safe zero (pos cell) = refl
each_slope Safe zero (negsuc cell) = refl
each_slope Safe (suc zero) (pos cell) = refl
each_slope Safe (suc zero) (negsuc cell) = refl
each_slope Safe (suc (suc band)) (pos cell) = refl
each_slope Safe (suc (suc band)) (negsuc cell) = refl
each_slope Expected zero (pos cell) = refl
each_slope Expected zero (negsuc cell) = refl
each_slope Expected (suc zero) (pos cell) = refl
each_slope Expected (suc zero) (negsuc cell) = refl
each_slope Expected (suc (suc band)) (pos cell) = refl
each_slope Expected (suc (suc band)) (negsuc cell) = refl
each_slope Normal zero (pos cell) = refl
each_slope Normal zero (negsuc cell) = refl
each_slope Normal (suc zero) (pos cell) = refl
each_slope Normal (suc zero) (negsuc cell) = refl
each_slope Normal (suc (suc band)) (pos cell) = refl
each_slope Normal (suc (suc band)) (negsuc cell) = refl

same_slopes : (kind : SlopeKind) → slopes_of kind two_bands.train_and_track ≡ even_slopes
unfolding two_bands two_band_line band_up_to plain_train_and_track plain_band slopes_of even_slopes
same_slopes kind = ap (λ f. record { q = 100; uppers = 270_000 ∷ []; slope = f })
    (fun_ext (λ band. fun_ext (λ cell. each_slope kind band cell)))

-- the exact place at 14 m/s: 464,400,000,000,000 grains, 860 m
exact_860_m : Fraction
exact_860_m = record {
  n = pos 6_635_532_960_000_000_000_000_000_000_000_000_000_000;
  m = 14_288_400_000_000_000_000_000_000;
}

exact_place : exact_places even_slopes (pos 540_000_000_000_000) 0 756_000 ≡ exact_860_m
unfolding even even_slopes exact_860_m exact exact_at place_at corner arc arc_back back
exact_place = refl

-- the computed place lies a grain before it
computed_place : computed even_slopes (pos 540_000_000_000_000) 0 756_000 ≡ whole (pos 464_399_999_999_999)
unfolding even even_slopes stepped place_at corner arc arc_back back
computed_place = refl

-- the targets at 1000 m
eoa : Target
eoa = record { kind = Eoa; place = pos 540_000_000_000_000; speed = 0 }

svl : Target
svl = record { kind = Svl; place = pos 540_000_000_000_000; speed = 0 }

-- their limits with a place of both curves at 14 m/s: no time of reaction, so EBI and SBI lie there, too
limits_with : Fraction → Target → SupervisionLimits
limits_with x t = limits_of (λ on f w v. x) two_bands.train_and_track (estimate_of (at_14_m_s (pos 0))) t

-- the limits of both targets follow from the place of the curves at 14 m/s
limits_by_place : (P : CurvePlaces) (place : ℤ) (x : Fraction) →
    P even_slopes (pos 540_000_000_000_000) 0 756_000 ≡ x →
    (limits_of P two_bands.train_and_track (estimate_of (at_14_m_s place)) eoa ≡ limits_with x eoa)
    × (limits_of P two_bands.train_and_track (estimate_of (at_14_m_s place)) svl ≡ limits_with x svl)
unfolding two_bands two_band_line plain_train_and_track plain_national at_14_m_s reading_at eoa svl limits_with
    limits_of reaction_times
limits_by_place P place x at = (
  rw (same_slopes Expected, at) refl,
  rw (same_slopes Safe, at) refl,
)

-- what the triggers look at, with the front ends at a place up to which no speed limit falls
seen_at : ℤ → Situation
seen_at place = record {
  speed = 756_000;
  ceiling_kmh = 160;
  est = place;
  front = place;
  targets = eoa ∷ svl ∷ [];
  past_end = false;
  release = None;
  in_use = true;
}

-- triggers follow from the limits of the targets that are there
triggers_of_two : (f g : Target → SupervisionLimits) (shift : ℕ) (place : ℤ) → f eoa ≡ g eoa → f svl ≡ g svl →
    triggers_of f shift (seen_at place) ≡ triggers_of g shift (seen_at place)
unfolding seen_at triggers_of eoa svl
triggers_of_two f g shift place e s = rw (e, s) refl

-- the emergency command by the place of the curves at 14 m/s
decided : Fraction → ℕ → ℤ → Bool
decided x shift place = emergency_after false (triggers_of (limits_with x) shift (seen_at place)) false false

-- and so by the place of its curves
commanded_at : (P : CurvePlaces) (shift : ℕ) (place : ℤ) (x : Fraction) →
    P even_slopes (pos 540_000_000_000_000) 0 756_000 ≡ x →
    situation_with two_bands.train_and_track two_bands.authority [] (at_14_m_s place) ≡ seen_at place →
    machine_after P shift two_bands (at_14_m_s place) false ≡ decided x shift place
unfolding commanded decided
commanded_at P shift place x at seen =
    let limits = limits_by_place P place x at in
    commanded_by P shift place
    ∙ (ap (λ now. emergency_after false (triggers_of
    (limits_of P two_bands.train_and_track (estimate_of (at_14_m_s place))) shift now) false false) seen
    ∙ ap (λ t. emergency_after false t false false) (triggers_of_two
    (limits_of P two_bands.train_and_track (estimate_of (at_14_m_s place)))
    (limits_with x) shift place limits.0 limits.1))

-- the front ends a grain past the exact EBI, on it, a millimetre less a grain before it, and a millimetre before it
past_the_limit : ℤ
past_the_limit = pos 464_400_000_000_001

on_the_limit : ℤ
on_the_limit = pos 464_400_000_000_000

within_a_millimetre : ℤ
within_a_millimetre = pos 464_399_460_000_001

a_millimetre_before : ℤ
a_millimetre_before = pos 464_399_460_000_000

-- at each of these places the triggers look at just that
seen_past : situation_with two_bands.train_and_track two_bands.authority [] (at_14_m_s past_the_limit)
    ≡ seen_at past_the_limit
unfolding two_bands two_band_line plain_train_and_track plain_national at_14_m_s reading_at situation_with seen_at eoa
    svl past_the_limit targets_of mrsp
seen_past = refl

seen_on : situation_with two_bands.train_and_track two_bands.authority [] (at_14_m_s on_the_limit)
    ≡ seen_at on_the_limit
unfolding two_bands two_band_line plain_train_and_track plain_national at_14_m_s reading_at situation_with seen_at eoa
    svl on_the_limit targets_of mrsp
seen_on = refl

seen_within : situation_with two_bands.train_and_track two_bands.authority [] (at_14_m_s within_a_millimetre)
    ≡ seen_at within_a_millimetre
unfolding two_bands two_band_line plain_train_and_track plain_national at_14_m_s reading_at situation_with seen_at eoa
    svl within_a_millimetre targets_of mrsp
seen_within = refl

seen_before : situation_with two_bands.train_and_track two_bands.authority [] (at_14_m_s a_millimetre_before)
    ≡ seen_at a_millimetre_before
unfolding two_bands two_band_line plain_train_and_track plain_national at_14_m_s reading_at situation_with seen_at eoa
    svl a_millimetre_before targets_of mrsp
seen_before = refl

-- the emergency commands of the exact, the row and the early machine
three_commands : ℤ → List Bool
three_commands place =
    must_after two_bands (at_14_m_s place) false
    ∷ machine_after computed 0 two_bands (at_14_m_s place) false
    ∷ may_after two_bands (at_14_m_s place) false
    ∷ []

-- the commands of the three machines, by the places of their curves
three_decided : (place : ℤ) →
    situation_with two_bands.train_and_track two_bands.authority [] (at_14_m_s place) ≡ seen_at place →
    three_commands place ≡ decided exact_860_m 0 place ∷ decided (whole (pos 464_399_999_999_999)) 0 place
    ∷ decided exact_860_m millimetre place ∷ []
unfolding three_commands
three_decided place seen =
    rw (
      commanded_at exact_places 0 place exact_860_m exact_place seen,
      commanded_at computed 0 place (whole (pos 464_399_999_999_999)) computed_place seen,
      commanded_at exact_places millimetre place exact_860_m exact_place seen,
    )
    refl

-- past the exact EBI all command; on it the exact machine doesn't, the others do; of places before it within a
-- millimetre only the early machine does, down to the last grain; a millimetre before it none does
machines_differ :
    three_commands past_the_limit ∷ three_commands on_the_limit ∷ three_commands within_a_millimetre
    ∷ three_commands a_millimetre_before ∷ []
    ≡ (true ∷ true ∷ true ∷ []) ∷ (false ∷ true ∷ true ∷ []) ∷ (false ∷ false ∷ true ∷ [])
    ∷ (false ∷ false ∷ false ∷ []) ∷ []
unfolding past_the_limit on_the_limit within_a_millimetre a_millimetre_before decided limits_with exact_860_m seen_at
    eoa svl two_bands two_band_line plain_train_and_track plain_national at_14_m_s reading_at triggers_of limits_of
    reaction_times emergency_after
machines_differ = rw (
  three_decided past_the_limit seen_past,
  three_decided on_the_limit seen_on,
  three_decided within_a_millimetre seen_within,
  three_decided a_millimetre_before seen_before,
) refl
