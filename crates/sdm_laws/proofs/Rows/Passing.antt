-- A faster train passes every limit that a slower one would pass where it is. With the speed V_bec and D_bec rise and
-- places of brake curves fall, so each computed limit lies at or before that of the slower train; and the greater speed
-- is above all that the lesser one is above.
use Rattle.std.proofs.Common.{◌≡◌, ℕ, ℤ, Bool, true, false, not, nat_lt, List, [], ◌∷◌, Option, Some, None, ◌<◌}
use Rattle.std.proofs.Common.{◌≤◌, ◌+◌, ◌*◌, ◌||◌, ◌&&◌, suc, refl, arith, ap, sym, ◌∙◌}
use Rattle.std.specs.Prelude.{if◌then◌else◌}
use Rattle.std.proofs.lemmas.Int.{ints}
use Rattle.std.proofs.lemmas.Nat.{mul-le}
use Rattle.std.proofs.lemmas.Bool.{true≢false, not-true}
use Rattle.std.proofs.Math.Bool.{and-false}
use Rattle.std.proofs.lemmas.Bool.Decides.{nat_tests}
use Rattle.std.specs.List.{list_any}
use Rattle.std.specs.Option.{option_map_or}
use Rattle.sdm_num.specs.Units.{notches, distance_at, top_kmh}
use Rattle.sdm_num.specs.Fractions.{Fraction, IsAtMost, less, lesser}
use Rattle.sdm_num.specs.Readings.{Estimate, OdometerReading}
use Rattle.sdm_num.proofs.Ints.{scale-≤}
use Rattle.sdm_num.proofs.Order.{at_most_trans, lesser_cases, whole_at_most}
use Rattle.sdm_rules.specs.declared.data.SlopeKind.{SlopeKind}
use Rattle.sdm_rules.specs.declared.data.SlopeKind.TheVariants.{Safe, Expected, Normal}
use Rattle.sdm_rules.specs.declared.data.Times.{Times}
use Rattle.sdm_rules.specs.declared.display.LimitName.{LimitName}
use Rattle.sdm_rules.specs.declared.limits.LimitKind.{LimitKind}
use Rattle.sdm_rules.specs.declared.limits.LimitKind.TheVariants.{Ebi, Sbi, Warning, Permitted, Indication}
use Rattle.sdm_rules.specs.declared.targets.Target.{Target}
use Rattle.sdm_rules.specs.declared.targets.TargetKind.{TargetKind}
use Rattle.sdm_rules.specs.declared.targets.TargetKind.TheVariants.{Mrsp, Loa, Eoa, Svl}
use Rattle.sdm_rules.specs.Slopes.{IsUsable}
use Rattle.sdm_rules.specs.Data.{TrainAndTrack, HasBands}
use Rattle.sdm_rules.specs.Decelerations.{slopes_of}
use Rattle.sdm_rules.specs.Margins.{margin_of}
use Rattle.sdm_rules.specs.Targets.{with_margin, target_speed, foot_speed_of}
use Rattle.sdm_rules.specs.Reaction.{BuildUp, build_up_from, d_bec, v_bec, v_est_delta0, reaction_times, driver_time}
use Rattle.sdm_rules.specs.Reaction.{warning_time}
use Rattle.sdm_rules.specs.Limits.{SupervisionLimits, computed, limits_of, limits_of_kind, limits_from_sbi, limit_in}
use Rattle.sdm_rules.specs.Limits.{ebd_limits_of, sbd_limits_of, guidance_place, v_bec_for, d_bec_for}
use Rattle.sdm_rules.specs.Triggers.{Situation, above_release, front_for, is_passed, is_past}
use Rattle.sdm_rules.specs.Display.{counts_release, display_speed, estimate_at, is_exceeded, kind_of, passes_limit}
use Rattle.sdm_rules.specs.Display.{situation_at}
use Rattle.sdm_rules.specs.Supervision.{situation_of}
use Rattle.sdm_rules.specs.Machines.{Implies}
use Rattle.sdm_rules.specs.Opening.{HasAcceptedSlopes}
use Rattle.sdm_laws.specs.SupervisionLaws.{LawOfPassing}
use Rattle.sdm_laws.proofs.BrakeCurves.CurveOrder.{stepped_falls}
use Rattle.sdm_laws.proofs.Openings.AcceptedSlopes.{accepted_usable}
use Rattle.sdm_laws.proofs.Rows.CalculatedRelease.{greatest_is}
use Rattle.sdm_laws.proofs.Rows.Nearness.{at_most_sooner, less_order, lesser_order}
use Rattle.sdm_laws.proofs.Rows.TriggerOrder.{AreSooner, IsSooner, IsSoonerIfAny, same, or_implies, and_implies}
use Rattle.sdm_laws.proofs.Rows.TriggerOrder.{any_implies, passed_implies}

-- ---- places

-- `low` is at or before `x`
record IsAhead (low x : Fraction) : Type 0 where
  low_positive : 0 < low.m
  at_most : IsAtMost low x

-- the same where there may be none: both or neither
abbrev IsAheadIfAny : Option Fraction → Option Fraction → Type 0
IsAheadIfAny None None = Unit {0}
IsAheadIfAny None (Some x) = ⊥
IsAheadIfAny (Some low) None = ⊥
IsAheadIfAny (Some low) (Some x) = IsAhead low x

-- more grains less
less_more : (x : Fraction) (k k' : ℕ) → k ≤ k' → IsAtMost (less x k') (less x k)
less_more x k k' le =
    let grains = mul-le k x.m k' x.m le (omega arith) in
    record { crossed = scale-≤ x.m _ _ (omega (arith, ints)) }

-- more grains less stay ahead
less_ahead : (low x : Fraction) (k k' : ℕ) → k ≤ k' → IsAhead low x → IsAhead (less low k') (less x k)
less_ahead low x k k' le h = record {
  low_positive = h.low_positive;
  at_most = at_most_trans (less low k') (less low k) (less x k) h.low_positive (less_more low k k' le)
      (less_order low x k h.at_most);
}

-- a front end is past the later place only where it is past the one ahead
ahead_sooner : (low x : Fraction) → IsAhead low x → IsSooner 0 x 0 low
ahead_sooner low x h = at_most_sooner low x h.low_positive h.at_most

-- the lesser of two stays ahead, where there is a second one
guided_ahead : (guide guide' : Option Fraction) (low x : Fraction) → IsAheadIfAny guide' guide → IsAhead low x →
    IsAhead (option_map_or (λ g. lesser g low) guide' low) (option_map_or (λ g. lesser g x) guide x)
guided_ahead None None low x h k = k
guided_ahead (Some g) None low x h k = absurd h
guided_ahead None (Some g') low x h k = absurd h
guided_ahead (Some g) (Some g') low x h k = record {
  low_positive = lesser_cases (λ z. 0 < z.m) g' low (λ _. h.low_positive) (λ _. k.low_positive);
  at_most = lesser_order g' g low x h.low_positive k.low_positive h.at_most k.at_most;
}

-- the way in a time rises with the speed
way_rises : (v v' time : ℕ) → v ≤ v' → distance_at v time ≤ distance_at v' time
way_rises v v' time le = let more = mul-le v time v' time le (omega arith) in omega (arith, more)

-- ---- limits

-- W, P and I fall with the speed where the SBI and the guidance place do
from_sbi_sooner : (times : Times) (v v' : ℕ) (guide guide' ebi ebi' : Option Fraction) (sbi sbi' : Fraction) → v ≤ v' →
    IsAheadIfAny guide' guide → IsSoonerIfAny 0 ebi 0 ebi' → IsAhead sbi' sbi →
    AreSooner 0 (limits_from_sbi times v guide ebi sbi) 0 (limits_from_sbi times v' guide' ebi' sbi')
from_sbi_sooner times v v' guide guide' ebi ebi' sbi sbi' le guides ebis sbis =
    let permitted = guided_ahead guide guide' _ _ guides
    (less_ahead sbi' sbi _ _ (way_rises v v' driver_time le) sbis) in
    record {
      each = λ kind.
          elim kind as (λ k. IsSoonerIfAny 0 (limit_in k (limits_from_sbi times v guide ebi sbi)) 0
          (limit_in k (limits_from_sbi times v' guide' ebi' sbi'))) [
            | Ebi ↦ ebis
            | Sbi ↦ ahead_sooner sbi' sbi sbis
            | Warning ↦ ahead_sooner _ _ (less_ahead sbi' sbi _ _ (way_rises v v' warning_time le) sbis)
            | Permitted ↦ ahead_sooner _ _ permitted
            | Indication ↦ ahead_sooner _ _ (less_ahead _ _ _ _ (way_rises v v' times.indication le) permitted)
          ];
    }

-- D_bec's products rise
products_rise : (a b c d t u : ℕ) → a ≤ b → c ≤ d → 1_000_000 * (a * t + c * u) ≤ 1_000_000 * (b * t + d * u)
products_rise a b c d t u le le' =
    let one = mul-le a t b t le (omega arith) in
    let two = mul-le c u d u le' (omega arith) in
    omega (arith, one, two)

-- a build-up from a greater speed has a greater V_bec
v_bec_rises : (b : BuildUp) (speed target : ℕ) → b.speed ≤ speed →
    v_bec b target ≤ v_bec (record b { speed = speed }) target
v_bec_rises b speed target le = omega arith

-- and a greater D_bec
d_bec_rises : (b : BuildUp) (speed target : ℕ) → b.speed ≤ speed →
    d_bec b target ≤ d_bec (record b { speed = speed }) target
d_bec_rises b speed target le = products_rise _ _ _ _ b.traction b.berem (omega arith) (omega arith)

module _ (d : TrainAndTrack) (usable : (kind : SlopeKind) → IsUsable (slopes_of kind d)) where
  -- a computed place falls where the speed rises
  place_ahead : (kind : SlopeKind) (f : ℤ) (w v v' : ℕ) → v ≤ v' →
      IsAhead (computed (slopes_of kind d) f w v') (computed (slopes_of kind d) f w v)
  place_ahead kind f w v v' le = record {
    low_positive = omega arith;
    at_most = whole_at_most _ _ (stepped_falls (slopes_of kind d) f w v v' (usable kind) le);
  }

  module _ (e : Estimate) (v : ℕ) (t : Target) (le : e.speed ≤ v) where
    -- so does the guidance curve's, where there is one
    guide_ahead : IsAheadIfAny (guidance_place computed d (record e { speed = v }) t) (guidance_place computed d e t)
    guide_ahead =
        elim d.national.guidance
        as (λ g. IsAheadIfAny
        (if g then Some (computed (slopes_of Normal d) t.place (target_speed t) v) else None)
        (if g then Some (computed (slopes_of Normal d) t.place (target_speed t) e.speed) else None)) [
          | true ↦ place_ahead Normal t.place (target_speed t) e.speed v le
          | false ↦ tt
        ]

    -- the EBI falls since the curve's place at V_bec does and D_bec rises; the SBI, since the way in T_bs rises too
    ebd_sooner : (guide guide' : Option Fraction) → IsAheadIfAny guide' guide →
        AreSooner 0 (ebd_limits_of computed d e t guide) 0 (ebd_limits_of computed d (record e { speed = v }) t guide')
    ebd_sooner guide guide' guides =
        let b = build_up_from d e in
        let bec = v_bec_rises b (v_est_delta0 d (record e { speed = v })) (target_speed t) (omega arith) in
        let way = d_bec_rises b (v_est_delta0 d (record e { speed = v })) (target_speed t) (omega arith) in
        let ebi = less_ahead _ _ (d_bec_for d e t) (d_bec_for d (record e { speed = v }) t) way
        (place_ahead Safe t.place (foot_speed_of t) (v_bec_for d e t) (v_bec_for d (record e { speed = v }) t) bec) in
        from_sbi_sooner (reaction_times d) e.speed v guide guide' _ _ _ _ le guides (ahead_sooner _ _ ebi)
        (less_ahead _ _ _ _ (way_rises e.speed v (reaction_times d).bs le) ebi)

    -- the EOA's SBI falls since the SBD's place does and the way in T_bs rises
    sbd_sooner : (guide guide' : Option Fraction) → IsAheadIfAny guide' guide →
        AreSooner 0 (sbd_limits_of computed d e t guide) 0 (sbd_limits_of computed d (record e { speed = v }) t guide')
    sbd_sooner guide guide' guides =
        from_sbi_sooner (reaction_times d) e.speed v guide guide' None None _ _ le guides tt
        (less_ahead _ _ _ _ (way_rises e.speed v (reaction_times d).bs le)
        (place_ahead Expected t.place 0 e.speed v le))

    kind_sooner : (kind : TargetKind) →
        AreSooner 0 (limits_of_kind computed d e t kind) 0 (limits_of_kind computed d (record e { speed = v }) t kind)
    kind_sooner Mrsp = ebd_sooner _ _ guide_ahead
    kind_sooner Loa = ebd_sooner _ _ guide_ahead
    kind_sooner Eoa = sbd_sooner _ _ guide_ahead
    kind_sooner Svl = ebd_sooner None None tt

    -- each limit of a target falls where the speed rises
    limits_sooner : AreSooner 0 (limits_of computed d e t) 0 (limits_of computed d (record e { speed = v }) t)
    unfolding limits_of
    limits_sooner = kind_sooner t.kind

-- ---- a greater speed, with the limits of the lesser one

above_more : (a v v' : ℕ) → v ≤ v' → Implies (nat_lt a v) (nat_lt a v')
above_more a v v' le e = grind (arith, nat_tests)

module _ (now : Situation) (v v' : ℕ) (le : v ≤ v') where
  -- the ceiling's limit or some target's is passed
  passed_more : (limits : Target → SupervisionLimits) (kind : LimitKind) →
      Implies (is_passed kind limits 0 (situation_at v now)) (is_passed kind limits 0 (situation_at v' now))
  passed_more limits kind =
      or_implies _ _ _ _ (above_more (notches now.ceiling_kmh + margin_of kind now.ceiling_kmh) v v' le)
      (any_implies _ _ now.targets
      (λ t. and_implies _ _ (option_map_or (is_past 0 (front_for now.est now.front t.kind)) (limit_in kind (limits t))
      false) _ (above_more (with_margin (margin_of kind) t) v v' le) (same _)))

  -- V_rel, where there is one
  release_more : (release : Option ℕ) →
      Implies (above_release (record now { speed = v; release = release }))
      (above_release (record now { speed = v'; release = release }))
  release_more None = same false
  release_more (Some kmh) = above_more (notches kmh) v v' le

  -- the limits stay, and the speed rises
  speed_implies : (limits : Target → SupervisionLimits) (name : LimitName) →
      Implies (is_exceeded name limits (situation_at v now)) (is_exceeded name limits (situation_at v' now))
  speed_implies limits name =
      or_implies _ _ _ _ (passed_more limits (kind_of name))
      (and_implies (counts_release name) _ _ _ (same _) (release_more now.release))

-- the speed stays, and the limits fall
limits_imply : (f g : Target → SupervisionLimits) (now : Situation) → ((t : Target) → AreSooner 0 (f t) 0 (g t)) →
    (name : LimitName) → Implies (is_exceeded name f now) (is_exceeded name g now)
limits_imply f g now sooner name =
    or_implies _ _ _ _ (passed_implies f g 0 0 now sooner (kind_of name))
    (same (counts_release name && above_release now))

-- ---- at standstill

none_below_0 : (a : ℕ) → nat_lt a 0 ≡ false
none_below_0 a = grind (arith, nat_tests)

or_none : (a b : Bool) → a ≡ false → b ≡ false → (a || b) ≡ false
or_none a b e e' = rw (e, e')

and_none : (a b : Bool) → a ≡ false → (a && b) ≡ false
and_none a b e = rw e

and_none_second : (a b : Bool) → b ≡ false → (a && b) ≡ false
and_none_second a b e = rw e (and-false a)

any_none : (p : Target → Bool) (ts : List Target) → ((t : Target) → p t ≡ false) → list_any p ts ≡ false
any_none p [] h = refl
any_none p (t ∷ ts) h = or_none (p t) _ (h t) (any_none p ts h)

module _ (now : Situation) where
  passed_at_0 : (limits : Target → SupervisionLimits) (kind : LimitKind) →
      is_passed kind limits 0 (situation_at 0 now) ≡ false
  passed_at_0 limits kind =
      or_none _ _ (none_below_0 (notches now.ceiling_kmh + margin_of kind now.ceiling_kmh))
      (any_none _ now.targets (λ t. and_none _ _ (none_below_0 (with_margin (margin_of kind) t))))

  release_at_0 : (release : Option ℕ) → above_release (record now { speed = 0; release = release }) ≡ false
  release_at_0 None = refl
  release_at_0 (Some kmh) = none_below_0 (notches kmh)

  none_at_0 : (limits : Target → SupervisionLimits) (name : LimitName) →
      is_exceeded name limits (situation_at 0 now) ≡ false
  none_at_0 limits name =
      or_none _ _ (passed_at_0 limits (kind_of name))
      (and_none_second (counts_release name) _ (release_at_0 now.release))

-- ---- the limits of a reading

module _ (d : TrainAndTrack) (bands : HasBands d.train.bands) (accepted : HasAcceptedSlopes d)
    (r : OdometerReading) (now : Situation) (name : LimitName) where
  -- at speed 0 none is passed
  pub standstill_passes_none : passes_limit d r now name 0 ≡ false
  unfolding passes_limit
  standstill_passes_none = none_at_0 now _ name

  -- first the speed rises, then the limits fall
  pub faster_passes : (v v' : ℕ) → v ≤ v' → Implies (passes_limit d r now name v) (passes_limit d r now name v')
  unfolding passes_limit
  faster_passes v v' le e =
      let rises : notches v ≤ notches v' = omega arith in
      let at = limits_of computed d (estimate_at (notches v) r) in
      let fallen = limits_of computed d (estimate_at (notches v') r) in
      limits_imply at fallen (situation_at (notches v') now)
      (λ t. limits_sooner d (λ kind. accepted_usable kind d bands (accepted kind)) (estimate_at (notches v) r)
      (notches v') t rises)
      name
      (speed_implies now (notches v) (notches v') rises at name e)

  -- the display speed is found where the limit isn't passed and at one more is, or the greatest speed is reached
  pub display_speed_is : (k : ℕ) → k ≤ top_kmh → passes_limit d r now name k ≡ false →
      (k < top_kmh → passes_limit d r now name (suc k) ≡ true) → display_speed d r now name ≡ k
  unfolding display_speed
  display_speed_is k le within next =
      greatest_is top_kmh (λ kmh. not (passes_limit d r now name kmh)) k le (ap not within)
      (λ j above top e. absurd (true≢false (sym (faster_passes (suc k) j (omega arith) (next (omega arith)))
      ∙ not-true _ e)))

pub passing : LawOfPassing
passing s r name is = record {
  standstill = standstill_passes_none s.train_and_track is.bands is.usable r (situation_of s r) name;
  upwards = faster_passes s.train_and_track is.bands is.usable r (situation_of s r) name;
}
