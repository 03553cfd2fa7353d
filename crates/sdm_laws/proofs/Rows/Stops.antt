-- From a covered row every motion stops in time: where the front end is not past a target's computed EBI, all ends of
-- slices and then all braking points are within the target's curve; where V_bec is at most the foot speed, the train
-- is never faster.
use Rattle.std.proofs.Common.{◌≡◌, ℕ, ℤ, pos, neg_ℤ, Bool, true, false, ◌||◌, not, nat_le, List, ◌∷◌, ◌++◌, ◌<◌, ◌≤◌}
use Rattle.std.proofs.Common.{◌*◌, ◌+ℤ◌, ◌*ℤ◌, ◌≤ℤ◌, refl, subst, arith, inl, inr}
use Rattle.std.proofs.lemmas.Int.{ints}
use Rattle.std.proofs.lemmas.Bool.{false≢true, and_parts, not-true, leb-true}
use Rattle.std.proofs.lemmas.List.Elements.{All-append, All-cons, All-contains, All-weaker, Contains-append_right}
use Rattle.std.proofs.lemmas.List.Sums.{AllPass-from_list_all}
use Rattle.std.proofs.lemmas.Nat.{mul-le}
use Rattle.std.proofs.Math.Nat.{mul-le-mul_left, mul-pos}
use Rattle.std.specs.Prelude.{All, IsTrue, Contains, is_some, ◌⊎◌, ◌≢◌}
use Rattle.std.specs.List.{list_all}
use Rattle.std.specs.Option.{option_map_or}
use Rattle.sdm_num.specs.Fractions.{IsAtMost, whole, less}
use Rattle.sdm_num.specs.Readings.{OdometerReading, estimate_of}
use Rattle.sdm_num.proofs.Order.{at_most_trans}
use Rattle.sdm_num.proofs.Comparisons.{not_lt_of}
use Rattle.sdm_rules.specs.declared.data.SlopeKind.TheVariants.{Safe}
use Rattle.sdm_rules.specs.declared.motions.Point.{Point}
use Rattle.sdm_rules.specs.declared.motions.Start.{Start}
use Rattle.sdm_rules.specs.declared.authorities.Authority.{Authority}
use Rattle.sdm_rules.specs.declared.authorities.Authority.TheVariants.{Stop}
use Rattle.sdm_rules.specs.declared.targets.Target.{Target}
use Rattle.sdm_rules.specs.declared.targets.TargetKind.{TargetKind}
use Rattle.sdm_rules.specs.declared.targets.TargetKind.TheVariants.{Mrsp, Loa, Eoa, Svl}
use Rattle.sdm_rules.specs.Slopes.{Slopes, IsUsable}
use Rattle.sdm_rules.specs.Curves.{exact_at, exact, stepped}
use Rattle.sdm_rules.specs.Motion.{Motion, IsBy, KeepsTo, slice_ends}
use Rattle.sdm_rules.specs.Data.{TrainAndTrack}
use Rattle.sdm_rules.specs.Decelerations.{slopes_of}
use Rattle.sdm_rules.specs.Targets.{targets_of, falls_ahead, ends_of, svl_target, target_speed, foot_speed_of}
use Rattle.sdm_rules.specs.Reaction.{build_up_of, d_bec, reaction_start, v_bec}
use Rattle.sdm_rules.specs.Limits.{computed, limits_of, limits_of_kind, v_bec_for, d_bec_for}
use Rattle.sdm_rules.specs.Triggers.{is_past}
use Rattle.sdm_rules.specs.Supervision.{Supervision, situation_of, profile_of, row_of, row_in, is_covered_in}
use Rattle.sdm_rules.specs.Supervision.{is_covered_for, is_met_by_speed}
use Rattle.sdm_rules.specs.Stop.{IsMotionOn, StopsBy, StopsBySvl, MeetsTarget, IsSpeedTarget, IsSafe}
use Rattle.sdm_laws.specs.MotionLaws.{IsBounded, IsHeldByCurve, IsInReach, IsWithinCurve}
use Rattle.sdm_laws.proofs.BrakeCurves.CurveNearness.{near_on}
use Rattle.sdm_laws.proofs.Moving.Braking.{within_held, braking}
use Rattle.sdm_laws.proofs.Rows.MachineOrder.{AreUsable}
use Rattle.sdm_laws.proofs.Moving.Reaction.{AreInReach, in_reach}
use Rattle.sdm_laws.proofs.Rows.StopFacts.{within_first, slower}

-- ---- the SvL among the targets

-- outside release speed monitoring the SvL is among the targets
pub has_svl : (profile : ℤ → ℕ) (front : ℤ) (eoa svl release : ℕ) →
    Contains (targets_of profile (Stop eoa svl release) front false) (svl_target svl)
unfolding targets_of
has_svl profile front eoa svl release =
    Contains-append_right (falls_ahead profile front eoa) (ends_of (Stop eoa svl release) false) (svl_target svl)
    (1, omega arith, refl)

-- a test that all targets pass is passed by each
all_of : (p : Target → Bool) (ts : List Target) (t : Target) → list_all p ts ≡ true → Contains ts t → p t ≡ true
all_of p ts t e = All-contains (λ t. p t ≡ true) ts t (AllPass-from_list_all p ts e)

-- under an end of authority outside release speed monitoring it is passed by the SvL
all_svl : (p : Target → Bool) (profile : ℤ → ℕ) (front : ℤ) (eoa svl release : ℕ) →
    list_all p (targets_of profile (Stop eoa svl release) front false) ≡ true → p (svl_target svl) ≡ true
all_svl p profile front eoa svl release e = all_of p _ (svl_target svl) e (has_svl profile front eoa svl release)

-- ---- one target

-- where the front end is not past a computed place, taken `bec` grains earlier
pub not_past : (on : Slopes) → IsUsable on → (f : ℤ) (w v bec : ℕ) (front : ℤ) → is_past 0 front
    (less (computed on f w v) bec) ≡ false → IsAtMost (whole (front +ℤ pos bec)) (exact_at on 1 f w (v * v))
unfolding exact
not_past on usable f w v bec front e =
    let j = near_on on usable f w v in
    let low = stepped on f w v in
    let k : (pos 1 *ℤ (front +ℤ pos 0)) ≤ℤ (low +ℤ neg_ℤ (pos (bec * 1))) = not_lt_of _ _ e in
    at_most_trans (whole (front +ℤ pos bec)) (whole low) (exact_at on 1 f w (v * v)) j.low_positive
    (record { crossed = omega (arith, ints) }) j.not_past

-- where the front end of a start is not past the computed place of its speed V_bec, taken D_bec earlier, every motion
-- from it stops by the foot
pub stops_before : (on : Slopes) → IsUsable on → (start : Start) (f : ℤ) (v d : ℕ) → v_bec (build_up_of start) 0 ≡ v →
    d_bec (build_up_of start) 0 ≡ d → is_past 0 start.front (less (computed on f 0 v) d) ≡ false → StopsBy on start f
stops_before on usable start f v d speed distance e m is =
    let s = m.scale in
    let B : ℕ → ℕ → Type 0 = λ distance speed. IsBounded (m.place +ℤ pos (s * s * distance)) (s * speed) m.first in
    let s_pos : 0 < s * s = mul-pos is.0 is.0 in
    let h = not_past on usable f 0 v d start.front e in
    let reached = in_reach on start m 0 is.1.motion is.1.speed in
    let bounded = subst (λ (k : ℕ). B d k) speed
    (subst (λ (k : ℕ). B k (v_bec (build_up_of start) 0)) distance reached.begins) in
    let within = within_first on usable s f 0 v d start.front m.place m.first s_pos h is.1.place bounded in
    let held = braking on (s * s) f 0 m.first m.more usable s_pos is.1.motion.braking within in
    All-weaker (IsHeldByCurve on (s * s) f 0) (IsBy s f) (λ y k. k.standing refl) (m.first ∷ m.more) held

module _ (d : TrainAndTrack) (usable : IsUsable (slopes_of Safe d)) (r : OdometerReading) (t : Target)
    (m : Motion) (is : IsMotionOn (slopes_of Safe d) (reaction_start d r) m) where
  pos_m : 0 < m.scale * m.scale
  pos_m = mul-pos is.0 is.0

  -- within D_bec and V_bec
  abbrev IsReached : Point → Type 0
  IsReached = IsInReach m.scale (reaction_start d r) (target_speed t) m.place

  -- in every motion the ends of slices and the first braking point are reached
  reached : AreInReach (reaction_start d r) (target_speed t) m
  reached = in_reach (slopes_of Safe d) (reaction_start d r) m (target_speed t) is.1.motion is.1.speed

  -- where the front end is at or before the EBI on a curve from the target, the whole motion is held by that curve
  held_by_curve :
      is_past 0 r.max (less (computed (slopes_of Safe d) t.place (foot_speed_of t) (v_bec_for d (estimate_of r) t))
      (d_bec_for d (estimate_of r) t)) ≡ false →
      All (IsHeldByCurve (slopes_of Safe d) (m.scale * m.scale) t.place (foot_speed_of t))
      (slice_ends m.place m.speed m.slices)
      × All (IsHeldByCurve (slopes_of Safe d) (m.scale * m.scale) t.place (foot_speed_of t)) (m.first ∷ m.more)
  held_by_curve e =
      let on = slopes_of Safe d in
      let s = m.scale in
      let w = foot_speed_of t in
      let bec = v_bec_for d (estimate_of r) t in
      let distance = d_bec_for d (estimate_of r) t in
      let h = not_past on usable t.place w bec distance r.max e in
      let within : (y : Point) → IsReached y → IsWithinCurve on (s * s) t.place w y =
      λ y b. within_first on usable s t.place w bec distance r.max m.place y pos_m h is.1.place b in (
        All-weaker IsReached (IsHeldByCurve on (s * s) t.place w)
            (λ y b. within_held on (s * s) t.place w y usable pos_m (within y b)) _ reached.ends,
        braking on (s * s) t.place w m.first m.more usable pos_m is.1.motion.braking (within m.first reached.begins),
      )

  -- where V_bec is at most the foot speed, the train is never faster
  never_faster : v_bec_for d (estimate_of r) t ≤ foot_speed_of t →
      All (KeepsTo m.scale t.place (foot_speed_of t)) (slice_ends m.place m.speed m.slices ++ m.first ∷ m.more)
  never_faster le =
      let s = m.scale in
      let bec = v_bec_for d (estimate_of r) t in
      let w = foot_speed_of t in
      let K : Point → Type 0 = KeepsTo s t.place w in
      let top : s * bec * (s * bec) ≤ s * s
      * (w * w) = omega (arith, mul-le-mul_left (s * s) (mul-le bec bec w w le le)) in
      let slow : (y : Point) → IsReached y → K y = λ y b past. omega (arith, b.square) in
      let rest = slower (slopes_of Safe d) (s * s) (s * s * (w * w)) m.first m.more is.1.motion.braking
      (omega (arith, reached.begins.square)) in
      All-append K _ _ (All-weaker IsReached K slow _ reached.ends)
      (All-cons K m.first m.more (slow m.first reached.begins)
      (All-weaker (λ (y : Point). y.square ≤ s * s * (w * w)) K (λ y k past. k) m.more rest))

-- ---- the row

-- a target that is covered isn't passed, or is met by speed
either : (past met : Bool) → (not past || met) ≡ true → (past ≡ false) ⊎ (met ≡ true)
either true met e = inr e
either false met e = inl refl

-- for a covered speed target the front end is not past the EBI, or V_bec is at most the foot speed
within_or_slow : (d : TrainAndTrack) (r : OdometerReading) (t : Target) (k : TargetKind) → k ≢ Eoa → k ≢ Svl →
    option_map_or (λ ebi. not (is_past 0 r.max ebi) || is_met_by_speed k (v_bec_for d (estimate_of r) t)
    (foot_speed_of t)) (limits_of_kind computed d (estimate_of r) t k).ebi true ≡ true →
    (is_past 0 r.max (less (computed (slopes_of Safe d) t.place (foot_speed_of t) (v_bec_for d (estimate_of r) t))
    (d_bec_for d (estimate_of r) t)) ≡ false) ⊎ (v_bec_for d (estimate_of r) t ≤ foot_speed_of t)
within_or_slow d r t Mrsp a b e = elim (either _ (nat_le (v_bec_for d (estimate_of r) t) (foot_speed_of t)) e) [
  | inl x ↦ inl x
  | inr x ↦ inr (leb-true _ _ x)
]
within_or_slow d r t Loa a b e = elim (either _ (nat_le (v_bec_for d (estimate_of r) t) (foot_speed_of t)) e) [
  | inl x ↦ inl x
  | inr x ↦ inr (leb-true _ _ x)
]
within_or_slow d r t Eoa a b e = absurd (a refl)
within_or_slow d r t Svl a b e = absurd (b refl)

-- a speed target that is covered is met by every motion
meets_of : (d : TrainAndTrack) → IsUsable (slopes_of Safe d) → (r : OdometerReading) (t : Target) → IsSpeedTarget t →
    is_covered_for d r.max (estimate_of r) t ≡ true → MeetsTarget d r t
unfolding limits_of
meets_of d usable r t speed e m is =
    let K : Point → Type 0 = KeepsTo m.scale t.place (foot_speed_of t) in
    let H : Point → Type 0 = IsHeldByCurve (slopes_of Safe d) (m.scale * m.scale) t.place (foot_speed_of t) in
    elim (within_or_slow d r t t.kind speed.0 speed.1 e) [
      | inl x ↦ (let held = held_by_curve d usable r t m is x in
          All-weaker H K (λ y k. k.past) _ (All-append H _ _ held.0 held.1))
      | inr x ↦ never_faster d usable r t m is x
    ]

-- by an SvL that is covered every motion stops
pub stops_of : (d : TrainAndTrack) → IsUsable (slopes_of Safe d) → (r : OdometerReading) (svl : ℕ) →
    is_covered_for d r.max (estimate_of r) (svl_target svl) ≡ true → StopsBySvl d r svl
unfolding limits_of
stops_of d usable r svl e m is =
    let t = svl_target svl in
    let past = elim (either _ false e) as (λ _. is_past 0 r.max
    (less (computed (slopes_of Safe d) t.place 0 (v_bec_for d (estimate_of r) t)) (d_bec_for d (estimate_of r) t))
    ≡ false) [ inl x ↦ x | inr x ↦ absurd (false≢true x) ] in
    let held = held_by_curve d usable r t m is past in
    All-weaker (IsHeldByCurve (slopes_of Safe d) (m.scale * m.scale) t.place 0) (IsBy m.scale t.place)
    (λ y k. k.standing refl) (m.first ∷ m.more) held.1

-- in a covered row outside release speed monitoring the SvL is covered
svl_covered : (d : TrainAndTrack) (r : OdometerReading) (profile : ℤ → ℕ) (a : Authority)
    (in_release_monitoring : Bool) (eoa svl release : ℕ) → a ≡ Stop eoa svl release → in_release_monitoring ≡ false →
    list_all (is_covered_for d r.max (estimate_of r)) (targets_of profile a r.max in_release_monitoring) ≡ true →
    is_covered_for d r.max (estimate_of r) (svl_target svl) ≡ true
svl_covered d r profile a in_release_monitoring eoa svl release e f h =
    all_svl (is_covered_for d r.max (estimate_of r)) profile r.max eoa svl release
    (subst (λ (b : Bool). list_all (is_covered_for d r.max (estimate_of r))
    (targets_of profile (Stop eoa svl release) r.max b) ≡ true) f
    (subst (λ (x : Authority). list_all (is_covered_for d r.max (estimate_of r))
    (targets_of profile x r.max in_release_monitoring) ≡ true) e h))

-- THE STOP
pub covered_is_safe : (s : Supervision) (r : OdometerReading) → AreUsable s.train_and_track →
    IsTrue (row_of s r).covered → IsSafe s r
unfolding row_in is_covered_in situation_of
covered_is_safe s r usable covered =
    let now = situation_of s r in
    let both = and_parts (not (is_some now.release))
    (list_all (is_covered_for s.train_and_track r.max (estimate_of r)) now.targets) covered in
    let free = not-true (is_some now.release) both.0 in
    record {
      stops = λ eoa svl release e. stops_of s.train_and_track (usable Safe) r svl
          (svl_covered s.train_and_track r (profile_of s) s.authority
          (is_some now.release) eoa svl release e free both.1);
      meets = λ t is speed. meets_of s.train_and_track (usable Safe) r t speed
          (all_of (is_covered_for s.train_and_track r.max (estimate_of r)) now.targets t both.1 is);
    }
