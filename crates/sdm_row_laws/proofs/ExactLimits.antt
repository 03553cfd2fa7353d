-- The exact EBI of an SvL and the exact SBI of an EOA are tight, and so is the computed EBI but for a millimetre.
use Rattle.std.proofs.Common.{◌≡◌, ℕ, ℤ, pos, neg_ℤ, true, false, ◌+◌, ◌*◌, ◌<◌, ◌≤◌, ◌+ℤ◌, ◌*ℤ◌, max, arith}
use Rattle.std.proofs.Common.{refl, subst, sym}
use Rattle.std.proofs.lemmas.Int.{ints}
use Rattle.std.proofs.lemmas.Option.{same_Some}
use Rattle.std.proofs.Math.Nat.{mul-pos}
use Rattle.std.specs.Prelude.{◌≢◌, Some, All, List, [], ◌∷◌, suc}
use Rattle.sdm_rules.specs.declared.motions.Point.{Point}
use Rattle.std.proofs.lemmas.List.Elements.{All-append, All-contains, All-weaker, Contains-append_right}
use Rattle.sdm_num.specs.Units.{distance_at, millimetre}
use Rattle.sdm_num.specs.Fractions.{Fraction, IsAtMost, IsBefore, less, whole}
use Rattle.sdm_num.specs.Readings.{OdometerReading, estimate_of}
use Rattle.sdm_num.proofs.Comparisons.{lt_of, not_lt_of}
use Rattle.sdm_num.proofs.Ints.{scales}
use Rattle.sdm_rules.specs.declared.data.SlopeKind.TheVariants.{Expected, Safe}
use Rattle.sdm_rules.specs.declared.limits.LimitKind.TheVariants.{Ebi, Sbi}
use Rattle.sdm_rules.specs.declared.motions.Start.{Start}
use Rattle.sdm_rules.specs.Cells.{place_of_cell}
use Rattle.sdm_rules.specs.Curves.{exact, exact_at}
use Rattle.sdm_rules.specs.Decelerations.{slopes_of}
use Rattle.sdm_rules.specs.Limits.{d_bec_for, exact_places, limits_of, limits_of_kind, v_bec_for}
use Rattle.sdm_rules.specs.Data.{TrainAndTrack}
use Rattle.sdm_rules.specs.declared.targets.Target.{Target}
use Rattle.sdm_rules.specs.declared.targets.TargetKind.{TargetKind}
use Rattle.sdm_rules.specs.declared.targets.TargetKind.TheVariants.{Mrsp, Loa, Eoa, Svl}
use Rattle.sdm_rules.specs.Motion.{IsBy, KeepsTo, last_point, slice_ends}
use Rattle.sdm_rules.specs.Reaction.{BuildUp, build_up_from, build_up_of, d_bec, v_bec, v_cut_off, reaction_start, reaction_times}
use Rattle.sdm_rules.specs.Slopes.{Slopes, IsUsable}
use Rattle.sdm_rules.specs.Stop.{SlowsTo, StopsBy}
use Rattle.sdm_rules.specs.Targets.{foot_speed_of, svl_target, target_speed}
use Rattle.sdm_rules.specs.Triggers.{is_past}
use Rattle.sdm_laws.specs.MotionLaws.{IsHeldByCurve, IsInReach, IsWithinCurve}
use Rattle.sdm_laws.specs.SupervisionLaws.{IsJustBefore}
use Rattle.sdm_laws.proofs.Moving.Braking.{braking, within_held}
use Rattle.sdm_laws.proofs.Moving.Reaction.{in_reach}
use Rattle.sdm_laws.proofs.Rows.CalculatedRelease.{way_of_trip}
use Rattle.sdm_laws.proofs.Rows.Headline.{open_usable}
use Rattle.sdm_laws.proofs.Rows.MachineOrder.{limits_near}
use Rattle.sdm_laws.proofs.Rows.Nearness.{low_sooner}
use Rattle.sdm_laws.proofs.Rows.StopFacts.{within_first}
use Rattle.sdm_row_laws.specs.Tightness.{IsExactLimit, IsExactSpeedLimit, LawOfExactEoa, LawOfExactSvl, LawOfExactTarget}
use Rattle.sdm_row_laws.specs.Tightness.{LawOfRefutation, LawOfTightEoa, LawOfTightSvl, MayExceed, MayPass}
use Rattle.sdm_row_laws.specs.ServiceStop.{eoa_target, service_start}
use Rattle.sdm_row_laws.proofs.Tight.{exceeds, passes}

-- past the limit is past the curve
past_is : (x : Fraction) (front : ℤ) (d : ℕ) → is_past 0 front (less x d) ≡ true →
    IsBefore x (whole (front +ℤ pos d))
past_is x front d e =
    let lt = lt_of (less x d).n (pos x.m *ℤ (front +ℤ pos 0)) e in
    let lt' = simp scales at lt in
    record { crossed = simp scales (omega (arith, ints, lt')) }

within_is : (x : Fraction) (front : ℤ) (d : ℕ) → is_past 0 front (less x d) ≡ false →
    IsAtMost (whole (front +ℤ pos d)) x
within_is x front d e =
    let le = not_lt_of (less x d).n (pos x.m *ℤ (front +ℤ pos 0)) e in
    let le' = simp scales at le in
    record { crossed = simp scales (omega (arith, ints, le')) }

-- every motion from a start stops by the foot where the front end, with D_bec before it, isn't past the exact place
stops_exactly : (on : Slopes) → IsUsable on → (start : Start) (f : ℤ) →
    IsAtMost (whole (start.front +ℤ pos (d_bec (build_up_of start) 0)))
    (exact_at on 1 f 0 (v_bec (build_up_of start) 0 * v_bec (build_up_of start) 0)) → StopsBy on start f
stops_exactly on usable start f h m is =
    let s = m.scale in
    let s_pos : 0 < s * s = mul-pos is.0 is.0 in
    let reached = in_reach on start m 0 is.1.motion is.1.speed in
    let within = within_first on usable s f 0 (v_bec (build_up_of start) 0) (d_bec (build_up_of start) 0) start.front
    m.place m.first s_pos h is.1.place reached.begins in
    let held = braking on (s * s) f 0 m.first m.more usable s_pos is.1.motion.braking within in
    All-weaker (IsHeldByCurve on (s * s) f 0) (IsBy s f) (λ y k. k.standing refl) (m.first ∷ m.more) held

-- the limit of a start is the exact place of V_bec, less D_bec
pub exact_limit : (on : Slopes) → IsUsable on → (start : Start) (f : ℤ) (v d : ℕ) → v_bec (build_up_of start) 0 ≡ v →
    d_bec (build_up_of start) 0 ≡ d → IsExactLimit on start f (less (exact on f 0 v) d)
unfolding exact
exact_limit on usable start f v d speed distance = record {
  stops = λ e. stops_exactly on usable start f
      (rw (speed, distance) (within_is (exact_at on 1 f 0 (v * v)) start.front d e));
  passes = λ e. passes on usable start f
      (rw (speed, distance) (past_is (exact_at on 1 f 0 (v * v)) start.front d e));
}

-- ---- the SvL

pub exact_svl : LawOfExactSvl
unfolding limits_of
exact_svl s r svl ebi o is =
    let d = s.train_and_track in
    subst (IsExactLimit (slopes_of Safe d) (reaction_start d r) (place_of_cell (pos svl))) (same_Some _ _ is)
    (exact_limit (slopes_of Safe d) (open_usable s o Safe) (reaction_start d r) (place_of_cell (pos svl)) _ _ refl refl)

-- past a computed place by a millimetre is past the exact one
past_by_millimetre : (low x : Fraction) (front : ℤ) → IsJustBefore low x →
    is_past 0 (front +ℤ neg_ℤ (pos millimetre)) low ≡ true → is_past 0 front x ≡ true
past_by_millimetre low x front near past =
    let e : (front +ℤ neg_ℤ (pos millimetre)) +ℤ pos millimetre ≡ front +ℤ pos 0 = omega (arith, ints) in
    rw e at ((low_sooner low x near).passed (front +ℤ neg_ℤ (pos millimetre)) past)

pub tight_svl : LawOfTightSvl
unfolding limits_of
tight_svl s r svl ebi o is past =
    let d = s.train_and_track in
    let usable = open_usable s o in
    (exact_limit (slopes_of Safe d) (usable Safe) (reaction_start d r) (place_of_cell (pos svl)) _ _ refl refl).passes
    (past_by_millimetre _ _ r.max ((limits_near d usable r (svl_target svl)).each Ebi)
    (subst (λ (x : Fraction). is_past 0 (r.max +ℤ neg_ℤ (pos millimetre)) x ≡ true) (sym (same_Some _ _ is)) past))

-- ---- the EOA

pub exact_eoa : LawOfExactEoa
unfolding limits_of
exact_eoa s r eoa o =
    let d = s.train_and_track in
    let time = (reaction_times d).bs in
    exact_limit (slopes_of Expected d) (open_usable s o Expected) (service_start d r) (place_of_cell (pos eoa)) r.speed
    (distance_at r.speed time) (omega arith) (way_of_trip r.speed time)

pub tight_eoa : LawOfTightEoa
unfolding limits_of
tight_eoa s r eoa o past =
    let d = s.train_and_track in
    let usable = open_usable s o in
    let time = (reaction_times d).bs in
    (exact_limit (slopes_of Expected d) (usable Expected) (service_start d r) (place_of_cell (pos eoa)) r.speed
    (distance_at r.speed time) (omega arith) (way_of_trip r.speed time)).passes
    (past_by_millimetre _ _ r.est ((limits_near d usable r (eoa_target eoa)).each Sbi) past)

-- ---- a speed target

-- a target that is no faster than the train takes no part in V_bec and D_bec
same_v_bec : (b : BuildUp) (t : ℕ) → t ≤ b.speed → v_bec b t ≡ v_bec b 0
same_v_bec b t le = omega arith

max_same : (x t : ℕ) → t ≤ x → max x t ≡ max x 0
max_same x t le = omega arith

same_d_bec : (b : BuildUp) (t : ℕ) → t ≤ b.speed → d_bec b t ≡ d_bec b 0
same_d_bec b t le =
    let one : max (b.speed + 27 * b.accel1 * b.traction) t ≡ max (b.speed + 27 * b.accel1 * b.traction) 0 =
    max_same _ t (omega arith) in
    let two : v_cut_off b t ≡ v_cut_off b 0 = max_same _ t (omega arith) in
    rw (one, two) refl

-- every motion from a start slows to the foot speed where the front end, with D_bec before it, isn't past the exact place
slows_exactly : (on : Slopes) → IsUsable on → (start : Start) (f : ℤ) (w : ℕ) →
    IsAtMost (whole (start.front +ℤ pos (d_bec (build_up_of start) 0)))
    (exact_at on 1 f w (v_bec (build_up_of start) 0 * v_bec (build_up_of start) 0)) → SlowsTo on start f w
slows_exactly on usable start f w h m is =
    let s = m.scale in
    let s_pos : 0 < s * s = mul-pos is.0 is.0 in
    let K : Point → Type 0 = KeepsTo s f w in
    let reached = in_reach on start m 0 is.1.motion is.1.speed in
    let within : (y : Point) → IsInReach s start 0 m.place y → IsWithinCurve on (s * s) f w y = λ y b.
    within_first on usable s f w (v_bec (build_up_of start) 0) (d_bec (build_up_of start) 0) start.front m.place y s_pos
    h is.1.place b in
    let held = braking on (s * s) f w m.first m.more usable s_pos is.1.motion.braking (within m.first reached.begins) in
    All-append K _ _
    (All-weaker (IsInReach s start 0 m.place) K (λ y b. (within_held on (s * s) f w y usable s_pos (within y b)).past) _
    reached.ends)
    (All-weaker (IsHeldByCurve on (s * s) f w) K (λ y k. k.past) (m.first ∷ m.more) held)

exact_speed_limit : (on : Slopes) → IsUsable on → (start : Start) (f : ℤ) (w v d : ℕ) →
    v_bec (build_up_of start) 0 ≡ v → d_bec (build_up_of start) 0 ≡ d → w < v →
    IsExactSpeedLimit on start f w (less (exact on f w v) d)
unfolding exact
exact_speed_limit on usable start f w v d speed distance lt = record {
  slows = λ e. slows_exactly on usable start f w
      (rw (speed, distance) (within_is (exact_at on 1 f w (v * v)) start.front d e));
  exceeds = λ e. exceeds on usable start f w (rw speed lt)
      (rw (speed, distance) (past_is (exact_at on 1 f w (v * v)) start.front d e));
}

-- the exact EBI of a speed target
ebi_is : (d : TrainAndTrack) (r : OdometerReading) (t : Target) (k : TargetKind) (ebi : Fraction) → k ≢ Eoa → k ≢ Svl →
    (limits_of_kind exact_places d (estimate_of r) t k).ebi ≡ Some ebi →
    less (exact (slopes_of Safe d) t.place (foot_speed_of t) (v_bec_for d (estimate_of r) t))
    (d_bec_for d (estimate_of r) t) ≡ ebi
ebi_is d r t Mrsp ebi a b e = same_Some _ _ e
ebi_is d r t Loa ebi a b e = same_Some _ _ e
ebi_is d r t Eoa ebi a b e = absurd (a refl)
ebi_is d r t Svl ebi a b e = absurd (b refl)

pub exact_target : LawOfExactTarget
unfolding limits_of
exact_target s r t ebi o speed fast is =
    let d = s.train_and_track in
    let b = build_up_from d (estimate_of r) in
    let same = ebi_is d r t t.kind ebi speed.0 speed.1 is in
    subst (IsExactSpeedLimit (slopes_of Safe d) (reaction_start d r) t.place (foot_speed_of t)) same
    (exact_speed_limit (slopes_of Safe d) (open_usable s o Safe) (reaction_start d r) t.place (foot_speed_of t)
    (v_bec_for d (estimate_of r) t) (d_bec_for d (estimate_of r) t) (sym (same_v_bec b (target_speed t) fast.fast))
    (sym (same_d_bec b (target_speed t) fast.fast)) fast.gains)

-- ---- both can't be

last_of : (P : Point → Type 0) (x : Point) (xs : List Point) → All P (x ∷ xs) → P (last_point x xs)
last_of P x [] h = h 0 x (omega arith)
last_of P x (y ∷ ys) h = last_of P y ys (λ k d lt. h (suc k) d (omega arith))

-- where some motion passes a place, not every one stops by it
pub refuted : (on : Slopes) (start : Start) (place : ℤ) → MayPass on start place → StopsBy on start place → ⊥
refuted on start place may stops =
    let m = may.motion in
    let h = last_of (IsBy m.scale place) m.first m.more (stops m may.is_motion) in
    let past = may.past in
    omega (arith, ints)

-- where some motion is faster at a place, not every one slows there
pub refuted_speed : (on : Slopes) (start : Start) (place : ℤ) (w : ℕ) → MayExceed on start place w →
    SlowsTo on start place w → ⊥
refuted_speed on start place w may slows =
    let m = may.motion in
    let slow = All-contains (KeepsTo m.scale place w) _ may.point (slows m may.is_motion)
    (Contains-append_right (slice_ends m.place m.speed m.slices) (m.first ∷ m.more) may.point may.there) in
    let fast = may.fast in
    let kept = slow may.past in
    omega arith

pub refutation : LawOfRefutation
refutation on start place = (refuted on start place, refuted_speed on start place)
