-- The exact limits are tight: a train that gains all it may and then follows the curve through the place that it has
-- reached by then passes the target wherever that place is past the target's own curve.
use Rattle.std.proofs.Common.{◌≡◌, ℕ, ℤ, suc, pos, neg_ℤ, List, [], ◌∷◌, ◌++◌, ◌+◌, ◌*◌, ◌<◌, ◌≤◌, ◌+ℤ◌, ◌*ℤ◌, ◌<ℤ◌}
use Rattle.std.proofs.Common.{◌≤ℤ◌, max, ap, arith, refl, subst}
use Rattle.std.proofs.lemmas.Int.{ints}
use Rattle.std.proofs.lemmas.List.Elements.{All-nil, All-cons}
use Rattle.std.proofs.Math.Nat.{mul-pos, mul-le-mul_left}
use Rattle.std.proofs.lemmas.Nat.{mul-le}
use Rattle.sdm_num.specs.Fractions.{Fraction, IsAtMost, IsBefore, whole}
use Rattle.sdm_num.proofs.Ints.{scales, scale-+ℤ, scale-≤, scale-≤_cancel}
use Rattle.sdm_num.proofs.Order.{scale-<, at_most_out}
use Rattle.sdm_num.proofs.Floors.{scale-<_cancel}
use Rattle.sdm_rules.specs.declared.motions.Phase.{Phase}
use Rattle.sdm_rules.specs.declared.motions.Phase.TheVariants.{Traction, Build}
use Rattle.sdm_rules.specs.declared.motions.Point.{Point}
use Rattle.sdm_rules.specs.declared.motions.Slice.{Slice}
use Rattle.sdm_rules.specs.declared.motions.Start.{Start}
use Rattle.sdm_rules.specs.Slopes.{Slopes, IsUsable}
use Rattle.sdm_rules.specs.Curves.{exact_at}
use Rattle.sdm_rules.specs.Motion.{IsBraking, IsIn, IsReaction, IsSlice, Motion}
use Rattle.sdm_rules.specs.Reaction.{build_up_of, d_bec, v_bec, v_cut_off}
use Rattle.sdm_rules.specs.Stop.{IsMotionOn}
use Rattle.sdm_laws.proofs.BrakeCurves.Chains.{Chain}
use Rattle.sdm_laws.proofs.BrakeCurves.CurveOrder.{exact_chain, exact_foot, exact_positive}
use Rattle.sdm_ride.proofs.InPlace.{drop, then_braking}
use Rattle.sdm_row_laws.specs.Tightness.{MayExceed, MayPass}
use Rattle.sdm_row_laws.proofs.CurvesThrough.{has_slower, past_foot}
use Rattle.sdm_row_laws.proofs.Following.{BrakesTo, IsAt, follow, point, point_same}

-- ---- the greatest motion before the brakes work

-- with no target speed
max_0 : (x : ℕ) → max x 0 ≡ x
max_0 x = omega arith

-- the speed and the distance after a time `t` of an acceleration `a`
abbrev gained : ℕ → ℕ → ℕ → ℕ
gained v a t = v + 54 * a * t

abbrev gone : ℕ → ℕ → ℕ → ℕ
gone v a t = 1_000_000 * ((v + 27 * a * t) * t)

most_slice : (s a v t : ℕ) (x : Slice) → x.time ≡ s * t → x.to ≡ s * gained v a t → x.length ≡ s * s * gone v a t →
    IsSlice a (s * v) x
most_slice s a v t x time to length = record {
  gains = rw (time, to) (omega arith);
  moves = rw (time, to, length) (omega arith);
}

module _ (s : ℕ) (start : Start) where
  abbrev cut : ℕ
  cut = gained start.speed start.accel1 start.traction

  abbrev bec : ℕ
  bec = gained cut start.accel2 start.berem

  abbrev way1 : ℕ
  way1 = gone start.speed start.accel1 start.traction

  abbrev way2 : ℕ
  way2 = gone cut start.accel2 start.berem

  abbrev pushed : Slice
  pushed = record { phase = Traction; time = s * start.traction; to = s * cut; length = s * s * way1 }

  abbrev built : Slice
  built = record { phase = Build; time = s * start.berem; to = s * bec; length = s * s * way2 }

  bec_is : v_bec (build_up_of start) 0 ≡ bec
  bec_is = omega arith

  way_is : d_bec (build_up_of start) 0 ≡ way1 + way2
  way_is =
      let one : max (start.speed + 27 * start.accel1 * start.traction) 0 ≡ start.speed
      + 27 * start.accel1 * start.traction = max_0 _ in
      let two : v_cut_off (build_up_of start) 0 ≡ cut = max_0 _ in
      rw (one, two) (omega arith)

  all_of_one : (x : Slice) (phase : Phase) → x.phase ≡ phase → IsIn phase (x ∷ [])
  all_of_one x phase e = All-cons (λ (y : Slice). y.phase ≡ phase) x [] e (All-nil _)

  reaction : IsReaction s start (s * start.speed) (pushed ∷ built ∷ [])
  reaction = record {
    traction = pushed ∷ [];
    build = built ∷ [];
    split = refl;
    in_traction = all_of_one pushed Traction refl;
    in_build = all_of_one built Build refl;
    traction_time = omega arith;
    build_time = omega arith;
    slices = (
      most_slice s start.accel1 start.speed start.traction pushed refl refl refl,
      (most_slice s start.accel2 cut start.berem built refl refl refl, tt),
    );
  }

-- ---- the motion

-- from a place on the greatest reaction, and then these braking points
abbrev greatest : ℕ → Start → ℤ → Point → List Point → Motion
greatest s start from first more = record {
  scale = s;
  place = from;
  speed = s * start.speed;
  slices = pushed s start ∷ built s start ∷ [];
  first = first;
  more = more;
}

-- A motion from a start: after the greatest reaction the train follows the curve through the place that it has reached
-- with its speed, `z` and `v`, down to the square `last` at the scale `m`. Its points count `s * s`, which is `k * m`.
record Followed (on : Slopes) (start : Start) (z : ℤ) (v m last : ℕ) : Type 0 where
  k : ℕ
  s : ℕ
  from : ℤ
  first : Point
  end : ℤ
  scale_is : k * m ≡ s * s
  k_pos : 0 < k
  at_end : IsAt k (exact_at on m z v last) end
  goes : (ys : List Point) → IsBraking on (k * m) (point end (k * last)) ys →
      (way : BrakesTo on (s * s) first (point end (k * last)) ys)
      × IsMotionOn on start (greatest s start from first way.more)

-- there is one, where `m` is the square of `r`
followed : (on : Slopes) → IsUsable on → (start : Start) (z : ℤ) (v d r last : ℕ) → v ≡ bec 0 start →
    d ≡ way1 0 start + way2 0 start → z ≡ start.front +ℤ pos d → 0 < r → last ≤ r * r * (v * v) →
    Followed on start z v (r * r) last
followed on usable start z v d r last v_is d_is z_is r_pos le =
    let m = r * r in
    let m_pos : 0 < m = mul-pos r_pos r_pos in
    let chain = subst (λ (y : Fraction). Chain on m y (m * (v * v)) (exact_at on m z v last) last) (exact_foot on m z v)
    (exact_chain on m usable m_pos z v last (m * (v * v)) le) in
    let way = follow on m usable.unit m_pos _ _ _ _ chain in
    let k = way.n * way.n in
    let s = way.n * r in
    let scale_is : k * m ≡ s * s = omega arith in
    let p = (way.at way.n k refl).0 in
    let at = (way.at way.n k refl).1 in
    let q = (way.ends way.n k refl).0 in
    let at_end = (way.ends way.n k refl).1 in
    let from = p +ℤ neg_ℤ (pos (s * s * d)) in
    let reached : p ≡ pos (s * s) *ℤ z = place_reached k m s p z scale_is at.is in
    let begins_at : p ≡ (from +ℤ pos (s * s * way1 s start)) +ℤ pos (s * s * way2 s start) =
    split_way s (way1 s start) (way2 s start) d p d_is in
    let square : k * (m * (v * v)) ≡ s * bec s start * (s * bec s start) =
    square_of k m s v (bec s start) scale_is v_is in
    let first = point p (k * (m * (v * v))) in
    record {
      k = k;
      s = s;
      from = from;
      first = first;
      end = q;
      scale_is = scale_is;
      k_pos = mul-pos way.positive way.positive;
      at_end = at_end;
      goes = λ ys b. (
          let there = subst (λ (i : ℕ). BrakesTo on i first (point q (k * last)) ys) scale_is
          (way.goes way.n k p q ys way.positive refl at at_end b) in (
            there,
            (
              mul-pos way.positive r_pos,
              record {
                place = begin_before s d p z start.front reached z_is;
                speed = omega arith;
                motion = record {
                  reaction = reaction s start;
                  begins = point_same _ _ _ _ begins_at square;
                  braking = there.braking;
                };
              },
            ),
          ));
    }
  where
    place_reached : (k m s : ℕ) (p z : ℤ) → k * m ≡ s * s → pos 1 *ℤ p ≡ pos k *ℤ (pos m *ℤ z) → p ≡ pos (s * s) *ℤ z
    place_reached k m s p z e is = let counted = simp scales at is in rw (← e) (omega (arith, ints, counted))

    begin_before : (s d : ℕ) (p z front : ℤ) → p ≡ pos (s * s) *ℤ z → z ≡ front +ℤ pos d →
        (p +ℤ neg_ℤ (pos (s * s * d))) ≤ℤ (pos (s * s) *ℤ front)
    begin_before s d p z front e z_is = let h = rw (z_is, scale-+ℤ) at e in omega (arith, ints)

    split_way : (s a b d : ℕ) (p : ℤ) → d ≡ a + b →
        p ≡ ((p +ℤ neg_ℤ (pos (s * s * d))) +ℤ pos (s * s * a)) +ℤ pos (s * s * b)
    split_way s a b d p e = rw e (omega (arith, ints))

    square_of : (k m s v b : ℕ) → k * m ≡ s * s → v ≡ b → k * (m * (v * v)) ≡ s * b * (s * b)
    square_of k m s v b e f = rw f (omega (arith, ap (λ (t : ℕ). t * (b * b)) e))

-- Where the front end, with D_bec before it, is past the exact place of V_bec, some motion passes the foot.
pub passes : (on : Slopes) → IsUsable on → (start : Start) (f : ℤ) →
    IsBefore (exact_at on 1 f 0 (v_bec (build_up_of start) 0 * v_bec (build_up_of start) 0))
    (whole (start.front +ℤ pos (d_bec (build_up_of start) 0))) → MayPass on start f
passes on usable start f before =
    let v = v_bec (build_up_of start) 0 in
    let d = d_bec (build_up_of start) 0 in
    let z = start.front +ℤ pos d in
    let past = past_foot on usable f z 0 v (omega arith) before in
    let h = followed on usable start z v d 1 0 (bec_is 0 start) (way_is 0 start) refl (omega arith) (omega arith) in
    let stopped : h.k * 0 ≡ 0 = omega arith in
    let way = h.goes [] stopped in
    record {
      motion = greatest h.s start h.from h.first way.0.more;
      is_motion = way.1;
      past = rw way.0.ends (foot_passed h.k h.s f h.end (exact_at on 1 z v 0) h.scale_is h.k_pos h.at_end.is past);
    }
  where
    foot_passed : (k s : ℕ) (f end : ℤ) (x : Fraction) → k * 1 ≡ s * s → 0 < k → pos x.m *ℤ end ≡ pos k *ℤ x.n →
        IsBefore (whole f) x → (pos (s * s) *ℤ f) <ℤ end
    foot_passed k s f end x e k_pos is past =
        let lt : (pos x.m *ℤ f) <ℤ x.n = (let c = past.crossed in omega (arith, ints)) in
        let more = simp scales at (scale-< k _ _ k_pos lt) in
        let once : k ≡ s * s = omega arith in
        rw (← once) (scale-<_cancel x.m _ _ (simp scales (omega (arith, ints, more, is))))

-- The same of a foot speed: some motion is faster at the foot.
pub exceeds : (on : Slopes) → IsUsable on → (start : Start) (f : ℤ) (w : ℕ) → w < v_bec (build_up_of start) 0 →
    IsBefore (exact_at on 1 f w (v_bec (build_up_of start) 0 * v_bec (build_up_of start) 0))
    (whole (start.front +ℤ pos (d_bec (build_up_of start) 0))) → MayExceed on start f w
exceeds on usable start f w lt before =
    let v = v_bec (build_up_of start) 0 in
    let d = d_bec (build_up_of start) 0 in
    let z = start.front +ℤ pos d in
    let slow = has_slower on usable f z w v (past_foot on usable f z w v (omega arith) before) in
    let m = slow.r * slow.r in
    let m_pos : 0 < m = mul-pos slow.positive slow.positive in
    let last = suc (m * (w * w)) in
    let h = followed on usable start z v d slow.r last (bec_is 0 start) (way_is 0 start) refl slow.positive
    (square_above m w v m_pos lt) in
    let there = point h.end (h.k * last) in
    let rest = drop on (h.k * m) h.end (h.k * last) 0 usable (omega arith) in
    let stopped = then_braking on (h.k * m) there rest.via (point h.end 0) [] rest.steps refl in
    let way = h.goes (rest.via ++ point h.end 0 ∷ []) stopped in
    record {
      motion = greatest h.s start h.from h.first way.0.more;
      is_motion = way.1;
      point = there;
      there = way.0.has there (0, omega arith, refl);
      past = at_place h.k m h.s f h.end (exact_at on m z v last) h.scale_is
          (exact_positive on m z v last usable m_pos) h.at_end.is slow.reached;
      fast = faster h.k m h.s w h.scale_is h.k_pos;
    }
  where
    square_above : (s w v : ℕ) → 0 < s → w < v → suc (s * (w * w)) ≤ s * (v * v)
    square_above s w v s_pos lt =
        let up : suc w * suc w ≤ v * v = mul-le (suc w) (suc w) v v lt lt in
        let wide : s * (suc w * suc w) ≤ s * (v * v) = mul-le-mul_left s up in
        let open_up : s * (suc w * suc w) ≡ s * (w * w) + 2 * (s * w) + s = omega arith in
        omega arith

    at_place : (k m s : ℕ) (f end : ℤ) (x : Fraction) → k * m ≡ s * s → 0 < x.m → pos x.m *ℤ end ≡ pos k *ℤ x.n →
        IsAtMost (whole (pos m *ℤ f)) x → (pos (s * s) *ℤ f) ≤ℤ end
    at_place k m s f end x e x_pos is reached =
        let more = simp scales at (scale-≤ k _ _ (at_most_out _ x reached)) in
        rw (← e) (scale-≤_cancel x.m _ _ x_pos (simp scales (omega (arith, ints, more, is))))

    faster : (k m s w : ℕ) → k * m ≡ s * s → 0 < k → s * s * (w * w) < k * suc (m * (w * w))
    faster k m s w e k_pos = rw (← e) (omega arith)
