-- The law of the reaction: the slices of each phase are bounded by one slice of its acceleration and time, at a scale
-- as at scale 1, and both together are V_bec and D_bec. A target speed only makes these greater.
use Rattle.std.proofs.Common.{◌≡◌, ℕ, ℤ, pos, List, [], ◌∷◌, ◌++◌, ◌+◌, ◌*◌, ◌≤◌, ◌+ℤ◌, max, subst, arith}
use Rattle.std.specs.Prelude.{All}
use Rattle.std.proofs.lemmas.Int.{ints}
use Rattle.std.proofs.lemmas.List.Elements.{All-nil, All-cons, All-append}
use Rattle.std.proofs.lemmas.Nat.{mul-le}
use Rattle.std.proofs.Math.Nat.{mul-le-mul_left}
use Rattle.sdm_rules.specs.declared.motions.Phase.TheVariants.{Traction, Build}
use Rattle.sdm_rules.specs.declared.motions.Slice.{Slice}
use Rattle.sdm_rules.specs.declared.motions.Start.{Start}
use Rattle.sdm_rules.specs.Slopes.{Slopes}
use Rattle.sdm_rules.specs.Motion.{AreSlices, Motion, IsMotion, time_of, IsIn, slice_ends, last_point}
use Rattle.sdm_rules.specs.Reaction.{build_up_of, v_cut_off, v_bec, d_bec}
use Rattle.sdm_laws.specs.MotionLaws.{IsBounded, IsInReach}
use Rattle.sdm_laws.proofs.Moving.SliceBounds.{last_speed, distance_of, phase_speed, phase_distance, ends_bounded}
use Rattle.sdm_laws.proofs.Moving.SliceBounds.{slices_split, last_speed-append, distance_of-append, slice_ends-append}
use Rattle.sdm_laws.proofs.Moving.SliceBounds.{last_end}

-- ---- one phase at a scale, over plain numbers

-- the speed after a time with one acceleration, at the scale `s`, is at most `s` times that at scale 1
speed_at_scale : (s speed accel time v : ℕ) → v ≤ s * speed →
    v + 54 * accel * (s * time) ≤ s * (speed + 54 * accel * time)
speed_at_scale s speed accel time v h = omega arith

-- the distance in a time with one acceleration, at the scale `s`, is at most `s * s` times that at scale 1
distance_at_scale : (s speed accel time v distance : ℕ) → v ≤ s * speed →
    2 * distance ≤ 1_000_000 * (2 * v + 54 * accel * (s * time)) * (s * time) →
    distance ≤ s * s * (1_000_000 * ((speed + 27 * accel * time) * time))
distance_at_scale s speed accel time v distance h k = omega (arith, mul-le-mul_left (s * time) h)

-- the distances of both phases together are at most D_bec, at the scale `s`
both_distances : (s mean at_least time rest distance distance' : ℕ) → mean ≤ at_least →
    distance ≤ s * s * (1_000_000 * (mean * time)) →
    distance' ≤ s * s * (1_000_000 * rest) → distance + distance' ≤ s * s * (1_000_000 * (at_least * time + rest))
both_distances s mean at_least time rest distance distance' h k k' = omega (arith, mul-le-mul_left (s * s * time) h)

-- ---- both phases

module _ (s : ℕ) (start : Start) (target : ℕ) (p : ℤ) (v : ℕ) (traction build : List Slice)
    (in_traction : IsIn Traction traction) (in_build : IsIn Build build)
    (traction_time : time_of traction ≡ s * start.traction) (build_time : time_of build ≡ s * start.berem)
    (slices : AreSlices start v (traction ++ build)) (slow : v ≤ s * start.speed) where
  -- the slices of each phase are slices of their own, the second phase from the last speed of the first
  parts : AreSlices start v traction × AreSlices start (last_speed v traction) build
  parts = slices_split start v traction build slices

  -- the speed at the cut-off
  cut_off_speed : v + 54 * start.accel1 * time_of traction ≤ s * v_cut_off (build_up_of start) target
  cut_off_speed =
      let at_least : start.speed + 54 * start.accel1 * start.traction
      ≤ v_cut_off (build_up_of start) target = omega arith in
      let e = speed_at_scale s start.speed start.accel1 start.traction v slow in
      rw traction_time (omega (arith, mul-le-mul_left s at_least))

  -- after traction the train is no faster than the speed at the cut-off
  cut_off_last : last_speed v traction ≤ s * v_cut_off (build_up_of start) target
  cut_off_last = omega (arith, phase_speed start Traction v traction parts.0 in_traction, cut_off_speed)

  -- the speed when the brakes work
  braking_speed : last_speed v traction + 54 * start.accel2 * time_of build ≤ s * v_bec (build_up_of start) target
  braking_speed = rw build_time (speed_at_scale s (v_cut_off (build_up_of start) target) start.accel2 start.berem
      (last_speed v traction) cut_off_last)

  -- the distance until then
  whole_distance : distance_of (traction ++ build) ≤ s * s * d_bec (build_up_of start) target
  whole_distance =
      let top = v_cut_off (build_up_of start) target in
      let mean = start.speed + 27 * start.accel1 * start.traction in
      let one = rw traction_time at (phase_distance start Traction v traction parts.0 in_traction) in
      let two = rw build_time at (phase_distance start Build (last_speed v traction) build parts.1 in_build) in
      let traction_distance = distance_at_scale s start.speed start.accel1 start.traction v
      (distance_of traction) slow one in
      let build_distance = distance_at_scale s top start.accel2 start.berem (last_speed v traction)
      (distance_of build) cut_off_last two in
      rw distance_of-append (both_distances s mean (max mean target) start.traction _ (distance_of traction)
      (distance_of build) (omega arith) traction_distance build_distance)

  -- every end of a slice lies at most D_bec past the beginning, with at most V_bec
  ends_in_reach : All (IsInReach s start target p) (slice_ends p v (traction ++ build))
  ends_in_reach =
      let q = p +ℤ pos (s * s * d_bec (build_up_of start) target) in
      let b = s * v_bec (build_up_of start) target in
      let middle = p +ℤ pos (distance_of traction) in
      let sum = distance_of-append traction build in
      let far = whole_distance in
      let rises : s * v_cut_off (build_up_of start) target ≤ b = mul-le-mul_left s (omega arith) in
      let cut_off = cut_off_speed in
      let one = ends_bounded start Traction p q v b traction parts.0 in_traction (omega arith) (omega (arith, ints)) in
      let two = ends_bounded start Build middle q (last_speed v traction) b build parts.1 in_build braking_speed
      (omega (arith, ints)) in
      rw slice_ends-append (All-append (IsBounded q b) _ _ one two)

  -- and so does the point where the slices end
  last_in_reach : IsInReach s start target p
      (last_point (record { place = p; square = v * v }) (slice_ends p v (traction ++ build)))
  last_in_reach =
      let far = whole_distance in
      let speed = phase_speed start Build (last_speed v traction) build parts.1 in_build in
      let last : last_speed v (traction ++ build) ≤ s
      * v_bec (build_up_of start) target = rw last_speed-append (omega (arith, speed, braking_speed)) in
      rw (last_end p v (traction ++ build)) (record { place = omega (arith, ints); square = mul-le _ _ _ _ last last })

-- ---- a whole motion

-- the ends of the slices and the first braking point are in reach
pub record AreInReach (start : Start) (target : ℕ) (m : Motion) : Type 0 where
  pub ends : All (IsInReach m.scale start target m.place) (slice_ends m.place m.speed m.slices)
  pub begins : IsInReach m.scale start target m.place m.first

-- the same of every motion, and of its first braking point
pub in_reach : (on : Slopes) (start : Start) (m : Motion) (target : ℕ) → IsMotion on start m →
    m.speed ≤ m.scale * start.speed → AreInReach start target m
in_reach on start m target is slow =
    let h = is.reaction in
    let slices : AreSlices start m.speed (h.traction ++ h.build) = subst
    (λ (zs : List Slice). AreSlices start m.speed zs) h.split h.slices in
    let ends = ends_in_reach m.scale start target m.place m.speed h.traction h.build h.in_traction h.in_build
    h.traction_time h.build_time slices slow in
    let last = last_in_reach m.scale start target m.place m.speed h.traction h.build h.in_traction h.in_build
    h.traction_time h.build_time slices slow in
    record { ends = rw h.split ends; begins = rw (is.begins, h.split) last }

-- the law of the reaction, of all ends of slices and the first braking point in one list
pub reaction : (on : Slopes) (start : Start) (m : Motion) (target : ℕ) → IsMotion on start m →
    m.speed ≤ m.scale * start.speed →
    All (IsInReach m.scale start target m.place) (slice_ends m.place m.speed m.slices ++ m.first ∷ [])
reaction on start m target is slow =
    let h = in_reach on start m target is slow in
    let R = IsInReach m.scale start target m.place in
    All-append R _ _ h.ends (All-cons R m.first [] h.begins (All-nil R))
