-- Slices of traction and then of the build-up are parted in one place alone: where the first slice of the build-up
-- stands.
use Rattle.std.proofs.Common.{◌≡◌, ℕ, List, ◌++◌, length, get_or, take, drop, ◌+◌, ◌*◌, ◌<◌, arith, subst, ◌∙◌, inl}
use Rattle.std.proofs.Common.{inr}
use Rattle.std.proofs.lemmas.Bool.{cases_lt}
use Rattle.std.proofs.lemmas.Grind.{common_steps}
use Rattle.sdm_rules.specs.declared.motions.Phase.TheVariants.{Traction, Build}
use Rattle.sdm_rules.specs.declared.motions.Slice.{Slice}
use Rattle.sdm_rules.specs.declared.motions.Start.{Start}
use Rattle.sdm_rules.specs.Motion.{IsIn, IsReaction, time_of}
use Rattle.sdm_motion.specs.Slices.{IsCut}

-- what reads past the end give
any_slice : Slice
any_slice = record { phase = Traction; time = 0; to = 0; length = 0 }

phases_differ : (x : Slice) → x.phase ≡ Traction → x.phase ≡ Build → ⊥
phases_differ x e f = cc

left_read : (ts bs : List Slice) (k : ℕ) → k < length ts → get_or (ts ++ bs) k any_slice ≡ get_or ts k any_slice
left_read ts bs k lt = grind (arith, common_steps)

right_read : (ts bs : List Slice) → get_or (ts ++ bs) (length ts) any_slice ≡ get_or bs 0 any_slice
right_read ts bs = grind (arith, common_steps)

-- slices of traction and then of the build-up are cut where these begin
cut_is : (ts bs : List Slice) (k : ℕ) → IsIn Traction ts → IsIn Build bs → IsCut (ts ++ bs) k → k ≡ length ts
cut_is ts bs k in_ts in_bs cut =
    elim (cases_lt k (length ts)) [
      | inl lt ↦ absurd (phases_differ (get_or (ts ++ bs) k any_slice)
          (rw (left_read ts bs k lt) (in_ts k any_slice lt))
          (cut.next any_slice (let l = length_all ts bs in omega arith)))
      | inr ge ↦ elim (cases_lt (length ts) k) [
        | inl gt ↦ absurd (phases_differ (get_or (ts ++ bs) (length ts) any_slice) (there ts bs k gt cut)
            (rw (right_read ts bs) (in_bs 0 any_slice (let l = length_all ts bs in let n = cut.known in omega arith))))
        | inr le ↦ omega arith
      ]
    ]
  where
    length_all : (ts bs : List Slice) → length (ts ++ bs) ≡ length ts + length bs
    length_all ts bs = grind (arith, common_steps)

    there : (ts bs : List Slice) (k : ℕ) → length ts < k → IsCut (ts ++ bs) k →
        (get_or (ts ++ bs) (length ts) any_slice).phase ≡ Traction
    there ts bs k gt cut =
        let known = cut.known in
        let l = length_all ts bs in
        let lt : length ts < length (take k (ts ++ bs)) = grind (arith, common_steps) in
        let e : get_or (take k (ts ++ bs)) (length ts) any_slice
        ≡ get_or (ts ++ bs) (length ts) any_slice = grind (arith, common_steps) in
        rw (← e) (cut.before (length ts) any_slice lt)

take_left : (ts bs : List Slice) → take (length ts) (ts ++ bs) ≡ ts
take_left ts bs = grind (arith, common_steps)

drop_left : (ts bs : List Slice) → drop (length ts) (ts ++ bs) ≡ bs
drop_left ts bs = grind (arith, common_steps)

-- what a cut parts is what a reaction is split into
pub parts_are : (s : ℕ) (start : Start) (v k : ℕ) (xs : List Slice) → IsCut xs k → (h : IsReaction s start v xs) →
    (take k xs ≡ h.traction) × (drop k xs ≡ h.build)
parts_are s start v k xs cut h =
    let cut' = subst (λ (ys : List Slice). IsCut ys k) h.split cut in
    let k_is = cut_is h.traction h.build k h.in_traction h.in_build cut' in
    (rw (h.split, k_is) (take_left h.traction h.build), rw (h.split, k_is) (drop_left h.traction h.build))

-- so what it parts has the phases and the times of the reaction
pub back_is_build : (s : ℕ) (start : Start) (v k : ℕ) (xs back : List Slice) → IsCut xs k → back ≡ drop k xs →
    IsReaction s start v xs → IsIn Build back
back_is_build s start v k xs back cut e h = let is = e ∙ (parts_are s start v k xs cut h).1 in rw is h.in_build

pub front_time : (s : ℕ) (start : Start) (v k : ℕ) (xs front : List Slice) → IsCut xs k → front ≡ take k xs →
    IsReaction s start v xs → time_of front ≡ s * start.traction
front_time s start v k xs front cut e h = let is = e ∙ (parts_are s start v k xs cut h).0 in rw is h.traction_time

pub back_time : (s : ℕ) (start : Start) (v k : ℕ) (xs back : List Slice) → IsCut xs k → back ≡ drop k xs →
    IsReaction s start v xs → time_of back ≡ s * start.berem
back_time s start v k xs back cut e h = let is = e ∙ (parts_are s start v k xs cut h).1 in rw is h.build_time
