-- Falls that are asked one after the other: with each there is one more target behind the others.
use Rattle.std.proofs.Common.{◌≡◌, ◌<◌, ◌≤◌, ◌+◌, ℕ, List, map, ◌∷◌, ◌++◌, [], All, pos, length, take, ◌∙◌, ap, sym}
use Rattle.std.proofs.Common.{arith}
use Rattle.std.specs.Prelude.{slice_index_or}
use Rattle.std.proofs.lemmas.List.{get_or-map, map_more, take_all}
use Rattle.sdm_rules.specs.declared.targets.Target.{Target}
use Rattle.sdm_rules.specs.Data.{TrainAndTrack}
use Rattle.sdm_braking.specs.declared.kept_targets.KeptTarget.{KeptTarget}
use Rattle.sdm_braking.specs.KeptCurves.{IsKeptTarget}
use Rattle.sdm_braking.specs.KeptFalls.{IsKeptFall, KeptFallData, target_of}

-- stands for a fall past the last, with a target
beside : KeptTarget → KeptFallData
beside k = record { fall = record { cell = pos 0; speed = 0 }; kept = k }

module _ (ks : List KeptFallData) {i : ℕ} {k : KeptTarget} (is : (d : KeptFallData) → k ≡ (slice_index_or ks i d).kept)
    (within : i < length ks) where
  -- what is read at an index is the target there with its curves
  pub kept_there : {d : TrainAndTrack} → All (IsKeptFall d) ks → IsKeptTarget d k
  kept_there each = rw (is (beside k)) (each i (beside k) within).kept

  -- the target there
  pub target_there : (none : Target) → slice_index_or (map target_of ks) i none ≡ k.target
  target_there none =
      get_or-map target_of ks i (beside k) none within ∙ ap (λ (x : KeptTarget). x.target) (sym (is (beside k)))

  -- the targets up to an index, and the one there
  pub one_more : map target_of (take i ks) ++ k.target ∷ [] ≡ map target_of (take (i + 1) ks)
  one_more =
      (λ j. map target_of (take i ks) ++ (is (beside k) j).target ∷ [])
      ∙ sym (map_more target_of ks i (beside k) within)

-- where all falls have been asked, all their targets have
pub all_asked : (ks : List KeptFallData) {i n : ℕ} → n ≡ length ks → n ≤ i →
    map target_of (take i ks) ≡ map target_of ks
all_asked ks {i} len past = ap (map target_of) (take_all i ks (omega (arith, len, past)))
