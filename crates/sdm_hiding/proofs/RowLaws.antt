-- What has feet in a row: where the curves that were asked are enough, something that was asked stands for each.
use Rattle.std.proofs.Common.{◌≡◌, ℕ, ◌<◌, ◌≤◌, List, All, length, map, slice_index_or, ap, subst, sym, ◌∙◌, arith}
use Rattle.std.specs.Prelude.{Any, Contains}
use Rattle.std.proofs.lemmas.List.{get_or-map, length-map}
use Rattle.std.proofs.lemmas.List.Elements.{Contains-get_or}
use Rattle.sdm_rules.specs.Slopes.{Slopes}
use Rattle.sdm_hiding.specs.declared.rows.Foot.{Foot}
use Rattle.sdm_hiding.specs.Asking.{IsEnough, StandsFor, at_indexes}
use Rattle.sdm_hiding.specs.Hiding.{IsAt}

module _ {A : Type 0} (xs : List A) (none : A) where
  -- what stands at an index is among what stands at indexes
  pub at_index : (indexes : List ℕ) (i : ℕ) → Contains indexes i →
      Contains (at_indexes xs none indexes) (slice_index_or xs i none)
  at_index indexes i there =
      let g = λ (n : ℕ). slice_index_or xs n none in
      let long = length-map indexes g in
      let known = there.1 in
      (there.0, omega (arith, long, known), get_or-map g indexes there.0 i (g i) known ∙ ap g there.2)

  -- what stands at indexes in the row is in the row
  pub in_row : (indexes : List ℕ) → All (λ i. i < length xs) indexes → (x : A) →
      Contains (at_indexes xs none indexes) x → Contains xs x
  in_row indexes inside x there =
      let g = λ (n : ℕ). slice_index_or xs n none in
      let long = length-map indexes g in
      let known = there.1 in
      let k_known : there.0 < length indexes = omega (arith, long, known) in
      let i = slice_index_or indexes there.0 0 in
      subst (λ (y : A). Contains xs y) (sym (get_or-map g indexes there.0 0 x k_known) ∙ there.2)
      (Contains-get_or xs i none (inside there.0 0 k_known))

module _ {A : Type 0} (foot : A → Foot) (xs : List A) (none : A) where
  -- at an index stands the foot of what stands there
  pub foot_there : (k : ℕ) (x : A) → k < length xs → slice_index_or xs k x ≡ x → IsAt (map foot xs) k (foot x)
  foot_there k x known is =
      let long = length-map xs foot in
      record { known = omega (arith, known, long); is = λ e. get_or-map foot xs k x e known ∙ ap foot is }

  -- what has the foot that stands at an index
  pub foot_at : (k : ℕ) (f : Foot) → IsAt (map foot xs) k f → foot (slice_index_or xs k none) ≡ f
  foot_at k f at =
      let long = length-map xs foot in
      let known = at.known in
      sym (get_or-map foot xs k none f (omega (arith, known, long))) ∙ at.is f

  -- something that was asked stands for each whose target is no faster than the train
  pub stands_for_each : (on : Slopes) (v bec : ℕ) (asked : List ℕ) → IsEnough on (map foot xs) v bec asked → (x : A) →
      Contains xs x → (foot x).permitted ≤ v →
      Any (λ y. StandsFor on v bec (foot y) (foot x)) (at_indexes xs none asked)
  stands_for_each on v bec asked enough x there slow =
      let h = enough there.0 (foot x) (foot_there there.0 x there.1 there.2) slow in
      let y = slice_index_or xs h.index none in
      let c = at_index xs none asked h.index h.asked_there in (
        c.0,
        y,
        c.1,
        c.2,
        subst (λ (f : Foot). StandsFor on v bec f (foot x)) (sym (foot_at h.index h.foot h.at)) h.stands,
      )
