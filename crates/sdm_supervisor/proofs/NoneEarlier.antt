-- Falls that are passed over: what hides neither curve of a fall is no earlier, so what counts goes on counting.
use Rattle.std.proofs.Common.{◌≡◌, ℕ, ◌<◌, ◌≤◌, ◌≤ℤ◌, List, length, map, slice_index_or, true, arith}
use Rattle.std.proofs.lemmas.List.{get_or_default, length-map}
use Rattle.sdm_rules.specs.declared.data.SlopeKind.TheVariants.{Normal, Safe}
use Rattle.sdm_rules.specs.declared.targets.Target.{Target}
use Rattle.sdm_rules.specs.Data.{TrainAndTrack}
use Rattle.sdm_rules.specs.Decelerations.{slopes_of}
use Rattle.sdm_rules.specs.Reaction.{build_up_from, v_bec}
use Rattle.sdm_rules.specs.Slopes.{Slopes}
use Rattle.sdm_hiding.specs.declared.rows.Foot.{Foot}
use Rattle.sdm_hiding.specs.Asking.{place_on}
use Rattle.sdm_hiding.specs.Hiding.{AreNoEarlier, IsAt}
use Rattle.sdm_hiding.proofs.RowLaws.{foot_there}
use Rattle.sdm_braking.specs.FallFeet.{brake_foot, guide_foot}
use Rattle.sdm_supervisor.specs.AskedFalls.{AreNoneEarlier, no_target}

module _ (falls : List Target) (i : ℕ) (known : i < length falls) where
  -- the fall at an index
  abbrev at : ℕ → Target
  at k = slice_index_or falls k no_target

  -- so of the feet in a row
  abbrev IsClear : Slopes → (Target → Foot) → ℕ → Type 0
  IsClear on foot to = (f : Foot) → IsAt (map foot falls) i f → AreNoEarlier on (map foot falls) f i to

  clear_places : (on : Slopes) (foot : Target → Foot) (to k v : ℕ) → IsClear on foot to →
      to ≤ length (map foot falls) → i < k → k < to → place_on on v (foot (at i)) ≤ℤ place_on on v (foot (at k))
  clear_places on foot to k v clear inside past before =
      let long = length-map falls foot in
      clear (foot (at i)) (there i known) k v (foot (at k)) past before (there k (omega (arith, before, inside, long)))
    where
      there : (n : ℕ) → n < length falls → IsAt (map foot falls) n (foot (at n))
      there n within = foot_there foot falls no_target n (at n) within (get_or_default falls n (at n) no_target within)

  -- by their EBDs, where guidance isn't permitted
  pub none_braked : (d : TrainAndTrack) (to : ℕ) → IsClear (slopes_of Safe d) brake_foot to →
      to ≤ length (map brake_foot falls) → (d.national.guidance ≡ true → ⊥) → AreNoneEarlier d falls i to
  none_braked d to brakes inside off k e past before = record {
    brake = clear_places (slopes_of Safe d) brake_foot to k (v_bec (build_up_from d e) 0) brakes inside past before;
    guide = λ on. absurd (off on);
  }

  -- by both
  pub none_guided : (d : TrainAndTrack) (to braked guided : ℕ) → IsClear (slopes_of Safe d) brake_foot braked →
      IsClear (slopes_of Normal d) guide_foot guided → braked ≤ length (map brake_foot falls) →
      guided ≤ length (map guide_foot falls) → to ≤ braked → to ≤ guided → AreNoneEarlier d falls i to
  none_guided d to braked guided brakes guides one two to_one to_two k e past before = record {
    brake = clear_places (slopes_of Safe d) brake_foot braked k (v_bec (build_up_from d e) 0) brakes one past
        (omega (arith, before, to_one));
    guide = λ on. clear_places (slopes_of Normal d) guide_foot guided k e.speed guides two past
        (omega (arith, before, to_two));
  }
