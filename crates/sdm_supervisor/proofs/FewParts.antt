-- What was asked part by part is enough, and few: the falls of the row of EBDs, those of the row of guidance curves where
-- guidance is permitted, the faster ones, and the targets at the end of the authority.
use Rattle.std.proofs.Common.{◌≡◌, Bool, true, false, ◌≤◌, List, [], ◌++◌, length, map, All, refl, sym, subst, ◌∙◌}
use Rattle.std.proofs.Common.{arith, if◌then◌else◌, slice_index_or}
use Rattle.std.specs.Prelude.{Any, Contains}
use Rattle.std.proofs.lemmas.Bool.{false≢true}
use Rattle.std.proofs.lemmas.List.{append-nil, length-map}
use Rattle.sdm_num.specs.Readings.{Estimate}
use Rattle.sdm_rules.specs.declared.data.SlopeKind.TheVariants.{Normal, Safe}
use Rattle.sdm_rules.specs.declared.targets.Target.{Target}
use Rattle.sdm_rules.specs.declared.targets.TargetKind.TheVariants.{Mrsp}
use Rattle.sdm_rules.specs.Data.{TrainAndTrack}
use Rattle.sdm_rules.specs.Decelerations.{slopes_of}
use Rattle.sdm_rules.specs.Reaction.{build_up_from, v_bec}
use Rattle.sdm_rules.specs.Targets.{target_speed}
use Rattle.sdm_order.specs.AskedTargets.{AreOf}
use Rattle.sdm_order.specs.EnoughTargets.{AreEnough, IsGuidedBefore}
use Rattle.sdm_order.proofs.Parts.{enough_in_parts}
use Rattle.sdm_hiding.specs.Asking.{at_indexes}
use Rattle.sdm_braking.specs.declared.kept_ends.KeptEnd.{KeptEnd}
use Rattle.sdm_braking.specs.declared.kept_ends.KeptEnd.TheVariants.{Stop as KeptStop, Limit as KeptLimit}
use Rattle.sdm_braking.specs.FallFeet.{brake_foot, guide_foot}
use Rattle.sdm_braking.specs.KeptCurves.{targets_in}
use Rattle.sdm_supervisor.specs.AskedFalls.{IsFoundInRow, IsFoundOfFaster, IsFoundOfFew, no_target}
use Rattle.sdm_supervisor.specs.Sights.{Seen}
use Rattle.sdm_supervisor.proofs.FewLaws.{asked_of, braked, guided}

-- at the end of an authority there are at most two targets
few_ends : (end : KeptEnd) (in_release : Bool) → length (targets_in end in_release) ≤ 2
few_ends (KeptStop e s) true = omega arith
few_ends (KeptStop e s) false = omega arith
few_ends (KeptLimit l) in_release = omega arith

module _ (d : TrainAndTrack) (e : Estimate) (falls : List Target) (each : All (λ t. t.kind ≡ Mrsp) falls) where
  -- falls that are enough by their guidance curves, where guidance is permitted, were asked behind others
  pub record AreGuided (before : List Target) (is_found : List Target → Type 0) : Type 0 where
    pub guides : List Target
    pub of : AreOf falls guides
    pub few : length guides ≤ (if d.national.guidance then 2 else 0)
    pub enough : d.national.guidance ≡ true → (t : Target) → Contains falls t → target_speed t ≤ e.speed →
        Any (IsGuidedBefore d e t) guides
    pub found : is_found (before ++ guides)

  pub guided_row : (before : List Target) (found : List Target → Type 0) → d.national.guidance ≡ true →
      IsFoundInRow (slopes_of Normal d) (map guide_foot falls) 0 e.speed e.speed falls before found →
      AreGuided before found
  guided_row before found on h =
      let few = h.few in
      let long = length-map h.asked (λ i. slice_index_or falls i no_target) in
      record {
        guides = at_indexes falls no_target h.asked;
        of = asked_of falls each d e h.asked h.inside;
        few = rw on (omega (arith, few, long));
        enough = λ is. guided falls each d e h.asked h.inside h.enough;
        found = h.found;
      }

  pub not_guided : (before : List Target) (found : List Target → Type 0) → d.national.guidance ≡ false → found before →
      AreGuided before found
  not_guided before found off so_far = record {
    guides = [];
    of = λ t there. (let none = there.1 in absurd (omega (arith, none)));
    few = omega arith;
    enough = λ on. absurd (false≢true (sym off ∙ on));
    found = subst found (sym (append-nil before)) so_far;
  }

module _ (seen : Seen) (e : Estimate) (falls : List Target) (each : All (λ t. t.kind ≡ Mrsp) falls) (end : KeptEnd)
    (in_release : Bool) (targets : falls ++ targets_in end in_release ≡ seen.situation.targets) where
  -- all of it is enough of what is seen, and few
  pub few_in_parts : (one two three four : List Target → Type 0)
      (b : IsFoundInRow (slopes_of Safe seen.train_and_track) (map brake_foot falls) 15 e.speed
      (v_bec (build_up_from seen.train_and_track e) 0) falls [] one)
      (g : AreGuided seen.train_and_track e falls each (at_indexes falls no_target b.asked) two)
      (f : IsFoundOfFaster seen.train_and_track e falls (at_indexes falls no_target b.asked ++ g.guides) three) →
      four (((at_indexes falls no_target b.asked ++ g.guides) ++ f.asked) ++ targets_in end in_release) →
      IsFoundOfFew seen e four
  few_in_parts one two three four b g f last =
      let d = seen.train_and_track in
      let ends = targets_in end in_release in
      let brakes = at_indexes falls no_target b.asked in
      let few = b.few in
      let long = length-map b.asked (λ i. slice_index_or falls i no_target) in
      record {
        asked = ((brakes ++ g.guides) ++ f.asked) ++ ends;
        enough = subst (λ (all : List Target). AreEnough d e all (((brakes ++ g.guides) ++ f.asked) ++ ends)) targets
            (enough_in_parts d e falls ends brakes g.guides f.asked each (asked_of falls each d e b.asked b.inside) g.of
            f.of (braked falls each d e b.asked b.inside b.enough) g.enough f.enough);
        few = record {
          brakes = brakes;
          guides = g.guides;
          faster = f.asked;
          ends = ends;
          are = refl;
          few_brakes = omega (arith, few, long);
          few_guides = g.few;
          are_faster = f.faster;
          few_ends = few_ends end in_release;
        };
        found = last;
      }
