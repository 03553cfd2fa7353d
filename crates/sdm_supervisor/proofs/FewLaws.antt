-- Falls as rows of feet: where the curves that were asked of each row are enough, one of the falls that were asked stands
-- for each slow fall.
use Rattle.std.proofs.Common.{◌≡◌, ℕ, ◌+◌, ◌<◌, ◌≤◌, List, map, All, length}
use Rattle.std.proofs.Common.{slice_index_or, refl, sym, ap, subst, ◌∙◌, arith}
use Rattle.std.specs.Prelude.{Any, Contains}
use Rattle.std.proofs.lemmas.List.{get_or-map, length-map}
use Rattle.std.proofs.lemmas.List.Elements.{All-contains}
use Rattle.sdm_num.specs.Readings.{Estimate}
use Rattle.sdm_num.specs.Units.{notches}
use Rattle.sdm_rules.specs.declared.data.SlopeKind.TheVariants.{Normal, Safe}
use Rattle.sdm_rules.specs.declared.limits.LimitKind.TheVariants.{Ebi}
use Rattle.sdm_rules.specs.declared.targets.Target.{Target}
use Rattle.sdm_rules.specs.declared.targets.TargetKind.TheVariants.{Mrsp}
use Rattle.sdm_rules.specs.Data.{TrainAndTrack}
use Rattle.sdm_rules.specs.Decelerations.{slopes_of}
use Rattle.sdm_rules.specs.Margins.{ebi_margin}
use Rattle.sdm_rules.specs.Reaction.{build_up_from, v_bec}
use Rattle.sdm_rules.specs.Targets.{target_speed}
use Rattle.sdm_order.specs.AskedTargets.{AreOf}
use Rattle.sdm_order.specs.EnoughTargets.{IsBrakedBefore, IsGuidedBefore, IsMetFall}
use Rattle.sdm_order.proofs.Faster.{met_by_speed}
use Rattle.sdm_order.proofs.Stand.{at_fall, no_faster_with}
use Rattle.sdm_hiding.specs.declared.rows.Foot.{Foot}
use Rattle.sdm_hiding.specs.Asking.{AreFeet, IsEnough, at_indexes}
use Rattle.sdm_hiding.specs.Hiding.{AreInOrder, IsAt}
use Rattle.sdm_hiding.proofs.RowLaws.{foot_at, in_row, stands_for_each}
use Rattle.sdm_braking.specs.FallFeet.{brake_foot, guide_foot}
use Rattle.sdm_braking.specs.KeptFalls.{IsKeptFall, KeptFallData, target_of}
use Rattle.sdm_braking.proofs.FootLaws.{no_fall}
use Rattle.sdm_supervisor.specs.AskedFalls.{no_target}

-- ---- falls

-- what is kept of falls are targets at falls
pub are_falls : (d : TrainAndTrack) (ks : List KeptFallData) → All (IsKeptFall d) ks →
    All (λ t. t.kind ≡ Mrsp) (map target_of ks)
are_falls d ks each i t known =
    let long = length-map ks target_of in
    let within : i < length ks = omega (arith, known, long) in
    ap (λ (u : Target). u.kind) (get_or-map target_of ks i no_fall t within ∙ (each i no_fall within).at)

-- ---- their feet

-- the feet of falls: target speeds are whole km/h, and foot speeds at most a margin above them and rising with them
record AreFeetOf (margin : ℕ) (foot : Target → Foot) : Type 0 where
  permitted : (t : Target) → (foot t).permitted ≡ target_speed t
  above : (t : Target) → t.kind ≡ Mrsp → target_speed t ≤ (foot t).speed
  near : (t : Target) → t.kind ≡ Mrsp → (foot t).speed ≤ target_speed t + notches margin
  rising : (t r : Target) → t.kind ≡ Mrsp → r.kind ≡ Mrsp → target_speed r ≤ target_speed t →
      (foot r).speed ≤ (foot t).speed

brake_feet_of : AreFeetOf 15 brake_foot
brake_feet_of = record {
  permitted = λ t. refl;
  above = λ t is.
      let bare = at_fall t (notches t.speed) is in
      let more = at_fall t (notches t.speed + ebi_margin t.speed) is in
      omega (arith, bare, more);
  near = λ t is.
      let bare = at_fall t (notches t.speed) is in
      let more = at_fall t (notches t.speed + ebi_margin t.speed) is in
      let most = most_margin t.speed in
      omega (arith, bare, more, most);
  rising = λ t r t_is r_is lower. no_faster_with t r t_is r_is Ebi lower;
}
  where
    most_margin : (kmh : ℕ) → ebi_margin kmh ≤ 225_000
    most_margin kmh = grind (arith)

guide_feet_of : AreFeetOf 0 guide_foot
guide_feet_of = record {
  permitted = λ t. refl;
  above = λ t is. omega arith;
  near = λ t is. omega arith;
  rising = λ t r t_is r_is lower. lower;
}

module _ (falls : List Target) (each : All (λ t. t.kind ≡ Mrsp) falls) where
  -- so they are in a row
  feet_are : (margin : ℕ) (foot : Target → Foot) → AreFeetOf margin foot → AreInOrder (map foot falls) →
      AreFeet margin (map foot falls)
  feet_are margin foot is order = record {
    order = order;
    whole = λ i f at.
        let t = slice_index_or falls i no_target in
        let here = foot_at foot falls no_target i f at in
        let kind = kind_at i f at in
        (t.speed, sym (ap (λ (g : Foot). g.permitted) here) ∙ is.permitted t ∙ at_fall t (notches t.speed) kind);
    above = λ i f at.
        let t = slice_index_or falls i no_target in
        let here = foot_at foot falls no_target i f at in
        subst (λ (g : Foot). g.permitted ≤ g.speed) here (rw (is.permitted t) (is.above t (kind_at i f at)));
    near = λ i f at.
        let t = slice_index_or falls i no_target in
        let here = foot_at foot falls no_target i f at in
        subst (λ (g : Foot). g.speed ≤ g.permitted + notches margin) here
        (rw (is.permitted t) (is.near t (kind_at i f at)));
    rising = λ i k f g at there lower.
        let r = slice_index_or falls i no_target in
        let t = slice_index_or falls k no_target in
        let here = foot_at foot falls no_target i f at in
        let further = foot_at foot falls no_target k g there in
        let slower : target_speed r ≤ target_speed t =
        rw (
          sym (is.permitted r) ∙ ap (λ (h : Foot). h.permitted) here,
          sym (is.permitted t) ∙ ap (λ (h : Foot). h.permitted) further,
        ) lower in
        subst (λ (h : Foot). h.speed ≤ g.speed) here
        (subst (λ (h : Foot). (foot r).speed ≤ h.speed) further
        (is.rising t r (kind_at k g there) (kind_at i f at) slower));
  }
    where
      kind_at : (i : ℕ) (f : Foot) → IsAt (map foot falls) i f → (slice_index_or falls i no_target).kind ≡ Mrsp
      kind_at i f at =
          let long = length-map falls foot in
          let known = at.known in
          each i no_target (omega (arith, known, long))

  pub brake_feet : AreInOrder (map brake_foot falls) → AreFeet 15 (map brake_foot falls)
  brake_feet = feet_are 15 brake_foot brake_feet_of

  pub guide_feet : AreInOrder (map guide_foot falls) → AreFeet 0 (map guide_foot falls)
  guide_feet = feet_are 0 guide_foot guide_feet_of

  -- ---- what was asked of them

  module _ (d : TrainAndTrack) (e : Estimate) (asked : List ℕ) (inside : All (λ i. i < length falls) asked) where
    abbrev found : List Target
    found = at_indexes falls no_target asked

    -- each that was asked is one of them
    pub asked_of : AreOf falls found
    asked_of t = in_row falls no_target asked inside t

    -- by their EBDs
    pub braked : IsEnough (slopes_of Safe d) (map brake_foot falls) e.speed (v_bec (build_up_from d e) 0) asked →
        (t : Target) → Contains falls t → target_speed t ≤ e.speed → Any (IsBrakedBefore d e t) found
    braked enough t there slow =
        let a = stands_for_each brake_foot falls no_target (slopes_of Safe d) e.speed (v_bec (build_up_from d e) 0) asked
        enough t there slow in
        let of = asked_of a.1 (a.0, a.2, a.3) in (
          a.0,
          a.1,
          a.2,
          a.3,
          record {
            slow = record { kind = All-contains (λ (u : Target). u.kind ≡ Mrsp) falls a.1 each of; slow = a.4.slow };
            counts = a.4.counts;
            no_later = a.4.no_later;
          },
        )

    -- by their guidance curves
    pub guided : IsEnough (slopes_of Normal d) (map guide_foot falls) e.speed e.speed asked →
        (t : Target) → Contains falls t → target_speed t ≤ e.speed → Any (IsGuidedBefore d e t) found
    guided enough t there slow =
        let a = stands_for_each guide_foot falls no_target (slopes_of Normal d) e.speed e.speed asked enough t there slow
        in
        let of = asked_of a.1 (a.0, a.2, a.3) in (
          a.0,
          a.1,
          a.2,
          a.3,
          record {
            slow = record { kind = All-contains (λ (u : Target). u.kind ≡ Mrsp) falls a.1 each of; slow = a.4.slow };
            counts = a.4.counts;
            no_later = a.4.no_later;
          },
        )

  -- up to a gain of 7.5 km/h each that is faster is met by speed
  pub met_falls : (d : TrainAndTrack) (e : Estimate) → v_bec (build_up_from d e) 0 ≤ e.speed + 112_500 → (t : Target) →
      Contains falls t → e.speed < target_speed t → IsMetFall d e t
  met_falls d e near t there faster =
      let kind = All-contains (λ (u : Target). u.kind ≡ Mrsp) falls t each there in
      let bare = at_fall t (notches t.speed) kind in
      let foot = at_fall t (notches t.speed + ebi_margin t.speed) kind in
      record {
        kind = kind;
        faster = faster;
        met = rw (bare, foot) (met_by_speed (build_up_from d e) e.speed t.speed (omega arith) near
            (subst (λ (n : ℕ). e.speed < n) bare faster));
      }
