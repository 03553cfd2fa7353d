-- The limits are those of the lemmas, whether a D_bec counts or none, and whether there is a guide or none.
use Rattle.std.proofs.Common.{◌≡◌, ◌+◌, ◌*◌, ◌^◌, Option, ap, refl, subst, sym, arith}
use Rattle.std.specs.Prelude.{option_map}
use Rattle.std.proofs.lemmas.Int.{ints}
use Rattle.sdm_num.specs.Bounds.{Bound}
use Rattle.sdm_limits.specs.declared.limits.Limits.{Limits}
use Rattle.sdm_limits.specs.Ranges.{IsNearZero, curve_reach, reach}
use Rattle.sdm_limits.specs.Sides.{AreFine, StandFor, limits_at, place_of, place_where, places_of}
use Rattle.sdm_limits.proofs.Places.{braked_near, braked_of, found, found_early, found_fine, found_places}
use Rattle.sdm_limits.proofs.Places.{permitted_near, permitted_of, sooner}
use Rattle.sdm_limits.proofs.limits.limits_at.Goals as goal
use Rattle.sdm_limits.proofs.limits.limits_at.Goals.{After-distance_at-4, in-Some, in-None, in-Some-guide}
use Rattle.sdm_limits.proofs.limits.limits_at.Goals.{in-None-guide}

module _ (c : goal.After-distance_at-4) where
  ebi_is : c.match-d_bec.ebi ≡ (option_map (sooner c.args.place) c.args.d_bec, braked_of c.args.d_bec c.args.place)
  ebi_is = elim c.match-d_bec.branch [
    | in-Some w ↦ rw (w.ebi-is, w.in-Some.is, w.less-ebi.ensures.value) refl
    | in-None w ↦ rw (w.ebi-is, w.in-None.is) refl
  ]

  permitted_is : c.match-guide.permitted ≡ permitted_of c.args.guide c.less-driver.result
  permitted_is = elim c.match-guide.branch [
    | in-Some-guide w ↦ rw (w.permitted-is, w.in-Some-guide.is) w.earlier-permitted.ensures.value
    | in-None-guide w ↦ rw (w.permitted-is, w.in-None-guide.is) refl
  ]

  sbi_near : IsNearZero (curve_reach + 2 * 10 ^ 16) c.less-sbi.result.at
  sbi_near =
      let braked = subst (λ (p : Option Bound × Bound). IsNearZero (curve_reach + 10 ^ 16) p.1.at) (sym ebi_is)
      (braked_near c.args.d_bec c.args.place c.requires.distance c.requires.place) in
      let at = ap (λ (b : Bound). b.at) c.less-sbi.ensures.value in
      let small = c.distance_at.ensures.small in (
        omega (arith, ints, at, braked.0, small, c.requires.speed),
        omega (arith, ints, at, braked.1),
      )

  near : IsNearZero (2 * reach) c.match-guide.permitted.at
  near =
      let at = ap (λ (b : Bound). b.at) c.less-driver.ensures.value in
      let small = c.distance_at-2.ensures.small in
      rw permitted_is (permitted_near c.args.guide c.less-driver.result c.requires.guide (
        omega (arith, ints, at, sbi_near.0, small, c.requires.speed),
        omega (arith, ints, at, sbi_near.1),
      ))

pub less-requires-2 : goal.less-requires-2
less-requires-2 c =
    let n = near c in
    (omega (arith, ints, n.0, c.distance_at-4.ensures.small, c.requires.speed), omega (arith, ints, n.1))

module _ (c : goal.After-less-2) where
  found_is : record {
    ebi = c.match-d_bec.ebi.0;
    sbi = c.less-sbi.result;
    warning = c.less.result;
    permitted = c.match-guide.permitted;
    indication = c.less-2.result;
  } ≡ found c.args.times.now c.args.v c.args.guide c.args.d_bec c.args.place
  found_is =
      let d = (goal.at.returns-clause-at c).After-distance_at-4 in
      rw (
        c.less-2.ensures.value,
        c.less.ensures.value,
        permitted_is d,
        c.less-driver.ensures.value,
        c.less-sbi.ensures.value,
        ebi_is d,
        c.distance_at-4.ensures.value,
        c.distance_at-3.ensures.value,
        c.distance_at-2.ensures.value,
        c.distance_at.ensures.value,
      ) refl

pub returns-clause-at : goal.returns-clause-at
returns-clause-at c =
    let a = c.args in
    subst (λ (l : Limits). places_of l ≡ limits_at a.d_bec a.times.now a.v (place_where a.guide) (place_of a.place))
    (sym (found_is c)) (found_places a.times.now a.v a.guide a.d_bec a.place)

pub returns-clause-stands : goal.returns-clause-stands
returns-clause-stands c g x guided early =
    let a = c.args in
    subst (λ (l : Limits). StandFor l (limits_at a.d_bec a.times.now a.v g x)) (sym (found_is c))
    (found_early a.times.now a.v a.guide a.d_bec a.place g x guided early)

pub returns-clause-slack : goal.returns-clause-slack
returns-clause-slack c grains guided fine =
    let a = c.args in
    subst (AreFine grains) (sym (found_is c)) (found_fine a.times.now a.v a.guide grains a.d_bec a.place guided fine)

pub returns-clause-near : goal.returns-clause-near
returns-clause-near c =
    let d = (goal.at.returns-clause-near c).After-distance_at-4 in
    record { sbi = (let n = sbi_near d in (omega (arith, ints, n.0), omega (arith, ints, n.1))); permitted = near d }
