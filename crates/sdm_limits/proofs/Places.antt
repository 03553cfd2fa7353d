-- A place so many whole grains before a whole one, and the lesser of two, are found as for fractions.
use Rattle.std.proofs.Common.{◌≡◌, ℕ, ℤ, pos, neg_ℤ, ◌+◌, ◌*◌, ◌^◌, ◌≤◌, ◌+ℤ◌, Option, Some, None, arith, ap, refl}
use Rattle.std.proofs.Common.{subst, ◌∙◌}
use Rattle.std.specs.Prelude.{IfSome, option_map}
use Rattle.std.specs.Int.{int_min}
use Rattle.std.specs.Option.{ForSome, option_map_or}
use Rattle.std.proofs.lemmas.Int.{ints, clamps}
use Rattle.sdm_num.specs.Units.{distance_at}
use Rattle.sdm_num.specs.Bounds.{Bound, IsEarlyFor, earlier_of}
use Rattle.sdm_num.specs.Fractions.{Fraction, less, lesser, whole}
use Rattle.sdm_num.proofs.Order.{lesser_cases}
use Rattle.sdm_num.proofs.Sides.{IsEarlyFor_less, IsEarlyFor_lesser}
use Rattle.sdm_rules.specs.declared.data.Times.{Times}
use Rattle.sdm_rules.specs.Limits.{limits_from_sbi}
use Rattle.sdm_rules.specs.Reaction.{driver_time, warning_time}
use Rattle.sdm_limits.specs.declared.limits.Limits.{Limits}
use Rattle.sdm_limits.specs.Ranges.{IsGuide, IsNearZero, curve_reach, reach}
use Rattle.sdm_limits.specs.Sides.{AreFine, IsEarlyWhere, IsFine, IsFineWhere, StandFor, limits_at, place_of}
use Rattle.sdm_limits.specs.Sides.{place_where, places_of}

-- a whole place less so many grains
pub whole_less : (at z : ℤ) (k : ℕ) → at ≡ z +ℤ neg_ℤ (pos k) → whole at ≡ less (whole z) k
whole_less at z k is =
    let same : at ≡ z +ℤ neg_ℤ (pos (k * 1)) = omega (arith, ints) in
    ap whole same

-- the earlier of two bounds lies at the lesser of both places
pub earlier_place : (e d : Bound) → place_of (earlier_of e d) ≡ lesser (place_of e) (place_of d)
earlier_place e d =
    lesser_cases (λ z. whole (int_min e.at d.at) ≡ z) (whole e.at) (whole d.at)
    (λ le. let least : int_min e.at d.at ≡ e.at = omega (arith, ints, clamps, le.crossed) in ap whole least)
    (λ le. let least : int_min e.at d.at ≡ d.at = omega (arith, ints, clamps, le.crossed) in ap whole least)

-- and has no more slack than both
pub earlier_fine : (grains : ℕ) (e d : Bound) → IsFine grains e → IsFine grains d → IsFine grains (earlier_of e d)
earlier_fine grains e d h k = omega (arith, ints, clamps)

-- a bound of a place that lies a distance before another one
pub early_before : (e : Bound) (x : Fraction) (distance v time : ℕ) → distance ≡ distance_at v time →
    IsEarlyFor e (less x distance) → IsEarlyFor e (less x (distance_at v time))
early_before e x distance v time distance_is h = subst (λ (w : ℕ). IsEarlyFor e (less x w)) distance_is h

-- ---- the limits by the place of a curve, each a bound so many grains before another

-- a bound so many grains earlier
abbrev pub sooner : Bound → ℕ → Bound
sooner e k = record e { at = e.at +ℤ neg_ℤ (pos k) }

sooner_place : (e : Bound) (k : ℕ) → place_of (sooner e k) ≡ less (place_of e) k
sooner_place e k = whole_less _ e.at k refl

sooner_early : (e : Bound) (k : ℕ) (x : Fraction) → IsEarlyFor e x → IsEarlyFor (sooner e k) (less x k)
sooner_early e k x h = IsEarlyFor_less e (sooner e k) k refl refl x h

-- the permitted limit: the bound that the driver's time asks for, or the guide where that is earlier
abbrev pub permitted_of : Option Bound → Bound → Bound
permitted_of guide driver = option_map_or (λ g. earlier_of g driver) guide driver

permitted_place : (guide : Option Bound) (d : Bound) → place_of (permitted_of guide d)
    ≡ option_map_or (λ g. lesser g (place_of d)) (place_where guide) (place_of d)
permitted_place None d = refl
permitted_place (Some g) d = earlier_place g d

permitted_early : (guide : Option Bound) (g : Option Fraction) (d : Bound) (x : Fraction) → IsEarlyWhere guide g →
    IsEarlyFor d x → IsEarlyFor (permitted_of guide d) (option_map_or (λ y. lesser y x) g x)
permitted_early None None d x h k = k
permitted_early (Some e) (Some y) d x h k = IsEarlyFor_lesser e d y x h k
permitted_early None (Some y) d x h k = absurd h
permitted_early (Some e) None d x h k = absurd h

permitted_fine : (grains : ℕ) (guide : Option Bound) (d : Bound) → IsFineWhere grains guide → IsFine grains d →
    IsFine grains (permitted_of guide d)
permitted_fine grains None d h k = k
permitted_fine grains (Some e) d h k = earlier_fine grains e d (h e refl) k

pub permitted_near : (guide : Option Bound) (d : Bound) → IsGuide guide → IsNearZero (2 * reach) d.at →
    IsNearZero (2 * reach) (permitted_of guide d).at
permitted_near None d h k = k
permitted_near (Some e) d h k = let near = h e refl in
    (omega (arith, ints, clamps, near.0, k.0), omega (arith, ints, clamps, near.1, k.1))

-- what the SBI counts back from: the EBI, or the place itself where no D_bec counts
abbrev pub braked_of : Option ℕ → Bound → Bound
braked_of d_bec place = option_map_or (sooner place) d_bec place

pub braked_near : (d_bec : Option ℕ) (place : Bound) → ForSome d_bec (λ d. d ≤ 10 ^ 16) →
    IsNearZero curve_reach place.at → IsNearZero (curve_reach + 10 ^ 16) (braked_of d_bec place).at
braked_near None place h k = (omega (arith, ints, k.0), omega (arith, ints, k.1))
braked_near (Some d) place h k = let small = h d refl in
    (omega (arith, ints, small, k.0), omega (arith, ints, small, k.1))

-- the limits before an SBI, with an EBI if there is one
abbrev pub found_from : Times → ℕ → Option Bound → Option Bound → Bound → Limits
found_from times v guide ebi sbi =
    let permitted = permitted_of guide (sooner sbi (distance_at v driver_time)) in
    record {
      ebi = ebi;
      sbi = sbi;
      warning = sooner sbi (distance_at v warning_time);
      permitted = permitted;
      indication =
          sooner permitted (distance_at v times.indication);
    }

module _ (times : Times) (v : ℕ) (guide : Option Bound) where
  from_places : (ebi : Option Bound) (sbi : Bound) → places_of (found_from times v guide ebi sbi)
      ≡ limits_from_sbi times v (place_where guide) (place_where ebi) (place_of sbi)
  from_places ebi sbi =
      let driver = sooner sbi (distance_at v driver_time) in
      let at = sooner_place sbi (distance_at v driver_time) in
      let permitted = permitted_place guide driver
      ∙ ap (λ z. option_map_or (λ g. lesser g z) (place_where guide) z) at in
      λ i. record {
        ebi = place_where ebi;
        sbi = place_of sbi;
        warning = sooner_place sbi (distance_at v warning_time) i;
        permitted = permitted i;
        indication = (sooner_place (permitted_of guide driver) (distance_at v times.indication)
            ∙ ap (λ z. less z (distance_at v times.indication)) permitted) i;
      }

  from_early : (ebi : Option Bound) (sbi : Bound) (g e : Option Fraction) (s : Fraction) → IsEarlyWhere guide g →
      IsEarlyWhere ebi e → IsEarlyFor sbi s →
      StandFor (found_from times v guide ebi sbi) (limits_from_sbi times v g e s)
  from_early ebi sbi g e s guided early h =
      let driver = sooner_early sbi (distance_at v driver_time) s h in
      let permitted = permitted_early guide g _ _ guided driver in
      record {
        ebi = early;
        sbi = h;
        warning = sooner_early sbi (distance_at v warning_time) s h;
        permitted = permitted;
        indication = sooner_early _ (distance_at v times.indication) _ permitted;
      }

  from_fine : (grains : ℕ) (ebi : Option Bound) (sbi : Bound) → IsFineWhere grains guide → IsFineWhere grains ebi →
      IsFine grains sbi → AreFine grains (found_from times v guide ebi sbi)
  from_fine grains ebi sbi guided fine h =
      let permitted = permitted_fine grains guide (sooner sbi (distance_at v driver_time)) guided h in
      record { ebi = fine; sbi = h; warning = h; permitted = permitted; indication = permitted }

  -- those by a D_bec, if it counts
  abbrev pub found : Option ℕ → Bound → Limits
  found d_bec place = found_from times v guide (option_map (sooner place) d_bec)
      (sooner (braked_of d_bec place) (distance_at v times.bs))

  pub found_places : (d_bec : Option ℕ) (place : Bound) →
      places_of (found d_bec place) ≡ limits_at d_bec times v (place_where guide) (place_of place)
  found_places None place = from_places None (sooner place (distance_at v times.bs))
      ∙ ap (limits_from_sbi times v (place_where guide) None) (sooner_place place (distance_at v times.bs))
  found_places (Some d) place =
      from_places (Some (sooner place d)) (sooner (sooner place d) (distance_at v times.bs))
      ∙ ap (limits_from_sbi times v (place_where guide) (Some (place_of (sooner place d))))
      (sooner_place (sooner place d) (distance_at v times.bs))
      ∙ ap (λ z. limits_from_sbi times v (place_where guide) (Some z) (less z (distance_at v times.bs)))
      (sooner_place place d)

  pub found_early : (d_bec : Option ℕ) (place : Bound) (g : Option Fraction) (x : Fraction) → IsEarlyWhere guide g →
      IsEarlyFor place x → StandFor (found d_bec place) (limits_at d_bec times v g x)
  found_early None place g x guided h =
      from_early None _ g None _ guided tt (sooner_early place (distance_at v times.bs) x h)
  found_early (Some d) place g x guided h =
      let ebi = sooner_early place d x h in
      from_early (Some (sooner place d)) _ g (Some (less x d)) _ guided ebi
      (sooner_early (sooner place d) (distance_at v times.bs) (less x d) ebi)

  pub found_fine : (grains : ℕ) (d_bec : Option ℕ) (place : Bound) → IsFineWhere grains guide → IsFine grains place →
      AreFine grains (found d_bec place)
  found_fine grains None place guided h = from_fine grains None _ guided (λ e is. absurd cc) h
  found_fine grains (Some d) place guided h = from_fine grains (Some (sooner place d)) _ guided
      (λ e is. subst (λ (o : Option Bound). IfSome o (IsFine grains)) is h) h
