-- A profile has no more falls than entries and restrictions: each lies where a zone begins that none of the earlier
-- ones has.
use Rattle.std.proofs.Common.{◌≡◌, ℕ, suc, ℤ, List, [], ◌∷◌, length, map, Option, Some, None, Bool, true}
use Rattle.std.proofs.Common.{false, ◌||◌, if◌then◌else◌, int_le, ◌+◌, ◌≤◌, ◌≤ℤ◌, ◌<ℤ◌, refl, ap, arith}
use Rattle.std.proofs.Common.{length-append}
use Rattle.std.specs.Option.{option_map_or}
use Rattle.std.specs.Ordering.{int_eq}
use Rattle.std.specs.FinMap as finite
use Rattle.std.proofs.lemmas.Int.{ints, by_lt_z}
use Rattle.std.proofs.lemmas.Bool.Decides.{Decides-int_eq}
use Rattle.std.proofs.lemmas.List.{length-map}
use Rattle.sdm_num.proofs.Comparisons.{le_is, not_le_is}
use Rattle.sdm_rules.specs.declared.data.SpeedStep.{SpeedStep}
use Rattle.sdm_rules.specs.declared.targets.Fall.{Fall}
use Rattle.sdm_rules.specs.Profile.{Zone, static_zones, zones_of_track, zone_of}
use Rattle.sdm_rules.specs.Records.{most_restrictions}
use Rattle.sdm_rules.specs.Targets.{IsNextFall}
use Rattle.sdm_speed.specs.Profiles.{ProfileData, zones_of, mrsp_of, IsProfile}
use Rattle.sdm_speed.proofs.FallStarts.{starts_at_fall}
use Rattle.sdm_speed.proofs.StartLaws.{starts_at, has_start}
use Rattle.sdm_targets.specs.Lists.{most_falls}

-- ---- how many zones have begun

-- 1 where a zone with this first cell has begun at `at`, else 0; one without a first cell counts 0
abbrev begun : Option ℤ → ℤ → ℕ
begun None at = 0
begun (Some first) at = if int_le first at then 1 else 0

-- how many zones have begun at a cell
pub passed : List Zone → ℤ → ℕ
passed [] at = 0
passed (z ∷ zs) at = begun z.first at + passed zs at

begun_most : (first : Option ℤ) (at : ℤ) → begun first at ≤ 1
begun_most None at = omega arith
begun_most (Some f) at = by_lt_z at f (λ (l : at <ℤ f). rw (not_le_is f at l) (omega arith))
    (λ (g : f ≤ℤ at). rw (le_is f at g) (omega arith))

-- no less at a later cell
begun_rises : (first : Option ℤ) (at c : ℤ) → at ≤ℤ c → begun first at ≤ begun first c
begun_rises None at c le = omega arith
begun_rises (Some f) at c le =
    by_lt_z at f
    (λ (l : at <ℤ f). rw (not_le_is f at l) (omega arith))
    (λ (g : f ≤ℤ at). rw (le_is f at g, le_is f c (omega (arith, ints))) (omega arith))

-- one more where the zone begins
begun_here : (first : Option ℤ) (at c : ℤ) → at <ℤ c → option_map_or (int_eq c) first false ≡ true →
    begun first at + 1 ≤ begun first c
begun_here None at c lt here = absurd cc
begun_here (Some f) at c lt here =
    let same : c ≡ f = (Decides-int_eq c f).0 here in
    rw (not_le_is f at (omega (arith, ints)), le_is f c (omega (arith, ints))) (omega arith)

pub passed_most : (zs : List Zone) (at : ℤ) → passed zs at ≤ length zs
unfolding passed
passed_most [] at = omega arith
passed_most (z ∷ zs) at = omega (arith, begun_most z.first at, passed_most zs at)

-- no fewer at a later cell
passed_rises : (zs : List Zone) (at c : ℤ) → at ≤ℤ c → passed zs at ≤ passed zs c
unfolding passed
passed_rises [] at c le = omega arith
passed_rises (z ∷ zs) at c le = omega (arith, begun_rises z.first at c le, passed_rises zs at c le)

-- where one of two counts rises and neither falls, their sum rises
one_of : (a b : Bool) (k l m n : ℕ) → (a ≡ true → k + 1 ≤ l) → k ≤ l → (b ≡ true → m + 1 ≤ n) → m ≤ n →
    (a || b) ≡ true → (k + m) + 1 ≤ l + n
one_of true b k l m n first le rest rises here = omega (arith, first refl)
one_of false true k l m n first le rest rises here = omega (arith, rest refl)
one_of false false k l m n first le rest rises here = absurd cc

-- and more where one begins
pub passed_more : (zs : List Zone) (at c : ℤ) → at <ℤ c → has_start zs c ≡ true → passed zs at + 1 ≤ passed zs c
unfolding passed
passed_more [] at c lt here = absurd cc
passed_more (z ∷ zs) at c lt here =
    let le : at ≤ℤ c = omega (arith, ints) in
    one_of (starts_at c z) (has_start zs c) _ _ _ _ (begun_here z.first at c lt) (begun_rises z.first at c le)
    (passed_more zs at c lt) (passed_rises zs at c le) here

-- ---- the zones of a profile

-- a zone for each entry
static_count : (length_cm : ℤ) (first : Option ℤ) (e : SpeedStep) (es : List SpeedStep) →
    length (static_zones length_cm first e es) ≡ length (e ∷ es)
static_count length_cm first e [] = refl
static_count length_cm first e (next ∷ es) = ap suc (static_count length_cm (Some next.start) next es)

-- of a list with entries or none
pub track_count : (length_cm : ℤ) (es : List SpeedStep) → length (zones_of_track length_cm es) ≡ length es
track_count length_cm [] = refl
track_count length_cm (e ∷ es) = static_count length_cm None e es

-- there are no more zones than entries and restrictions
pub zones_few : (p : ProfileData) → IsProfile p → length (zones_of p) ≤ length p.speeds + most_restrictions
zones_few p h =
    rw (
      length-append (zones_of_track p.length_cm p.speeds) (map (zone_of p.length_cm) (finite.values p.restrictions)),
      track_count p.length_cm p.speeds,
      length-map (finite.values p.restrictions) (zone_of p.length_cm),
      length-map (finite.entries p.restrictions) (λ e. e.1),
      ← finite.len-entries p.restrictions,
    )
    (omega (arith, h.few))

-- as many falls as zones have begun are no more than a profile may have
pub falls_few : (p : ProfileData) (at : ℤ) (n : ℕ) → IsProfile p → n ≤ passed (zones_of p) at → n ≤ most_falls
falls_few p at n h le = omega (arith, passed_most (zones_of p) at, zones_few p h, h.speeds.few)

-- one fall more
pub fall_counts : (p : ProfileData) (at : ℤ) (fall : Fall) → IsNextFall (mrsp_of p) at fall →
    passed (zones_of p) at + 1 ≤ passed (zones_of p) fall.cell
fall_counts p at fall next =
    passed_more (zones_of p) at fall.cell next.beyond (starts_at_fall p.max_speed (zones_of p) fall.cell next.falls)
