-- Falls as feet of their curves. What stands at an index of a row of feet is the foot of the fall there; a part of a row
-- is hidden as it is in the row; and the feet stand in order, as the cells of falls rise.
use Rattle.std.proofs.Common.{◌≡◌, ℕ, ℤ, List, map, length, get_or, take, drop, true, All, Some, None, Option}
use Rattle.std.proofs.Common.{◌+◌, ◌<◌, ◌≤ℤ◌, ◌&&◌, nat_le, int_le, int_lt, sym, ap, subst, ◌∙◌, arith}
use Rattle.std.specs.Prelude.{slice_index}
use Rattle.std.proofs.lemmas.Bool.{false≢true}
use Rattle.std.proofs.lemmas.Int.{ints}
use Rattle.std.proofs.lemmas.List.{get_or-drop, get_or-map, get_or-take, get_or_default}
use Rattle.std.proofs.lemmas.List.{drop-map, length-drop, length-map, length-take, take-map}
use Rattle.sdm_num.proofs.Comparisons.{le_is, le_of}
use Rattle.sdm_rules.specs.declared.data.SlopeKind.TheVariants.{Normal, Safe}
use Rattle.sdm_rules.specs.declared.targets.Target.{Target}
use Rattle.sdm_rules.specs.Cells.{place_of_cell}
use Rattle.sdm_rules.specs.Curves.{stepped}
use Rattle.sdm_rules.specs.Data.{TrainAndTrack}
use Rattle.sdm_rules.specs.Decelerations.{slopes_of}
use Rattle.sdm_rules.specs.Slopes.{Slopes}
use Rattle.sdm_speed.specs.Falls.{AreAtFalls}
use Rattle.sdm_speed.proofs.FallLists.{falls_parted, not_past}
use Rattle.sdm_curve.specs.Made.{BrakeCurve}
use Rattle.sdm_hiding.specs.declared.rows.Foot.{Foot}
use Rattle.sdm_hiding.specs.Hiding.{AreHiddenFrom, AreInOrder, IsAt, IsHiddenAfter, hides}
use Rattle.sdm_braking.specs.declared.kept_targets.KeptTarget.{KeptTarget}
use Rattle.sdm_braking.specs.FallFeet.{IsBrakedOn, IsGuideOn, IsGuidedOn, brake_foot, guide_foot}
use Rattle.sdm_braking.specs.KeptCurves.{IsGuideOf, brake_kind, is_guided}
use Rattle.sdm_braking.specs.KeptFalls.{IsKeptFall, KeptFallData, fall_of, first_cell, no_zone, target_of}
use Rattle.sdm_braking.specs.KeptFalls.{zone_fall}
use Rattle.sdm_braking.proofs.EbdLaws.{ebd_of}

-- stands for a fall past the last
abbrev pub no_fall : KeptFallData
no_fall = zone_fall no_zone

abbrev no_target : Target
no_target = target_of no_fall

-- ---- what stands at an index

module _ {A : Type 0} (foot : A → Foot) (xs : List A) (i : ℕ) where
  pub there_in : (f : Foot) → IsAt (map foot xs) i f → i < length xs
  there_in f at = let long = length-map xs foot in let known = at.known in omega (arith, long, known)

  pub foot_at : (f : Foot) (x : A) → IsAt (map foot xs) i f → foot (get_or xs i x) ≡ f
  foot_at f x at = sym (get_or-map foot xs i x f (there_in f at)) ∙ at.is f

  pub foot_there : (x : A) → i < length xs → IsAt (map foot xs) i (foot (get_or xs i x))
  foot_there x known =
      record { known = (let long = length-map xs foot in omega (arith, long, known)); is = λ e. get_or-map foot xs i x e known }

module _ (foot : Target → Foot) (ks : List KeptFallData) (i : ℕ) where
  -- so of falls that are kept
  pub kept_in_row : (f : Foot) → IsAt (map foot (map target_of ks)) i f → i < length ks
  kept_in_row f at =
      let long = length-map ks target_of in
      let known = there_in foot (map target_of ks) i f at in
      omega (arith, long, known)

  pub kept_foot_at : (f : Foot) (k : KeptTarget) → ((d : KeptFallData) → k ≡ (get_or ks i d).kept) →
      IsAt (map foot (map target_of ks)) i f → foot k.target ≡ f
  kept_foot_at f k is at =
      ap (λ (x : KeptTarget). foot x.target) (is no_fall)
      ∙ ap foot (sym (get_or-map target_of ks i no_fall k.target (kept_in_row f at)))
      ∙ foot_at foot (map target_of ks) i f k.target at

  pub kept_foot_there : (f : Foot) (k : KeptTarget) → ((d : KeptFallData) → k ≡ (get_or ks i d).kept) →
      i < length ks → f ≡ foot k.target → IsAt (map foot (map target_of ks)) i f
  kept_foot_there f k is known here =
      let long = length-map ks target_of in
      let target : get_or (map target_of ks) i k.target ≡ k.target =
      get_or-map target_of ks i no_fall k.target known ∙ ap (λ (x : KeptTarget). x.target) (sym (is no_fall)) in
      subst (λ (g : Foot). IsAt (map foot (map target_of ks)) i g) (ap foot target ∙ sym here)
      (foot_there foot (map target_of ks) i k.target (omega (arith, long, known)))

-- ---- the curves of kept falls

module _ (d : TrainAndTrack) (k : KeptFallData) (kept : IsKeptFall d k) where
  pub braked : IsBrakedOn (slopes_of Safe d) k.kept
  braked = record {
    speeds = kept.kept.speeds;
    curve = ebd_of d k.kept (ap (λ (t : Target). brake_kind t.kind) kept.at) kept.kept;
  }

  pub guided : d.national.guidance ≡ true → IsGuidedOn (slopes_of Normal d) k.kept
  guided on = record {
    speeds = kept.kept.speeds;
    curve = by_guide k.kept.guide kept.kept.guide;
  }
    where
      by_guide : (guide : Option BrakeCurve) → IsGuideOf d k.kept.target guide →
          IsGuideOn (slopes_of Normal d) k.kept.target guide
      by_guide None none =
          absurd (false≢true (sym none ∙ ap (λ (t : Target). is_guided d t.kind) kept.at ∙ on))
      by_guide (Some guide) h = h.1

-- ---- a part of a row

module _ (feet : List Foot) (b e : ℕ) where
  part_at : (i : ℕ) (f : Foot) → IsAt (take e (drop b feet)) i f → IsAt feet (b + i) f
  part_at i f at =
      let long = length-take e (drop b feet) in
      let rest = length-drop b feet in
      let known = at.known in
      record {
        known = omega (arith, known, long, rest);
        is = λ d. sym (get_or-drop b feet i d)
            ∙ sym (get_or-take e (drop b feet) i d (omega (arith, known, long))) ∙ at.is d;
      }

  pub part_hidden : (on : Slopes) (steps : List ℕ) → AreHiddenFrom on feet steps 0 →
      AreHiddenFrom on (take e (drop b feet)) (drop b steps) 0
  part_hidden on steps h i f low at =
      let whole = h (b + i) f (omega arith) (part_at i f at) in
      let same : slice_index (drop b steps) i ≡ slice_index steps (b + i) = get_or-drop b steps i 0 in
      subst (λ (s : ℕ). IsHiddenAfter on (take e (drop b feet)) i f s) (sym same) (record {
        some = whole.some;
        clear = λ k g past before there. whole.clear (b + k) g (omega (arith, past)) (omega (arith, before))
            (part_at k g there);
        hidden = λ g there. whole.hidden g (subst (λ (n : ℕ). IsAt feet n g) (omega arith)
            (part_at (i + slice_index steps (b + i)) g there));
      })

  pub part_order : AreInOrder feet → AreInOrder (take e (drop b feet))
  part_order h i k f g le at there =
      h (b + i) (b + k) f g (omega (arith, le)) (part_at i f at) (part_at k g there)

-- ---- the order of falls

cells_in_order : (a b : ℤ) → a ≤ℤ b → place_of_cell a ≤ℤ place_of_cell b
cells_in_order a b le = omega (arith, ints, le)

-- kept falls stand in the order of their places
pub falls_in_order : (d : TrainAndTrack) (p : ℤ → ℕ) (ks : List KeptFallData) → AreAtFalls fall_of p first_cell ks →
    All (IsKeptFall d) ks → AreInOrder (map brake_foot (map target_of ks))
falls_in_order d p ks falls each i k f g le at there =
    let one = get_or ks i no_fall in
    let other = get_or ks k no_fall in
    let in_one = kept_in_row brake_foot ks i f at in
    let in_other = kept_in_row brake_foot ks k g there in
    let first : one.kept.target.place ≡ f.place =
    ap (λ (x : Foot). x.place) (kept_foot_at brake_foot ks i f one.kept (λ d. default_kept ks i d in_one) at) in
    let second : other.kept.target.place ≡ g.place =
    ap (λ (x : Foot). x.place) (kept_foot_at brake_foot ks k g other.kept (λ d. default_kept ks k d in_other) there) in
    let at_one : one.kept.target.place ≡ place_of_cell one.fall.cell =
    ap (λ (t : Target). t.place) (each i no_fall in_one).at in
    let at_other : other.kept.target.place ≡ place_of_cell other.fall.cell =
    ap (λ (t : Target). t.place) (each k no_fall in_other).at in
    let last = other.fall.cell in
    let rises : one.fall.cell ≤ℤ last = le_of _ _ (falls_parted fall_of p (λ a. int_le a last) (not_past last) first_cell
    ks falls i k no_fall le in_other (le_is last last (omega (arith, ints)))) in
    let cells = cells_in_order one.fall.cell last rises in
    subst (λ (z : ℤ). z ≤ℤ g.place) (sym at_one ∙ first)
    (subst (λ (z : ℤ). place_of_cell one.fall.cell ≤ℤ z) (sym at_other ∙ second) cells)
  where
    default_kept : (ks : List KeptFallData) (i : ℕ) (d : KeptFallData) → i < length ks →
        (get_or ks i no_fall).kept ≡ (get_or ks i d).kept
    default_kept ks i d known = ap (λ (x : KeptFallData). x.kept) (get_or_default ks i no_fall d known)

-- as feet of guidance curves they stand at the same places
pub guides_in_order : (ts : List Target) → AreInOrder (map brake_foot ts) → AreInOrder (map guide_foot ts)
guides_in_order ts h i k f g le at there =
    let t = get_or ts i no_target in
    let u = get_or ts k no_target in
    let places = h i k (brake_foot t) (brake_foot u) le
    (foot_there brake_foot ts i no_target (there_in guide_foot ts i f at))
    (foot_there brake_foot ts k no_target (there_in guide_foot ts k g there)) in
    subst (λ (z : ℤ). z ≤ℤ g.place) (ap (λ (x : Foot). x.place) (foot_at guide_foot ts i f no_target at))
    (subst (λ (z : ℤ). t.place ≤ℤ z) (ap (λ (x : Foot). x.place) (foot_at guide_foot ts k g no_target there)) places)

-- ---- rows of kept falls

-- what stands in a row at an index is kept so
pub row_at : (P : KeptTarget → Type 0) (ks : List KeptFallData) (i : ℕ) (k : KeptTarget) →
    All (λ (x : KeptFallData). P x.kept) ks → ((d : KeptFallData) → k ≡ (get_or ks i d).kept) → i < length ks → P k
row_at P ks i k all is known = subst P (sym (is no_fall)) (all i no_fall known)

-- a comparison of the levels of two curves tells whether one hides the other
pub hides_by : (on : Slopes) (h f : Foot) (by_place one_place : ℤ) (by_speed speed : ℕ) → by_place ≡ h.place →
    by_speed ≡ h.speed → one_place ≡ f.place → speed ≡ f.speed →
    (nat_le by_speed speed && int_lt (stepped on by_place by_speed speed) one_place) ≡ hides on h f
hides_by on h f by_place one_place by_speed speed hp hs fp fs =
    λ j. nat_le (hs j) (fs j) && int_lt (stepped on (hp j) (hs j) (fs j)) (fp j)

-- a row has a foot for each fall
pub in_row : (foot : Target → Foot) (ks : List KeptFallData) (i : ℕ) → i < length (map foot (map target_of ks)) →
    i < length ks
in_row foot ks i known =
    let feet = length-map (map target_of ks) foot in
    let targets = length-map ks target_of in
    omega (arith, known, feet, targets)

-- a part of a row is the row of a part
pub part_of_row : (foot : Target → Foot) (ks : List KeptFallData) (b e : ℕ) →
    map foot (map target_of (take e (drop b ks))) ≡ take e (drop b (map foot (map target_of ks)))
part_of_row foot ks b e =
    ap (map foot) (sym (take-map target_of e (drop b ks)) ∙ ap (take e) (sym (drop-map target_of b ks)))
    ∙ sym (take-map foot e (drop b (map target_of ks))) ∙ ap (take e) (sym (drop-map foot b (map target_of ks)))
