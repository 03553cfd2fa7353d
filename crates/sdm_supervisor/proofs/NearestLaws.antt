-- One more target behind the others: the printed limit of a name becomes the lesser of theirs and its own, where its
-- limits count.
use Rattle.std.proofs.Common.{◌≡◌, ℕ, ℤ, pos, neg_ℤ, ◌+ℤ◌, nat_le, List, [], ◌∷◌, ◌++◌, Option, Some}
use Rattle.std.proofs.Common.{None, refl, ap, sym, ◌∙◌, ◌≤◌, ◌<◌, ◌≤ℤ◌, ◌<ℤ◌, arith}
use Rattle.std.specs.Prelude.{filter, filter_map, option_map}
use Rattle.std.specs.Int.{int_min}
use Rattle.std.proofs.lemmas.Bool.{le-leb, lt-leb}
use Rattle.std.proofs.lemmas.Int.{ints, clamps, by_lt_z}
use Rattle.std.proofs.lemmas.List.Elements.{filter-append, filter_map-append}
use Rattle.std.proofs.lemmas.List.Sums.{fold-append}
use Rattle.std.proofs.lemmas.List.{append-nil}
use Rattle.sdm_num.specs.Bounds.{Bound, mm_below}
use Rattle.sdm_num.specs.Fractions.{Fraction, less, whole}
use Rattle.sdm_num.specs.Readings.{Estimate}
use Rattle.sdm_num.specs.Units.{distance_at}
use Rattle.sdm_num.proofs.Floors.{floor_low, floor_high}
use Rattle.sdm_rules.specs.declared.data.Times.{Times}
use Rattle.sdm_rules.specs.declared.targets.Target.{Target}
use Rattle.sdm_rules.specs.declared.targets.TargetKind.{TargetKind}
use Rattle.sdm_rules.specs.declared.targets.TargetKind.TheVariants.{Mrsp, Loa, Eoa, Svl}
use Rattle.sdm_rules.specs.Data.{TrainAndTrack}
use Rattle.sdm_rules.specs.Limits.{SupervisionLimits, computed, limits_of, limits_of_kind}
use Rattle.sdm_rules.specs.Reaction.{reaction_times, warning_time}
use Rattle.sdm_rules.specs.Supervision.{least_of, shown_limit, whole_mm}
use Rattle.sdm_rules.specs.Targets.{target_speed}
use Rattle.sdm_limits.specs.declared.limits.Limits.{Limits}
use Rattle.sdm_limits.specs.Sides.{place_where, places_of}
use Rattle.sdm_limits.proofs.Places.{whole_less}
use Rattle.sdm_supervisor.specs.declared.nearest.Nearest.{Nearest}
use Rattle.sdm_supervisor.specs.Verdicts.{AreNearest, IsNearer, ebi_in, mm_before, nearer, permitted_in, sbi_in}

-- ---- the lesser of two places in whole millimetres

-- rounding to millimetres keeps the order
mm_rises : (a b : ℤ) → a ≤ℤ b → mm_below a ≤ℤ mm_below b
mm_rises a b h = omega (arith, ints, h, floor_low 540_000_000 a (omega arith), floor_high 540_000_000 b (omega arith))

lesser_first : (a b : ℤ) → a ≤ℤ b → int_min a b ≡ a
lesser_first a b h = omega (arith, ints, clamps, h)

lesser_second : (a b : ℤ) → b ≤ℤ a → int_min a b ≡ b
lesser_second a b h = omega (arith, ints, clamps, h)

-- the lesser of two places, taken earlier, is the lesser of the two taken earlier
lesser_earlier : (a b : ℤ) (k : ℕ) → int_min a b +ℤ neg_ℤ (pos k) ≡ int_min (a +ℤ neg_ℤ (pos k)) (b +ℤ neg_ℤ (pos k))
lesser_earlier a b k = omega (arith, ints, clamps)

-- in millimetres the lesser is the lesser of both in millimetres
mm_of_lesser : (a b : ℤ) → mm_below (int_min a b) ≡ int_min (mm_below a) (mm_below b)
mm_of_lesser a b =
    by_lt_z b a
    (λ (l : b <ℤ a). let below = mm_rises b a (omega (arith, ints))
    in ap mm_below (lesser_second a b (omega (arith, ints))) ∙ sym (lesser_second (mm_below a) (mm_below b) below))
    (λ (g : a ≤ℤ b). let below =
    mm_rises a b g in ap mm_below (lesser_first a b g) ∙ sym (lesser_first (mm_below a) (mm_below b) below))

-- and so where a place may be missing
mm_of_nearer : (a b : Option ℤ) →
    option_map mm_below (nearer a b) ≡ nearer (option_map mm_below a) (option_map mm_below b)
mm_of_nearer None b = refl
mm_of_nearer (Some x) None = refl
mm_of_nearer (Some x) (Some y) = ap Some (mm_of_lesser x y)

nearer_none : (a : Option ℤ) → nearer a None ≡ a
nearer_none None = refl
nearer_none (Some x) = refl

-- a whole place in millimetres
pub mm_of_whole : (x : ℤ) → whole_mm (whole x) ≡ mm_below x
mm_of_whole x = ap mm_below (omega (arith, ints, floor_low 1 x (omega arith), floor_high 1 x (omega arith)))

-- and so where it may be missing
mm_where : (x : Option ℤ) → option_map whole_mm (option_map whole x) ≡ option_map mm_below x
mm_where None = refl
mm_where (Some x) = ap Some (mm_of_whole x)

-- ---- one more place

-- the least of a list with one more is the nearer of the least and that one
least_of_more : (xs : List ℤ) (y : ℤ) → least_of (xs ++ y ∷ []) ≡ nearer (least_of xs) (Some y)
least_of_more [] y = refl
least_of_more (x ∷ xs) y = ap Some (fold-append int_min x xs (y ∷ []))

module _ (v : ℕ) (ts : List Target) (t : Target) (limit : Target → Option Fraction) where
  -- the places in millimetres that targets have
  abbrev places : List Target → List ℤ
  places us = filter_map (λ u. option_map whole_mm (limit u)) us

  -- the targets whose limits count: those that are no faster than the train
  abbrev counted : List Target → List Target
  counted us = filter (λ u. nat_le (target_speed u) v) us

  -- one more target adds its own place behind the others'
  of_more : places (counted (ts ++ t ∷ [])) ≡ places (counted ts) ++ places (counted (t ∷ []))
  of_more = ap places (filter-append (λ u. nat_le (target_speed u) v) ts (t ∷ []))
      ∙ filter_map-append (λ u. option_map whole_mm (limit u)) (counted ts) (counted (t ∷ []))

  -- a target above the train's speed has no part in it
  pub not_counted : v < target_speed t → shown_limit v (ts ++ t ∷ []) limit ≡ shown_limit v ts limit
  not_counted slower =
      ap least_of (of_more ∙ (rw (lt-leb (target_speed t) v slower) (append-nil (places (counted ts)))))

  -- where it counts, the limit is the nearer of theirs and its own
  place_behind : (x : Option ℤ) → option_map whole_mm (limit t) ≡ x →
      least_of (places (counted ts) ++ places (t ∷ [])) ≡ nearer (shown_limit v ts limit) x
  place_behind None is =
      rw is (ap least_of (append-nil (places (counted ts))) ∙ sym (nearer_none (shown_limit v ts limit)))
  place_behind (Some y) is = rw is (least_of_more (places (counted ts)) y)

  -- of another the lesser of its limit and theirs, in whole millimetres
  pub with_limit : target_speed t ≤ v → (x y : Option ℤ) → limit t ≡ option_map whole y →
      option_map mm_below x ≡ shown_limit v ts limit →
      option_map mm_below (nearer x y) ≡ shown_limit v (ts ++ t ∷ []) limit
  with_limit slow x y is so_far =
      mm_of_nearer x y ∙ (λ k. nearer (so_far k) (sym (mm_where y) k))
      ∙ sym (ap least_of (of_more ∙ rw (le-leb (target_speed t) v slow) refl)
      ∙ place_behind (option_map whole_mm (option_map whole y)) (ap (option_map whole_mm) is))

  -- and where each of them is taken so many grains earlier
  pub with_earlier : target_speed t ≤ v → (k : ℕ) (x : Option ℤ) (y : ℤ) →
      limit t ≡ Some (whole (y +ℤ neg_ℤ (pos k))) → option_map (mm_before k) x ≡ shown_limit v ts limit →
      option_map (mm_before k) (nearer x (Some y)) ≡ shown_limit v (ts ++ t ∷ []) limit
  with_earlier slow k None y is so_far = with_limit slow None (Some (y +ℤ neg_ℤ (pos k))) is so_far
  with_earlier slow k (Some x) y is so_far =
      ap (λ z. Some (mm_below z)) (lesser_earlier x y k)
      ∙ with_limit slow (Some (x +ℤ neg_ℤ (pos k))) (Some (y +ℤ neg_ℤ (pos k))) is so_far

-- the nearest limits are not changed by a target above the train's speed
pub nearest_without : (times : Times) (v : ℕ) (all : Target → SupervisionLimits) (ts : List Target) (t : Target)
    (near : Option Nearest) → v < target_speed t → AreNearest times v all ts near →
    AreNearest times v all (ts ++ t ∷ []) near
nearest_without times v all ts t near slower is = record {
  ebi = is.ebi ∙ sym (not_counted v ts t (λ u. (all u).ebi) slower);
  sbi = is.sbi ∙ sym (not_counted v ts t (λ u. Some (all u).sbi) slower);
  warning = is.warning ∙ sym (not_counted v ts t (λ u. Some (all u).warning) slower);
  permitted = is.permitted ∙ sym (not_counted v ts t (λ u. Some (all u).permitted) slower);
  indication = is.indication ∙ sym (not_counted v ts t (λ u. Some (all u).indication) slower);
}

-- ---- limits that lie so many grains before others

module _ (d : TrainAndTrack) (e : Estimate) (t : Target) where
  -- the warning limit lies the warning time before the SBI, for each kind of target
  warning_of_kind : (kind : TargetKind) → (limits_of_kind computed d e t kind).warning
      ≡ less (limits_of_kind computed d e t kind).sbi (distance_at e.speed warning_time)
  warning_of_kind Mrsp = refl
  warning_of_kind Loa = refl
  warning_of_kind Eoa = refl
  warning_of_kind Svl = refl

  -- the indication limit lies the indication time before the permitted one, for each kind
  indication_of_kind : (kind : TargetKind) →
      (limits_of_kind computed d e t kind).indication
      ≡ less (limits_of_kind computed d e t kind).permitted (distance_at e.speed (reaction_times d).indication)
  indication_of_kind Mrsp = refl
  indication_of_kind Loa = refl
  indication_of_kind Eoa = refl
  indication_of_kind Svl = refl

  -- so for each target the warning limit
  warning_of : (limits_of computed d e t).warning
      ≡ less (limits_of computed d e t).sbi (distance_at e.speed warning_time)
  unfolding limits_of
  warning_of = warning_of_kind t.kind

  -- and the indication limit
  indication_of : (limits_of computed d e t).indication
      ≡ less (limits_of computed d e t).permitted (distance_at e.speed (reaction_times d).indication)
  unfolding limits_of
  indication_of = indication_of_kind t.kind

-- the place of a bound, where there is one
whole_where : (b : Option Bound) → place_where b ≡ option_map whole (option_map (λ x. x.at) b)
whole_where None = refl
whole_where (Some x) = refl

-- a place so many grains before a whole one
before_whole : (x y : Fraction) (k : ℕ) (z : ℤ) → x ≡ less y k → whole z ≡ y →
    Some x ≡ Some (whole (z +ℤ neg_ℤ (pos k)))
before_whole x y k z is place =
    ap Some (is ∙ (λ i. less (sym place i) k) ∙ sym (whole_less (z +ℤ neg_ℤ (pos k)) z k refl))

-- each nearest limit becomes the lesser of what it was and the target's
pub nearest_with : (d : TrainAndTrack) (e : Estimate) (ts : List Target) (t : Target) (l : Limits)
    (near : Option Nearest) (new : Nearest) → target_speed t ≤ e.speed → places_of l ≡ limits_of computed d e t →
    IsNearer near l new → AreNearest (reaction_times d) e.speed (limits_of computed d e) ts near →
    AreNearest (reaction_times d) e.speed (limits_of computed d e) (ts ++ t ∷ []) (Some new)
nearest_with d e ts t l near new slow places is so_far =
    let all = limits_of computed d e in
    let warned = before_whole (all t).warning (all t).sbi (distance_at e.speed warning_time) l.sbi.at
    (warning_of d e t) (λ k. (places k).sbi) in
    let indicated = before_whole (all t).indication (all t).permitted
    (distance_at e.speed (reaction_times d).indication) l.permitted.at (indication_of d e t)
    (λ k. (places k).permitted) in
    record {
      ebi = ap (option_map mm_below) is.ebi ∙ with_limit e.speed ts t (λ u. (all u).ebi) slow (ebi_in near)
          (option_map (λ x. x.at) l.ebi) (sym (λ k. (places k).ebi) ∙ whole_where l.ebi) so_far.ebi;
      sbi = ap (option_map mm_below) is.sbi ∙ with_limit e.speed ts t (λ u. Some (all u).sbi) slow (sbi_in near)
          (Some l.sbi.at) (sym (λ k. Some (places k).sbi)) so_far.sbi;
      warning = ap (option_map (mm_before (distance_at e.speed warning_time))) is.sbi
          ∙ with_earlier e.speed ts t (λ u. Some (all u).warning) slow (distance_at e.speed warning_time)
          (sbi_in near) l.sbi.at warned so_far.warning;
      permitted = ap (option_map mm_below) is.permitted ∙ with_limit e.speed ts t (λ u. Some (all u).permitted) slow
          (permitted_in near) (Some l.permitted.at) (sym (λ k. Some (places k).permitted)) so_far.permitted;
      indication = ap (option_map (mm_before (distance_at e.speed (reaction_times d).indication))) is.permitted
          ∙ with_earlier e.speed ts t (λ u. Some (all u).indication) slow
          (distance_at e.speed (reaction_times d).indication)
          (permitted_in near) l.permitted.at indicated so_far.indication;
    }
