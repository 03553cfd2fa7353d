-- Whether a target is passed by its limit of a kind, and what counts with one more target behind the others.
use Rattle.std.proofs.Common.{◌≡◌, ℕ, ℤ, pos, Bool, true, false, ◌&&◌, nat_lt, List, [], ◌∷◌, ◌++◌, ◌≤◌}
use Rattle.std.proofs.Common.{◌<◌, Option, Some, None, refl, ap, sym, ◌∙◌, arith}
use Rattle.std.proofs.Common.{int_lt, ◌*ℤ◌, if◌then◌else◌}
use Rattle.std.proofs.lemmas.Bool.Decides.{nat_tests}
use Rattle.std.proofs.lemmas.Int.{ints}
use Rattle.std.proofs.lemmas.List.Elements.{filter-append}
use Rattle.std.proofs.lemmas.List.Sums.{fold-append}
use Rattle.std.specs.Prelude.{filter, option_map}
use Rattle.std.specs.List.{list_any}
use Rattle.std.specs.Option.{option_map_or}
use Rattle.sdm_num.specs.Fractions.{Fraction, whole}
use Rattle.sdm_num.specs.Units.{notches}
use Rattle.sdm_rules.specs.declared.limits.LimitKind.{LimitKind}
use Rattle.sdm_rules.specs.declared.limits.LimitKind.TheVariants.{Ebi, Sbi, Warning, Permitted, Indication}
use Rattle.sdm_rules.specs.declared.targets.Target.{Target}
use Rattle.sdm_num.specs.Readings.{OdometerReading, estimate_of}
use Rattle.sdm_rules.specs.Data.{TrainAndTrack}
use Rattle.sdm_rules.specs.Display.{counting_target, earlier_target, first_least, shown_as, shown_target}
use Rattle.sdm_rules.specs.Limits.{SupervisionLimits, computed, limit_in, limits_of}
use Rattle.sdm_rules.specs.Margins.{margin_of}
use Rattle.sdm_rules.specs.Targets.{at_speed_target, target_speed, with_margin}
use Rattle.sdm_rules.specs.Triggers.{Situation, front_for, is_past, passes}
use Rattle.sdm_braking.specs.declared.speeds.SpeedLimits.{SpeedLimits}
use Rattle.sdm_braking.specs.KeptCurves.{AreSpeedsOf, speed_in}
use Rattle.sdm_supervisor.specs.declared.shown.Counting.{Counting}
use Rattle.sdm_supervisor.specs.Sights.{IsCounting}
use Rattle.sdm_supervisor.proofs.PassedLaws.{any_more, at_least, passes_there}

-- the speed that is kept is the target's with the margin
pub speed_is : (kind : LimitKind) (t : Target) (s : SpeedLimits) → AreSpeedsOf t s →
    speed_in kind s ≡ with_margin (margin_of kind) t
speed_is Ebi t s is = is.ebi
speed_is Sbi t s is = is.sbi
speed_is Warning t s is = is.warning
speed_is Permitted t s is = is.permitted ∙ ap (at_speed_target t.kind) (omega arith)
speed_is Indication t s is = is.permitted ∙ ap (at_speed_target t.kind) (omega arith)

-- above its speed with the margin a target is passed where the front end is past its limit
pub above : (v : ℕ) (est max : ℤ) (t : Target) (kind : LimitKind) (l : SupervisionLimits) (x : Fraction) →
    limit_in kind l ≡ Some x → with_margin (margin_of kind) t < v →
    passes kind v est max 0 t l ≡ is_past 0 (front_for est max t.kind) x
above v est max t kind l x is faster =
    let faster_is : nat_lt (with_margin (margin_of kind) t) v ≡ true = grind (arith, nat_tests) in
    passes_there v est max t kind l x is ∙ ap (λ b. b && is_past 0 (front_for est max t.kind) x) faster_is

-- where one was passed, one is passed with one more
pub passed_already : (p : Target → Bool) (ts : List Target) (t : Target) → true ≡ list_any p ts →
    true ≡ list_any p (ts ++ t ∷ [])
passed_already p ts t is = any_more p ts t true is (p t) refl

-- where none was passed, one is passed with one more where that one is
pub passed_now : (p : Target → Bool) (ts : List Target) (t : Target) (so_far b : Bool) → so_far ≡ false →
    so_far ≡ list_any p ts → b ≡ p t → b ≡ list_any p (ts ++ t ∷ [])
passed_now p ts t so_far b none is here = any_more p ts t false (sym none ∙ is) b here

-- no margin makes a target's speed lower
pub no_slower : (kind : LimitKind) (v : ℕ) (t : Target) → with_margin (margin_of kind) t < v → target_speed t ≤ v
no_slower kind v t faster = omega (arith, at_least t.kind (notches t.speed) (margin_of kind t.speed))

-- ---- what counts

module _ (limit : Target → Fraction) where
  -- with one more target behind the others the first that is least is as before, or it is this one
  first_least_more : (us : List Target) (t : Target) → first_least limit (us ++ t ∷ [])
      ≡ Some (option_map_or (λ u. earlier_target limit u t) (first_least limit us) t)
  first_least_more [] t = refl
  first_least_more (u ∷ us) t = ap Some (fold-append (earlier_target limit) u us (t ∷ []))

  module _ (v : ℕ) (ts : List Target) (t : Target) (slower : target_speed t < v) where
    -- so of those that are slower than the train, with one more that is
    pub least_more : first_least limit (filter (λ u. nat_lt (target_speed u) v) (ts ++ t ∷ []))
        ≡ Some (option_map_or (λ u. earlier_target limit u t)
        (first_least limit (filter (λ u. nat_lt (target_speed u) v) ts)) t)
    least_more =
        let is_slower : nat_lt (target_speed t) v ≡ true = grind (arith, nat_tests) in
        let one : filter (λ u. nat_lt (target_speed u) v) (t ∷ []) ≡ t ∷ [] = rw is_slower refl in
        ap (first_least limit) (filter-append (λ u. nat_lt (target_speed u) v) ts (t ∷ [])
        ∙ ap (λ us. filter (λ u. nat_lt (target_speed u) v) ts ++ us) one)
        ∙ first_least_more (filter (λ u. nat_lt (target_speed u) v) ts) t

    module _ (p : ℤ) (place : limit t ≡ whole p) where
      -- of two targets the second one is taken where its limit is earlier
      taken : (c : Counting) → limit c.target ≡ whole c.permitted →
          earlier_target limit c.target t ≡ (if int_lt p c.permitted then t else c.target)
      taken c is =
          (λ k. if int_lt (pos (is k).m *ℤ (place k).n) (pos (place k).m *ℤ (is k).n) then t else c.target)
          ∙ (λ k. if int_lt (once p k) (once c.permitted k) then t else c.target)
        where
          once : (z : ℤ) → pos 1 *ℤ z ≡ z
          once z = omega (arith, ints)

      -- what counted goes on counting where this one's limit is not earlier
      pub counts_still : (c : Counting) → IsCounting limit v ts (Some c) → int_lt p c.permitted ≡ false →
          IsCounting limit v (ts ++ t ∷ []) (Some c)
      counts_still c is later = record {
        first = least_more ∙ ap (λ x. Some (option_map_or (λ u. earlier_target limit u t) x t)) is.first
            ∙ ap Some (taken c is.least ∙ (λ k. if later k then t else c.target));
        least = is.least;
      }

      -- this one counts where its limit is earlier
      pub counts_now : (c : Counting) → IsCounting limit v ts (Some c) → int_lt p c.permitted ≡ true →
          IsCounting limit v (ts ++ t ∷ []) (Some (record { target = t; permitted = p }))
      counts_now c is earlier = record {
        first = least_more ∙ ap (λ x. Some (option_map_or (λ u. earlier_target limit u t) x t)) is.first
            ∙ ap Some (taken c is.least ∙ (λ k. if earlier k then t else c.target));
        least = place;
      }

      -- and where none counted
      pub counts_first : IsCounting limit v ts None →
          IsCounting limit v (ts ++ t ∷ []) (Some (record { target = t; permitted = p }))
      counts_first is = record {
        first = least_more ∙ ap (λ x. Some (option_map_or (λ u. earlier_target limit u t) x t)) is.first;
        least = place;
      }

-- what counts of all targets is shown with its distance
pub shown_is : (d : TrainAndTrack) (r : OdometerReading) (now : Situation) (counting : Option Counting) →
    IsCounting (λ t. (limits_of computed d (estimate_of r) t).permitted) r.speed now.targets counting →
    shown_target d r now ≡ option_map (λ c. shown_as now c.target) counting
unfolding counting_target
shown_is d r now None is = ap (option_map (shown_as now)) is.first
shown_is d r now (Some c) is = ap (option_map (shown_as now)) is.first
