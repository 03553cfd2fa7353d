-- What counts of some targets goes on counting past one whose limit is no earlier than that of one of them.
use Rattle.std.proofs.Common.{◌≡◌, ℕ, zero, suc, pos, true, false, ◌+◌, ◌-◌, ◌<◌, ◌≤◌, ◌*ℤ◌, int_lt, nat_lt, List, [], ◌∷◌, ◌++◌}
use Rattle.std.proofs.Common.{Bool, length, take, slice_index_or, Option, Some, None, if◌then◌else◌, refl, sym, ap, subst}
use Rattle.std.proofs.Common.{◌∙◌, arith, inl, inr}
use Rattle.std.specs.Prelude.{All, filter}
use Rattle.std.specs.Option.{option_map_or}
use Rattle.std.proofs.lemmas.Bool.{cases_lt, le-ltb}
use Rattle.std.proofs.lemmas.List.{append-nil, take_more}
use Rattle.std.proofs.lemmas.List.Elements.{filter-append}
use Rattle.sdm_num.specs.Fractions.{Fraction, IsAtMost}
use Rattle.sdm_num.proofs.Comparisons.{not_lt_is, not_lt_of}
use Rattle.sdm_num.proofs.Order.{at_most_refl, at_most_trans}
use Rattle.sdm_num.specs.Readings.{Estimate}
use Rattle.sdm_rules.specs.declared.limits.LimitKind.TheVariants.{Permitted}
use Rattle.sdm_rules.specs.declared.targets.Target.{Target}
use Rattle.sdm_rules.specs.declared.targets.TargetKind.TheVariants.{Mrsp}
use Rattle.sdm_rules.specs.Data.{TrainAndTrack}
use Rattle.sdm_rules.specs.Display.{earlier_target, first_least}
use Rattle.sdm_rules.specs.Limits.{computed, limits_of}
use Rattle.sdm_rules.specs.Targets.{target_speed}
use Rattle.sdm_order.specs.LimitsInOrder.{IsSlowFall}
use Rattle.sdm_order.proofs.Fractions.{limits_are_fractions}
use Rattle.sdm_order.proofs.Limits.{limit_order}
use Rattle.sdm_supervisor.specs.declared.shown.Counting.{Counting}
use Rattle.sdm_supervisor.specs.AskedFalls.{AreNoneEarlier, IsNoLaterFall, no_target}
use Rattle.sdm_supervisor.specs.Sights.{IsCounting}
use Rattle.sdm_supervisor.proofs.ShownLaws.{least_more}

module _ (limit : Target → Fraction) (v : ℕ) where
  -- the targets that are slower than the train
  abbrev slower : List Target → List Target
  slower ts = filter (λ u. nat_lt (target_speed u) v) ts

  -- of two targets the one that counts stays where its limit is at most the other's
  stays : (t u : Target) → IsAtMost (limit t) (limit u) → earlier_target limit t u ≡ t
  stays t u le = rw (not_lt_is (pos (limit t).m *ℤ (limit u).n) (pos (limit u).m *ℤ (limit t).n) le.crossed) refl

  -- and of two the one that counts has a limit at most that of the second
  at_most_second : (t u : Target) → IsAtMost (limit (earlier_target limit t u)) (limit u)
  at_most_second t u = by_test (int_lt (pos (limit t).m *ℤ (limit u).n) (pos (limit u).m *ℤ (limit t).n)) refl
    where
      by_test : (b : Bool) → int_lt (pos (limit t).m *ℤ (limit u).n) (pos (limit u).m *ℤ (limit t).n) ≡ b →
          IsAtMost (limit (if b then u else t)) (limit u)
      by_test true e = at_most_refl (limit u)
      by_test false e = record {
        crossed = not_lt_of (pos (limit t).m *ℤ (limit u).n) (pos (limit u).m *ℤ (limit t).n) e;
      }

  -- one that isn't slower than the train changes nothing
  passed_faster : (ts : List Target) (t : Target) (c : Option Counting) → v ≤ target_speed t →
      IsCounting limit v ts c → IsCounting limit v (ts ++ t ∷ []) c
  passed_faster ts t c faster is =
      let none : slower (t ∷ []) ≡ [] = rw (le-ltb (target_speed t) v faster) refl in
      record {
        first = ap (first_least limit) (filter-append (λ u. nat_lt (target_speed u) v) ts (t ∷ [])
            ∙ ap (λ us. slower ts ++ us) none ∙ append-nil (slower ts)) ∙ is.first;
        least = is.least;
      }

  -- nor does one whose limit is no earlier than that of what counts
  passed_later : (ts : List Target) (t : Target) (c : Counting) → target_speed t < v →
      IsAtMost (limit c.target) (limit t) → IsCounting limit v ts (Some c) → IsCounting limit v (ts ++ t ∷ []) (Some c)
  passed_later ts t c less later is = record {
    first = least_more limit v ts t less ∙ ap (λ x. Some (option_map_or (λ u. earlier_target limit u t) x t)) is.first
        ∙ ap Some (stays c.target t later);
    least = is.least;
  }

  -- something counts, by a limit that is no later than that of a target
  pub record CountsFor (t : Target) (c : Option Counting) : Type 0 where
    pub counting : Counting
    pub is : c ≡ Some counting
    pub no_later : IsAtMost (limit counting.target) (limit t)

  -- so behind one that is slower than the train
  pub counts_for : (ts : List Target) (t : Target) (c : Option Counting) → target_speed t < v →
      IsCounting limit v (ts ++ t ∷ []) c → CountsFor t c
  counts_for ts t None less is = (let none = sym is.first ∙ least_more limit v ts t less in absurd (none_some none))
    where
      none_some : {x : Target} → None ≡ Some x → ⊥
      none_some e = cc
  counts_for ts t (Some c) less is =
      let same : option_map_or (λ u. earlier_target limit u t) (first_least limit (slower ts)) t ≡ c.target =
      of_some (sym (least_more limit v ts t less) ∙ is.first) in
      record {
        counting = c;
        is = refl;
        no_later = subst (λ (u : Target). IsAtMost (limit u) (limit t)) same (by_first (first_least limit (slower ts)));
      }
    where
      of_some : {x y : Target} → Some x ≡ Some y → x ≡ y
      of_some e = cc

      by_first : (x : Option Target) → IsAtMost (limit (option_map_or (λ u. earlier_target limit u t) x t)) (limit t)
      by_first None = at_most_refl (limit t)
      by_first (Some u) = at_most_second u t

  -- what counts goes on counting past a part of a list, where no limit there is earlier
  pub counts_past : (ts : List Target) (none : Target) (c : Counting) (n from : ℕ) → from + n ≤ length ts →
      ((k : ℕ) → from ≤ k → k < from + n → target_speed (slice_index_or ts k none) < v →
      IsAtMost (limit c.target) (limit (slice_index_or ts k none))) →
      IsCounting limit v (take from ts) (Some c) → IsCounting limit v (take (from + n) ts) (Some c)
  counts_past ts none c zero from inside later is =
      subst (λ (k : ℕ). IsCounting limit v (take k ts) (Some c)) (omega arith) is
  counts_past ts none c (suc n) from inside later is =
      let t = slice_index_or ts from none in
      let one : IsCounting limit v (take from ts ++ t ∷ []) (Some c) = elim (cases_lt (target_speed t) v) [
        | inl less ↦ passed_later (take from ts) t c less (later from (omega arith) (omega arith) less) is
        | inr faster ↦ passed_faster (take from ts) t (Some c) faster is
      ] in
      let next = subst (λ (us : List Target). IsCounting limit v us (Some c))
      (sym (take_more ts from none (omega (arith, inside)))) one in
      subst (λ (k : ℕ). IsCounting limit v (take k ts) (Some c)) (omega arith)
      (counts_past ts none c n (from + 1) (omega (arith, inside))
      (λ k low high. later k (omega (arith, low)) (omega (arith, high))) next)

-- ---- falls

module _ (d : TrainAndTrack) (e : Estimate) (falls : List Target) (each : All (λ t. t.kind ≡ Mrsp) falls) where
  -- the permitted limit of a target
  abbrev permitted : Target → Fraction
  permitted t = (limits_of computed d e t).permitted

  -- of a fall that is no later the permitted limit is no later
  no_later_limit : (t r : Target) → IsSlowFall e t → IsSlowFall e r → IsNoLaterFall d e t r →
      IsAtMost (permitted t) (permitted r)
  no_later_limit t r t_is r_is h =
      elim (limit_order Permitted d e r t t r_is t_is t_is h.brake h.guide) [ inl le ↦ le | inr le ↦ le.1 ]

  -- past a fall that counts, what counts goes on counting up to where one may be before it
  pub counts_up_to : (i to : ℕ) (c : Option Counting) → i < to → to ≤ length falls → AreNoneEarlier d falls i to →
      target_speed (slice_index_or falls i no_target) < e.speed →
      IsCounting permitted e.speed (take i falls ++ slice_index_or falls i no_target ∷ []) c →
      IsCounting permitted e.speed (take to falls) c
  counts_up_to i to c past inside none less is =
      let t = slice_index_or falls i no_target in
      let for_it = counts_for permitted e.speed (take i falls) t c less is in
      let known : i < length falls = omega (arith, past, inside) in
      let next = subst (λ (us : List Target). IsCounting permitted e.speed us (Some for_it.counting))
      (sym (take_more falls i no_target known))
      (subst (λ (x : Option Counting). IsCounting permitted e.speed (take i falls ++ t ∷ []) x) for_it.is is) in
      let slow : (k : ℕ) → k < length falls → target_speed (slice_index_or falls k no_target) < e.speed →
      IsSlowFall e (slice_index_or falls k no_target) =
      λ k within below. record { kind = each k no_target within; slow = omega (arith, below) } in
      subst (λ (x : Option Counting). IsCounting permitted e.speed (take to falls) x) (sym for_it.is)
      (subst (λ (k : ℕ). IsCounting permitted e.speed (take k falls) (Some for_it.counting)) (omega (arith, past))
      (counts_past permitted e.speed falls no_target for_it.counting (to - (i + 1)) (i + 1) (omega (arith, past, inside))
      (λ k low high below.
      at_most_trans (permitted for_it.counting.target) (permitted t) (permitted (slice_index_or falls k no_target))
      (limits_are_fractions d e Permitted t (permitted t) refl) for_it.no_later
      (no_later_limit t (slice_index_or falls k no_target) (slow i known less)
      (slow k (omega (arith, high, past, inside)) below)
      (none k e (omega (arith, low)) (omega (arith, high, past)))))
      next))
