-- Walks that ask some falls behind other targets: with each that is asked there is one more behind them.
use Rattle.std.proofs.Common.{◌≡◌, inl, inr, ℕ, ◌+◌, ◌<◌, ◌≤◌, List, [], ◌∷◌, ◌++◌, All, length, slice_index_or}
use Rattle.std.proofs.Common.{append_assoc, sym, ap, subst, ◌∙◌, arith}
use Rattle.std.specs.Prelude.{Contains}
use Rattle.std.proofs.lemmas.Bool.{cases_lt}
use Rattle.std.proofs.lemmas.List.{append-nil, get_or_default, map-append}
use Rattle.std.proofs.lemmas.List.Elements.{All-append, All-cons, All-nil, Contains-append_left, Contains-push}
use Rattle.std.proofs.lemmas.List.Elements.{Contains-push_cases}
use Rattle.sdm_num.specs.Readings.{Estimate}
use Rattle.sdm_rules.specs.declared.targets.Target.{Target}
use Rattle.sdm_rules.specs.Data.{TrainAndTrack}
use Rattle.sdm_rules.specs.Slopes.{Slopes}
use Rattle.sdm_rules.specs.Targets.{target_speed}
use Rattle.sdm_order.specs.AskedTargets.{AreOf}
use Rattle.sdm_order.specs.EnoughTargets.{IsMetFall}
use Rattle.sdm_hiding.specs.declared.asking.Asking.{Asking}
use Rattle.sdm_hiding.specs.declared.rows.Foot.{Foot}
use Rattle.sdm_hiding.specs.Asking.{IsEnough, IsWalkedTo, at_indexes}
use Rattle.sdm_supervisor.specs.AskedFalls.{IsFoundInRow, IsFoundOfFaster, no_target}

-- one more target behind others
one_behind : (P : List Target → Type 0) (before some : List Target) (t : Target) → P ((before ++ some) ++ t ∷ []) →
    P (before ++ (some ++ t ∷ []))
one_behind P before some t = subst P (append_assoc before some (t ∷ []))

-- ---- in a row of curves

-- a walk over a row has come so far, and something was found of the falls that it named, by their indexes
pub record IsRowWalkedTo (on : Slopes) (feet : List Foot) (margin v bec : ℕ) (falls before : List Target) (a : Asking)
    (is_found : List Target → Type 0) : Type 0 where
  pub asked : List ℕ
  pub inside : All (λ i. i < length falls) asked
  pub walked : IsWalkedTo on feet margin v bec asked a
  pub found : is_found (before ++ at_indexes falls no_target asked)

module _ (on : Slopes) (feet : List Foot) (margin v bec : ℕ) (falls before : List Target) where
  -- nothing is asked at the beginning
  pub row_begun : (a : Asking) (found : List Target → Type 0) → IsWalkedTo on feet margin v bec [] a → found before →
      IsRowWalkedTo on feet margin v bec falls before a found
  row_begun a found walked so_far = record {
    asked = [];
    inside = All-nil (λ i. i < length falls);
    walked = walked;
    found = subst found (sym (append-nil before)) so_far;
  }

  -- one more is named and asked
  pub row_more : (a next : Asking) (found more : List Target → Type 0) (i : ℕ) (t : Target)
      (h : IsRowWalkedTo on feet margin v bec falls before a found) → i < length falls →
      slice_index_or falls i no_target ≡ t → IsWalkedTo on feet margin v bec (h.asked ++ i ∷ []) next →
      ((ts : List Target) → found ts → more (ts ++ t ∷ [])) → IsRowWalkedTo on feet margin v bec falls before next more
  row_more a next found more i t h known is walked one = record {
    asked = h.asked ++ i ∷ [];
    inside = All-append (λ k. k < length falls) h.asked (i ∷ []) h.inside
        (All-cons (λ k. k < length falls) i [] known (All-nil (λ k. k < length falls)));
    walked = walked;
    found =
        let named = at_indexes falls no_target in
        subst (λ (ts : List Target). more (before ++ ts))
        (ap (λ (u : Target). named h.asked ++ u ∷ []) (sym is)
        ∙ sym (map-append (λ k. slice_index_or falls k no_target) h.asked (i ∷ [])))
        (one_behind more before (named h.asked) t (one (before ++ named h.asked) h.found));
  }

  -- where no more is named, those are enough
  pub row_done : (a : Asking) (found : List Target → Type 0) (speed : ℕ)
      (h : IsRowWalkedTo on feet margin v bec falls before a found) → v ≡ speed → IsEnough on feet v bec h.asked →
      IsFoundInRow on feet margin speed bec falls before found
  row_done a found speed h same enough = subst (λ (n : ℕ). IsFoundInRow on feet margin n bec falls before found) same
      (record {
        asked = h.asked;
        inside = h.inside;
        few = h.walked.few.all;
        enough = enough;
        found = h.found;
      })

-- ---- of those that are faster than the train

-- so many falls were looked at, and something was found of the faster ones among them
pub record AreFasterFound (e : Estimate) (falls before : List Target) (count : ℕ) (is_found : List Target → Type 0) : Type 0
  where
    pub asked : List Target
    pub of : AreOf falls asked
    pub faster : All (λ t. e.speed < target_speed t) asked
    pub each : (k : ℕ) (t : Target) → k < count → k < length falls → slice_index_or falls k t ≡ t →
        e.speed < target_speed t → Contains asked t
    pub found : is_found (before ++ asked)

module _ (e : Estimate) (falls before : List Target) where
  pub faster_begun : (found : List Target → Type 0) → found before → AreFasterFound e falls before 0 found
  faster_begun found so_far = record {
    asked = [];
    of = λ t there. (let none = there.1 in absurd (omega (arith, none)));
    faster = All-nil (λ t. e.speed < target_speed t);
    each = λ k t before_it. absurd (omega (arith, before_it));
    found = subst found (sym (append-nil before)) so_far;
  }

  module _ (i : ℕ) (t : Target) (known : i < length falls) (is : slice_index_or falls i t ≡ t) where
    -- what stands at the next index
    at_next : (k : ℕ) (u : Target) → i ≤ k → k < i + 1 → k < length falls → slice_index_or falls k u ≡ u → t ≡ u
    at_next k u from to inside here =
        let same : k ≡ i = omega (arith, from, to) in
        one_there (subst (λ (n : ℕ). slice_index_or falls n u ≡ u) same here)
      where
        one_there : slice_index_or falls i u ≡ u → t ≡ u
        one_there there = sym is ∙ get_or_default falls i t u known ∙ there

    -- one that is no faster is passed over
    pub faster_not : (found : List Target → Type 0) → target_speed t ≤ e.speed →
        AreFasterFound e falls before i found → AreFasterFound e falls before (i + 1) found
    faster_not found slow h = record {
      asked = h.asked;
      of = h.of;
      faster = h.faster;
      each = λ k u before_it inside here fast. elim (cases_lt k i) [
        | inl less ↦ h.each k u less inside here fast
        | inr ge ↦ (let same = ap target_speed (at_next k u ge before_it inside here) in
            absurd (omega (arith, same, fast, slow)))
      ];
      found = h.found;
    }

    -- one that is faster is asked
    pub faster_more : (found more : List Target → Type 0) → e.speed < target_speed t →
        ((ts : List Target) → found ts → more (ts ++ t ∷ [])) → AreFasterFound e falls before i found →
        AreFasterFound e falls before (i + 1) more
    faster_more found more fast one h = record {
      asked = h.asked ++ t ∷ [];
      of = λ u there. elim (Contains-push_cases h.asked t u there) [
        | inl old ↦ h.of u old
        | inr same ↦ subst (λ (x : Target). Contains falls x) same (i, known, is)
      ];
      faster = All-append (λ u. e.speed < target_speed u) h.asked (t ∷ []) h.faster
          (All-cons (λ u. e.speed < target_speed u) t [] fast (All-nil (λ u. e.speed < target_speed u)));
      each = λ k u before_it inside here above. elim (cases_lt k i) [
        | inl less ↦ Contains-append_left h.asked (t ∷ []) u (h.each k u less inside here above)
        | inr ge ↦ subst (λ (x : Target). Contains (h.asked ++ t ∷ []) x) (at_next k u ge before_it inside here)
            (Contains-push h.asked t)
      ];
      found = one_behind more before h.asked t (one (before ++ h.asked) h.found);
    }

  -- where all were looked at, each that is faster was asked
  pub faster_done : (d : TrainAndTrack) (count : ℕ) (found : List Target → Type 0) → length falls ≤ count →
      AreFasterFound e falls before count found → IsFoundOfFaster d e falls before found
  faster_done d count found all h = record {
    asked = h.asked;
    of = h.of;
    faster = h.faster;
    enough = λ t there fast. (let known = there.1 in
        inl (h.each there.0 t (omega (arith, known, all)) known there.2 fast));
    found = h.found;
  }

  -- where each is met by speed, none need be
  pub none_faster : (d : TrainAndTrack) (found : List Target → Type 0) →
      ((t : Target) → Contains falls t → e.speed < target_speed t → IsMetFall d e t) → found before →
      IsFoundOfFaster d e falls before found
  none_faster d found met so_far = record {
    asked = [];
    of = λ t there. (let none = there.1 in absurd (omega (arith, none)));
    faster = All-nil (λ t. e.speed < target_speed t);
    enough = λ t there fast. inr (met t there fast);
    found = subst found (sym (append-nil before)) so_far;
  }
