-- A fall between two front ends less than D_bec apart is met by speed where the first one covers it: its EBI lies D_bec
-- before a place at or before the fall, so it lies before the first front end. Every other target is one of the second.
use Rattle.std.proofs.Common.{◌≡◌, ℕ, zero, suc, ℤ, pos, neg_ℤ, Bool, true, false, ◌||◌, not, ◌∷◌}
use Rattle.std.proofs.Common.{◌+◌, ◌*◌, ◌≤◌, ◌+ℤ◌, ◌*ℤ◌, ◌≤ℤ◌, ◌<ℤ◌, nat_le, refl, subst, sym, ◌∙◌, arith}
use Rattle.std.specs.Prelude.{IsTrue, is_some, filter, map, if◌then◌else◌}
use Rattle.std.specs.Int.{int_gap}
use Rattle.std.specs.List.{list_all}
use Rattle.std.proofs.Math.IntN.{*ℤ_comm}
use Rattle.std.proofs.lemmas.Int.{ints, by_lt_z}
use Rattle.std.proofs.lemmas.Bool.{and_parts, leb-false, not-true, true≢false}
use Rattle.std.proofs.lemmas.List.Folds.{list_all-append}
use Rattle.sdm_num.specs.Fractions.{less}
use Rattle.sdm_num.specs.Readings.{Estimate, OdometerReading, estimate_of}
use Rattle.sdm_num.specs.Units.{centimetre}
use Rattle.sdm_num.proofs.Comparisons.{not_lt_of}
use Rattle.sdm_num.proofs.Floors.{floor_low}
use Rattle.sdm_num.proofs.Ints.{scale-≤}
use Rattle.sdm_rules.specs.declared.authorities.Authority.{Authority}
use Rattle.sdm_rules.specs.declared.data.SlopeKind.TheVariants.{Safe}
use Rattle.sdm_rules.specs.declared.targets.Target.{Target}
use Rattle.sdm_rules.specs.Cells.{cell_of, cells, place_of_cell}
use Rattle.sdm_rules.specs.Curves.{stepped}
use Rattle.sdm_rules.specs.Data.{TrainAndTrack}
use Rattle.sdm_rules.specs.Decelerations.{slopes_of}
use Rattle.sdm_rules.specs.Limits.{computed, d_bec_for, limits_of, v_bec_for}
use Rattle.sdm_rules.specs.Reaction.{BuildUp, build_up_from, d_bec}
use Rattle.sdm_rules.specs.Slopes.{IsUsable}
use Rattle.sdm_rules.specs.Supervision.{Supervision, is_covered_for, is_covered_in, profile_of, release_of, row_in, row_of}
use Rattle.sdm_rules.specs.Supervision.{situation_of}
use Rattle.sdm_rules.specs.Targets.{end_of, ends_of, fall_at, falls_ahead, foot_speed_of, is_fall, target_speed, targets_of}
use Rattle.sdm_rules.specs.Triggers.{is_past}
use Rattle.sdm_laws.proofs.BrakeCurves.CurveOrder.{stepped_falls, stepped_foot}
use Rattle.sdm_laws.proofs.Openings.AcceptedSlopes.{accepted_usable}
use Rattle.sdm_laws.proofs.Rows.Falls.{int_gap_is}
use Rattle.sdm_ahead.specs.WhatIfs.{AreWithinReach, LawOfTwoColumns, would_cover_from}
use Rattle.sdm_ahead.proofs.LessAsked.{all_less, both_true, cell_rises, no_gap, own_front, products_less}
use Rattle.sdm_ahead.proofs.LessAsked.{released_further}

-- D_bec is least for a target of speed 0
least_way : (b : BuildUp) (target : ℕ) → d_bec b 0 ≤ d_bec b target
least_way b target = products_less _ _ _ _ b.traction b.berem (omega arith) (omega arith)

-- an EBI that isn't passed lies D_bec before the place of V_bec, and this at or before the foot where V_bec is above the
-- foot speed
too_near : (near far place at foot : ℤ) (way least : ℕ) → (pos 1 *ℤ (near +ℤ pos 0)) ≤ℤ (at +ℤ neg_ℤ (pos (way * 1))) →
    at ≤ℤ foot → least ≤ way → foot ≤ℤ far → far <ℤ (near +ℤ pos least) → ⊥
too_near near far place at foot way least not_past falls ways by reach =
    omega (arith, ints, not_past, falls, ways, by, reach)

module _ (d : TrainAndTrack) (usable : IsUsable (slopes_of Safe d)) (e : Estimate) (profile : ℤ → ℕ) (near far : ℤ)
    (reach : far <ℤ (near +ℤ pos (d_bec (build_up_from d e) 0))) where
  -- a fall between the front ends, with its EBI `past` or not by the nearer one
  between : (c : ℤ) → place_of_cell c ≤ℤ far → (past further met : Bool) →
      is_past 0 near (less (computed (slopes_of Safe d) (place_of_cell c) (foot_speed_of (fall_at profile c))
      (v_bec_for d e (fall_at profile c))) (d_bec_for d e (fall_at profile c))) ≡ past →
      nat_le (v_bec_for d e (fall_at profile c)) (foot_speed_of (fall_at profile c)) ≡ met →
      (not past || met) ≡ true → (not further || met) ≡ true
  between c by true further true p m h = elim further as (λ b. (not b || true) ≡ true) [ true ↦ refl | false ↦ refl ]
  between c by false further true p m h = elim further as (λ b. (not b || true) ≡ true) [ true ↦ refl | false ↦ refl ]
  between c by true further false p m h = absurd (true≢false (sym h))
  between c by false further false p m h =
      let on = slopes_of Safe d in
      let t = fall_at profile c in
      let w = foot_speed_of t in
      let bec = v_bec_for d e t in
      let above = leb-false bec w m in
      let falls = stepped_falls on t.place w w bec usable (omega (arith, above)) in
      absurd (too_near near far t.place (stepped on t.place w bec) t.place (d_bec_for d e t)
      (d_bec (build_up_from d e) 0) (not_lt_of _ _ p)
      (subst (λ (z : ℤ). stepped on t.place w bec ≤ℤ z) (stepped_foot on t.place w) falls)
      (least_way (build_up_from d e) (target_speed t)) by reach)

  covered_between : (c : ℤ) → place_of_cell c ≤ℤ far → is_covered_for d near e (fall_at profile c) ≡ true →
      is_covered_for d far e (fall_at profile c) ≡ true
  unfolding limits_of
  covered_between c by h = between c by _ _ _ refl refl h

-- ---- the targets

by_front : (c : ℤ) (front : ℤ) → c ≤ℤ cell_of front → place_of_cell c ≤ℤ front
by_front c front le =
    let low = floor_low centimetre front (omega arith) in
    let scaled = scale-≤ centimetre c (cell_of front) le in
    subst (λ (z : ℤ). z ≤ℤ front) (*ℤ_comm (pos centimetre) c) (omega (arith, ints, low, scaled))

module _ (p q : Target → Bool) (profile : ℤ → ℕ) where
  abbrev Near : ℤ → ℕ → Type 0
  Near c n = list_all p (map (fall_at profile) (filter (is_fall profile) (cells c n))) ≡ true

  abbrev Far : ℤ → ℕ → Type 0
  Far c n = list_all q (map (fall_at profile) (filter (is_fall profile) (cells c n))) ≡ true

  -- falls that pass the first test pass the second in some cells, and behind them they pass it
  one_joined : (c : ℤ) (n : ℕ) → (p (fall_at profile c) ≡ true → q (fall_at profile c) ≡ true) → Near c (suc n) →
      (Near (c +ℤ pos 1) n → Far (c +ℤ pos 1) n) → Far c (suc n)
  one_joined c n here near behind =
      let rest = filter (is_fall profile) (cells (c +ℤ pos 1) n) in
      elim (is_fall profile c)
      as (λ b. list_all p (map (fall_at profile) (if b then c ∷ rest else rest)) ≡ true →
      list_all q (map (fall_at profile) (if b then c ∷ rest else rest)) ≡ true) [
        | true ↦ λ e. (
            let both = and_parts (p (fall_at profile c)) (list_all p (map (fall_at profile) rest)) e in
            both_true (q (fall_at profile c)) (list_all q (map (fall_at profile) rest)) (here both.0) (behind both.1))
        | false ↦ λ e. behind e
      ] near

  joined : (k : ℕ) (c : ℤ) (n : ℕ) → ((x : ℤ) → c ≤ℤ x → x <ℤ (c +ℤ pos k) → p (fall_at profile x) ≡ true →
      q (fall_at profile x) ≡ true) → Near c (k + n) → Far (c +ℤ pos k) n → Far c (k + n)
  joined zero c n each near far =
      let same : c +ℤ pos 0 ≡ c = omega (arith, ints) in
      let count : n ≡ 0 + n = omega arith in
      subst (λ (m : ℕ). Far c m) count (subst (λ (z : ℤ). Far z n) same far)
  joined (suc k) c n each near far =
      let same : c +ℤ pos (suc k) ≡ c +ℤ pos 1 +ℤ pos k = omega (arith, ints) in
      let count : suc (k + n) ≡ suc k + n = omega arith in
      subst (λ (m : ℕ). Far c m) count
      (one_joined c (k + n) (each c (omega (arith, ints)) (omega (arith, ints)))
      (subst (λ (m : ℕ). Near c m) (sym count) near)
      (λ rest. joined k (c +ℤ pos 1) n
      (λ x low high. each x (omega (arith, ints, low)) (omega (arith, ints, high))) rest
      (subst (λ (z : ℤ). Far z n) same far)))

  past_joined : (a b end : ℤ) → a ≤ℤ b →
      ((c : ℤ) → a <ℤ c → c ≤ℤ b → p (fall_at profile c) ≡ true → q (fall_at profile c) ≡ true) →
      Near (a +ℤ pos 1) (int_gap a end) → Far (b +ℤ pos 1) (int_gap b end) → Far (a +ℤ pos 1) (int_gap a end)
  past_joined a b end le each near far =
      by_lt_z end b
      (λ (lt : end <ℤ b).
      by_lt_z end a
      (λ (back : end <ℤ a). subst (λ (n : ℕ). Far (a +ℤ pos 1) n) (sym (no_gap a end (omega (arith, ints, back)))) refl)
      (λ (ahead : a ≤ℤ end).
      let k = int_gap a end in
      let three = int_gap_is a end ahead in
      let count : k + 0 ≡ k = omega arith in
      subst (λ (n : ℕ). Far (a +ℤ pos 1) n) count
      (joined k (a +ℤ pos 1) 0
      (λ x low high. each x (omega (arith, ints, low)) (omega (arith, ints, high, three, lt)))
      (subst (λ (n : ℕ). Near (a +ℤ pos 1) n) (sym count) near) refl)))
      (λ (by : b ≤ℤ end).
      let k = int_gap a b in
      let one = int_gap_is a b le in
      let two = int_gap_is b end by in
      let three = int_gap_is a end (omega (arith, ints, le, by)) in
      let count : k + int_gap b end ≡ int_gap a end = omega (arith, ints, one, two, three) in
      let place : b +ℤ pos 1 ≡ a +ℤ pos 1 +ℤ pos k = omega (arith, ints, one) in
      subst (λ (n : ℕ). Far (a +ℤ pos 1) n) count
      (joined k (a +ℤ pos 1) (int_gap b end)
      (λ x low high. each x (omega (arith, ints, low)) (omega (arith, ints, high, one)))
      (subst (λ (n : ℕ). Near (a +ℤ pos 1) n) (sym count) near)
      (subst (λ (z : ℤ). Far z (int_gap b end)) place far)))

  targets_joined : (a : Authority) (from front : ℤ) → from ≤ℤ front →
      ((c : ℤ) → cell_of from <ℤ c → c ≤ℤ cell_of front → p (fall_at profile c) ≡ true →
      q (fall_at profile c) ≡ true) → list_all p (targets_of profile a from false) ≡ true →
      list_all q (targets_of profile a front false) ≡ true → list_all q (targets_of profile a from false) ≡ true
  unfolding targets_of
  targets_joined a from front le each near far =
      let split_p = list_all-append p (falls_ahead profile from (end_of a)) (ends_of a false) in
      let split_q = λ (x : ℤ). list_all-append q (falls_ahead profile x (end_of a)) (ends_of a false) in
      let near_parts = and_parts _ _ (sym split_p ∙ near) in
      let far_parts = and_parts _ _ (sym (split_q front) ∙ far) in
      split_q from
      ∙ both_true _ _ (past_joined (cell_of from) (cell_of front) (pos (end_of a))
      (cell_rises centimetre from front (omega arith) le) each near_parts.0 far_parts.0) far_parts.1

-- ---- the rows

-- a covered row isn't one of release speed monitoring, and covers each target past its front end
row_parts : (s : Supervision) (r : OdometerReading) → IsTrue (row_of s r).covered →
    (is_some (release_of s.train_and_track s.authority r.max) ≡ false) × (would_cover_from s r.max r ≡ true)
unfolding row_in is_covered_in situation_of
row_parts s r covered =
    let b = is_some (release_of s.train_and_track s.authority r.max) in
    let both = and_parts (not b) _ covered in
    let free = not-true b both.0 in
    (free, sym (own_front s r free) ∙ covered)

would_twice : (s : Supervision) (near far : OdometerReading) → IsUsable (slopes_of Safe s.train_and_track) →
    AreWithinReach s.train_and_track near far → near.max ≤ℤ far.max → would_cover_from s near.max near ≡ true →
    would_cover_from s far.max far ≡ true → would_cover_from s near.max far ≡ true
unfolding would_cover_from
would_twice s near far usable h le a b =
    let d = s.train_and_track in
    targets_joined (is_covered_for d near.max (estimate_of far)) (is_covered_for d far.max (estimate_of far))
    (profile_of s) s.authority near.max far.max le
    (λ c low high. covered_between d usable (estimate_of far) (profile_of s) near.max far.max h.reach c
    (by_front c far.max high))
    (subst (λ (e : Estimate). list_all (is_covered_for d near.max e)
    (targets_of (profile_of s) s.authority near.max false) ≡ true) h.estimate a) b

pub two_columns : LawOfTwoColumns
two_columns s near far o h le a b =
    let d = s.train_and_track in
    let first = row_parts s near a in
    let second = row_parts s far b in
    let would = would_twice s near far (accepted_usable Safe d o.bands (o.usable Safe)) h le first.1 second.1 in
    record {
      would = would;
      covers = λ r k.
          let before = is_some (release_of d s.authority r.max) in
          let free : before ≡ false = elim before as (λ c. before ≡ c → c ≡ false) [
            | true ↦ λ is. absurd (true≢false (sym (released_further d s.authority r.max far.max k.no_more.front is)
                ∙ second.0))
            | false ↦ λ is. refl
          ] refl in
          own_front s r free ∙ all_less s near.max far r o would k;
    }
