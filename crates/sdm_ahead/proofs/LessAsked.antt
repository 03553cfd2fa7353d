-- A reading that asks no more has V_bec and D_bec at most those of what was asked, so each computed EBI lies no earlier,
-- and its front end is past it only where the asked one is past the other. Its targets are the ends of the authority and
-- the falls past its front end, which are among those past a place that isn't past it.
use Rattle.std.proofs.Common.{◌≡◌, ℕ, zero, suc, ℤ, pos, negsuc, Bool, true, false, ◌||◌, ◌&&◌, not, List, [], ◌∷◌}
use Rattle.std.proofs.Common.{◌+◌, ◌*◌, ◌≤◌, ◌<◌, ◌+ℤ◌, ◌*ℤ◌, ◌≤ℤ◌, ◌<ℤ◌, min, max, nat_le, inl, inr, refl, subst}
use Rattle.std.proofs.Common.{sym, ◌∙◌, arith, nat_lt, Some, None}
use Rattle.std.specs.Prelude.{Contains, IsTrue, is_some, filter, map, if◌then◌else◌}
use Rattle.std.specs.Int.{int_gap, int_div_euclid}
use Rattle.std.specs.List.{list_all}
use Rattle.std.specs.Option.{option_map_or}
use Rattle.std.proofs.lemmas.Int.{ints, by_lt_z}
use Rattle.std.proofs.lemmas.Bool.{and_parts, not-true, true≢false}
use Rattle.std.proofs.lemmas.Bool.Decides.{nat_tests}
use Rattle.std.proofs.lemmas.Nat.{mul-le}
use Rattle.std.proofs.lemmas.List.Folds.{list_all-append}
use Rattle.sdm_num.specs.Fractions.{Fraction, IsAtMost, less, whole}
use Rattle.sdm_num.specs.Readings.{OdometerReading, estimate_of}
use Rattle.sdm_num.specs.Units.{centimetre}
use Rattle.sdm_num.proofs.Comparisons.{lt_of, lt_is}
use Rattle.sdm_num.proofs.Floors.{floor_high, floor_low, scale-<_cancel}
use Rattle.sdm_num.proofs.Ints.{scale-≤}
use Rattle.sdm_rules.specs.declared.authorities.Authority.{Authority}
use Rattle.sdm_rules.specs.declared.authorities.Authority.TheVariants.{Stop, Limit}
use Rattle.sdm_rules.specs.declared.commands.State.TheVariants.{R}
use Rattle.sdm_rules.specs.declared.data.SlopeKind.TheVariants.{Safe}
use Rattle.sdm_rules.specs.declared.targets.Target.{Target}
use Rattle.sdm_rules.specs.declared.targets.TargetKind.{TargetKind}
use Rattle.sdm_rules.specs.declared.targets.TargetKind.TheVariants.{Mrsp, Loa, Eoa, Svl}
use Rattle.sdm_rules.specs.Cells.{cell_of, cells}
use Rattle.sdm_rules.specs.Curves.{stepped}
use Rattle.sdm_rules.specs.Data.{TrainAndTrack}
use Rattle.sdm_rules.specs.Decelerations.{slopes_of}
use Rattle.sdm_rules.specs.Limits.{computed, d_bec_for, limits_of, limits_of_kind, release_start, v_bec_for}
use Rattle.sdm_rules.specs.Machines.{Implies}
use Rattle.sdm_rules.specs.Opening.{IsOpen}
use Rattle.sdm_rules.specs.Reaction.{BuildUp, a_est1}
use Rattle.sdm_rules.specs.Reaction.{reaction_times}
use Rattle.sdm_rules.specs.Slopes.{IsUsable}
use Rattle.sdm_rules.specs.Supervision.{Supervision, is_covered_for, is_covered_in, is_met_by_speed, profile_of}
use Rattle.sdm_rules.specs.Supervision.{release_of, row_in, row_of, situation_of, state_in}
use Rattle.sdm_rules.specs.Targets.{end_of, ends_of, fall_at, falls_ahead, foot_speed_of, is_fall, target_speed, targets_of}
use Rattle.sdm_rules.specs.Triggers.{is_past}
use Rattle.sdm_laws.proofs.BrakeCurves.CurveOrder.{stepped_falls}
use Rattle.sdm_laws.proofs.Openings.AcceptedSlopes.{accepted_usable}
use Rattle.sdm_laws.proofs.Rows.Falls.{int_gap_is, later_one}
use Rattle.sdm_laws.proofs.Rows.Gaps.{gaps}
use Rattle.sdm_laws.proofs.Rows.Nearness.{at_most_sooner}
use Rattle.sdm_ahead.specs.WhatIfs.{AsksNoMore, AsksNoMoreFrom, HasNoFallBetween, IsCoveredOrReleased}
use Rattle.sdm_ahead.specs.WhatIfs.{LawOfAskedGaps, LawOfAskedRows, LawOfLessAsked, LawOfOwnFront, would_cover_from}

-- ---- V_bec and D_bec

-- a build-up gains no more than another in the same times
record IsLess (b c : BuildUp) : Type 0 where
  speed : b.speed ≤ c.speed
  accel1 : b.accel1 ≤ c.accel1
  accel2 : b.accel2 ≤ c.accel2
  traction : b.traction ≡ c.traction
  berem : b.berem ≡ c.berem

gains_less : (k a a' t : ℕ) → a ≤ a' → k * a * t ≤ k * a' * t
gains_less k a a' t le = mul-le (k * a) t (k * a') t (mul-le k a k a' (omega arith) le) (omega arith)

cut_off_less : (v v' a a' t target : ℕ) → v ≤ v' → a ≤ a' →
    max (v + 54 * a * t) target ≤ max (v' + 54 * a' * t) target
cut_off_less v v' a a' t target le le' = let gain = gains_less 54 a a' t le' in omega (arith, gain, le)

bec_less : (v v' a a' b b' t u target : ℕ) → v ≤ v' → a ≤ a' → b ≤ b' →
    max (v + 54 * a * t) target + 54 * b * u ≤ max (v' + 54 * a' * t) target + 54 * b' * u
bec_less v v' a a' b b' t u target le le' le'' =
    let one = cut_off_less v v' a a' t target le le' in
    let two = gains_less 54 b b' u le'' in
    omega (arith, one, two)

pub products_less : (a b c d t u : ℕ) → a ≤ b → c ≤ d → 1_000_000 * (a * t + c * u) ≤ 1_000_000 * (b * t + d * u)
products_less a b c d t u le le' =
    let one = mul-le a t b t le (omega arith) in
    let two = mul-le c u d u le' (omega arith) in
    omega (arith, one, two)

way_less : (v v' a a' b b' t u target : ℕ) → v ≤ v' → a ≤ a' → b ≤ b' →
    1_000_000 * (max (v + 27 * a * t) target * t + (max (v + 54 * a * t) target + 27 * b * u) * u)
    ≤ 1_000_000 * (max (v' + 27 * a' * t) target * t + (max (v' + 54 * a' * t) target + 27 * b' * u) * u)
way_less v v' a a' b b' t u target le le' le'' =
    let half = gains_less 27 a a' t le' in
    let cut = cut_off_less v v' a a' t target le le' in
    let build = gains_less 27 b b' u le'' in
    products_less _ _ _ _ t u (omega (arith, half, le)) (omega (arith, cut, build))

module _ (d : TrainAndTrack) (asked r : OdometerReading) (no_more : AsksNoMore d asked r) where
  accel2_less : min (a_est1 r.accel) 40 ≤ min (a_est1 asked.accel) 40
  accel2_less = omega (arith, no_more.accel)

  bec : (t : Target) → v_bec_for d (estimate_of r) t ≤ v_bec_for d (estimate_of asked) t
  bec t = bec_less _ _ _ _ _ _ (reaction_times d).traction (reaction_times d).berem (target_speed t) no_more.speed
      no_more.accel accel2_less

  way : (t : Target) → d_bec_for d (estimate_of r) t ≤ d_bec_for d (estimate_of asked) t
  way t = way_less _ _ _ _ _ _ (reaction_times d).traction (reaction_times d).berem (target_speed t) no_more.speed
      no_more.accel accel2_less

-- ---- front ends

-- a front end further on is past all that one before it is past
further_past : (x : Fraction) (front further : ℤ) → front ≤ℤ further →
    Implies (is_past 0 front x) (is_past 0 further x)
further_past x front further le e =
    let lt = lt_of x.n (pos x.m *ℤ (front +ℤ pos 0)) e in
    let more = scale-≤ x.m (front +ℤ pos 0) (further +ℤ pos 0) (omega (arith, ints, le)) in
    lt_is x.n (pos x.m *ℤ (further +ℤ pos 0)) (omega (arith, ints, lt, more))

pub cell_rises : (k : ℕ) (a b : ℤ) → 0 < k → a ≤ℤ b → int_div_euclid a (pos k) ≤ℤ int_div_euclid b (pos k)
cell_rises k a b p le =
    let low = floor_low k a p in
    let high = floor_high k b p in
    let lt = scale-<_cancel k (int_div_euclid a (pos k)) (int_div_euclid b (pos k) +ℤ pos 1)
    (omega (arith, ints, low, high, le)) in
    omega (arith, ints, lt)

-- ---- one target

-- a target that is covered stays so where it is passed in less cases, and met by speed in more
pub either_less : (p q m n : Bool) → Implies p q → Implies n m → (not q || n) ≡ true → (not p || m) ≡ true
either_less false q m n h k e = refl
either_less true q m n h k e = k (subst (λ (b : Bool). (not b || n) ≡ true) (h refl) e)

at_most_speed : (a b w : ℕ) → a ≤ b → Implies (nat_le b w) (nat_le a w)
at_most_speed a b w le e = grind (arith, nat_tests)

-- a computed place of a greater speed, taken more grains earlier, lies no later
places_less : (low x : ℤ) (k k' : ℕ) → low ≤ℤ x → k ≤ k' → IsAtMost (less (whole low) k') (less (whole x) k)
places_less low x k k' le le' = record { crossed = omega (arith, ints, le, le') }

module _ (d : TrainAndTrack) (usable : IsUsable (slopes_of Safe d)) (asked r : OdometerReading)
    (no_more : AsksNoMore d asked r) where
  -- past the EBI only where what was asked is past the other's
  past : (t : Target) →
      Implies (is_past 0 r.max (less (computed (slopes_of Safe d) t.place (foot_speed_of t)
      (v_bec_for d (estimate_of r) t)) (d_bec_for d (estimate_of r) t)))
      (is_past 0 asked.max (less (computed (slopes_of Safe d) t.place (foot_speed_of t)
      (v_bec_for d (estimate_of asked) t)) (d_bec_for d (estimate_of asked) t)))
  past t e =
      let on = slopes_of Safe d in
      let w = foot_speed_of t in
      let falls = stepped_falls on t.place w (v_bec_for d (estimate_of r) t) (v_bec_for d (estimate_of asked) t) usable
      (bec d asked r no_more t) in
      let order = places_less (stepped on t.place w (v_bec_for d (estimate_of asked) t))
      (stepped on t.place w (v_bec_for d (estimate_of r) t)) _ _ falls (way d asked r no_more t) in
      further_past _ r.max asked.max no_more.front ((at_most_sooner _ _ (omega arith) order).passed r.max e)

  by_kind : (t : Target) (k : TargetKind) →
      option_map_or (λ ebi. not (is_past 0 asked.max ebi) || is_met_by_speed k (v_bec_for d (estimate_of asked) t)
      (foot_speed_of t)) (limits_of_kind computed d (estimate_of asked) t k).ebi true ≡ true →
      option_map_or (λ ebi. not (is_past 0 r.max ebi) || is_met_by_speed k (v_bec_for d (estimate_of r) t)
      (foot_speed_of t)) (limits_of_kind computed d (estimate_of r) t k).ebi true ≡ true
  by_kind t Mrsp e =
      either_less _ _ _ _ (past t) (at_most_speed _ _ (foot_speed_of t) (bec d asked r no_more t)) e
  by_kind t Loa e =
      either_less _ _ _ _ (past t) (at_most_speed _ _ (foot_speed_of t) (bec d asked r no_more t)) e
  by_kind t Eoa e = refl
  by_kind t Svl e = either_less _ _ _ _ (past t) (λ x. x) e

  target_less : (t : Target) → is_covered_for d asked.max (estimate_of asked) t ≡ true →
      is_covered_for d r.max (estimate_of r) t ≡ true
  unfolding limits_of
  target_less t e = by_kind t t.kind e

-- ---- the targets

pub both_true : (a b : Bool) → a ≡ true → b ≡ true → (a && b) ≡ true
both_true a b e e' = rw (e, e')

pub all_imply : (p q : Target → Bool) (ts : List Target) → ((t : Target) → Implies (p t) (q t)) →
    list_all p ts ≡ true → list_all q ts ≡ true
all_imply p q [] h e = refl
all_imply p q (t ∷ ts) h e =
    let both = and_parts (p t) (list_all p ts) e in
    both_true (q t) (list_all q ts) (h t both.0) (all_imply p q ts h both.1)

pub no_gap : (a b : ℤ) → b ≤ℤ a → int_gap a b ≡ 0
no_gap (pos a) (pos b) le = omega (arith, ints)
no_gap (pos a) (negsuc b) le = refl
no_gap (negsuc a) (pos b) le = omega (arith, ints)
no_gap (negsuc a) (negsuc b) le = omega (arith, ints)

module _ (p : Target → Bool) (profile : ℤ → ℕ) where
  -- each fall in some cells passes the test
  abbrev pub Pass : ℤ → ℕ → Type 0
  Pass c n = list_all p (map (fall_at profile) (filter (is_fall profile) (cells c n))) ≡ true

  fewer : (c : ℤ) (n : ℕ) → Pass c (suc n) → Pass (c +ℤ pos 1) n
  fewer c n =
      let rest = filter (is_fall profile) (cells (c +ℤ pos 1) n) in
      elim (is_fall profile c)
      as (λ b. list_all p (map (fall_at profile) (if b then c ∷ rest else rest)) ≡ true →
      list_all p (map (fall_at profile) rest) ≡ true) [
        | true ↦ λ e. (and_parts (p (fall_at profile c)) (list_all p (map (fall_at profile) rest)) e).1
        | false ↦ λ e. e
      ]

  pub later : (k : ℕ) (c : ℤ) (n : ℕ) → Pass c (k + n) → Pass (c +ℤ pos k) n
  later zero c n e =
      let same : c ≡ c +ℤ pos 0 = omega (arith, ints) in
      let count : 0 + n ≡ n = omega arith in
      subst (λ (z : ℤ). Pass z n) same (subst (λ (m : ℕ). Pass c m) count e)
  later (suc k) c n e =
      let same : c +ℤ pos 1 +ℤ pos k ≡ c +ℤ pos (suc k) = omega (arith, ints) in
      let count : suc k + n ≡ suc (k + n) = omega arith in
      subst (λ (z : ℤ). Pass z n) same
      (later k (c +ℤ pos 1) n (fewer c (k + n) (subst (λ (m : ℕ). Pass c m) count e)))

  one_more : (c : ℤ) (n : ℕ) → is_fall profile c ≡ false → Pass (c +ℤ pos 1) n → Pass c (suc n)
  one_more c n none =
      let rest = filter (is_fall profile) (cells (c +ℤ pos 1) n) in
      subst (λ (b : Bool). list_all p (map (fall_at profile) rest) ≡ true →
      list_all p (map (fall_at profile) (if b then c ∷ rest else rest)) ≡ true) (sym none) (λ e. e)

  earlier : (k : ℕ) (c : ℤ) (n : ℕ) → ((x : ℤ) → c ≤ℤ x → x <ℤ (c +ℤ pos k) → is_fall profile x ≡ false) →
      Pass (c +ℤ pos k) n → Pass c (k + n)
  earlier zero c n none e =
      let same : c +ℤ pos 0 ≡ c = omega (arith, ints) in
      let count : n ≡ 0 + n = omega arith in
      subst (λ (m : ℕ). Pass c m) count (subst (λ (z : ℤ). Pass z n) same e)
  earlier (suc k) c n none e =
      let same : c +ℤ pos (suc k) ≡ c +ℤ pos 1 +ℤ pos k = omega (arith, ints) in
      let count : suc (k + n) ≡ suc k + n = omega arith in
      subst (λ (m : ℕ). Pass c m) count
      (one_more c (k + n) (none c (omega (arith, ints)) (omega (arith, ints)))
      (earlier k (c +ℤ pos 1) n (λ x low high. none x (omega (arith, ints, low)) (omega (arith, ints, high)))
      (subst (λ (z : ℤ). Pass z n) same e)))

  -- where the falls past a cell pass the test, so do those past a later one
  past_later : (a b end : ℤ) → a ≤ℤ b → Pass (a +ℤ pos 1) (int_gap a end) → Pass (b +ℤ pos 1) (int_gap b end)
  past_later a b end le e =
      by_lt_z end b
      (λ (lt : end <ℤ b). subst (λ (n : ℕ). Pass (b +ℤ pos 1) n) (sym (no_gap b end (omega (arith, ints, lt)))) refl)
      (λ (by : b ≤ℤ end).
      let k = int_gap a b in
      let one = int_gap_is a b le in
      let two = int_gap_is b end by in
      let three = int_gap_is a end (omega (arith, ints, le, by)) in
      let count : int_gap a end ≡ k + int_gap b end = omega (arith, ints, one, two, three) in
      let place : a +ℤ pos 1 +ℤ pos k ≡ b +ℤ pos 1 = omega (arith, ints, one) in
      subst (λ (z : ℤ). Pass z (int_gap b end)) place
      (later k (a +ℤ pos 1) (int_gap b end) (subst (λ (n : ℕ). Pass (a +ℤ pos 1) n) count e)))

  -- where those past a cell do, and the profile falls nowhere from an earlier one on up to it, so do those past that one
  past_earlier : (a b end : ℤ) → a ≤ℤ b → ((c : ℤ) → a <ℤ c → c ≤ℤ b → is_fall profile c ≡ false) →
      Pass (b +ℤ pos 1) (int_gap b end) → Pass (a +ℤ pos 1) (int_gap a end)
  past_earlier a b end le none e =
      by_lt_z end b
      (λ (lt : end <ℤ b).
      by_lt_z end a
      (λ (back : end <ℤ a). subst (λ (n : ℕ). Pass (a +ℤ pos 1) n) (sym (no_gap a end (omega (arith, ints, back)))) refl)
      (λ (ahead : a ≤ℤ end).
      let k = int_gap a end in
      let three = int_gap_is a end ahead in
      let count : k + 0 ≡ k = omega arith in
      subst (λ (n : ℕ). Pass (a +ℤ pos 1) n) count
      (earlier k (a +ℤ pos 1) 0
      (λ x low high. none x (omega (arith, ints, low)) (omega (arith, ints, high, three, lt))) refl)))
      (λ (by : b ≤ℤ end).
      let k = int_gap a b in
      let one = int_gap_is a b le in
      let two = int_gap_is b end by in
      let three = int_gap_is a end (omega (arith, ints, le, by)) in
      let count : k + int_gap b end ≡ int_gap a end = omega (arith, ints, one, two, three) in
      let place : b +ℤ pos 1 ≡ a +ℤ pos 1 +ℤ pos k = omega (arith, ints, one) in
      subst (λ (n : ℕ). Pass (a +ℤ pos 1) n) count
      (earlier k (a +ℤ pos 1) (int_gap b end)
      (λ x low high. none x (omega (arith, ints, low)) (omega (arith, ints, high, one)))
      (subst (λ (z : ℤ). Pass z (int_gap b end)) place e)))

  -- where all targets past a place pass the test, so do those past a later one
  targets_later : (a : Authority) (from front : ℤ) → from ≤ℤ front →
      list_all p (targets_of profile a from false) ≡ true → list_all p (targets_of profile a front false) ≡ true
  unfolding targets_of
  targets_later a from front le e =
      let split = λ (x : ℤ). list_all-append p (falls_ahead profile x (end_of a)) (ends_of a false) in
      let both = and_parts _ _ (sym (split from) ∙ e) in
      split front
      ∙ both_true _ _ (past_later (cell_of from) (cell_of front) (pos (end_of a))
      (cell_rises centimetre from front (omega arith) le) both.0) both.1

  targets_earlier : (a : Authority) (from front : ℤ) → from ≤ℤ front → HasNoFallBetween profile from front →
      list_all p (targets_of profile a front false) ≡ true → list_all p (targets_of profile a from false) ≡ true
  unfolding targets_of
  targets_earlier a from front le none e =
      let split = λ (x : ℤ). list_all-append p (falls_ahead profile x (end_of a)) (ends_of a false) in
      let both = and_parts _ _ (sym (split front) ∙ e) in
      split from
      ∙ both_true _ _ (past_earlier (cell_of from) (cell_of front) (pos (end_of a))
      (cell_rises centimetre from front (omega arith) le) none both.0) both.1

-- ---- the row

-- each target of the reading is covered
pub all_less : (s : Supervision) (from : ℤ) (asked r : OdometerReading) → IsOpen s →
    IsTrue (would_cover_from s from asked) → AsksNoMoreFrom s.train_and_track from asked r →
    would_cover_from s r.max r ≡ true
unfolding would_cover_from
all_less s from asked r o e h =
    let d = s.train_and_track in
    all_imply (is_covered_for d asked.max (estimate_of asked)) (is_covered_for d r.max (estimate_of r)) _
    (λ t. target_less d (accepted_usable Safe d o.bands (o.usable Safe)) asked r h.no_more t)
    (targets_later _ (profile_of s) s.authority from r.max h.back e)

pub own_front : LawOfOwnFront
unfolding would_cover_from row_in is_covered_in situation_of
own_front s r e =
    let p = is_covered_for s.train_and_track r.max (estimate_of r) in
    subst (λ (b : Bool). (not b && list_all p (targets_of (profile_of s) s.authority r.max b))
    ≡ list_all p (targets_of (profile_of s) s.authority r.max false)) (sym e) refl

pub less_asked : LawOfLessAsked
unfolding row_in state_in situation_of
less_asked s from asked r o e h =
    let b = is_some (release_of s.train_and_track s.authority r.max) in
    elim b as (λ c. b ≡ c → IsCoveredOrReleased s r) [
      | true ↦ λ is. inr (rw is)
      | false ↦ λ is. inl (own_front s r is ∙ all_less s from asked r o e h)
    ] refl

-- ---- the column alone

some_if : (b : Bool) (n : ℕ) → is_some (if b then Some n else None) ≡ b
some_if true n = refl
some_if false n = refl

and_less : (a b c : Bool) → Implies b c → Implies (a && b) (a && c)
and_less true b c h e = h e
and_less false b c h e = e

-- release speed monitoring that has begun at a front end has begun at each one further on
pub released_further : (d : TrainAndTrack) (a : Authority) (front further : ℤ) → front ≤ℤ further →
    Implies (is_some (release_of d a front)) (is_some (release_of d a further))
released_further d (Limit loa speed) front further le e = e
released_further d (Stop eoa svl release) front further le e =
    let x = release_start computed d eoa svl release in
    some_if _ release
    ∙ and_less (nat_lt 0 release) _ _ (further_past x front further le) (sym (some_if _ release) ∙ e)

pub asked_rows : LawOfAskedRows
unfolding row_in is_covered_in situation_of would_cover_from
asked_rows s asked r o covered h none =
    let d = s.train_and_track in
    let p = is_covered_for d asked.max (estimate_of asked) in
    let before = is_some (release_of d s.authority r.max) in
    let after = is_some (release_of d s.authority asked.max) in
    let both = and_parts (not after) (list_all p (targets_of (profile_of s) s.authority asked.max after)) covered in
    let free = not-true after both.0 in
    let free_before : before ≡ false = elim before as (λ c. before ≡ c → c ≡ false) [
      | true ↦ λ is. absurd (true≢false (sym (released_further d s.authority r.max asked.max h.front is) ∙ free))
      | false ↦ λ is. refl
    ] refl in
    let all = subst (λ (b : Bool). list_all p (targets_of (profile_of s) s.authority asked.max b) ≡ true) free both.1 in
    let from = targets_earlier p (profile_of s) s.authority r.max asked.max h.front none all in
    own_front s r free_before
    ∙ all_less s r.max asked r o from (record { back = omega (arith, ints); no_more = h })

-- ---- gaps

some_uncovered : (p : Target → Bool) (ts : List Target) → list_all p ts ≡ false →
    (t : Target) × Contains ts t × (p t ≡ false)
some_uncovered p [] e = absurd (true≢false e)
some_uncovered p (t ∷ ts) e =
    elim (p t) as (λ b. p t ≡ b → (b && list_all p ts) ≡ false → (u : Target) × Contains (t ∷ ts) u × (p u ≡ false)) [
      | true ↦ λ is h. (let found = some_uncovered p ts h in (found.0, later_one t found.0 ts found.1, found.2))
      | false ↦ λ is h. (t, (0, omega arith, refl), is)
    ] refl e

-- outside release speed monitoring such a row has a target that isn't covered
uncovered_target : (s : Supervision) (r : OdometerReading) → (row_of s r).covered ≡ false →
    ((row_of s r).state ≡ R → ⊥) → (t : Target) × Contains (situation_of s r).targets t
    × (is_covered_for s.train_and_track r.max (estimate_of r) t ≡ false)
unfolding row_in state_in is_covered_in
uncovered_target s r uncovered outside =
    let now = situation_of s r in
    let p = is_covered_for s.train_and_track r.max (estimate_of r) in
    let b = is_some now.release in
    elim b as (λ c. b ≡ c → (t : Target) × Contains now.targets t × (p t ≡ false)) [
      | true ↦ λ is. absurd (outside (rw is))
      | false ↦ λ is. some_uncovered p now.targets (subst (λ (c : Bool). (not c && list_all p now.targets) ≡ false) is uncovered)
    ] refl

pub asked_gaps : LawOfAskedGaps
asked_gaps s asked r h uncovered outside eb moving =
    let found = uncovered_target s r uncovered outside in
    let gap = gaps s r eb moving found.0 found.1 found.2 in
    let more = bec s.train_and_track asked r h found.0 in
    (found.0, record { is_target = found.1; gap = gap; may_gain = omega (arith, gap.may_gain, more) })
