-- A fall past the max safe front end is a target, which the row covers. One between the cells of the min and the max
-- safe front end bounds the ceiling, so V_est is at most its foot speed with no emergency command, and the train never
-- faster than V_bec.
use Rattle.std.proofs.Common.{◌≡◌, ℕ, ℤ, zero, suc, pos, negsuc, Bool, true, false, List, ◌∷◌, ◌+◌, ◌-◌, ◌*◌, ◌≤◌}
use Rattle.std.proofs.Common.{◌+ℤ◌, ◌≤ℤ◌, ◌<ℤ◌, int_lt, min, refl, subst, sym, arith}
use Rattle.std.specs.Int.{int_gap}
use Rattle.std.specs.Prelude.{Contains, filter, map, if◌then◌else◌}
use Rattle.std.proofs.lemmas.Int.{ints, by_lt_z}
use Rattle.std.proofs.lemmas.List.Elements.{All-cons, All-append, All-weaker, Contains-append_left}
use Rattle.std.proofs.lemmas.Nat.{mul-le}
use Rattle.std.proofs.Math.Nat.{mul-le-mul_left}
use Rattle.sdm_num.specs.Units.{notches}
use Rattle.sdm_num.specs.Readings.{OdometerReading, estimate_of}
use Rattle.sdm_num.proofs.Comparisons.{lt_of, not_lt_of}
use Rattle.sdm_rules.specs.declared.data.SlopeKind.TheVariants.{Safe}
use Rattle.sdm_rules.specs.declared.motions.Point.{Point}
use Rattle.sdm_rules.specs.Cells.{cell_of, cells, lowest, place_of_cell}
use Rattle.sdm_rules.specs.Decelerations.{slopes_of}
use Rattle.sdm_rules.specs.Margins.{ebi_margin}
use Rattle.sdm_rules.specs.Motion.{KeepsTo}
use Rattle.sdm_rules.specs.Reaction.{build_up_from, build_up_of, reaction_start, v_bec}
use Rattle.sdm_rules.specs.Slopes.{Slopes}
use Rattle.sdm_rules.specs.Stop.{SlowsTo}
use Rattle.sdm_rules.specs.Supervision.{Supervision, profile_of, row_in, row_of, situation_of}
use Rattle.sdm_rules.specs.Targets.{end_of, fall_at, falls_ahead, foot_speed_of, is_fall, targets_of}
use Rattle.sdm_laws.specs.MotionLaws.{IsInReach}
use Rattle.sdm_laws.proofs.Moving.Reaction.{in_reach}
use Rattle.sdm_laws.proofs.Rows.Ceiling.{within_ceiling}
use Rattle.sdm_laws.proofs.Rows.Headline.{stop}
use Rattle.sdm_laws.proofs.Rows.StopFacts.{slower}
use Rattle.sdm_laws.specs.Falls.{IsFallAhead, LawOfFalls, gain_of}

-- ---- a fall past the max safe front end

-- the gap of two numbers leads from the less to the greater
pub int_gap_is : (a b : ℤ) → a ≤ℤ b → b ≡ a +ℤ pos (int_gap a b)
int_gap_is (pos a) (pos b) le = omega (arith, ints)
int_gap_is (pos a) (negsuc b) le = omega (arith, ints)
int_gap_is (negsuc a) (pos b) le = omega (arith, ints)
int_gap_is (negsuc a) (negsuc b) le = omega (arith, ints)

pub later_one : {X : Type 0} (x y : X) (xs : List X) → Contains xs y → Contains (x ∷ xs) y
later_one x y xs h = let lt = h.1 in (suc h.0, omega arith, h.2)

-- a fall in some cells is among their falls
pub has_fall : (profile : ℤ → ℕ) (c x : ℤ) (n : ℕ) → c ≤ℤ x → x <ℤ (c +ℤ pos n) → is_fall profile x ≡ true →
    Contains (map (fall_at profile) (filter (is_fall profile) (cells c n))) (fall_at profile x)
has_fall profile c x zero low high falls = absurd (omega (arith, ints))
has_fall profile c x (suc n) low high falls =
    let rest = filter (is_fall profile) (cells (c +ℤ pos 1) n) in
    by_lt_z c x
    (λ (lt : c <ℤ x).
    let later = has_fall profile (c +ℤ pos 1) x n (omega (arith, ints)) (omega (arith, ints)) falls in
    elim (is_fall profile c)
    as (λ b. Contains (map (fall_at profile) (if b then c ∷ rest else rest)) (fall_at profile x)) [
      | true ↦ later_one _ _ _ later
      | false ↦ later
    ])
    (λ (le : x ≤ℤ c).
    let same : c ≡ x = omega (arith, ints) in
    let here : is_fall profile c ≡ true = subst (λ (z : ℤ). is_fall profile z ≡ true) (sym same) falls in
    subst (λ (b : Bool). Contains (map (fall_at profile) (if b then c ∷ rest else rest)) (fall_at profile x)) (sym here)
    (subst (λ (z : ℤ). Contains (map (fall_at profile) (c ∷ rest)) (fall_at profile z)) same (0, omega arith, refl)))

-- one past the max safe front end and by the end of the authority is a target
pub is_target : (s : Supervision) (r : OdometerReading) (cell : ℤ) → IsFallAhead s r cell → cell_of r.max <ℤ cell →
    Contains (situation_of s r).targets (fall_at (profile_of s) cell)
unfolding situation_of targets_of
is_target s r cell h lt =
    let end = pos (end_of s.authority) in
    let by_end = h.by_end in
    let gap = int_gap_is (cell_of r.max) end (omega (arith, ints)) in
    Contains-append_left (falls_ahead (profile_of s) r.max (end_of s.authority)) _ _
    (has_fall (profile_of s) (cell_of r.max +ℤ pos 1) cell (int_gap (cell_of r.max) end) (omega (arith, ints))
    (omega (arith, ints)) h.falls)

-- ---- a fall between the front ends

pub lowest_at_most : (f : ℤ → ℕ) (c x : ℤ) (n : ℕ) → c ≤ℤ x → x ≤ℤ (c +ℤ pos n) → lowest min f c n ≤ f x
lowest_at_most f c x zero low high =
    let same : c ≡ x = omega (arith, ints) in
    subst (λ (z : ℤ). f c ≤ f z) same (omega arith)
lowest_at_most f c x (suc n) low high =
    by_lt_z c x
    (λ (lt : c <ℤ x).
    let h = lowest_at_most f (c +ℤ pos 1) x n (omega (arith, ints)) (omega (arith, ints)) in omega arith)
    (λ (le : x ≤ℤ c).
    let same : c ≡ x = omega (arith, ints) in
    subst (λ (z : ℤ). min (f c) (lowest min f (c +ℤ pos 1) n) ≤ f z) same (omega arith))

-- a lower ceiling has a lower speed with its margin
pub margin_rises : (a b : ℕ) → a ≤ b → notches a + ebi_margin a ≤ notches b + ebi_margin b
margin_rises a b le = omega arith

-- V_est is at most the foot speed of a cell between those of the min and the max safe front end
pub slow_there : (s : Supervision) (r : OdometerReading) (cell : ℤ) → (row_of s r).held.eb ≡ false →
    cell_of r.min ≤ℤ cell → cell ≤ℤ cell_of r.max → r.speed ≤ foot_speed_of (fall_at (profile_of s) cell)
unfolding row_in situation_of
slow_there s r cell eb low high =
    let within = within_ceiling s r eb in
    let gap = int_gap_is (cell_of r.min) (cell_of r.max) (omega (arith, ints)) in
    let least = lowest_at_most (profile_of s) (cell_of r.min) cell (int_gap (cell_of r.min) (cell_of r.max)) low
    (omega (arith, ints)) in
    let rises = margin_rises _ _ least in
    omega arith

-- no motion is ever faster than V_bec
pub never_above : (d : Slopes) (s : Supervision) (r : OdometerReading) (place : ℤ) (w : ℕ) →
    v_bec (build_up_from s.train_and_track (estimate_of r)) 0 ≤ w →
    SlowsTo d (reaction_start s.train_and_track r) place w
never_above on s r place w le m is =
    let n = m.scale in
    let start = reaction_start s.train_and_track r in
    let bec = v_bec (build_up_of start) 0 in
    let K : Point → Type 0 = KeepsTo n place w in
    let reached = in_reach on start m 0 is.1.motion is.1.speed in
    let top : n * bec * (n * bec) ≤ n * n * (w * w) =
    omega (arith, mul-le-mul_left (n * n) (mul-le bec bec w w le le)) in
    let slow : (y : Point) → IsInReach n start 0 m.place y → K y = λ y b past. omega (arith, b.square) in
    let rest = slower on (n * n) (n * n * (w * w)) m.first m.more is.1.motion.braking
    (omega (arith, reached.begins.square)) in
    All-append K _ _ (All-weaker (IsInReach n start 0 m.place) K slow _ reached.ends)
    (All-cons K m.first m.more (slow m.first reached.begins)
    (All-weaker (λ (y : Point). y.square ≤ n * n * (w * w)) K (λ y k past. k) m.more rest))

-- the gain and V_est are V_bec
gained_is : (v bec foot : ℕ) → v ≤ foot → bec ≤ foot + (bec - v)
gained_is v bec foot le = omega arith

pub falls : LawOfFalls
falls s r o covered eb cell h =
    let d = s.train_and_track in
    let foot = foot_speed_of (fall_at (profile_of s) cell) in
    let on = slopes_of Safe d in
    let place = place_of_cell cell in
    let past = int_lt (cell_of r.max) cell in
    elim past as (λ b. past ≡ b → SlowsTo on (reaction_start d r) place (foot + (if b then 0 else gain_of d r))) [
      | true ↦ λ e. (
          let t = is_target s r cell h (lt_of _ _ e) in
          let same : foot ≡ foot + 0 = omega arith in
          subst (SlowsTo on (reaction_start d r) place) same
          ((stop s r o covered).meets (fall_at (profile_of s) cell) t ((λ x. cc), (λ x. cc))))
      | false ↦ λ e. (
          let slow = slow_there s r cell eb h.ahead (not_lt_of _ _ e) in
          never_above on s r place (foot + gain_of d r)
          (gained_is r.speed (v_bec (build_up_from d (estimate_of r)) 0) foot slow))
    ] refl
