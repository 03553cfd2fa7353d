-- Why a row is not covered where no emergency brake is commanded: the trigger by an EBI does not hold for the target,
-- so the front end is past the EBI only at a speed within the target's margin.
use Rattle.std.proofs.Common.{◌≡◌, ℕ, Bool, true, false, ◌||◌, ◌&&◌, not, nat_lt, List, [], ◌∷◌, ◌<◌, ◌≤◌, ◌+◌, suc}
use Rattle.std.proofs.Common.{zero, refl, subst, arith}
use Rattle.std.proofs.lemmas.Bool.{true≢false, or_parts, ltb-false, leb-false}
use Rattle.std.specs.Prelude.{◌≢◌, Contains}
use Rattle.std.specs.List.{list_any}
use Rattle.std.specs.Option.{option_map_or}
use Rattle.sdm_rules.specs.declared.limits.LimitKind.TheVariants.{Ebi}
use Rattle.sdm_rules.specs.declared.targets.Target.{Target}
use Rattle.sdm_rules.specs.declared.targets.TargetKind.{TargetKind}
use Rattle.sdm_rules.specs.declared.targets.TargetKind.TheVariants.{Mrsp, Loa, Eoa, Svl}
use Rattle.sdm_num.specs.Readings.{OdometerReading, estimate_of}
use Rattle.sdm_rules.specs.Data.{TrainAndTrack}
use Rattle.sdm_rules.specs.Margins.{ebi_margin}
use Rattle.sdm_rules.specs.Targets.{at_speed_target}
use Rattle.sdm_rules.specs.Limits.{computed, limits_of, limits_of_kind, v_bec_for}
use Rattle.sdm_rules.specs.Triggers.{front_for, is_past, passes}
use Rattle.sdm_num.specs.Units.{notches}
use Rattle.sdm_rules.specs.Supervision.{Supervision, situation_of, is_met_by_speed}
use Rattle.sdm_laws.specs.SupervisionLaws.{LawOfGaps}
use Rattle.sdm_laws.proofs.Rows.Ceiling.{no_ebi_passed}

-- a test that no target passes fails for each
pub any_false : (p : Target → Bool) (ts : List Target) (t : Target) → list_any p ts ≡ false → Contains ts t → p t ≡ false
any_false p [] t e (k, lt, is) = absurd (omega arith)
any_false p (x ∷ xs) t e (zero, lt, is) = subst (λ (y : Target). p y ≡ false) is (or_parts (p x) (list_any p xs) e).0
any_false p (x ∷ xs) t e (suc k, lt, is) = any_false p xs t (or_parts (p x) (list_any p xs) e).1 (k, omega arith, is)

-- the EBI `p` is passed and not met by speed, and gives no command: the train isn't too fast
core : (p met fast : Bool) → (not p || met) ≡ false → (fast && p) ≡ false → (met ≡ false) × (fast ≡ false)
core true met true h e = absurd (true≢false e)
core true met false h e = (h, refl)
core false met fast h e = absurd (true≢false h)

-- at a target of the kind `k`, with a speed `m` with its margin
by_kind : (s : Supervision) (d : TrainAndTrack) (r : OdometerReading) (t : Target) (k : TargetKind) (m bec : ℕ) →
    0 < r.speed →
    option_map_or (λ ebi. not (is_past 0 r.max ebi) || is_met_by_speed k bec (at_speed_target k m))
    (limits_of_kind computed d (estimate_of r) t k).ebi true ≡ false →
    (nat_lt (at_speed_target k m) r.speed && option_map_or (is_past 0 (front_for r.est r.max k))
    (limits_of_kind computed d (estimate_of r) t k).ebi false) ≡ false →
    (k ≢ Eoa) × (k ≢ Svl) × (r.speed ≤ at_speed_target k m) × (at_speed_target k m < bec)
unfolding situation_of
by_kind s d r t Mrsp m bec p c e = let k =
    core _ _ _ c e in ((λ x. cc), (λ x. cc), ltb-false m r.speed k.1, leb-false bec m k.0)
by_kind s d r t Loa m bec p c e = let k =
    core _ _ _ c e in ((λ x. cc), (λ x. cc), ltb-false m r.speed k.1, leb-false bec m k.0)
by_kind s d r t Eoa m bec p c e = absurd (true≢false c)
by_kind s d r t Svl m bec p c e = let k =
    core _ _ _ c e in absurd (let h : r.speed ≤ 0 = ltb-false 0 r.speed k.1 in omega arith)

-- only gaps keep such a row of a moving train from being covered
pub gaps : LawOfGaps
unfolding situation_of limits_of
gaps s r eb moving t is c =
    let now = situation_of s r in
    let e = any_false (λ u. passes Ebi now.speed now.est now.front 0 u
    (limits_of computed s.train_and_track (estimate_of r) u)) now.targets t (no_ebi_passed s r eb).1 is in
    let k = by_kind s s.train_and_track r t t.kind (notches t.speed + ebi_margin t.speed)
    (v_bec_for s.train_and_track (estimate_of r) t) moving c e in
    record { is_speed = (k.0, k.1); slow = k.2; may_gain = k.3 }
