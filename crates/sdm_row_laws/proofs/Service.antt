-- The EOA by the service brake: its SBI is the trip of a train that keeps V_est for T_bs, on the expected slopes; and a
-- row that commands no brake has no SBI passed.
use Rattle.std.proofs.Common.{◌≡◌, ℕ, ℤ, pos, Bool, true, false, not, ◌&&◌, ◌||◌, refl, subst, sym, arith}
use Rattle.std.proofs.lemmas.Bool.{not-true, lt-ltb, or_parts, true≢false}
use Rattle.std.proofs.lemmas.List.Elements.{Contains-append_right}
use Rattle.std.specs.Prelude.{Contains, Option, Some, None, is_some, if◌then◌else◌, ◌≢◌}
use Rattle.sdm_num.specs.Units.{distance_at}
use Rattle.sdm_num.specs.Readings.{estimate_of}
use Rattle.sdm_rules.specs.declared.authorities.Authority.{Authority}
use Rattle.sdm_rules.specs.declared.authorities.Authority.TheVariants.{Stop}
use Rattle.sdm_rules.specs.declared.commands.State.TheVariants.{C, T, R}
use Rattle.sdm_rules.specs.declared.data.SlopeKind.TheVariants.{Expected}
use Rattle.sdm_rules.specs.Cells.{place_of_cell}
use Rattle.sdm_rules.specs.Commands.{commands_after, emergency_after}
use Rattle.sdm_rules.specs.Decelerations.{slopes_of}
use Rattle.sdm_rules.specs.Limits.{computed, limits_of}
use Rattle.sdm_rules.specs.Reaction.{build_up_of, d_bec, reaction_times, v_bec}
use Rattle.sdm_rules.specs.declared.limits.LimitKind.TheVariants.{Sbi}
use Rattle.sdm_rules.specs.Supervision.{situation_of, profile_of, row_in, state_in, commands_in}
use Rattle.sdm_rules.specs.Targets.{targets_of, falls_ahead, ends_of}
use Rattle.sdm_rules.specs.Triggers.{above_ceiling, is_indicated, is_passed, passes, some_passed, triggers_of}
use Rattle.sdm_laws.proofs.Rows.CalculatedRelease.{way_of_trip}
use Rattle.sdm_laws.proofs.Rows.Gaps.{any_false}
use Rattle.sdm_laws.proofs.Rows.Headline.{open_usable}
use Rattle.sdm_laws.proofs.Rows.Stops.{stops_before}
use Rattle.sdm_row_laws.specs.Clearances.{LawOfClearStops, start_with}
use Rattle.sdm_row_laws.specs.ServiceStop.{LawOfServiceStop, LawOfServiceRows, eoa_target, service_start}

-- the law of the service stop
pub service_stop : LawOfServiceStop
unfolding limits_of
service_stop s r eoa o before =
    let d = s.train_and_track in
    let time = (reaction_times d).bs in
    stops_before (slopes_of Expected d) (open_usable s o Expected) (service_start d r) (place_of_cell (pos eoa)) r.speed
    (distance_at r.speed time) (omega arith) (way_of_trip r.speed time) (not-true _ before)

-- the law of clear places
pub clear_stops : LawOfClearStops
clear_stops a s r place o clear =
    let d = s.train_and_track in
    let start = start_with a d r in
    let b = build_up_of start in
    stops_before (slopes_of Expected d) (open_usable s o Expected) start place (v_bec b 0) (d_bec b 0) refl refl
    (not-true _ clear)

-- outside release speed monitoring the EOA is among the targets
has_eoa : (profile : ℤ → ℕ) (front : ℤ) (eoa svl release : ℕ) →
    Contains (targets_of profile (Stop eoa svl release) front false) (eoa_target eoa)
unfolding targets_of
has_eoa profile front eoa svl release =
    Contains-append_right (falls_ahead profile front eoa) (ends_of (Stop eoa svl release) false) (eoa_target eoa)
    (0, omega arith, refl)

-- a state that isn't R has no release speed
no_release : (o : Option ℕ) (b : Bool) → (if is_some o then R else if b then T else C) ≢ R → is_some o ≡ false
no_release (Some x) b e = absurd (e refl)
no_release None b e = refl

-- with neither brake commanded no SBI is passed, whether the service brake is in use or not
no_service : (used serv held other more : Bool) → (used && (serv || held)) ≡ false →
    ((other || (serv && not used)) || more) ≡ false → serv ≡ false
no_service used false held other more sb eb = refl
no_service true true held other more sb eb = absurd (true≢false sb)
no_service false true held true more sb eb = absurd (true≢false eb)
no_service false true held false more sb eb = absurd (true≢false eb)

and_false : (a b : Bool) → a ≡ true → (a && b) ≡ false → b ≡ false
and_false true b e h = h
and_false false b e h = absurd (true≢false (sym e))

not_false : (b : Bool) → b ≡ false → not b ≡ true
not_false true e = absurd (true≢false e)
not_false false e = refl

-- the law of rows
pub service_rows : LawOfServiceRows
unfolding row_in state_in commands_in commands_after emergency_after triggers_of situation_of
service_rows s r o free eoa svl release authority =
    let d = s.train_and_track in
    let now = situation_of s r in
    let limits = limits_of computed d (estimate_of r) in
    let none : is_some now.release ≡ false = no_release now.release (is_indicated limits now) free.state in
    let quiet : is_passed Sbi limits 0 now ≡ false = no_service now.in_use (is_passed Sbi limits 0 now) _ _ _ free.sb free.eb
    in
    let unpassed : some_passed Sbi limits 0 now ≡ false =
    (or_parts (above_ceiling Sbi now) _ quiet).1 in
    let there : Contains now.targets (eoa_target eoa) =
    subst (λ (b : Bool). Contains (targets_of (profile_of s) s.authority r.max b) (eoa_target eoa)) (sym none)
    (subst (λ (a : Authority). Contains (targets_of (profile_of s) a r.max false) (eoa_target eoa))
    (sym authority) (has_eoa (profile_of s) r.max eoa svl release)) in
    let at_eoa = any_false (λ t. passes Sbi now.speed now.est now.front 0 t (limits t)) now.targets
    (eoa_target eoa) unpassed there in
    service_stop s r eoa o (not_false _ (and_false _ _ (lt-ltb 0 r.speed free.moving) at_eoa))
