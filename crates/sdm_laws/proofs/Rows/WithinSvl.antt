-- A reading within the SvL: the SvL is covered, so every motion stops by it. Where a moving train isn't within it, the
-- SvL is an uncovered target that isn't one of speed, which the emergency command alone explains.
use Rattle.std.proofs.Common.{◌≡◌, ℕ, pos, Bool, true, false, ◌||◌, ◌*◌, ◌+ℤ◌, refl, subst, sym, ◌∙◌}
use Rattle.std.specs.Prelude.{Contains, is_some}
use Rattle.std.proofs.lemmas.Bool.{and_parts, not-true}
use Rattle.sdm_num.specs.Fractions.{IsAtMost, whole}
use Rattle.sdm_num.specs.Readings.{OdometerReading, estimate_of}
use Rattle.sdm_rules.specs.declared.authorities.Authority.{Authority}
use Rattle.sdm_rules.specs.declared.authorities.Authority.TheVariants.{Stop}
use Rattle.sdm_rules.specs.declared.data.SlopeKind.TheVariants.{Safe}
use Rattle.sdm_rules.specs.Cells.{place_of_cell}
use Rattle.sdm_rules.specs.Curves.{exact_at}
use Rattle.sdm_rules.specs.Data.{TrainAndTrack}
use Rattle.sdm_rules.specs.Decelerations.{slopes_of}
use Rattle.sdm_rules.specs.Targets.{targets_of, svl_target}
use Rattle.sdm_rules.specs.Reaction.{build_up_from, d_bec, v_bec}
use Rattle.sdm_rules.specs.Limits.{limits_of}
use Rattle.sdm_rules.specs.Supervision.{Supervision, situation_of, profile_of, is_covered_for, release_of, row_of}
use Rattle.sdm_rules.specs.Opening.{IsOpen}
use Rattle.sdm_rules.specs.Within.{is_before_svl, is_within, is_within_svl}
use Rattle.sdm_laws.specs.SupervisionLaws.{LawOfCommand, LawOfWithin}
use Rattle.sdm_laws.proofs.Rows.Gaps.{gaps}
use Rattle.sdm_laws.proofs.Rows.Headline.{open_usable}
use Rattle.sdm_laws.proofs.Rows.Stops.{has_svl, not_past, stops_of}

-- ---- covered and within

or_false : (b : Bool) → (b || false) ≡ b
or_false true = refl
or_false false = refl

-- an SvL is covered where the front end is before its EBI, and only there
covered_is_before : (d : TrainAndTrack) (r : OdometerReading) (svl : ℕ) →
    is_covered_for d r.max (estimate_of r) (svl_target svl) ≡ is_before_svl d r svl
unfolding limits_of
covered_is_before d r svl = or_false _

-- the front end of a reading within the SvL is before its EBI
before_of : (s : Supervision) (r : OdometerReading) (eoa svl release : ℕ) → s.authority ≡ Stop eoa svl release →
    is_within_svl s r ≡ true → is_before_svl s.train_and_track r svl ≡ true
unfolding is_within_svl
before_of s r eoa svl release a within =
    (and_parts _ _ (subst (λ (x : Authority). is_within s.train_and_track r x ≡ true) a within)).1

-- from a reading within the SvL every motion stops by the SvL
pub within_stops : LawOfWithin
within_stops s r o within eoa svl release a =
    let d = s.train_and_track in
    stops_of d (open_usable s o Safe) r svl (covered_is_before d r svl ∙ before_of s r eoa svl release a within)

-- the front end of a reading within the SvL, D_bec on, is within the SvL's exact curve at V_bec
pub front_within : (s : Supervision) (r : OdometerReading) (eoa svl release : ℕ) → IsOpen s →
    s.authority ≡ Stop eoa svl release → is_within_svl s r ≡ true →
    let b = build_up_from s.train_and_track (estimate_of r) in
    IsAtMost (whole (r.max +ℤ pos (d_bec b 0)))
    (exact_at (slopes_of Safe s.train_and_track) 1 (place_of_cell (pos svl)) 0 (v_bec b 0 * v_bec b 0))
unfolding limits_of
front_within s r eoa svl release o a within =
    let b = build_up_from s.train_and_track (estimate_of r) in
    not_past (slopes_of Safe s.train_and_track) (open_usable s o Safe) (place_of_cell (pos svl)) 0 (v_bec b 0)
    (d_bec b 0) r.max (not-true _ (before_of s r eoa svl release a within))

-- ---- not within

-- without a release speed the SvL is always among the targets
svl_is_target : (s : Supervision) (r : OdometerReading) (eoa svl : ℕ) → s.authority ≡ Stop eoa svl 0 →
    Contains (situation_of s r).targets (svl_target svl)
unfolding situation_of
svl_is_target s r eoa svl a =
    subst (λ (x : Authority). Contains (targets_of (profile_of s) x r.max
    (is_some (release_of s.train_and_track x r.max))) (svl_target svl)) (sym a) (has_svl (profile_of s) r.max eoa svl 0)

-- without a release speed the front end of a reading that isn't within the SvL isn't before its EBI
past_of : (s : Supervision) (r : OdometerReading) (eoa svl : ℕ) → s.authority ≡ Stop eoa svl 0 →
    is_within_svl s r ≡ false → is_before_svl s.train_and_track r svl ≡ false
unfolding is_within_svl
past_of s r eoa svl a e = subst (λ (x : Authority). is_within s.train_and_track r x ≡ false) a e

by_command : (eb : Bool) → (eb ≡ false → ⊥) → eb ≡ true
by_command true f = refl
by_command false f = absurd (f refl)

-- a moving train that isn't within the SvL gets the emergency command
pub commanded : LawOfCommand
commanded s r eoa svl a e moving =
    by_command (row_of s r).held.eb
    (λ none. (gaps s r none moving (svl_target svl) (svl_is_target s r eoa svl a)
    (covered_is_before s.train_and_track r svl ∙ past_of s r eoa svl a e)).is_speed.1 refl)
