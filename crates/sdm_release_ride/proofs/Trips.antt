-- Where no emergency brake is commanded under a stop, the min safe front end isn't past the EOA; and in release speed
-- monitoring V_est isn't above the release speed. So a train further on, or faster, is tripped.
use Rattle.std.proofs.Common.{◌≡◌, ℕ, pos, Bool, true, false, nat_lt, Option, Some, None, ◌≤◌, ◌+◌}
use Rattle.std.proofs.Common.{◌*◌, ◌+ℤ◌, ◌≤ℤ◌, refl, subst, ap, arith}
use Rattle.std.proofs.lemmas.Int.{ints}
use Rattle.std.proofs.lemmas.Bool.{or_parts, ltb-false}
use Rattle.std.specs.Prelude.{is_some, if◌then◌else◌}
use Rattle.std.specs.Option.{option_map_or}
use Rattle.sdm_num.specs.Units.{centimetre, notches}
use Rattle.sdm_num.specs.Readings.{OdometerReading, estimate_of}
use Rattle.sdm_num.proofs.Comparisons.{not_lt_of}
use Rattle.sdm_num.proofs.Ints.{scale-≤}
use Rattle.sdm_rules.specs.declared.authorities.Authority.{Authority}
use Rattle.sdm_rules.specs.declared.authorities.Authority.TheVariants.{Stop}
use Rattle.sdm_rules.specs.declared.commands.State.TheVariants.{C, T, R}
use Rattle.sdm_rules.specs.Cells.{place_of_cell}
use Rattle.sdm_rules.specs.Commands.{commands_after, emergency_after}
use Rattle.sdm_rules.specs.Limits.{computed, limits_of}
use Rattle.sdm_rules.specs.Supervision.{Supervision, commands_in, is_past_end, release_of, row_in, row_of, situation_of}
use Rattle.sdm_rules.specs.Supervision.{state_in}
use Rattle.sdm_rules.specs.Triggers.{triggers_of}
use Rattle.sdm_ride.specs.Moments.{is_release}
use Rattle.sdm_release_ride.specs.ReleaseRideLaws.{LawOfTrips}

-- ---- no emergency command

-- neither is the end passed, nor is the speed above the release speed
no_emergency : (s : Supervision) (r : OdometerReading) → (row_of s r).held.eb ≡ false →
    (is_past_end s.authority r.min ≡ false)
    × (option_map_or (λ kmh. nat_lt (notches kmh) r.speed) (release_of s.train_and_track s.authority r.max) false
    ≡ false)
unfolding row_in commands_in commands_after emergency_after triggers_of situation_of
no_emergency s r eb =
    let now = situation_of s r in
    let emer = (or_parts (triggers_of (limits_of computed s.train_and_track (estimate_of r)) 0 now).emer _ eb).0 in
    let one = (or_parts _ _ emer).0 in
    let two = or_parts _ _ one in
    let three = or_parts _ _ two.0 in (three.1, two.1)

-- the min safe front end isn't past the EOA
pub not_past_eoa : (s : Supervision) (r : OdometerReading) (eoa svl release : ℕ) → s.authority ≡ Stop eoa svl release →
    (row_of s r).held.eb ≡ false → r.min ≤ℤ place_of_cell (pos eoa)
not_past_eoa s r eoa svl release a eb =
    not_lt_of _ _ (subst (λ (x : Authority). is_past_end x r.min ≡ false) a (no_emergency s r eb).0)

-- ---- in release speed monitoring

-- there is a release speed
has_release : (o : Option ℕ) (indicated : Bool) →
    is_release (if is_some o then R else if indicated then T else C) ≡ true → is_some o ≡ true
has_release (Some v) indicated e = refl
has_release None true e = absurd cc
has_release None false e = absurd cc

pub monitored : (s : Supervision) (r : OdometerReading) → is_release (row_of s r).state ≡ true →
    is_some (release_of s.train_and_track s.authority r.max) ≡ true
unfolding row_in state_in situation_of
monitored s r e = has_release _ _ e

-- it is that of the stop
not_above : (b : Bool) (release speed : ℕ) → is_some (if b then Some release else None) ≡ true →
    option_map_or (λ kmh. nat_lt (notches kmh) speed) (if b then Some release else None) false ≡ false →
    speed ≤ notches release
not_above true release speed is e = ltb-false _ _ e
not_above false release speed is e = absurd cc

-- the speed isn't above it
pub not_too_fast : (s : Supervision) (r : OdometerReading) (eoa svl release : ℕ) → s.authority ≡ Stop eoa svl release →
    is_release (row_of s r).state ≡ true → (row_of s r).held.eb ≡ false →
    r.speed ≤ notches release
not_too_fast s r eoa svl release a state eb =
    let d = s.train_and_track in
    not_above _ release r.speed
    (subst (λ (x : Authority). is_some (release_of d x r.max) ≡ true) a (monitored s r state))
    (subst (λ (x : Authority). option_map_or (λ kmh. nat_lt (notches kmh) r.speed) (release_of d x r.max) false ≡ false)
    a (no_emergency s r eb).1)

-- ---- the trip

-- the max safe front end of an untripped train is at most the width of its reading past the EOA
pub before_trip : (s : Supervision) (r : OdometerReading) (eoa svl release width : ℕ) →
    s.authority ≡ Stop eoa svl release → r.max ≤ℤ (r.min +ℤ pos (width * centimetre)) →
    (row_of s r).held.eb ≡ false →
    r.max ≤ℤ place_of_cell (pos (eoa + width))
before_trip s r eoa svl release width a near eb =
    let low = not_past_eoa s r eoa svl release a eb in omega (arith, ints, near, low)

commanded : (eb : Bool) → (eb ≡ false → ⊥) → eb ≡ true
commanded true f = refl
commanded false f = absurd (f refl)

pub trips : LawOfTrips
trips s m r eoa svl release a told =
    let row = row_of m.supervision r in
    record {
      place = λ width near past. commanded row.held.eb (λ eb.
          let before = before_trip m.supervision r eoa svl release width a near eb in
          let front = told.front in
          absurd (omega (arith, ints, scale-≤ (s * s) _ _ before, front, past)));
      speed = λ state fast. commanded row.held.eb (λ eb.
          let slow = not_too_fast m.supervision r eoa svl release a (ap is_release state) eb in
          absurd (omega arith));
    }
