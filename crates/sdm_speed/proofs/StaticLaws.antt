-- The zones of the static speed profile, start by start: the zones that are closed and those of the rest are the zones
-- of all.
use Rattle.std.proofs.Common.{◌≡◌, ℕ, ℤ, pos, List, ◌∷◌, length, get_or, drop, Option, Some, false, ◌+◌, ◌-◌, ◌<◌}
use Rattle.std.proofs.Common.{refl, arith}
use Rattle.std.specs.Prelude.{unsigned_abs}
use Rattle.std.proofs.lemmas.Int.{ints}
use Rattle.std.proofs.lemmas.List.{drop_more}
use Rattle.sdm_rules.specs.declared.data.SpeedStep.{SpeedStep}
use Rattle.sdm_rules.specs.Profile.{Zone, end_for, static_zones}
use Rattle.sdm_rules.specs.Ranges.{longest_track}
use Rattle.sdm_track.specs.Ranges.{IsSpeedStep, AreSpeeds}
use Rattle.sdm_speed.specs.Zones.{IsZone, IsLimit}

-- stands for an entry that there is not
abbrev pub none : SpeedStep
none = record { start = pos 0; speed = pos 0; delayed = false }

-- the zones from the entry before `i` on, the first of which begins at `first`
abbrev pub zones_from : ℤ → Option ℤ → List SpeedStep → ℕ → List Zone
zones_from length_cm first es i = static_zones length_cm first (get_or es (i - 1) none) (drop i es)

-- the start closes a zone and opens the next
pub zones_from_next : (length_cm : ℤ) (first : Option ℤ) (es : List SpeedStep) (i : ℕ) (e next : SpeedStep) →
    i < length es → e ≡ get_or es (i - 1) none → next ≡ get_or es i none →
    zones_from length_cm first es i ≡ record {
      first = first;
      past = Some (end_for length_cm e.delayed next.start);
      limit = unsigned_abs e.speed;
    } ∷ zones_from length_cm (Some next.start) es (i + 1)
zones_from_next length_cm first es i e next known e_is next_is =
    let same : i + 1 - 1 ≡ i = omega arith in
    rw (drop_more es i none known, same, ← e_is, ← next_is) refl

-- ---- each zone in its range

-- the speed of an entry is a limit
step_limit : (length_cm : ℤ) (e : SpeedStep) → IsSpeedStep length_cm e → IsLimit (unsigned_abs e.speed)
step_limit length_cm e step = record {
  least = (let l = step.least in omega (arith, ints));
  greatest = (let g = step.greatest in omega (arith, ints));
}

-- a zone that opens where the entry `i` starts, or has no beginning, wherever it ends
pub static_zone : (es : List SpeedStep) (i : ℕ) (first past : Option ℤ) (e : SpeedStep) → AreSpeeds
    (pos longest_track) es → i < length es → e ≡ get_or es i none → ((f : ℤ) → first ≡ Some f → f ≡ e.start) →
    IsZone (record { first = first; past = past; limit = unsigned_abs e.speed })
static_zone es i first past e speeds known e_is opened =
    let in_range : IsSpeedStep (pos longest_track) e = rw e_is (speeds.each i none known) in
    record {
      not_before = λ f a. rw (opened f a) in_range.not_before;
      on_track = λ f a. rw (opened f a) in_range.on_track;
      limited = step_limit (pos longest_track) e in_range;
    }
