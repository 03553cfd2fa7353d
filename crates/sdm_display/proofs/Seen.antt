-- What is found over what is seen at a reading is what is shown of it.
use Rattle.std.proofs.Common.{◌≡◌, ℕ, ◌≤◌, not}
use Rattle.sdm_num.specs.Units.{top_kmh}
use Rattle.sdm_num.specs.Readings.{OdometerReading}
use Rattle.sdm_rules.specs.declared.display.LimitName.{LimitName}
use Rattle.sdm_rules.specs.Display.{display_speed, display_speed_of, passes_limit}
use Rattle.sdm_rules.specs.Machines.{Implies}
use Rattle.sdm_rules.specs.Release.{greatest_up_to}
use Rattle.sdm_rules.specs.Supervision.{Supervision}
use Rattle.sdm_laws.specs.SupervisionLaws.{IsPassedUpwards}
use Rattle.sdm_supervisor.specs.Sights.{Seen, seen_at}

-- a faster train passes each limit that a slower one does
pub seen_upwards : (s : Supervision) (r : OdometerReading) (seen : Seen) (name : LimitName) → seen ≡ seen_at s r →
    IsPassedUpwards s r name → (v v' : ℕ) → v ≤ v' → v' ≤ top_kmh →
    Implies (passes_limit seen.train_and_track seen.reading seen.situation name v)
    (passes_limit seen.train_and_track seen.reading seen.situation name v')
seen_upwards s r seen name is h v v' le top = rw is (h.upwards v v' le)

-- the greatest speed at which the limit isn't passed is the one that is shown
pub seen_speed : (s : Supervision) (r : OdometerReading) (seen : Seen) (name : LimitName) (kmh : ℕ) →
    seen ≡ seen_at s r →
    kmh ≡ greatest_up_to top_kmh
    (λ v. not (passes_limit seen.train_and_track seen.reading seen.situation name v)) →
    kmh ≡ display_speed_of s r name
unfolding display_speed
seen_speed s r seen name kmh is found = rw is at found
