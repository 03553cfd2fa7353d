-- The computer beside a ride: what a message is for the ride, and how the computer goes on with it (own).
use Rattle.std.specs.Prelude.{◌≡◌, ◌⊎◌, pos, Some, ◌≤◌, ◌+ℤ◌, ◌-ℤ◌, Result, Ok, Err}
use Rattle.sdm_num.specs.Readings.{IsReading, OdometerReading, reading_of}
use Rattle.sdm_num.specs.Units.{top_kmh}
use Rattle.sdm_rules.specs.declared.records.Event.TheVariants as record_kinds
use Rattle.sdm_rules.specs.declared.restrictions.Restriction.{Restriction}
use Rattle.sdm_rules.specs.Supervision.{Supervision}
use Rattle.sdm_ride.specs.Happenings.{Happening, Record, Unread, Overdue, Change}
use Rattle.sdm_ride.specs.Orders.{Computer, GoesOn}
use Rattle.sdm_release_ride.specs.TripPlaces.{by_guarded}
use Rattle.sdm_service_ride.specs.ServiceMoments.{by_eoa}
use Rattle.sdm_onboard.specs.Guard.{bounds}
use Rattle.sdm_onboard.specs.declared.messages.Message.{Message}
use Rattle.sdm_onboard.specs.declared.messages.Message.TheVariants as messages
use Rattle.sdm_onboard.specs.declared.messages.Odometry.{Odometry}
use Rattle.sdm_onboard.specs.declared.onboard.Onboard.{Onboard}
use Rattle.sdm_onboard.specs.declared.opening.OpeningFault.{OpeningFault}

-- what the odometer tells as a reading: the front end is known to 5 m, the speed to 0.2 m/s (own)
abbrev pub reading_in : Odometry → OdometerReading
reading_in o = reading_of o.time o.est (o.est -ℤ pos 5_000) (o.est +ℤ pos 5_000) o.speed o.accel 200

-- a restriction has a speed that one may have, in km/h (own)
pub record HasSpeed (r : Restriction) : Type 0 where
  pub slowest : 1 ≤ r.speed
  pub fastest : r.speed ≤ top_kmh

-- the odometer repeats the time of the last reading that was judged (own)
abbrev pub IsRepeated : Supervision → Odometry → Type 0
IsRepeated s o = s.last_time ≡ Some o.time

-- what an odometer's message is for the ride: a reading; where it repeats a time a missing one, since it tells nothing of
-- another moment; and where it is out of its form an unread record (own)
abbrev pub IsForReading : Supervision → Odometry → Happening → Type 0
IsForReading s o h =
    (IsReading (reading_in o) × ((IsRepeated s o → ⊥) × (h ≡ Record (record_kinds.Read (reading_in o)))))
    ⊎ ((IsReading (reading_in o) × (IsRepeated s o × (h ≡ Overdue)))
    ⊎ ((IsReading (reading_in o) → ⊥) × (h ≡ Unread)))

-- what a message is for the ride, by what the supervisor holds: a record of it, which is unread where it is out of its
-- form; or a missing reading (own)
abbrev pub IsFor : Supervision → Message → Happening → Type 0
IsFor s (messages.Odometry o) h = IsForReading s o h
IsFor s messages.Overdue h = h ≡ Overdue
IsFor s (messages.Authority a) h = h ≡ Record (record_kinds.Authority a)
IsFor s (messages.Restriction r) h =
    (HasSpeed r × (h ≡ Record (record_kinds.Restrict r))) ⊎ ((HasSpeed r → ⊥) × (h ≡ Unread))
IsFor s (messages.Revocation id) h = h ≡ Record (record_kinds.Revoke id)

-- what the computer's supervisor holds, and whether the emergency brake stands at its interface (own)
abbrev pub computer_of : Onboard → Computer
computer_of o = record { supervision = o.supervisor; orders_brake = o.orders.emergency }

-- the same of the service brake (own)
abbrev pub service_of : Onboard → Computer
service_of o = record { supervision = o.supervisor; orders_brake = o.orders.service }

-- over a happening the computer goes on as the ride does: with the emergency brake as one that is judged by the rows and
-- guarded, with the service brake as one that is judged by the EOA (own)
pub record Follows (before : Onboard) (h : Happening) (now : Onboard) : Type 0 where
  pub emergency : GoesOn (by_guarded bounds) (computer_of before) h (computer_of now)
  pub service : GoesOn by_eoa (service_of before) h (service_of now)

-- so it does with a message (own)
pub record Takes (before : Onboard) (message : Message) (h : Happening) (now : Onboard) : Type 0 where
  pub is_for : IsFor before.supervisor message h
  pub follows : Follows before h now

-- what an opening over new data is for the ride: a change to them, or nothing that the supervisor is asked (own)
abbrev pub IsOpenedFor : Result Supervision OpeningFault → Happening → Type 0
IsOpenedFor (Ok next) h = h ≡ Change next
IsOpenedFor (Err fault) h = h ≡ Unread

-- so the computer goes on with new data (own)
pub record Changes (before : Onboard) (opened : Result Supervision OpeningFault) (h : Happening) (now : Onboard) : Type 0 where
  pub is_for : IsOpenedFor opened h
  pub follows : Follows before h now
