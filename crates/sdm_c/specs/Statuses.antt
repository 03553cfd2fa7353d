-- The status of each call, as a function of the supervision state and the numbers passed (own). A call with several
-- faults returns the first of these: the handle is closed, a number is outside its range, the supervisor refuses.
use Rattle.std.specs.Prelude.{◌≡◌, ℕ, Bool, Option, Some, None, ◌==◌, ◌&&◌, ◌||◌, if◌then◌else◌}
use Rattle.sdm_rules.specs.declared.authorities.Authority.{Authority}
use Rattle.sdm_rules.specs.declared.authorities.Authority.TheVariants.{Stop, Limit}
use Rattle.sdm_rules.specs.declared.faults.AuthorityFault.{AuthorityFault}
use Rattle.sdm_rules.specs.declared.faults.AuthorityFault.TheVariants.{SvlBeforeEoa, BeyondTrack, BadSpeed}
use Rattle.sdm_rules.specs.declared.faults.CycleFault.{CycleFault}
use Rattle.sdm_rules.specs.declared.faults.RestrictFault.{RestrictFault}
use Rattle.sdm_rules.specs.declared.faults.RestrictFault.TheVariants.{Full, IdInUse, Value}
use Rattle.sdm_rules.specs.declared.faults.RevokeFault.{RevokeFault}
use Rattle.sdm_rules.specs.declared.faults.TakeOverFault.{TakeOverFault}
use Rattle.sdm_rules.specs.declared.faults.TripFault.{TripFault}
use Rattle.sdm_rules.specs.declared.faults.TripFault.TheVariants as trip_faults
use Rattle.sdm_rules.specs.Records.{authority_fault, restrict_fault, revoke_fault, time_fault, trip_fault}
use Rattle.sdm_rules.specs.Supervision.{Supervision}
use Rattle.sdm_rules.specs.TakeOver.{take_over_fault}
use Rattle.sdm_supervisor.specs.TakeOvers.{is_fresh}
use Rattle.sdm_c.specs.declared.structs.AllowanceC.{AllowanceC}
use Rattle.sdm_c.specs.declared.structs.ReadingC.{ReadingC}
use Rattle.sdm_c.specs.declared.structs.RestrictionC.{RestrictionC}
use Rattle.sdm_c.specs.declared.handle.Handle.{Handle}
use Rattle.sdm_c.specs.Numbers.{is_allowance, is_identity, is_reading, is_restriction, restriction_from}

-- ---- THE NUMBERS of `enum sdm_status`, as C has them

-- the call did what it is for (own)
abbrev pub done : ℕ
done = 0

-- the handle has no supervisor (own)
abbrev pub closed : ℕ
closed = 1

-- the handle has a supervisor already (own)
abbrev pub in_use : ℕ
in_use = 2

-- memory was refused (own)
abbrev pub no_memory : ℕ
no_memory = 3

-- the data break a rule (own)
abbrev pub bad_data : ℕ
bad_data = 4

-- the slopes or the first authority are refused (own)
abbrev pub refused : ℕ
refused = 5

-- a number is outside its range (own)
abbrev pub out_of_range : ℕ
out_of_range = 6

-- the reading's time is before that of the last one (own)
abbrev pub time_back : ℕ
time_back = 7

-- the SvL lies before the EOA (own)
abbrev pub svl_before_eoa : ℕ
svl_before_eoa = 8

-- the SvL or the LOA lies past the track's end (own)
abbrev pub beyond_track : ℕ
beyond_track = 9

-- the limit's speed is 0 or too high, or the release speed is too high (own)
abbrev pub bad_speed : ℕ
bad_speed = 10

-- the trip's place lies before the EOA or past the SvL (own)
abbrev pub bad_trip : ℕ
bad_trip = 11

-- as many restrictions as may be are held (own)
abbrev pub full : ℕ
full = 12

-- a restriction with this identity is held (own)
abbrev pub id_in_use : ℕ
id_in_use = 13

-- the restriction ends at or before its start, or past the track's end (own)
abbrev pub bad_places : ℕ
bad_places = 14

-- no restriction with this identity is held (own)
abbrev pub unknown_id : ℕ
unknown_id = 15

-- the next supervisor has had a reading or a restriction (own)
abbrev pub not_fresh : ℕ
not_fresh = 16

-- ---- of what the supervisor answers

-- of an authority (own)
abbrev pub authority_status : Option AuthorityFault → ℕ
authority_status None = done
authority_status (Some SvlBeforeEoa) = svl_before_eoa
authority_status (Some BeyondTrack) = beyond_track
authority_status (Some BadSpeed) = bad_speed

-- of a stop with the place of a trip (own)
abbrev pub trip_status : Option TripFault → ℕ
trip_status None = done
trip_status (Some (trip_faults.Authority fault)) = authority_status (Some fault)
trip_status (Some trip_faults.BadTrip) = bad_trip

-- of a restriction (own)
abbrev pub restrict_status : Option RestrictFault → ℕ
restrict_status None = done
restrict_status (Some Full) = full
restrict_status (Some (IdInUse id)) = id_in_use
restrict_status (Some Value) = bad_places

-- of a revocation (own)
abbrev pub revoke_status : Option RevokeFault → ℕ
revoke_status None = done
revoke_status (Some fault) = unknown_id

-- of a change of data (own)
abbrev pub change_status : Option TakeOverFault → ℕ
change_status None = done
change_status (Some fault) = bad_places

-- of a reading's time (own)
abbrev pub time_status : Option CycleFault → ℕ
time_status None = done
time_status (Some fault) = time_back

-- a status, unless a number is outside its range (own)
abbrev pub in_range : Bool → ℕ → ℕ
in_range is status = if is then status else out_of_range

-- ---- of a call with a supervisor

-- of a reading (own)
abbrev pub cycle_answer : Supervision → ReadingC → ℕ
cycle_answer s r = in_range (is_reading r) (time_status (time_fault s.last_time r.time_ds))

-- of an authority, for the track's length (own)
abbrev pub authority_answer : Supervision → Authority → ℕ
authority_answer s a = authority_status (authority_fault s.train_and_track.track.length_cm a)

-- of a stop with the place of a trip, in cm (own)
abbrev pub calculated_answer : Supervision → ℕ → ℕ → ℕ → ℕ
calculated_answer s eoa svl trip = trip_status (trip_fault s.train_and_track.track.length_cm eoa svl trip)

-- of a restriction (own)
abbrev pub restrict_answer : Supervision → RestrictionC → ℕ
restrict_answer s r = in_range (is_restriction r)
    (restrict_status (restrict_fault s.train_and_track.track.length_cm s.restrictions (restriction_from r)))

-- of a revocation (own)
abbrev pub revoke_answer : Supervision → ℕ → ℕ
revoke_answer s id = in_range (is_identity id) (revoke_status (revoke_fault s.restrictions id))

-- of a change of data to a supervisor from the one before, where the first had no reading and no restriction yet (own)
abbrev pub take_over_answer : Supervision → Supervision → ℕ
take_over_answer next before =
    if is_fresh next then change_status (take_over_fault next.train_and_track.track.length_cm before.restrictions)
    else not_fresh

-- of a call that asks about a reading: what a driver is shown, its causes, whether it would be covered (own)
abbrev pub display_answer : ReadingC → ℕ
display_answer r = in_range (is_reading r) done

-- of a call for the first place that a reading is clear of with an allowance (own)
abbrev pub clear_answer : ReadingC → AllowanceC → ℕ
clear_answer r a = in_range (is_reading r && is_allowance a) done

-- ---- of a call with a handle

-- the handle has a supervisor (own)
abbrev pub IsOpen : Handle → Type 0
IsOpen h = h.is_open ≡ 1

-- the statuses of `sdm_open` (own)
abbrev pub is_open_status : ℕ → Bool
is_open_status n = n == done || n == in_use || n == no_memory || n == bad_data || n == refused

-- an answer of the supervisor, where the handle has one (own)
abbrev pub unless_closed : Handle → (Supervision → ℕ) → ℕ
unless_closed h answer = if h.is_open == 1 then answer h.state else closed

-- of `sdm_cycle` (own)
abbrev pub cycle_status : Handle → ReadingC → ℕ
cycle_status h r = unless_closed h (λ s. cycle_answer s r)

-- of `sdm_end` (own)
abbrev pub end_status : Handle → ℕ → ℕ → ℕ → ℕ
end_status h eoa svl release = unless_closed h (λ s. authority_answer s (Stop eoa svl release))

-- of `sdm_end_calculated` (own)
abbrev pub end_calculated_status : Handle → ℕ → ℕ → ℕ → ℕ
end_calculated_status h eoa svl trip = unless_closed h (λ s. calculated_answer s eoa svl trip)

-- of `sdm_limit` (own)
abbrev pub limit_status : Handle → ℕ → ℕ → ℕ
limit_status h loa speed = unless_closed h (λ s. authority_answer s (Limit loa speed))

-- of `sdm_restrict` (own)
abbrev pub restriction_status : Handle → RestrictionC → ℕ
restriction_status h r = unless_closed h (λ s. restrict_answer s r)

-- of `sdm_revoke` (own)
abbrev pub revocation_status : Handle → ℕ → ℕ
revocation_status h id = unless_closed h (λ s. revoke_answer s id)

-- of `sdm_take_over` (own)
abbrev pub take_over_status : Handle → Handle → ℕ
take_over_status next before = unless_closed next (λ n. unless_closed before (λ b. take_over_answer n b))

-- of `sdm_display`, `sdm_causes`, `sdm_would_cover` and `sdm_would_cover_up_to` (own)
abbrev pub display_status : Handle → ReadingC → ℕ
display_status h r = unless_closed h (λ s. display_answer r)

-- of `sdm_has_trip_place` (own)
abbrev pub trip_place_status : Handle → ℕ
trip_place_status h = unless_closed h (λ s. done)

-- of `sdm_clear_of` (own)
abbrev pub clear_status : Handle → ReadingC → AllowanceC → ℕ
clear_status h r a = unless_closed h (λ s. clear_answer r a)
