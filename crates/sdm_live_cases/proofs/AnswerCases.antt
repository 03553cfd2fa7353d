-- What a record is answered, and what becomes of the state, whatever that was.
use Rattle.std.proofs.Common.{◌≡◌, refl, ℕ, List, Some, Ok, Err, codes}
use Rattle.csv.specs.Reading.{strip_bom}
use Rattle.sdm_rules.specs.declared.authorities.Authority.{Authority}
use Rattle.sdm_rules.specs.declared.faults.EventCause.TheVariants as causes
use Rattle.sdm_rules.specs.declared.faults.RestrictFault.TheVariants as restrict_faults
use Rattle.sdm_rules.specs.declared.faults.RevokeFault.TheVariants as revoke_faults
use Rattle.sdm_rules.specs.declared.records.Event.TheVariants as record_kinds
use Rattle.sdm_rules.specs.declared.restrictions.Restriction.{Restriction}
use Rattle.sdm_rules.specs.Records.{step, turn_of}
use Rattle.sdm_rules.specs.Supervision.{Supervision, row_of}
use Rattle.sdm_num.specs.Readings.{OdometerReading}
use Rattle.sdm_formats.specs.FaultLines.{authority_text, cause_text, form_text, restrict_text, revoke_text}
use Rattle.sdm_formats.specs.Forms.{end_form, event_of, read_form}
use Rattle.sdm_formats.specs.Numbers.{read_int}
use Rattle.sdm_formats.specs.Text.{row_text}
use Rattle.sdm_live_records.specs.Live.{LiveState, answer_to, answered, live_rules, refused_text, too_long_text}

-- what a line leads to from a state in which this was told last
abbrev after_line : Supervision → List ℕ → LiveState
after_line s line = live_rules.next (record { supervision = s; text = codes "taken\n" }) line

-- the state stays, and this is told
abbrev told : Supervision → List ℕ → LiveState
told s text = record { supervision = s; text = text }

-- ---- refused for its form, for its authority, for its time: nothing changes

wrong_count : (s : Supervision) → after_line s (codes "read,5,0") ≡ told s (codes "refused: field count\n")
unfolding live_rules strip_bom event_of read_form refused_text cause_text form_text
wrong_count s = refl

wrong_kind : (s : Supervision) → after_line s (codes "Read,5,0,0,0,0,0,0") ≡ told s (codes "refused: unknown kind\n")
unfolding live_rules strip_bom event_of refused_text cause_text form_text
wrong_kind s = refl

-- of the SvL before the EOA
wrong_stop : (s : Supervision) →
    after_line s (codes "end,200,100,0") ≡ told s (codes "refused: supervised location before end\n")
unfolding live_rules strip_bom event_of end_form read_int step refused_text cause_text authority_text
wrong_stop s = refl

-- a reading of 0.5 s after one of 5 s: the time of the last one stays
abbrev after_5_s : Supervision → Supervision
after_5_s s = record s { last_time = Some 50 }

time_back : (s : Supervision) →
    after_line (after_5_s s) (codes "read,5,0,0,0,0,0,0") ≡ told (after_5_s s) (codes "refused: time back\n")
unfolding live_rules strip_bom event_of read_form read_int step refused_text cause_text
time_back s = refl

-- a restriction that is refused is not told as taken, nor a revocation
refused_restriction : answer_to (Err (causes.Restrict restrict_faults.Full)) ≡ codes "refused: too many restrictions\n"
unfolding refused_text cause_text restrict_text
refused_restriction = refl

refused_revocation : answer_to (Err (causes.Revoke (revoke_faults.Unknown 7))) ≡ codes "refused: identity unknown\n"
unfolding refused_text cause_text revoke_text
refused_revocation = refl

-- ---- taken: the state is that after the record, and a reading has the row of the state before it

taken_authority : (s t : Supervision) (a : Authority) → step s (record_kinds.Authority a) ≡ Ok t →
    answered s (turn_of s (Ok (record_kinds.Authority a))) ≡ told t (codes "taken\n")
taken_authority s t a is = rw is refl

taken_restriction : (s t : Supervision) (r : Restriction) → step s (record_kinds.Restrict r) ≡ Ok t →
    answered s (turn_of s (Ok (record_kinds.Restrict r))) ≡ told t (codes "taken\n")
taken_restriction s t r is = rw is refl

taken_reading : (s t : Supervision) (r : OdometerReading) → step s (record_kinds.Read r) ≡ Ok t →
    answered s (turn_of s (Ok (record_kinds.Read r))) ≡ told t (row_text (row_of s r))
taken_reading s t r is = rw is refl

-- ---- a line that is too long

too_long : live_rules.too_long ≡ codes "refused: line too long\n"
unfolding live_rules too_long_text
too_long = refl
