-- A data part has one document, so one result of its rules, so one state or one first fault of its opening.
use Rattle.std.proofs.Common.{◌≡◌, ℕ, List, Some, Ok, Err, refl, ap}
use Rattle.std.specs.Prelude.{◌≢◌, Result}
use Rattle.toml.specs.Data.{Members}
use Rattle.sdm_rules.specs.declared.authorities.Authority.{Authority}
use Rattle.sdm_rules.specs.Data.{TrainAndTrack}
use Rattle.sdm_rules.specs.Supervision.{Supervision, opening}
use Rattle.sdm_formats.specs.declared.faults.DataFault.{DataFault}
use Rattle.sdm_laws.proofs.Openings.OneFault.{not_both, one_fault}
use Rattle.sdm_report.specs.declared.outcome.InputFault.TheVariants.{NoSplit, Toml, Data}
use Rattle.sdm_data.specs.Document.{document_of}
use Rattle.sdm_data.specs.Journey.{data_of}
use Rattle.sdm_opening.specs.declared.NoOpening.{NoOpening}
use Rattle.sdm_opening.specs.declared.NoOpening.TheVariants.{Memory, BadData, Refused}
use Rattle.sdm_opening.specs.Openings.{HasOneAnswer, IsDataOf, IsNoDataOf, IsOpeningOf, IsReasonOf}

abbrev Given : Type 0
Given = TrainAndTrack × Authority

-- the rules have one result
same_result : (bytes : List ℕ) (m n : Members) (x y : Result Given DataFault) → document_of bytes ≡ Some m →
    document_of bytes ≡ Some n → data_of m ≡ x → data_of n ≡ y → x ≡ y
same_result bytes m n x y d e f g = cc

-- so a data part holds data, or none
no_data : (bytes : List ℕ) (d : TrainAndTrack) (a : Authority) (m : Members) (fault : DataFault) → IsDataOf bytes d a →
    document_of bytes ≡ Some m → data_of m ≡ Err fault → ⊥
no_data bytes d a m fault given doc err =
    let same = same_result bytes given.members m (Ok (d, a)) (Err fault) given.document doc given.read err in
    absurd (cc)

-- and the data of a data part are one
same_data : (bytes : List ℕ) (d e : TrainAndTrack) (a b : Authority) → IsDataOf bytes d a → IsDataOf bytes e b →
    (d ≡ e) × (a ≡ b)
same_data bytes d e a b given other =
    let same = same_result bytes given.members other.members (Ok (d, a)) (Ok (e, b)) given.document other.document
    given.read other.read in
    let pair : (d, a) ≡ (e, b) = cc in (ap (λ (x : Given). x.0) pair, ap (λ (x : Given). x.1) pair)

never_both : (bytes : List ℕ) (s : Supervision) (reason : NoOpening) → reason ≢ Memory → IsOpeningOf bytes s →
    IsReasonOf bytes reason → ⊥
never_both bytes s Memory known o h = known refl
never_both bytes s (BadData NoSplit) known o h = h
never_both bytes s (BadData Toml) known o h = let d = o.given.document in absurd (cc)
never_both bytes s (BadData (Data fault)) known o (is, m, doc, err) =
    no_data bytes o.train_and_track o.authority m fault o.given doc err
never_both bytes s (Refused fault) known o (is, d, a, given, first) =
    let same = same_data bytes o.train_and_track d o.authority a o.given given in
    not_both d a fault (rw (← same.0, ← same.1) o.accepted) first

one_state : (bytes : List ℕ) (s t : Supervision) → IsOpeningOf bytes s → IsOpeningOf bytes t → s ≡ t
one_state bytes s t o p =
    let same = same_data bytes o.train_and_track p.train_and_track o.authority p.authority o.given p.given in
    rw (o.state, p.state, same.0, same.1) refl

one_reason : (bytes : List ℕ) (reason other : NoOpening) → reason ≢ Memory → other ≢ Memory → IsReasonOf bytes reason →
    IsReasonOf bytes other → reason ≡ other
one_reason bytes Memory other known known' h g = absurd (known refl)
one_reason bytes reason Memory known known' h g = absurd (known' refl)
one_reason bytes (BadData NoSplit) other known known' h g = absurd h
one_reason bytes reason (BadData NoSplit) known known' h g = absurd g
one_reason bytes (BadData Toml) (BadData Toml) known known' h g = refl
one_reason bytes (BadData Toml) (BadData (Data f)) known known' h (is, m, doc, err) = absurd (cc)
one_reason bytes (BadData (Data f)) (BadData Toml) known known' (is, m, doc, err) g = absurd (cc)
one_reason bytes (BadData (Data f)) (BadData (Data f')) known known' (is, m, doc, err) (is', m', doc', err') =
    let same = same_result bytes m m' (Err f) (Err f') doc doc' err err' in cc
one_reason bytes (BadData Toml) (Refused f) known known' h (is, d, a, given, first) =
    let doc = given.document in absurd (cc)
one_reason bytes (Refused f) (BadData Toml) known known' (is, d, a, given, first) g =
    let doc = given.document in absurd (cc)
one_reason bytes (BadData (Data f)) (Refused f') known known' (is, m, doc, err) (is', d, a, given, first) =
    absurd (no_data bytes d a m f given doc err)
one_reason bytes (Refused f) (BadData (Data f')) known known' (is, d, a, given, first) (is', m, doc, err) =
    absurd (no_data bytes d a m f' given doc err)
one_reason bytes (Refused f) (Refused f') known known' (is, d, a, given, first) (is', e, b, other, first') =
    let same = same_data bytes d e a b given other in
    ap Refused (one_fault e b f f' (rw (← same.0, ← same.1) first) first')

-- a data part that holds no data opens no supervision state, for the same reason
pub of_no_data : (bytes : List ℕ) (reason : NoOpening) → IsNoDataOf bytes reason → IsReasonOf bytes reason
of_no_data bytes Memory h = h
of_no_data bytes (BadData fault) h = h
of_no_data bytes (Refused fault) h = absurd h

pub one_answer : (bytes : List ℕ) → HasOneAnswer bytes
one_answer bytes =
    record { not_both = never_both bytes; one_state = one_state bytes; one_reason = one_reason bytes }
