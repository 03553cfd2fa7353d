-- Certificates that hold on the slopes of A_safe hold on the map that is written before them: all turns of a journey
-- have its data, and what is written of these is read back.
use Rattle.std.proofs.Common.{◌≡◌, ℕ, ℤ, zero, suc, pos, ◌≤◌, ◌≤ℤ◌, Bool, true, false, List, [], ◌∷◌, ◌++◌, Option, Some}
use Rattle.std.proofs.Common.{None, All, take, filter, cond, unsigned_abs, refl, ap, ◌∙◌, subst, arith}
use Rattle.std.specs.Prelude.{Result, Ok, Err, IfOk, IfSome, option_map}
use Rattle.std.specs.List.{cons_option}
use Rattle.std.proofs.lemmas.Int.{ints}
use Rattle.std.proofs.lemmas.List.Elements.{All-cons, All-nil}
use Rattle.toml.specs.Data.{Members}
use Rattle.sdm_num.specs.Units.{notches}
use Rattle.sdm_rules.specs.declared.authorities.Authority.{Authority}
use Rattle.sdm_rules.specs.declared.data.Band.{Band}
use Rattle.sdm_rules.specs.declared.data.SlopeKind.TheVariants.{Safe}
use Rattle.sdm_rules.specs.declared.faults.EventCause.{EventCause}
use Rattle.sdm_rules.specs.declared.faults.EventFault.{EventFault}
use Rattle.sdm_rules.specs.declared.records.Event.{Event}
use Rattle.sdm_rules.specs.declared.records.Event.TheVariants as record_kinds
use Rattle.sdm_rules.specs.Certificates.{Hold}
use Rattle.sdm_rules.specs.Data.{TrainAndTrack}
use Rattle.sdm_rules.specs.Decelerations.{slopes_of, uppers_of}
use Rattle.sdm_rules.specs.Ranges.{top_kmh}
use Rattle.sdm_rules.specs.Records.{Turn, event_at, go_on, journey_from, step, turn_of, turn_to}
use Rattle.sdm_rules.specs.Supervision.{Supervision, after_reading}
use Rattle.sdm_formats.specs.Forms.{event_of}
use Rattle.sdm_formats.specs.Text.{told}
use Rattle.sdm_laws.proofs.Rows.Headline.{over_kinds}
use Rattle.sdm_train.specs.Trains.{IsBand}
use Rattle.sdm_train.proofs.Accepted.{IsTrain_of}
use Rattle.sdm_certify.specs.ReadBack.{AreWrittenSpeeds}
use Rattle.sdm_certify.proofs.HeldTexts.{AreWritable, certified_text}
use Rattle.sdm_data.specs.Journey.{data_of}
use Rattle.sdm_data.proofs.ReadData.{accepted}
use Rattle.sdm_events.specs.Journey.{Record}
use Rattle.sdm_run.specs.Certifying.{certificate, certified_by, certified_in, certified_of, certified_turns}
use Rattle.sdm_run.specs.Certifying.{is_certified}
use Rattle.sdm_run.specs.RunParts.{AreTurnsHeld, IsHeldIn}

-- ---- the data of turns

-- turns from states with these data
abbrev pub HaveData : TrainAndTrack → List Turn → Type 0
HaveData d [] = Unit {0}
HaveData d (t ∷ ts) = (t.before.train_and_track ≡ d) × HaveData d ts

-- a record leaves the data as they are
step_keeps : (s : Supervision) (e : Event) → IfOk (step s e) (λ t. t.train_and_track ≡ s.train_and_track)
unfolding after_reading
step_keeps s e = over_kinds (λ _ t. t.train_and_track ≡ s.train_and_track) s (λ r. refl) (λ a. refl)
    (λ eoa svl trip none. refl) (λ r. refl) (λ id. refl) e

-- so all turns of a journey have those that it began with
pub have_data : (d : TrainAndTrack) (n : ℕ) (s : Supervision) (records : List Record) → s.train_and_track ≡ d →
    HaveData d (journey_from (event_at event_of) n s records).turns
have_data d n s [] same = tt
have_data d n s (x ∷ xs) same = by_event (event_at event_of n x) (λ t is. have_data d (suc n) t xs is)
  where
    by_step : (e : Event) (r : Result Supervision EventCause) → IfOk r (λ t. t.train_and_track ≡ s.train_and_track) →
        ((t : Supervision) → t.train_and_track ≡ d → HaveData d (journey_from (event_at event_of) (suc n) t xs).turns) →
        HaveData d (go_on n (turn_to s e r) (λ t. journey_from (event_at event_of) (suc n) t xs)).turns
    by_step e (Ok t) keeps rest = (same, rest t (keeps ∙ same))
    by_step e (Err cause) keeps rest = tt

    by_event : (e : Result Event EventFault) →
        ((t : Supervision) → t.train_and_track ≡ d → HaveData d (journey_from (event_at event_of) (suc n) t xs).turns) →
        HaveData d (go_on n (turn_of s e) (λ t. journey_from (event_at event_of) (suc n) t xs)).turns
    by_event (Ok e) rest = by_step e (step s e) (step_keeps s e) rest
    by_event (Err fault) rest = tt

-- and so have those that are certified
pub certified_data : (d : TrainAndTrack) (count : ℕ) (turns : List Turn) → HaveData d turns →
    HaveData d (certified_turns count turns)
certified_data d count turns h = of_first count (filter is_certified turns) (of_some turns h)
  where
    of_first : (count : ℕ) (turns : List Turn) → HaveData d turns → HaveData d (take count turns)
    of_first zero turns h = tt
    of_first (suc count) [] h = tt
    of_first (suc count) (t ∷ ts) h = (h.0, of_first count ts h.1)

    of_some : (turns : List Turn) → HaveData d turns → HaveData d (filter is_certified turns)
    of_some [] h = tt
    of_some (t ∷ ts) h = by_test (is_certified t) (of_some ts h.1)
      where
        by_test : (b : Bool) → HaveData d (filter is_certified ts) →
            HaveData d (cond b (t ∷ filter is_certified ts) (filter is_certified ts))
        by_test true rest = (h.0, rest)
        by_test false rest = rest

-- ---- their certificates

-- the texts of certificates are those of their claims and marks
pub texts_are : (turns : List Turn) → told certificate turns ≡ certified_text (certified_by turns)
texts_are [] = refl
texts_are (t ∷ ts) = by_event t.before t.event (texts_are ts)
  where
    by_event : (s : Supervision) (e : Event) → told certificate ts ≡ certified_text (certified_by ts) →
        certificate (record { before = s; event = e; after = t.after }) ++ told certificate ts
        ≡ certified_text (certified_by (record { before = s; event = e; after = t.after } ∷ ts))
    by_event s (record_kinds.Read r) rest = ap (λ text. certificate (record {
      before = s;
      event = record_kinds.Read r;
      after = t.after;
    }) ++ text) rest
    by_event s (record_kinds.Authority a) rest = rest
    by_event s (record_kinds.Calculated eoa svl trip) rest = rest
    by_event s (record_kinds.Restrict r) rest = rest
    by_event s (record_kinds.Revoke id) rest = rest

-- those that hold can be written, and hold on the slopes of A_safe of the data
pub are_writable : (d : TrainAndTrack) (turns : List Turn) → HaveData d turns → AreTurnsHeld turns →
    AreWritable (slopes_of Safe d) (certified_by turns)
are_writable d [] same held = tt
are_writable d (t ∷ ts) same held = by_event t.before t.event same.0 held.0 (are_writable d ts same.1 held.1)
  where
    by_event : (s : Supervision) (e : Event) → s.train_and_track ≡ d → IsHeldIn s e →
        AreWritable (slopes_of Safe d) (certified_by ts) →
        AreWritable (slopes_of Safe d) (certified_in s e ++ certified_by ts)
    by_event s (record_kinds.Read r) same h rest = (
      record {
        claim = h.claim_range;
        marks = h.marks_range;
        hold = subst (λ (d : TrainAndTrack). Hold (slopes_of Safe d) (certified_of s r).claim (certified_of s r).marks)
            same h.hold;
      },
      rest,
    )
    by_event s (record_kinds.Authority a) same h rest = rest
    by_event s (record_kinds.Calculated eoa svl trip) same h rest = rest
    by_event s (record_kinds.Restrict r) same h rest = rest
    by_event s (record_kinds.Revoke id) same h rest = rest

-- ---- speeds

-- an upper speed in its range is one that is written
with_upper : (upper : Option ℤ) (more : List ℕ) → IfSome upper (λ kmh. (pos 1 ≤ℤ kmh) × (kmh ≤ℤ pos top_kmh)) →
    AreWrittenSpeeds more → AreWrittenSpeeds (cons_option (option_map (λ v. notches (unsigned_abs v)) upper) more)
with_upper None more range all = all
with_upper (Some kmh) more range all =
    let low = range.0 in
    let high = range.1 in
    All-cons (λ (v : ℕ). v ≤ 20_000_000) (notches (unsigned_abs kmh)) more (omega (arith, ints, low, high)) all

-- so are those of bands in their ranges
speeds_fit : (bands : List Band) → All IsBand bands → AreWrittenSpeeds (uppers_of bands)
speeds_fit [] all = All-nil (λ (v : ℕ). v ≤ 20_000_000)
speeds_fit (b ∷ bands) all =
    let this = all 0 b (omega arith) in
    with_upper b.upper (uppers_of bands) this.upper
    (speeds_fit bands (λ k d lt. all (suc k) d (omega (arith, lt))))

-- and those of data that break no rule
pub written_speeds : (table : Members) (d : TrainAndTrack) (a : Authority) → data_of table ≡ Ok (d, a) →
    AreWrittenSpeeds (slopes_of Safe d).uppers
unfolding slopes_of
written_speeds table d a read =
    speeds_fit d.train.bands (IsTrain_of d.train (accepted table d a read).train).each_band
