-- What the laws of changes of data say at numbers: of two readings with a change between them to other times and an EOA
-- 1 m nearer, and of states that differ in the one thing or the other.
use Rattle.std.proofs.Common.{◌≡◌, pos, true, false, [], ◌∷◌, ◌∙◌, refl, subst, ap}
use Rattle.std.specs.Prelude.{All, IfOk, IsTrue, Some, Result, Ok}
use Rattle.std.proofs.lemmas.List.Elements.{All-nil, All-cons}
use Rattle.sdm_num.specs.Readings.{OdometerReading}
use Rattle.sdm_rules.specs.declared.authorities.Authority.TheVariants.{Stop}
use Rattle.sdm_rules.specs.declared.faults.TakeOverFault.{TakeOverFault}
use Rattle.sdm_rules.specs.declared.records.Event.{Event}
use Rattle.sdm_rules.specs.declared.records.Event.TheVariants as record_kinds
use Rattle.sdm_rules.specs.declared.restrictions.Restriction.{Restriction}
use Rattle.sdm_rules.specs.Curves.{place_at, corner, arc, stepped, arc_back, back}
use Rattle.sdm_rules.specs.Decelerations.{slope_at, slopes_of}
use Rattle.sdm_rules.specs.Headline.{AreTurnsSafe}
use Rattle.sdm_rules.specs.Limits.{limits_of, release_start}
use Rattle.sdm_rules.specs.Opening.{IsOpen}
use Rattle.sdm_rules.specs.Profile.{mrsp}
use Rattle.sdm_rules.specs.Reaction.{reaction_times}
use Rattle.sdm_rules.specs.Records.{Turn, step}
use Rattle.sdm_rules.specs.Stop.{StopsBySvl}
use Rattle.sdm_rules.specs.Supervision.{Supervision, after_reading, is_covered_in, row_in, row_of}
use Rattle.sdm_rules.specs.TakeOver.{renewed, taken_over}
use Rattle.sdm_rules.specs.Targets.{targets_of}
use Rattle.sdm_change.specs.KeptLaws.{IsSameKept, LawOfKept, LawOfRenewal}
use Rattle.sdm_change.specs.Parts.{Part, after_change, parts_from, records_then}
use Rattle.sdm_change.specs.PartLaws.{IsPartOpen, IsReady, LawOfChange, LawOfParts, LawOfSameData}
use Rattle.sdm_cases.proofs.Journeys.{plain_band, plain_national, plain_train_and_track, reading_at}
use Rattle.sdm_cases.proofs.Openings.{situation_in, situation_with}
use Rattle.sdm_cases.proofs.RideBeginning.{before, between, changed, changes, first, next, next_open}
use Rattle.sdm_cases.proofs.RideLine.{line_open, ride_line}

-- ---- two readings, with a change between them

-- 2 m before the SvL
abbrev second : OdometerReading
second = reading_at 1 (pos 4_320_000_000_000) 10_800

covered : IsTrue (row_of changed second).covered
unfolding ride_line plain_train_and_track plain_national plain_band first reading_at row_in situation_with targets_of mrsp
    is_covered_in limits_of release_start reaction_times slopes_of slope_at stepped place_at corner arc arc_back back
    after_reading
covered = ap (λ now. is_covered_in next.train_and_track second now) (situation_in changed second refl) ∙ refl

ready : IsReady false true before
ready = record {
  is_open = line_open (pos 0) (pos 0);
  order = record { needed = λ h. h; allowed = λ h. refl };
}

abbrev part : Part Event
part = record { opened = next; records = record_kinds.Read second ∷ [] }

all_open : All IsPartOpen (part ∷ [])
all_open = All-cons IsPartOpen part [] next_open (All-nil IsPartOpen)

-- by the law every motion from the second one stops at or before the SvL, by the data that were changed to
second_stops_by_law : LawOfParts Event → StopsBySvl next.train_and_track second 1000
unfolding step after_reading first reading_at
second_stops_by_law law =
    let all = law (λ n e. Ok e) (record_kinds.Read first ∷ []) (part ∷ []) 1 before false true ready all_open in
    let turn : Turn = record { before = before; event = record_kinds.Read first; after = between } in
    let safe = subst (λ (x : Result Supervision TakeOverFault).
    AreTurnsSafe false true (turn ∷ (after_change 2 x
    (λ t. records_then (λ n e. Ok e) (λ m u. parts_from (λ n e. Ok e) [] m u) 2 t (record_kinds.Read second ∷ []))).turns))
    changes all in
    (safe.1.0.stop covered).stops 900 1000 0 refl

-- ---- one change

between_open : IsOpen between
unfolding after_reading
between_open = let o = line_open (pos 0) (pos 0) in record { bands = o.bands; usable = o.usable }

-- by the law the state that has taken over is ready
ready_by_law : LawOfChange → IsReady false true changed
ready_by_law law =
    subst (λ (x : Result Supervision TakeOverFault). IfOk x (IsReady false true)) changes
    (law next between false true next_open
    (record { is_open = between_open; order = record { needed = λ h. absurd (cc); allowed = λ h. refl } }))

-- by the law a change to the same data and authority keeps all that came of a reading
time_kept_by_law : LawOfSameData → (taken_over before between).last_time ≡ Some 0
unfolding after_reading first
time_kept_by_law law = ap (λ (s : Supervision). s.last_time) (law before between refl refl)

-- by the law a state that is given the data and the authority of another one is that one
renewed_by_law : LawOfRenewal →
    (renewed between next.train_and_track next.authority)
    ≡ record between { train_and_track = next.train_and_track; authority = Stop 900 1000 0 }
renewed_by_law law =
    law between (record between { train_and_track = next.train_and_track; authority = Stop 900 1000 0 })
    (record { restrictions = refl; last_time = refl; commands = refl })

-- by the law two states that accept a restriction have the same ones after it
kept_by_law : LawOfKept → (s t s' t' : Supervision) (r : Restriction) → IsSameKept s t →
    step s (record_kinds.Restrict r) ≡ Ok s' → step t (record_kinds.Restrict r) ≡ Ok t' →
    s'.commands ≡ t'.commands → s'.restrictions ≡ t'.restrictions
kept_by_law law s t s' t' r same one other commands =
    (law s t s' t' (record_kinds.Restrict r) same one other commands).restrictions
