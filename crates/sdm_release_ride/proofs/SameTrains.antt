-- Both judgings order the same, so they lead to the same moments, but for what is promised.
use Rattle.std.proofs.Common.{◌≡◌, List, [], ◌∷◌, refl, ap, sym, ◌∙◌}
use Rattle.std.specs.Prelude.{Result, Ok, Err, map}
use Rattle.sdm_rules.specs.declared.faults.EventCause.{EventCause}
use Rattle.sdm_rules.specs.declared.faults.TakeOverFault.{TakeOverFault}
use Rattle.sdm_rules.specs.declared.records.Event.{Event}
use Rattle.sdm_rules.specs.declared.records.Event.TheVariants as record_kinds
use Rattle.sdm_rules.specs.Records.{step}
use Rattle.sdm_rules.specs.Supervision.{Supervision}
use Rattle.sdm_rules.specs.TakeOver.{change}
use Rattle.sdm_ride.specs.Happenings.{Happening, Record, Unread, Overdue, Change, Tick}
use Rattle.sdm_ride.specs.Moments.{Judging, Moment, after, after_change, after_record, by_rows, moments}
use Rattle.sdm_release_ride.specs.TripPlaces.{TripBounds, by_release}
use Rattle.sdm_release_ride.specs.ReleaseRideLaws.{LawOfSameTrains, unpromised}

-- after a record a moment is what it is after the moment without its promise
record_same : (b : TripBounds) (m : Moment) (e : Event) (t : Result Supervision EventCause) →
    unpromised (after_record by_rows m e t) ≡ unpromised (after_record (by_release b) (unpromised m) e t)
record_same b m (record_kinds.Read r) (Ok t) = refl
record_same b m (record_kinds.Authority a) (Ok t) = refl
record_same b m (record_kinds.Calculated eoa svl trip) (Ok t) = refl
record_same b m (record_kinds.Restrict r) (Ok t) = refl
record_same b m (record_kinds.Revoke id) (Ok t) = refl
record_same b m e (Err cause) = refl

-- by one judging a promise changes nothing else
record_alone : (j : Judging) (m : Moment) (e : Event) (t : Result Supervision EventCause) →
    unpromised (after_record j (unpromised m) e t) ≡ unpromised (after_record j m e t)
record_alone j m (record_kinds.Read r) (Ok t) = refl
record_alone j m (record_kinds.Authority a) (Ok t) = refl
record_alone j m (record_kinds.Calculated eoa svl trip) (Ok t) = refl
record_alone j m (record_kinds.Restrict r) (Ok t) = refl
record_alone j m (record_kinds.Revoke id) (Ok t) = refl
record_alone j m e (Err cause) = refl

-- so is a moment after a change of data
change_alone : (m : Moment) (t : Result Supervision TakeOverFault) →
    unpromised (after_change m t) ≡ unpromised (after_change (unpromised m) t)
change_alone m (Ok t) = refl
change_alone m (Err fault) = refl

same_after : (b : TripBounds) (m : Moment) (h : Happening) →
    unpromised (after by_rows m h) ≡ unpromised (after (by_release b) (unpromised m) h)
unfolding after
same_after b m (Record e) = record_same b m e (step m.supervision e)
same_after b m Unread = refl
same_after b m Overdue = refl
same_after b m (Change next) = change_alone m (change next m.supervision)
same_after b m (Tick to length) = refl

alone : (j : Judging) (m : Moment) (h : Happening) → unpromised (after j (unpromised m) h) ≡ unpromised (after j m h)
unfolding after
alone j m (Record e) = record_alone j m e (step m.supervision e)
alone j m Unread = refl
alone j m Overdue = refl
alone j m (Change next) = sym (change_alone m (change next m.supervision))
alone j m (Tick to length) = refl

-- from moments that are the same but for what is promised
from_same : (b : TripBounds) (m n : Moment) (hs : List Happening) → unpromised m ≡ unpromised n →
    map unpromised (moments by_rows m hs) ≡ map unpromised (moments (by_release b) n hs)
from_same b m n [] e = refl
from_same b m n (h ∷ hs) e =
    let next : unpromised (after by_rows m h) ≡ unpromised (after (by_release b) n h) =
    same_after b m h ∙ ap (λ (x : Moment). unpromised (after (by_release b) x h)) e ∙ alone (by_release b) n h in
    ap (λ (x : Moment). x ∷ map unpromised (moments by_rows (after by_rows m h) hs)) next
    ∙ ap (λ (xs : List Moment). unpromised (after (by_release b) n h) ∷ xs)
    (from_same b (after by_rows m h) (after (by_release b) n h) hs next)

pub same_trains : LawOfSameTrains
same_trains b m hs = from_same b m m hs refl
