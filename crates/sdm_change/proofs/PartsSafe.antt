-- The headline goes on from turn to turn, as in one journey, and over each change of data: that keeps the commands and
-- leads to a state whose data were accepted at an opening.
use Rattle.std.proofs.Common.{ℕ, suc, Bool, List, [], ◌∷◌, All, Option, Some, None, refl}
use Rattle.std.specs.Prelude.{Result, Ok, Err, IfOk}
use Rattle.std.proofs.lemmas.List.Elements.{All-head, All-tail}
use Rattle.sdm_rules.specs.declared.faults.EventCause.{EventCause}
use Rattle.sdm_rules.specs.declared.faults.EventFault.{EventFault}
use Rattle.sdm_rules.specs.declared.faults.TakeOverFault.{TakeOverFault}
use Rattle.sdm_rules.specs.declared.records.Event.{Event}
use Rattle.sdm_rules.specs.Headline.{AreTurnsSafe}
use Rattle.sdm_rules.specs.Opening.{IsOpen}
use Rattle.sdm_rules.specs.Records.{step, turn_of, turn_to}
use Rattle.sdm_rules.specs.Supervision.{Supervision}
use Rattle.sdm_rules.specs.TakeOver.{change, taken_over, take_over_fault, unless_refused}
use Rattle.sdm_laws.proofs.Rows.Headline.{still_open}
use Rattle.sdm_laws.proofs.Rows.Journeys.{Leads, leads}
use Rattle.sdm_change.specs.Parts.{Part, LongJourney, after_change, after_turn, parts_from, records_then}
use Rattle.sdm_change.specs.PartLaws.{IsPartOpen, IsReady, LawOfChange, LawOfParts, LawOfSameData}

-- what is left of a journey is safe from any state on that is ready
abbrev IsLaterSafe : (Supervision → LongJourney) → Type 0
IsLaterSafe rest = (t : Supervision) (must may : Bool) → IsReady must may t → AreTurnsSafe must may (rest t).turns

-- ---- a record

-- the rest is safe after a record that is taken or refused
after_step :
    (n : ℕ) (must may : Bool) (s : Supervision) (e : Event) (r : Result Supervision EventCause)
    (rest : Supervision → LongJourney) →
    IfOk r (Leads must may s e) → IsLaterSafe rest → AreTurnsSafe must may (after_turn n (turn_to s e r) rest).turns
after_step n must may s e (Ok t) rest h later =
    (h.safe, later t _ _ (record { is_open = h.open_after; order = h.order }))
after_step n must may s e (Err cause) rest h later = tt

-- and after a record that can be read or not
after_record :
    (n : ℕ) (must may : Bool) (s : Supervision) (e : Result Event EventFault) (rest : Supervision → LongJourney) →
    IsReady must may s → IsLaterSafe rest → AreTurnsSafe must may (after_turn n (turn_of s e) rest).turns
after_record n must may s (Ok e) rest h later =
    after_step n must may s e (step s e) rest (leads must may s h.is_open h.order e) later
after_record n must may s (Err fault) rest h later = tt

-- records, and what is safe after them
records_safe :
    {A : Type 0} (form : ℕ → A → Result Event EventFault) (rest : ℕ → Supervision → LongJourney) →
    ((m : ℕ) → IsLaterSafe (rest m)) → (xs : List A) (n : ℕ) (s : Supervision) (must may : Bool) →
    IsReady must may s → AreTurnsSafe must may (records_then form rest n s xs).turns
records_safe form rest later [] n s must may h = later n s must may h
records_safe form rest later (x ∷ xs) n s must may h =
    after_record n must may s (form n x) (λ t. records_then form rest (suc n) t xs) h
    (λ t m m' h'. records_safe form rest later xs (suc n) t m m' h')

-- ---- a change of data

-- where no fault refuses it, the state has the data of the next and the commands of the one before
if_taken : (o : Option TakeOverFault) (next before : Supervision) (must may : Bool) → IsOpen next →
    IsReady must may before → IfOk (unless_refused o (taken_over next before)) (IsReady must may)
if_taken None next before must may o h = record { is_open = still_open next _ refl o; order = h.order }
if_taken (Some fault) next before must may o h = tt

pub change_is_safe : LawOfChange
unfolding change
change_is_safe next before must may o h =
    if_taken (take_over_fault next.train_and_track.track.length_cm before.restrictions) next before must may o h

-- the rest is safe after a change of data that is accepted or refused
after_changed :
    (n : ℕ) (must may : Bool) (r : Result Supervision TakeOverFault) (rest : Supervision → LongJourney) →
    IfOk r (IsReady must may) → IsLaterSafe rest → AreTurnsSafe must may (after_change n r rest).turns
after_changed n must may (Ok t) rest h later = later t must may h
after_changed n must may (Err fault) rest h later = tt

-- the headline over data parts, before each of which the state is ready
parts_later_safe :
    {A : Type 0} (form : ℕ → A → Result Event EventFault) (parts : List (Part A)) → All IsPartOpen parts → (n : ℕ) →
    IsLaterSafe (parts_from form parts n)
parts_later_safe form [] all n s must may h = tt
parts_later_safe form (p ∷ ps) all n s must may h =
    after_changed n must may (change p.opened s)
    (λ t. records_then form (λ m u. parts_from form ps m u) n t p.records)
    (change_is_safe p.opened s must may (All-head IsPartOpen p ps all) h)
    (λ t m m' h'. records_safe form (λ k u. parts_from form ps k u)
    (λ k. parts_later_safe form ps (All-tail IsPartOpen p ps all) k) p.records n t m m' h')

pub parts_safe : {A : Type 0} → LawOfParts A
parts_safe form first parts n s must may h all =
    records_safe form (λ m t. parts_from form parts m t) (λ m. parts_later_safe form parts all m) first n s must may h

-- ---- the same data

pub same_data : LawOfSameData
same_data next before same_line same_end = λ k. record before { train_and_track = same_line k; authority = same_end k }
