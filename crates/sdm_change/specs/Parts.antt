-- Journeys over several data parts: records, and then a supervisor that was opened over further data takes over (own).
use Rattle.std.specs.Prelude.{ℕ, suc, List, [], ◌∷◌, Option, Some, None, Result, Ok, Err}
use Rattle.sdm_rules.specs.declared.records.Event.{Event}
use Rattle.sdm_rules.specs.declared.faults.EventFault.{EventFault}
use Rattle.sdm_rules.specs.declared.faults.EventCause.{EventCause}
use Rattle.sdm_rules.specs.declared.faults.TakeOverFault.{TakeOverFault}
use Rattle.sdm_rules.specs.Supervision.{Supervision}
use Rattle.sdm_rules.specs.Records.{Turn, turn_of}
use Rattle.sdm_rules.specs.TakeOver.{change}
use Rattle.sdm_change.specs.declared.refusals.Refusal.{Refusal}
use Rattle.sdm_change.specs.declared.refusals.Refusal.TheVariants as refusals

-- a data part: the supervision state that was opened over it, and the records after it has taken over (own)
pub record Part (A : Type 0) : Type 0 where
  pub opened : Supervision
  pub records : List A

-- a journey over data parts: its turns up to the first record or change of data that is refused, and that refusal with
-- the number of the record, or of the one that would come next (own)
pub record LongJourney : Type 0 where
  pub turns : List Turn
  pub refused : Option (ℕ × Refusal)

-- nothing more (own)
abbrev pub no_more : LongJourney
no_more = record { turns = []; refused = None }

-- the journey from a turn on: the rest follows only where the record is accepted (own)
abbrev pub after_turn : ℕ → Result Turn EventCause → (Supervision → LongJourney) → LongJourney
after_turn n (Ok t) rest = let later = rest t.after in record { turns = t ∷ later.turns; refused = later.refused }
after_turn n (Err cause) rest = record { turns = []; refused = Some (n, refusals.Record cause) }

-- the journey from a change of data on (own)
abbrev pub after_change : ℕ → Result Supervision TakeOverFault → (Supervision → LongJourney) → LongJourney
after_change n (Ok s) rest = rest s
after_change n (Err fault) rest = record { turns = []; refused = Some (n, refusals.Change fault) }

-- the journey of records, of which the first has the number `n`, and of what follows where all are accepted (own)
abbrev pub records_then : {A : Type 0} → (ℕ → A → Result Event EventFault) → (ℕ → Supervision → LongJourney) → ℕ →
    Supervision → List A → LongJourney
records_then form rest n s [] = rest n s
records_then form rest n s (x ∷ xs) = after_turn n (turn_of s (form n x)) (λ t. records_then form rest (suc n) t xs)

-- the journey of data parts from a state on; the numbers of records go on over them (own)
abbrev pub parts_from : {A : Type 0} → (ℕ → A → Result Event EventFault) → List (Part A) → ℕ → Supervision → LongJourney
parts_from form [] n s = no_more
parts_from form (p ∷ ps) n s =
    after_change n (change p.opened s) (λ t. records_then form (λ m u. parts_from form ps m u) n t p.records)
