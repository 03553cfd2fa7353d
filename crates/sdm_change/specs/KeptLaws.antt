-- What two supervisors that command the same keep over a change of data, as statements (own).
use Rattle.std.specs.Prelude.{◌≡◌, Ok}
use Rattle.sdm_rules.specs.declared.records.Event.{Event}
use Rattle.sdm_rules.specs.Records.{step}
use Rattle.sdm_rules.specs.Supervision.{Supervision}
use Rattle.sdm_rules.specs.TakeOver.{renewed}

-- two states have the same of what is kept over a change of data (own)
pub record IsSameKept (s t : Supervision) : Type 0 where
  pub restrictions : s.restrictions ≡ t.restrictions
  pub last_time : s.last_time ≡ t.last_time
  pub commands : s.commands ≡ t.commands

-- a record that both accept, and after which both command the same, keeps that: whatever their data and authorities
abbrev pub LawOfKept : Type 0
LawOfKept = (s t s' t' : Supervision) (e : Event) → IsSameKept s t → step s e ≡ Ok s' → step t e ≡ Ok t' →
    s'.commands ≡ t'.commands → IsSameKept s' t'

-- and then the one that changes to the data and the authority of the other is the other: its rows are those of a
-- supervisor that had had them from the beginning
abbrev pub LawOfRenewal : Type 0
LawOfRenewal = (s t : Supervision) → IsSameKept s t → renewed s t.train_and_track t.authority ≡ t
