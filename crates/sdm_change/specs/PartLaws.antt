-- The laws of changes of data, as statements (own).
use Rattle.std.specs.Prelude.{◌≡◌, ℕ, Bool, List, All, IfOk, Result}
use Rattle.sdm_rules.specs.declared.records.Event.{Event}
use Rattle.sdm_rules.specs.declared.faults.EventFault.{EventFault}
use Rattle.sdm_rules.specs.Supervision.{Supervision}
use Rattle.sdm_rules.specs.Machines.{InOrder}
use Rattle.sdm_rules.specs.Opening.{IsOpen}
use Rattle.sdm_rules.specs.Headline.{AreTurnsSafe}
use Rattle.sdm_rules.specs.TakeOver.{change, taken_over}
use Rattle.sdm_change.specs.Parts.{Part, parts_from, records_then}

-- a state is open, and the commands of the exact machine, its own and those of the early machine are in order (own)
pub record IsReady (must may : Bool) (s : Supervision) : Type 0 where
  pub is_open : IsOpen s
  pub order : InOrder must s.commands.eb may

-- a change of data leads from a state that is ready to one that is, with the same commands of the two other machines
-- (own)
abbrev pub LawOfChange : Type 0
LawOfChange = (next before : Supervision) (must may : Bool) → IsOpen next → IsReady must may before →
    IfOk (change next before) (IsReady must may)

-- the data of a part are accepted (own)
abbrev pub IsPartOpen : {A : Type 0} → Part A → Type 0
IsPartOpen p = IsOpen p.opened

-- THE HEADLINE over several data parts: from an accepted supervision state on, in which the three commands stand in
-- order, each turn is safe, over every change of data: what the exact and the early machine hold is carried over it
-- (own)
abbrev pub LawOfParts : Type 0 → Type 0
LawOfParts Record =
    (form : ℕ → Record → Result Event EventFault) (first : List Record) (parts : List (Part Record)) (n : ℕ)
    (s : Supervision) (must may : Bool) → IsReady must may s → All IsPartOpen parts →
    AreTurnsSafe must may (records_then form (λ m t. parts_from form parts m t) n s first).turns

-- over the same data and authority a change of data is none (own)
abbrev pub LawOfSameData : Type 0
LawOfSameData = (next before : Supervision) → next.train_and_track ≡ before.train_and_track →
    next.authority ≡ before.authority → taken_over next before ≡ before
