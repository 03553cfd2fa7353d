-- A section of the data part: what a key of it holds, or the rule that is broken there (own).
use Rattle.std.specs.Prelude.{ℕ, suc, ◌-◌, ◌^◌, min, ℤ, pos, unsigned_abs, Bool, not, is_some, if◌then◌else◌, List, []}
use Rattle.std.specs.Prelude.{◌∷◌, Option, Some, None, Result, Ok, Err, option_and_then}
use Rattle.std.specs.List.{list_any, list_all, filter_map}
use Rattle.std.specs.Str.{bytes_eq}
use Rattle.toml.specs.Data.{Data, Items, no_items, item, Members, no_members, member, get_member, as_array, as_integer}
use Rattle.toml.specs.Data.{as_table}
use Rattle.sdm_rules.specs.declared.faults.Section.{Section}
use Rattle.sdm_rules.specs.Ranges.{is_within}
use Rattle.sdm_formats.specs.declared.faults.At.{At}
use Rattle.sdm_formats.specs.declared.faults.DataFault.{DataFault}
use Rattle.sdm_formats.specs.declared.faults.DataFault.TheVariants.{Missing, UnknownKey, WrongKind, Value}
use Rattle.sdm_formats.specs.FaultLines.{key_name}

-- a table of the document as a section of the data part; `index` counts from 1 in a list and is 0 elsewhere
pub record SectionMembers : Type 0 where
  pub section : Section
  pub index : ℕ
  pub members : Members

-- the members of a table as a section
abbrev pub section_of : Section → ℕ → Members → SectionMembers
section_of section index members = record { section = section; index = index; members = members }

-- where a key of a section stands
abbrev pub at : SectionMembers → ℕ → At
at s key = record { section = s.section; index = s.index; key = key }

-- ---- rules one after the other

infixl 10 ◌>>=◌
-- what follows, where no rule was broken so far
abbrev pub ◌>>=◌ : {A B : Type 0} → Result A DataFault → (A → Result B DataFault) → Result B DataFault
(Ok x) >>= rest = rest x
(Err fault) >>= rest = Err fault

-- a value, or the fault where there is none
abbrev pub or_fault : {A : Type 0} → DataFault → Option A → Result A DataFault
or_fault fault None = Err fault
or_fault fault (Some x) = Ok x

-- ---- keys

-- the keys of a table
abbrev pub keys_of : Members → List (List ℕ)
keys_of no_members = []
keys_of (member key value more) = key ∷ keys_of more

-- some key is none of these names
abbrev pub has_unknown : List (List ℕ) → Members → Bool
has_unknown names members = list_any (λ key. not (list_any (bytes_eq key) names)) (keys_of members)

-- UnknownKey where a section has another key than these
unfoldable pub known : SectionMembers → List (List ℕ) → Result (Unit {0}) DataFault
known s names = if has_unknown names s.members then Err (UnknownKey s.section s.index) else Ok tt

-- what the key of a number holds, if it is there
abbrev pub found : SectionMembers → ℕ → Option Data
found s key = option_and_then (λ name. get_member name s.members) (key_name s.section key)

-- ---- kinds of values

-- what a key holds, as a value of a kind; WrongKind where it is of another
abbrev pub of_kind : {A : Type 0} → (Data → Option A) → SectionMembers → ℕ → Data → Result A DataFault
of_kind kind s key value = or_fault (WrongKind (at s key)) (kind value)

-- what a key holds: Missing where it is not there, WrongKind where it holds a value of another kind
unfoldable pub required : {A : Type 0} → (Data → Option A) → SectionMembers → ℕ → Result A DataFault
required kind s key = or_fault (Missing (at s key)) (found s key) >>= of_kind kind s key

-- what is read of a key that may be absent
abbrev pub if_there : {A : Type 0} → (Data → Result A DataFault) → Option Data → Result (Option A) DataFault
if_there read None = Ok None
if_there read (Some value) = read value >>= λ x. Ok (Some x)

-- what a key holds, if it is there: WrongKind where it holds a value of another kind
unfoldable pub optional : {A : Type 0} → (Data → Option A) → SectionMembers → ℕ → Result (Option A) DataFault
optional kind s key = if_there (of_kind kind s key) (found s key)

-- a number of a key, from `least` to `greatest`; else Value
abbrev pub within : SectionMembers → ℕ → ℕ → ℕ → ℤ → Result ℕ DataFault
within s key least greatest n =
    if is_within (pos least) (pos greatest) n then Ok (unsigned_abs n) else Err (Value (at s key))

-- the number, from `least` to `greatest`, that a key must hold: Missing, WrongKind, Value
unfoldable pub number : SectionMembers → ℕ → ℕ → ℕ → Result ℕ DataFault
number s key least greatest = required as_integer s key >>= within s key least greatest

-- ---- arrays of tables

-- the values of an array
abbrev pub values_of : Items → List Data
values_of no_items = []
values_of (item value more) = value ∷ values_of more

-- values that are all tables, as these
abbrev pub all_tables : List Data → Option (List Members)
all_tables values =
    if list_all (λ value. is_some (as_table value)) values then Some (filter_map as_table values) else None

-- an array that holds nothing but tables, as these
abbrev pub as_tables : Data → Option (List Members)
as_tables value = option_and_then (λ items. all_tables (values_of items)) (as_array value)

-- the index after this one, up to the greatest that a fault can name
abbrev pub after : ℕ → ℕ
after index = min (suc index) (2 ^ 32 - 1)

-- The entries of a list of tables, of which the first has this index: each as `read` defines it, or the first rule
-- that one of them breaks.
abbrev pub entries_from : {A : Type 0} → (ℕ → Members → Result A DataFault) → ℕ → List Members →
    Result (List A) DataFault
entries_from read index [] = Ok []
entries_from read index (table ∷ more) = do
  entry ← read index table
  others ← entries_from read (after index) more
  Ok (entry ∷ others)
