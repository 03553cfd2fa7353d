-- The path of a key by its name, and how long the names are.
use Rattle.std.proofs.Common.{◌≡◌, ◌≢◌, ℕ, zero, suc, ◌≤◌, Bool, true, nat_le, List, [], ◌∷◌, ◌++◌, Some, None, codes}
use Rattle.std.proofs.Common.{length, refl, arith}
use Rattle.std.specs.List.{list_all, slice_get}
use Rattle.std.proofs.lemmas.Bool.Decides.{nat_tests}
use Rattle.sdm_rules.specs.declared.faults.Section.{Section}
use Rattle.sdm_rules.specs.declared.faults.Section.TheVariants as sections
use Rattle.sdm_formats.specs.FaultLines.{key_name, key_names, key_path, section_path}

-- a number that names no key leaves the section's path
pub key_path_without_name : (section : Section) (index key : ℕ) → key_name section key ≡ None →
    key_path section index key ≡ section_path section index
unfolding key_path section_path
key_path_without_name sections.Root index key is = rw is refl
key_path_without_name sections.Train index key is = rw is refl
key_path_without_name sections.Band index key is = rw is refl
key_path_without_name sections.National index key is = rw is refl
key_path_without_name sections.Track index key is = rw is refl
key_path_without_name sections.Gradient index key is = rw is refl
key_path_without_name sections.Speed index key is = rw is refl
key_path_without_name sections.Adhesion index key is = rw is refl
key_path_without_name sections.NoSpecial index key is = rw is refl
key_path_without_name sections.Authority index key is = rw is refl

-- a key of root is its name alone
pub key_path_of_root : (section : Section) (index key : ℕ) (name : List ℕ) → section ≡ sections.Root →
    key_name section key ≡ Some name → key_path section index key ≡ name
unfolding key_path
key_path_of_root sections.Root index key name root is = rw is refl
key_path_of_root sections.Train index key name root is = cc
key_path_of_root sections.Band index key name root is = cc
key_path_of_root sections.National index key name root is = cc
key_path_of_root sections.Track index key name root is = cc
key_path_of_root sections.Gradient index key name root is = cc
key_path_of_root sections.Speed index key name root is = cc
key_path_of_root sections.Adhesion index key name root is = cc
key_path_of_root sections.NoSpecial index key name root is = cc
key_path_of_root sections.Authority index key name root is = cc

-- any other key stands below its section
pub key_path_below : (section : Section) (index key : ℕ) (name : List ℕ) → section ≢ sections.Root →
    key_name section key ≡ Some name → key_path section index key ≡ section_path section index ++ codes "." ++ name
unfolding key_path
key_path_below sections.Root index key name below is = absurd (below refl)
key_path_below sections.Train index key name below is = rw is refl
key_path_below sections.Band index key name below is = rw is refl
key_path_below sections.National index key name below is = rw is refl
key_path_below sections.Track index key name below is = rw is refl
key_path_below sections.Gradient index key name below is = rw is refl
key_path_below sections.Speed index key name below is = rw is refl
key_path_below sections.Adhesion index key name below is = rw is refl
key_path_below sections.NoSpecial index key name below is = rw is refl
key_path_below sections.Authority index key name below is = rw is refl

-- ---- lengths

-- a name of at most 25 bytes
abbrev is_short : List ℕ → Bool
is_short name = nat_le (length name) 25

-- all names of keys are short
all_short : (section : Section) → list_all is_short (key_names section) ≡ true
unfolding key_names
all_short sections.Root = refl
all_short sections.Train = refl
all_short sections.Band = refl
all_short sections.National = refl
all_short sections.Track = refl
all_short sections.Gradient = refl
all_short sections.Speed = refl
all_short sections.Adhesion = refl
all_short sections.NoSpecial = refl
all_short sections.Authority = refl

-- so each one is
one_of_short : (names : List (List ℕ)) (i : ℕ) (name : List ℕ) → list_all is_short names ≡ true →
    slice_get names i ≡ Some name → length name ≤ 25
one_of_short [] i name all is = cc
one_of_short (x ∷ xs) zero name all is = grind (arith, nat_tests)
one_of_short (x ∷ xs) (suc i) name all is = let rest : list_all is_short xs ≡ true =
    grind arith in one_of_short xs i name rest is

-- no name has more than 25 bytes
pub name_is_short : (section : Section) (key : ℕ) (name : List ℕ) → key_name section key ≡ Some name → length name ≤ 25
name_is_short section zero name is = cc
name_is_short section (suc i) name is = one_of_short (key_names section) i name (all_short section) is

-- the path of a key, whichever section it is in, and how long its name may be
pub ruleset paths = (key_path_without_name, key_path_of_root, key_path_below, name_is_short)
