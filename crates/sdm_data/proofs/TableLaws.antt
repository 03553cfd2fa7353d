-- What is tested on the keys of a table and on the values of an array holds of the members that they stand for.
use Rattle.std.proofs.Common.{◌≡◌, ℕ, Bool, true, false, not, ◌||◌, ◌&&◌, cond, is_some, List, [], ◌∷◌, map, Bor}
use Rattle.std.proofs.Common.{Option, Some, None, String, Global, string_bytes, refl, ap}
use Rattle.std.specs.List.{list_any, list_all, filter_map}
use Rattle.std.specs.Map.{keys_of as keys_of_entries}
use Rattle.std.specs.Str.{bytes_eq}
use Rattle.toml.specs.Data.{Data, as_array, as_table}
use Rattle.toml.specs.View.{view, members_view, items_view}
use Rattle.toml.specs.declared.value.Value.{Value}
use Rattle.sdm_data.specs.Members.{has_unknown, values_of, all_tables, as_tables}
use Rattle.sdm_data.specs.Views.{tables_in}

-- ---- keys

-- a test of what names point to
list_any-now : (p : List ℕ → Bool) (names : List (Bor (List ℕ))) →
    list_any (λ name. p name.now) names ≡ list_any p (map (λ name. name.now) names)
list_any-now p [] = refl
list_any-now p (name ∷ names) = ap (λ b. p name.now || b) (list_any-now p names)

-- whether some key is none of the names, told of the entries of a table and of its members
pub unknown_keys : (names : List (Bor (List ℕ))) (entries : List (String Global × Value)) →
    list_any (λ key. not (list_any (λ name. bytes_eq (string_bytes key) name.now) names)) (keys_of_entries entries)
    ≡ has_unknown (map (λ name. name.now) names) (members_view entries)
unknown_keys names [] = refl
unknown_keys names (entry ∷ entries) =
    rw (list_any-now (bytes_eq (string_bytes entry.0)) names, unknown_keys names entries) refl

-- ---- arrays

values_of-view : (values : List Value) → values_of (items_view values) ≡ map view values
values_of-view [] = refl
values_of-view (value ∷ values) = ap (λ (more : List Data). view value ∷ more) (values_of-view values)

list_all-view : (p : Data → Bool) (values : List Value) →
    list_all p (map view values) ≡ list_all (λ value. p (view value)) values
list_all-view p [] = refl
list_all-view p (value ∷ values) = ap (λ b. p (view value) && b) (list_all-view p values)

filter_map-view : {A : Type 0} (f : Data → Option A) (values : List Value) →
    filter_map f (map view values) ≡ filter_map (λ value. f (view value)) values
filter_map-view f [] = refl
filter_map-view f (value ∷ values) = rw (filter_map-view f values) refl

-- an array is read as its tables where all its values are tables, else as none
tables_by : (values : List Value) (b : Bool) → list_all (λ value. is_some (as_table (view value))) values ≡ b →
    all_tables (values_of (items_view values)) ≡ cond b (Some (tables_in values)) None
tables_by values b is = rw (
  values_of-view values,
  list_all-view (λ d. is_some (as_table d)) values,
  is,
  filter_map-view as_table values,
) refl

-- where all are tables
pub all_are_tables : (d : Data) (values : List Value) → as_array d ≡ Some (items_view values) →
    list_all (λ value. is_some (as_table (view value))) values ≡ true → as_tables d ≡ Some (tables_in values)
all_are_tables d values array are = rw array (tables_by values true are)

-- where one is none
pub some_is_no_table : (d : Data) (values : List Value) → as_array d ≡ Some (items_view values) →
    list_all (λ value. is_some (as_table (view value))) values ≡ false → as_tables d ≡ None
some_is_no_table d values array are = rw array (tables_by values false are)
