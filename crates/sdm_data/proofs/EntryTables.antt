-- The tables so far, and then those of the entries that are left, are the tables of all entries.
use Rattle.std.proofs.Common.{◌≡◌, ℕ, ◌+◌, ◌<◌, List, [], ◌∷◌, ◌++◌, map, length, get_or, drop, refl, ap, sym, ◌∙◌}
use Rattle.std.proofs.lemmas.List.{drop_more}
use Rattle.toml.specs.Data.{Data, Members, table}
use Rattle.toml.specs.View.{view}
use Rattle.toml.specs.declared.value.Value.{Value}

-- the tables of entries
abbrev pub tables_of : {A : Type 0} → (A → Members) → List A → List Data
tables_of written entries = map table (map written entries)

-- one more at the end, before those that follow
moved : (done : List Value) (value : Value) (more : List Data) →
    map view (done ++ value ∷ []) ++ more ≡ map view done ++ view value ∷ more
moved [] value more = refl
moved (first ∷ done) value more = ap (λ (values : List Data). view first ∷ values) (moved done value more)

-- with the table of the next entry behind those so far, one entry less is left
pub one_more : {A : Type 0} (written : A → Members) (done : List Value) (value : Value) (entries : List A) (i : ℕ)
    (d : A) (all : List Data) → map view done ++ tables_of written (drop i entries) ≡ all → i < length entries →
    view value ≡ table (written (get_or entries i d)) →
    map view (done ++ value ∷ []) ++ tables_of written (drop (i + 1) entries) ≡ all
one_more written done value entries i d all so_far inside is =
    moved done value (tables_of written (drop (i + 1) entries))
    ∙ ap (λ v. map view done ++ v ∷ tables_of written (drop (i + 1) entries)) is
    ∙ ap (λ left. map view done ++ tables_of written left) (sym (drop_more entries i d inside)) ∙ so_far
