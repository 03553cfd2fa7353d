-- The keys of the first version, and of the two kinds of authority, are some of those that a section has.
use Rattle.std.proofs.Common.{◌≡◌, ℕ, List, [], ◌∷◌, length, get_or, take, map, Bor, refl, ap, sym, ◌∙◌}
use Rattle.std.proofs.Math.ListN.{get_or-map}
use Rattle.std.proofs.lemmas.List.{length-map, take-map}
use Rattle.sdm_rules.specs.declared.faults.Section.{Section}
use Rattle.sdm_rules.specs.declared.faults.Section.TheVariants.{Band, Track, Authority}
use Rattle.sdm_formats.specs.FaultLines.{key_names}
use Rattle.sdm_data.specs.Versions.{end_keys, limit_keys}

-- as many names as keys
pub count_of_keys : (names : List (Bor (List ℕ))) (section : Section) → map (λ name. name.now) names
    ≡ key_names section → length names ≡ length (key_names section)
count_of_keys names section are = sym (length-map names (λ name. name.now)) ∙ ap length are

pub nine_keys : (names : List (Bor (List ℕ))) → map (λ name. name.now) names ≡ key_names Band → length names ≡ 9
unfolding key_names
nine_keys names are = count_of_keys names Band are

pub five_keys : (names : List (Bor (List ℕ))) → map (λ name. name.now) names ≡ key_names Track → length names ≡ 5
unfolding key_names
five_keys names are = count_of_keys names Track are

pub six_keys : (names : List (Bor (List ℕ))) → map (λ name. name.now) names ≡ key_names Authority → length names ≡ 6
unfolding key_names
six_keys names are = count_of_keys names Authority are

-- the keys from the first on
pub first_keys : (names : List (Bor (List ℕ))) (section : Section) (n : ℕ) → map (λ name. name.now) names
    ≡ key_names section → map (λ name. name.now) (take n names) ≡ take n (key_names section)
first_keys names section n are = sym (take-map (λ name. name.now) n names) ∙ ap (take n) are

-- the first four keys of an authority are those of an end
pub end_keys_are : (names : List (Bor (List ℕ))) → map (λ name. name.now) names ≡ key_names Authority →
    map (λ name. name.now) (take 4 names) ≡ end_keys
end_keys_are names are = first_keys names Authority 4 are

-- a name behind a reference
name_at : (names : List (Bor (List ℕ))) (i : ℕ) (d : Bor (List ℕ)) →
    map (λ name. name.now) names ≡ key_names Authority → (get_or names i d).now ≡ get_or (key_names Authority) i d.now
name_at names i d are = sym (get_or-map (λ name. name.now) names i d) ∙ ap (λ all. get_or all i d.now) are

-- the first key and those from the fifth on
pub limit_keys_are : (names : List (Bor (List ℕ))) (d : Bor (List ℕ)) → map (λ name. name.now) names
    ≡ key_names Authority → (get_or names 0 d).now ∷ (get_or names 4 d).now ∷ (get_or names 5 d).now ∷ [] ≡ limit_keys
unfolding key_names
limit_keys_are names d are = rw (name_at names 0 d are, name_at names 4 d are, name_at names 5 d are) refl

-- how many keys a section has, and which come first
pub ruleset sizes = (nine_keys, five_keys, first_keys)
