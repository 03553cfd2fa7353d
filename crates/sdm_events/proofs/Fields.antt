-- The fields of a record by their indices: what a look-up finds, and the list of all that follow an index.
use Rattle.std.proofs.Common.{◌≡◌, ◌≢◌, ◌<◌, ◌∙◌, ℕ, Bool, false, List, [], ◌∷◌, length, drop, Option, Some, None, Bor}
use Rattle.std.proofs.Common.{IsSome, option_map, get_or, refl, sym, ap, arith}
use Rattle.std.specs.Bool.{one_answer}
use Rattle.std.specs.Option.{MatchOption, option_eq}
use Rattle.std.specs.Array.{IsWholeChunk}
use Rattle.std.specs.Str.{bytes_eq}
use Rattle.std.proofs.lemmas.Bool.{false≢true}
use Rattle.std.proofs.lemmas.List.{drop_all, drop_more}
use Rattle.std.proofs.lemmas.Slice.Eq.{bytes_eq-Decides}
use Rattle.csv.specs.Records.{field_at}
use Rattle.csv.proofs.RecordFacts.{field-get, field-there}

-- a look-up within the record finds a field
pub field_found : (fields : List (List ℕ)) (i : ℕ) (o : Option (Bor (List ℕ))) →
    option_map (λ s. s.now) o ≡ field_at fields i → i < length fields → IsSome o
field_found fields i None is within = absurd (field-there fields i within (sym is))
field_found fields i (Some f) is within = refl

-- and what it finds is that field
pub field_is : (fields : List (List ℕ)) (i : ℕ) (o : Option (Bor (List ℕ))) (f : Bor (List ℕ)) →
    option_map (λ s. s.now) o ≡ field_at fields i → o ≡ Some f → f.now ≡ get_or fields i []
field_is fields i None f is found = cc found
field_is fields i (Some g) f is found = cc (field-get fields i g.now (sym is))

-- a record that has a first field is that field and those after it
pub first_field : (fields : List (List ℕ)) (o : Option (Bor (List ℕ))) (f : Bor (List ℕ)) →
    option_map (λ s. s.now) o ≡ field_at fields 0 → o ≡ Some f → fields ≡ f.now ∷ drop 1 fields
unfolding field_at
first_field [] o f is found = cc (rw found at is)
first_field (k ∷ more) o f is found = cc (rw found at is)

-- a record without a first field has no fields
pub no_fields : (fields : List (List ℕ)) (o : Option (Bor (List ℕ))) → option_map (λ s. s.now) o ≡ field_at fields 0 →
    o ≡ None → fields ≡ []
unfolding field_at
no_fields [] o is none = refl
no_fields (k ∷ more) o is none = cc (rw none at is)

-- the fields after the first, of eight
pub seven_columns : (fields : List (List ℕ)) → length fields ≡ 8 →
    drop 1 fields ≡ get_or fields 1 [] ∷ get_or fields 2 [] ∷ get_or fields 3 [] ∷ get_or fields 4 [] ∷ get_or fields 5 []
    ∷ get_or fields 6 [] ∷ get_or fields 7 [] ∷ []
seven_columns fields is =
    drop_more fields 1 [] (omega (arith, is))
    ∙ ap (λ t. get_or fields 1 [] ∷ t) (drop_more fields 2 [] (omega (arith, is))
    ∙ ap (λ t. get_or fields 2 [] ∷ t) (drop_more fields 3 [] (omega (arith, is))
    ∙ ap (λ t. get_or fields 3 [] ∷ t) (drop_more fields 4 [] (omega (arith, is))
    ∙ ap (λ t. get_or fields 4 [] ∷ t) (drop_more fields 5 [] (omega (arith, is))
    ∙ ap (λ t. get_or fields 5 [] ∷ t) (drop_more fields 6 [] (omega (arith, is))
    ∙ ap (λ t. get_or fields 6 [] ∷ t) (drop_more fields 7 [] (omega (arith, is))
    ∙ ap (λ t. get_or fields 7 [] ∷ t) (drop_all 8 fields (omega (arith, is)))))))))

-- ---- whether a field is a text

-- a field of another length is another text
other_length : (s p : List ℕ) → length s ≢ length p → false ≡ bytes_eq s p
other_length s p other = one_answer false (bytes_eq s p)
    ((λ no. absurd (false≢true no)), (λ same. absurd (other (ap length same)))) (bytes_eq-Decides s p)

-- a field that is asked for as an array of a text's length is that text where the array is
pub as_text : (s : List ℕ) (p : Bor (List ℕ)) (n : ℕ) (o : Option (Bor (List ℕ))) (r : Bool) → n ≡ length p.now →
    MatchOption o (length s ≢ n) (λ a. IsWholeChunk s a.now n) →
    r ≡ option_eq (λ a b. bytes_eq a.now b.now) o (Some p) → r ≡ bytes_eq s p.now
as_text s p n None r long other is = is ∙ other_length s p.now (λ same. other (same ∙ sym long))
as_text s p n (Some a) r long whole is = is ∙ ap (λ t. bytes_eq t p.now) whole.same
