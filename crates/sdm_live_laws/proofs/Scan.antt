-- The records of a text with no count that bounds them.
use Rattle.std.proofs.Common.{◌≡◌, ◌<◌, ◌+◌, ◌∙◌, if◌then◌else◌, ℕ, zero, suc, Bool, true, false, List, []}
use Rattle.std.proofs.Common.{◌∷◌, ◌++◌, length, Option, Some, None, refl, sym, ap, arith}
use Rattle.csv.specs.Machine.{Read, next_record, step, is_end, ends_at_end, fields_after, field_after}
use Rattle.csv.specs.Reading.{default_config, records, records_from, records_next}
use Rattle.csv.specs.declared.parser.State.{State}
use Rattle.csv.specs.declared.parser.State.TheVariants as st
use Rattle.sdm_events.proofs.Rest.{Between, next_takes_a_byte}

abbrev pub Fields : Type 0
Fields = List (List ℕ)

unfoldable pub scan : State → Fields → List ℕ → List ℕ → List Fields
scan s f p [] = if ends_at_end s then (f ++ (p ∷ [])) ∷ [] else []
scan s f p (c ∷ rest) =
    if is_end (step default_config s c).1
    then fields_after (step default_config s c).1 f p ∷ scan (step default_config s c).0 [] [] rest
    else scan (step default_config s c).0 (fields_after (step default_config s c).1 f p)
    (field_after (step default_config s c).1 c p) rest

-- from a start of a record
abbrev pub scan_line : List ℕ → List Fields
scan_line text = scan st.StartRecord [] [] text

-- ---- it gives the records

end_next : (b : Bool) (r : Fields) → (if b then r ∷ [] else [])
    ≡ records_next (λ s ys. scan s [] [] ys) (if b then Some (r, st.StartRecord, []) else None)
unfolding scan
end_next true r = refl
end_next false r = refl

byte_next : (b : Bool) (r : Fields) (s : State) (rest : List ℕ) (xs : List Fields) (o : Option Read) →
    xs ≡ records_next (λ s ys. scan s [] [] ys) o →
    (if b then r ∷ scan s [] [] rest else xs)
    ≡ records_next (λ s ys. scan s [] [] ys) (if b then Some (r, s, rest) else o)
byte_next true r s rest xs o h = refl
byte_next false r s rest xs o h = h

scan_next : (bytes : List ℕ) (s : State) (f : Fields) (p : List ℕ) →
    scan s f p bytes ≡ records_next (λ s ys. scan s [] [] ys) (next_record default_config s f p bytes)
unfolding scan next_record
scan_next [] s f p = end_next (ends_at_end s) (f ++ (p ∷ []))
scan_next (c ∷ rest) s f p = byte_next (is_end (step default_config s c).1) _ _ rest _ _ (scan_next rest _ _ _)

same_next : (n : ℕ) (o : Option Read) →
    ((p : Read) → o ≡ Some p → records_from default_config n p.1 p.2 ≡ scan p.1 [] [] p.2) →
    records_next (records_from default_config n) o ≡ records_next (λ s ys. scan s [] [] ys) o
same_next n None h = refl
same_next n (Some p) h = ap (λ more. p.0 ∷ more) (h p refl)

scan_is : (n : ℕ) (s : State) (bytes : List ℕ) → Between s → length bytes < n →
    records_from default_config n s bytes ≡ scan s [] [] bytes
unfolding records_from
scan_is zero s bytes b h = absurd (omega (arith, h))
scan_is (suc n) s bytes b h =
    same_next n (next_record default_config s [] [] bytes)
    (λ p e. let g = next_takes_a_byte s bytes p b e in scan_is n p.1 p.2 g.1 (omega (arith, g.0, h)))
    ∙ sym (scan_next bytes s [] [])

pub records_are : (text : List ℕ) → records default_config text ≡ scan_line text
records_are text = scan_is (length text + 1) st.StartRecord text refl (omega arith)
