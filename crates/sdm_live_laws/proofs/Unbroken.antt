-- Where no field of the records has a byte that ends a line, no line ends within quotes: such a byte would join a field,
-- and what joins a field stays in its record.
use Rattle.std.proofs.Common.{◌≡◌, ◌==◌, ◌||◌, ◌&&◌, if◌then◌else◌, ℕ, Bool, true, false, List, [], ◌∷◌, ◌++◌, refl, sym}
use Rattle.std.proofs.Common.{inl, inr}
use Rattle.std.specs.Prelude.{⊤}
use Rattle.std.specs.List.{AllByRecursion}
use Rattle.std.proofs.lemmas.Bool.{cases_Bool, eqb-true, false≢true}
use Rattle.csv.specs.Machine.{after_end, ends_with, field_after, fields_after, in_field, is_end, start_field}
use Rattle.csv.specs.Machine.{step}
use Rattle.csv.specs.Reading.{default_config}
use Rattle.csv.specs.declared.parser.Action.{Action}
use Rattle.csv.specs.declared.parser.Action.TheVariants as act
use Rattle.csv.specs.declared.parser.State.{State}
use Rattle.csv.specs.declared.parser.State.TheVariants as st
use Rattle.csv.specs.declared.parser.Terminator.TheVariants as term
use Rattle.sdm_live.specs.Progress.{ends_line}
use Rattle.sdm_live_laws.specs.SameRows.{breaks_quotes_from, is_quoted}
use Rattle.sdm_live_laws.proofs.Scan.{Fields, scan}
use Rattle.sdm_live_laws.proofs.Written.{AreUnbroken, IsUnbroken}

-- ---- within a record

-- the parser stands within a record
abbrev Within : State → Type 0
Within st.StartRecord = ⊥
Within st.StartField = ⊤
Within st.InField = ⊤
Within st.InQuoted = ⊤
Within st.AfterQuote = ⊤
Within st.InEscape = ⊤
Within st.InComment = ⊥
Within st.AfterCr = ⊥

abbrev StaysWithin : State × Action → Type 0
StaysWithin x = is_end x.1 ≡ false → Within x.0

either_stays : (b : Bool) (x y : State × Action) → StaysWithin x → StaysWithin y → StaysWithin (if b then x else y)
either_stays true x y p q = p
either_stays false x y p q = q

ends : {P : Type 0} → true ≡ false → P
ends h = absurd (false≢true (sym h))

in_field_stays : (c : ℕ) → StaysWithin (in_field default_config c)
in_field_stays c =
    either_stays (c == 44) _ _ (λ _. tt)
    (either_stays (ends_with term.CRLF c) (after_end term.CRLF c, act.EndRecord) _ ends (λ _. tt))

start_field_stays : (c : ℕ) → StaysWithin (start_field default_config c)
start_field_stays c = either_stays (c == 34) _ _ (λ _. tt) (in_field_stays c)

within_stays : (s : State) (c : ℕ) → Within s → StaysWithin (step default_config s c)
within_stays st.StartRecord c w = absurd w
within_stays st.StartField c w = start_field_stays c
within_stays st.InField c w = in_field_stays c
within_stays st.InQuoted c w = either_stays (c == 34) _ _ (λ _. tt) (λ _. tt)
within_stays st.AfterQuote c w = either_stays (c == 34) _ _ (λ _. tt) (in_field_stays c)
within_stays st.InEscape c w = λ _. tt
within_stays st.InComment c w = absurd w
within_stays st.AfterCr c w = absurd w

-- ---- what the record has was there

front : (xs ys : Fields) → AreUnbroken (xs ++ ys) → AreUnbroken xs
front [] ys h = tt
front (x ∷ xs) ys h = (h.0, front xs ys h.1)

bytes_front : (xs ys : List ℕ) → IsUnbroken (xs ++ ys) → IsUnbroken xs
bytes_front [] ys h = tt
bytes_front (x ∷ xs) ys h = (h.0, bytes_front xs ys h.1)

last_shorter : (f : Fields) (p q : List ℕ) → AreUnbroken (f ++ (p ++ q) ∷ []) → AreUnbroken (f ++ p ∷ [])
last_shorter [] p q h = (bytes_front p q h.0, tt)
last_shorter (x ∷ xs) p q h = (h.0, last_shorter xs p q h.1)

last_byte : (p : List ℕ) (c : ℕ) → IsUnbroken (p ++ c ∷ []) → ends_line c ≡ false
last_byte [] c h = h.0
last_byte (b ∷ bs) c h = last_byte bs c h.1

joined_byte : (f : Fields) (p : List ℕ) (c : ℕ) → AreUnbroken (f ++ (p ++ c ∷ []) ∷ []) → ends_line c ≡ false
joined_byte [] p c h = last_byte p c h.0
joined_byte (x ∷ xs) p c h = joined_byte xs p c h.1

before_end : (a : Action) (f : Fields) (p : List ℕ) → is_end a ≡ true → AreUnbroken (fields_after a f p) →
    AreUnbroken (f ++ p ∷ [])
before_end act.EndRecord f p e h = h
before_end act.Skip f p e h = absurd (false≢true e)
before_end act.Copy f p e h = absurd (false≢true e)
before_end act.EndField f p e h = absurd (false≢true e)

before_byte : (a : Action) (c : ℕ) (f : Fields) (p : List ℕ) → is_end a ≡ false →
    AreUnbroken (fields_after a f p ++ field_after a c p ∷ []) → AreUnbroken (f ++ p ∷ [])
before_byte act.EndRecord c f p e h = absurd (false≢true (sym e))
before_byte act.Skip c f p e h = h
before_byte act.Copy c f p e h = last_shorter f p (c ∷ []) h
before_byte act.EndField c f p e h = front (f ++ p ∷ []) ([] ∷ []) h

-- the first record, if there is one
abbrev FirstUnbroken : List Fields → Type 0
FirstUnbroken [] = ⊤
FirstUnbroken (x ∷ xs) = AreUnbroken x

by_end : {P : Type 0} (b : Bool) (r : Fields) (xs ys : List Fields) → (b ≡ true → AreUnbroken r → P) →
    (b ≡ false → FirstUnbroken ys → P) → FirstUnbroken (if b then r ∷ xs else ys) → P
by_end true r xs ys g h first = g refl first
by_end false r xs ys g h first = h refl first

kept_at_end : (s : State) (f : Fields) (p : List ℕ) → Within s → FirstUnbroken (scan s f p []) →
    AreUnbroken (f ++ p ∷ [])
unfolding scan
kept_at_end st.StartRecord f p w h = absurd w
kept_at_end st.StartField f p w h = h
kept_at_end st.InField f p w h = h
kept_at_end st.InQuoted f p w h = h
kept_at_end st.AfterQuote f p w h = h
kept_at_end st.InEscape f p w h = h
kept_at_end st.InComment f p w h = absurd w
kept_at_end st.AfterCr f p w h = absurd w

kept : (rest : List ℕ) (s : State) (f : Fields) (p : List ℕ) → Within s → FirstUnbroken (scan s f p rest) →
    AreUnbroken (f ++ p ∷ [])
unfolding scan
kept [] s f p w h = kept_at_end s f p w h
kept (c ∷ rest) s f p w h =
    let x = step default_config s c in
    by_end (is_end x.1) _ _ _ (λ e. before_end x.1 f p e)
    (λ e first. before_byte x.1 c f p e
    (kept rest x.0 (fields_after x.1 f p) (field_after x.1 c p) (within_stays s c w e) first)) h

-- ---- a byte that ends a line within quotes

abbrev pub AllUnbroken : List Fields → Type 0
AllUnbroken records = AllByRecursion AreUnbroken records

first_of : (records : List Fields) → AllUnbroken records → FirstUnbroken records
first_of [] h = tt
first_of (x ∷ xs) h = h.0

-- a line feed or a carriage return joins a field in quotes
quoted_end : (c : ℕ) → (c == 34) ≡ false → (f : Fields) (p : List ℕ) (rest : List ℕ) →
    AllUnbroken (scan st.InQuoted f p (c ∷ rest)) → ends_line c ≡ false
unfolding scan
quoted_end c not f p rest h =
    joined_byte f p c (kept rest st.InQuoted f (p ++ c ∷ []) tt (first_of _ (rw not at h)))

escaped_end : (c : ℕ) (f : Fields) (p : List ℕ) (rest : List ℕ) → AllUnbroken (scan st.InEscape f p (c ∷ rest)) →
    ends_line c ≡ false
unfolding scan
escaped_end c f p rest h = joined_byte f p c (kept rest st.InQuoted f (p ++ c ∷ []) tt (first_of _ h))

and_false : (b : Bool) → (b && false) ≡ false
and_false true = refl
and_false false = refl

left_false : (a b : Bool) → a ≡ false → (a && b) ≡ false
left_false a b is = rw is refl

-- a quote ends no line
quote_ends_none : (c : ℕ) → (c == 34) ≡ true → ends_line c ≡ false
quote_ends_none c is = rw (eqb-true c 34 is) refl

no_break : (s : State) (c : ℕ) (f : Fields) (p : List ℕ) (rest : List ℕ) → AllUnbroken (scan s f p (c ∷ rest)) →
    (ends_line c && is_quoted s) ≡ false
no_break st.StartRecord c f p rest h = and_false (ends_line c)
no_break st.StartField c f p rest h = and_false (ends_line c)
no_break st.InField c f p rest h = and_false (ends_line c)
no_break st.InQuoted c f p rest h = elim (cases_Bool (c == 34)) [
  | inl quote ↦ left_false (ends_line c) true (quote_ends_none c quote)
  | inr other ↦ left_false (ends_line c) true (quoted_end c other f p rest h)
]
no_break st.AfterQuote c f p rest h = and_false (ends_line c)
no_break st.InEscape c f p rest h = left_false (ends_line c) true (escaped_end c f p rest h)
no_break st.InComment c f p rest h = and_false (ends_line c)
no_break st.AfterCr c f p rest h = and_false (ends_line c)

either_false : (a b : Bool) → a ≡ false → b ≡ false → (a || b) ≡ false
either_false a b p q = rw (p, q) refl

-- what holds of the rest, by whether the byte ends a record
on_rest : {P : Type 0} (b : Bool) (r : Fields) (xs ys : List Fields) → (AllUnbroken xs → P) → (AllUnbroken ys → P) →
    AllUnbroken (if b then r ∷ xs else ys) → P
on_rest true r xs ys g h all = g all.1
on_rest false r xs ys g h all = h all

pub unbroken : (text : List ℕ) (s : State) (f : Fields) (p : List ℕ) → AllUnbroken (scan s f p text) →
    breaks_quotes_from s text ≡ false
unfolding scan
unbroken [] s f p h = refl
unbroken (c ∷ rest) s f p h =
    let x = step default_config s c in
    either_false (ends_line c && is_quoted s) (breaks_quotes_from x.0 rest) (no_break s c f p rest h)
    (on_rest (is_end x.1) _ _ _ (unbroken rest x.0 [] [])
    (unbroken rest x.0 (fields_after x.1 f p) (field_after x.1 c p)) h)
