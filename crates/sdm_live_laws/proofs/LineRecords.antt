-- `csv` reads a text as lines are divided: at each byte it stands where the dividing of the line stands, and a line
-- that ends outside quotes ends a record.
use Rattle.std.proofs.Common.{◌≡◌, ◌∙◌, ◌==◌, ◌||◌, ◌&&◌, if◌then◌else◌, ℕ, Bool, true, false, List, [], ◌∷◌, ◌++◌, map}
use Rattle.std.proofs.Common.{refl, sym, ap, subst, inl, inr}
use Rattle.std.proofs.lemmas.Bool.{cases_Bool, eqb-true, false≢true}
use Rattle.csv.specs.Machine.{step, is_end, ends_with, in_field, start_field, start_record, after_end}
use Rattle.csv.specs.Machine.{fields_after, field_after}
use Rattle.csv.specs.Reading.{default_config, strip_bom}
use Rattle.csv.specs.declared.parser.Action.{Action}
use Rattle.csv.specs.declared.parser.Action.TheVariants as act
use Rattle.csv.specs.declared.parser.State.{State}
use Rattle.csv.specs.declared.parser.State.TheVariants as st
use Rattle.csv.specs.declared.parser.Terminator.TheVariants as term
use Rattle.sdm_live.specs.ByLines.{begun, lines_after}
use Rattle.sdm_live.specs.Progress.{ends_line}
use Rattle.sdm_live_records.specs.Fields.{Split, fields_at_end, nothing_split, split_byte, split_bytes}
use Rattle.sdm_live_records.specs.Fields.{split_fields}
use Rattle.sdm_live_records.specs.declared.line_fields.Within.{Within}
use Rattle.sdm_live_records.specs.declared.line_fields.Within.TheVariants as within
use Rattle.sdm_live_laws.specs.SameRows.{LawOfLineRecords, breaks_quotes_from, is_quoted}
use Rattle.sdm_live_laws.proofs.Scan.{Fields, records_are, scan}

-- where the dividing of a line stands, by its fields, the field at hand, and what it is within
abbrev split_at : Fields → List ℕ → Within → Split
split_at f p w = record { fields = f; field = p; within = w }

-- a line that has begun, whose dividing stands so
record IsDivided (line : List ℕ) (q : Split) : Type 0 where
  first : ℕ
  rest : List ℕ
  line_is : line ≡ first ∷ rest
  split_is : split_bytes nothing_split line ≡ q

-- between two records nothing of a line has come
record IsBetween (f : Fields) (p line : List ℕ) : Type 0 where
  no_fields : f ≡ []
  no_field : p ≡ []
  no_line : line ≡ []

-- `csv` stands where the dividing of the line stands
abbrev Stands : State → Fields → List ℕ → List ℕ → Type 0
Stands st.StartRecord f p line = IsBetween f p line
Stands st.StartField f p line = IsDivided line (split_at f p within.Start)
Stands st.InField f p line = IsDivided line (split_at f p within.Plain)
Stands st.InQuoted f p line = IsDivided line (split_at f p within.Quotes)
Stands st.AfterQuote f p line = IsDivided line (split_at f p within.AfterQuote)
Stands st.InEscape f p line = ⊥
Stands st.InComment f p line = ⊥
Stands st.AfterCr f p line = IsBetween f p line

nothing : IsBetween [] [] []
nothing = record { no_fields = refl; no_field = refl; no_line = refl }

-- ---- a byte that ends no line

split_more : (q : Split) (line : List ℕ) (c : ℕ) → split_bytes q (line ++ c ∷ []) ≡ split_byte (split_bytes q line) c
split_more q [] c = refl
split_more q (b ∷ bs) c = split_more (split_byte q b) bs c

more_is : (first : ℕ) (rest : List ℕ) (c : ℕ) → (first ∷ rest) ++ c ∷ [] ≡ first ∷ (rest ++ c ∷ [])
more_is first rest c = refl

-- one more byte of a line that has begun
divided_more : (line : List ℕ) (q : Split) (c : ℕ) → IsDivided line q → IsDivided (line ++ c ∷ []) (split_byte q c)
divided_more line q c d = record {
  first = d.first;
  rest = d.rest ++ c ∷ [];
  line_is = ap (λ l. l ++ c ∷ []) d.line_is;
  split_is = split_more nothing_split line c ∙ ap (λ q. split_byte q c) d.split_is;
}

-- the first byte of a line
divided_first : (c : ℕ) (f : Fields) (p line : List ℕ) → IsBetween f p line →
    IsDivided (line ++ c ∷ []) (split_byte (split_at f p within.Start) c)
divided_first c f p line b = rw (b.no_fields, b.no_field, b.no_line) (record {
  first = c;
  rest = [];
  line_is = refl;
  split_is = refl;
})

-- `csv` stands after a step where the dividing of the line stands after the byte
abbrev StandsAfter : ℕ → Fields → List ℕ → List ℕ → State × Action → Type 0
StandsAfter c f p line x = Stands x.0 (fields_after x.1 f p) (field_after x.1 c p) line

-- within a field: a comma or another byte
plain_stands : (c : ℕ) (f : Fields) (p line : List ℕ) (b : Bool) →
    IsDivided line (if b then split_at (f ++ p ∷ []) [] within.Start else split_at f (p ++ c ∷ []) within.Plain) →
    StandsAfter c f p line (if b then (st.StartField, act.EndField) else (st.InField, act.Copy))
plain_stands c f p line true d = d
plain_stands c f p line false d = d

-- the end of a record is none of these
module _ (c : ℕ) where
  abbrev comma_or : State × Action → Bool → State × Action
  comma_or x b = if b then (st.StartField, act.EndField) else x

  abbrev end_or : Bool → State × Action
  end_or b = if b then (after_end term.CRLF c, act.EndRecord) else (st.InField, act.Copy)

  no_record_end : (b : Bool) → ends_with term.CRLF c ≡ false →
      comma_or (end_or (ends_with term.CRLF c)) b ≡ comma_or (st.InField, act.Copy) b
  no_record_end b not = ap (λ e. comma_or (end_or e) b) not

in_field_stands : (c : ℕ) (f : Fields) (p line : List ℕ) → ends_with term.CRLF c ≡ false →
    IsDivided line
    (if c == 44 then split_at (f ++ p ∷ []) [] within.Start else split_at f (p ++ c ∷ []) within.Plain) →
    StandsAfter c f p line (in_field default_config c)
in_field_stands c f p line not d =
    subst (StandsAfter c f p line) (sym (no_record_end c (c == 44) not)) (plain_stands c f p line (c == 44) d)

-- at the start of a field a quote, or a byte within a field
start_stands : (c : ℕ) (f : Fields) (p line : List ℕ) (b : Bool) (x : State × Action) (q : Split) →
    (IsDivided line q → StandsAfter c f p line x) →
    IsDivided line (if b then split_at f p within.Quotes else q) →
    StandsAfter c f p line (if b then (st.InQuoted, act.Skip) else x)
start_stands c f p line true x q h d = d
start_stands c f p line false x q h d = h d

start_field_stands : (c : ℕ) (f : Fields) (p line : List ℕ) → ends_with term.CRLF c ≡ false →
    IsDivided line (split_byte (split_at f p within.Start) c) →
    StandsAfter c f p line (start_field default_config c)
start_field_stands c f p line not d =
    start_stands c f p line (c == 34) (in_field default_config c) _ (in_field_stands c f p line not) d

abbrev skip_or : State × Action → Bool → State × Action
skip_or x b = if b then (st.StartRecord, act.Skip) else x

start_record_is : (c : ℕ) → ends_with term.CRLF c ≡ false →
    start_record default_config c ≡ start_field default_config c
start_record_is c not = ap (skip_or (start_field default_config c)) not

start_record_stands : (c : ℕ) (f : Fields) (p line : List ℕ) → ends_with term.CRLF c ≡ false →
    IsDivided line (split_byte (split_at f p within.Start) c) →
    StandsAfter c f p line (start_record default_config c)
start_record_stands c f p line not d =
    subst (StandsAfter c f p line) (sym (start_record_is c not)) (start_field_stands c f p line not d)

-- within quotes
quoted_stands : (c : ℕ) (f : Fields) (p line : List ℕ) (b : Bool) →
    IsDivided line (if b then split_at f p within.AfterQuote else split_at f (p ++ c ∷ []) within.Quotes) →
    StandsAfter c f p line (if b then (st.AfterQuote, act.Skip) else (st.InQuoted, act.Copy))
quoted_stands c f p line true d = d
quoted_stands c f p line false d = d

-- after a quote
after_quote_stands : (c : ℕ) (f : Fields) (p line : List ℕ) (b : Bool) (x : State × Action) (q : Split) →
    (IsDivided line q → StandsAfter c f p line x) →
    IsDivided line (if b then split_at f (p ++ c ∷ []) within.Quotes else q) →
    StandsAfter c f p line (if b then (st.InQuoted, act.Copy) else x)
after_quote_stands c f p line true x q h d = d
after_quote_stands c f p line false x q h d = h d

right_false : (a b : Bool) → (a || b) ≡ false → b ≡ false
right_false true b h = absurd (false≢true (sym h))
right_false false b h = h

-- a byte that ends no record is no line feed
no_feed : (c : ℕ) → ends_with term.CRLF c ≡ false → (c == 10) ≡ false
no_feed c not = right_false (c == 13) (c == 10) not

-- after CR, too, such a byte begins a record
after_cr_is : (c : ℕ) → ends_with term.CRLF c ≡ false →
    skip_or (start_record default_config c) (c == 10) ≡ start_field default_config c
after_cr_is c not = ap (skip_or (start_record default_config c)) (no_feed c not) ∙ start_record_is c not

stands_on : (s : State) (c : ℕ) (f : Fields) (p line : List ℕ) → ends_with term.CRLF c ≡ false → Stands s f p line →
    StandsAfter c f p (line ++ c ∷ []) (step default_config s c)
stands_on st.StartRecord c f p line not b =
    start_record_stands c f p (line ++ c ∷ []) not (divided_first c f p line b)
stands_on st.StartField c f p line not d = start_field_stands c f p (line ++ c ∷ []) not (divided_more line _ c d)
stands_on st.InField c f p line not d = in_field_stands c f p (line ++ c ∷ []) not (divided_more line _ c d)
stands_on st.InQuoted c f p line not d = quoted_stands c f p (line ++ c ∷ []) (c == 34) (divided_more line _ c d)
stands_on st.AfterQuote c f p line not d =
    after_quote_stands c f p (line ++ c ∷ []) (c == 34) (in_field default_config c) _
    (in_field_stands c f p (line ++ c ∷ []) not) (divided_more line _ c d)
stands_on st.InEscape c f p line not d = absurd d
stands_on st.InComment c f p line not d = absurd d
stands_on st.AfterCr c f p line not b =
    subst (StandsAfter c f p (line ++ c ∷ [])) (sym (after_cr_is c not))
    (start_field_stands c f p (line ++ c ∷ []) not (divided_first c f p line b))

-- ---- a byte that ends a line

-- both tests are one
ends_line_is : (c : ℕ) → ends_line c ≡ ends_with term.CRLF c
ends_line_is c = or_comm (c == 10) (c == 13)
  where
    or_comm : (a b : Bool) → (a || b) ≡ (b || a)
    or_comm true true = refl
    or_comm true false = refl
    or_comm false true = refl
    or_comm false false = refl

-- after the end of a record nothing of a line has come
after_end_stands : (b : Bool) → Stands (if b then st.AfterCr else st.StartRecord) [] [] []
after_end_stands true = nothing
after_end_stands false = nothing

-- a line that has begun is one, with its fields
begun_line : (line : List ℕ) (f : Fields) (p : List ℕ) (w : Within) (more : List (List ℕ)) →
    IsDivided line (split_at f p w) → map split_fields (begun line more) ≡ (f ++ p ∷ []) ∷ map split_fields more
begun_line line f p w more d =
    ap (λ l. map split_fields (begun l more)) d.line_is
    ∙ ap (λ q. fields_at_end q ∷ map split_fields more) (ap (split_bytes nothing_split) (sym d.line_is) ∙ d.split_is)

-- what a text is read as from here on is the fields of its lines
abbrev IsByLines : List ℕ → Type 0
IsByLines text = (s : State) (f : Fields) (p line : List ℕ) → Stands s f p line → breaks_quotes_from s text ≡ false →
    scan s f p text ≡ map split_fields (lines_after line text)

at_end : IsByLines []
unfolding scan
at_end st.StartRecord f p line b n = rw b.no_line refl
at_end st.StartField f p line d n = sym (begun_line line f p within.Start [] d)
at_end st.InField f p line d n = sym (begun_line line f p within.Plain [] d)
at_end st.InQuoted f p line d n = sym (begun_line line f p within.Quotes [] d)
at_end st.AfterQuote f p line d n = sym (begun_line line f p within.AfterQuote [] d)
at_end st.InEscape f p line d n = absurd d
at_end st.InComment f p line d n = absurd d
at_end st.AfterCr f p line b n = rw b.no_line refl

-- the line that has come so far, where none has begun
none_begun : (f : Fields) (p line : List ℕ) (more : List (List ℕ)) → IsBetween f p line →
    map split_fields more ≡ map split_fields (begun line more)
none_begun f p line more b = ap (λ l. map split_fields (begun l more)) (sym b.no_line)

still_nothing : (f : Fields) (p line : List ℕ) → IsBetween f p line → IsBetween f p []
still_nothing f p line b = record { no_fields = b.no_fields; no_field = b.no_field; no_line = refl }

-- at a line feed
at_feed : (rest : List ℕ) → IsByLines rest → IsByLines (10 ∷ rest)
unfolding scan
at_feed rest ih st.StartRecord f p line b n =
    ih st.StartRecord f p [] (still_nothing f p line b) n ∙ none_begun f p line (lines_after [] rest) b
at_feed rest ih st.StartField f p line d n =
    ap (λ t. (f ++ p ∷ []) ∷ t) (ih st.StartRecord [] [] [] nothing n)
    ∙ sym (begun_line line f p within.Start (lines_after [] rest) d)
at_feed rest ih st.InField f p line d n =
    ap (λ t. (f ++ p ∷ []) ∷ t) (ih st.StartRecord [] [] [] nothing n)
    ∙ sym (begun_line line f p within.Plain (lines_after [] rest) d)
at_feed rest ih st.InQuoted f p line d n = absurd (false≢true (sym n))
at_feed rest ih st.AfterQuote f p line d n =
    ap (λ t. (f ++ p ∷ []) ∷ t) (ih st.StartRecord [] [] [] nothing n)
    ∙ sym (begun_line line f p within.AfterQuote (lines_after [] rest) d)
at_feed rest ih st.InEscape f p line d n = absurd d
at_feed rest ih st.InComment f p line d n = absurd d
at_feed rest ih st.AfterCr f p line b n =
    ih st.StartRecord f p [] (still_nothing f p line b) n ∙ none_begun f p line (lines_after [] rest) b

-- at a carriage return
at_return : (rest : List ℕ) → IsByLines rest → IsByLines (13 ∷ rest)
unfolding scan
at_return rest ih st.StartRecord f p line b n =
    ih st.StartRecord f p [] (still_nothing f p line b) n ∙ none_begun f p line (lines_after [] rest) b
at_return rest ih st.StartField f p line d n =
    ap (λ t. (f ++ p ∷ []) ∷ t) (ih st.AfterCr [] [] [] nothing n)
    ∙ sym (begun_line line f p within.Start (lines_after [] rest) d)
at_return rest ih st.InField f p line d n =
    ap (λ t. (f ++ p ∷ []) ∷ t) (ih st.AfterCr [] [] [] nothing n)
    ∙ sym (begun_line line f p within.Plain (lines_after [] rest) d)
at_return rest ih st.InQuoted f p line d n = absurd (false≢true (sym n))
at_return rest ih st.AfterQuote f p line d n =
    ap (λ t. (f ++ p ∷ []) ∷ t) (ih st.AfterCr [] [] [] nothing n)
    ∙ sym (begun_line line f p within.AfterQuote (lines_after [] rest) d)
at_return rest ih st.InEscape f p line d n = absurd d
at_return rest ih st.InComment f p line d n = absurd d
at_return rest ih st.AfterCr f p line b n =
    ih st.StartRecord f p [] (still_nothing f p line b) n ∙ none_begun f p line (lines_after [] rest) b

-- ---- a byte that ends no line ends no record

abbrev GoesOn : State × Action → Type 0
GoesOn x = is_end x.1 ≡ false

either_goes_on : (b : Bool) (x y : State × Action) → GoesOn x → GoesOn y → GoesOn (if b then x else y)
either_goes_on true x y g h = g
either_goes_on false x y g h = h

in_field_goes_on : (c : ℕ) → ends_with term.CRLF c ≡ false → GoesOn (in_field default_config c)
in_field_goes_on c not =
    subst GoesOn (sym (no_record_end c (c == 44) not))
    (either_goes_on (c == 44) (st.StartField, act.EndField) (st.InField, act.Copy) refl refl)

start_field_goes_on : (c : ℕ) → ends_with term.CRLF c ≡ false → GoesOn (start_field default_config c)
start_field_goes_on c not =
    either_goes_on (c == 34) (st.InQuoted, act.Skip) (in_field default_config c) refl (in_field_goes_on c not)

goes_on : (s : State) (c : ℕ) (f : Fields) (p line : List ℕ) → ends_with term.CRLF c ≡ false → Stands s f p line →
    GoesOn (step default_config s c)
goes_on st.StartRecord c f p line not b = subst GoesOn (sym (start_record_is c not)) (start_field_goes_on c not)
goes_on st.StartField c f p line not d = start_field_goes_on c not
goes_on st.InField c f p line not d = in_field_goes_on c not
goes_on st.InQuoted c f p line not d =
    either_goes_on (c == 34) (st.AfterQuote, act.Skip) (st.InQuoted, act.Copy) refl refl
goes_on st.AfterQuote c f p line not d =
    either_goes_on (c == 34) (st.InQuoted, act.Copy) (in_field default_config c) refl (in_field_goes_on c not)
goes_on st.InEscape c f p line not d = absurd d
goes_on st.InComment c f p line not d = absurd d
goes_on st.AfterCr c f p line not b = subst GoesOn (sym (after_cr_is c not)) (start_field_goes_on c not)

at_byte : (c : ℕ) (rest : List ℕ) → ends_with term.CRLF c ≡ false → IsByLines rest → IsByLines (c ∷ rest)
unfolding scan
at_byte c rest not ih s f p line d n =
    let x = step default_config s c in
    let ends = fields_after x.1 f p ∷ scan x.0 [] [] rest in
    let on = scan x.0 (fields_after x.1 f p) (field_after x.1 c p) rest in
    ap (λ b. if b then ends else on) (goes_on s c f p line not d)
    ∙ (ih x.0 (fields_after x.1 f p) (field_after x.1 c p) (line ++ c ∷ []) (stands_on s c f p line not d)
    (right_false (ends_line c && is_quoted s) (breaks_quotes_from x.0 rest) n)
    ∙ ap (λ b. map split_fields (if b then begun line (lines_after [] rest) else lines_after (line ++ c ∷ []) rest))
    (sym (ends_line_is c ∙ not)))

-- ---- all bytes

by_lines : (text : List ℕ) → IsByLines text
by_lines [] = at_end
by_lines (c ∷ rest) =
    elim (cases_Bool (c == 10)) [
      | inl feed ↦
          let A : ℕ → Type 0 = λ c. IsByLines (c ∷ rest) in
          subst A (sym (eqb-true c 10 feed)) (at_feed rest (by_lines rest))
      | inr not_feed ↦ elim (cases_Bool (c == 13)) [
        | inl cr ↦
            let A : ℕ → Type 0 = λ c. IsByLines (c ∷ rest) in
            subst A (sym (eqb-true c 13 cr)) (at_return rest (by_lines rest))
        | inr not_cr ↦ at_byte c rest (neither (c == 13) (c == 10) not_cr not_feed) (by_lines rest)
      ]
    ]
  where
    neither : (a b : Bool) → a ≡ false → b ≡ false → (a || b) ≡ false
    neither a b first other = ap (λ a. a || b) first ∙ other

pub line_records : LawOfLineRecords
line_records bytes on =
    records_are (strip_bom bytes) ∙ by_lines (strip_bom bytes) st.StartRecord [] [] [] nothing on
