-- A record that `run` accepts begins with no byte order mark, so of the lines only the first can have one; there it is
-- a line of its own or the start of the first record's.
use Rattle.std.proofs.Common.{◌≡◌, ◌⊎◌, ◌==◌, ◌&&◌, if◌then◌else◌, ℕ, Bool, true, false, List, [], ◌∷◌, ◌++◌, ◌∙◌}
use Rattle.std.proofs.Common.{refl, sym, ap, subst, inl, inr, Result, Ok, Err}
use Rattle.std.proofs.lemmas.Bool.{cases_Bool, eqb-true, false≢true}
use Rattle.csv.specs.Reading.{is_bom, strip_bom}
use Rattle.sdm_rules.specs.declared.faults.EventFault.{EventFault}
use Rattle.sdm_rules.specs.declared.faults.EventFault.TheVariants.{UnknownKind}
use Rattle.sdm_rules.specs.declared.records.Event.{Event}
use Rattle.sdm_rules.specs.Records.{Turn, turn_of}
use Rattle.sdm_rules.specs.Supervision.{Supervision}
use Rattle.sdm_formats.specs.Forms.{event_of}
use Rattle.sdm_live.specs.ByLines.{begun, lines_after, lines_of}
use Rattle.sdm_live.specs.Progress.{ends_line}
use Rattle.sdm_live_records.specs.Fields.{Split, byte_in, nothing_split, plain_byte, split_byte, split_bytes}
use Rattle.sdm_live_records.specs.Fields.{split_fields}
use Rattle.sdm_live_records.specs.declared.line_fields.Within.{Within}
use Rattle.sdm_live_records.specs.declared.line_fields.Within.TheVariants as within
use Rattle.sdm_live_laws.proofs.Scan.{Fields}

-- bytes after a byte order mark
abbrev pub marked : List ℕ → List ℕ
marked bytes = 239 ∷ 187 ∷ 191 ∷ bytes

-- bytes that a mark begins, and those after it
pub record IsMarked (bytes : List ℕ) : Type 0 where
  pub rest : List ℕ
  pub whole : bytes ≡ marked rest
  pub after : strip_bom bytes ≡ rest

three_true : (x y z : Bool) → (x && y && z) ≡ true → (x ≡ true) × (y ≡ true) × (z ≡ true)
three_true true true true h = (refl, refl, refl)
three_true true true false h = absurd (false≢true h)
three_true true false z h = absurd (false≢true h)
three_true false y z h = absurd (false≢true h)

three_are : (a b c : ℕ) (rest : List ℕ) → is_bom a b c ≡ true → a ∷ b ∷ c ∷ rest ≡ marked rest
three_are a b c rest is =
    let each = three_true (a == 239) (b == 187) (c == 191) is in
    ap (λ x. x ∷ b ∷ c ∷ rest) (eqb-true a 239 each.0)
    ∙ (ap (λ x. 239 ∷ x ∷ c ∷ rest) (eqb-true b 187 each.1) ∙ ap (λ x. 239 ∷ 187 ∷ x ∷ rest) (eqb-true c 191 each.2))

pub mark_cases : (bytes : List ℕ) → (strip_bom bytes ≡ bytes) ⊎ IsMarked bytes
unfolding strip_bom
mark_cases [] = inl refl
mark_cases (a ∷ []) = inl refl
mark_cases (a ∷ b ∷ []) = inl refl
mark_cases (a ∷ b ∷ c ∷ rest) = elim (cases_Bool (is_bom a b c)) [
  | inl is ↦ inr (record {
    rest = rest;
    whole = three_are a b c rest is;
    after = ap (λ t. if t then rest else a ∷ b ∷ c ∷ rest) is;
  })
  | inr not ↦ inl (ap (λ t. if t then rest else a ∷ b ∷ c ∷ rest) not)
]

-- ---- a record whose first field begins with a mark is of no kind

abbrev first_field : Fields → List ℕ → List ℕ
first_field [] p = p
first_field (f ∷ fs) p = f

abbrev Begins : List ℕ → Type 0
Begins [] = ⊥
Begins (c ∷ cs) = c ≡ 239

-- the first field so far begins with the first byte of a mark
abbrev BeginsSo : Split → Type 0
BeginsSo q = Begins (first_field q.fields q.field)

either_begins : (b : Bool) (x y : Split) → BeginsSo x → BeginsSo y → BeginsSo (if b then x else y)
either_begins true x y g h = g
either_begins false x y g h = h

field_ends : (f : Fields) (p : List ℕ) → Begins (first_field f p) → Begins (first_field (f ++ p ∷ []) [])
field_ends [] p h = h
field_ends (g ∷ gs) p h = h

field_grows : (f : Fields) (p : List ℕ) (c : ℕ) → Begins (first_field f p) → Begins (first_field f (p ++ c ∷ []))
field_grows [] [] c h = absurd h
field_grows [] (b ∷ bs) c h = h
field_grows (g ∷ gs) p c h = h

plain_begins : (q : Split) (c : ℕ) → BeginsSo q → BeginsSo (plain_byte q c)
plain_begins q c h =
    either_begins (c == 44) _ _ (field_ends q.fields q.field h) (field_grows q.fields q.field c h)

byte_begins : (w : Within) (q : Split) (c : ℕ) → BeginsSo q → BeginsSo (byte_in w q c)
byte_begins within.Start q c h = either_begins (c == 34) _ _ h (plain_begins q c h)
byte_begins within.Plain q c h = plain_begins q c h
byte_begins within.Quotes q c h = either_begins (c == 34) _ _ h (field_grows q.fields q.field c h)
byte_begins within.AfterQuote q c h =
    either_begins (c == 34) _ _ (field_grows q.fields q.field c h) (plain_begins q c h)

bytes_begin : (bytes : List ℕ) (q : Split) → BeginsSo q → BeginsSo (split_bytes q bytes)
bytes_begin [] q h = h
bytes_begin (c ∷ cs) q h = bytes_begin cs (split_byte q c) (byte_begins q.within q c h)

no_kind : (c : ℕ) (cs : List ℕ) (more : Fields) → c ≡ 239 → event_of ((c ∷ cs) ∷ more) ≡ Err UnknownKind
unfolding event_of
no_kind c cs more is =
    let A : ℕ → Type 0 = λ c. event_of ((c ∷ cs) ∷ more) ≡ Err UnknownKind in
    subst A (sym is) refl

no_event : (f : Fields) (p : List ℕ) → Begins (first_field f p) → event_of (f ++ p ∷ []) ≡ Err UnknownKind
no_event [] [] h = absurd h
no_event [] (c ∷ cs) h = no_kind c cs [] h
no_event ([] ∷ gs) p h = absurd h
no_event ((c ∷ cs) ∷ gs) p h = no_kind c cs (gs ++ p ∷ []) h

marked_event : (rest : List ℕ) → event_of (split_fields (marked rest)) ≡ Err UnknownKind
marked_event rest =
    let q = split_bytes nothing_split (marked rest) in
    no_event q.fields q.field (bytes_begin rest (split_bytes nothing_split (marked [])) refl)

no_turn : (s : Supervision) (e : Result Event EventFault) (t : Turn) → e ≡ Err UnknownKind → turn_of s e ≡ Ok t → ⊥
no_turn s (Ok e) t is taken = absurd cc
no_turn s (Err fault) t is taken = absurd cc

-- a line whose fields, its mark with them, are taken has no mark
pub taken_unmarked : (s : Supervision) (line : List ℕ) (t : Turn) →
    turn_of s (event_of (split_fields line)) ≡ Ok t → strip_bom line ≡ line
taken_unmarked s line t taken = elim (mark_cases line) [
  | inl unmarked ↦ unmarked
  | inr m ↦
      let refused = ap (λ l. event_of (split_fields l)) m.whole ∙ marked_event m.rest in
      absurd (no_turn s (event_of (split_fields line)) t refused taken)
]

-- ---- the lines of marked bytes

-- a line of the mark alone comes before the lines
abbrev pub IsAlone : List (List ℕ) → List (List ℕ) → Type 0
IsAlone with_mark lines = with_mark ≡ marked [] ∷ lines

-- or the mark begins the first of them
pub record IsOnFirst (with_mark lines : List (List ℕ)) : Type 0 where
  pub line : List ℕ
  pub more : List (List ℕ)
  pub lines_are : lines ≡ line ∷ more
  pub marked_are : with_mark ≡ marked line ∷ more

abbrev AreMarked : List (List ℕ) → List (List ℕ) → Type 0
AreMarked with_mark lines = IsAlone with_mark lines ⊎ IsOnFirst with_mark lines

begun_marked : (line : List ℕ) (more : List (List ℕ)) → AreMarked (begun (marked line) more) (begun line more)
begun_marked [] more = inl refl
begun_marked (b ∷ bs) more =
    inr (record { line = b ∷ bs; more = more; lines_are = refl; marked_are = refl })

module _ (c : ℕ) (cs : List ℕ) (line : List ℕ)
    (ih : AreMarked (lines_after (marked (line ++ c ∷ [])) cs) (lines_after (line ++ c ∷ []) cs)) where
  by_end : (b : Bool) →
      AreMarked (if b then begun (marked line) (lines_after [] cs) else lines_after (marked (line ++ c ∷ [])) cs)
      (if b then begun line (lines_after [] cs) else lines_after (line ++ c ∷ []) cs)
  by_end true = begun_marked line (lines_after [] cs)
  by_end false = ih

after_marked : (text line : List ℕ) → AreMarked (lines_after (marked line) text) (lines_after line text)
after_marked [] line = begun_marked line []
after_marked (c ∷ cs) line = by_end c cs line (after_marked cs (line ++ c ∷ [])) (ends_line c)

pub marked_lines : (rest : List ℕ) → AreMarked (lines_of (marked rest)) (lines_of rest)
marked_lines rest = after_marked rest []
