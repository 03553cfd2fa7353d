-- Each byte of a line joins a field, ends one, or is a quote. Quotes are at most two a field, and one more for each that
-- joined it; so a line is no longer than its fields let it be.
use Rattle.std.proofs.Common.{◌≡◌, ◌≤◌, ◌<◌, ◌+◌, ◌*◌, ◌==◌, if◌then◌else◌, ℕ, Bool, true, false, List, [], ◌∷◌, ◌++◌, length}
use Rattle.std.proofs.Common.{length-append, arith}
use Rattle.std.specs.List.{AllByRecursion}
use Rattle.sdm_live_records.specs.Fields.{Split, byte_in, fields_at_end, nothing_split, plain_byte, split_byte, split_bytes}
use Rattle.sdm_live_records.specs.Fields.{split_fields}
use Rattle.sdm_live_records.specs.declared.line_fields.Within.{Within}
use Rattle.sdm_live_records.specs.declared.line_fields.Within.TheVariants as within
use Rattle.sdm_live_laws.proofs.Scan.{Fields}
use Rattle.sdm_live_laws.proofs.Written.{AreWritten, IsShort}

-- the most bytes that fields have in a line: each byte twice, two quotes, and a comma
abbrev most_of : Fields → ℕ
most_of [] = 0
most_of (x ∷ xs) = 2 * length x + 3 + most_of xs

-- the quotes of the field at hand that didn't join it, in a part of it that no quote follows
abbrev quotes_in : Within → ℕ
quotes_in within.Start = 0
quotes_in within.Plain = 2
quotes_in within.Quotes = 1
quotes_in within.AfterQuote = 2

-- the most bytes of a line that has been divided so far
abbrev most_so_far : Split → ℕ
most_so_far q = most_of q.fields + 2 * length q.field + quotes_in q.within

most_and : (f : Fields) (p : List ℕ) → most_of (f ++ p ∷ []) ≡ most_of f + 2 * length p + 3
most_and [] p = omega arith
most_and (x ∷ xs) p = let h = most_and xs p in omega (arith, h)

abbrev Grows : ℕ → Split → Type 0
Grows most q = most < most_so_far q

either_grows : (most : ℕ) (b : Bool) (x y : Split) → Grows most x → Grows most y → Grows most (if b then x else y)
either_grows most true x y g h = g
either_grows most false x y g h = h

plain_grows : (f : Fields) (p : List ℕ) (w : Within) (c : ℕ) →
    Grows (most_of f + 2 * length p + 2) (plain_byte (record { fields = f; field = p; within = w }) c)
plain_grows f p w c =
    let ended = most_and f p in
    let longer = length-append p (c ∷ []) in
    either_grows _ (c == 44) _ _ (omega (arith, ended)) (omega (arith, longer))

grows_more : (a b : ℕ) (q : Split) → a ≤ b → Grows b q → Grows a q
grows_more a b q le h = omega (arith, le, h)

byte_grows : (w : Within) (f : Fields) (p : List ℕ) (c : ℕ) →
    Grows (most_of f + 2 * length p + quotes_in w) (byte_in w (record { fields = f; field = p; within = w }) c)
byte_grows within.Start f p c =
    either_grows _ (c == 34) _ _ (omega arith) (grows_more _ _ _ (omega arith) (plain_grows f p within.Start c))
byte_grows within.Plain f p c = plain_grows f p within.Plain c
byte_grows within.Quotes f p c =
    let longer = length-append p (c ∷ []) in
    either_grows _ (c == 34) _ _ (omega arith) (omega (arith, longer))
byte_grows within.AfterQuote f p c =
    let longer = length-append p (c ∷ []) in
    either_grows _ (c == 34) _ _ (omega (arith, longer)) (plain_grows f p within.AfterQuote c)

bytes_grow : (bytes : List ℕ) (q : Split) → most_so_far q + length bytes ≤ most_so_far (split_bytes q bytes)
bytes_grow [] q = omega arith
bytes_grow (c ∷ cs) q =
    let one = byte_grows q.within q.fields q.field c in
    let rest = bytes_grow cs (split_byte q c) in
    omega (arith, one, rest)

at_end : (q : Split) → most_so_far q ≤ most_of (fields_at_end q)
at_end q = by_within q.within q.fields q.field
  where
    by_within : (w : Within) (f : Fields) (p : List ℕ) →
        most_of f + 2 * length p + quotes_in w ≤ most_of (f ++ p ∷ [])
    by_within within.Start f p = let h = most_and f p in omega (arith, h)
    by_within within.Plain f p = let h = most_and f p in omega (arith, h)
    by_within within.Quotes f p = let h = most_and f p in omega (arith, h)
    by_within within.AfterQuote f p = let h = most_and f p in omega (arith, h)

-- a line has at most so many bytes
line_most : (line : List ℕ) → length line ≤ most_of (split_fields line)
line_most line =
    let bytes = bytes_grow line nothing_split in
    let end = at_end (split_bytes nothing_split line) in
    omega (arith, bytes, end)

most_short : (fields : Fields) → AllByRecursion IsShort fields → most_of fields ≤ 41 * length fields
most_short [] h = omega arith
most_short (x ∷ xs) h = let first = h.0 in let rest = most_short xs h.1 in omega (arith, first, rest)

-- a line whose fields are written so is short
pub written_short : (line : List ℕ) → AreWritten (split_fields line) → length line ≤ 328
written_short line w =
    let line_is = line_most line in
    let fields = most_short (split_fields line) w.short in
    let count = w.count in
    omega (arith, line_is, fields, count)
