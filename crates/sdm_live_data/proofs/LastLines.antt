-- What is known of the last line, from one read to the next: a piece with no line feed makes it longer, and one with a
-- line feed ends lines, of which the last may be looked through together with what it began with.
use Rattle.std.proofs.Common.{◌≡◌, ◌∙◌, ◌≤◌, ◌<◌, ◌+◌, ◌-◌, ◌==◌, eqb, ℕ, Bool, true, false, List, [], ◌∷◌, ◌++◌, Some, None}
use Rattle.std.proofs.Common.{length, length-append, take, drop, get_or, refl, sym, ap, subst, append_assoc, arith}
use Rattle.std.proofs.Common.{option_map, take-append-drop, take_all, eqb-true, suc, IfNone, Option}
use Rattle.std.proofs.Math.Seq.{take-append_seam, drop-append_seam}
use Rattle.std.proofs.lemmas.List.{drop_all, drop_more}
use Rattle.memchr.specs.Find.{IsLastByte, is_byte}
use Rattle.std.proofs.lemmas.List.{get_or-drop, length-drop, length-take-le}
use Rattle.sdm_data.specs.Division.{divide}
use Rattle.sdm_live_data.specs.Divisions.{AreWholeLines, HasNoRecords, IsDivision, IsLastLine, IsUnfed}
use Rattle.sdm_live_data.proofs.Decided.{divide_after, divide_then, fed_lines, line_divides, lines_then, no_lines, second, shifted}

unfed_then : (xs ys : List ℕ) → IsUnfed xs → IsUnfed ys → IsUnfed (xs ++ ys)
unfed_then [] ys h k = k
unfed_then (x ∷ xs) ys h k = (h.0, unfed_then xs ys h.1 k)

-- nothing has come
pub nothing_yet : (bytes : List ℕ) → bytes ≡ [] → IsLastLine bytes 0
unfolding divide
nothing_yet bytes is = record {
  before = [];
  line = [];
  bytes_are = is;
  starts = refl;
  whole = no_lines;
  none = refl;
  unfed = tt;
}

-- what came ends no line
pub longer_line : (old bytes piece : List ℕ) (start : ℕ) → IsLastLine old start → bytes ≡ old ++ piece → IsUnfed piece →
    IsLastLine bytes start
longer_line old bytes piece start l is unfed = record {
  before = l.before;
  line = l.line ++ piece;
  bytes_are = is ∙ (ap (λ b. b ++ piece) l.bytes_are ∙ append_assoc l.before l.line piece);
  starts = l.starts;
  whole = l.whole;
  none = l.none;
  unfed = unfed_then l.line piece l.unfed unfed;
}

-- the bytes divide where the last line does
line_on : (bytes : List ℕ) (start : ℕ) (l : IsLastLine bytes start) →
    divide bytes ≡ option_map (shifted start) (divide l.line)
line_on bytes start l =
    ap divide l.bytes_are
    ∙ (divide_after l.before l.whole l.none l.line ∙ ap (λ n. option_map (shifted n) (divide l.line)) (sym l.starts))

sizes : (bytes : List ℕ) (start : ℕ) (l : IsLastLine bytes start) → length bytes ≡ start + length l.line
sizes bytes start l =
    let starts = l.starts in
    let size = length-append l.before l.line in
    ap length l.bytes_are ∙ omega (arith, starts, size)

-- no record has begun, since the last line has no end
pub no_records : (bytes : List ℕ) (start : ℕ) → IsLastLine bytes start → HasNoRecords bytes
no_records bytes start l d r at = drop_all r bytes (at_end (divide l.line) refl (sym (line_on bytes start l) ∙ at))
  where
    at_end : (o : Option (ℕ × ℕ)) → divide l.line ≡ o → option_map (shifted start) o ≡ Some (d, r) → length bytes ≤ r
    at_end None is h = cc h
    at_end (Some p) is h =
        let whole_line = line_divides l.line l.unfed p is in
        let place = ap second h in
        let n = sizes bytes start l in
        omega (arith, whole_line, place, n)

-- ---- lines that what came ends

module _ (old bytes xs tail : List ℕ) (start : ℕ) (l : IsLastLine old start) (is : bytes ≡ old ++ ((xs ++ 10 ∷ []) ++ tail))
  where
    -- the lines from the start of the last one on
    abbrev lines : List ℕ
    lines = l.line ++ (xs ++ 10 ∷ [])

    lines_whole : AreWholeLines lines
    lines_whole more =
        let W : List ℕ → Type 0 = λ b. AreWholeLines b in
        subst W (append_assoc l.line xs (10 ∷ [])) (fed_lines (l.line ++ xs)) more

    bytes_are : bytes ≡ l.before ++ (lines ++ tail)
    bytes_are =
        let part = xs ++ 10 ∷ [] in
        is
        ∙ (ap (λ b. b ++ (part ++ tail)) l.bytes_are
        ∙ (append_assoc l.before l.line (part ++ tail)
        ∙ ap (λ b. l.before ++ b) (sym (append_assoc l.line part tail))))

    -- none of them divides
    pub passed_on : (end : ℕ) → end ≡ start + length lines → IsUnfed tail → divide lines ≡ None → IsLastLine bytes end
    passed_on end ends unfed none =
        let size = length-append l.before lines in
        let starts = l.starts in
        record {
          before = l.before ++ lines;
          line = tail;
          bytes_are = bytes_are ∙ sym (append_assoc l.before lines tail);
          starts = omega (arith, size, starts, ends);
          whole = lines_then l.before lines l.whole lines_whole;
          none = divide_after l.before l.whole l.none lines ∙ ap (option_map (shifted (length l.before))) none;
          unfed = unfed;
        }

    -- one divides, whatever follows
    pub divides_on : (d r : ℕ) → divide lines ≡ Some (d, r) → (more : List ℕ) →
        divide (bytes ++ more) ≡ Some (start + d, start + r)
    divides_on d r at more =
        ap (λ b. divide (b ++ more)) bytes_are
        ∙ (ap divide (append_assoc l.before (lines ++ tail) more ∙ ap (λ b. l.before ++ b) (append_assoc lines tail more))
        ∙ (divide_after l.before l.whole l.none (lines ++ (tail ++ more))
        ∙ (ap (option_map (shifted (length l.before))) (divide_then lines lines_whole (d, r) at (tail ++ more))
        ∙ ap (λ n. Some (n + d, n + r)) (sym l.starts))))

-- ---- what a look at the bytes shows that came since the first `seen`

not_true : (b : Bool) → (b ≡ true → ⊥) → b ≡ false
not_true true h = absurd (h refl)
not_true false h = refl

unfed_of : (xs : List ℕ) → ((k : ℕ) → k < length xs → eqb (get_or xs k 0) 10 ≡ true → ⊥) → IsUnfed xs
unfed_of [] h = tt
unfed_of (x ∷ xs) h =
    (not_true (x == 10) (h 0 (omega arith)), unfed_of xs (λ k lt. h (suc k) (omega (arith, lt))))

module _ (bytes : List ℕ) (start seen : ℕ) (l : IsLastLine (take seen bytes) start) (within : seen ≤ length bytes) where
  abbrev piece : List ℕ
  piece = drop seen bytes

  abbrev looked : List ℕ
  looked = take (length bytes - seen) (drop seen bytes)

  looked_is : looked ≡ piece
  looked_is =
      let size = length-drop seen bytes in
      take_all (length bytes - seen) (drop seen bytes) (omega (arith, size))

  all_are : bytes ≡ take seen bytes ++ piece
  all_are = sym (take-append-drop seen bytes)

  seen_is : seen ≡ start + length l.line
  seen_is = sym (length-take-le seen bytes within) ∙ sizes (take seen bytes) start l

  -- no line feed came
  pub no_feed_came : IsLastByte (is_byte 10) looked None → IsLastLine bytes start
  no_feed_came none =
      let here : IsLastByte (is_byte 10) piece None =
      subst (λ (p : List ℕ). IsLastByte (is_byte 10) p None) looked_is none in
      longer_line (take seen bytes) bytes piece start l all_are (unfed_of piece (λ k lt. here k (omega arith) lt))

  -- the last one came at a place of these bytes
  module _ (at : ℕ) (last : IsLastByte (is_byte 10) looked (Some at)) where
    found : IsLastByte (is_byte 10) piece (Some at)
    found = subst (λ (p : List ℕ). IsLastByte (is_byte 10) p (Some at)) looked_is last

    abbrev tail : List ℕ
    tail = drop (at + 1) piece

    abbrev ended : List ℕ
    ended = take at piece ++ 10 ∷ []

    piece_is : piece ≡ ended ++ tail
    piece_is =
        sym (take-append-drop at piece)
        ∙ (ap (λ t. take at piece ++ t) (drop_more piece at 0 found.0.high)
        ∙ (ap (λ b. take at piece ++ b ∷ tail) (eqb-true _ _ found.1)
        ∙ sym (append_assoc (take at piece) (10 ∷ []) tail)))

    bytes_is : bytes ≡ take seen bytes ++ (ended ++ tail)
    bytes_is = all_are ∙ ap (λ p. take seen bytes ++ p) piece_is

    tail_unfed : IsUnfed tail
    tail_unfed =
        let size = length-drop (at + 1) piece in
        unfed_of tail (λ k lt is. found.0.after (at + 1 + k) (omega arith) (omega (arith, lt, size))
        (sym (ap (λ b. eqb b 10) (get_or-drop (at + 1) piece k 0)) ∙ is))

    abbrev all_lines : List ℕ
    all_lines = l.line ++ ended

    end_is : seen + at + 1 ≡ start + length all_lines
    end_is =
        let high = found.0.high in
        let taken = length-take-le at piece (omega (arith, high)) in
        let one = length-append (take at piece) (10 ∷ []) in
        let both = length-append l.line ended in
        let n = seen_is in
        omega (arith, taken, one, both, n)

    pub end_within : seen + at + 1 ≤ length bytes
    end_within =
        let high = found.0.high in
        let size = length-drop seen bytes in
        omega (arith, high, size, within)

    pub start_first : start ≤ seen + at + 1
    start_first = let n = end_is in omega (arith, n)

    abbrev searched : List ℕ
    searched = take (seen + at + 1 - start) (drop start bytes)

    searched_is : searched ≡ all_lines
    searched_is =
        let n : seen + at + 1 - start ≡ length all_lines = let e = end_is in omega (arith, e) in
        ap (λ n. take n (drop start bytes)) n
        ∙ (ap (λ s. take (length all_lines) (drop s bytes)) l.starts
        ∙ (ap (λ b. take (length all_lines) (drop (length l.before) b))
        (bytes_are (take seen bytes) bytes (take at piece) tail start l bytes_is)
        ∙ (ap (λ b. take (length all_lines) b) (drop-append_seam l.before (all_lines ++ tail))
        ∙ take-append_seam all_lines tail)))

    -- the lines up to it are looked through, and none divides
    pub none_divides : None ≡ divide searched → IsLastLine bytes (seen + at + 1)
    none_divides none =
        passed_on (take seen bytes) bytes (take at piece) tail start l bytes_is (seen + at + 1) end_is tail_unfed
        (ap divide (sym searched_is) ∙ sym none)

    -- or one divides
    pub one_divides : (d r : ℕ) → Some (d, r) ≡ divide searched → (d ≤ r) × (r ≤ length searched) →
        IsDivision bytes (record { data_end = start + d; records_start = start + r; is_end = false })
    one_divides d r is bounds =
        let size = ap length searched_is in
        let n = end_is in
        let end = end_within in
        record {
          divided = divides_on (take seen bytes) bytes (take at piece) tail start l bytes_is d r
              (ap divide (sym searched_is) ∙ sym is);
          order = omega (arith, bounds.0);
          within = omega (arith, bounds.1, size, n, end);
        }

-- ---- at the end of the input the last line may divide

module _ (bytes : List ℕ) (start : ℕ) (l : IsLastLine bytes start) where
  abbrev rest : List ℕ
  rest = take (length bytes - start) (drop start bytes)

  rest_is : rest ≡ l.line
  rest_is =
      let size = length-drop start bytes in
      take_all (length bytes - start) (drop start bytes) (omega (arith, size))
      ∙ (ap (λ s. drop s bytes) l.starts
      ∙ (ap (λ b. drop (length l.before) b) l.bytes_are ∙ drop-append_seam l.before l.line))

  pub last_undivided : None ≡ divide rest → divide bytes ≡ None
  last_undivided none =
      line_on bytes start l ∙ ap (option_map (shifted start)) (ap divide (sym rest_is) ∙ sym none)

  pub last_divides : (d r : ℕ) → Some (d, r) ≡ divide rest → (d ≤ r) × (r ≤ length rest) →
      IsDivision bytes (record { data_end = start + d; records_start = start + r; is_end = true })
  last_divides d r is bounds =
      let size = ap length rest_is in
      let n = sizes bytes start l in
      record {
        divided = (
          line_on bytes start l ∙ ap (option_map (shifted start)) (ap divide (sym rest_is) ∙ sym is),
          no_records bytes start l,
        );
        order = omega (arith, bounds.0);
        within = omega (arith, bounds.1, size, n);
      }

-- what holds anyway holds of an answer that is none
pub if_none : {A : Type 0} (r : Option A) (P : Type 0) → P → IfNone r P
if_none None P p = p
if_none (Some a) P p = tt
