-- Lines are looked through one after the other. So whole lines that divide are the same whatever follows them, and those
-- of which none divides only shift the places of what comes after.
use Rattle.std.proofs.Common.{◌≡◌, ◌∙◌, ◌<◌, ◌+◌, ◌==◌, if◌then◌else◌, cond, ℕ, suc, Bool, true, false, List, [], ◌∷◌, ◌++◌}
use Rattle.std.proofs.Common.{Option, Some, None, length, length-append, take, refl, sym, ap, append_assoc}
use Rattle.std.proofs.Common.{append-nil, arith, option_map}
use Rattle.std.proofs.Math.Seq.{take-append_seam}
use Rattle.std.proofs.lemmas.Iterator.Adapters.{position_from-zero}
use Rattle.std.proofs.lemmas.List.Folds.{concat-append}
use Rattle.std.specs.List.{concat, onto_first, position_from}
use Rattle.sdm_formats.specs.Lines.{ended_lines}
use Rattle.sdm_data.specs.Division.{divide, is_dividing_line, offset_after}
use Rattle.sdm_live_data.specs.Divisions.{AreWholeLines, IsUnfed}

-- ---- line by line

-- the places of the first line that divides, of lines that begin at a place
abbrev places : ℕ → List (List ℕ) → Option (ℕ × ℕ)
places at [] = None
places at (l ∷ ls) = if is_dividing_line l then Some (at, at + length l) else places (at + length l) ls

abbrev offsets : List (List ℕ) → ℕ → ℕ × ℕ
offsets lines k = (offset_after k lines, offset_after (suc k) lines)

one_more : (xs : List (List ℕ)) (y : List ℕ) (ys : List (List ℕ)) →
    take (suc (length xs)) (xs ++ y ∷ ys) ≡ xs ++ y ∷ []
one_more [] y ys = refl
one_more (x ∷ xs) y ys = ap (λ (t : List (List ℕ)). x ∷ t) (one_more xs y ys)

with_line : (before : List (List ℕ)) (line : List ℕ) →
    length (concat (before ++ line ∷ [])) ≡ length (concat before) + length line
with_line before line = rw (concat-append before (line ∷ []), append-nil line) (length-append (concat before) line)

offsets_here : (before : List (List ℕ)) (line : List ℕ) (more : List (List ℕ)) →
    offsets (before ++ line ∷ more) (length before)
    ≡ (length (concat before), length (concat before) + length line)
offsets_here before line more =
    rw (take-append_seam before (line ∷ more), one_more before line more, with_line before line) refl

abbrev ArePlacesFrom : List (List ℕ) → Type 0
ArePlacesFrom lines = (before : List (List ℕ)) →
    option_map (offsets (before ++ lines)) (position_from is_dividing_line (length before) lines)
    ≡ places (length (concat before)) lines

module _ (l : List ℕ) (ls before : List (List ℕ)) (ih : ArePlacesFrom ls) where
  places_on : option_map (offsets (before ++ l ∷ ls)) (position_from is_dividing_line (length before + 1) ls)
      ≡ places (length (concat before) + length l) ls
  places_on =
      let size : length (before ++ l ∷ []) ≡ length before + 1 = length-append before (l ∷ []) in
      ap (λ lines. option_map (offsets lines) (position_from is_dividing_line (length before + 1) ls))
      (sym (append_assoc before (l ∷ []) ls))
      ∙ (ap (λ n. option_map (offsets ((before ++ l ∷ []) ++ ls)) (position_from is_dividing_line n ls)) (sym size)
      ∙ (ih (before ++ l ∷ []) ∙ ap (λ n. places n ls) (with_line before l)))

  places_by : (b : Bool) →
      option_map (offsets (before ++ l ∷ ls))
      (cond b (Some (length before)) (position_from is_dividing_line (length before + 1) ls))
      ≡ (if b then Some (length (concat before), length (concat before) + length l)
      else places (length (concat before) + length l) ls)
  places_by true = ap Some (offsets_here before l ls)
  places_by false = places_on

places_from : (lines : List (List ℕ)) → ArePlacesFrom lines
places_from [] before = refl
places_from (l ∷ ls) before = places_by l ls before (λ before. places_from ls before) (is_dividing_line l)

divide_is : (input : List ℕ) → divide input ≡ places 0 (ended_lines input)
unfolding divide
divide_is input =
    ap (option_map (offsets (ended_lines input))) (position_from-zero is_dividing_line (ended_lines input))
    ∙ places_from (ended_lines input) []

-- ---- lines, and those after them

same_by : (b : Bool) (found : ℕ × ℕ) (xs ys : Option (ℕ × ℕ)) (p : ℕ × ℕ) → (xs ≡ Some p → ys ≡ Some p) →
    (if b then Some found else xs) ≡ Some p → (if b then Some found else ys) ≡ Some p
same_by true found xs ys p f h = h
same_by false found xs ys p f h = f h

then_same : (xs ys : List (List ℕ)) (at : ℕ) (p : ℕ × ℕ) → places at xs ≡ Some p → places at (xs ++ ys) ≡ Some p
then_same [] ys at p h = cc h
then_same (x ∷ xs) ys at p h =
    same_by (is_dividing_line x) (at, at + length x) _ _ p (then_same xs ys (at + length x) p) h

none_by : (b : Bool) (found : ℕ × ℕ) (xs ys zs : Option (ℕ × ℕ)) → (xs ≡ None → ys ≡ zs) →
    (if b then Some found else xs) ≡ None → (if b then Some found else ys) ≡ zs
none_by true found xs ys zs f h = cc h
none_by false found xs ys zs f h = f h

none_then : (xs ys : List (List ℕ)) (at : ℕ) → places at xs ≡ None →
    places at (xs ++ ys) ≡ places (at + length (concat xs)) ys
none_then [] ys at h = ap (λ n. places n ys) (omega arith)
none_then (x ∷ xs) ys at h =
    let size = length-append x (concat xs) in
    none_by (is_dividing_line x) (at, at + length x) _ _ (places (at + length (concat (x ∷ xs))) ys)
    (λ none. none_then xs ys (at + length x) none ∙ ap (λ n. places n ys) (omega (arith, size))) h

-- places that are so much further on
abbrev pub shifted : ℕ → ℕ × ℕ → ℕ × ℕ
shifted n p = (n + p.0, n + p.1)

shift_by : (b : Bool) (n at size : ℕ) (xs ys : Option (ℕ × ℕ)) → xs ≡ option_map (shifted n) ys →
    (if b then Some (n + at, n + at + size) else xs)
    ≡ option_map (shifted n) (if b then Some (at, at + size) else ys)
shift_by true n at size xs ys h = ap (λ e. Some (n + at, e)) (omega arith)
shift_by false n at size xs ys h = h

shift : (ls : List (List ℕ)) (n at : ℕ) → places (n + at) ls ≡ option_map (shifted n) (places at ls)
shift [] n at = refl
shift (l ∷ ls) n at =
    shift_by (is_dividing_line l) n at (length l) _ _
    (ap (λ e. places e ls) (omega arith) ∙ shift ls n (at + length l))

concat_lines : (text : List ℕ) → concat (ended_lines text) ≡ text
concat_lines [] = refl
concat_lines (c ∷ cs) = by_test (c == 10) (concat_lines cs)
  where
    onto : (ls : List (List ℕ)) → concat (onto_first c ls) ≡ c ∷ concat ls
    onto [] = refl
    onto (l ∷ ls) = refl

    by_test : (b : Bool) → concat (ended_lines cs) ≡ cs →
        concat (if b then (c ∷ []) ∷ ended_lines cs else onto_first c (ended_lines cs)) ≡ c ∷ cs
    by_test true h = ap (λ (xs : List ℕ). c ∷ xs) h
    by_test false h = onto (ended_lines cs) ∙ ap (λ (xs : List ℕ). c ∷ xs) h

-- whole lines that divide do so whatever follows
pub divide_then : (lines : List ℕ) → AreWholeLines lines → (p : ℕ × ℕ) → divide lines ≡ Some p → (more : List ℕ) →
    divide (lines ++ more) ≡ Some p
divide_then lines whole p h more =
    divide_is (lines ++ more)
    ∙ (ap (places 0) (whole more)
    ∙ then_same (ended_lines lines) (ended_lines more) 0 p (sym (divide_is lines) ∙ h))

-- after whole lines of which none divides what follows divides as it does alone, so much further on
pub divide_after : (lines : List ℕ) → AreWholeLines lines → divide lines ≡ None → (more : List ℕ) →
    divide (lines ++ more) ≡ option_map (shifted (length lines)) (divide more)
divide_after lines whole h more =
    let none : places 0 (ended_lines lines) ≡ None = sym (divide_is lines) ∙ h in
    divide_is (lines ++ more)
    ∙ (ap (places 0) (whole more)
    ∙ (none_then (ended_lines lines) (ended_lines more) 0 none
    ∙ (ap (λ n. places n (ended_lines more)) (size (length (concat (ended_lines lines))) (ap length (concat_lines lines)))
    ∙ (shift (ended_lines more) (length lines) 0
    ∙ ap (option_map (shifted (length lines))) (sym (divide_is more))))))
  where
    size : (n : ℕ) → n ≡ length lines → 0 + n ≡ length lines + 0
    size n is = omega (arith, is)

-- ---- whole lines

pub no_lines : AreWholeLines []
no_lines more = refl

pub lines_then : (xs ys : List ℕ) → AreWholeLines xs → AreWholeLines ys → AreWholeLines (xs ++ ys)
lines_then xs ys first others more =
    ap ended_lines (append_assoc xs ys more)
    ∙ (first (ys ++ more)
    ∙ (ap (λ (ls : List (List ℕ)). ended_lines xs ++ ls) (others more)
    ∙ (sym (append_assoc (ended_lines xs) (ended_lines ys) (ended_lines more))
    ∙ ap (λ (ls : List (List ℕ)). ls ++ ended_lines more) (sym (first ys)))))

-- bytes that a line feed ends
pub fed_lines : (xs : List ℕ) → AreWholeLines (xs ++ 10 ∷ [])
fed_lines [] more = refl
fed_lines (c ∷ cs) more = by_test (c == 10) (fed_lines cs more)
  where
    some_line : (text : List ℕ) (others : List (List ℕ)) → 0 < length text →
        onto_first c (ended_lines text ++ others) ≡ onto_first c (ended_lines text) ++ others
    some_line [] others some = absurd (omega (arith, some))
    some_line (b ∷ bs) others some = by_first (ended_lines (b ∷ bs)) (concat_lines (b ∷ bs))
      where
        by_first : (ls : List (List ℕ)) → concat ls ≡ b ∷ bs → onto_first c (ls ++ others) ≡ onto_first c ls ++ others
        by_first [] is = cc is
        by_first (l ∷ ls) is = refl

    by_test : (b : Bool) → ended_lines ((cs ++ 10 ∷ []) ++ more) ≡ ended_lines (cs ++ 10 ∷ []) ++ ended_lines more →
        (if b then (c ∷ []) ∷ ended_lines ((cs ++ 10 ∷ []) ++ more)
        else onto_first c (ended_lines ((cs ++ 10 ∷ []) ++ more)))
        ≡ (if b then (c ∷ []) ∷ ended_lines (cs ++ 10 ∷ []) else onto_first c (ended_lines (cs ++ 10 ∷ [])))
        ++ ended_lines more
    by_test true h = ap (λ (ls : List (List ℕ)). (c ∷ []) ∷ ls) h
    by_test false h =
        let size = length-append cs (10 ∷ []) in
        ap (onto_first c) h ∙ some_line (cs ++ 10 ∷ []) (ended_lines more) (omega (arith, size))

-- ---- a line that no line feed ends

one_line : (line : List ℕ) → IsUnfed line → 0 < length line → ended_lines line ≡ line ∷ []
one_line [] h some = absurd (omega (arith, some))
one_line (b ∷ []) h some = rw (h.0) refl
one_line (b ∷ c ∷ cs) h some = rw (h.0, one_line (c ∷ cs) h.1 (omega arith)) refl

abbrev pub second : Option (ℕ × ℕ) → ℕ
second None = 0
second (Some p) = p.1

-- it divides as a whole, or not at all
pub line_divides : (line : List ℕ) → IsUnfed line → (p : ℕ × ℕ) → divide line ≡ Some p → p.1 ≡ length line
line_divides [] unfed p h = cc (sym (divide_is []) ∙ h)
line_divides (b ∷ bs) unfed p h =
    let line = b ∷ bs in
    let lines : divide line ≡ places 0 (line ∷ []) =
    divide_is line ∙ ap (places 0) (one_line line unfed (omega arith)) in
    by_test (is_dividing_line line) (sym lines ∙ h)
  where
    by_test : (t : Bool) → (if t then Some (0, 0 + length (b ∷ bs)) else None) ≡ Some p → p.1 ≡ length (b ∷ bs)
    by_test true h = let e = ap second h in omega (arith, e)
    by_test false h = cc h
