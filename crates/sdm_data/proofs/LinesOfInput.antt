-- The input is divided at the first line that divides: none of the lines before it does.
use Rattle.std.proofs.Common.{◌≡◌, ℕ, suc, ◌+◌, ◌-◌, ◌<◌, nat_lt, true, false, List, [], ◌∷◌, ◌++◌, Some, None, length}
use Rattle.std.proofs.Common.{take, position, arith, refl, ap, sym, ◌∙◌, length-append, append-nil, append_assoc}
use Rattle.std.proofs.Math.Seq.{get_or-append_seam, take-append_seam}
use Rattle.std.proofs.lemmas.Bool.Decides.{nat_tests}
use Rattle.std.proofs.lemmas.List.{get_or_append_left}
use Rattle.std.proofs.lemmas.List.Elements.{All-push}
use Rattle.std.proofs.lemmas.List.Folds.{concat-append}
use Rattle.std.proofs.lemmas.List.Sums.{position_or_len_is}
use Rattle.std.specs.List.{All, concat, position_or_len}
use Rattle.sdm_formats.specs.Lines.{ended_lines}
use Rattle.sdm_data.specs.Division.{divide, is_dividing_line}

-- none of the lines divides
abbrev NoneDivides : List (List ℕ) → Type 0
NoneDivides lines = All (λ line. is_dividing_line line ≡ false) lines

module _ (before : List (List ℕ)) (none : NoneDivides before) where
  -- the first that divides comes after them
  position_here : (line : List ℕ) (more : List (List ℕ)) → is_dividing_line line ≡ true →
      position is_dividing_line (before ++ line ∷ more) ≡ Some (length before)
  position_here line more is =
      let lines = before ++ line ∷ more in
      let long : length before < length lines = omega (arith, length-append before (line ∷ more)) in
      let here : position_or_len is_dividing_line lines ≡ length before =
      position_or_len_is is_dividing_line lines (length before) [] (omega arith)
      (λ k lt. rw (get_or_append_left before (line ∷ more) [] k lt) (none k [] lt))
      (λ _. rw (get_or-append_seam before line more []) is) in
      let test : nat_lt (length before) (length lines) ≡ true = grind (arith, nat_tests) in
      rw here (rw test refl)

  -- where none divides there is no place of one
  position_nowhere : position is_dividing_line before ≡ None
  position_nowhere =
      let end : position_or_len is_dividing_line before ≡ length before = position_or_len_is is_dividing_line before
      (length before) [] (omega arith) (λ k lt. none k [] lt) (λ lt. absurd (omega arith)) in
      let test : nat_lt (length before) (length before) ≡ false = grind (arith, nat_tests) in
      rw end (rw test refl)

-- what is left of an input, none of whose lines before it divides
pub record IsLeft (input rest : List ℕ) : Type 0 where
  pub before : List (List ℕ)
  pub lines : ended_lines input ≡ before ++ ended_lines rest
  pub none : NoneDivides before
  pub size : length (concat before) + length rest ≡ length input

-- at first all is left
pub all_left : (input : List ℕ) → IsLeft input input
all_left input = record { before = []; lines = refl; none = λ k d lt. absurd (omega arith); size = omega arith }

-- nothing is left
pub undivided : (input : List ℕ) → IsLeft input [] → divide input ≡ None
unfolding divide
undivided input h =
    let lines : ended_lines input ≡ h.before = h.lines ∙ append-nil h.before in
    rw lines (rw (position_nowhere h.before h.none) refl)

module _ (input rest line after : List ℕ) (h : IsLeft input rest) (first : ended_lines rest ≡ line ∷ ended_lines after)
    (whole : length line + length after ≡ length rest) where
  -- the lines of the input: those before, the first that is left, and those after it
  lines_are : ended_lines input ≡ h.before ++ line ∷ ended_lines after
  lines_are = h.lines ∙ ap (λ (more : List (List ℕ)). h.before ++ more) first

  -- the bytes of the lines up to this one and with it
  with_line : length (concat (h.before ++ line ∷ [])) ≡ length (concat h.before) + length line
  with_line = rw (concat-append h.before (line ∷ []), append-nil line) (length-append (concat h.before) line)

  -- the first line that is left does not divide
  pub passed : is_dividing_line line ≡ false → IsLeft input after
  passed other = record {
    before = h.before ++ line ∷ [];
    lines = lines_are ∙ sym (append_assoc h.before (line ∷ []) (ended_lines after));
    none = All-push (λ (l : List ℕ). is_dividing_line l ≡ false) h.before line h.none other;
    size = omega (arith, with_line, h.size, whole);
  }

  -- it divides
  pub divided : is_dividing_line line ≡ true →
      divide input ≡ Some (length input - length rest, length input - length after)
  unfolding divide
  divided is =
      let up_to : take (length h.before) (h.before ++ line ∷ ended_lines after)
      ≡ h.before = take-append_seam h.before (line ∷ ended_lines after) in
      let through : take (suc (length h.before)) (h.before ++ line ∷ ended_lines after) ≡ h.before ++ line
      ∷ [] = take_one_more h.before line (ended_lines after) in
      let start : length (concat h.before) ≡ length input - length rest = omega (arith, h.size) in
      let end : length (concat (h.before ++ line ∷ []))
      ≡ length input - length after = omega (arith, with_line, h.size, whole) in
      rw lines_are
      (rw (position_here h.before h.none line (ended_lines after) is) (rw (up_to, through, start, end) refl))
    where
      take_one_more : (xs : List (List ℕ)) (y : List ℕ) (ys : List (List ℕ)) →
          take (suc (length xs)) (xs ++ y ∷ ys) ≡ xs ++ y ∷ []
      take_one_more [] y ys = refl
      take_one_more (x ∷ xs) y ys = ap (λ (t : List (List ℕ)). x ∷ t) (take_one_more xs y ys)

-- the lines that are read so far, and the one at which the reading ends
pub ruleset divisions = (all_left, passed, divided, undivided)
