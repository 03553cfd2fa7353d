-- What is due, in the words of lines: byte by byte, a line that is short so far, or one byte too many already.
use Rattle.std.proofs.Common.{◌≡◌, ◌∙◌, ◌≤◌, ◌<◌, ◌+◌, if◌then◌else◌, nat_lt, ℕ, Bool, true, false, List, []}
use Rattle.std.proofs.Common.{◌∷◌, ◌++◌, length, length-append, refl, sym, ap, subst, append_assoc, append-nil, arith}
use Rattle.std.proofs.Common.{inl, inr}
use Rattle.std.proofs.lemmas.Bool.{cases_Bool, le-leb, lt-leb, ltb-false, ltb-true}
use Rattle.sdm_live.specs.ByLines.{answers, begun, lines_after, lines_of}
use Rattle.sdm_live.specs.Progress.{Progress, Rules, byte_of, due, ends_line, longest_line, more_of, start, whole}
use Rattle.sdm_live.specs.Progress.{with_byte, with_bytes}
use Rattle.sdm_live.specs.Progress.{with_end}
use Rattle.sdm_live.specs.Taken.{Begins}
use Rattle.sdm_live.proofs.Taking.{append, begins_then, end_grows, grows}

module _ {S : Type 0} (rules : Rules S) where
  pub due_later : (state : S) (bytes more : List ℕ) → Begins (due rules state bytes) (due rules state (bytes ++ more))
  due_later state bytes more =
      let B : Progress S → Type 0 = λ p. Begins (due rules state bytes) p.text in
      subst B (sym (append rules bytes more (start rules state [])))
      (grows rules more (with_bytes rules (start rules state []) bytes))

  pub due_end : (state : S) (bytes more : List ℕ) → Begins (due rules state bytes) (whole rules state (bytes ++ more))
  due_end state bytes more =
      let p = with_bytes rules (start rules state []) (bytes ++ more) in
      begins_then (due rules state bytes) p.text (whole rules state (bytes ++ more)) (due_later state bytes more)
      (end_grows rules p.line p)

  abbrev short : S → List ℕ → List ℕ → Progress S
  short state line text = record { state = state; line = line; is_over = false; text = text }

  abbrev over : S → List ℕ → Progress S
  over state text = record { state = state; line = []; is_over = true; text = text }

  abbrev finished : Progress S → List ℕ → List ℕ
  finished p bytes = (with_end rules (with_bytes rules p bytes)).text

  -- a short line is taken and answered, before lines
  short_answers : (state : S) (line : List ℕ) (lines : List (List ℕ)) → length line ≤ longest_line →
      answers rules state (line ∷ lines)
      ≡ rules.told (rules.next state line) ++ answers rules (rules.next state line) lines
  short_answers state line lines h = rw (le-leb (length line) longest_line h) refl

  long_answers : (state : S) (line : List ℕ) (lines : List (List ℕ)) → longest_line < length line →
      answers rules state (line ∷ lines) ≡ rules.too_long ++ answers rules state lines
  long_answers state line lines h = rw (lt-leb (length line) longest_line h) refl

  long_begun : (state : S) (line : List ℕ) (lines : List (List ℕ)) → longest_line < length line →
      answers rules state (begun line lines) ≡ rules.too_long ++ answers rules state lines
  long_begun state [] lines h = absurd (omega (arith, h))
  long_begun state (b ∷ bs) lines h = long_answers state (b ∷ bs) lines h

  -- after the end of a line that is short, or was too long
  abbrev Ended : List ℕ → Type 0
  Ended cs = (state : S) (text : List ℕ) →
      finished (short state [] text) cs ≡ text ++ answers rules state (lines_after [] cs)

  short_end : (cs : List ℕ) → Ended cs → (state : S) (line text : List ℕ) → length line ≤ longest_line →
      finished (with_end rules (short state line text)) cs
      ≡ text ++ answers rules state (begun line (lines_after [] cs))
  short_end cs ih state [] text h = ih state text
  short_end cs ih state (b ∷ bs) text h =
      let after = rules.next state (b ∷ bs) in
      let more = lines_after [] cs in
      ih after (text ++ rules.told after)
      ∙ (append_assoc text (rules.told after) (answers rules after more)
      ∙ ap (λ t. text ++ t) (sym (short_answers state (b ∷ bs) more h)))

  long_end : (cs : List ℕ) → Ended cs → (state : S) (line text : List ℕ) → longest_line < length line →
      finished (short state [] (text ++ rules.too_long)) cs
      ≡ text ++ answers rules state (begun line (lines_after [] cs))
  long_end cs ih state line text h =
      let more = lines_after [] cs in
      ih state (text ++ rules.too_long)
      ∙ (append_assoc text rules.too_long (answers rules state more)
      ∙ ap (λ t. text ++ t) (sym (long_begun state line more h)))

  -- at the end of the text
  at_rest : (state : S) (line text : List ℕ) → length line ≤ longest_line →
      (with_end rules (short state line text)).text ≡ text ++ answers rules state (begun line [])
  at_rest state [] text h = sym (append-nil text)
  at_rest state (b ∷ bs) text h =
      let after = rules.next state (b ∷ bs) in
      ap (λ t. text ++ t) (sym (append-nil (rules.told after)) ∙ sym (short_answers state (b ∷ bs) [] h))

  long_rest : (state : S) (line text : List ℕ) → longest_line < length line →
      text ++ rules.too_long ≡ text ++ answers rules state (begun line [])
  long_rest state line text h =
      ap (λ t. text ++ t) (sym (append-nil rules.too_long) ∙ sym (long_begun state line [] h))

  longer : (line : List ℕ) (c : ℕ) → length (line ++ c ∷ []) ≡ length line + 1
  longer line c = length-append line (c ∷ [])

  abbrev WhileShort : List ℕ → Type 0
  WhileShort bytes = (state : S) (line text : List ℕ) → length line ≤ longest_line →
      finished (short state line text) bytes ≡ text ++ answers rules state (lines_after line bytes)

  abbrev WhileLong : List ℕ → Type 0
  WhileLong bytes = (state : S) (line text : List ℕ) → longest_line < length line →
      finished (over state (text ++ rules.too_long)) bytes ≡ text ++ answers rules state (lines_after line bytes)

  -- a byte that ends no line: there is room for it, or it is one too many
  joins : (c : ℕ) (cs : List ℕ) → ends_line c ≡ false → WhileShort cs → WhileLong cs → (state : S) (line text : List ℕ) →
      length line ≤ longest_line → finished (with_byte rules (short state line text) c) cs
      ≡ text ++ answers rules state (lines_after (line ++ c ∷ []) cs)
  joins c cs not on over_on state line text h =
      let p = short state line text in
      let n = longer line c in
      ap (λ e. finished (byte_of rules e p c) cs) not
      ∙ elim (cases_Bool (nat_lt (length line) longest_line)) [
        | inl room ↦
            let less = ltb-true (length line) longest_line room in
            ap (λ r. finished (more_of rules false r p c) cs) room
            ∙ on state (line ++ c ∷ []) text (omega (arith, less, n))
        | inr none ↦
            let full = ltb-false (length line) longest_line none in
            ap (λ r. finished (more_of rules false r p c) cs) none
            ∙ over_on state (line ++ c ∷ []) text (omega (arith, full, n))
      ]

  -- the lines from a byte on, by whether it ends one
  abbrev lines_by : Bool → List ℕ → ℕ → List ℕ → List (List ℕ)
  lines_by ends line c cs = if ends then begun line (lines_after [] cs) else lines_after (line ++ c ∷ []) cs

  lines_are : (ends : Bool) (state : S) (line text : List ℕ) (c : ℕ) (cs : List ℕ) (p : Progress S) →
      ends_line c ≡ ends →
      finished (byte_of rules ends p c) cs ≡ text ++ answers rules state (lines_by ends line c cs) →
      finished p (c ∷ cs) ≡ text ++ answers rules state (lines_after line (c ∷ cs))
  lines_are ends state line text c cs p is h =
      let B : Bool → Type 0 = λ e.
      finished (byte_of rules e p c) cs ≡ text ++ answers rules state (lines_by e line c cs) in
      subst B (sym is) h

  abbrev Both : List ℕ → Type 0
  Both bytes = WhileShort bytes × WhileLong bytes

  both : (bytes : List ℕ) → Both bytes
  both [] = (λ state line text h. at_rest state line text h, λ state line text h. long_rest state line text h)
  both (c ∷ cs) =
      let ih = both cs in
      let ended : Ended cs = λ state text. ih.0 state [] text (omega arith) in
      elim (cases_Bool (ends_line c)) [
        | inl is ↦ (
          λ state line text h. lines_are true state line text c cs (short state line text) is
              (short_end cs ended state line text h),
          λ state line text h. lines_are true state line text c cs (over state (text ++ rules.too_long)) is
              (long_end cs ended state line text h),
        )
        | inr not ↦ (
          λ state line text h. lines_are false state line text c cs (short state line text) not
              (sym (ap (λ e. finished (byte_of rules e (short state line text) c) cs) not)
              ∙ joins c cs not ih.0 ih.1 state line text h),
          λ state line text h.
              let n = longer line c in
              lines_are false state line text c cs (over state (text ++ rules.too_long)) not
              (ih.1 state (line ++ c ∷ []) text (omega (arith, h, n))),
        )
      ]

  pub due_lines : (state : S) (bytes : List ℕ) → whole rules state bytes ≡ answers rules state (lines_of bytes)
  due_lines state bytes = (both bytes).0 state [] [] (omega arith)
