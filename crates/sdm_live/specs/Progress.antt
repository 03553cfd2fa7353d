-- What bytes make due, line by line: the text that a step tells of each line (own).
use Rattle.std.specs.Prelude.{ℕ, Bool, true, false, List, [], ◌∷◌, ◌++◌, length, ◌==◌, ◌||◌, nat_lt}

-- how lines are taken: what a line makes of a state, the text told of the line taken last, and the text told of a line
-- that is too long, which makes nothing of the state
pub record Rules (S : Type 0) : Type 0 where
  pub next : S → List ℕ → S
  pub told : S → List ℕ
  pub too_long : List ℕ

-- where the taking of bytes stands: the state after the lines so far, what has come of the next line, whether that was
-- too long, and the text told so far
pub record Progress (S : Type 0) : Type 0 where
  pub state : S
  pub line : List ℕ
  pub is_over : Bool
  pub text : List ℕ

-- the most bytes of a line, without its end
abbrev pub longest_line : ℕ
longest_line = 1_024

-- a line ends by LF or by CR; by CR and LF too, since an empty line is none
abbrev pub ends_line : ℕ → Bool
ends_line b = (b == 10) || (b == 13)

module _ {S : Type 0} (rules : Rules S) where
  -- a line ends: it is taken, if it has a byte
  abbrev pub end_of : List ℕ → Progress S → Progress S
  end_of [] p = record p { line = []; is_over = false }
  end_of (b ∷ bs) p =
      let after = rules.next p.state (b ∷ bs) in
      record { state = after; line = []; is_over = false; text = p.text ++ rules.told after }

  -- the line that has come so far ends (own)
  abbrev pub with_end : Progress S → Progress S
  with_end p = end_of p.line p

  -- a byte of a line that has come so far, too many or not: the first too many is answered, the rest is passed over
  abbrev pub more_of : Bool → Bool → Progress S → ℕ → Progress S
  more_of true has_room p b = p
  more_of false true p b = record p { line = p.line ++ b ∷ [] }
  more_of false false p b = record p { line = []; is_over = true; text = p.text ++ rules.too_long }

  -- one byte
  abbrev pub byte_of : Bool → Progress S → ℕ → Progress S
  byte_of true p b = with_end p
  byte_of false p b = more_of p.is_over (nat_lt (length p.line) longest_line) p b

  -- one byte more (own)
  abbrev pub with_byte : Progress S → ℕ → Progress S
  with_byte p b = byte_of (ends_line b) p b

  -- bytes more, one after the other (own)
  abbrev pub with_bytes : Progress S → List ℕ → Progress S
  with_bytes p [] = p
  with_bytes p (b ∷ bs) = with_bytes (with_byte p b) bs

  -- nothing has come, after a text
  abbrev pub start : S → List ℕ → Progress S
  start state text = record { state = state; line = []; is_over = false; text = text }

  -- THE TEXT DUE for the bytes that came
  abbrev pub due : S → List ℕ → List ℕ
  due state bytes = (with_bytes (start state []) bytes).text

  -- THE WHOLE TEXT of the bytes of an input, whose end ends the last line
  abbrev pub whole : S → List ℕ → List ℕ
  whole state bytes = (with_end (with_bytes (start state []) bytes)).text
