-- What the taking of bytes does to a history (own).
use Rattle.std.specs.Prelude.{◌≡◌, ℕ, List, ◌++◌, true}
use Rattle.sdm_live.specs.Exchanges.{History, came, sent, asked_at, is_given_on}
use Rattle.sdm_live.specs.Lines.{Coming}
use Rattle.sdm_live.specs.Progress.{Progress, Rules, with_bytes, with_end}

-- a text is the beginning of another
abbrev pub Begins : List ℕ → List ℕ → Type 0
Begins front all = (more : List ℕ) × (all ≡ front ++ more)

-- in the meantime the program didn't ask
pub record DidNotAsk (before now : History) : Type 0 where
  pub came_is : came now ≡ came before
  pub asked_is : asked_at now ≡ asked_at before

-- a state, what has come of a line, and the text so far
abbrev pub standing : {S : Type 0} → S → Coming → List ℕ → Progress S
standing state line text = record { state = state; line = line.bytes; is_over = line.is_over; text = text }

module _ {S : Type 0} (rules : Rules S) (state : S) (line : Coming) where
  -- what was handed over before being its text, these bytes lead to this state, line and text
  pub record IsTaken (bytes : List ℕ) (after : S) (left : Coming) (before now : History) : Type 0 where
    pub leads : with_bytes rules (standing state line (sent before)) bytes ≡ standing after left (sent now)
    pub quiet : DidNotAsk before now

  -- what was handed over is a beginning of the text to which they lead
  pub record IsTakenPart (bytes : List ℕ) (before now : History) : Type 0 where
    pub begins : Begins (sent now) (with_bytes rules (standing state line (sent before)) bytes).text
    pub quiet : DidNotAsk before now

  -- the end of a line leads to this state, line and text
  pub record IsEnded (after : S) (left : Coming) (before now : History) : Type 0 where
    pub leads : with_end rules (standing state line (sent before)) ≡ standing after left (sent now)
    pub quiet : DidNotAsk before now

  -- the end of a line was told in part, where the writing failed (own)
  pub record IsEndedPart (before now : History) : Type 0 where
    pub begins : Begins (sent now) (with_end rules (standing state line (sent before))).text
    pub quiet : DidNotAsk before now

  -- and all of it is with the peer
  pub record IsPieceAnswered (bytes : List ℕ) (after : S) (left : Coming) (before now : History) : Type 0 where
    pub taken : IsTaken bytes after left before now
    pub given_on : is_given_on now ≡ true

  -- the last line ended, and all that was told of it is with the peer (own)
  pub record IsRestAnswered (after : S) (left : Coming) (before now : History) : Type 0 where
    pub taken : IsEnded after left before now
    pub given_on : is_given_on now ≡ true
