-- What goes to and fro between a program and its peer, the other end of the line (own). A history has the newest first.
use Rattle.std.specs.Prelude.{◌≡◌, ℕ, ◌≤◌, Bool, true, false, List, [], ◌∷◌, ◌++◌, length, take, Option, Some, None, IfSome}
use Rattle.std.specs.Prelude.{Result, Ok, Err, ⊤}
use Rattle.std.specs.List.{AllByRecursion}

-- one call of the program, as it came out
pub data Exchange : Type 0 where
  Gave : List ℕ → Exchange  -- asked for more, the peer gave these bytes; none: its end
  Gave_fault : Exchange  -- asked for more, the peer failed
  Took : List ℕ → Exchange  -- handed a piece, it took these bytes of it
  Took_fault : Exchange  -- handed a piece, it failed and took none
  Given_on : Exchange  -- what was taken before is with the peer
  Held_fault : Exchange  -- giving it on failed

-- the calls so far, the newest first (own)
abbrev pub History : Type 0
History = List Exchange

-- the bytes that came from the peer, in their order
abbrev pub came : History → List ℕ
came [] = []
came (Gave bytes ∷ before) = came before ++ bytes
came (Gave_fault ∷ before) = came before
came (Took bytes ∷ before) = came before
came (Took_fault ∷ before) = came before
came (Given_on ∷ before) = came before
came (Held_fault ∷ before) = came before

-- the bytes that were handed over, in their order
abbrev pub sent : History → List ℕ
sent [] = []
sent (Gave bytes ∷ before) = sent before
sent (Gave_fault ∷ before) = sent before
sent (Took bytes ∷ before) = sent before ++ bytes
sent (Took_fault ∷ before) = sent before
sent (Given_on ∷ before) = sent before
sent (Held_fault ∷ before) = sent before

-- nothing that was handed over is held back
abbrev pub is_given_on : History → Bool
is_given_on [] = true
is_given_on (Gave bytes ∷ before) = is_given_on before
is_given_on (Gave_fault ∷ before) = is_given_on before
is_given_on (Took bytes ∷ before) = false
is_given_on (Took_fault ∷ before) = is_given_on before
is_given_on (Given_on ∷ before) = true
is_given_on (Held_fault ∷ before) = false

-- the moments at which the program asked for more: the history at each
abbrev pub asked_at : History → List History
asked_at [] = []
asked_at (Gave bytes ∷ before) = before ∷ asked_at before
asked_at (Gave_fault ∷ before) = before ∷ asked_at before
asked_at (Took bytes ∷ before) = asked_at before
asked_at (Took_fault ∷ before) = asked_at before
asked_at (Given_on ∷ before) = asked_at before
asked_at (Held_fault ∷ before) = asked_at before

-- since a start, what the bytes that came make due was handed over, that and nothing else, and is with the peer
pub record IsAnswered (due : List ℕ → List ℕ) (start now : History) : Type 0 where
  pub bytes : List ℕ
  pub came_is : came now ≡ came start ++ bytes
  pub sent_is : sent now ≡ sent start ++ due bytes
  pub given_on : is_given_on now ≡ true

-- PROMPT: whenever the program asked for more since a start, all that was due was with the peer
pub record IsPrompt (due : List ℕ → List ℕ) (start now : History) : Type 0 where
  pub asks : List History
  pub asks_are : asked_at now ≡ asks ++ asked_at start
  pub answered : AllByRecursion (IsAnswered due start) asks

-- ---- one call

-- what an ask was, by its answer and what the buffer has after it (own)
abbrev pub asked : {E : Type 0} → Result ℕ E → List ℕ → Exchange
asked (Ok n) buffer = Gave (take n buffer)
asked (Err e) buffer = Gave_fault

-- what a handing over was, by its answer and the piece (own)
abbrev pub handed : {E : Type 0} → Result ℕ E → List ℕ → Exchange
handed (Ok n) piece = Took (take n piece)
handed (Err e) piece = Took_fault

-- what a flush was, by its answer (own)
abbrev pub flushed : {A E : Type 0} → Result A E → Exchange
flushed (Ok a) = Given_on
flushed (Err e) = Held_fault

-- a fact of a history, where the peer tells it
abbrev pub Told : Option History → (History → Type 0) → Type 0
Told known P = IfSome known P

-- a fact of the histories before and after, where the peer tells them; one that doesn't tell it any more never does
abbrev pub Along : Option History → Option History → (History → History → Type 0) → Type 0
Along None None R = ⊤
Along None (Some k) R = ⊥
Along (Some h) None R = ⊤
Along (Some h) (Some k) R = R h k

-- a text was handed over in the meantime, and the program didn't ask
pub record IsHanded (before now : History) (text : List ℕ) : Type 0 where
  pub sent_is : sent now ≡ sent before ++ text
  pub came_is : came now ≡ came before
  pub asked_is : asked_at now ≡ asked_at before

-- a prefix of it was
abbrev pub IsHandedPart : History → History → List ℕ → Type 0
IsHandedPart before now text = (n : ℕ) × (n ≤ length text) × IsHanded before now (take n text)
