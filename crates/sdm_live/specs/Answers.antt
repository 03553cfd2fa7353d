-- How the loop ended, and what the peer had of it then (own).
use Rattle.std.specs.Prelude.{◌≡◌, ℕ, ◌+◌, ◌-◌, ◌^◌, ◌++◌, List, length, true}
use Rattle.sdm_live.specs.declared.live.Ended.{Ended}
use Rattle.sdm_live.specs.declared.live.Ended.TheVariants.{Done, ReadFault, WriteFault, Endless}
use Rattle.sdm_live.specs.Exchanges.{History, asked_at, came, sent, is_given_on, IsAnswered}
use Rattle.sdm_live.specs.Taken.{Begins}

-- how often the loop asks at most: 584 years of a thousand million asks a second (own)
abbrev pub most_asks : ℕ
most_asks = 2 ^ 64 - 1

module _ (due whole : List ℕ → List ℕ) (start : History) where
  -- the whole text of the bytes that came since the start is with the peer
  pub record IsWhole (now : History) : Type 0 where
    pub bytes : List ℕ
    pub came_is : came now ≡ came start ++ bytes
    pub sent_is : sent now ≡ sent start ++ whole bytes
    pub given_on : is_given_on now ≡ true

  -- what was handed over since the start begins the whole text of the bytes that came
  pub record IsCut (now : History) : Type 0 where
    pub bytes : List ℕ
    pub came_is : came now ≡ came start ++ bytes
    pub begins : Begins (sent now) (sent start ++ whole bytes)

  -- the loop asked as often as it counts, and at the last time all that was due was with the peer
  pub record IsOutOfAsks (now : History) : Type 0 where
    pub answered : IsAnswered due start now
    pub asks : length (asked_at now) ≡ most_asks + length (asked_at start)

  -- what an end says: the whole text; after a fault of the reading, and after the most asks, all that was due; after a
  -- fault of the writing a beginning of the whole text
  abbrev pub IsLiveAnswer : Ended → History → Type 0
  IsLiveAnswer Done now = IsWhole now
  IsLiveAnswer ReadFault now = IsAnswered due start now
  IsLiveAnswer WriteFault now = IsCut now
  IsLiveAnswer Endless now = IsOutOfAsks now
