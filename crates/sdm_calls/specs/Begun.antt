-- The session that a data part opens (own).
use Rattle.std.specs.Prelude.{◌≡◌, ℕ, List, [], false}
use Rattle.sdm_opening.specs.Openings.{IsOpeningOf}
use Rattle.sdm_live.specs.Lines.{Coming}
use Rattle.sdm_live_records.specs.Live.{LiveState}

-- it is before the first record, in the state that the data open
pub record IsBegunBy (given : List ℕ) (records : LiveState) (line : Coming) : Type 0 where
  pub opens : IsOpeningOf given records.supervision
  pub nothing_told : records.text ≡ []
  pub nothing_came : line ≡ record { bytes = []; is_over = false }
