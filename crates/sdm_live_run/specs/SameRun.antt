-- What the text of `run` is to a live run (own).
use Rattle.std.specs.Prelude.{◌≡◌, ℕ, List, ◌++◌}
use Rattle.sdm_formats.specs.Flat.{Output}
use Rattle.sdm_formats.specs.Input as ends
use Rattle.sdm_run.specs.declared.words.Command.TheVariants.{Run}
use Rattle.sdm_run.specs.Commands.{IsOutputOf}
use Rattle.sdm_live.specs.Exchanges.{History, came, sent}
use Rattle.sdm_live_laws.specs.SameRows.{rows_in}

module _ (start : History) where
  -- THE TEXT OF `run`: where it accepts the bytes that came, the rows in what was handed over are its text
  pub record IsRunLive (now : History) : Type 0 where
    pub bytes : List ℕ
    pub text : List ℕ
    pub came_is : came now ≡ came start ++ bytes
    pub sent_is : sent now ≡ sent start ++ text
    pub rows : (output : Output) → IsOutputOf Run bytes output → output.end ≡ ends.Done → rows_in text ≡ output.text
