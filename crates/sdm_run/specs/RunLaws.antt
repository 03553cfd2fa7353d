-- The law of runs, as a statement: an input has one meaning, whatever its bytes (own).
use Rattle.std.specs.Prelude.{◌≡◌, ℕ, List}
use Rattle.sdm_rules.specs.Records.{Turn}
use Rattle.sdm_formats.specs.Input.{Reader, End, IsRun}

-- there are turns and an end of the input, and no others
pub record HasOneRun {Table Fields : Type 0} (reader : Reader Table Fields) (bytes : List ℕ) : Type 0 where
  pub turns : List Turn
  pub end : End
  pub is : IsRun reader bytes turns end
  pub only : (turns' : List Turn) (end' : End) → IsRun reader bytes turns' end' → (turns' ≡ turns) × (end' ≡ end)

-- all bytes have turns and an end, and no others, whatever the parts of an input are read by
abbrev pub LawOfOneRun : Type 0 → Type 0 → Type 0
LawOfOneRun Table Fields = (reader : Reader Table Fields) (bytes : List ℕ) → HasOneRun reader bytes
