-- What contracts see of a line that comes byte by byte (own).
use Rattle.std.specs.Prelude.{ℕ, List, Bool}

-- the bytes so far, none after one too many; and whether there was one too many, so that what comes up to the line's
-- end is passed over
pub record Coming : Type 0 where
  pub bytes : List ℕ
  pub is_over : Bool
