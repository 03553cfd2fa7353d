-- What contracts see of a peer that takes byte by byte (own).
use Rattle.std.specs.Prelude.{ℕ, Bool, List, [], ◌∷◌, Option, Some, None, if◌then◌else◌}
use Rattle.sdm_live.specs.Exchanges.{History, Took}

-- bytes that were taken one by one after a history
abbrev pub taken_onto : History → List ℕ → History
taken_onto h [] = h
taken_onto h (b ∷ bs) = taken_onto (Took (b ∷ []) ∷ h) bs

-- the history of bytes that were taken, unless something is lost
abbrev pub history_of : Bool → List ℕ → Option History
history_of lost text = if lost then None else Some (taken_onto [] text)
