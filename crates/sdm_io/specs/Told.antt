-- The bytes that a source has left or that a sink has taken: some sources and sinks know them, others don't (own).
use Rattle.std.specs.Prelude.{◌≡◌, ℕ, ◌<◌, ◌≤◌, List, [], ◌++◌, length, take, Option, IfSome}
use Rattle.std.specs.Io.KnownBytes.{Appends, Consumes}

-- a fact of the bytes, where they are known
abbrev pub Told : Option (List ℕ) → (List ℕ → Type 0) → Type 0
Told known P = IfSome known P

-- a sink passed on all that it took, where it is known what it holds back
abbrev pub HoldsNothing : Option (List ℕ) → Type 0
HoldsNothing held = Told held (λ bytes. bytes ≡ [])

-- the bytes taken grew by a prefix of the piece, which may be nothing or all of it
abbrev pub AppendsPart : Option (List ℕ) → Option (List ℕ) → List ℕ → Type 0
AppendsPart old new piece = (n : ℕ) × (n ≤ length piece) × Appends old new (take n piece)

-- exactly this many bytes were read
abbrev pub ReadsExactly : Option (List ℕ) → Option (List ℕ) → ℕ → Type 0
ReadsExactly old new count = (bytes : List ℕ) × Consumes old new bytes × (length bytes ≡ count)

-- at most this many bytes were read
abbrev pub ReadsWithin : Option (List ℕ) → Option (List ℕ) → ℕ → Type 0
ReadsWithin old new most = (bytes : List ℕ) × Consumes old new bytes × (length bytes ≤ most)

-- at least one further byte was read, and kept after those that were kept before
pub record KeepsMore (old new : Option (List ℕ)) (before now : List ℕ) : Type 0 where
  pub chunk : List ℕ
  pub some : 0 < length chunk
  pub read : Consumes old new chunk
  pub kept : now ≡ before ++ chunk

-- the bytes that were read, if any, are kept after those that were kept before
pub record KeepsRead (old new : Option (List ℕ)) (before now : List ℕ) : Type 0 where
  pub chunk : List ℕ
  pub read : Consumes old new chunk
  pub kept : now ≡ before ++ chunk
