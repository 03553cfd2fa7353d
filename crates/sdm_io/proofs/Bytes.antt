-- Bytes that are moved part by part: what a piece and what an input come to after one more call.
use Rattle.std.proofs.Common.{◌≡◌, ◌∙◌, ◌≤◌, ℕ, List, Option, ◌+◌, ◌-◌, ◌++◌, take, drop, length, length-append, ap}
use Rattle.std.proofs.Common.{arith}
use Rattle.std.proofs.Math.Seq.{take-add}
use Rattle.std.proofs.lemmas.Grind.{common_steps}
use Rattle.std.proofs.KnownBytes.{Consumes-trans}
use Rattle.sdm_io.specs.Told.{KeepsRead, ReadsExactly, ReadsWithin}

-- the first n bytes of a piece, and then m of what is left of it
pub prefix-more : (n m : ℕ) (xs : List ℕ) → n ≤ length xs →
    take n xs ++ take m (take (length xs - n) (drop n xs)) ≡ take (n + m) xs
prefix-more n m xs h = grind (arith, common_steps, take-add n m xs)

module _ (old mid new : Option (List ℕ)) (before now : List ℕ) (h : KeepsRead old mid before now) where
  -- at most so many bytes after those that were kept
  pub within_after : (few most : ℕ) → length now + few ≤ length before + most → ReadsWithin mid new few →
      ReadsWithin old new most
  within_after few most fits more =
      let count = ap length h.kept ∙ length-append before h.chunk in (
        h.chunk ++ more.0,
        Consumes-trans old mid new h.chunk more.0 h.read more.1,
        rw length-append (omega (arith, count, fits, more.2)),
      )

  -- exactly so many bytes after those that were kept
  pub exactly_after : (few count : ℕ) → length now + few ≡ length before + count → ReadsExactly mid new few →
      ReadsExactly old new count
  exactly_after few count is more =
      let kept = ap length h.kept ∙ length-append before h.chunk in (
        h.chunk ++ more.0,
        Consumes-trans old mid new h.chunk more.0 h.read more.1,
        rw length-append (omega (arith, kept, is, more.2)),
      )
