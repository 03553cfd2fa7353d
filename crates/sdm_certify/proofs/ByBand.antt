-- Slopes that were read segment by segment, put band by band: as many, and each is one of those that were read.
use Rattle.std.proofs.Common.{◌≡◌, ℕ, zero, suc, ℤ, pos, ◌+◌, ◌*◌, ◌<◌, ◌≤◌, List, [], ◌∷◌, All, refl, length}
use Rattle.std.proofs.Common.{length-append, get_or, mul-le-mul_right, arith}
use Rattle.std.proofs.lemmas.List.Elements.{All-append, All-nil}
use Rattle.sdm_certify.specs.Lines.{slopes_by_band, slopes_of_band}
use Rattle.sdm_certify.proofs.ReadOn.{all_and}

module _ (bands : ℕ) (slopes : List ℤ) where
  -- one slope for each segment
  pub one_each : (band i : ℕ) → length (slopes_of_band bands slopes band i) ≡ i
  one_each band zero = refl
  one_each band (suc i) =
      let before = one_each band i in
      omega (
        arith,
        length-append (slopes_of_band bands slopes band i)
            (get_or slopes (i * bands + band) (pos 0) ∷ []),
        before,
      )

  -- and one for each band
  pub as_many : (segments b : ℕ) → length (slopes_by_band bands slopes segments b) ≡ b * segments
  as_many segments zero = omega arith
  as_many segments (suc b) =
      let before = as_many segments b in
      omega (
        arith,
        length-append (slopes_by_band bands slopes segments b) (slopes_of_band bands slopes b segments),
        before,
        one_each b segments,
      )

  module _ (P : ℤ → Type 0) (segments : ℕ) (all : All P slopes) (count : length slopes ≡ segments * bands) where
    -- what holds of all that were read holds of those of a band
    of_band : (band i : ℕ) → band < bands → i ≤ segments → All P (slopes_of_band bands slopes band i)
    of_band band zero known few = All-nil P
    of_band band (suc i) known few =
        let rows : suc i * bands ≤ segments * bands = mul-le-mul_right bands few in
        all_and P (slopes_of_band bands slopes band i) (get_or slopes (i * bands + band) (pos 0))
        (of_band band i known (omega (arith, few)))
        (all (i * bands + band) (pos 0) (omega (arith, rows, known, count)))

    -- and of all that are put
    pub of_all : (b : ℕ) → b ≤ bands → All P (slopes_by_band bands slopes segments b)
    of_all zero few = All-nil P
    of_all (suc b) few = All-append P (slopes_by_band bands slopes segments b) (slopes_of_band bands slopes b segments)
        (of_all b (omega (arith, few))) (of_band b segments (omega (arith, few)) (omega arith))
