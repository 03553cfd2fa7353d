-- The slopes of a band are a row of the list of all slopes; its upper speeds rise with the bands.
use Rattle.std.proofs.Common.{◌≡◌, ℕ, zero, suc, ℤ, pos, negsuc, List, [], ◌∷◌, ◌++◌, map, length, get_or, slice_get}
use Rattle.std.proofs.Common.{unsigned_abs, ◌+◌, ◌*◌, ◌<◌, ◌*ℤ◌, ◌≤ℤ◌, ◌<ℤ◌, ap, refl, ◌∙◌, arith, length-append}
use Rattle.std.specs.List.{flat_map}
use Rattle.std.specs.Option.{option_map_or}
use Rattle.std.proofs.lemmas.Int.{ints}
use Rattle.std.proofs.lemmas.List.{length-map, get_or_append_left, get_or-append-add, get_or_default}
use Rattle.std.proofs.Math.ListN.{get_or-map}
use Rattle.sdm_rules.specs.declared.data.Band.{Band}
use Rattle.sdm_rules.specs.Slopes.{bands_of}
use Rattle.sdm_rules.specs.Data.{AreBands, HasBands}
use Rattle.sdm_rules.specs.Decelerations.{uppers_of}
use Rattle.sdm_num.specs.Units.{notches}
use Rattle.sdm_curve.specs.Maps.{AreUppers}

-- ---- rows

module _ {B U : Type 0} (f : B → U → ℤ) (us : List U) where
  -- a row for each band
  pub length_rows : (bs : List B) → length (flat_map (λ b. map (f b) us) bs) ≡ length bs * length us
  length_rows [] = omega arith
  length_rows (b ∷ bs) = length-append (map (f b) us) (flat_map (λ b. map (f b) us) bs)
      ∙ omega (arith, length_rows bs, length-map us (f b))

  -- at the index of a band and an element stands what the band gives for it
  pub get_or-rows : (bs : List B) (band i : ℕ) (d : U) → i < length us → get_or (flat_map (λ b. map (f b) us) bs)
      (band * length us + i) (pos 0) ≡ option_map_or (λ b. f b (get_or us i d)) (slice_get bs band) (pos 0)
  get_or-rows [] band i d lt = refl
  get_or-rows (b ∷ bs) zero i d lt =
      let long : i < length (map (f b) us) = rw length-map lt in
      let at : 0 * length us + i ≡ i = omega arith in
      ap (λ (k : ℕ). get_or (map (f b) us ++ flat_map (λ b. map (f b) us) bs) k (pos 0)) at
      ∙ get_or_append_left (map (f b) us) (flat_map (λ b. map (f b) us) bs) (pos 0) i long
      ∙ get_or_default (map (f b) us) i (pos 0) (f b d) long ∙ get_or-map (f b) us i d
  get_or-rows (b ∷ bs) (suc band) i d lt =
      let at : suc band * length us + i ≡ length (map (f b) us)
      + (band * length us + i) = omega (arith, length-map us (f b)) in
      ap (λ (k : ℕ). get_or (map (f b) us ++ flat_map (λ b. map (f b) us) bs) k (pos 0)) at ∙ get_or-append-add
      (map (f b) us) (flat_map (λ b. map (f b) us) bs) (band * length us + i) (pos 0) ∙ get_or-rows bs band i d lt

-- ---- upper speeds

-- they rise from above a speed in km/h, and all of so many bands but the last have one
record RiseFrom (above : ℤ) (bands : ℕ) (uppers : List ℕ) : Type 0 where
  count : bands_of uppers ≡ bands
  past : (i : ℕ) → i < length uppers → (pos (notches 1) *ℤ above) <ℤ pos (get_or uppers i 0)
  rise : (i j : ℕ) → i < j → j < length uppers → get_or uppers i 0 < get_or uppers j 0

-- no upper speed: one band
rise_none : (above : ℤ) (uppers : List ℕ) → uppers ≡ [] → RiseFrom above 1 uppers
rise_none above uppers is = record {
  count = ap (λ (xs : List ℕ). bands_of xs) is;
  past = λ i l. absurd (omega (arith, ap length is));
  rise = λ i j l m. absurd (omega (arith, ap length is));
}

module _ (above upper : ℤ) (x bands : ℕ) (uppers : List ℕ) (is : pos x ≡ pos (notches 1) *ℤ upper)
    (higher : above <ℤ upper) (h : RiseFrom upper bands uppers) where
  -- with one more in front, each lies above the lower speed
  past_more : (i : ℕ) → i < length (x ∷ uppers) → (pos (notches 1) *ℤ above) <ℤ pos (get_or (x ∷ uppers) i 0)
  past_more zero l = omega (arith, ints)
  past_more (suc i) l = omega (arith, ints, h.past i (omega arith))

  -- and they rise
  rise_in : (i j : ℕ) → i < j → j < length (x ∷ uppers) → get_or (x ∷ uppers) i 0 < get_or (x ∷ uppers) j 0
  rise_in i zero l m = absurd (omega arith)
  rise_in zero (suc j) l m = omega (arith, ints, h.past j (omega arith))
  rise_in (suc i) (suc j) l m = h.rise i j (omega arith) (omega arith)

  -- so there is one band more
  rise_more : RiseFrom above (suc bands) (x ∷ uppers)
  rise_more = record { count = (let count = h.count in omega arith); past = past_more; rise = rise_in }

-- an upper speed in notches, as a whole number
notches_is : (upper : ℤ) → pos 0 ≤ℤ upper → pos (notches (unsigned_abs upper)) ≡ pos (notches 1) *ℤ upper
notches_is (pos n) h = refl
notches_is (negsuc n) h = absurd (omega (arith, ints))

-- the upper speeds of bands in order rise
rise_from : (above : ℤ) (bands : List Band) → pos 0 ≤ℤ above → AreBands above bands →
    RiseFrom above (length bands) (uppers_of bands)
rise_from above [] low h = absurd h
rise_from above (b ∷ []) low h = rise_none above (uppers_of (b ∷ [])) (rw h refl)
rise_from above (b ∷ next ∷ more) low h =
    let upper = h.0 in
    let has = h.1 in
    let higher = h.2 in
    let above_0 : pos 0 ≤ℤ upper = omega (arith, ints) in
    rw has (rise_more above upper (notches (unsigned_abs upper)) (length (next ∷ more)) (uppers_of (next ∷ more))
    (notches_is upper above_0) higher (rise_from upper (next ∷ more) above_0 h.3))

-- as many bands as the train has
pub count_uppers : (bands : List Band) → HasBands bands → bands_of (uppers_of bands) ≡ length bands
count_uppers bands h = (rise_from (pos 0) bands (omega (arith, ints)) h.in_order).count

-- the upper speeds of a train's bands are those of a map
pub uppers_are : (bands : List Band) → HasBands bands → AreUppers (uppers_of bands)
uppers_are bands h =
    let rising = rise_from (pos 0) bands (omega (arith, ints)) h.in_order in
    record {
      few = rw rising.count h.few;
      positive = λ i l. omega (arith, ints, rising.past i l);
      rise = rising.rise;
    }
