-- Every opening is accepted or has a first fault: since slopes settle, each kind is decided by searches over finitely
-- many cells, band by band; the kinds follow one another, and the authority comes last.
use Rattle.std.proofs.Common.{◌≡◌, ℕ, ℤ, suc, pos, Option, Some, None, ◌<◌, ◌≤◌, ◌*ℤ◌, ◌≤ℤ◌, ◌<ℤ◌, refl, ap, subst}
use Rattle.std.proofs.Common.{arith, inl, inr, min}
use Rattle.std.specs.Prelude.{◌⊎◌}
use Rattle.std.proofs.lemmas.Int.{ints, by_lt_z}
use Rattle.std.proofs.lemmas.Bool.{cases_lt}
use Rattle.sdm_num.proofs.Ints.{scale-≤}
use Rattle.sdm_rules.specs.declared.authorities.Authority.{Authority}
use Rattle.sdm_rules.specs.declared.data.SlopeKind.{SlopeKind}
use Rattle.sdm_rules.specs.declared.data.SlopeKind.TheVariants.{Safe, Expected, Normal}
use Rattle.sdm_rules.specs.declared.faults.AuthorityFault.{AuthorityFault}
use Rattle.sdm_rules.specs.declared.faults.OpenFault.{OpenFault}
use Rattle.sdm_rules.specs.declared.faults.OpenFault.TheVariants.{TooWeak, TooVaried, BadAuthority}
use Rattle.sdm_rules.specs.Data.{TrainAndTrack}
use Rattle.sdm_rules.specs.Decelerations.{slope_at, q_of}
use Rattle.sdm_rules.specs.Records.{authority_fault}
use Rattle.sdm_rules.specs.Opening.{IsStrongAt, IsStrong, IsEven, IsRange, IsAcceptedKind, IsFirstWeak, IsFirstVaried}
use Rattle.sdm_rules.specs.Opening.{AreBefore, HasAcceptedSlopes, IsAccepted, IsOpenFault, band_count_of, variation_of}
use Rattle.sdm_rules.specs.Slopes.{least_slope}
use Rattle.sdm_laws.proofs.Openings.Settled.{settled_from, slope_settled}
use Rattle.sdm_laws.proofs.Openings.Search.{IsFirst, first_below, least_to, greatest_to}

module _ (kind : SlopeKind) (d : TrainAndTrack) where
  -- the slope of a band in a cell
  abbrev f : ℕ → ℕ → ℤ
  f band cell = slope_at kind d band (pos cell)

  -- the least slope that is accepted
  abbrev limit : ℤ
  limit = pos (least_slope (q_of d.train.rotating_mass))

  -- the cell from which on no slope changes
  abbrev n : ℕ
  n = settled_from d

  -- a cell up to the settled one with the same slope
  near : ℕ → ℕ
  near cell = min cell n

  -- the slope there is the same
  near_same : (band cell : ℕ) → f band (near cell) ≡ f band cell
  unfolding near
  near_same band cell = elim (cases_lt cell n) [
    | inl lt ↦ ap (f band) (omega arith)
    | inr ge ↦ slope_settled kind d band (min cell n) cell (omega arith) ge
  ]

  near_low : (cell : ℕ) → near cell ≤ n
  unfolding near
  near_low cell = omega arith

  -- ---- weakness

  -- the slope is below the least one
  abbrev WeakAt : ℕ → ℕ → Type 0
  WeakAt band cell = f band cell <ℤ limit

  strong_or_weak : (band cell : ℕ) → IsStrongAt kind d band cell ⊎ WeakAt band cell
  strong_or_weak band cell =
      by_lt_z (f band cell) limit (λ (lt : WeakAt band cell). inr lt) (λ (le : IsStrongAt kind d band cell). inl le)

  -- every slope of the band is strong
  abbrev IsStrongBand : ℕ → Type 0
  IsStrongBand band = (cell : ℕ) → IsStrongAt kind d band cell

  -- the band has a first cell with too low a slope
  abbrev HasWeakCell : ℕ → Type 0
  HasWeakCell band = (cell : ℕ) × IsFirst (IsStrongAt kind d band) (WeakAt band) (suc n) cell

  -- a band that is strong up to the settled cell is strong in every cell
  band_strong : (band : ℕ) → ((k : ℕ) → k < suc n → IsStrongAt kind d band k) → IsStrongBand band
  band_strong band h cell = let low =
      near_low cell in subst (λ (a : ℤ). limit ≤ℤ a) (near_same band cell) (h (near cell) (omega arith))

  -- a band is strong or has a first weak cell
  decide_band : (band : ℕ) → IsStrongBand band ⊎ HasWeakCell band
  decide_band band = elim (first_below (IsStrongAt kind d band) (WeakAt band) (strong_or_weak band) (suc n)) [
    | inl h ↦ inl (band_strong band h)
    | inr w ↦ inr w
  ]

  -- there is a first weak slope, by band and then by cell
  abbrev HasFirstWeak : Type 0
  HasFirstWeak = (band : ℕ) × ((cell : ℕ) × ((slope : ℤ) × IsFirstWeak kind d band cell slope))

  -- the first band with a weak cell, and its first one, make the first weak slope
  first_weak : (band : ℕ) → IsFirst IsStrongBand HasWeakCell (band_count_of d) band → HasFirstWeak
  first_weak band w = (
    band,
    (
      w.fails.0,
      (
        f band w.fails.0,
        record {
          known = w.known;
          value = refl;
          weak = w.fails.1.fails;
          lower_bands = λ b c lt. w.before b lt c;
          earlier_cells = w.fails.1.before;
        },
      ),
    ),
  )

  -- the slopes of the kind are strong, or there is a first weak one
  decide_strong : IsStrong kind d ⊎ HasFirstWeak
  decide_strong = elim (first_below IsStrongBand HasWeakCell decide_band (band_count_of d)) [
    | inl h ↦ inl (λ band cell lt. h band lt cell)
    | inr w ↦ inr (first_weak w.0 w.1)
  ]

  -- ---- variation

  -- the band's slopes, from the least to the greatest, vary too much
  abbrev HasRange : ℕ → Type 0
  HasRange band = (least : ℤ)
      × ((greatest : ℤ) × (IsRange kind d band least greatest × ((pos (variation_of d) *ℤ least) <ℤ greatest)))

  -- a band is even, or its range varies too much
  decide_even : (band : ℕ) → IsEven kind d band ⊎ HasRange band
  decide_even band =
      let low = least_to (f band) n in
      let high = greatest_to (f band) n in
      let above : (cell : ℕ) → f band low.0 ≤ℤ f band cell = λ cell.
      subst (λ (a : ℤ). f band low.0 ≤ℤ a) (near_same band cell) (low.1.least (near cell) (near_low cell)) in
      let below : (cell : ℕ) → f band cell ≤ℤ f band high.0 = λ cell.
      subst (λ (a : ℤ). a ≤ℤ f band high.0) (near_same band cell) (high.1.greatest (near cell) (near_low cell)) in
      by_lt_z (pos (variation_of d) *ℤ f band low.0) (f band high.0)
      (λ (lt : (pos (variation_of d) *ℤ f band low.0) <ℤ f band high.0).
      inr (
        f band low.0,
        (f band high.0, (record { low = (low.0, refl); high = (high.0, refl); above = above; below = below }, lt)),
      ))
      (λ (le : f band high.0 ≤ℤ (pos (variation_of d) *ℤ f band low.0)). inl (λ cell cell'.
      let one = below cell in
      let two = scale-≤ (variation_of d) _ _ (above cell') in
      omega (arith, ints, one, two, le)))

  -- there is a first band that varies too much, with its range
  abbrev HasFirstVaried : Type 0
  HasFirstVaried = (band : ℕ) × ((least : ℤ) × ((greatest : ℤ) × IsFirstVaried kind d band least greatest))

  -- the first band that is not even is the first varied one
  first_varied : IsStrong kind d → (band : ℕ) → IsFirst (IsEven kind d) HasRange (band_count_of d) band → HasFirstVaried
  first_varied strong band w = (
    band,
    (
      w.fails.0,
      (
        w.fails.1.0,
        record {
          strong = strong;
          known = w.known;
          range = w.fails.1.1.0;
          varied = w.fails.1.1.1;
          lower_bands = w.before;
        },
      ),
    ),
  )

  -- the kind's slopes are accepted, or they have a first fault
  abbrev IsDecidedKind : Type 0
  IsDecidedKind = IsAcceptedKind kind d ⊎ (HasFirstWeak ⊎ HasFirstVaried)

  -- slopes are looked at for weakness first, then for variation
  pub decide_kind : IsDecidedKind
  decide_kind = elim decide_strong [
    | inr weak ↦ inr (inl weak)
    | inl strong ↦ elim (first_below (IsEven kind d) HasRange decide_even (band_count_of d)) [
      | inl even ↦ inl (record { strong = strong; even = even })
      | inr w ↦ inr (inr (first_varied strong w.0 w.1))
    ]
  ]

-- the fault of a kind, where the kinds before it are accepted
fault_of_kind : (kind : SlopeKind) (d : TrainAndTrack) (a : Authority) → AreBefore kind d →
    HasFirstWeak kind d ⊎ HasFirstVaried kind d → (fault : OpenFault) × IsOpenFault d a fault
fault_of_kind kind d a before (inl w) =
    (TooWeak kind (suc w.0) (pos w.1.0) w.1.1.0, (before, (w.0, refl, (w.1.0, refl, w.1.1.1))))
fault_of_kind kind d a before (inr w) = (TooVaried kind (suc w.0) w.1.0 w.1.1.0, (before, (w.0, refl, w.1.1.1)))

-- the slopes of all kinds are accepted where those of each are
pub all_kinds : (d : TrainAndTrack) → IsAcceptedKind Safe d → IsAcceptedKind Expected d → IsAcceptedKind Normal d →
    HasAcceptedSlopes d
all_kinds d safe expected normal Safe = safe
all_kinds d safe expected normal Expected = expected
all_kinds d safe expected normal Normal = normal

-- where all slopes are accepted, the authority decides
by_authority : (d : TrainAndTrack) (a : Authority) → HasAcceptedSlopes d → (o : Option AuthorityFault) →
    authority_fault d.track.length_cm a ≡ o → IsAccepted d a ⊎ ((fault : OpenFault) × IsOpenFault d a fault)
by_authority d a usable None e = inl (usable, e)
by_authority d a usable (Some fault) e = inr (BadAuthority fault, (usable, e))

-- every opening is accepted or has a first fault
pub decided : (d : TrainAndTrack) (a : Authority) → IsAccepted d a ⊎ ((fault : OpenFault) × IsOpenFault d a fault)
decided d a = elim (decide_kind Safe d) [
  | inr w ↦ inr (fault_of_kind Safe d a tt w)
  | inl safe ↦ elim (decide_kind Expected d) [
    | inr w ↦ inr (fault_of_kind Expected d a safe w)
    | inl expected ↦ elim (decide_kind Normal d) [
      | inr w ↦ inr (fault_of_kind Normal d a (safe, expected) w)
      | inl normal ↦ by_authority d a (all_kinds d safe expected normal) (authority_fault d.track.length_cm a) refl
    ]
  ]
]
