-- A corner is the curve's own place at its band's square that is nearest to the foot's.
use Rattle.std.proofs.Common.{◌≡◌, ℕ, ℤ, zero, suc, length, get_or, ◌*◌, ◌<◌, ◌≤◌, ap, arith, refl, sym, rules, ◌∙◌}
use Rattle.std.proofs.Common.{inl, inr}
use Rattle.std.proofs.lemmas.Bool.{cases_lt}
use Rattle.std.proofs.lemmas.Nat.{mul-le, mul-lt}
use Rattle.std.proofs.Math.Nat.{mul-le-mul_left, mul-lt-mul_of_pos_left}
use Rattle.sdm_num.specs.Fractions.{Fraction, whole}
use Rattle.sdm_rules.specs.Slopes.{Slopes, IsUsable}
use Rattle.sdm_rules.specs.Motion.{IsInBand}
use Rattle.sdm_rules.specs.Curves.{Corner, place_at}
use Rattle.sdm_laws.specs.Levels.{nearest, lower_speed}
use Rattle.sdm_laws.proofs.OneBand.BothWays.{arc_none}
use Rattle.sdm_laws.proofs.BrakeCurves.Bands.{band_at, in_its_band, border_above, border_below, past_lower}
use Rattle.sdm_laws.proofs.BrakeCurves.Bands.{within_upper, band_least}
use Rattle.sdm_laws.proofs.BrakeCurves.Corners.{at, place_in, corner_own, corner_below, corner_above, outwards, foot_at}
use Rattle.sdm_laws.proofs.BrakeCurves.Corners.{own_of, at_pos, place_is, between}

-- ---- the speed of a band nearest to the foot's

-- of two speeds the squares tell the order
lesser_speed : (s v w : ℕ) → s * (v * v) < s * (w * w) → v < w
lesser_speed s v w lt = elim (cases_lt v w) [
  | inl l ↦ l
  | inr ge ↦ absurd (omega (arith, mul-le-mul_left s (mul-le w w v v ge ge)))
]

no_greater_speed : (s v w : ℕ) → 0 < s → s * (v * v) ≤ s * (w * w) → v ≤ w
no_greater_speed s v w p le = elim (cases_lt w v) [
  | inl l ↦ absurd (omega (arith, mul-lt-mul_of_pos_left (mul-lt w w v v l l) p))
  | inr ge ↦ ge
]

-- the speed is in the band
nearest_in : (on : Slopes) (band w : ℕ) → lower_speed on band ≤ w →
    (band < length on.uppers → w ≤ get_or on.uppers band 0) →
    nearest on band w ≡ w
nearest_in on band w low high = elim (cases_lt band (length on.uppers)) [
  | inl lt ↦ (let top = high lt in search rules)
  | inr ge ↦ search rules
]

-- or past it
nearest_top : (on : Slopes) (band w : ℕ) → band < length on.uppers → get_or on.uppers band 0 < w →
    lower_speed on band ≤ get_or on.uppers band 0 → nearest on band w ≡ get_or on.uppers band 0
nearest_top on band w known lt low = search rules

-- or not yet in it
pub nearest_low : (on : Slopes) (band w : ℕ) → w ≤ lower_speed on band →
    (band < length on.uppers → lower_speed on band ≤ get_or on.uppers band 0) → nearest on band w ≡ lower_speed on band
nearest_low on band w le rise = elim (cases_lt w (lower_speed on band)) [
  | inr ge ↦ (let same : w ≡ lower_speed on band = omega arith in
      nearest_in on band w ge (λ lt. omega (arith, rise lt)) ∙ same)
  | inl low ↦ elim (cases_lt band (length on.uppers)) [
    | inl lt ↦ (let top : w ≤ get_or on.uppers band 0 = omega (arith, rise lt) in search rules)
    | inr ge ↦ search rules
  ]
]

module _ (on : Slopes) (s : ℕ) (usable : IsUsable on) (s_pos : 0 < s) (w : ℕ) where
  -- the foot's speed against the borders
  past_border : (band : ℕ) → band < own_of on s w → get_or on.uppers band 0 < w
  past_border band lt = lesser_speed s _ w (past_lower on s (s * (w * w)) band lt)

  before_border : (band : ℕ) → own_of on s w ≤ band → band < length on.uppers → w ≤ get_or on.uppers band 0
  before_border band le lt = no_greater_speed s w _ s_pos (within_upper on s (s * (w * w)) band usable le lt)

  speeds_rise : (band : ℕ) → band < length on.uppers → lower_speed on band ≤ get_or on.uppers band 0
  speeds_rise zero lt = omega arith
  speeds_rise (suc band) lt = usable.rising band (suc band) (omega arith) lt

  -- the nearest speed of the foot's own band is the foot's, and of another the border's on the way there
  pub nearest_own : nearest on (own_of on s w) w ≡ w
  nearest_own = nearest_in on (own_of on s w) w (speed_past (own_of on s w) (omega arith))
      (before_border (own_of on s w) (omega arith))
    where
      speed_past : (band : ℕ) → band ≤ own_of on s w → lower_speed on band ≤ w
      speed_past zero le = omega arith
      speed_past (suc band) le = omega (arith, past_border band le)

  pub nearest_below : (band : ℕ) → band < own_of on s w → nearest on band w ≡ get_or on.uppers band 0
  nearest_below band lt =
      let known : band < length on.uppers = omega (arith, (in_its_band on s (s * (w * w))).known) in
      nearest_top on band w known (past_border band lt) (speeds_rise band known)

  pub nearest_above : (band : ℕ) → own_of on s w ≤ band → band < length on.uppers →
      nearest on (suc band) w ≡ get_or on.uppers band 0
  nearest_above band ge lt = nearest_low on (suc band) w (before_border band ge lt) (λ l. speeds_rise (suc band) l)

  -- from it a band goes on away from the foot's speed
  pub nearest_between : (band v : ℕ) → IsInBand on s band (s * (v * v)) →
      (nearest on band w < v → w ≤ nearest on band w) × (v < nearest on band w → nearest on band w ≤ w)
  nearest_between band v h = elim (cases_lt band (own_of on s w)) [
    | inl lt ↦ rw (nearest_below band lt) (
      λ l. absurd (omega (
        arith,
        no_greater_speed s v _ s_pos (h.below (omega (arith, (in_its_band on s (s * (w * w))).known))),
      )),
      λ _. omega (arith, past_border band lt),
    )
    | inr ge ↦ elim (cases_lt (own_of on s w) band) [
      | inr le ↦ (let own_is : own_of on s w ≡ band = omega arith in
          rw (rw own_is at nearest_own) (λ l. omega arith, λ l. omega arith))
      | inl past ↦ beyond band h past
    ]
  ]
    where
      beyond : (band : ℕ) → IsInBand on s band (s * (v * v)) → own_of on s w < band →
          (nearest on band w < v → w ≤ nearest on band w) × (v < nearest on band w → nearest on band w ≤ w)
      beyond zero h lt = absurd (omega arith)
      beyond (suc band) h lt =
          let known : band < length on.uppers = omega (arith, h.known) in
          rw (nearest_above band (omega arith) known) (
            λ _. before_border band (omega arith) known,
            λ l. absurd (omega (arith, no_greater_speed s _ v s_pos h.above)),
          )

-- ---- corners

module _ (round : Fraction → Fraction) (on : Slopes) (s : ℕ) (usable : IsUsable on) (s_pos : 0 < s)
    (stays : (x : Fraction) → round (round x) ≡ round x) (wholes : (a : ℤ) → round (whole a) ≡ whole a) (f : ℤ)
    (w : ℕ) where
  abbrev own : ℕ
  own = own_of on s w

  abbrev corner_of : ℕ → Corner
  corner_of = at round on s (foot_at s f w) own

  -- a corner is in its band, at the square nearest to the foot's, and rounded
  pub record IsCorner (band : ℕ) (c : Corner) : Type 0 where
    pub inside : IsInBand on s band c.square
    pub rounded : round c.place ≡ c.place
    pub square : c.square ≡ s * (nearest on band w * nearest on band w)

  pub is_corner : (band : ℕ) → band ≤ length on.uppers → IsCorner band (corner_of band)
  is_corner band known =
      let foot_in = in_its_band on s (s * (w * w)) in
      outwards round on s (foot_at s f w) own foot_in.known
      (λ n band. IsCorner band (corner_of band))
      (rw (corner_own round on s (foot_at s f w) own) record {
        inside = foot_in;
        rounded = wholes _;
        square = rw (nearest_own on s usable s_pos w) refl;
      })
      (λ n band lt h. rw (corner_below round on s (foot_at s f w) own band lt) record {
        inside = border_below on s band usable (omega (arith, foot_in.known));
        rounded = stays _;
        square = rw (nearest_below on s usable s_pos w band lt) refl;
      })
      (λ n band ge lt h. rw (corner_above round on s (foot_at s f w) own band ge) record {
        inside = border_above on s band usable lt;
        rounded = stays _;
        square = rw (nearest_above on s usable s_pos w band ge lt) refl;
      })
      _ band refl known

  -- ---- a square in two bands has one place

  -- a lesser square, or the same place
  abbrev IsOne : Fraction → ℕ → Fraction → ℕ → Type 0
  IsOne y u x v = (v ≤ u) × (u ≡ v → y ≡ x)

  pub place_any : ((x : Fraction) → 0 < x.m → 0 < (round x).m) → (band z : ℕ) → IsInBand on s band z →
      place_in round on s (foot_at s f w) own band z ≡ place_at round on s f w z
  place_any kept band z h =
      (between round on s (foot_at s f w) own IsOne
      (λ y x z u v w h k. (
        omega (arith, h.0, k.0),
        λ e. h.1 (omega (arith, h.0, k.0)) ∙ k.1 (omega (arith, h.0, k.0)),
      ))
      (λ band x u z' z h' h le p. (le, λ e. rw e refl)) usable stays (at_pos round on s usable s_pos kept f w)
      (band_at on s z) band z z (band_least on s z band h) (in_its_band on s z) h (omega arith)).1 refl
      ∙ sym (place_is round on s f w z)

  -- the place of the band's square that is nearest to the foot's
  pub corner_is : ((x : Fraction) → 0 < x.m → 0 < (round x).m) → (band : ℕ) → band ≤ length on.uppers →
      (corner_of band).place ≡ place_at round on s f w (s * (nearest on band w * nearest on band w))
  corner_is kept band known =
      let h = is_corner band known in
      sym h.rounded
      ∙ (ap round (sym (arc_none on s band _ _)) ∙ (place_any kept band (corner_of band).square h.inside
      ∙ ap (place_at round on s f w) h.square))
