-- A slope map whose segments give the slopes of a kind stands for them; so it is accepted, or its first fault is
-- theirs, over all cells from 0 on.
use Rattle.std.proofs.Common.{◌≡◌, ℕ, ℤ, pos, ◌<◌, ◌≤◌, ◌*ℤ◌, ◌≤ℤ◌, ◌<ℤ◌, length, unsigned_abs, ap, subst, arith, refl}
use Rattle.std.proofs.Common.{sym, inl, inr, ◌∙◌}
use Rattle.std.proofs.lemmas.Int.{ints}
use Rattle.std.proofs.lemmas.Bool.{cases_lt}
use Rattle.std.proofs.lemmas.Option.{slice_get_past}
use Rattle.sdm_rules.specs.declared.data.SlopeKind.{SlopeKind}
use Rattle.sdm_rules.specs.Slopes.{SlopeMap, meaning_of, bands_of, variation, IsStrongSlope, least_slope}
use Rattle.sdm_rules.specs.Data.{TrainAndTrack}
use Rattle.sdm_rules.specs.Decelerations.{q_of, uppers_of, slope_at, slopes_of}
use Rattle.sdm_rules.specs.Opening as opening
use Rattle.sdm_curve.specs.declared.faults.CurveFault.{CurveFault}
use Rattle.sdm_curve.specs.declared.faults.CurveFault.TheVariants.{TooWeak, TooVaried, Memory}
use Rattle.sdm_curve.specs.Maps.{MapData, handed_in, slope_in, start_in, AreStarts, IsEvenBand, AreStrong, AreAccepted}
use Rattle.sdm_curve.specs.Maps.{IsKeptMap}
use Rattle.sdm_curve.specs.Faults.{IsFirstWeakSlope, IsFirstVariedBand, IsMapFault}
use Rattle.sdm_curve.proofs.Meanings.{slope_at_cell}
use Rattle.sdm_curve.proofs.Cells.{slope_on, start_cell, strong_cells, even_cells, weak_cell, range_cells, slope_past}
use Rattle.sdm_curve.proofs.Cells.{meaning_is}
use Rattle.sdm_decel.specs.Slopes.{IsFaultOfKind}

-- the map's data give the slopes of the kind in every band and cell
pub record Gives (kind : SlopeKind) (train_and_track : TrainAndTrack) (d : MapData) : Type 0 where
  pub q : d.q ≡ q_of train_and_track.train.rotating_mass
  pub uppers : d.uppers ≡ uppers_of train_and_track.train.bands
  pub bands : bands_of d.uppers ≡ length train_and_track.train.bands
  pub starts : AreStarts d.starts
  pub slope : (band : ℕ) → band < bands_of d.uppers → (c : ℤ) → slope_at kind train_and_track band c ≡ slope_on d band c

module _ (kind : SlopeKind) (train_and_track : TrainAndTrack) (d : MapData) (gives : Gives kind train_and_track d) where
  -- a band of the train is one of the data
  band_known : (band : ℕ) → band < length train_and_track.train.bands → band < bands_of d.uppers
  band_known band lt = omega (arith, gives.bands)

  -- ---- weak slopes

  -- a cell that is strong in the data is so in the kind
  strong_at : (band cell : ℕ) → band < bands_of d.uppers → IsStrongSlope d.q (slope_on d band (pos cell)) →
      opening.IsStrongAt kind train_and_track band cell
  strong_at band cell lt h =
      let there = gives.slope band lt (pos cell) in
      subst (λ (n : ℕ). IsStrongSlope n (slope_at kind train_and_track band (pos cell))) gives.q
      (subst (λ (z : ℤ). IsStrongSlope d.q z) (sym there) h)

  -- where the data are strong the kind is
  strong : AreStrong d → opening.IsStrong kind train_and_track
  strong h = λ band cell lt. let known =
      band_known band lt in strong_at band cell known (strong_cells d band gives.starts (h band known) (pos cell))

  -- the first weak slope of the data begins in the first weak cell of the kind
  first_weak : (band i : ℕ) → IsFirstWeakSlope d band i →
      opening.IsFirstWeak kind train_and_track band (unsigned_abs (start_in d i)) (slope_in d band i)
  first_weak band i h =
      let first = weak_cell d band i gives.starts h in
      let cell = start_cell d i gives.starts h.known in
      record {
        known = omega (arith, gives.bands, first.known);
        value = first.value ∙ ap (slope_on d band) cell ∙ sym (gives.slope band first.known _);
        weak = subst (λ (n : ℕ). slope_in d band i <ℤ pos (least_slope n)) gives.q first.weak;
        lower_bands = λ b c l. strong_at b c (omega (arith, first.known)) (first.lower_bands b (pos c) l);
        earlier_cells =
            λ c l. strong_at band c first.known (first.earlier (pos c) (omega (arith, ints)) (omega (arith, ints)));
      }

  -- ---- uneven slopes

  -- a band that is even in the data is so in the kind
  even : (band : ℕ) → band < bands_of d.uppers → IsEvenBand d band → opening.IsEven kind train_and_track band
  even band lt h cell cell' =
      let wide = even_cells d band gives.starts h (pos cell) (pos cell') in
      rw (gives.slope band lt (pos cell), gives.slope band lt (pos cell'))
      (subst (λ (n : ℕ). slope_on d band (pos cell) ≤ℤ (pos (variation n) *ℤ slope_on d band (pos cell')))
      gives.bands wide)

  -- the first varied band of the data is that of the kind, with its range
  first_varied : (band : ℕ) (least greatest : ℤ) → AreStrong d → IsFirstVariedBand d band least greatest →
      opening.IsFirstVaried kind train_and_track band least greatest
  first_varied band least greatest are_strong h =
      let range = range_cells d band least greatest gives.starts h.range in
      let there = gives.slope band h.known in
      record {
        strong = strong are_strong;
        known = omega (arith, gives.bands, h.known);
        range = record {
          low = (range.low.0, there (pos range.low.0) ∙ range.low.1);
          high = (range.high.0, there (pos range.high.0) ∙ range.high.1);
          above = λ c. rw (there (pos c)) (range.above (pos c));
          below = λ c. rw (there (pos c)) (range.below (pos c));
        };
        varied = subst (λ (n : ℕ). (pos (variation n) *ℤ least) <ℤ greatest) gives.bands h.varied;
        lower_bands = λ b l. even b (omega (arith, h.known)) (h.lower_bands b l);
      }

  -- ---- accepted, or the first fault

  -- where the data are accepted the kind is
  pub accepted_kind : AreAccepted d → opening.IsAcceptedKind kind train_and_track
  accepted_kind h = record {
    strong = strong h.strong;
    even = λ band lt. even band (band_known band lt) (h.even band (band_known band lt));
  }

  -- a fault of the data is one of the kind
  pub fault_kind : (f : CurveFault) → IsMapFault d f → IsFaultOfKind kind train_and_track f
  fault_kind (TooWeak band cell slope) h =
      let weak = h.2 in (
        h.0,
        h.1,
        (
          unsigned_abs (start_in d weak.0),
          weak.2 ∙ start_cell d weak.0 gives.starts weak.1.known,
          subst (λ (z : ℤ). opening.IsFirstWeak kind train_and_track h.0 (unsigned_abs (start_in d weak.0)) z)
              (sym weak.3) (first_weak h.0 weak.0 weak.1),
        ),
      )
  fault_kind (TooVaried band least greatest) h = (h.1.0, h.1.1, first_varied h.1.0 least greatest h.0 h.1.2)
  fault_kind Memory h = tt

  -- ---- what the map stands for

  -- past the bands of the train there is no slope
  past_bands : (band : ℕ) (c : ℤ) → length train_and_track.train.bands ≤ band →
      slope_at kind train_and_track band c ≡ pos 0
  unfolding slope_at
  past_bands band c ge = rw (slice_get_past train_and_track.train.bands band ge) refl

  -- a kept map of the data stands for the slopes of the kind
  pub meaning_kind : (m : SlopeMap) → IsKeptMap (handed_in m) → handed_in m ≡ d →
      meaning_of m ≡ slopes_of kind train_and_track
  unfolding slopes_of
  meaning_kind m kept is =
      let count : bands_of m.uppers ≡ bands_of d.uppers = ap (λ (x : MapData). bands_of x.uppers) is in
      meaning_is m (slopes_of kind train_and_track) (ap (λ (x : MapData). x.q) is ∙ gives.q)
      (ap (λ (x : MapData). x.uppers) is ∙ gives.uppers) (λ band c.
      elim (cases_lt band (bands_of d.uppers)) [
        | inl lt ↦ ap unsigned_abs
            (slope_at_cell m band c ∙ ap (λ (x : MapData). slope_on x band c) is ∙ sym (gives.slope band lt c))
        | inr ge ↦ slope_past m band c kept (omega arith)
            ∙ sym (ap unsigned_abs (past_bands band c (omega (arith, gives.bands))))
      ])
