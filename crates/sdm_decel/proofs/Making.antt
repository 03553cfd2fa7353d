-- What a map is made of is well formed, and gives the slopes of the kind in every band and cell: the slope of a
-- stretch is that of its first cell, and the same lies under the train in all its cells.
use Rattle.std.proofs.Common.{◌≡◌, ℕ, ℤ, pos, List, map, length, get_or, slice_get, ◌+◌, ◌*◌, ◌^◌, ◌≤◌, ap, sym, subst}
use Rattle.std.proofs.Common.{refl, ◌∙◌}
use Rattle.std.specs.Int.{int_max}
use Rattle.std.specs.Option.{option_map_or}
use Rattle.std.proofs.lemmas.List.{length-map}
use Rattle.std.proofs.Math.ListN.{get_or-map}
use Rattle.sdm_rules.specs.declared.data.Band.{Band}
use Rattle.sdm_rules.specs.declared.data.SlopeKind.{SlopeKind}
use Rattle.sdm_rules.specs.Data.{TrainAndTrack}
use Rattle.sdm_rules.specs.Decelerations.{UnderTrain, q_of, under_train, slope_under, slope_at, slopes_of}
use Rattle.sdm_rules.specs.Slopes.{SlopeMap, meaning_of, bands_of, segment_of}
use Rattle.sdm_rules.specs.Opening.{IsAcceptedKind}
use Rattle.sdm_curve.specs.declared.faults.CurveFault.{CurveFault}
use Rattle.sdm_curve.specs.Faults.{IsMapFault}
use Rattle.sdm_curve.specs.Maps.{MapData, IsMapData, AreAccepted, map_data, handed_in, slope_in}
use Rattle.sdm_curve.proofs.Meanings.{segment_known}
use Rattle.sdm_decel.specs.StretchCells.{AreStretches}
use Rattle.sdm_decel.specs.Slopes.{AreParts, IsFaultOfKind}
use Rattle.sdm_decel.proofs.Sizes.{small_of}
use Rattle.sdm_decel.proofs.Rows.{length_rows, get_or-rows, count_uppers, uppers_are}
use Rattle.sdm_decel.proofs.SlopeLaws.{Gives, meaning_kind, accepted_kind, fault_kind}

-- the slope of a band, by the track under the train
abbrev slope_in_band : SlopeKind → TrainAndTrack → Band → UnderTrain → ℤ
slope_in_band kind d b u = slope_under kind d.train d.national u b

-- the track under the train in the first cells
abbrev unders : TrainAndTrack → List ℤ → List UnderTrain
unders d starts = map (under_train d.track d.train.length_cm) starts

as_many : (d : TrainAndTrack) (starts : List ℤ) → length (unders d starts) ≡ length starts
as_many d starts = length-map starts (under_train d.track d.train.length_cm)

module _ (kind : SlopeKind) (d : TrainAndTrack) (q : ℕ) (uppers : List ℕ) (starts slopes : List ℤ)
    (parts : AreParts kind d uppers starts slopes) (q_is : q ≡ q_of d.train.rotating_mass) (low_q : 100 ≤ q)
    (high_q : q ≤ 11_730) where
  -- as many bands as the train has
  count : bands_of uppers ≡ length d.train.bands
  count = rw parts.uppers_are (count_uppers d.train.bands parts.train.bands)

  -- a slope for each band and start
  lengths : length slopes ≡ bands_of uppers * length starts
  lengths = ap length parts.slopes_are ∙ length_rows (slope_in_band kind d) (unders d starts) d.train.bands
      ∙ rw (as_many d starts, ← count) refl

  -- the data of the map are well formed
  pub map_data_is : IsMapData (map_data q uppers starts slopes)
  map_data_is = record {
    low_q = low_q;
    high_q = high_q;
    uppers = rw parts.uppers_are (uppers_are d.train.bands parts.train.bands);
    starts = parts.stretches.starts;
    lengths = lengths;
    bounded =
        λ k l. (let near = small_of _ (10 ^ 15) (parts.small k (pos 0) l) in record { low = near.0; high = near.1 });
  }

  -- the track under the train in the cells of a stretch
  under_is : (c : ℤ) → get_or (unders d starts) (segment_of starts c) (under_train d.track d.train.length_cm (pos 0))
      ≡ under_train d.track d.train.length_cm (int_max c (pos 0))
  under_is c = get_or-map (under_train d.track d.train.length_cm) starts (segment_of starts c) (pos 0)
      ∙ sym (parts.stretches.same c)

  -- the slope of a band in a cell is that of the cell's segment
  slope_is : (band : ℕ) (c : ℤ) →
      slope_at kind d band c ≡ slope_in (map_data q uppers starts slopes) band (segment_of starts c)
  unfolding slope_at
  slope_is band c =
      let i = segment_of starts c in
      let many = length (unders d starts) in
      let here = under_train d.track d.train.length_cm (pos 0) in
      let row : get_or slopes (band * many + i) (pos 0) ≡ option_map_or
      (λ (b : Band). slope_in_band kind d b (get_or (unders d starts) i here)) (slice_get d.train.bands band)
      (pos 0) =
      ap (λ (xs : List ℤ). get_or xs (band * many + i) (pos 0)) parts.slopes_are
      ∙ get_or-rows (slope_in_band kind d) (unders d starts) d.train.bands band i here
      (rw (as_many d starts) (segment_known starts c parts.stretches.starts)) in
      sym (ap (λ (n : ℕ). get_or slopes (band * n + i) (pos 0)) (sym (as_many d starts)) ∙ row
      ∙ ap (λ (u : UnderTrain).
      option_map_or (λ (b : Band). slope_in_band kind d b u) (slice_get d.train.bands band) (pos 0)) (under_is c))

  -- so the data give the slopes of the kind
  gives : Gives kind d (map_data q uppers starts slopes)
  gives = record {
    q = q_is;
    uppers = parts.uppers_are;
    bands = count;
    starts = parts.stretches.starts;
    slope =
        λ band lt c. slope_is band c;
  }

  -- ---- what comes of them

  -- a map of accepted data stands for the slopes of the kind
  pub stands_for : (m : SlopeMap) → handed_in m ≡ map_data q uppers starts slopes →
      AreAccepted (map_data q uppers starts slopes) → meaning_of m ≡ slopes_of kind d
  stands_for m is accepted = meaning_kind kind d (map_data q uppers starts slopes) gives m
      (rw is (record { well_formed = map_data_is; accepted = accepted })) is

  -- its segments are the stretches
  pub stretches_kept : (m : SlopeMap) → handed_in m ≡ map_data q uppers starts slopes →
      AreStretches d.track d.train.length_cm m.starts
  stretches_kept m is = subst (λ (xs : List ℤ). AreStretches d.track d.train.length_cm xs)
      (sym (ap (λ (x : MapData). x.starts) is)) parts.stretches

  -- where the data are accepted the slopes of the kind are
  pub accepts : AreAccepted (map_data q uppers starts slopes) → IsAcceptedKind kind d
  accepts h = accepted_kind kind d (map_data q uppers starts slopes) gives h

  -- a fault of the data is a fault of the kind
  pub refuses : (f : CurveFault) → IsMapFault (map_data q uppers starts slopes) f → IsFaultOfKind kind d f
  refuses f h = fault_kind kind d (map_data q uppers starts slopes) gives f h
