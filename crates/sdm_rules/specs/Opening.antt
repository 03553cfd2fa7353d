-- Which data are accepted at the opening, and the first fault of those that are not (own). Along a slope that is
-- too weak a curve would reach too far. Where slopes of one band differ too much, rounding could exceed a millimetre.
use Rattle.std.specs.Prelude.{◌≡◌, ℕ, suc, ℤ, pos, Some, None, ◌<◌, ◌*ℤ◌, ◌≤ℤ◌, ◌<ℤ◌, length, ⊤}
use Rattle.sdm_rules.specs.declared.data.SlopeKind.{SlopeKind}
use Rattle.sdm_rules.specs.declared.data.SlopeKind.TheVariants.{Safe, Expected, Normal}
use Rattle.sdm_rules.specs.declared.authorities.Authority.{Authority}
use Rattle.sdm_rules.specs.declared.faults.OpenFault.{OpenFault}
use Rattle.sdm_rules.specs.declared.faults.OpenFault.TheVariants.{TooWeak, TooVaried, BadAuthority, Memory}
use Rattle.sdm_rules.specs.Slopes.{IsStrongSlope, least_slope, variation}
use Rattle.sdm_rules.specs.Data.{TrainAndTrack, HasBands}
use Rattle.sdm_rules.specs.Decelerations.{slope_at, q_of}
use Rattle.sdm_rules.specs.Supervision.{Supervision}
use Rattle.sdm_rules.specs.Records.{authority_fault}

-- ---- what is accepted

-- the slope of a kind in a band and a cell from 0 on is at least 0.05 m/s²
abbrev pub IsStrongAt : SlopeKind → TrainAndTrack → ℕ → ℕ → Type 0
IsStrongAt kind d band cell = IsStrongSlope (q_of d.train.rotating_mass) (slope_at kind d band (pos cell))

-- how many bands the train has
abbrev pub band_count_of : TrainAndTrack → ℕ
band_count_of d = length d.train.bands

-- no slope of the kind is too weak
abbrev pub IsStrong : SlopeKind → TrainAndTrack → Type 0
IsStrong kind d = (band cell : ℕ) → band < band_count_of d → IsStrongAt kind d band cell

-- how many times the least slope of a band the greatest one may be
abbrev pub variation_of : TrainAndTrack → ℕ
variation_of d = variation (band_count_of d)

-- in the band the slopes differ no more than they may
abbrev pub IsEven : SlopeKind → TrainAndTrack → ℕ → Type 0
IsEven kind d band =
    (cell cell' : ℕ) → slope_at kind d band (pos cell) ≤ℤ (pos (variation_of d) *ℤ slope_at kind d band (pos cell'))

-- the slopes of a kind are accepted
pub record IsAcceptedKind (kind : SlopeKind) (d : TrainAndTrack) : Type 0 where
  pub strong : IsStrong kind d
  pub even : (band : ℕ) → band < band_count_of d → IsEven kind d band

-- the slopes of all kinds are accepted
abbrev pub HasAcceptedSlopes : TrainAndTrack → Type 0
HasAcceptedSlopes d = (kind : SlopeKind) → IsAcceptedKind kind d

-- the opening of the data with the authority is accepted
abbrev pub IsAccepted : TrainAndTrack → Authority → Type 0
IsAccepted d a = HasAcceptedSlopes d × (authority_fault d.track.length_cm a ≡ None)

-- what the data of every supervision state keep from the opening on: bands in their order, and accepted slopes
pub record IsOpen (s : Supervision) : Type 0 where
  pub bands : HasBands s.train_and_track.train.bands
  pub usable : HasAcceptedSlopes s.train_and_track

-- ---- what is refused

-- the least and the greatest slope of a band
pub record IsRange (kind : SlopeKind) (d : TrainAndTrack) (band : ℕ) (least greatest : ℤ) : Type 0 where
  pub low : (cell : ℕ) × (slope_at kind d band (pos cell) ≡ least)
  pub high : (cell : ℕ) × (slope_at kind d band (pos cell) ≡ greatest)
  pub above : (cell : ℕ) → least ≤ℤ slope_at kind d band (pos cell)
  pub below : (cell : ℕ) → slope_at kind d band (pos cell) ≤ℤ greatest

-- the first slope that is too weak, by bands and then by cells
pub record IsFirstWeak (kind : SlopeKind) (d : TrainAndTrack) (band cell : ℕ) (slope : ℤ) : Type 0 where
  pub known : band < band_count_of d
  pub value : slope ≡ slope_at kind d band (pos cell)
  pub weak : slope <ℤ pos (least_slope (q_of d.train.rotating_mass))
  pub lower_bands : (b c : ℕ) → b < band → IsStrongAt kind d b c
  pub earlier_cells : (c : ℕ) → c < cell → IsStrongAt kind d band c

-- the first band whose slopes differ too much, where none is too weak
pub record IsFirstVaried (kind : SlopeKind) (d : TrainAndTrack) (band : ℕ) (least greatest : ℤ) : Type 0 where
  pub strong : IsStrong kind d
  pub known : band < band_count_of d
  pub range : IsRange kind d band least greatest
  pub varied : (pos (variation_of d) *ℤ least) <ℤ greatest
  pub lower_bands : (b : ℕ) → b < band → IsEven kind d b

-- the kinds before this one are accepted: safe, then expected, then normal
abbrev pub AreBefore : SlopeKind → TrainAndTrack → Type 0
AreBefore Safe d = ⊤
AreBefore Expected d = IsAcceptedKind Safe d
AreBefore Normal d = IsAcceptedKind Safe d × IsAcceptedKind Expected d

-- `n`, counted from 1, stands for a number from 0 on of which P holds
abbrev pub IsNthFrom1 : ℕ → (ℕ → Type 0) → Type 0
IsNthFrom1 n P = (i : ℕ) × (n ≡ suc i) × P i

-- the first fault of an opening
abbrev pub IsOpenFault : TrainAndTrack → Authority → OpenFault → Type 0
IsOpenFault d a (TooWeak kind band cell slope) =
    AreBefore kind d × IsNthFrom1 band (λ b. (c : ℕ) × (cell ≡ pos c) × IsFirstWeak kind d b c slope)
IsOpenFault d a (TooVaried kind band least greatest) =
    AreBefore kind d × IsNthFrom1 band (λ b. IsFirstVaried kind d b least greatest)
IsOpenFault d a (BadAuthority fault) = HasAcceptedSlopes d × (authority_fault d.track.length_cm a ≡ Some fault)
IsOpenFault d a Memory = ⊥
