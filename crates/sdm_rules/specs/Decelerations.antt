-- The decelerations of a front end in a cell (SUBSET-026-3 3.13.4, 3.13.6), as whole numbers of 1/Q m/s², with
-- Q = 2 * 10^9 * q: in this unit each is exact (own unit).
use Rattle.std.specs.Prelude.{ℕ, ℤ, pos, Bool, ◌&&◌, List, Option, Some, None, ◌+◌, ◌+ℤ◌, ◌-ℤ◌, ◌*ℤ◌, int_le}
use Rattle.std.specs.Prelude.{int_lt, unsigned_abs, slice_get, filter_map, option_map, if◌then◌else◌}
use Rattle.std.specs.Int.{int_min, int_max, is_negative}
use Rattle.std.specs.List.{list_any}
use Rattle.std.specs.Option.{option_map_or, unwrap_or}
use Rattle.sdm_num.specs.Units.{notches}
use Rattle.sdm_rules.specs.declared.data.Band.{Band}
use Rattle.sdm_rules.specs.declared.data.Gradient.{Gradient}
use Rattle.sdm_rules.specs.declared.data.Area.{Area}
use Rattle.sdm_rules.specs.declared.data.NationalFields.{NationalFields}
use Rattle.sdm_rules.specs.declared.data.SlopeKind.{SlopeKind}
use Rattle.sdm_rules.specs.declared.data.SlopeKind.TheVariants.{Safe, Expected, Normal}
use Rattle.sdm_rules.specs.Cells.{lowest, value_at}
use Rattle.sdm_rules.specs.Slopes.{Slopes}
use Rattle.sdm_rules.specs.Data.{TrainData, TrackData, TrainAndTrack}

-- ---- the track under the train

-- the gradient of a cell, in tenths of a per mille, uphill positive: of the last entry whose start is at most the
-- cell, of the first entry before the track; level without entries (SUBSET-026-3 3.13.4; own cell form)
abbrev pub track_gradient : List Gradient → ℤ → ℤ
track_gradient entries cell = value_at (λ e. e.start) (λ e. e.grad) (pos 0) entries cell

-- the area is in force for a front end in the cell: from its start until the rear end of the train has left it (own)
abbrev pub is_in_force : ℤ → ℤ → Area → Bool
is_in_force length_cm cell a = int_le a.start cell && int_lt cell (a.end +ℤ length_cm)

-- some area of a list is in force (own)
abbrev pub any_in_force : List Area → ℤ → ℤ → Bool
any_in_force areas length_cm cell = list_any (is_in_force length_cm cell) areas

-- what the decelerations of a front end rest on, beside its speed band (own)
pub record UnderTrain : Type 0 where
  -- the least gradient of the cells from the rear end to the front end, in tenths of a per mille
  -- (SUBSET-026-3 3.13.4.2; own cell form)
  pub grad : ℤ
  pub reduced : Bool  -- reduced adhesion is in force (SUBSET-026-3 3.13.6.2; own areas)
  pub unaided : Bool  -- the special brake is not used (SUBSET-026-3 3.13.6.2; own areas)

-- the track under a train of a length in cm with its front end in a cell (SUBSET-026-3 3.13.4.2; own cell form)
abbrev pub under_train : TrackData → ℤ → ℤ → UnderTrain
under_train track length_cm cell = record {
  grad = lowest int_min (track_gradient track.gradients) (cell -ℤ length_cm) (unsigned_abs length_cm);
  reduced = any_in_force track.areas length_cm cell;
  unaided = any_in_force track.no_special length_cm cell;
}

-- ---- the decelerations

-- q: 100 plus the rotating mass in percent; 102 * 115 where it is not known, for both values that are then taken (own
-- unit)
abbrev pub q_of : Option ℤ → ℕ
q_of (Some mass) = 100 + unsigned_abs mass
q_of None = 11_730

-- 1 cm/s² in 1/(2 * 10^9) m/s² (own unit)
abbrev pub cm_s2 : ℤ
cm_s2 = pos 20_000_000

-- 9.81 m/s² for a gradient of 1 of a train without rotating mass, in 1/Q m/s²: 9.81 / 100 * 2 * 10^9 for a tenth of a
-- per mille (SUBSET-026-3 3.13.4.3)
abbrev pub gravity : ℤ
gravity = pos 196_200_000

-- A_brake_emergency of a band in a cell, in cm/s²: where the special brake is not used the band's reduced one, if it
-- gives one (SUBSET-026-3 3.13.6.2.1; own: two decelerations a band)
abbrev pub emergency_in : UnderTrain → Band → ℤ
emergency_in u b = if u.unaided then unwrap_or b.emergency_reduced b.emergency else b.emergency

-- Kdry_rst * (Kwet_rst + M_NVAVADH * (1 - Kwet_rst)) * A_brake_emergency, in 1/(2 * 10^9) m/s²
-- (SUBSET-026-3 3.13.6.2.1; own: one Kdry)
abbrev pub brake_safe : ℤ → Band → ℤ → ℤ
brake_safe avadh b emergency = b.kdry *ℤ (pos 20 *ℤ b.kwet +ℤ avadh *ℤ (pos 1000 -ℤ b.kwet)) *ℤ emergency

-- A_brake_safe: on reduced adhesion at most the national maximum A_NVMAXREDADH (SUBSET-026-3 3.13.6.2.1, 3.12; own:
-- one maximum)
abbrev pub brake_under : NationalFields → UnderTrain → Band → ℤ
brake_under n u b =
    let dry = brake_safe n.avadh b (emergency_in u b) in
    if u.reduced then int_min dry (cm_s2 *ℤ n.adhesion_max) else dry

-- where the rotating mass is not known, 15 percent are taken uphill and 2 percent downhill: with q = 102 * 115 this
-- leaves the factor 102 uphill and 115 downhill (SUBSET-026-3 3.13.4.3; own values)
abbrev pub mass_factor : Option ℤ → ℤ → ℤ
mass_factor (Some mass) grad = pos 1
mass_factor None grad = if is_negative grad then pos 115 else pos 102

-- A_gradient = 9.81 * grad / (1000 + 10 * M_rotating), where the standard has grad in per mille, in 1/Q m/s²; `gravity`
-- counts the tenths (SUBSET-026-3 3.13.4.3)
abbrev pub a_gradient : Option ℤ → ℤ → ℤ
a_gradient mass grad = gravity *ℤ mass_factor mass grad *ℤ grad

-- Kn: Kn+ uphill and on the level, Kn- downhill, in cm/s² (SUBSET-026-3 3.13.6.4; own form)
abbrev pub kn_of : Band → ℤ → ℤ
kn_of b grad = if is_negative grad then b.kn_down else b.kn_up

-- Kn * grad / 1000, where the standard has grad in per mille, in 1/(2 * 10^9) m/s²; the factor counts the tenths
-- (SUBSET-026-3 3.13.6.4; own form)
abbrev pub kn_term : Band → ℤ → ℤ
kn_term b grad = pos 2_000 *ℤ kn_of b grad *ℤ grad

-- A_safe = A_brake_safe + A_gradient, A_expected = A_brake_service + A_gradient and
-- A_normal_service = A_brake_normal_service + A_gradient - Kn * grad / 1000, in 1/Q m/s²
-- (SUBSET-026-3 3.13.6.2, 3.13.6.3, 3.13.6.4)
abbrev pub slope_under : SlopeKind → TrainData → NationalFields → UnderTrain → Band → ℤ
slope_under Safe t n u b = pos (q_of t.rotating_mass) *ℤ brake_under n u b +ℤ a_gradient t.rotating_mass u.grad
slope_under Expected t n u b = pos (q_of t.rotating_mass) *ℤ (cm_s2 *ℤ b.service) +ℤ a_gradient t.rotating_mass u.grad
slope_under Normal t n u b =
    pos (q_of t.rotating_mass) *ℤ (cm_s2 *ℤ b.normal -ℤ kn_term b u.grad) +ℤ a_gradient t.rotating_mass u.grad

-- The slope of a kind in a band, counted from 0, for a front end in a cell; before cell 0 it is that of cell 0. It is
-- 0 past the last band (own).
unfoldable pub slope_at : SlopeKind → TrainAndTrack → ℕ → ℤ → ℤ
slope_at kind d band cell =
    let u = under_train d.track d.train.length_cm (int_max cell (pos 0)) in
    option_map_or (slope_under kind d.train d.national u) (slice_get d.train.bands band) (pos 0)

-- the upper speeds of all bands but the last, in notches (own)
abbrev pub uppers_of : List Band → List ℕ
uppers_of bands = filter_map (λ b. option_map (λ v. notches (unsigned_abs v)) b.upper) bands

-- what the brake curves of a kind stand on: EBD on Safe, SBD on Expected, guidance curve on Normal
-- (SUBSET-026-3 3.13.8.3, 3.13.8.4, 3.13.8.5)
unfoldable pub slopes_of : SlopeKind → TrainAndTrack → Slopes
slopes_of kind d = record {
  q = q_of d.train.rotating_mass;
  uppers = uppers_of d.train.bands;
  slope =
      λ band cell. unsigned_abs (slope_at kind d band cell);
}
