-- What limits that were found say of the limits of the profile: where they lie, and which exact ones they stand for
-- (own).
use Rattle.std.specs.Prelude.{ℕ, ◌*◌, ◌≤◌, Option, Some, None, option_map, ⊤}
use Rattle.std.specs.Option.{ForSome}
use Rattle.sdm_num.specs.Fractions.{Fraction, whole}
use Rattle.sdm_num.specs.Bounds.{Bound, IsEarlyFor}
use Rattle.sdm_rules.specs.declared.data.Times.{Times}
use Rattle.sdm_rules.specs.Slopes.{SlopeMap, meaning_of}
use Rattle.sdm_rules.specs.Limits.{CurvePlaces, SupervisionLimits, ebd_limits_at, sbd_limits_at}
use Rattle.sdm_curve.specs.Made.{BrakeCurve}
use Rattle.sdm_limits.specs.declared.limits.Limits.{Limits}
use Rattle.sdm_limits.specs.declared.reaction.Reaction.{Reaction}
use Rattle.sdm_limits.specs.Ranges.{IsNearZero, reach}

-- the limits by the place of a curve: with a D_bec in grains those on an EBD, else those on an SBD (SUBSET-026-3
-- 3.13.9.3; own)
abbrev pub limits_at : Option ℕ → Times → ℕ → Option Fraction → Fraction → SupervisionLimits
limits_at None times v guide place = sbd_limits_at times v guide place
limits_at (Some d_bec) times v guide place = ebd_limits_at times v guide d_bec place

-- the limits on an EBD with a foot, on the slopes of a map, for any way to find the places of a curve
-- (SUBSET-026-3 3.13.9.3)
abbrev pub ebd_limits_by : CurvePlaces → SlopeMap → BrakeCurve → Option Fraction → Times → ℕ → Reaction →
    SupervisionLimits
ebd_limits_by P map ebd guide times v reaction =
    ebd_limits_at times v guide reaction.d_bec (P (meaning_of map) ebd.place ebd.speed reaction.v_bec)

-- the limits on an SBD with a foot, on the slopes of a map; it gives no EBI (SUBSET-026-3 3.13.9.3)
abbrev pub sbd_limits_by : CurvePlaces → SlopeMap → BrakeCurve → Option Fraction → Times → ℕ → SupervisionLimits
sbd_limits_by P map sbd guide times v = sbd_limits_at times v guide (P (meaning_of map) sbd.place sbd.speed v)

-- the place of a bound, as a fraction
abbrev pub place_of : Bound → Fraction
place_of e = whole e.at

-- the place of a bound, if there is one
abbrev pub place_where : Option Bound → Option Fraction
place_where e = option_map place_of e

-- the places of the limits that were found
abbrev pub places_of : Limits → SupervisionLimits
places_of l = record {
  ebi = place_where l.ebi;
  sbi = place_of l.sbi;
  warning = place_of l.warning;
  permitted = place_of l.permitted;
  indication = place_of l.indication;
}

-- there is a bound where there is an exact place, and it stands for it
abbrev pub IsEarlyWhere : Option Bound → Option Fraction → Type 0
IsEarlyWhere None None = ⊤
IsEarlyWhere (Some e) (Some x) = IsEarlyFor e x
IsEarlyWhere None (Some x) = ⊥
IsEarlyWhere (Some e) None = ⊥

-- each limit that was found stands for the exact one
pub record StandFor (l : Limits) (x : SupervisionLimits) : Type 0 where
  pub ebi : IsEarlyWhere l.ebi x.ebi
  pub sbi : IsEarlyFor l.sbi x.sbi
  pub warning : IsEarlyFor l.warning x.warning
  pub permitted : IsEarlyFor l.permitted x.permitted
  pub indication : IsEarlyFor l.indication x.indication

-- what a bound stands for is at most so many grains past it
abbrev pub IsFine : ℕ → Bound → Type 0
IsFine grains e = e.slack ≤ grains

-- so it is of a bound, if there is one
abbrev pub IsFineWhere : ℕ → Option Bound → Type 0
IsFineWhere grains e = ForSome e (IsFine grains)

-- each limit that was found stands for places at most so many grains past it
pub record AreFine (grains : ℕ) (l : Limits) : Type 0 where
  pub ebi : IsFineWhere grains l.ebi
  pub sbi : IsFine grains l.sbi
  pub warning : IsFine grains l.warning
  pub permitted : IsFine grains l.permitted
  pub indication : IsFine grains l.indication

-- the SBI and the permitted limit lie not too far from the origin
pub record AreNear (l : Limits) : Type 0 where
  pub sbi : IsNearZero (2 * reach) l.sbi.at
  pub permitted : IsNearZero (2 * reach) l.permitted.at
