-- Stop certificates: marks along the track that show, without a brake curve, that every motion from a claim stops in
-- time (own). A mark is a place in grains with the greatest energy that the train may have there. An energy is
-- 5 * 10^12 * q times a square of speed in squared notches. A distance in one speed band and on one slope takes
-- 27 * slope * distance of it. So it is enough that the distance between two marks takes at least the difference of
-- their energies.
use Rattle.std.specs.Prelude.{◌≡◌, ℕ, ℤ, pos, neg_ℤ, List, [], ◌∷◌, ◌-◌, ◌*◌, ◌^◌, ◌<◌, ◌≤◌, ◌+ℤ◌, ◌*ℤ◌, ◌≤ℤ◌}
use Rattle.std.specs.Prelude.{◌<ℤ◌, length}
use Rattle.sdm_rules.specs.declared.certificates.Claim.{Claim}
use Rattle.sdm_rules.specs.declared.certificates.Mark.{Mark}
use Rattle.sdm_rules.specs.declared.motions.Start.{Start}
use Rattle.sdm_rules.specs.Slopes.{Slopes, IsUsable}
use Rattle.sdm_rules.specs.Curves.{grain_energy, upper_square}
use Rattle.sdm_rules.specs.Motion.{HasPart, lower_square}
use Rattle.sdm_rules.specs.Reaction.{build_up_of, v_bec, d_bec}
use Rattle.sdm_rules.specs.Stop.{StopsBy}

-- ---- ranges

-- the claim is in the ranges of its line (own)
pub record IsClaimInRange (c : Claim) : Type 0 where
  pub time : c.time ≤ 100_000_000
  pub behind : neg_ℤ (pos 60_000_000_000_000_000) ≤ℤ c.front
  pub ahead : c.front ≤ℤ pos 60_000_000_000_000_000
  pub speed : c.speed ≤ 8_100_000
  pub accel1 : c.accel1 ≤ 300
  pub accel2 : c.accel2 ≤ 40
  pub traction : c.traction ≤ 300
  pub berem : c.berem ≤ 300
  pub not_below_0 : pos 0 ≤ℤ c.svl
  pub on_track : c.svl ≤ℤ pos 54_000_000_000_000_000

-- the mark is in the ranges of its line: a place of at most 18 digits, and an energy of at most 10^32 (own)
pub record IsMarkInRange (x : Mark) : Type 0 where
  pub behind : neg_ℤ (pos (10 ^ 18)) <ℤ x.place
  pub ahead : x.place <ℤ pos (10 ^ 18)
  pub energy : x.energy ≤ 10 ^ 32

-- ---- the claim

-- the start of motions that is claimed, whose accelerations and times stand as they are (own)
abbrev pub start_of : Claim → Start
start_of c = record {
  front = c.front;
  speed = c.speed;
  accel1 = c.accel1;
  accel2 = c.accel2;
  traction = c.traction;
  berem = c.berem;
}

-- V_bec of the claim, for a target speed of 0 (SUBSET-026-3 3.13.9.3.2)
abbrev pub v_bec_of : Claim → ℕ
v_bec_of c = v_bec (build_up_of (start_of c)) 0

-- D_bec of the claim, for a target speed of 0 (SUBSET-026-3 3.13.9.3.2)
abbrev pub d_bec_of : Claim → ℕ
d_bec_of c = d_bec (build_up_of (start_of c)) 0

-- ---- marks that hold

-- the energy is that of a square within the band, its borders included (own)
pub record IsEnergyIn (on : Slopes) (band e : ℕ) : Type 0 where
  pub known : band ≤ length on.uppers
  pub above : grain_energy on (lower_square on 1 band) ≤ e
  pub below : band < length on.uppers → e ≤ grain_energy on (upper_square on 1 band)

-- with the slope, the way from one mark to another takes at least the energy that is lost: 27 * slope * way (own)
abbrev pub TakesEnough : ℕ → Mark → Mark → Type 0
TakesEnough slope x y = (pos (27 * slope) *ℤ x.place +ℤ pos (x.energy - y.energy)) ≤ℤ (pos (27 * slope) *ℤ y.place)

-- from one mark to the next: some band holds both energies, all cells on the way have one slope in it, and the way
-- takes at least the energy that is lost (own)
pub record IsNext (on : Slopes) (x y : Mark) : Type 0 where
  pub band : ℕ
  pub slope : ℕ
  pub forward : x.place ≤ℤ y.place
  pub falls : y.energy ≤ x.energy
  pub from_band : IsEnergyIn on band x.energy
  pub to_band : IsEnergyIn on band y.energy
  pub one_slope : (cell : ℤ) → HasPart 1 cell x.place y.place → on.slope band cell ≡ slope
  pub enough : TakesEnough slope x y

-- from the mark on, mark by mark to an energy of 0 at or before the place (own)
abbrev pub LeadTo : Slopes → ℤ → Mark → List Mark → Type 0
LeadTo on svl x [] = (x.energy ≡ 0) × (x.place ≤ℤ svl)
LeadTo on svl x (y ∷ ys) = IsNext on x y × LeadTo on svl y ys

-- the mark is at or past the claim's front end with D_bec, with at least the energy of V_bec (own)
pub record IsBeginning (on : Slopes) (c : Claim) (x : Mark) : Type 0 where
  pub place : (c.front +ℤ pos (d_bec_of c)) ≤ℤ x.place
  pub energy : grain_energy on (v_bec_of c * v_bec_of c) ≤ x.energy

-- the marks hold for the claim: there is a first one, where the brakes work at the latest, and from there they lead to
-- the claim's place (own)
pub record Hold (on : Slopes) (c : Claim) (marks : List Mark) : Type 0 where
  pub first : Mark
  pub more : List Mark
  pub split : marks ≡ first ∷ more
  pub begins : IsBeginning on c first
  pub lead : LeadTo on c.svl first more

-- Where marks hold for a claim, every motion from it, at every scale, has all its points at or before the claim's place
-- (own).
abbrev pub LawOfMarks : Type 0
LawOfMarks = (on : Slopes) (c : Claim) (marks : List Mark) → IsUsable on → Hold on c marks →
    StopsBy on (start_of c) c.svl
