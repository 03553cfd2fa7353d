-- The certificate of a reading (own).
use Rattle.std.specs.Prelude.{◌≡◌, List, true}
use Rattle.sdm_num.specs.Readings.{OdometerReading}
use Rattle.sdm_rules.specs.declared.certificates.Claim.{Claim}
use Rattle.sdm_rules.specs.declared.certificates.Mark.{Mark}
use Rattle.sdm_rules.specs.declared.data.SlopeKind.TheVariants.{Safe}
use Rattle.sdm_rules.specs.Certificates.{Hold, IsClaimInRange}
use Rattle.sdm_rules.specs.Decelerations.{slopes_of}
use Rattle.sdm_rules.specs.Reaction.{reaction_start}
use Rattle.sdm_rules.specs.Supervision.{Supervision}
use Rattle.sdm_rules.specs.Within.{is_within_svl}
use Rattle.sdm_supervisor.specs.Supervised.{last_of}
use Rattle.sdm_certify.specs.Made.{marks_of, AreMarksInRange}

-- what a reading claims: from the greatest front end, speed and accelerations that it allows, at V_est + V_delta0 and
-- with A_est1 and A_est2 for T_traction and T_berem, the train stops at or before the SvL (SUBSET-026-3 3.13.9.3.2;
-- own)
abbrev pub claim_of : Supervision → OdometerReading → Claim
claim_of s r =
    let start = reaction_start s.train_and_track r in
    record {
      time = r.time;
      front = start.front;
      speed = start.speed;
      accel1 = start.accel1;
      accel2 = start.accel2;
      traction = start.traction;
      berem = start.berem;
      svl = (last_of s.authority).place;
    }

-- the certificate of a reading within the SvL: the claim of the reading with the marks that the program makes for it,
-- which hold on the slopes of A_safe; all are in the ranges of their lines (own)
pub record IsCertificateOf (s : Supervision) (r : OdometerReading) (claim : Claim) (marks : List Mark) : Type 0 where
  pub within : is_within_svl s r ≡ true
  pub claim_is : claim ≡ claim_of s r
  pub marks_are : marks ≡ marks_of (slopes_of Safe s.train_and_track) claim
  pub hold : Hold (slopes_of Safe s.train_and_track) claim marks
  pub claim_range : IsClaimInRange claim
  pub marks_range : AreMarksInRange marks
