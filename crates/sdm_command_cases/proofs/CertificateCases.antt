-- What is said of the certificate of a reading: its curve is the EBD of the SvL, its marks hold, and all numbers are in
-- the ranges of their lines. The SvL is at 10 m.
use Rattle.std.proofs.Common.{◌≡◌, ℤ, pos, List, arith, length}
use Rattle.sdm_num.specs.Readings.{OdometerReading}
use Rattle.sdm_rules.specs.declared.authorities.Authority.TheVariants.{Stop}
use Rattle.sdm_rules.specs.declared.certificates.Claim.{Claim}
use Rattle.sdm_rules.specs.declared.certificates.Mark.{Mark}
use Rattle.sdm_rules.specs.declared.data.SlopeKind.TheVariants.{Safe}
use Rattle.sdm_rules.specs.Certificates.{Hold}
use Rattle.sdm_rules.specs.Data.{TrainAndTrack}
use Rattle.sdm_rules.specs.Decelerations.{slopes_of}
use Rattle.sdm_rules.specs.Supervision.{Supervision, opening}
use Rattle.sdm_curve.specs.Made.{BrakeCurve, IsMadeFrom}
use Rattle.sdm_supervisor.specs.Supervised.{IsClaimOf}
use Rattle.sdm_certify.specs.Certificates.{IsCertificateOf}
use Rattle.sdm_certify.specs.Made.{AreMarksInRange}

-- ---- the curve

-- its foot is at the SvL
foot_at_the_svl : (d : TrainAndTrack) (r : OdometerReading) (place : ℤ) (curve : BrakeCurve) →
    IsClaimOf (opening d (Stop 900 1_000 0)) r place curve → curve.place ≡ pos 5_400_000_000_000
foot_at_the_svl d r place curve h = h.ebd.place

-- at speed 0
foot_at_speed_0 : (d : TrainAndTrack) (r : OdometerReading) (place : ℤ) (curve : BrakeCurve) →
    IsClaimOf (opening d (Stop 900 1_000 0)) r place curve → curve.speed ≡ 0
foot_at_speed_0 d r place curve h = h.ebd.speed

-- and it is made from the slopes of A_safe
made_from_a_safe : (s : Supervision) (r : OdometerReading) (place : ℤ) (curve : BrakeCurve) →
    IsClaimOf s r place curve → IsMadeFrom (slopes_of Safe s.train_and_track) curve
made_from_a_safe s r place curve h = h.ebd.made

-- ---- the marks

marks_hold : (s : Supervision) (r : OdometerReading) (claim : Claim) (marks : List Mark) →
    IsCertificateOf s r claim marks → Hold (slopes_of Safe s.train_and_track) claim marks
marks_hold s r claim marks h = h.hold

-- a claim faster than its line can say, of 150 m/s and a notch, has no certificate
too_fast : (s : Supervision) (r : OdometerReading) (claim : Claim) (marks : List Mark) → claim.speed ≡ 8_100_001 →
    IsCertificateOf s r claim marks → ⊥
too_fast s r claim marks is h = let k = h.claim_range.speed in omega (arith, k, is)

-- nor has one with too many marks
too_many : (s : Supervision) (r : OdometerReading) (claim : Claim) (marks : List Mark) → length marks ≡ 4_001 →
    IsCertificateOf s r claim marks → ⊥
too_many s r claim marks is h = let k = h.marks_range.few in omega (arith, k, is)

-- 4,000 marks are the most
most_marks : (marks : List Mark) → length marks ≡ 4_001 → AreMarksInRange marks → ⊥
most_marks marks is h = let k = h.few in omega (arith, k, is)
