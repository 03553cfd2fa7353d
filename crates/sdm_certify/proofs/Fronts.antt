-- At a reading within the SvL the front end with D_bec is at or before the computed place of V_bec: so its marks hold.
use Rattle.std.proofs.Common.{◌≡◌, ℕ, ℤ, pos, neg_ℤ, List, true, false, ◌*◌, ◌+ℤ◌, ◌*ℤ◌, ◌≤ℤ◌, arith}
use Rattle.std.proofs.lemmas.Int.{ints}
use Rattle.std.proofs.lemmas.Bool.{false≢true, and_parts, not-true}
use Rattle.sdm_num.specs.Fractions.{less}
use Rattle.sdm_num.specs.Readings.{OdometerReading, estimate_of}
use Rattle.sdm_num.proofs.Comparisons.{not_lt_of}
use Rattle.sdm_rules.specs.declared.authorities.Authority.{Authority}
use Rattle.sdm_rules.specs.declared.authorities.Authority.TheVariants.{Stop, Limit}
use Rattle.sdm_rules.specs.declared.certificates.Claim.{Claim}
use Rattle.sdm_rules.specs.declared.certificates.Mark.{Mark}
use Rattle.sdm_rules.specs.declared.data.SlopeKind.TheVariants.{Safe}
use Rattle.sdm_rules.specs.Certificates.{d_bec_of, v_bec_of, Hold, IsClaimInRange}
use Rattle.sdm_rules.specs.Curves.{stepped}
use Rattle.sdm_rules.specs.Data.{TrainAndTrack}
use Rattle.sdm_rules.specs.Decelerations.{slopes_of}
use Rattle.sdm_rules.specs.Limits.{computed, limits_of}
use Rattle.sdm_rules.specs.Reaction.{build_up_from, d_bec, v_bec}
use Rattle.sdm_rules.specs.Slopes.{Slopes}
use Rattle.sdm_rules.specs.Supervision.{Supervision}
use Rattle.sdm_rules.specs.Triggers.{is_past}
use Rattle.sdm_rules.specs.Within.{is_before_svl, is_within, is_within_svl}
use Rattle.sdm_supervisor.specs.Supervised.{last_of}
use Rattle.sdm_certify.specs.Certificates.{claim_of, IsCertificateOf}
use Rattle.sdm_certify.specs.Made.{marks_of, AreMarksInRange}

-- a front end that is not past a computed place, taken `bec` grains earlier, is with them at or before the place
not_past : (on : Slopes) (f : ℤ) (v bec : ℕ) (front : ℤ) → is_past 0 front (less (computed on f 0 v) bec) ≡ false →
    (front +ℤ pos bec) ≤ℤ stepped on f 0 v
not_past on f v bec front e =
    let k : (pos 1 *ℤ (front +ℤ pos 0)) ≤ℤ (stepped on f 0 v +ℤ neg_ℤ (pos (bec * 1))) = not_lt_of _ _ e in
    omega (arith, ints, k)

-- the same of the front end of a reading before an SvL
before_svl : (d : TrainAndTrack) (r : OdometerReading) (svl : ℕ) → is_before_svl d r svl ≡ true →
    let b = build_up_from d (estimate_of r) in
    (r.max +ℤ pos (d_bec b 0)) ≤ℤ stepped (slopes_of Safe d) (last_of (Stop svl svl 0)).place 0 (v_bec b 0)
unfolding limits_of
before_svl d r svl before =
    let b = build_up_from d (estimate_of r) in
    not_past (slopes_of Safe d) (last_of (Stop svl svl 0)).place (v_bec b 0) (d_bec b 0) r.max (not-true _ before)

-- and of each authority within whose SvL the reading is
within_front : (d : TrainAndTrack) (r : OdometerReading) (a : Authority) → is_within d r a ≡ true →
    let b = build_up_from d (estimate_of r) in
    (r.max +ℤ pos (d_bec b 0)) ≤ℤ stepped (slopes_of Safe d) (last_of a).place 0 (v_bec b 0)
within_front d r (Stop eoa svl release) within = before_svl d r svl (and_parts _ _ within).1
within_front d r (Limit loa speed) within = absurd (false≢true within)

-- so of the claim of a reading within the SvL
pub claim_front : (s : Supervision) (r : OdometerReading) → is_within_svl s r ≡ true →
    ((claim_of s r).front +ℤ pos (d_bec_of (claim_of s r)))
    ≤ℤ stepped (slopes_of Safe s.train_and_track) (claim_of s r).svl 0 (v_bec_of (claim_of s r))
unfolding is_within_svl
claim_front s r within = within_front s.train_and_track r s.authority within

-- what is made of a reading within the SvL is its certificate
pub certificate_is : (s : Supervision) (r : OdometerReading) (on : Slopes) (claim : Claim) (marks : List Mark) →
    on ≡ slopes_of Safe s.train_and_track → is_within_svl s r ≡ true → claim ≡ claim_of s r →
    marks ≡ marks_of on claim →
    ((claim.front +ℤ pos (d_bec_of claim)) ≤ℤ stepped on claim.svl 0 (v_bec_of claim) → Hold on claim marks) →
    IsClaimInRange claim → AreMarksInRange marks → IsCertificateOf s r claim marks
certificate_is s r on claim marks on_is within claim_is marks_are hold claim_range marks_range = record {
  within = within;
  claim_is = claim_is;
  marks_are = rw (← on_is) marks_are;
  hold = rw (← on_is) (hold (rw (on_is, claim_is) (claim_front s r within)));
  claim_range = claim_range;
  marks_range = marks_range;
}
