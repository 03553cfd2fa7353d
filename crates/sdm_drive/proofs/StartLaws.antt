-- What the opening accepts may be driven, where the authority is a stop without a release speed and the brake takes a
-- step to build up; and the start of a drive keeps what every drive keeps.
use Rattle.std.proofs.Common.{◌≡◌, ℕ, ℤ, pos, Bool, true, false, Option, Some, None, ◌≤ℤ◌, ◌<ℤ◌, nat_lt, int_lt}
use Rattle.std.proofs.Common.{refl, sym, subst, arith, ◌∙◌}
use Rattle.std.specs.Prelude.{if◌then◌else◌}
use Rattle.std.proofs.lemmas.Int.{ints, by_lt_z}
use Rattle.std.proofs.lemmas.Option.{none-some}
use Rattle.sdm_num.proofs.Comparisons.{lt_is}
use Rattle.sdm_rules.specs.declared.authorities.Authority.{Authority}
use Rattle.sdm_rules.specs.declared.authorities.Authority.TheVariants.{Stop}
use Rattle.sdm_rules.specs.declared.faults.AuthorityFault.{AuthorityFault}
use Rattle.sdm_rules.specs.declared.faults.AuthorityFault.TheVariants.{BeyondTrack, SvlBeforeEoa}
use Rattle.sdm_rules.specs.Data.{TrainAndTrack, HasBands}
use Rattle.sdm_rules.specs.Opening.{IsAccepted}
use Rattle.sdm_rules.specs.Ranges.{longest_track}
use Rattle.sdm_rules.specs.Records.{authority_fault}
use Rattle.sdm_drive.specs.Drive.{drive_start}
use Rattle.sdm_drive.specs.Faults.{HasBuildUp, IsPlainStop, MayBeDriven}
use Rattle.sdm_drive.specs.Kept.{IsKeptDrive}
use Rattle.sdm_drive.proofs.Steps.{start_held, start_ranged}

-- what the opening accepts may be driven
pub may_be_driven : (d : TrainAndTrack) (a : Authority) → IsPlainStop a → HasBuildUp d → IsAccepted d a →
    HasBands d.train.bands → MayBeDriven d a
may_be_driven d a stop slow accepted bands = record {
  eoa = stop.0;
  svl = stop.1;
  stop = stop.2;
  accepted = accepted;
  drivable = record { is_open = record { bands = bands; usable = accepted.0 }; build_up = slow };
}

-- the SvL of an accepted stop lies on the track
svl_on_track : (length_cm : ℤ) (eoa svl release : ℕ) → authority_fault length_cm (Stop eoa svl release) ≡ None →
    pos svl ≤ℤ length_cm
svl_on_track length_cm eoa svl release accepted =
    by_lt_z length_cm (pos svl)
    (λ (past : length_cm <ℤ pos svl).
    absurd (refused (nat_lt svl eoa) (int_lt length_cm (pos svl)) _ (lt_is length_cm (pos svl) past) accepted))
    (λ (on_track : pos svl ≤ℤ length_cm). on_track)
  where
    refused : (before past : Bool) (fault : Option AuthorityFault) → past ≡ true →
        (if before then Some SvlBeforeEoa else if past then Some BeyondTrack else fault) ≡ None → ⊥
    refused true past fault is none = none-some SvlBeforeEoa (sym none)
    refused false past fault is none = none-some BeyondTrack (sym none ∙ rw is refl)

-- the start of a drive keeps what every drive keeps
pub kept_start : (d : TrainAndTrack) (a : Authority) (seed : ℕ) → MayBeDriven d a →
    d.track.length_cm ≤ℤ pos longest_track → IsKeptDrive (drive_start d a seed)
kept_start d a seed may short =
    let on_track = svl_on_track d.track.length_cm may.eoa may.svl 0
    (subst (λ (x : Authority). authority_fault d.track.length_cm x ≡ None) may.stop may.accepted.1) in
    subst (λ (x : Authority). IsKeptDrive (drive_start d x seed)) (sym may.stop) (record {
      eoa = may.eoa;
      svl = may.svl;
      on_track = omega (arith, ints);
      held = start_held d may.eoa may.svl seed may.drivable;
      ranged = start_ranged d may.eoa may.svl seed;
      few = omega arith;
    })
