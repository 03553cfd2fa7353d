-- The curve that is kept of a fall is its EBD, for the MRSP of the state.
use Rattle.std.proofs.Common.{◌≡◌, ℕ, ℤ, Option, true, false, ◌∙◌, ap, sym, subst}
use Rattle.sdm_rules.specs.declared.authorities.Authority.{Authority}
use Rattle.sdm_rules.specs.declared.commands.Held.{Held}
use Rattle.sdm_rules.specs.declared.data.SlopeKind.TheVariants.{Safe}
use Rattle.sdm_rules.specs.declared.targets.Target.{Target}
use Rattle.sdm_rules.specs.Cells.{place_of_cell}
use Rattle.sdm_rules.specs.Data.{TrainAndTrack}
use Rattle.sdm_rules.specs.Decelerations.{slopes_of}
use Rattle.sdm_rules.specs.Supervision.{profile_of}
use Rattle.sdm_rules.specs.Targets.{fall_at, foot_speed_of, is_fall}
use Rattle.sdm_speed.specs.Profiles.{ProfileData, mrsp_of}
use Rattle.sdm_speed.proofs.MrspLaws.{mrsp_is}
use Rattle.sdm_targets.specs.Lists.{target_at}
use Rattle.sdm_supervisor.specs.Supervised.{IsFallCurve, IsProfileOf}
use Rattle.sdm_braking.specs.KeptCurves.{IsCurveOn, brake_kind}
use Rattle.sdm_braking.specs.KeptFalls.{IsFallAt, IsKeptFall, KeptFallData}
use Rattle.sdm_supervisor.proofs.FindLaws.{state_of}

module _ (train_and_track : TrainAndTrack) (a : Authority) (p : ProfileData) (last : Option ℕ) (held : Held)
    (is : IsProfileOf train_and_track p) where
  -- the profile gives the MRSP of the state
  pub profile_is : mrsp_of p ≡ profile_of (state_of train_and_track a p last held)
  profile_is = sym (mrsp_is p train_and_track.train train_and_track.track is.max_speed is.length_cm is.speeds)

  -- what is kept of a fall is its EBD
  pub fall_curve_is : (at : ℤ) (k : KeptFallData) → IsFallAt (mrsp_of p) at k.fall → IsKeptFall train_and_track k →
      IsFallCurve (state_of train_and_track a p last held) at k.kept.brake
  fall_curve_is at k fall kept =
      let fall_is : k.fall
      ≡ record { cell = at; speed = mrsp_of p at } = λ i. record { cell = fall.cell i; speed = fall.speed i } in
      let target_is : k.kept.target ≡ fall_at (mrsp_of p) at = kept.at ∙ ap target_at fall_is in
      let curve = subst (λ (t : Target). IsCurveOn (slopes_of (brake_kind t.kind) train_and_track) t.place
      (foot_speed_of t) k.kept.brake) target_is kept.kept.brake in
      record {
        falls = subst (λ (f : ℤ → ℕ). is_fall f at ≡ true) profile_is fall.falls;
        ebd = subst (λ (f : ℤ → ℕ). IsCurveOn (slopes_of Safe train_and_track) (place_of_cell at)
            (foot_speed_of (fall_at f at)) k.kept.brake) profile_is curve;
      }

  -- where the kept profile doesn't fall, the MRSP doesn't
  pub no_fall_is : (at : ℤ) → is_fall (mrsp_of p) at ≡ false →
      is_fall (profile_of (state_of train_and_track a p last held)) at ≡ false
  no_fall_is at none = subst (λ (f : ℤ → ℕ). is_fall f at ≡ false) profile_is none
