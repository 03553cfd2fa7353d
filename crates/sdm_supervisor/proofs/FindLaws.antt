-- What a supervisor finds is what the definitions say: the profile that it keeps gives the MRSP of its state.
use Rattle.std.proofs.Common.{◌≡◌, ℕ, Option, min, ◌∙◌, ap, sym, is_some}
use Rattle.std.specs.Int.{int_gap}
use Rattle.sdm_num.specs.Readings.{OdometerReading}
use Rattle.sdm_rules.specs.declared.authorities.Authority.{Authority}
use Rattle.sdm_rules.specs.declared.commands.Held.{Held}
use Rattle.sdm_rules.specs.Cells.{cell_of, lowest}
use Rattle.sdm_rules.specs.Data.{TrainAndTrack}
use Rattle.sdm_rules.specs.Reaction.{service_in_use}
use Rattle.sdm_rules.specs.Supervision.{Supervision, situation_of, is_past_end, release_of}
use Rattle.sdm_rules.specs.Targets.{targets_of}
use Rattle.sdm_rules.specs.Triggers.{Situation}
use Rattle.sdm_speed.specs.Profiles.{ProfileData, mrsp_of}
use Rattle.sdm_speed.proofs.MrspLaws.{mrsp_is}
use Rattle.sdm_supervisor.specs.Supervised.{IsProfileOf}
use Rattle.sdm_supervisor.specs.Sights.{seen_at}

-- the state of a supervisor, by what it keeps
abbrev pub state_of : TrainAndTrack → Authority → ProfileData → Option ℕ → Held → Supervision
state_of train_and_track a p last held =
    record {
      train_and_track = train_and_track;
      authority = a;
      restrictions = p.restrictions;
      last_time = last;
      commands =
          held;
    }

-- what each call found, by its definition, makes what is seen at the reading in the state
pub seen_is : (d : TrainAndTrack) (a : Authority) (p : ProfileData) (last : Option ℕ) (held : Held)
    (r : OdometerReading) (now : Situation) → IsProfileOf d p →
    now.speed ≡ r.speed → now.ceiling_kmh ≡ lowest min (mrsp_of p) (cell_of r.min)
    (int_gap (cell_of r.min) (cell_of r.max)) → now.est ≡ r.est → now.front ≡ r.max →
    now.targets ≡ targets_of (mrsp_of p) a r.max (is_some (release_of d a r.max)) →
    now.past_end ≡ is_past_end a r.min → now.release ≡ release_of d a r.max → now.in_use ≡ service_in_use d →
    record { train_and_track = d; reading = r; situation = now } ≡ seen_at (state_of d a p last held) r
unfolding situation_of
seen_is d a p last held r now is speed ceiling est front targets past_end release in_use =
    let profile = sym (mrsp_is p d.train d.track is.max_speed is.length_cm is.speeds) in
    let lowest_is = ceiling
    ∙ ap (λ f. lowest min f (cell_of r.min) (int_gap (cell_of r.min) (cell_of r.max))) profile in
    let targets_are = targets ∙ ap (λ f. targets_of f a r.max (is_some (release_of d a r.max))) profile in
    λ k. record {
      train_and_track = d;
      reading = r;
      situation = record {
        speed = speed k;
        ceiling_kmh = lowest_is k;
        est = est k;
        front = front k;
        targets = targets_are k;
        past_end = past_end k;
        release = release k;
        in_use = in_use k;
      };
    }
