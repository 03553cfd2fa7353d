-- The state after an opening: no restriction is in force, which a finite map doesn't show by computing, so its
-- situation and its row are those over an explicit list.
use Rattle.std.proofs.Common.{◌≡◌, refl, ap, sym, ◌∙◌}
use Rattle.std.specs.Prelude.{List, [], map, is_some}
use Rattle.std.specs.FinMap as finite
use Rattle.std.specs.Ordering.{nat_cmp}
use Rattle.std.proofs.lemmas.List.{nil_from_length}
use Rattle.sdm_num.specs.Readings.{OdometerReading}
use Rattle.sdm_rules.specs.declared.authorities.Authority.{Authority}
use Rattle.sdm_rules.specs.declared.restrictions.Restriction.{Restriction}
use Rattle.sdm_rules.specs.Data.{TrainAndTrack}
use Rattle.sdm_rules.specs.Profile.{mrsp, lowest_between}
use Rattle.sdm_rules.specs.Targets.{targets_of}
use Rattle.sdm_rules.specs.Reaction.{service_in_use}
use Rattle.sdm_rules.specs.Triggers.{Situation}
use Rattle.sdm_rules.specs.Commands.{nothing_held}
use Rattle.sdm_rules.specs.Supervision.{Supervision, opening, release_of, is_past_end, situation_of, row_of}
use Rattle.sdm_rules.specs.Supervision.{row_in}

-- a map that is empty has no entries
pub none_in_force : finite.entries (finite.empty {X = Restriction} {R = nat_cmp}) ≡ []
none_in_force = nil_from_length _ (sym (finite.len-entries finite.empty) ∙ finite.len-empty nat_cmp Restriction)

-- what the triggers look at with these restrictions in force
unfoldable pub situation_with : TrainAndTrack → Authority → List Restriction → OdometerReading → Situation
situation_with d a restrictions r =
    let release = release_of d a r.max in
    let profile = mrsp d.train d.track restrictions in
    record {
      speed = r.speed;
      ceiling_kmh = lowest_between profile r.min r.max;
      est = r.est;
      front = r.max;
      targets = targets_of profile a r.max (is_some release);
      past_end = is_past_end a r.min;
      release = release;
      in_use = service_in_use d;
    }

-- of a state with no restriction in force
pub situation_in : (s : Supervision) (r : OdometerReading) → s.restrictions ≡ finite.empty →
    situation_of s r ≡ situation_with s.train_and_track s.authority [] r
unfolding situation_of situation_with
situation_in s r none = ap (λ es. situation_with s.train_and_track s.authority (map (λ e. e.1) es) r)
    (ap finite.entries none ∙ none_in_force)

pub opening_situation : (d : TrainAndTrack) (a : Authority) (r : OdometerReading) →
    situation_of (opening d a) r ≡ situation_with d a [] r
opening_situation d a r = situation_in (opening d a) r refl

pub opening_row : (d : TrainAndTrack) (a : Authority) (r : OdometerReading) →
    row_of (opening d a) r ≡ row_in d nothing_held r (situation_with d a [] r)
opening_row d a r = ap (λ now. row_in d nothing_held r now) (opening_situation d a r)
