-- What is said decides as the profile says, and the nearest limits in whole millimetres are those that it prints.
use Rattle.std.proofs.Common.{◌≡◌, ℕ, Bool, Option, ◌&&◌, not, Some, ap, is_some, refl, sym, ◌∙◌, rules, w64}
use Rattle.std.proofs.Common.{if◌then◌else◌, arith}
use Rattle.std.specs.Prelude.{option_map, ◌==◌}
use Rattle.std.proofs.lemmas.Int.{ints, to_z-of_z}
use Rattle.sdm_num.specs.Bounds.{mm_below}
use Rattle.sdm_num.specs.Readings.{OdometerReading, estimate_of}
use Rattle.sdm_num.specs.Units.{distance_at}
use Rattle.sdm_rules.specs.declared.commands.State.TheVariants.{C, T, R}
use Rattle.sdm_rules.specs.Commands.{commands_after}
use Rattle.sdm_rules.specs.Data.{TrainAndTrack}
use Rattle.sdm_rules.specs.Limits.{computed, limits_of}
use Rattle.sdm_rules.specs.Reaction.{reaction_times, warning_time}
use Rattle.sdm_rules.specs.Supervision.{commands_in, is_covered_in, row_in, state_in}
use Rattle.sdm_rules.specs.Triggers.{Situation, is_indicated}
use Rattle.sdm_rules.specs.declared.rows.Row.{Row}
use Rattle.sdm_supervisor.specs.declared.nearest.Nearest.{Nearest}
use Rattle.sdm_supervisor.specs.Sights.{Seen}
use Rattle.sdm_supervisor.specs.Verdicts.{ebi_in, mm_before, permitted_in, sbi_in}
use Rattle.sdm_supervisor.proofs.sight.Sight.row.Goals as goal
use Rattle.sdm_supervisor.proofs.sight.Sight.row.Goals.{After-is_none, in-Some-default, in-None-true, in-None-false}

-- the state by the release speed and the indication limits
decided : (d : TrainAndTrack) (r : OdometerReading) (now : Situation) (release : Option ℕ) (indicated : Bool) →
    release ≡ now.release → indicated ≡ is_indicated (limits_of computed d (estimate_of r)) now →
    (if is_some release then R else if indicated then T else C) ≡ state_in d r now
unfolding state_in
decided d r now release indicated is said = λ k. if is_some (is k) then R else if said k then T else C

module _ (c : After-is_none) where
  -- what is seen
  abbrev seen : Seen
  seen = c.args.self.now

  -- the train's speed
  speed : c.speed_mm_s-v_est.result ≡ seen.situation.speed
  speed = c.speed_mm_s-v_est.ensures ∙ (λ k. (c.self.view_is k).situation.speed)

  -- the type of speed and distance monitoring
  state : c.match-self.state ≡ state_in seen.train_and_track seen.reading seen.situation
  state =
      let release = c.self.inside.release_kmh in
      let indicated = c.of-said.result.indicated in
      let found : c.match-self.state ≡ (if is_some release then R else if indicated then T else C) =
      elim c.match-self.branch [
        | in-Some-default w ↦ w.state-is ∙ rw w.in-Some-default.is-0 refl
        | in-None-true w ↦ w.state-is ∙ search rules
        | in-None-false w ↦ w.state-is ∙ search rules
      ] in
      found ∙ decided seen.train_and_track seen.reading seen.situation release indicated
      (λ k. (c.self.view_is k).situation.release) c.of-said.ensures.indicated

  -- the commands
  held : c.next-held.result ≡ commands_in seen.train_and_track c.args.held seen.reading seen.situation
  unfolding commands_in
  held =
      c.next-held.ensures
      ∙ (λ k. commands_after c.args.held (c.of-said.ensures.triggers k) (state k)
      ((c.notches.ensures.value ∙ c.speed_mm_s-v_est.ensures ∙ (λ i. (c.self.view_is i).reading.speed)) k == 0)
      ((c.has_early_release.ensures ∙ (λ i. (c.self.view_is i).train_and_track.national.early_release)) k)
      (c.self.view_is k).situation.in_use)

  -- the row with these nearest limits
  abbrev with_nearest : Option Nearest → Row
  with_nearest near = record {
    time = c.time.result;
    state = c.match-self.state;
    held = c.next-held.result;
    covered = c.is_none.result && c.of-said.result.covered;
    ceiling = c.self.inside.ceiling_kmh;
    ebi = option_map mm_below (ebi_in near);
    sbi = option_map mm_below (sbi_in near);
    warning = option_map (mm_before (distance_at seen.situation.speed warning_time)) (sbi_in near);
    permitted = option_map mm_below (permitted_in near);
    indication = option_map (mm_before (distance_at seen.situation.speed
        (reaction_times seen.train_and_track).indication)) (permitted_in near);
  }

  -- with those that were found it is that of the profile
  row : with_nearest c.of-said.result.nearest ≡ row_in seen.train_and_track c.args.held seen.reading seen.situation
  unfolding row_in is_covered_in
  row =
      let none : c.is_none.result ≡ not (is_some c.self.inside.release_kmh) = search rules in
      let shown = c.of-said.ensures.nearest in
      λ k. record {
        time = (c.time.ensures.value ∙ (λ i. (c.self.view_is i).reading.time)) k;
        state = state k;
        held = held k;
        covered = (none ∙ (λ i. not (is_some (c.self.view_is i).situation.release))) k && c.of-said.ensures.covered k;
        ceiling = (c.self.view_is k).situation.ceiling_kmh;
        ebi = shown.ebi k;
        sbi = shown.sbi k;
        warning = shown.warning k;
        permitted = shown.permitted k;
        indication = shown.indication k;
      }

pub less-requires-in-Some : goal.less-requires-in-Some
less-requires-in-Some c =
    let speed = c.notches.ensures.range in
    let distance = c.distance_at-reaction.ensures.small in
    (omega (arith, ints), omega (arith, ints))

pub returns-in-Some : goal.returns-in-Some
returns-in-Some c =
    let here = (goal.at.returns-in-Some c).After-is_none in
    let near = c.in-Some.nearest in
    let times : c.times.result.now ≡ reaction_times (seen here).train_and_track = c.times.ensures.value
    ∙ (λ k. reaction_times (c.self.view_is k).train_and_track) in
    let ebi : c.map-row.result ≡ option_map mm_below near.ebi = search rules in
    let sbi = to_z-of_z w64 c.mm_below.result (search (rules, ints)) ∙ c.mm_below.ensures in
    let warning = to_z-of_z w64 c.mm_below-in-Some.result (search (rules, ints)) ∙ c.mm_below-in-Some.ensures
    ∙ ap mm_below c.less.ensures ∙ (λ k. mm_before ((c.distance_at.ensures.value
    ∙ (λ i. distance_at (speed here i) warning_time)) k) near.sbi) in
    let permitted = to_z-of_z w64 c.mm_below-in-Some-2.result (search (rules, ints)) ∙ c.mm_below-in-Some-2.ensures in
    let indication = to_z-of_z w64 c.mm_below-in-Some-3.result (search (rules, ints)) ∙ c.mm_below-in-Some-3.ensures
    ∙ ap mm_below c.less-in-Some.ensures ∙ (λ k. mm_before ((c.distance_at-reaction.ensures.value
    ∙ (λ i. distance_at (speed here i) (times i).indication)) k) near.permitted) in
    (λ k. record (with_nearest here (Some near)) {
      ebi = ebi k;
      sbi = Some (sbi k);
      warning = Some (warning k);
      permitted = Some (permitted k);
      indication = Some (indication k);
    }) ∙ ap (with_nearest here) (sym c.in-Some.is) ∙ row here

pub returns-in_default : goal.returns-in_default
returns-in_default c =
    let here = (goal.at.returns-in_default c).After-is_none in
    ap (with_nearest here) (sym c.in_default.is) ∙ row here
