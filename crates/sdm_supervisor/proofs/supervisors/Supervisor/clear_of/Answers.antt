-- What is found up to the track's end is the first clear place of the state, and the law of clear places holds of it.
use Rattle.std.proofs.Common.{◌≡◌, pos, ◌*◌, ◌*ℤ◌, arith, subst}
use Rattle.std.proofs.lemmas.Int.{ints}
use Rattle.sdm_rules.specs.Supervision.{Supervision}
use Rattle.sdm_row_laws.specs.Clearances.{IsFirstClearOf}
use Rattle.sdm_braking.specs.Braking.{IsSupervisable}
use Rattle.sdm_supervisor.proofs.ClearLaws.{found, stops}
use Rattle.sdm_supervisor.proofs.CycleLaws.{is_open}
use Rattle.sdm_supervisor.proofs.supervisors.Supervisor.clear_of.Goals as goal

module _ (c : goal.After-first_clear) where
  first : IsFirstClearOf c.args.allowance c.args.self.now.train_and_track c.args.reading.now c.first_clear.result
  first =
      let d = c.self.inside.braking in
      let run = c.of-run in
      let end : pos (10 * c.track_cm.result) ≡ pos 10 *ℤ d.track.length_cm =
      omega (arith, ints, c.track_cm.ensures.value) in
      subst (λ (s : Supervision).
      IsFirstClearOf c.args.allowance s.train_and_track c.args.reading.now c.first_clear.result) c.self.view_is
      (found c.args.allowance d c.args.reading.now c.track_cm.ensures.accepted run.result.front run.result.way
      run.result.speed (10 * c.track_cm.result)
      (record { front_is = run.ensures.front; way_is = run.ensures.way; speed_is = run.ensures.speed }) end
      c.first_clear.result c.first_clear.ensures.found)

pub returns-clause-first : goal.returns-clause-first
returns-clause-first c = first c

pub returns-clause-stops : goal.returns-clause-stops
returns-clause-stops c =
    stops c.args.allowance c.args.self.now c.args.reading.now
    (is_open c.args.self.now
    (subst (λ (s : Supervision). IsSupervisable s.train_and_track) c.self.view_is c.track_cm.ensures.accepted))
    c.first_clear.result (first c)
