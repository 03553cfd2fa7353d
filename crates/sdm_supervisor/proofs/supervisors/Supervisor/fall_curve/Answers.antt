-- What is kept of the fall at the cell has its EBD.
use Rattle.std.proofs.Common.{◌≡◌, false, ◌<ℤ◌, subst, arith, w32, to_z, of_z}
use Rattle.std.proofs.lemmas.Int.{ints, to_z-of_z}
use Rattle.sdm_rules.specs.Supervision.{Supervision, profile_of}
use Rattle.sdm_rules.specs.Targets.{is_fall}
use Rattle.sdm_speed.specs.Profiles.{mrsp_of}
use Rattle.sdm_supervisor.specs.Supervised.{IsFallCurve}
use Rattle.sdm_braking.specs.KeptFalls.{data_of, first_cell}
use Rattle.sdm_supervisor.proofs.CurveLaws.{fall_curve_is, no_fall_is}
use Rattle.sdm_supervisor.proofs.supervisors.Supervisor.fall_curve.Goals as goal

pub returns-in-Some : goal.returns-in-Some
returns-in-Some c =
    let inside = c.self.inside in
    let k = data_of c.in-Some.fall in
    let cell_is : to_z w32 (of_z w32 c.args.cell) ≡ c.args.cell = to_z-of_z w32 c.args.cell c.ranges.cell in
    let past : first_cell <ℤ c.args.cell = omega (arith, ints, c.requires) in
    let fall = (rw cell_is at c.in-Some.ensures.falls) (mrsp_of inside.profile) c.self.invariant.kept.falls.falls past
    in
    subst (λ (s : Supervision). IsFallCurve s c.args.cell k.kept.brake) c.self.view_is
    (fall_curve_is inside.braking inside.authority inside.profile inside.last_time inside.held c.self.invariant.profile
    c.args.cell k fall (c.in-Some.ensures.each inside.braking c.self.invariant.kept.falls.each))

pub returns-in-None : goal.returns-in-None
returns-in-None c =
    let inside = c.self.inside in
    let cell_is : to_z w32 (of_z w32 c.args.cell) ≡ c.args.cell = to_z-of_z w32 c.args.cell c.ranges.cell in
    let past : first_cell <ℤ c.args.cell = omega (arith, ints, c.requires) in
    let none = (rw cell_is at c.in-None.ensures.falls) (mrsp_of inside.profile) c.self.invariant.kept.falls.falls past
    in
    subst (λ (s : Supervision). is_fall (profile_of s) c.args.cell ≡ false) c.self.view_is
    (no_fall_is inside.braking inside.authority inside.profile inside.last_time inside.held c.self.invariant.profile
    c.args.cell none)
