-- What is kept says of the reading what the definitions say, and so the law of readings within the SvL holds.
use Rattle.std.proofs.Common.{◌≡◌, Bool, Option, false, is_some, refl, ap, ◌∙◌, sym, subst}
use Rattle.std.specs.Prelude.{IsTrue}
use Rattle.sdm_rules.specs.Supervision.{Supervision, release_of}
use Rattle.sdm_rules.specs.Within.{is_within, is_within_svl}
use Rattle.sdm_laws.proofs.Rows.WithinSvl.{within_stops}
use Rattle.sdm_braking.specs.declared.kept_ends.KeptEnd.{KeptEnd}
use Rattle.sdm_braking.specs.declared.releases.Release.{Release}
use Rattle.sdm_braking.specs.Braking.{IsSupervisable}
use Rattle.sdm_braking.specs.KeptCurves.{AreKept, IsKeptEnd}
use Rattle.sdm_braking.proofs.ReleaseLaws.{release_speed_at}
use Rattle.sdm_braking.proofs.WalkLaws.{ends_kept}
use Rattle.sdm_supervisor.proofs.CycleLaws.{is_open}
use Rattle.sdm_supervisor.proofs.WithinLaws.{begun_at, by_front, monitored, not_in_release, not_of_limit}
use Rattle.sdm_supervisor.proofs.supervisors.Supervisor.within_svl.Goals as goal
use Rattle.sdm_supervisor.proofs.supervisors.Supervisor.within_svl.Goals.{in-Some+else-is_passed_by, in_default-release}

pub returns-in_default-clause-value : goal.returns-in_default-clause-value
unfolding is_within_svl
returns-in_default-clause-value c =
    let inside = c.self.inside in
    subst (λ (s : Supervision). false ≡ is_within s.train_and_track c.args.reading.now s.authority) c.self.view_is
    (not_of_limit inside.braking c.args.reading.now inside.authority c.in_default.field-0
    (subst (λ (e : KeptEnd). IsKeptEnd inside.braking inside.authority e) (sym c.deref.ensures ∙ c.in_default.is)
    c.self.invariant.kept.end))

pub returns-then-is_passed_by-clause-value : goal.returns-then-is_passed_by-clause-value
unfolding is_within_svl
returns-then-is_passed_by-clause-value c =
    let inside = c.self.inside in
    let r = c.args.reading.now in
    let begun =
    monitored inside.braking inside.authority inside.kept.release r.max c.max_mm.result c.is_passed_by.result
    c.self.invariant.kept.release (begun_at inside.kept.release c.in-Some.release c.max_mm.result c.is_passed_by.result
    c.in-Some.is c.is_passed_by.ensures) c.max_mm.ensures in
    subst (λ (s : Supervision). false ≡ is_within s.train_and_track r s.authority) c.self.view_is
    (not_in_release inside.braking r inside.authority c.in-Stop.eoa c.in-Stop.svl
    (subst (λ (e : KeptEnd). IsKeptEnd inside.braking inside.authority e) (sym c.deref.ensures ∙ c.in-Stop.is)
    c.self.invariant.kept.end) (sym begun ∙ c.if-is_passed_by.true))

module _ (c : goal.After-is_before_svl) where
  -- the reading is within the SvL where the definitions say
  within : c.is_before_svl.result ≡ is_within_svl c.args.self.now c.args.reading.now
  unfolding is_within_svl
  within =
      let inside = c.self.inside in
      let r = c.args.reading.now in
      let begun : is_some (release_of inside.braking inside.authority r.max) ≡ false =
      elim c.match-self.branch [
        | in-Some+else-is_passed_by w ↦
            sym (monitored inside.braking inside.authority inside.kept.release r.max w.max_mm.result
            w.is_passed_by.result c.self.invariant.kept.release (begun_at inside.kept.release w.in-Some.release
            w.max_mm.result w.is_passed_by.result w.in-Some.is w.is_passed_by.ensures) w.max_mm.ensures)
            ∙ w.if-is_passed_by.false
        | in_default-release w ↦
            sym (monitored inside.braking inside.authority inside.kept.release r.max r.max false
            c.self.invariant.kept.release (sym (ap (λ (x : Option Release). is_some (release_speed_at x r.max))
            w.in_default-release.is)) refl)
      ] in
      subst (λ (s : Supervision). c.is_before_svl.result ≡ is_within s.train_and_track r s.authority) c.self.view_is
      (by_front inside.braking r inside.authority c.in-Stop.eoa c.in-Stop.svl c.is_before_svl.result
      (subst (λ (e : KeptEnd). IsKeptEnd inside.braking inside.authority e) (sym c.deref.ensures ∙ c.in-Stop.is)
      c.self.invariant.kept.end) begun c.is_before_svl.ensures)

pub is_before_svl-requires : goal.is_before_svl-requires
is_before_svl-requires c =
    let inside = c.self.inside in
    (subst (λ (e : KeptEnd). AreKept inside.braking e) (sym c.deref.ensures ∙ c.in-Stop.is)
    (ends_kept inside.braking inside.authority inside.kept.end.value c.self.invariant.kept.end)).1

pub returns-clause-value : goal.returns-clause-value
returns-clause-value c = within c

pub returns-clause-stops : goal.returns-clause-stops
returns-clause-stops c is =
    within_stops c.args.self.now c.args.reading.now
    (is_open c.args.self.now
    (subst (λ (s : Supervision). IsSupervisable s.train_and_track) c.self.view_is c.track_cm.ensures.accepted))
    (subst (λ (b : Bool). IsTrue b) (within c) is)
