-- The kept falls past the cell of the min safe front end and the kept end are the targets that are asked, and so the law
-- of what-if readings holds.
use Rattle.std.proofs.Common.{◌≡◌, IsTrue, Bool, false, map, ◌++◌, ◌∙◌, ap, refl, sym, subst, to_z, of_z, w32, rules}
use Rattle.std.proofs.Common.{arith}
use Rattle.std.proofs.lemmas.Int.{ints, to_z-of_z}
use Rattle.std.proofs.lemmas.List.{length-map}
use Rattle.std.specs.List.{list_all}
use Rattle.sdm_num.specs.Readings.{estimate_of}
use Rattle.sdm_rules.specs.Cells.{cell_of}
use Rattle.sdm_rules.specs.Supervision.{Supervision, is_covered_for}
use Rattle.sdm_rules.specs.Targets.{end_of, targets_of}
use Rattle.sdm_speed.specs.Profiles.{mrsp_of}
use Rattle.sdm_speed.proofs.MrspLaws.{mrsp_is}
use Rattle.sdm_braking.specs.Braking.{IsSupervisable}
use Rattle.sdm_braking.specs.KeptCurves.{IsKeptEnd, targets_in}
use Rattle.sdm_braking.specs.KeptFalls.{target_of}
use Rattle.sdm_braking.proofs.FootLaws.{falls_in_order}
use Rattle.sdm_braking.proofs.WalkLaws.{ends_kept, targets_are}
use Rattle.sdm_ahead.specs.WhatIfs.{would_cover_from}
use Rattle.sdm_ahead.proofs.LessAsked.{less_asked}
use Rattle.sdm_supervisor.proofs.CycleLaws.{is_open}
use Rattle.sdm_supervisor.proofs.supervisors.Supervisor.would_cover_up_to.Goals as goal
use Rattle.sdm_supervisor.proofs.supervisors.Supervisor.would_cover_up_to.Goals.{in-Stop, in-Limit}

pub invariant_of-sight : goal.invariant_of-sight
invariant_of-sight c =
    let d = c.self.inside.braking in
    let kept = c.self.invariant.kept.falls in (
      record {
        ceiling = omega arith;
        release = tt;
        falls = c.ahead-ahead.ensures.each d kept.each;
        end = rw c.deref.ensures
            (ends_kept d c.self.inside.authority c.self.inside.kept.end.value c.self.invariant.kept.end);
      },
      record {
        order = c.ahead-ahead.ensures.order (falls_in_order d (mrsp_of c.self.inside.profile) c.self.inside.kept.falls.list
            kept.falls kept.each);
        hidden = c.ahead-ahead.ensures.hidden d kept.hidden;
        brake_room = rw (length-map c.ahead-ahead.result.falls target_of) c.ahead-ahead.ensures.brake_room;
        guide_room = rw (length-map c.ahead-ahead.result.falls target_of) c.ahead-ahead.ensures.guide_room;
      },
    )

module _ (c : goal.After-of) where
  -- the falls are those past the cell of the min safe front end
  after : to_z w32 (of_z w32 c.cell.result) ≡ cell_of c.min_mm.result
  after = to_z-of_z w32 c.cell.result (search (rules, ints)) ∙ c.cell.ensures

  -- they end at the EOA or the LOA
  end_is : c.match-self.end ≡ end_of c.self.inside.authority
  end_is = elim c.match-self.branch [
    | in-Stop w ↦ w.end-is ∙ rw w.in-Stop.is refl
    | in-Limit w ↦ w.end-is ∙ rw w.in-Limit.is refl
  ]

  end_seen : IsKeptEnd c.self.inside.braking c.self.inside.authority c.deref.result.now
  end_seen = rw c.deref.ensures c.self.invariant.kept.end

  targets : map target_of c.ahead-ahead.result.falls ++ targets_in c.deref.result.now false
      ≡ targets_of (mrsp_of c.self.inside.profile) c.self.inside.authority c.args.asked.now.min false
  targets =
      targets_are c.self.inside.braking (mrsp_of c.self.inside.profile) c.self.inside.authority
      c.ahead-ahead.result.falls c.deref.result.now _ c.min_mm.result c.match-self.end false after end_is
      (c.ahead-ahead.ensures.each c.self.inside.braking c.self.invariant.kept.falls.each)
      (c.ahead-ahead.ensures.falls (mrsp_of c.self.inside.profile) c.self.invariant.kept.falls.falls) end_seen
      ∙ (λ k. targets_of (mrsp_of c.self.inside.profile) c.self.inside.authority (c.min_mm.ensures k) false)

  -- so what is asked is what the definitions say
  would : c.of.result.covered ≡ would_cover_from c.args.self.now c.args.asked.now.min c.args.asked.now
  unfolding would_cover_from
  would =
      let inside = c.self.inside in
      let d = inside.braking in
      let asked = c.args.asked.now in
      let is = c.self.invariant.profile in
      let profile = sym (mrsp_is inside.profile d.train d.track is.max_speed is.length_cm is.speeds) in
      subst (λ (s : Supervision). c.of.result.covered ≡ would_cover_from s asked.min asked) c.self.view_is
      (c.of.ensures.covered ∙ ap (list_all (is_covered_for d asked.max (estimate_of asked)))
      (targets ∙ (λ k. targets_of (profile k) inside.authority asked.min false)))

pub returns-clause-value : goal.returns-clause-value
returns-clause-value c = would c

pub returns-clause-covers : goal.returns-clause-covers
returns-clause-covers c is r h =
    less_asked c.args.self.now c.args.asked.now.min c.args.asked.now r
    (is_open c.args.self.now
    (subst (λ (s : Supervision). IsSupervisable s.train_and_track) c.self.view_is c.track_cm.ensures.accepted))
    (subst (λ (b : Bool). IsTrue b) (would c) is) h
