-- The first step that starts past the last cell ends the search; the others lower the speed. The steps that are kept
-- give the MRSP.
use Rattle.std.proofs.Common.{◌≡◌, ◌≤ℤ◌, ◌<ℤ◌, ◌+◌, ◌-◌, ◌+ℤ◌, pos, List, length, get_or, take, drop, min}
use Rattle.std.proofs.Common.{int_le, w32, to_z, of_z, suc, ap, sym, ◌∙◌, arith, rules}
use Rattle.std.specs.Int.{int_gap}
use Rattle.std.proofs.lemmas.Int.{ints, to_z-of_z}
use Rattle.std.proofs.lemmas.List.{drop_more, drop_all, take_rest}
use Rattle.std.proofs.lemmas.List.Sorted.{IsPartitionPoint-from_clause}
use Rattle.sdm_num.proofs.Comparisons.{le_of, not_le_of, lt_of, not_lt_of}
use Rattle.sdm_rules.specs.Cells.{lowest}
use Rattle.sdm_speed.specs.declared.steps.Step.{Step}
use Rattle.sdm_speed.specs.Steps.{ArePartedAt, speed_to}
use Rattle.sdm_speed.specs.Profiles.{mrsp_of}
use Rattle.sdm_speed.specs.Zones.{IsLimit}
use Rattle.sdm_speed.proofs.StepLaws.{begun_parted, none, speed_to_next}
use Rattle.sdm_speed.proofs.ZoneLaws.{int_gap_is}
use Rattle.sdm_speed.proofs.LowestLaws.{lowest_end, lowest_on, lowest_past, lowest_to}
use Rattle.sdm_speed.proofs.MrspLaws.{lowest_in_range}
use Rattle.sdm_speed.proofs.KeptLaws.{kept_mrsp, mrsp_in_range}
use Rattle.sdm_speed.proofs.profiles.Profile.lowest.Goals as goal
use Rattle.sdm_speed.proofs.profiles.Profile.lowest.Goals.{After-deref-2, in-0, in_default}

module _ (c : goal.After-deref-2) where
  -- the steps past those that start at the first cell or before it
  abbrev rest : List Step
  rest = take (length c.deref-2.result.now - c.parted-begun.result)
      (drop c.parted-begun.result c.deref-2.result.now)

  -- these others come first
  parted : ArePartedAt (c.args.from +ℤ pos 1) c.self.inside.steps.list.items c.parted-begun.result
  parted =
      let slice = c.deref.result.now in
      let from = c.args.from in
      let from_is : to_z w32 (of_z w32 from) ≡ from = to_z-of_z w32 from c.ranges.from in
      let parts = IsPartitionPoint-from_clause (λ (s : Step). int_le s.start from) slice c.parted-begun.result
      c.parted-begun.ensures.partitioned
      (begun_parted slice from (rw c.deref.ensures.value c.self.inside.steps.rises)) (λ a r f called. search rules) in
      rw (← c.deref.ensures.value) (record {
        bound = c.parted-begun.ensures.bound;
        before = λ k d l.
            let begun : (get_or slice k d).start ≤ℤ from = le_of _ _ (parts.0 k d (omega arith) l) in
            omega (arith, ints);
        from = λ k d l m.
            let later : from <ℤ (get_or slice k d).start = not_le_of _ _ (parts.1 k d l m) in
            omega (arith, ints);
      })

  -- the search begins with the speed of the last of them
  begins : c.match-begun.lowest
      ≡ speed_to c.self.inside.steps.before c.self.inside.steps.list.items c.parted-begun.result
  begins =
      let steps = c.self.inside.steps in
      elim c.match-begun.branch [
        | in-0 w ↦ rw w.in-0.is w.lowest-is
        | in_default w ↦
            let before = c.parted-begun.result - 1 in
            let one_before : c.parted-begun.result ≡ suc before = omega arith in
            rw one_before (w.lowest-is ∙ ap (λ (s : Step). s.speed) w.index.ensures
            ∙ sym (speed_to_next steps.before steps.list.items before w.index.result.now (omega arith)))
      ]

  -- from there it leads to the lowest MRSP of the cells
  whole : lowest_to c.match-begun.lowest rest c.args.to
      ≡ lowest min (mrsp_of c.args.self.now) c.args.from (int_gap c.args.from c.args.to)
  whole =
      let steps = c.self.inside.steps in
      rw (
        begins,
        take_rest,
        c.deref-2.ensures.value,
        ← c.self.view_is,
        ← kept_mrsp c.self.inside c.self.invariant,
      )
      (lowest_past steps.before steps.list.items c.parted-begun.result c.args.from
      (int_gap c.args.from c.args.to) c.args.to (int_gap_is c.args.from c.args.to c.requires) steps.rises parted)

  -- which is a limit
  in_range : IsLimit (lowest min (mrsp_of c.args.self.now) c.args.from (int_gap c.args.from c.args.to))
  in_range = rw (← c.self.view_is) (lowest_in_range _ _ _ (mrsp_in_range c.self.inside c.self.invariant))

pub loop-step-preserved : goal.loop-step-preserved
loop-step-preserved c =
    let steps = rest (goal.at.loop-step-preserved c).After-deref-2 in
    let i = c.loop-step.step-index in
    let step = get_or steps i none in
    let to_is : to_z w32 (of_z w32 c.args.to) ≡ c.args.to = to_z-of_z w32 c.args.to c.ranges.to in
    let start_is : to_z w32 (of_z w32 step.start) ≡ step.start = to_z-of_z w32 step.start (search rules) in
    let on : step.start ≤ℤ c.args.to = not_lt_of _ _ (rw (to_is, start_is) at c.if-to-step.false) in
    rw (to_is, c.min-lowest.ensures) (sym (lowest_on c.loop-step.lowest step (drop (i + 1) steps) c.args.to on)
    ∙ (rw (to_is, drop_more steps i none c.loop-step-test.true) at c.loop-step.invariant))

pub returns-then-to-step : goal.returns-then-to-step
returns-then-to-step c =
    let d = (goal.at.returns-then-to-step c).After-deref-2 in
    let i = c.loop-step.step-index in
    let step = get_or (rest d) i none in
    let to_is : to_z w32 (of_z w32 c.args.to) ≡ c.args.to = to_z-of_z w32 c.args.to c.ranges.to in
    let start_is : to_z w32 (of_z w32 step.start) ≡ step.start = to_z-of_z w32 step.start (search rules) in
    let past : c.args.to <ℤ step.start = lt_of _ _ (rw (to_is, start_is) at c.if-to-step.true) in
    let value = sym (lowest_end c.loop-step.lowest step (drop (i + 1) (rest d)) c.args.to past)
    ∙ (rw (to_is, drop_more (rest d) i none c.loop-step-test.true) at c.loop-step.invariant) ∙ whole d in
    record { value = value; in_range = rw value (in_range d) }

pub returns : goal.returns
returns c =
    let d = (goal.at.returns c).After-deref-2 in
    let to_is : to_z w32 (of_z w32 c.args.to) ≡ c.args.to = to_z-of_z w32 c.args.to c.ranges.to in
    let value = (rw (to_is, drop_all c.loop-step.step-index (rest d) c.loop-step-test.false) at c.loop-step.invariant)
    ∙ whole d in
    record { value = value; in_range = rw value (in_range d) }
