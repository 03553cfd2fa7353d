-- Each part of what is seen is that of the definitions, by the clause of the call that found it.
use Rattle.std.proofs.Common.{◌≡◌, min, map, ◌++◌, ◌∙◌, ap, refl, sym, subst, is_some, Option, true, false, to_z, of_z}
use Rattle.std.proofs.Common.{w32, rules, arith, Bool, length, ◌≤◌}
use Rattle.std.proofs.lemmas.Int.{ints, to_z-of_z}
use Rattle.std.proofs.lemmas.List.{length-append, length-map}
use Rattle.std.specs.Int.{int_gap}
use Rattle.sdm_rules.specs.Cells.{cell_of, lowest}
use Rattle.sdm_rules.specs.Supervision.{Supervision, release_of, is_past_end}
use Rattle.sdm_rules.specs.Targets.{end_of, targets_of}
use Rattle.sdm_speed.specs.Profiles.{mrsp_of}
use Rattle.sdm_braking.specs.declared.kept_ends.KeptEnd.{KeptEnd}
use Rattle.sdm_braking.specs.declared.kept_ends.KeptEnd.TheVariants.{Limit, Stop}
use Rattle.sdm_braking.specs.declared.releases.Release.{Release}
use Rattle.sdm_braking.specs.KeptCurves.{IsKeptEnd, targets_in}
use Rattle.sdm_braking.specs.KeptFalls.{target_of}
use Rattle.sdm_supervisor.specs.Sights.{Seen, seen_at}
use Rattle.sdm_laws.proofs.Rows.Passing.{passing}
use Rattle.sdm_supervisor.proofs.CycleLaws.{is_open}
use Rattle.sdm_braking.proofs.FootLaws.{falls_in_order}
use Rattle.sdm_braking.proofs.ReleaseLaws.{release_speed_at, release_speed_at_is, release_speed_in_range}
use Rattle.sdm_supervisor.proofs.FindLaws.{seen_is}
use Rattle.sdm_supervisor.proofs.WithinLaws.{released_at}
use Rattle.sdm_braking.proofs.WalkLaws.{ends_kept, is_past_eoa, past_eoa, targets_are}
use Rattle.sdm_supervisor.proofs.supervisors.Supervisor.sight.Goals as goal
use Rattle.sdm_supervisor.proofs.supervisors.Supervisor.sight.Goals.{in-Some, in_default-2, in_default}
use Rattle.sdm_supervisor.proofs.supervisors.Supervisor.sight.Goals.{in-Stop, in-Limit, in-Stop-deref, in-Limit-deref}

module _ (c : goal.After-deref-2) where
  -- the cell of the min safe front end
  back : to_z w32 (of_z w32 c.cell.result) ≡ cell_of c.args.reading.now.min
  back = to_z-of_z w32 c.cell.result (search (rules, ints)) ∙ c.cell.ensures ∙ ap cell_of c.min_mm.ensures

  -- the cell of the max safe front end
  front : to_z w32 (of_z w32 c.cell-cell.result) ≡ cell_of c.args.reading.now.max
  front = to_z-of_z w32 c.cell-cell.result (search (rules, ints)) ∙ c.cell-cell.ensures
      ∙ ap cell_of c.max_mm-front.ensures

  -- the ceiling is the least MRSP between both
  ceiling : c.lowest.result ≡ lowest min (mrsp_of c.self.inside.profile) (cell_of c.args.reading.now.min)
      (int_gap (cell_of c.args.reading.now.min) (cell_of c.args.reading.now.max))
  ceiling =
      c.lowest.ensures.value ∙ (λ k. lowest min (mrsp_of c.self.inside.profile) (back k) (int_gap (back k) (front k)))

  -- the release speed is that which is kept, past the start of its monitoring
  released : c.match-self-2.result ≡ release_speed_at c.self.inside.kept.release c.max_mm-front.result
  released =
      let kept = c.self.inside.kept.release in
      let front = c.max_mm-front.result in
      elim c.match-self-2.branch [
        | in-Some w ↦ w.result-is ∙ released_at kept w.in-Some.release front true w.in-Some.is w.if-is_passed_by.ensures
        | in_default-2 w ↦
            w.result-is ∙ released_at kept w.in-Some.release front false w.in-Some.is w.if-is_passed_by.ensures
        | in_default w ↦ w.result-is ∙ sym (ap (λ (x : Option Release). release_speed_at x front) w.in_default.is)
      ]

  -- so it is that of the definitions
  in_release_monitoring : c.match-self-2.result ≡
      release_of c.self.inside.braking c.self.inside.authority c.args.reading.now.max
  in_release_monitoring =
      released ∙ release_speed_at_is c.self.inside.braking c.self.inside.authority
      c.self.inside.kept.release c.max_mm-front.result c.self.invariant.kept.release
      ∙ ap (release_of c.self.inside.braking c.self.inside.authority) c.max_mm-front.ensures

  -- the falls ahead are those past the cell of the max safe front end
  after : to_z w32 (of_z w32 c.cell-cell.result) ≡ cell_of c.max_mm-front.result
  after = to_z-of_z w32 c.cell-cell.result (search (rules, ints)) ∙ c.cell-cell.ensures

  -- they end at the EOA or the LOA
  end_is : c.match-self.end ≡ end_of c.self.inside.authority
  end_is = elim c.match-self.branch [
    | in-Stop w ↦ w.end-is ∙ rw w.in-Stop.is refl
    | in-Limit w ↦ w.end-is ∙ rw w.in-Limit.is refl
  ]

  -- the end of the authority is read out of its box, for its targets
  end_seen : IsKeptEnd c.self.inside.braking c.self.inside.authority c.deref-2.result.now
  end_seen = rw c.deref-2.ensures c.self.invariant.kept.end

  -- the min safe front end is past the EOA that is kept, where one is
  end_passed : c.match-deref.result ≡ is_past_end c.self.inside.authority c.args.reading.now.min
  end_passed =
      let kept : c.match-deref.result ≡ is_past_eoa c.deref.result.now c.args.reading.now.min =
      elim c.match-deref.branch [
        | in-Stop-deref w ↦ rw (w.in-Stop-deref.is, ← w.min_mm-in-Stop-deref.ensures) (search rules)
        | in-Limit-deref w ↦ w.result-is ∙ rw w.in-Limit-deref.is refl
      ] in
      kept ∙ past_eoa c.self.inside.braking c.self.inside.authority c.deref.result.now c.args.reading.now.min
      (rw c.deref.ensures c.self.invariant.kept.end)

  -- the falls ahead and the end make the targets of the definitions
  targets : map target_of c.ahead-ahead.result.falls ++ targets_in c.deref-2.result.now (is_some c.match-self-2.result)
      ≡ targets_of (mrsp_of c.self.inside.profile) c.self.inside.authority c.args.reading.now.max
      (is_some (release_of c.self.inside.braking c.self.inside.authority c.args.reading.now.max))
  targets =
      targets_are c.self.inside.braking (mrsp_of c.self.inside.profile) c.self.inside.authority
      c.ahead-ahead.result.falls c.deref-2.result.now _ c.max_mm-front.result c.match-self.end
      (is_some c.match-self-2.result) after end_is
      (c.ahead-ahead.ensures.each c.self.inside.braking c.self.invariant.kept.falls.each)
      (c.ahead-ahead.ensures.falls (mrsp_of c.self.inside.profile) c.self.invariant.kept.falls.falls) end_seen
      ∙ (λ k. targets_of (mrsp_of c.self.inside.profile) c.self.inside.authority (c.max_mm-front.ensures k)
      (is_some (in_release_monitoring k)))

  -- all that is seen
  abbrev seen : Seen
  seen = record {
    train_and_track = c.self.inside.braking;
    reading = c.args.reading.now;
    situation = record {
      speed = c.args.reading.now.speed;
      ceiling_kmh = c.lowest.result;
      est = c.args.reading.now.est;
      front = c.args.reading.now.max;
      targets = map target_of c.ahead-ahead.result.falls ++ targets_in c.deref-2.result.now (is_some c.match-self-2.result);
      past_end = c.match-deref.result;
      release = c.match-self-2.result;
      in_use = c.is_service_in_use.result;
    };
  }

pub lowest-requires : goal.lowest-requires
lowest-requires c = search (rules, ints)

pub invariant_of-result : goal.invariant_of-result
invariant_of-result c =
    let d = c.self.inside.braking in
    let kept = c.self.invariant.kept.falls in (
      record {
        ceiling = search rules;
        release = rw (released c)
            (release_speed_in_range d c.self.inside.authority c.self.inside.kept.release c.max_mm-front.result
            c.self.invariant.kept.release);
        falls = c.ahead-ahead.ensures.each d kept.each;
        end = rw c.deref-2.ensures
            (ends_kept d c.self.inside.authority c.self.inside.kept.end.value c.self.invariant.kept.end);
      },
      record {
        order = c.ahead-ahead.ensures.order (falls_in_order d (mrsp_of c.self.inside.profile) c.self.inside.kept.falls.list
            kept.falls kept.each);
        hidden = c.ahead-ahead.ensures.hidden d kept.hidden;
        brake_room = rw (length-map c.ahead-ahead.result.falls target_of) c.ahead-ahead.ensures.brake_room;
        guide_room = rw (length-map c.ahead-ahead.result.falls target_of) c.ahead-ahead.ensures.guide_room;
      },
    )

pub returns-clause-seen : goal.returns-clause-seen
returns-clause-seen c =
    subst (λ (s : Supervision). seen c ≡ seen_at s c.args.reading.now) c.self.view_is
    (seen_is c.self.inside.braking c.self.inside.authority c.self.inside.profile c.self.inside.last_time
    c.self.inside.held c.args.reading.now (seen c).situation c.self.invariant.profile
    refl (ceiling c) refl refl (targets c) (end_passed c)
    (in_release_monitoring c) c.is_service_in_use.ensures.value)

pub returns-clause-accepted : goal.returns-clause-accepted
returns-clause-accepted c = is_open c.args.self.now (rw (← c.self.view_is) c.is_service_in_use.ensures.accepted)

pub returns-clause-upwards : goal.returns-clause-upwards
returns-clause-upwards c name = passing c.args.self.now c.args.reading.now name (returns-clause-accepted c)

-- an authority has two targets at most
at_most_two : (end : KeptEnd) (in_release_monitoring : Bool) → length (targets_in end in_release_monitoring) ≤ 2
at_most_two (Stop eoa svl) true = omega arith
at_most_two (Stop eoa svl) false = omega arith
at_most_two (Limit loa) in_release_monitoring = omega arith

pub returns-clause-few : goal.returns-clause-few
returns-clause-few c =
    rw (length-append, length-map) (omega (
      arith,
      c.ahead-ahead.ensures.few,
      c.self.invariant.kept.falls.few,
      at_most_two c.deref-2.result.now (is_some c.match-self-2.result),
    ))
