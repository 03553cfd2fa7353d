-- The causes in their order, by the list of the restrictions held.
use Rattle.std.proofs.Common.{◌<◌, ◌≤◌, ◌≤ℤ◌, ◌<ℤ◌, pos, ap, sym, ◌∙◌, arith}
use Rattle.std.specs.FinMap as finite
use Rattle.std.proofs.lemmas.Int.{ints}
use Rattle.sdm_rules.specs.Records.{most_restrictions}
use Rattle.sdm_speed.specs.Profiles.{ProfileData}
use Rattle.sdm_speed.proofs.KeptLaws.{held_count}
use Rattle.sdm_speed.proofs.RestrictLaws.{refused_as_full, refused_as_in_use, refused_as_empty, refused_past_end}
use Rattle.sdm_speed.proofs.RestrictLaws.{not_refused}
use Rattle.sdm_speed.proofs.profiles.Profile.check.Goals as goal
use Rattle.sdm_speed.proofs.profiles.Profile.check.Goals.{then-r-via-then-r, then-r-via-else-r+then-self-r}

pub returns-then-full : goal.returns-then-full
returns-then-full c =
    let p = c.args.self.now in
    let full : most_restrictions ≤ finite.len p.restrictions = omega
    (arith, held_count _ c.self.invariant p c.self.view_is, c.len-full.ensures) in
    sym (refused_as_full p.track_cm p.restrictions c.args.r full)

pub returns-then-is_held : goal.returns-then-is_held
returns-then-is_held c =
    let p = c.args.self.now in
    let room : finite.len p.restrictions
    < most_restrictions = omega (arith, held_count _ c.self.invariant p c.self.view_is, c.len-full.ensures) in
    sym (refused_as_in_use p.track_cm p.restrictions c.args.r room (sym c.is_held.ensures ∙ c.if-is_held.true))

pub returns-then-r : goal.returns-then-r
returns-then-r c =
    let p = c.args.self.now in
    let room : finite.len p.restrictions
    < most_restrictions = omega (arith, held_count _ c.self.invariant p c.self.view_is, c.len-full.ensures) in
    let track_is = ap (λ (q : ProfileData). q.track_cm) c.self.view_is in
    let new = sym c.is_held.ensures ∙ c.if-is_held.false in
    elim c.then-r.branch [
      | then-r-via-then-r w ↦ sym (refused_as_empty p.track_cm p.restrictions c.args.r room new w.if-r.true)
      | then-r-via-else-r+then-self-r w ↦ (
          let past : p.track_cm <ℤ pos c.args.r.end = rw (← track_is) (let l = w.if-self-r.true in omega (arith, ints))
          in
          sym (refused_past_end p.track_cm p.restrictions c.args.r room new w.if-r.false past))
    ]

pub returns : goal.returns
returns c =
    let p = c.args.self.now in
    let room : finite.len p.restrictions
    < most_restrictions = omega (arith, held_count _ c.self.invariant p c.self.view_is, c.len-full.ensures) in
    let track_is = ap (λ (q : ProfileData). q.track_cm) c.self.view_is in
    let new = sym c.is_held.ensures ∙ c.if-is_held.false in
    let on : pos c.args.r.end ≤ℤ p.track_cm = rw (← track_is) (omega (arith, ints)) in
    sym (not_refused p.track_cm p.restrictions c.args.r room new c.if-r.false on)
