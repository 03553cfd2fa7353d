-- Each next fall gets its zone; past the last one all have theirs.
use Rattle.std.proofs.Common.{◌≡◌, None, w32, to_z, of_z, ◌∙◌, ap, arith, rules}
use Rattle.std.proofs.lemmas.Int.{to_z-of_z}
use Rattle.sdm_speed.specs.Profiles.{mrsp_of}
use Rattle.sdm_targets.proofs.CountLaws.{fall_counts}
use Rattle.sdm_braking.specs.KeptFalls.{KeptFallsData}
use Rattle.sdm_braking.proofs.StaticLaws.{next_static}
use Rattle.sdm_braking.proofs.ZoneLaws.{few_statics, one_curve, one_more, one_static, static_zones_are}
use Rattle.sdm_braking.proofs.kept_falls.KeptFalls.keep_statics.Goals as goal

pub keep_zone-requires-clause-room : goal.keep_zone-requires-clause-room
keep_zone-requires-clause-room c =
    let p = c.args.profile.now in
    let inv = c.loop-fall.invariant in
    let few = few_statics p _ _ c.requires.bare inv.few in
    omega (arith, few, inv.room, c.requires.room)

pub loop-fall-preserved : goal.loop-fall-preserved
loop-fall-preserved c =
    let p = c.args.profile.now in
    let d = c.args.braking.now in
    let inv = c.loop-fall.invariant in
    let fall = c.in-Some.fall in
    let more = c.keep_zone.ensures.zone in
    let counts = fall_counts p _ fall c.in-Some.ensures.value in
    let cell_is : to_z w32 (of_z w32 fall.cell) ≡ fall.cell = to_z-of_z w32 fall.cell (search rules) in
    rw cell_is (record {
      statics = one_static d (mrsp_of p) _ fall c.loop-fall.self.zones c.keep_zone.new.self.zones inv.statics
          c.in-Some.ensures.value more;
      order = next_static d _ fall c.loop-fall.self.zones c.keep_zone.new.self.zones inv.order
          c.in-Some.ensures.value.beyond more;
      curves = one_curve d None fall c.loop-fall.self.zones c.keep_zone.new.self.zones inv.curves more;
      few = omega (arith, counts, inv.few, one_more d None fall c.loop-fall.self.zones c.keep_zone.new.self.zones more);
      room = c.keep_zone.ensures.room ∙ inv.room;
    })

pub returns-clause-zones : goal.returns-clause-zones
returns-clause-zones c =
    let p = c.args.profile.now in
    let inv = c.loop-fall.invariant in
    let room = ap (λ (v : KeptFallsData). v.room) c.self.view_is in
    static_zones_are p _ _ c.requires.bare c.in_default.ensures.value (rw (← c.self.view_is) at inv.statics)
    (rw (← c.self.view_is) at (few_statics p _ _ c.requires.bare inv.few))
    (c.len-self-inside.ensures ∙ c.self.inside.zones.ok.0)
    (omega (arith, room, inv.room, c.requires.room))
