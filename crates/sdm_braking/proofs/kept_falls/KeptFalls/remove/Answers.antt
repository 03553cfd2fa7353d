-- No fall has a place. The zone that goes stands behind those of the static profile, which stay first.
use Rattle.std.proofs.Common.{◌≡◌, ◌∙◌, List, arith, ap, length, rules, sym}
use Rattle.std.proofs.lemmas.List.{length-map}
use Rattle.sdm_braking.specs.KeptFalls.{KeptFallData, KeptFallsData, kept_at}
use Rattle.sdm_braking.proofs.StaticLaws.{first_less}
use Rattle.sdm_braking.proofs.kept_falls.KeptFalls.remove.Goals as goal

pub invariant_of-self : goal.invariant_of-self
invariant_of-self c =
    let zs = c.self.inside.zones.items in
    let none : length c.self.inside.list.items ≡ 0 =
    sym (length-map c.self.inside.list.items (kept_at zs)) ∙ ap (λ (v : KeptFallsData). length v.list) c.self.view_is
    ∙ ap (λ (ks : List KeptFallData). length ks) c.clear.ensures.list in (
      λ k d lt. absurd (omega (arith, lt, none)),
      search rules,
      search rules,
      search rules,
      search rules,
      search rules,
      first_less c.self.inside.statics c.args.id zs c.remove_held.new.zones.items c.self.invariant.6
          c.remove_held.ensures.zone,
      c.self.invariant.7,
    )
