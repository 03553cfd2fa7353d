-- An end of a zone that is left is not the cell.
use Rattle.std.proofs.Common.{pos, inl, inr, subst, sym, ◌∙◌}
use Rattle.std.proofs.lemmas.Bool.{true≢false}
use Rattle.sdm_speed.specs.ZoneEnds.{IsZoneEnd}
use Rattle.sdm_speed.proofs.lifts.join_unless_zone_end.Goals as goal

pub returns-then-not-is_zone_end-clause-others : goal.returns-then-not-is_zone_end-clause-others
returns-then-not-is_zone_end-clause-others c x zone_end start =
    elim (c.join.ensures.others x start) [
      | inl e ↦ absurd (true≢false (sym (c.is_zone_end.ensures.no
          (subst (IsZoneEnd (pos c.args.length_cm) c.args.statics.now.list.items c.args.held.now) e zone_end))
          ∙ c.if-not-is_zone_end.true))
      | inr rest ↦ rest
    ]
