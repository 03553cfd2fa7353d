-- The zone of the restriction is found behind those of none, and the others stay.
use Rattle.std.proofs.Common.{◌≡◌, ◌+◌, ◌<◌, get_or, drop, length, vec_len, sym, ap, ◌∙◌, arith, inl, inr}
use Rattle.std.proofs.lemmas.Bool.{cases_lt}
use Rattle.std.proofs.lemmas.List.{get_or-drop, length-drop, take_rest}
use Rattle.std.proofs.lemmas.List.Quantifiers.{position-Some}
use Rattle.sdm_braking.specs.KeptFalls.{has_id, no_zone}
use Rattle.sdm_braking.proofs.AnyLaws.{one_found}
use Rattle.sdm_braking.proofs.StaticLaws.{any_held}
use Rattle.sdm_braking.proofs.zones.remove_held.Goals as goal

pub unreachable-requires : goal.unreachable-requires
unreachable-requires c =
    let zs = c.args.zones.now.items in
    one_found (has_id c.args.id) (drop c.args.statics zs)
    (any_held c.args.statics c.args.id zs c.requires.first c.requires.held)
    (sym (rw (c.in_default.is, c.deref.ensures.value, take_rest) at c.zone_by_id.ensures))

pub returns-clause-zone : goal.returns-clause-zone
returns-clause-zone c =
    let zs = c.args.zones.now.items in
    let n = c.args.statics in
    let held = c.in-Some.held in
    let found = sym (rw (c.in-Some.is, c.deref.ensures.value, take_rest) at c.zone_by_id.ensures) in
    let long : vec_len c.args.zones.now ≡ length zs = omega (arith, c.args.zones.now.ok.0) in
    let left : vec_len c.truncate.new.self ≡ length c.truncate.new.self.items
    = omega (arith, c.truncate.new.self.ok.0) in
    let inside = (position-Some (has_id c.args.id) (drop n zs) held no_zone found).0 in
    let known : n + held < length zs = omega (arith, inside, length-drop n zs) in
    let moved = c.copy_within.ensures.by_index in
    let cut = c.truncate.ensures.by_index in
    record {
      index = n + held;
      known = known;
      was = λ d. ap (has_id c.args.id) (sym (get_or-drop n zs held d))
          ∙ (position-Some (has_id c.args.id) (drop n zs) held d found).1;
      fewer = omega (arith, c.truncate.ensures.len, c.copy_within.ensures.len, c.len-last.ensures, long, left, known);
      last = λ d more. cut (n + held) d (omega (arith, c.len-last.ensures, long, more))
          ∙ moved.0 (n + held) d (omega arith) (omega (arith, c.len-last.ensures, long, more))
          ∙ ap (λ k. get_or zs k d) (omega (arith, c.len-last.ensures, long, more));
      others = λ k d apart more. cut k d (omega (arith, c.len-last.ensures, long, more))
          ∙ elim (cases_lt k (n + held)) [
            | inl lt ↦ moved.1 k d lt
            | inr le ↦ moved.2 k d (omega (arith, le, apart, c.len-last.ensures, long, more))
          ];
    }
