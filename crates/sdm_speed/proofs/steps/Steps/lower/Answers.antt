-- Once the ends of the zone are starts, the steps are capped.
use Rattle.std.proofs.Common.{◌≡◌, length, inl, inr, sym, ap, subst, ◌∙◌, arith}
use Rattle.sdm_rules.specs.Profile.{Zone, capped}
use Rattle.sdm_speed.specs.Steps.{AreCovered}
use Rattle.sdm_speed.proofs.CapLaws.{cap_only, cap_starts, capped_speeds}
use Rattle.sdm_speed.proofs.SplitLaws.{split_covered}
use Rattle.sdm_speed.proofs.steps.Steps.lower.Goals as goal

pub cap-requires : goal.cap-requires
cap-requires c =
    let zone = c.zone.inside in
    let one = c.split_at-from.new.self.list in
    let both = c.split_at-to.new.self.list in
    let from = c.split_at-from.result in
    let to = c.split_at-to.result in
    let whole = one.ok.0 in
    let all_is : c.len-all.result ≡ length one.items = omega (arith, c.len-all.ensures) in
    subst (λ (z : Zone). AreCovered z both.items from to) c.zone.view_is
    (split_covered zone.limit zone.first zone.past c.args.self.now.list.items one.items both.items from to
    c.split_at-from.ensures.split (rw all_is at c.split_at-to.ensures.split))

pub returns-clause-speeds : goal.returns-clause-speeds
returns-clause-speeds c cell =
    let zone = c.args.zone in
    let one = c.split_at-from.ensures in
    let both = c.split_at-to.ensures in
    let split = c.split_at-to.new.self in
    let first_is = ap (λ (z : Zone). z.first) c.zone.view_is in
    let past_is = ap (λ (z : Zone). z.past) c.zone.view_is in
    rw (c.cap.ensures.before, c.cap.ensures.list) (capped_speeds zone split.before split.list.items cell split.rises
    (λ b is. both.starts b (one.start b (first_is ∙ is))) (λ b is. both.start b (past_is ∙ is)))
    ∙ ap (capped cell zone) (both.speeds cell ∙ one.speeds cell)

pub returns-clause-starts : goal.returns-clause-starts
returns-clause-starts c =
    let zone = c.args.zone in
    let one = c.split_at-from.ensures in
    let both = c.split_at-to.ensures in
    let first_is = ap (λ (z : Zone). z.first) c.zone.view_is in
    let past_is = ap (λ (z : Zone). z.past) c.zone.view_is in
    record {
      kept = λ x start. rw c.cap.ensures.list (cap_starts zone x _ (both.starts x (one.starts x start)));
      first = λ b is. rw c.cap.ensures.list (cap_starts zone b _ (both.starts b (one.start b (first_is ∙ is))));
      past = λ b is. rw c.cap.ensures.list (cap_starts zone b _ (both.start b (past_is ∙ is)));
      only = λ x start. elim (both.only x (cap_only zone x _ (rw c.cap.ensures.list at start))) [
        | inl is ↦ inr (inl (sym past_is ∙ is))
        | inr rest ↦ elim (one.only x rest) [ inl is ↦ inl (sym first_is ∙ is) | inr before ↦ inr (inr before) ]
      ];
    }
