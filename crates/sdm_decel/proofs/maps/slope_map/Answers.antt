-- What a map is made of is well formed and gives the slopes of the kind, so the map stands for them, or its fault is
-- theirs.
use Rattle.std.proofs.Common.{Ok, Err, Result, IfOk}
use Rattle.std.proofs.lemmas.Result.{IfOk-weaker, IfErr-weaker}
use Rattle.sdm_decel.proofs.Making.{map_data_is, stands_for, stretches_kept, accepts, refuses}
use Rattle.sdm_decel.proofs.maps.slope_map.Goals as goal

-- what follows of two facts of a result
IfOk-both : {T E : Type 0} (r : Result T E) (P Q R : T → Type 0) → ((x : T) → P x → Q x → R x) → IfOk r P → IfOk r Q →
    IfOk r R
IfOk-both (Ok x) P Q R f p q = f x p q
IfOk-both (Err e) P Q R f p q = tt

pub new-requires : goal.new-requires
new-requires c =
    let q = c.q_of.ensures in
    rw (c.deref.ensures.value, c.deref-2.ensures.value, c.deref-3.ensures.value)
    (map_data_is c.args.kind _ c.q_of.result _ _ _ c.in-Ok.ensures q.value q.least q.greatest)

pub returns : goal.returns
returns c =
    let q = c.q_of.ensures in
    let made = rw (c.deref.ensures.value, c.deref-2.ensures.value, c.deref-3.ensures.value) at c.new.ensures.kept in
    let accepted = rw (c.deref.ensures.value, c.deref-2.ensures.value, c.deref-3.ensures.value) at
    c.new.ensures.accepted in
    let fault = rw (c.deref.ensures.value, c.deref-2.ensures.value, c.deref-3.ensures.value) at c.new.ensures.fault in
    record {
      slopes = IfOk-both c.new.result _ _ _ (λ m is h. stands_for c.args.kind _ c.q_of.result _ _ _ c.in-Ok.ensures
          q.value q.least q.greatest m is h) made accepted;
      segments = IfOk-weaker c.new.result _ _ (λ m is.
          stretches_kept c.args.kind _ c.q_of.result _ _ _ c.in-Ok.ensures q.value q.least q.greatest m is) made;
      accepted = IfOk-weaker c.new.result _ _
          (λ m h. accepts c.args.kind _ c.q_of.result _ _ _ c.in-Ok.ensures q.value q.least q.greatest h) accepted;
      fault = IfErr-weaker c.new.result _ _
          (λ f h. refuses c.args.kind _ c.q_of.result _ _ _ c.in-Ok.ensures q.value q.least q.greatest f h) fault;
    }
