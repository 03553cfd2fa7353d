-- Sorting moves the cells, and each then stays once.
use Rattle.std.proofs.lemmas.List.Filters.{dedup_is}
use Rattle.std.proofs.lemmas.List.Kept.{Contains-dedup_nat, Contains-from_dedup}
use Rattle.std.proofs.lemmas.List.Sorted.{Contains-permutation, IsPermutation-sym}
use Rattle.std.proofs.lemmas.Map.Keys.{IsStrictlyIncreasing-dedup}
use Rattle.sdm_decel.proofs.cells.put_in_order.Goals as goal

pub returns-clause-rises : goal.returns-clause-rises
returns-clause-rises c =
    rw (dedup_is _ _ _ c.dedup.ensures.filtered) (IsStrictlyIncreasing-dedup _ c.sort_unstable.ensures.sorted)

pub returns-clause-keeps : goal.returns-clause-keeps
returns-clause-keeps c = λ x h. rw (dedup_is _ _ _ c.dedup.ensures.filtered)
    (Contains-dedup_nat _ x (Contains-permutation _ _ x c.sort_unstable.ensures.permutation h))

pub returns-clause-adds_none : goal.returns-clause-adds_none
returns-clause-adds_none c = λ x h. Contains-permutation _ _ x
    (IsPermutation-sym _ _ c.sort_unstable.ensures.permutation)
    (Contains-from_dedup _ _ x (rw (dedup_is _ _ _ c.dedup.ensures.filtered) at h))
