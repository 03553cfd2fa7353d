-- The later elements are copied one place down, and the last one, which stands twice then, goes.
use Rattle.std.proofs.Common.{◌≡◌, ◌+◌, ◌-◌, ◌<◌, ℕ, suc, List, [], length, take, drop, sym, arith}
use Rattle.std.specs.List.{copy_within, remove}
use Rattle.std.proofs.lemmas.List.{append-nil, drop_all, take_at, take_rest}
use Rattle.std.proofs.lemmas.List.Edits.{length-remove}
use Rattle.sdm_speed.proofs.removals.remove_at.Goals as goal
use Rattle.sdm_speed.proofs.removals.remove_at.Goals.{then-i-last, else-i-last}

module _ {X : Type 0} (xs : List X) (i : ℕ) where
  -- what stands at an index is gone when all behind it is copied one place down, and the end is cut off
  moved_down : i < length xs → take (length xs - 1) (copy_within xs (i + 1) (length xs) i) ≡ remove xs i
  moved_down known =
      let later : take (length xs - (i + 1)) (drop (i + 1) xs) ≡ drop (i + 1) xs = take_rest xs (i + 1) in
      let next : i + 1 ≡ suc i = omega arith in
      rw (later, next) (take_at (remove xs i) _ (length xs - 1) (omega (arith, length-remove xs i known)))

  -- the last element is gone when the end is cut off
  cut_off : i + 1 ≡ length xs → take (length xs - 1) xs ≡ remove xs i
  cut_off last =
      let here : length xs - 1 ≡ i = omega (arith, last) in
      let none : drop (suc i) xs ≡ [] = drop_all (suc i) xs (omega (arith, last)) in
      rw (here, none) (sym (append-nil (take i xs)))

pub returns-clause-items : goal.returns-clause-items
returns-clause-items g c =
    let xs = c.args.list.now.items in
    let i = c.args.i in
    let whole = c.args.list.now.ok.0 in
    let all : c.len-last.result ≡ length xs = omega (arith, c.len-last.ensures) in
    elim c.if-i-last.branch [
      | then-i-last w ↦
          (let end : c.len-last.result - 1 + 1 ≡ length xs = omega (arith, all, w.if-i-last) in
          let long : w.copy_within.new.self.len ≡ length xs = omega (arith, w.copy_within.ensures.len) in
          rw (c.pop.ensures.rest, w.list-is, long, w.copy_within.ensures.items, end)
          (moved_down xs i (omega (arith, all, c.requires))))
      | else-i-last w ↦
          (let long : c.args.list.now.len ≡ length xs = omega (arith, whole) in
          rw (c.pop.ensures.rest, w.list-is, long) (cut_off xs i (omega (arith, all, c.requires, w.if-i-last))))
    ]
