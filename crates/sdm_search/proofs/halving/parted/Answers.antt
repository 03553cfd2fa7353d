-- A turn looks at the element before the middle of what is left.
use Rattle.std.proofs.Common.{◌≡◌, ℕ, Bool, true, false, List, [], ◌∷◌, Bor, length, get_or, ◌+◌, ◌-◌, ◌*◌, ◌^◌, ◌<◌}
use Rattle.std.proofs.Common.{suc, arith, refl, sym, ap, ◌∙◌, of_calls}
use Rattle.std.specs.Fn.{ComputesKey, Called, Mut}
use Rattle.std.proofs.Math.Nat.{pow-succ'}
use Rattle.std.proofs.lemmas.Fn.{called}
use Rattle.std.proofs.lemmas.List.{get_or_read}
use Rattle.sdm_search.proofs.HalvingLaws.{left_past, left_before, left_short}
use Rattle.sdm_search.proofs.halving.parted.Goals as goal
use Rattle.sdm_search.proofs.halving.parted.Goals.{else-more-list-via-then-more-list+else-comes_first}
use Rattle.sdm_search.proofs.halving.parted.Goals.{else-more-list-via-else-more-list}

-- a call of a test that computes p answers p, and leaves a test that computes p
answers : {F A : Type 0} (g : Mut F (Bor A × Unit {0}) Bool) (p : A → Bool) (f f' : F) (a : Bor A × Unit {0})
    (r : Bool) → Called g f a r f' → ComputesKey g p f → (r ≡ p a.0.now) × ComputesKey g p f'
answers g p f f' a r called h =
    ((h.at (a ∷ []) r f' called).0, record { at = λ xs. (h.at (a ∷ xs) r f' called).1 })

-- what a look at an element tells of it
seen : {A : Type 0} (p : A → Bool) (xs : List A) (i : ℕ) (x : A) (r : Bool) → i < length xs → x ≡ get_or xs i x →
    r ≡ p x → (d : A) → p (get_or xs i d) ≡ r
seen p xs i x r known read is d = sym (is ∙ ap p (get_or_read xs i x known read d))

-- a power of 2 is twice the one before it
twice : (k n : ℕ) → 0 < k → n ≡ 2 ^ (k - 1) → 2 ^ k ≡ 2 * n
twice k n some is =
    let next : k ≡ suc (k - 1) = omega (arith, some) in
    ap (λ (j : ℕ). 2 ^ j) next ∙ pow-succ' 2 (k - 1) ∙ ap (λ (m : ℕ). 2 * m) (sym is)

pub loop-turn-preserved-then-comes_first : goal.loop-turn-preserved-then-comes_first
loop-turn-preserved-then-comes_first g c =
    let xs = c.args.list.now in
    let i = c.loop-turn.parted in
    let n = c.power_of_2-more.result in
    let inv = c.loop-turn.invariant in
    let call = called g.P.FnMut c.if-comes_first.ensures refl in
    let known : i + n - 1 < length xs = omega arith in
    record {
      callable = search of_calls;
      bound = omega arith;
      computes = λ p h. (answers g.P.FnMut p _ _ _ _ call (inv.computes p h)).1;
      left = λ p h q. rw (← c.power_of_2-more.ensures.value) (left_past p xs q i n c.power_of_2-more.ensures.some (omega arith)
          (rw (twice c.loop-turn.turn n c.loop-turn-test.true c.power_of_2-more.ensures.value) at inv.left p h q)
          (seen p xs (i + n - 1) _ true known c.index-list-parted.is
          (answers g.P.FnMut p _ _ _ _ call (inv.computes p h)).0));
    }

pub loop-turn-preserved : goal.loop-turn-preserved
loop-turn-preserved g c =
    let xs = c.args.list.now in
    let i = c.loop-turn.parted in
    let n = c.power_of_2-more.result in
    let inv = c.loop-turn.invariant in
    let twice_is = twice c.loop-turn.turn n c.loop-turn-test.true c.power_of_2-more.ensures.value in
    elim c.else-more-list.branch [
      | else-more-list-via-then-more-list+else-comes_first w ↦
          (let call = called g.P.FnMut w.if-comes_first.ensures refl in
          let known : i + n - 1 < length xs = omega arith in
          rw w.comes_first-is (record {
            callable = search of_calls;
            bound = inv.bound;
            computes = λ p h. (answers g.P.FnMut p _ _ _ _ call (inv.computes p h)).1;
            left = λ p h q. rw (← c.power_of_2-more.ensures.value) (left_before p xs q i n c.power_of_2-more.ensures.some
                (rw twice_is at inv.left p h q)
                (seen p xs (i + n - 1) _ false known w.index-list-parted.is
                (answers g.P.FnMut p _ _ _ _ call (inv.computes p h)).0));
          }))
      | else-more-list-via-else-more-list w ↦
          rw w.comes_first-is (record {
            callable = inv.callable;
            bound = inv.bound;
            computes = inv.computes;
            left = λ p h q. rw (← c.power_of_2-more.ensures.value)
                (left_short p xs i n (rw twice_is at inv.left p h q) (omega (arith, w.if-more-list.false)));
          })
    ]
