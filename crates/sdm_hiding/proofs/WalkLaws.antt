-- The walk of a reading over a row of curves: what is passed over is no earlier than what is asked.
use Rattle.std.proofs.Common.{◌≡◌, ℕ, ◌+◌, ◌<◌, ◌≤◌, ◌≤ℤ◌, List, [], ◌∷◌, ◌++◌, length}
use Rattle.std.proofs.Common.{◌⊎◌, inl, inr, arith, refl, subst, zero}
use Rattle.std.proofs.lemmas.Bool.{cases_lt}
use Rattle.std.proofs.lemmas.Int.{ints}
use Rattle.std.proofs.lemmas.List.{length-append}
use Rattle.std.proofs.lemmas.List.Elements.{Contains-append_left, Contains-append_right}
use Rattle.sdm_num.specs.Units.{notches}
use Rattle.sdm_rules.specs.Slopes.{Slopes, IsUsable}
use Rattle.sdm_order.proofs.Feet.{feet_in_order}
use Rattle.sdm_hiding.specs.declared.asking.Asking.{Asking}
use Rattle.sdm_hiding.specs.declared.rows.Foot.{Foot}
use Rattle.sdm_hiding.specs.Asking.{AreFeet, AreFew, IsBehind, IsEnough, IsStoodFor, IsWalkedTo, place_on}
use Rattle.sdm_hiding.specs.Hiding.{IsAt, IsHiddenAfter}
use Rattle.sdm_hiding.proofs.FootLaws.{at_or_before, at_or_past, no_faster, one_foot}

-- the walk, at an index with what it has to ask
abbrev pub walk : ℕ → ℕ → Asking
walk at slowest = record { at = at; slowest = slowest }

module _ (on : Slopes) (feet : List Foot) (margin v bec : ℕ) where
  -- nothing is asked at the beginning
  pub begun : IsWalkedTo on feet margin v bec [] (walk 0 (v + 1))
  begun = record {
    passed = λ k f before. absurd (omega (arith, before));
    faster = λ k f from at slow fast. absurd (omega (arith, slow, fast));
    bound = omega arith;
    few = record {
      all = omega arith;
      more = λ inside. omega arith;
      slower = λ inside some. absurd (omega (arith, some));
    };
  }

  -- past the end each curve is stood for
  pub all_done : (asked : List ℕ) (a : Asking) → IsWalkedTo on feet margin v bec asked a → length feet ≤ a.at →
      IsEnough on feet v bec asked
  all_done asked a so_far end k f at slow = elim (so_far.passed k f (omega (arith, end, at.known)) at slow) [
    | inl done ↦ done
    | inr b ↦ (let inside = b.here.known in absurd (omega (arith, inside, end)))
  ]

  -- ---- one more that is asked

  -- what was stood for stays so
  more : (asked : List ℕ) (i : ℕ) (f : Foot) → IsStoodFor on feet v bec asked f →
      IsStoodFor on feet v bec (asked ++ i ∷ []) f
  more asked i f h = record {
    index = h.index;
    asked_there = Contains-append_left asked (i ∷ []) h.index h.asked_there;
    foot = h.foot;
    at = h.at;
    stands = h.stands;
  }

  module _ (is : AreFeet margin feet) (usable : IsUsable on) (asked : List ℕ) (i slowest : ℕ) (g : Foot)
      (here : IsAt feet i g) (so_far : IsWalkedTo on feet margin v bec asked (walk i slowest)) where
    -- one that is asked stands for each curve that it is at or before, where it counts
    by_this : (f : Foot) → g.permitted < slowest → (g.speed < v) ⊎ (g.permitted ≤ f.permitted) →
        place_on on bec g ≤ℤ place_on on bec f → IsStoodFor on feet v bec (asked ++ i ∷ []) f
    by_this f counts either le =
        let bound = so_far.bound in
        record {
          index = i;
          asked_there = Contains-append_right asked (i ∷ []) i (zero, omega arith, refl);
          foot = g;
          at = here;
          stands = record { slow = omega (arith, counts, bound); counts = either; no_later = le };
        }

    -- what stands for a slow curve stands for each one that it is at or before
    behind : (f : Foot) → g.speed < v → place_on on bec g ≤ℤ place_on on bec f → IsStoodFor on feet v bec asked g →
        IsStoodFor on feet v bec asked f
    behind f slow le h =
        let before = h.stands.no_later in
        record {
          index = h.index;
          asked_there = h.asked_there;
          foot = h.foot;
          at = h.at;
          stands = record {
            slow = h.stands.slow;
            counts = elim h.stands.counts [
              | inl slower ↦ inl slower
              | inr lower ↦ (let rises = is.rising h.index i h.foot g h.at here lower in
                  inl (omega (arith, rises, slow)))
            ];
            no_later = omega (arith, ints, before, le);
          };
        }

    -- where the next curve is behind another one, it is this one
    this_behind : (f : Foot) → IsBehind on feet v bec i f → (g.speed < v) × (place_on on bec g ≤ℤ place_on on bec f)
    this_behind f b =
        let same = one_foot feet i b.next g b.here here in (
          subst (λ (x : Foot). x.speed < v) same b.slow,
          subst (λ (x : Foot). place_on on bec x ≤ℤ place_on on bec f) same b.no_later,
        )

    -- the same foot at this index
    this_foot : (k : ℕ) (f : Foot) → k ≡ i → IsAt feet k f → f ≡ g
    this_foot k f same at = one_foot feet i f g (subst (λ (n : ℕ). IsAt feet n f) same at) here

    -- a curve that is passed over, since one that is no faster was asked
    pub skip : slowest ≤ g.permitted → IsWalkedTo on feet margin v bec asked (walk (i + 1) slowest)
    skip le = record {
      passed = λ k f before at slow. elim (cases_lt k i) [
        | inl less ↦ elim (so_far.passed k f less at slow) [
          | inl done ↦ inl done
          | inr b ↦ (
              let this = this_behind f b in
              let above = is.above i g here in
              inl (behind f this.0 this.1 (so_far.faster i g (omega arith) here (omega (arith, this.0, above)) le)))
        ]
        | inr ge ↦ (let same : k ≡ i = omega (arith, before, ge) in
            inl (so_far.faster k f (omega (arith, same)) at slow (rw (this_foot k f same at) le)))
      ];
      faster = λ k f from at slow fast. so_far.faster k f (omega (arith, from)) at slow fast;
      bound = so_far.bound;
      few = record {
        all = so_far.few.all;
        more = λ inside. so_far.few.more here.known;
        slower = λ inside some. so_far.few.slower here.known some;
      };
    }

    -- how many are asked with one more
    one_more : length (asked ++ i ∷ []) ≡ length asked + 1
    one_more = length-append asked (i ∷ [])

    -- how many are asked with one that is slower than those before it, and not slow
    few_more : g.permitted < slowest → v ≤ g.speed →
        AreFew feet margin v (length (asked ++ i ∷ [])) (walk (i + 1) g.permitted)
    few_more counts fast =
        let few = so_far.few in
        let bound = so_far.bound in
        let whole = is.whole i g here in
        let near = is.near i g here in
        let steps : g.permitted + notches (length asked + 1) ≤ v + notches 1 = elim (cases_lt 0 (length asked)) [
          | inr none ↦ omega (arith, none, counts, bound)
          | inl some ↦ (let last = few.slower here.known some in
              of_steps whole.0 last.0 (length asked) g.permitted slowest v whole.1 last.1 counts last.2)
        ] in
        let most : length asked + 1 ≤ margin + 1 = omega (arith, steps, near, fast) in
        record {
          all = rw one_more (omega (arith, most));
          more = λ inside. rw one_more most;
          slower = λ inside some. rw one_more (whole.0, whole.1, steps, omega (arith, near, fast));
        }
      where
        of_steps : (a b n t u w : ℕ) → t ≡ notches a → u ≡ notches b → t < u → u + notches n ≤ w + notches 1 →
            t + notches (n + 1) ≤ w + notches 1
        of_steps a b n t u w t_is u_is lt le = omega (arith, t_is, u_is, lt, le)

    -- one that is asked and not slow: none further on that is no slower has to be asked
    pub ask : g.permitted < slowest → v ≤ g.speed →
        IsWalkedTo on feet margin v bec (asked ++ i ∷ []) (walk (i + 1) g.permitted)
    ask counts fast =
        let bound = so_far.bound in
        record {
          passed = λ k f before at slow. elim (cases_lt k i) [
            | inl less ↦ elim (so_far.passed k f less at slow) [
              | inl done ↦ inl (more asked i f done)
              | inr b ↦ (let this = this_behind f b in absurd (omega (arith, this.0, fast)))
            ]
            | inr ge ↦ (
                let same : k ≡ i = omega (arith, before, ge) in
                let foot = this_foot k f same at in
                inl (rw foot (by_this g counts (inr (omega arith)) (omega (arith, ints)))))
          ];
          faster = λ k f from at slow lower. by_this f counts (inr lower)
              (feet_in_order on g.place f.place g.speed f.speed bec usable
              (is.order i k g f (omega (arith, from)) here at) (is.rising i k g f here at lower));
          bound = omega (arith, counts, bound);
          few = few_more counts fast;
        }

    module _ (fast : v ≤ bec) (slow : g.speed < v) (s : ℕ) (h : IsHiddenAfter on feet i g s) where
      -- a slow curve is at or before all up to the one that hides it
      before_all : (k : ℕ) (f : Foot) → i < k → k < i + s → IsAt feet k f → place_on on bec g ≤ℤ place_on on bec f
      before_all k f after before at =
          at_or_past on f g bec usable (is.order i k g f (omega (arith, after)) here at) (h.clear k f after before at)

      -- on to the curve that hides it
      pub jump : (to : Foot) → IsAt feet (i + s) to → IsWalkedTo on feet margin v bec asked (walk (i + s) slowest)
      jump to there =
          let hidden = h.hidden to there in
          let earlier = at_or_before on to g bec usable (omega (arith, slow, fast)) hidden in
          let slower = no_faster on to g hidden in
          let behind_it : (f : Foot) → place_on on bec g ≤ℤ place_on on bec f → IsBehind on feet v bec (i + s) f =
          λ f le. record {
            next = to;
            here = there;
            slow = omega (arith, slower, slow);
            no_later = omega (arith, ints, earlier, le);
          } in
          record {
            passed = λ k f before at counts. elim (cases_lt k i) [
              | inl less ↦ elim (so_far.passed k f less at counts) [
                | inl done ↦ inl done
                | inr b ↦ inr (behind_it f (this_behind f b).1)
              ]
              | inr ge ↦ elim (cases_lt i k) [
                | inl after ↦ inr (behind_it f (before_all k f after before at))
                | inr le ↦ (let same : k ≡ i = omega (arith, le, ge) in
                    inr (behind_it f (rw (this_foot k f same at) (omega (arith, ints)))))
              ]
            ];
            faster = λ k f from at counts lower. so_far.faster k f (omega (arith, from)) at counts lower;
            bound = so_far.bound;
            few = record {
              all = so_far.few.all;
              more = λ inside. so_far.few.more here.known;
              slower = λ inside some. so_far.few.slower here.known some;
            };
          }

      -- a slow curve that is asked, since nothing of the row hides it, ends the walk
      pub last : g.permitted < slowest → length feet ≤ i + s →
          IsWalkedTo on feet margin v bec (asked ++ i ∷ []) (walk (length feet) slowest)
      last counts past =
          let known = so_far.few.more here.known in
          record {
            passed = λ k f before at target. elim (cases_lt k i) [
              | inl less ↦ elim (so_far.passed k f less at target) [
                | inl done ↦ inl (more asked i f done)
                | inr b ↦ inl (by_this f counts (inl slow) (this_behind f b).1)
              ]
              | inr ge ↦ elim (cases_lt i k) [
                | inl after ↦ inl (by_this f counts (inl slow)
                    (before_all k f after (omega (arith, past, before)) at))
                | inr le ↦ (let same : k ≡ i = omega (arith, le, ge) in
                    inl (rw (this_foot k f same at) (by_this g counts (inl slow) (omega (arith, ints)))))
              ]
            ];
            faster = λ k f from at target lower. (let inside = at.known in absurd (omega (arith, from, inside)));
            bound = so_far.bound;
            few = record {
              all = rw one_more (omega (arith, known));
              more = λ inside. absurd (omega (arith, inside));
              slower = λ inside some. absurd (omega (arith, inside));
            };
          }
