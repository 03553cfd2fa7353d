-- The lowest gradient of the cells under a train is the lowest of the entries under it: each cell there lies in one of
-- them, and each of them has a cell there. It stays until the next change.
use Rattle.std.proofs.Common.{◌≡◌, ℕ, ℤ, pos, List, length, get_or, ◌+◌, ◌<◌, ◌≤◌, ◌-ℤ◌, ◌≤ℤ◌, ◌<ℤ◌, inl, inr}
use Rattle.std.proofs.Common.{[], ◌∷◌, refl, sym, ap, ◌∙◌, arith}
use Rattle.std.proofs.lemmas.Int.{ints}
use Rattle.std.proofs.lemmas.Bool.{cases_lt}
use Rattle.std.proofs.lemmas.List.{get_or_default}
use Rattle.sdm_rules.specs.declared.data.Gradient.{Gradient}
use Rattle.sdm_rules.specs.Decelerations.{track_gradient}
use Rattle.sdm_rules.specs.Ranges.{longest_track}
use Rattle.sdm_track.specs.Steps.{IsRising, LiesIn, IsBeforeNext}
use Rattle.sdm_track.specs.Ranges.{AreGradients}
use Rattle.sdm_track.specs.Sweeps.{level, grad_at, IsLowestAt, AreLows, gradient_start, gradient_under, still_left}
use Rattle.sdm_track.specs.Sweeps.{IsUnder, IsUpToNext, IsFirstChange, IsSweep}
use Rattle.sdm_track.proofs.StepLaws.{found, later_start, lies_in_order, lies_at_start, lies_on, value_is}
use Rattle.sdm_track.proofs.LowestLaws.{IsLowest, lowest_is}
use Rattle.sdm_track.proofs.LowLaws.{low_of_first}

-- ---- the lowest gradient under the train

module _ (entries : List Gradient) (rear front : ℕ) (back at : ℤ) (rise : IsRising gradient_start entries)
    (long : back ≤ℤ at)
    (in_rear : LiesIn gradient_start entries rear back) (in_front : LiesIn gradient_start entries front at) where
  -- no cell is below the lowest of the entries
  none_below_low : (low : ℕ) → IsLowestAt entries rear (front + 1) low → (c : ℤ) → back ≤ℤ c → c ≤ℤ at →
      grad_at entries low ≤ℤ track_gradient entries c
  none_below_low low h c a b =
      let here = found gradient_start entries c (omega (arith, in_rear.known)) in
      let above = lies_in_order gradient_start entries rear here.index level back c rise in_rear here.lies a in
      let below = lies_in_order gradient_start entries here.index front level c at rise here.lies in_front b in
      rw (value_is gradient_start (λ e. e.grad) entries here.index c level (pos 0) rise here.lies)
      (h.none_below here.index above (omega (arith, below)))

  -- a cell that lies in it has its gradient: the rear cell in the rear entry, in another one its first cell
  lowest_cell : (low : ℕ) → IsLowestAt entries rear (front + 1) low →
      IsLowest (track_gradient entries) back at (grad_at entries low)
  lowest_cell low h =
      let value = λ (c : ℤ) (lies : LiesIn gradient_start entries low c).
      value_is gradient_start (λ e. e.grad) entries low c level (pos 0) rise lies in
      elim (cases_lt rear low) [
        | inl lt ↦ (
            let known : low < length entries = omega (arith, h.to_front, in_front.known) in
            let past = later_start gradient_start entries rear low level back rise in_rear lt known in
            let begun = in_front.begun level (omega (arith, h.to_front)) in
            record {
              none_below = none_below_low low h;
              at = (get_or entries low level).start;
              from_first = omega (arith, ints);
              to_last = elim (cases_lt low front) [
                | inl l ↦ (let r = rise.rises low front level l in_front.known in omega (arith, ints))
                | inr g ↦ (let e : low ≡ front = omega (arith, h.to_front) in rw e begun)
              ];
              reached = value _ (lies_at_start gradient_start entries low level _ rise known refl);
            })
        | inr ge ↦ (
            let e : rear ≡ low = omega (arith, h.from_rear) in
            record {
              none_below = none_below_low low h;
              at = back;
              from_first = omega (arith, ints);
              to_last = long;
              reached = value back (rw e at in_rear);
            })
      ]

-- so the gradient of a front end is that of the first low of the entries in which its cells lie
pub gradient_is : (entries : List Gradient) (length_cm rear front : ℕ) (cell : ℤ) (lows : List ℕ) (d : ℕ) →
    IsRising gradient_start entries → (0 < length entries → IsUnder entries length_cm rear front cell) →
    rear ≤ front → AreLows entries rear (front + 1) lows →
    gradient_under entries length_cm cell ≡ grad_at entries (get_or lows 0 d)
gradient_is entries length_cm rear front cell [] d rise under ordered lows = absurd (omega arith)
gradient_is [] length_cm rear front cell (low ∷ more) d rise under ordered lows =
    lowest_is (track_gradient []) (cell -ℤ pos length_cm) cell length_cm (pos 0)
    (omega (arith, ints)) (record {
      none_below = λ c a b. omega (arith, ints);
      at = cell;
      from_first = omega (arith, ints);
      to_last = omega (arith, ints);
      reached = refl;
    })
gradient_is (x ∷ xs) length_cm rear front cell (low ∷ more) d rise under ordered lows =
    let here = under (omega arith) in
    lowest_is (track_gradient (x ∷ xs)) (cell -ℤ pos length_cm) cell length_cm _
    (omega (arith, ints)) (lowest_cell (x ∷ xs) rear front (cell -ℤ pos length_cm) cell rise (omega (arith, ints))
    here.behind here.ahead low lows.0)

-- ---- up to the next change

-- no way back from a cell
pub no_back : (cell : ℕ) → pos cell -ℤ pos 0 ≡ pos cell
no_back cell = omega (arith, ints)

module _ (entries : List Gradient) (length_cm rear front : ℕ) (at : ℤ) (lows : List ℕ) (room : ℕ)
    (sweep : IsSweep entries length_cm rear front at lows room) where
  -- the gradient there is that of the first low
  pub first_low : (low : ℕ) → low ≡ get_or lows 0 low → gradient_under entries length_cm at ≡ grad_at entries low
  first_low low is = gradient_is entries length_cm rear front at lows low sweep.gradients.rise sweep.under sweep.ordered
      sweep.lows_are ∙ ap (grad_at entries) (sym is)

  -- as long as neither end comes to its next entry, the gradient stays
  same_on : (c : ℤ) → at ≤ℤ c →
      (0 < length entries → IsBeforeNext gradient_start entries rear (c -ℤ pos length_cm)) →
      (0 < length entries → IsBeforeNext gradient_start entries front c) →
      gradient_under entries length_cm c ≡ gradient_under entries length_cm at
  same_on c le behind ahead =
      gradient_is entries length_cm rear front c lows 0 sweep.gradients.rise
      (λ some. record {
        behind = lies_on gradient_start entries rear (at -ℤ pos length_cm) (c -ℤ pos length_cm)
            (sweep.under some).behind (omega (arith, ints)) (behind some);
        ahead = lies_on gradient_start entries front at c (sweep.under some).ahead le (ahead some);
      }) sweep.ordered sweep.lows_are
      ∙ sym (gradient_is entries length_cm rear front at lows 0 sweep.gradients.rise sweep.under sweep.ordered
      sweep.lows_are)

  -- with the rear end in the last entry it stays for good
  pub same_from : length entries ≤ rear + 1 → (c : ℤ) → at ≤ℤ c →
      gradient_under entries length_cm c ≡ gradient_under entries length_cm at
  same_from last c le = same_on c le (λ some. record { before = λ d m. absurd (omega arith) })
      (λ some. record { before = λ d m. absurd (omega (arith, sweep.ordered)) })

  module _ (change : ℤ) (more : rear + 1 < length entries)
      (first : IsFirstChange entries length_cm rear front change) where
    -- the change is past the cell
    pub later : at <ℤ change
    later =
        let under = sweep.under (omega arith) in
        elim first.one_of [
          | inl is ↦ (let l = under.behind.goes_on.before level more in omega (arith, ints))
          | inr is ↦ (let l = under.ahead.goes_on.before level is.0 in omega (arith, ints))
        ]

    -- up to it the gradient stays
    pub same_until : (c : ℤ) → at ≤ℤ c → c <ℤ change →
        gradient_under entries length_cm c ≡ gradient_under entries length_cm at
    same_until c le lt = same_on c le
        (λ some. record {
          before = λ d m. (let b = first.by_rear in rw (get_or_default entries _ d level m) (omega (arith, ints)));
        })
        (λ some. record {
          before = λ d m. (let b = first.by_front m in rw (get_or_default entries _ d level m) (omega (arith, ints)));
        })

    -- there each end lies in its entry or where the next one starts
    pub near_rear : IsUpToNext entries rear (change -ℤ pos length_cm)
    near_rear = (let under = sweep.under (omega arith) in let l = later in let b = first.by_rear in record {
      known = omega arith;
      begun = λ p. (let begun = under.behind.begun level p in omega (arith, ints));
      up_to = λ m. omega (arith, ints);
    })

    pub near_front : IsUpToNext entries front change
    near_front = (let under = sweep.under (omega arith) in let l = later in record {
      known = under.ahead.known;
      begun = λ p. (let begun = under.ahead.begun level p in omega (arith, ints));
      up_to = first.by_front;
    })

    -- the rear end lies in no later entry than the front end
    pub ordered_on : (to_rear to_front : ℕ) → LiesIn gradient_start entries to_rear (change -ℤ pos length_cm) →
        LiesIn gradient_start entries to_front change → to_rear ≤ to_front
    ordered_on to_rear to_front behind ahead = lies_in_order gradient_start entries to_rear to_front level
        (change -ℤ pos length_cm) change sweep.gradients.rise behind ahead (omega (arith, ints))

    -- and one of them in the next one, so that fewer are left
    pub fewer_left : (to_rear to_front : ℕ) → LiesIn gradient_start entries to_rear (change -ℤ pos length_cm) →
        LiesIn gradient_start entries to_front change → rear ≤ to_rear → front ≤ to_front →
        still_left entries to_rear to_front < still_left entries rear front
    fewer_left to_rear to_front behind ahead not_back not_back_either = elim first.one_of [
      | inl is ↦ elim (cases_lt rear to_rear) [
        | inl lt ↦ omega (arith, behind.known, ahead.known)
        | inr ge ↦ (let e : to_rear ≡ rear = omega arith in
            let l = (rw e at behind).goes_on.before level more in absurd (omega (arith, ints)))
      ]
      | inr is ↦ elim (cases_lt front to_front) [
        | inl lt ↦ omega (arith, behind.known, ahead.known)
        | inr ge ↦ (let e : to_front ≡ front = omega arith in
            let l = (rw e at ahead).goes_on.before level is.0 in absurd (omega (arith, ints)))
      ]
    ]

    -- what the sweep keeps there
    pub sweep_on : (to_rear to_front : ℕ) (to_lows : List ℕ) (to_room : ℕ) →
        LiesIn gradient_start entries to_rear (change -ℤ pos length_cm) →
        LiesIn gradient_start entries to_front change → AreLows entries to_rear (to_front + 1) to_lows →
        length entries ≤ to_room → IsSweep entries length_cm to_rear to_front change to_lows to_room
    sweep_on to_rear to_front to_lows to_room behind ahead lows_are enough = record {
      gradients = sweep.gradients;
      not_past = (let a = (sweep.gradients.each (rear + 1) level more).on_track in let l = first.by_rear in
          omega (arith, ints));
      under = λ some. record { behind = behind; ahead = ahead };
      ordered = ordered_on to_rear to_front behind ahead;
      known = omega (arith, ahead.known);
      lows_are = lows_are;
      enough = enough;
    }

-- how a sweep moves on to the next change
pub ruleset moves_on = (near_rear, near_front, no_back, ordered_on, later, fewer_left, sweep_on)

-- ---- the first cell

module _ (entries : List Gradient) (length_cm : ℕ) (gradients : AreGradients (pos longest_track) entries) where
  -- up to cell 0 both ends lie in the first entry
  under_first : (c : ℤ) → c ≤ℤ pos 0 → 0 < length entries → IsUnder entries length_cm 0 0 c
  under_first c le some =
      let in_first : (b : ℤ) → b ≤ℤ pos 0 → LiesIn gradient_start entries 0 b = λ b below. record {
        known = some;
        begun = λ d p. absurd (omega arith);
        goes_on = record {
          before = λ d m. (let r = gradients.rise.rises 0 1 d (omega arith) m in let z =
              gradients.from_zero.first d some in omega (arith, ints));
        };
      } in
      record { behind = in_first _ (omega (arith, ints)); ahead = in_first c le }

  -- so a sweep begins there
  pub sweep_first : (lows : List ℕ) (room : ℕ) → lows ≡ 0 ∷ [] → length entries ≤ room →
      IsSweep entries length_cm 0 0 (pos 0) lows room
  sweep_first lows room is enough = rw is (record {
    gradients = gradients;
    not_past = omega (arith, ints);
    under = under_first (pos 0) (omega (arith, ints));
    ordered = omega arith;
    known = omega arith;
    lows_are = low_of_first entries;
    enough = enough;
  })

  -- and the gradient before is that in cell 0
  pub same_before : (c : ℤ) → c ≤ℤ pos 0 →
      gradient_under entries length_cm c ≡ gradient_under entries length_cm (pos 0)
  same_before c le =
      gradient_is entries length_cm 0 0 c (0 ∷ []) 0 gradients.rise (under_first c le) (omega arith)
      (low_of_first entries)
      ∙ sym (gradient_is entries length_cm 0 0 (pos 0) (0 ∷ []) 0 gradients.rise
      (under_first (pos 0) (omega (arith, ints))) (omega arith) (low_of_first entries))
