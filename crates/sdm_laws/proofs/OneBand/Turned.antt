-- The track as it is seen from the other side of place 0: a way, its energy and an arc are seen the other way round.
use Rattle.std.proofs.Common.{◌≡◌, ℕ, ℤ, zero, suc, pos, neg_ℤ, ◌+◌, ◌*◌, ◌<◌, ◌+ℤ◌, ap, arith, sym, ◌∙◌}
use Rattle.std.proofs.lemmas.Int.{ints}
use Rattle.std.proofs.Math.Nat.{mul-pos}
use Rattle.sdm_num.specs.Units.{centimetre}
use Rattle.sdm_num.specs.Fractions.{Fraction}
use Rattle.sdm_num.proofs.Ints.{scales, scale-neg}
use Rattle.sdm_rules.specs.Slopes.{Slopes}
use Rattle.sdm_rules.specs.Curves.{cell_at, cell_start, turned, turned_slopes}
use Rattle.sdm_laws.specs.Energy.{total, energy}
use Rattle.sdm_laws.proofs.OneBand.Cells.{cell_low, cell_high, cell_in}
use Rattle.sdm_laws.proofs.OneBand.Totals.{total-zero}
use Rattle.sdm_laws.proofs.OneBand.Energy.{energy-add}
use Rattle.sdm_laws.proofs.OneBand.Arcs.{Arc}

-- the cell of a step, seen from the other side
pub cell_turned : (m : ℕ) (p : ℤ) → 0 < m → cell_at m (neg_ℤ (p +ℤ pos 1)) ≡ neg_ℤ (cell_at m p +ℤ pos 1)
cell_turned m p m_pos =
    let low = cell_low m p m_pos in
    let high = cell_high m p m_pos in
    let start : cell_start m (neg_ℤ (cell_at m p +ℤ pos 1))
    ≡ neg_ℤ (cell_start m (cell_at m p) +ℤ pos (m * centimetre)) = simp scales (omega (arith, ints)) in
    cell_in m _ _ m_pos (omega (arith, ints)) (omega (arith, ints))

-- the energy of one step
energy_one : (on : Slopes) (band m : ℕ) (p : ℤ) → energy on band m p 1 ≡ on.slope band (cell_at m p)
unfolding total
energy_one on band m p = let e : p +ℤ pos 0 ≡ p = omega (arith, ints) in rw e (omega arith)

-- a distance has the energy of the one that is seen
pub energy_turned : (on : Slopes) (band m : ℕ) (p q : ℤ) (d : ℕ) → 0 < m → q ≡ neg_ℤ (p +ℤ pos d) →
    energy (turned_slopes on) band m p d ≡ energy on band m q d
energy_turned on band m p q zero m_pos e =
    total-zero (λ k. (turned_slopes on).slope band (cell_at m (p +ℤ pos k)))
    ∙ sym (total-zero (λ k. on.slope band (cell_at m (q +ℤ pos k))))
energy_turned on band m p q (suc d) m_pos e =
    let last = p +ℤ pos d in
    let q_is : q ≡ neg_ℤ (last +ℤ pos 1) = omega (arith, ints) in
    let step : (turned_slopes on).slope band (cell_at m last) ≡ on.slope band (cell_at m q) =
    rw q_is (ap (on.slope band) (sym (cell_turned m last m_pos))) in
    omega (
      arith,
      rw more at (energy-add (turned_slopes on) band m p d 1),
      rw one at (energy-add on band m q 1 d),
      energy_one (turned_slopes on) band m last,
      energy_one on band m q,
      step,
      energy_turned on band m p (q +ℤ pos 1) d m_pos (omega (arith, ints)),
    )
  where
    more : {d : ℕ} → d + 1 ≡ suc d
    more {d} = omega arith

    one : {d : ℕ} → 1 + d ≡ suc d
    one {d} = omega arith

-- an arc that is seen is one
pub arc_turned : (on : Slopes) (s band : ℕ) (y x : Fraction) (c : ℕ) → 0 < s → Arc (turned_slopes on) s band y x c →
    Arc on s band (turned x) (turned y) c
arc_turned on s band y x c s_pos h =
    let a = h.is in
    let from = scale-neg a.to x.n in
    let to = scale-neg a.from y.n in
    let distance = a.is.distance in
    record {
      n = h.n;
      is = record {
        from = a.to;
        to = a.from;
        d = a.d;
        positive = a.positive;
        from_is = a.to_is;
        to_is = a.from_is;
        is = record {
          distance = omega (arith, ints);
          used = ap (λ (e : ℕ). 27 * e) (sym (energy_turned on band (s * h.n) _ _ a.d (mul-pos s_pos a.positive)
              (omega (arith, ints)))) ∙ a.is.used;
        };
      };
    }
