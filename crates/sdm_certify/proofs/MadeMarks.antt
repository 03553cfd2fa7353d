-- The marks that the program makes hold: band by band, from the stop back, the marks between two knots lead from the
-- one to
-- the other.
use Rattle.std.proofs.Common.{◌≡◌, ℕ, ℤ, zero, suc, pos, neg_ℤ, List, [], ◌∷◌, ◌++◌, reverse, ◌^◌, ◌+◌, ◌-◌, ◌*◌, ◌<◌}
use Rattle.std.proofs.Common.{◌≤◌, ◌+ℤ◌, ◌≤ℤ◌, ◌<ℤ◌, unsigned_abs, length, slice_index, ap, arith, refl, ◌∙◌, inl, inr}
use Rattle.std.proofs.Common.{rules}
use Rattle.std.proofs.lemmas.Int.{ints}
use Rattle.std.proofs.lemmas.Bool.{cases_lt}
use Rattle.std.proofs.lemmas.Nat.{mul-le, mul-lt}
use Rattle.std.proofs.lemmas.List.{reverse-reverse}
use Rattle.std.proofs.lemmas.List.Elements.{All-from_recursion}
use Rattle.std.specs.Prelude.{All}
use Rattle.std.specs.List.{AllByRecursion}
use Rattle.std.proofs.Math.Nat.{mul-le-mul_left, mul-pos}
use Rattle.sdm_rules.specs.Slopes.{Slopes, IsUsable}
use Rattle.sdm_rules.specs.Curves.{stepped, cell_at, grain_energy}
use Rattle.sdm_rules.specs.Motion.{lower_square}
use Rattle.sdm_laws.specs.Energy.{energy}
use Rattle.sdm_laws.specs.Levels.{lower_speed}
use Rattle.sdm_laws.proofs.OneBand.Totals.{total-zero}
use Rattle.sdm_laws.proofs.OneBand.Cells.{cell_low, cell_high, cell_reaches}
use Rattle.sdm_laws.proofs.BrakeCurves.CurveOrder.{stepped_foot}
use Rattle.sdm_rules.specs.declared.certificates.Claim.{Claim}
use Rattle.sdm_rules.specs.declared.certificates.Mark.{Mark}
use Rattle.sdm_rules.specs.Certificates.{v_bec_of, IsEnergyIn, LeadTo}
use Rattle.sdm_rules.specs.Certificates.{IsMarkInRange}
use Rattle.sdm_certify.specs.Made.{knot, between, marks_from, marks_of, LawOfMadeMarks}
use Rattle.sdm_certify.proofs.Stepped.{KnotAt, stepped_knot}
use Rattle.sdm_motion.proofs.SegmentParts.{start_le, start_next}
use Rattle.sdm_certify.proofs.Between.{IsFirstPast, IsFitting, the_cell, way_split, from_cell}

-- ---- one band

-- a speed that is not outside the band has its energy in it
energy_in : (on : Slopes) (band v : ℕ) → band ≤ length on.uppers → lower_speed on band ≤ v →
    (band < length on.uppers → v ≤ slice_index on.uppers band) → IsEnergyIn on band (grain_energy on (v * v))
energy_in on band v known le below = record {
  known = known;
  above = mul-le-mul_left (5_000_000_000_000 * on.q) (lower_le on band v le);
  below = λ lt. mul-le-mul_left (5_000_000_000_000 * on.q)
      (let le = below lt in omega (arith, mul-le _ _ _ _ le le));
}
  where
    lower_le : (on : Slopes) (band v : ℕ) → lower_speed on band ≤ v → lower_square on 1 band ≤ v * v
    lower_le on zero v le = omega arith
    lower_le on (suc b) v le = omega (arith, mul-le _ _ _ _ le le)

-- a knot fits its energy
module _ (on : Slopes) (band : ℕ) (x y : Mark) (r : ℕ) (k : KnotAt on band y.place x.place r) (r_pos : 0 < r)
    (x_is : x.energy ≡ y.energy + r) where
  -- there is some way, since energy is lost
  some_way : 0 < k.d
  some_way = of_energy k.d k.enough
    where
      of_energy : (d : ℕ) → r ≤ 27 * energy on band 1 (y.place +ℤ neg_ℤ (pos d)) d → 0 < d
      of_energy zero enough = let nothing = total-zero
          (λ j. on.slope band (cell_at 1 ((y.place +ℤ neg_ℤ (pos 0)) +ℤ pos j))) in absurd (omega arith)
      of_energy (suc d) enough = omega arith

  -- so the mark lies before the knot
  ahead : x.place <ℤ y.place
  ahead = let p = k.place in let s = some_way in omega (arith, ints)

  -- and it has at most the energy of its way, but with one grain less of way more than that
  knot_fits : IsFitting on band y x
  knot_fits =
      let p = k.place in
      let d_is : unsigned_abs (y.place +ℤ neg_ℤ x.place) ≡ k.d = omega (arith, ints) in
      let enough = rw (← p, ← d_is) at k.enough in
      record {
        most = omega (arith, enough);
        least = λ z lt le. (
            let d' = k.d - 1 in
            let s = some_way in
            let d'_is : k.d ≡ suc d' = omega arith in
            let less = k.least d' d'_is in
            let next_is : y.place +ℤ neg_ℤ (pos d') ≡ x.place +ℤ pos 1 = omega (arith, ints) in
            let way_is : d' ≡ unsigned_abs (y.place +ℤ neg_ℤ (x.place +ℤ pos 1)) = omega (arith, ints) in
            let less' = rw (next_is, way_is) at less in
            let split = way_split on band (x.place +ℤ pos 1) z y.place (omega (arith, ints)) le in
            omega (arith, less', split));
      }

-- the cell after that of the last grain before a place is the first that begins at or past it
pub past_last : (q : ℤ) → IsFirstPast (cell_at 1 (q +ℤ neg_ℤ (pos 1)) +ℤ pos 1) q
past_last q =
    let b = q +ℤ neg_ℤ (pos 1) in
    let last = cell_at 1 b in
    let next = start_next 1 last in
    record {
      past = omega (arith, ints, cell_high 1 b (omega arith));
      before = λ k less. (let le = start_le 1 k last (omega (arith, ints)) in
          omega (arith, ints, cell_low 1 b (omega arith), le));
    }

-- so counted from the cell of an earlier place
pub count_to : (p q : ℤ) → p <ℤ q →
    (cell_at 1 p +ℤ pos 1) +ℤ pos (unsigned_abs (cell_at 1 (q +ℤ neg_ℤ (pos 1)) +ℤ neg_ℤ (cell_at 1 p))) ≡ cell_at 1
    (q +ℤ neg_ℤ (pos 1)) +ℤ pos 1
count_to p q lt =
    let b = q +ℤ neg_ℤ (pos 1) in
    let low = cell_low 1 p (omega arith) in
    let rises : cell_at 1 p ≤ℤ cell_at 1 b = cell_reaches 1 (cell_at 1 p) b (omega arith) (omega (arith, ints)) in
    omega (arith, ints)

-- and that cell is the first past the later place
first_past : (p q : ℤ) → p <ℤ q →
    IsFirstPast ((cell_at 1 p +ℤ pos 1) +ℤ pos (unsigned_abs (cell_at 1 (q +ℤ neg_ℤ (pos 1)) +ℤ neg_ℤ (cell_at 1 p)))) q
first_past p q lt = rw (count_to p q lt) (past_last q)

-- the marks between two neighbouring knots lead from the earlier to the later
between_leads : (on : Slopes) (svl : ℤ) (band v : ℕ) (rest : List Mark) → IsUsable on → band ≤ length on.uppers →
    lower_speed on band < v →
    (band < length on.uppers → v ≤ slice_index on.uppers band) →
    LeadTo on svl (knot on svl (lower_speed on band)) rest →
    LeadTo on svl (knot on svl v)
    (between on band (knot on svl v)
    (knot on svl (lower_speed on band)) ++ (knot on svl (lower_speed on band) ∷ rest))
between_leads on svl band v rest usable known lt below lead =
    let w = lower_speed on band in
    let x = knot on svl v in
    let y = knot on svl w in
    let change = v * v - w * w in
    let differ = mul-lt w w v v lt lt in
    let change_pos : 0 < change = omega arith in
    let r_pos : 0 < grain_energy on change = mul-pos (mul-pos (omega arith) usable.unit) change_pos in
    let sum : v * v ≡ w * w + change = omega arith in
    let x_is : x.energy ≡ y.energy + grain_energy on change = energy_sum (5_000_000_000_000 * on.q) _ _ _ sum in
    let k = stepped_knot on svl band v usable known lt below in
    let ahead_is = ahead on band x y (grain_energy on change) k r_pos x_is in
    let fits = knot_fits on band x y (grain_energy on change) k r_pos x_is in
    let c = cell_at 1 x.place in
    let n = unsigned_abs (cell_at 1 (y.place +ℤ neg_ℤ (pos 1)) +ℤ neg_ℤ c) in
    let in_x = energy_in on band v known (omega arith) below in
    let in_y = energy_in on band w known (omega arith) (λ more. let b = below more in omega arith) in
    let next = start_next 1 c in
    from_cell on band svl y rest in_y lead _ (first_past x.place y.place ahead_is) n (c +ℤ pos 1) x
    (on.slope band c) refl
    (omega (arith, ints, cell_high 1 x.place (omega arith), next)) ahead_is
    (λ cell part. ap (on.slope band) (the_cell x.place c cell (cell_low 1 x.place (omega arith)) part)) fits in_x
  where
    energy_sum : (k a b c : ℕ) → a ≡ b + c → k * a ≡ k * b + k * c
    energy_sum k a b c e = rw e (omega arith)

-- neighbouring knots are apart
pub knots_apart : (on : Slopes) (svl : ℤ) (band v : ℕ) → IsUsable on → band ≤ length on.uppers →
    lower_speed on band < v →
    (band < length on.uppers → v ≤ slice_index on.uppers band) →
    stepped on svl 0 v <ℤ stepped on svl 0 (lower_speed on band)
knots_apart on svl band v usable known lt below =
    let w = lower_speed on band in
    let change = v * v - w * w in
    let differ = mul-lt w w v v lt lt in
    let change_pos : 0 < change = omega arith in
    let k = stepped_knot on svl band v usable known lt below in
    ahead on band (record { place = stepped on svl 0 v; energy = grain_energy on change })
    (record { place = stepped on svl 0 w; energy = 0 }) (grain_energy on change) k
    (mul-pos (mul-pos (omega arith) usable.unit) change_pos) (omega arith)

-- ---- all bands

-- the marks begin with the knot of the speed, and lead to the stop
record Begin (on : Slopes) (svl : ℤ) (v : ℕ) (xs : List Mark) : Type 0 where
  more : List Mark
  split : xs ≡ knot on svl v ∷ more
  lead : LeadTo on svl (knot on svl v) more

-- the stop itself is a last mark
stop_leads : (on : Slopes) (svl : ℤ) → LeadTo on svl (knot on svl 0) []
stop_leads on svl = (omega arith, rw (stepped_foot on svl 0) (omega (arith, ints)))

-- a train that stands has the stop alone
pub from_stop : (on : Slopes) (svl : ℤ) (v : ℕ) → v ≡ 0 → marks_from on svl zero v ≡ knot on svl 0 ∷ []
from_stop on svl v none = rw none refl

-- in the first band: the knot, the marks up to the stop, and the stop
pub from_first : (on : Slopes) (svl : ℤ) (v : ℕ) → 0 < v →
    marks_from on svl zero v ≡ knot on svl v ∷ (between on 0 (knot on svl v) (knot on svl 0) ++ (knot on svl 0 ∷ []))
from_first on svl v some = search rules

-- above a border: the knot, the marks up to the border's, and those from there on
pub from_here : (on : Slopes) (svl : ℤ) (band v : ℕ) → slice_index on.uppers band < v →
    marks_from on svl (suc band) v ≡ knot on svl v ∷
    (between on (suc band) (knot on svl v) (knot on svl (slice_index on.uppers band)) ++ marks_from on svl band
    (slice_index on.uppers band))
from_here on svl band v lt = search rules

-- a speed that is not above a border has no mark in the band above it
pub from_below : (on : Slopes) (svl : ℤ) (band v : ℕ) → v ≤ slice_index on.uppers band →
    marks_from on svl (suc band) v ≡ marks_from on svl band v
from_below on svl band v le = search rules

-- from every speed that is not above the band
from_begin : (on : Slopes) (svl : ℤ) (band v : ℕ) → IsUsable on → band ≤ length on.uppers →
    (band < length on.uppers → v ≤ slice_index on.uppers band) → Begin on svl v (marks_from on svl band v)
from_begin on svl zero v usable known below =
    elim (cases_lt 0 v) [
      | inl some ↦ record {
        more = between on 0 (knot on svl v) (knot on svl 0) ++ (knot on svl 0 ∷ []);
        split = from_first on svl v some;
        lead = between_leads on svl 0 v [] usable (omega arith) some below (stop_leads on svl);
      }
      | inr none ↦ (let v_is : v ≡ 0 = omega arith in
          record { more = []; split = rw v_is (from_stop on svl 0 refl); lead = rw v_is (stop_leads on svl) })
    ]
from_begin on svl (suc band) v usable known below =
    let border = slice_index on.uppers band in
    elim (cases_lt border v) [
      | inl lt ↦ (
          let rest = from_begin on svl band border usable (omega arith) (λ _. omega arith) in
          let list = between on (suc band) (knot on svl v) (knot on svl border) in
          record {
            more = list ++ (knot on svl border ∷ rest.more);
            split = from_here on svl band v lt ∙ ap (λ (ys : List Mark). knot on svl v ∷ (list ++ ys)) rest.split;
            lead = between_leads on svl (suc band) v rest.more usable known lt below rest.lead;
          })
      | inr ge ↦ (
          let rest = from_begin on svl band v usable (omega arith) (λ _. ge) in
          record { more = rest.more; split = from_below on svl band v ge ∙ rest.split; lead = rest.lead })
    ]

-- the law: the first mark is at or past the front end with D_bec, with just the energy of V_bec
pub made_hold : LawOfMadeMarks
made_hold on c usable place =
    let b = from_begin on c.svl (length on.uppers) (v_bec_of c) usable (omega arith) (λ lt. absurd (omega arith)) in
    record {
      first = knot on c.svl (v_bec_of c);
      more = b.more;
      split = b.split;
      begins = record { place = place; energy = omega arith };
      lead = b.lead;
    }

-- ---- ranges

-- marks that lead to a place lie between the first and there, with at most its energy
lead_ranges : (on : Slopes) (svl : ℤ) (x : Mark) (ys : List Mark) → svl <ℤ pos (10 ^ 18) → IsMarkInRange x →
    LeadTo on svl x ys → AllByRecursion IsMarkInRange (x ∷ ys)
lead_ranges on svl x [] near range lead = (range, tt)
lead_ranges on svl x (y ∷ ys) near range lead =
    let rest = lead_by on svl y ys lead.1 in
    let next = lead.0 in (
      range,
      lead_ranges on svl y ys near
          (record {
            behind = omega (arith, ints, range.behind, next.forward);
            ahead = omega (arith, ints);
            energy = omega (arith, range.energy, next.falls);
          }) lead.1,
    )
  where
    lead_by : (on : Slopes) (svl : ℤ) (x : Mark) (ys : List Mark) → LeadTo on svl x ys → x.place ≤ℤ svl
    lead_by on svl x [] lead = lead.1
    lead_by on svl x (y ∷ ys) lead = let rest = lead_by on svl y ys lead.1 in omega (arith, ints, lead.0.forward, rest)

-- so all are in their ranges where the first is
pub made_ranges : (on : Slopes) (c : Claim) → IsUsable on → c.svl <ℤ pos (10 ^ 18) →
    IsMarkInRange (knot on c.svl (v_bec_of c)) → All IsMarkInRange (marks_of on c)
made_ranges on c usable near first =
    let b = from_begin on c.svl (length on.uppers) (v_bec_of c) usable (omega arith) (λ lt. absurd (omega arith)) in
    rw b.split
    (All-from_recursion IsMarkInRange (knot on c.svl (v_bec_of c) ∷ b.more)
    (lead_ranges on c.svl (knot on c.svl (v_bec_of c)) b.more near first b.lead))

-- there is a first mark
pub made_some : (on : Slopes) (c : Claim) → IsUsable on → 1 ≤ length (marks_of on c)
made_some on c usable =
    let b = from_begin on c.svl (length on.uppers) (v_bec_of c) usable (omega arith) (λ lt. absurd (omega arith)) in
    rw b.split (omega arith)

-- ---- the list that going back gives, turned round

-- it is the list of the definition
pub made_list : (on : Slopes) (c : Claim) (v : ℕ) (back marks : List Mark) → marks ≡ reverse back →
    back ≡ reverse (marks_from on c.svl (length on.uppers) v) → v ≡ v_bec_of c → marks ≡ marks_of on c
made_list on c v back marks turned back_is v_is =
    turned
    ∙ (ap (λ (ys : List Mark). reverse ys) back_is
    ∙ (reverse-reverse (marks_from on c.svl (length on.uppers) v)
    ∙ ap (λ (w : ℕ). marks_from on c.svl (length on.uppers) w) v_is))
