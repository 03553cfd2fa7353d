-- The counts of rows and one more row follow from those of the rows before: each count is a sum, and a sum modulo a
-- number may be reduced at each step.
use Rattle.std.proofs.Common.{◌≡◌, ℕ, suc, ℤ, pos, negsuc, ◌+◌, ◌-◌, ◌*◌, ◌%◌, ◌<◌, ◌≤◌, ◌+ℤ◌, ◌∙◌, refl, List, []}
use Rattle.std.proofs.Common.{◌∷◌, ◌++◌, cond, arith, ap, sym, rules}
use Rattle.std.proofs.Math.Nat.{mod-add-mod, mul-le-mul_left}
use Rattle.std.proofs.lemmas.Int.{ints, int_rem_euclid_is}
use Rattle.std.proofs.lemmas.List.{length-append}
use Rattle.std.proofs.lemmas.List.Sums.{fold_push}
use Rattle.std.specs.Prelude.{length, unwrap_or, unsigned_abs}
use Rattle.std.specs.Int.{int_rem_euclid}
use Rattle.sdm_rules.specs.declared.rows.Row.{Row}
use Rattle.sdm_formats.specs.Trial.{ebi_sum}
use Rattle.sdm_trial.specs.Summaries.{Counts, counts_of}

-- a whole number is a natural once enough of the modulus is added
raised : (n : ℕ) → 0 < n → (z : ℤ) → (m : ℕ) × (z +ℤ pos (unsigned_abs z * n) ≡ pos m)
raised n some (pos a) = (a + a * n, omega (arith, ints))
raised n some (negsuc a) =
    let enough : suc a * 1 ≤ suc a * n = mul-le-mul_left (suc a) some in
    (suc a * n - suc a, omega (arith, ints, enough))

-- a sum modulo a number may be reduced before the last item is added
pub sum_reduced : (n : ℕ) → 0 < n → (x y : ℤ) →
    int_rem_euclid (int_rem_euclid x (pos n) +ℤ y) (pos n) ≡ int_rem_euclid (x +ℤ y) (pos n)
sum_reduced n some x y =
    let (m, m_is) = raised n some x in
    let (k, k_is) = raised n some y in
    let x_rem = int_rem_euclid_is x (pos n) n (unsigned_abs x) m some refl m_is in
    let whole : (x +ℤ y) +ℤ pos ((unsigned_abs x + unsigned_abs y) * n) ≡ pos (m + k) = omega (arith, ints, m_is, k_is)
    in
    let part : (pos (m % n) +ℤ y) +ℤ pos (unsigned_abs y * n) ≡ pos (m % n + k) = omega (arith, ints, k_is) in
    let sum_rem = int_rem_euclid_is (x +ℤ y) (pos n) n (unsigned_abs x + unsigned_abs y) (m + k) some refl whole in
    let part_rem = int_rem_euclid_is (pos (m % n) +ℤ y) (pos n) n (unsigned_abs y) (m % n + k) some refl part in
    ap (λ r. int_rem_euclid (r +ℤ y) (pos n)) x_rem ∙ part_rem ∙ ap (λ r. pos r) (mod-add-mod m n k) ∙ sym sum_rem

-- the sum of EBIs is told modulo this number
abbrev modulus : ℤ
modulus = pos 1_000_000_000

-- the counts of rows and of one row more
pub one_more :
    (rows : List Row) (row : Row) (r c e v : ℕ) (b : ℤ) (s : Counts) →
    s ≡ counts_of rows →
    r ≡ s.rows + 1 →
    c ≡ s.covered + cond row.covered 1 0 →
    e ≡ s.emergency + cond row.held.eb 1 0 →
    v ≡ s.service + cond row.held.sb 1 0 →
    b ≡ int_rem_euclid (s.ebi +ℤ unwrap_or row.ebi (pos 0)) modulus →
    record { rows = r; covered = c; emergency = e; service = v; ebi = b } ≡ counts_of (rows ++ row ∷ [])
one_more rows row r c e v b s s_is r_is c_is e_is v_is b_is =
    let rows_all : length (rows ++ row ∷ []) ≡ length rows + 1 = length-append rows (row ∷ []) in
    let covered_all = fold_push (λ n r. n + cond r.covered 1 0) 0 rows row in
    let emergency_all = fold_push (λ n r. n + cond r.held.eb 1 0) 0 rows row in
    let service_all = fold_push (λ n r. n + cond r.held.sb 1 0) 0 rows row in
    let ebi_all = fold_push (λ total r. total +ℤ unwrap_or r.ebi (pos 0)) (pos 0) rows row in
    let reduced = sum_reduced 1_000_000_000 (search rules) (ebi_sum rows) (unwrap_or row.ebi (pos 0)) in
    cc
