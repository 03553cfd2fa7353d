-- From what hides a curve to what hides that one, and on to the end of the row: how many steps are left.
use Rattle.std.proofs.Common.{◌≡◌, ℕ, ◌+◌, ◌-◌, ◌<◌, ◌≤◌, List, slice_index, slice_set, if◌then◌else◌, nat_lt, length}
use Rattle.std.proofs.Common.{arith, inl, inr, refl, zero, suc}
use Rattle.std.proofs.lemmas.Bool.{cases_lt, le-ltb, lt-ltb}
use Rattle.std.proofs.lemmas.List.{get_or-set_same, get_or-set_other}

-- where a step leads from a curve
abbrev pub next : List ℕ → ℕ → ℕ → ℕ
next steps count k = if nat_lt (k + slice_index steps k) count then k + slice_index steps k else count

-- so many steps lead from here to the end of the row, each of them further on
pub Leads : List ℕ → ℕ → ℕ → ℕ → Type 0
Leads steps count k zero = k ≡ count
Leads steps count k (suc n) = (k < count) × (k < next steps count k) × Leads steps count (next steps count k) n

-- from the end none
pub at_end : (steps : List ℕ) (count : ℕ) → Leads steps count count 0
unfolding Leads
at_end steps count = refl

-- they take nothing from before where they begin
pub leads_still : (steps : List ℕ) (count i s k n : ℕ) → i < k → Leads steps count k n →
    Leads (slice_set steps i s) count k n
unfolding Leads
leads_still steps count i s k zero past leads = leads
leads_still steps count i s k (suc n) past leads =
    let same : slice_index (slice_set steps i s) k ≡ slice_index steps k =
    get_or-set_other steps i k s 0 (λ (e : k ≡ i). omega (arith, e, past)) in
    let further = leads.1 in
    rw same (leads.0, leads.1, leads_still steps count i s (next steps count k) n (omega (arith, past, further)) leads.2)

-- a step to where they begin is one more
pub one_more : (steps : List ℕ) (count i k n : ℕ) → i < length steps → i < k → k ≤ count → Leads steps count k n →
    Leads (slice_set steps i (k - i)) count i (suc n)
unfolding Leads
one_more steps count i k n room past inside leads =
    let here : slice_index (slice_set steps i (k - i)) i ≡ k - i = get_or-set_same steps i (k - i) 0 room in
    let to : next (slice_set steps i (k - i)) count i ≡ k = rw here (goes_to i (k - i) (omega (arith, past))) in
    (omega (arith, past, inside), rw to past, rw to (leads_still steps count i (k - i) k n past leads))
  where
    goes_to : (i s : ℕ) → i + s ≡ k → (if nat_lt (i + s) count then i + s else count) ≡ k
    goes_to i s is = elim (cases_lt (i + s) count) [
      | inl lt ↦ rw (lt-ltb (i + s) count lt) is
      | inr ge ↦ rw (le-ltb (i + s) count ge) (omega (arith, is, ge, inside))
    ]

-- behind a step there is one less
pub one_less : (steps : List ℕ) (count k n : ℕ) → k < count → Leads steps count k n →
    (m : ℕ) × (n ≡ suc m) × Leads steps count (next steps count k) m
unfolding Leads
one_less steps count k zero inside leads = absurd (omega (arith, inside, leads))
one_less steps count k (suc n) inside leads = (n, refl, leads.2)
