-- The zones of the static profile stand first, in the order of their cells, and stay there. So the first of them that
-- doesn't begin before a fall is the only one that may begin there, and where it doesn't a zone behind them does.
use Rattle.std.proofs.Common.{◌≡◌, inl, inr, ℕ, ℤ, List, [], ◌∷◌, ◌++◌, Option, None, Bool, true, false, int_lt}
use Rattle.std.proofs.Common.{length, get_or, take, drop, ◌+◌, ◌-◌, ◌==◌, ◌<◌, ◌≤◌, ◌≤ℤ◌, ◌<ℤ◌, sym, ap, subst, ◌∙◌, arith}
use Rattle.std.specs.List.{list_any}
use Rattle.std.specs.List.Sorted.{IsPartitionPoint, IsPartitionedBy}
use Rattle.std.specs.Option.{option_map_or}
use Rattle.std.proofs.lemmas.Int.{ints}
use Rattle.std.proofs.lemmas.Bool.{true≢false, cases_lt}
use Rattle.std.proofs.lemmas.List.{get_or-drop, get_or-take, get_or_append_left, get_or_push, length-append, length-drop}
use Rattle.std.proofs.lemmas.List.{length-take}
use Rattle.sdm_num.proofs.Comparisons.{lt_is, lt_of}
use Rattle.sdm_rules.specs.declared.targets.Fall.{Fall}
use Rattle.sdm_rules.specs.Data.{TrainAndTrack}
use Rattle.sdm_speed.proofs.FallLists.{before}
use Rattle.sdm_braking.specs.declared.falls_ahead.KeptZone.{KeptZone}
use Rattle.sdm_braking.specs.KeptFalls.{AreStaticsFirst, IsZoneLess, IsZoneMore, has_id, is_at, no_zone}
use Rattle.sdm_braking.proofs.AnyLaws.{any_at, any_passed}
use Rattle.sdm_braking.proofs.ZoneLaws.{fall_at}

-- ---- they stay first

-- one that passes a test and stands behind the first ones
any_behind : (P : KeptZone → Bool) (n k : ℕ) (zs : List KeptZone) → n ≤ k → k < length zs →
    P (get_or zs k no_zone) ≡ true → list_any P (drop n zs) ≡ true
any_behind P n k zs le known on = any_at P (drop n zs) (k - n) no_zone (omega (arith, le, known, length-drop n zs))
    (ap P (get_or-drop n zs (k - n) no_zone ∙ ap (λ j. get_or zs j no_zone) (omega (arith, le))) ∙ on)

-- one of no restriction has no identity
no_identity : (o : Option ℕ) (id : ℕ) → o ≡ None → option_map_or (λ held. held == id) o false ≡ true → ⊥
no_identity o id none on =
    true≢false (sym on ∙ ap (λ (x : Option ℕ). option_map_or (λ held. held == id) x false) none)

-- so that of a restriction stands behind the first ones
pub held_behind : (n id : ℕ) (zs : List KeptZone) → AreStaticsFirst n zs → (k : ℕ) → k < length zs →
    ((d : KeptZone) → has_id id (get_or zs k d) ≡ true) → n ≤ k
held_behind n id zs h k known is = elim (cases_lt k n) [
  | inl lt ↦ absurd (no_identity (get_or zs k no_zone).id id (h.first k no_zone lt) (is no_zone))
  | inr le ↦ le
]

-- and where it goes they stay as they are
pub first_less : (n id : ℕ) (old new : List KeptZone) → AreStaticsFirst n old → IsZoneLess id old new →
    AreStaticsFirst n new
first_less n id old new h less = record {
  known = omega (arith, behind, less.fewer, less.known);
  first = λ k d lt. ap (λ (z : KeptZone). z.id) (same k d lt) ∙ h.first k d lt;
  order = λ j k d lt last. rw (same j d (omega (arith, lt, last)), same k d last) (h.order j k d lt last);
}
  where
    behind : n ≤ less.index
    behind = held_behind n id old h less.index less.known less.was

    same : (k : ℕ) (d : KeptZone) → k < n → get_or new k d ≡ get_or old k d
    same k d lt = less.others k d (λ e. absurd (omega (arith, e, lt, behind))) (omega (arith, lt, behind, less.known))

-- one of each identity that there is stands behind them
pub any_held : (n id : ℕ) (zs : List KeptZone) → AreStaticsFirst n zs → list_any (has_id id) zs ≡ true →
    list_any (has_id id) (drop n zs) ≡ true
any_held n id zs h on =
    let found = any_passed (has_id id) zs on in
    any_behind (has_id id) n found.index zs (held_behind n id zs h found.index found.known found.is) found.known
    (found.is no_zone)

-- ---- they come one after the other

-- zones are of no restriction, in the order of their cells, and begin up to the start of a cell
pub record AreStaticsUpTo (at : ℤ) (zs : List KeptZone) : Type 0 where
  pub first : AreStaticsFirst (length zs) zs
  pub reached : (k : ℕ) (d : KeptZone) → k < length zs → (get_or zs k d).fall.cell ≤ℤ at

-- one more begins past the cell
pub next_static : (d : TrainAndTrack) (at : ℤ) (fall : Fall) (old new : List KeptZone) → AreStaticsUpTo at old →
    at <ℤ fall.cell → IsZoneMore d None fall old new → AreStaticsUpTo fall.cell new
next_static d at fall old new h beyond more = rw more.is (record {
  first = record {
    known = omega arith;
    first = λ k e lt. elim (cases_lt k (length old)) [
      | inl lower ↦ ap (λ (z : KeptZone). z.id) (left k e lower) ∙ h.first.first k e lower
      | inr le ↦ ap (λ (z : KeptZone). z.id) (last k e le lt) ∙ more.id
    ];
    order = λ j k e lt known. elim (cases_lt k (length old)) [
      | inl lower ↦ rw (left j e (omega (arith, lt, lower)), left k e lower) (h.first.order j k e lt lower)
      | inr le ↦ (let up = h.reached j e (omega (arith, lt, known, long)) in
          rw (left j e (omega (arith, lt, known, long)), last k e le known, more.fall) (omega (arith, ints)))
    ];
  };
  reached = λ k e lt. elim (cases_lt k (length old)) [
    | inl lower ↦ (let up = h.reached k e lower in rw (left k e lower) (omega (arith, ints)))
    | inr le ↦ rw (last k e le lt, more.fall) (omega (arith, ints))
  ];
})
  where
    long : length (old ++ more.zone ∷ []) ≡ length old + 1
    long = length-append old (more.zone ∷ [])

    left : (k : ℕ) (e : KeptZone) → k < length old → get_or (old ++ more.zone ∷ []) k e ≡ get_or old k e
    left k e lower = get_or_append_left old (more.zone ∷ []) e k lower

    last : (k : ℕ) (e : KeptZone) → length old ≤ k → k < length (old ++ more.zone ∷ []) →
        get_or (old ++ more.zone ∷ []) k e ≡ more.zone
    last k e le lt = get_or_push old more.zone e k (omega (arith, le, lt, long))

-- ---- one is found

module _ (n : ℕ) (zs : List KeptZone) (h : AreStaticsFirst n zs) where
  -- the zone begins before a cell
  abbrev pub is_before : ℤ → KeptZone → Bool
  is_before cell z = int_lt z.fall.cell cell

  -- each of the first ones stands where it stands among all
  among : (k : ℕ) (d : KeptZone) → k < length (take n zs) → get_or (take n zs) k d ≡ get_or zs k d
  among k d lt = get_or-take n zs k d (omega (arith, lt, length-take n zs))

  -- those that begin before a cell come first
  pub statics_parted : (cell : ℤ) → IsPartitionedBy (is_before cell) (take n zs)
  statics_parted cell i j d le lt on = elim (cases_lt i j) [
    | inl lower ↦ rw (among i d (omega (arith, lower, lt))) (
        let up = h.order i j d lower (omega (arith, lt, length-take n zs)) in
        before cell (get_or zs i d).fall.cell (get_or zs j d).fall.cell (omega (arith, ints)) (rw (among j d lt) at on))
    | inr from ↦ subst (λ k. is_before cell (get_or (take n zs) k d) ≡ true) (omega (arith, le, from)) on
  ]

  -- where the first that doesn't isn't at the fall, one behind them is
  pub held_at : (fall : Fall) (i : ℕ) →
      IsPartitionPoint (λ z. is_before fall.cell z ≡ true) (λ z. is_before fall.cell z ≡ false) (take n zs) i →
      ((d : KeptZone) → i < length zs → is_at fall (get_or zs i d) ≡ false) → list_any (is_at fall) zs ≡ true →
      list_any (is_at fall) (drop n zs) ≡ true
  held_at fall i parts other on =
      let found = any_passed (is_at fall) zs on in
      let k = found.index in
      let known = found.known in
      let cell : (get_or zs k no_zone).fall.cell ≡ fall.cell =
      ap (λ (f : Fall). f.cell) (fall_at (get_or zs k no_zone) fall (found.is no_zone)) in
      let long = length-take n zs in
      elim (cases_lt k n) [
        | inr le ↦ any_behind (is_at fall) n k zs le known (found.is no_zone)
        | inl lt ↦ absurd (elim (cases_lt k i) [
          | inl before_it ↦ (let less : (get_or zs k no_zone).fall.cell <ℤ fall.cell =
              lt_of _ _ (rw (among k no_zone (omega (arith, lt, known, long))) at (parts.0 k no_zone (omega arith)
              before_it)) in omega (arith, ints))
          | inr from ↦ elim (cases_lt i k) [
            | inl past ↦ (let up = h.order i k no_zone past lt in
                let inside : i < length (take n zs) = omega (arith, past, lt, known, long) in
                true≢false (sym (lt_is (get_or zs i no_zone).fall.cell fall.cell (rw cell at up))
                ∙ rw (among i no_zone inside) at (parts.1 i no_zone (omega arith) inside)))
            | inr same ↦ true≢false (sym (found.is no_zone) ∙ ap (λ j. is_at fall (get_or zs j no_zone))
                (omega (arith, from, same)) ∙ other no_zone (omega (arith, from, same, known)))
          ]
        ])
      ]
