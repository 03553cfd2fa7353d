-- A profile falls only where a zone begins with the speed of the cell: where zones cap a profile, each fall of what is
-- left is one of the profile to the same speed, or is at the beginning of a zone with this speed.
use Rattle.std.proofs.Common.{◌≡◌, ◌⊎◌, inl, inr, ℕ, ℤ, pos, List, [], ◌∷◌, Option, Some, None, IfSome, Bool, true, false, ◌&&◌, ◌||◌, ◌==◌}
use Rattle.std.proofs.Common.{if◌then◌else◌, min, map, ◌<◌, ◌≤◌, ◌-ℤ◌, refl, sym, ap, subst, ◌∙◌, arith, rules}
use Rattle.std.specs.FinMap as finite
use Rattle.std.specs.List.{list_any}
use Rattle.std.proofs.lemmas.Bool.{true≢false, ltb-true, lt-ltb}
use Rattle.sdm_rules.specs.declared.restrictions.Restriction.{Restriction}
use Rattle.sdm_rules.specs.declared.targets.Fall.{Fall}
use Rattle.sdm_rules.specs.Profile.{Zone, covers, lowest_limit, zone_of, zones_of_track}
use Rattle.sdm_rules.specs.Targets.{is_fall, IsNextFall}
use Rattle.sdm_speed.specs.Steps.{IsFallAfter}
use Rattle.sdm_speed.specs.Profiles.{ProfileData, mrsp_of, static_of}
use Rattle.sdm_speed.specs.Zones.{zone_limits}
use Rattle.sdm_speed.specs.ZoneStarts.{FallsTo, IsZoneStart, has_restriction, is_restriction_at}
use Rattle.sdm_speed.proofs.StartLaws.{covers_before, has_start, starts_at}
use Rattle.sdm_speed.proofs.ZoneLaws.{lowest_limit-after}

-- ---- tests

same_is : (a b : ℕ) → a ≡ b → (a == b) ≡ true
same_is a b e = rw e (search rules)

pub either_first : (a b : Bool) → a ≡ true → (a || b) ≡ true
either_first a b is = rw is refl

pub either_later : (a b : Bool) → b ≡ true → (a || b) ≡ true
either_later true b is = refl
either_later false b is = is

-- the zone begins at the cell, and this is its speed
abbrev begins_at : ℤ → ℕ → Zone → Bool
begins_at cell speed z = starts_at cell z && (z.limit == speed)

-- a zone of this speed begins at the cell
abbrev has_zone : ℤ → ℕ → List Zone → Bool
has_zone cell speed zones = list_any (begins_at cell speed) zones

-- ---- one zone: `b` it covers the cell, `a` the cell before; `s` it begins at the cell

-- the fall is at its beginning, or there was one without it, to the same speed
record IsOlder (m n v : ℕ) : Type 0 where
  pub falls : n < m
  pub to : n ≡ v

less_or_not : (k n : ℕ) → (k < n) ⊎ (n ≤ k)
less_or_not k n = grind arith

-- the zone covers both cells
lower_both : (k m n : ℕ) → (k < n) ⊎ (n ≤ k) → min k n < min k m → IsOlder m n (min k n)
lower_both k m n (inl l) lt = absurd (omega arith)
lower_both k m n (inr l) lt = record { falls = omega arith; to = omega arith }

-- it begins at the cell
begins : (k m n v : ℕ) → (k < n) ⊎ (n ≤ k) → v ≤ m → min k n < v → ((k == min k n) ≡ true) ⊎ IsOlder m n (min k n)
begins k m n v (inl l) le lt = inl (same_is k (min k n) (omega arith))
begins k m n v (inr l) le lt = inr (record { falls = omega arith; to = omega arith })

by_start : (a s : Bool) (k m n : ℕ) → (s ≡ false → a ≡ true) → min k n < (if a then min k m else m) →
    ((s && (k == min k n)) ≡ true) ⊎ IsOlder m n (min k n)
by_start true true k m n before lt = begins k m n (min k m) (less_or_not k n) (omega arith) lt
by_start false true k m n before lt = begins k m n m (less_or_not k n) (omega arith) lt
by_start true false k m n before lt = inr (lower_both k m n (less_or_not k n) lt)
by_start false false k m n before lt = absurd (true≢false (sym (before refl)))

by_cover : (a b s : Bool) (k m n : ℕ) → (s ≡ false → b ≡ true → a ≡ true) →
    (if b then min k n else n) < (if a then min k m else m) →
    ((s && (k == (if b then min k n else n))) ≡ true) ⊎ IsOlder m n (if b then min k n else n)
by_cover a true s k m n before lt = by_start a s k m n (λ off. before off refl) lt
by_cover true false s k m n before lt = inr (record { falls = omega arith; to = refl })
by_cover false false s k m n before lt = inr (record { falls = lt; to = refl })

-- ---- all zones over a profile

-- a profile that zones cap
abbrev capped_by : List Zone → (ℤ → ℕ) → ℤ → ℕ
capped_by zs f cell = lowest_limit (f cell) cell zs

-- each fall of it is at the beginning of a zone with its speed, or was one without them
abbrev IsZoneOrOlder : (ℤ → ℕ) → ℤ → ℕ → List Zone → Type 0
IsZoneOrOlder f c v zs = (has_zone c v zs ≡ true) ⊎ IsOlder (f (c -ℤ pos 1)) (f c) v

older_still : (f : ℤ → ℕ) (c : ℤ) (z : Zone) (zs : List Zone) (n v : ℕ) → n ≡ v → IsZoneOrOlder f c n zs →
    IsZoneOrOlder f c v (z ∷ zs)
older_still f c z zs n v is (inl later) =
    inl (either_later (begins_at c v z) (has_zone c v zs) (subst (λ (w : ℕ). has_zone c w zs ≡ true) is later))
older_still f c z zs n v is (inr older) = inr (record { falls = older.falls; to = older.to ∙ is })

fall_over : (f : ℤ → ℕ) (c : ℤ) (zs : List Zone) → capped_by zs f c < capped_by zs f (c -ℤ pos 1) →
    IsZoneOrOlder f c (capped_by zs f c) zs
fall_over f c [] lt = inr (record { falls = lt; to = refl })
fall_over f c (z ∷ zs) lt = elim (by_cover (covers (c -ℤ pos 1) z) (covers c z) (starts_at c z)
    z.limit (capped_by zs f (c -ℤ pos 1)) (capped_by zs f c) (covers_before z c) lt) [
      | inl here ↦ inl (either_first (begins_at c (capped_by (z ∷ zs) f c) z) (has_zone c (capped_by (z ∷ zs) f c) zs) here)
      | inr older ↦ older_still f c z zs (capped_by zs f c) (capped_by (z ∷ zs) f c) older.to (fall_over f c zs older.falls)
    ]

-- ---- zones over one speed

either_weaker : (a b c d : Bool) → (c ≡ true → d ≡ true) → ((a && b) || c) ≡ true → (a || d) ≡ true
either_weaker true b c d rest on = refl
either_weaker false b c d rest on = rest on

-- where a zone of some speed begins, one begins
begins_there : (c : ℤ) (v : ℕ) (zs : List Zone) → has_zone c v zs ≡ true → has_start zs c ≡ true
begins_there c v [] on = on
begins_there c v (z ∷ zs) on =
    either_weaker (starts_at c z) (z.limit == v) (has_zone c v zs) (has_start zs c) (begins_there c v zs) on

-- a fall lies where a zone begins
pub starts_at_fall : (top : ℕ) (zs : List Zone) (c : ℤ) → is_fall (zone_limits top zs) c ≡ true → has_start zs c ≡ true
starts_at_fall top zs c falls = by_kind (fall_over (λ _. top) c zs (ltb-true _ _ falls))
  where
    by_kind : IsZoneOrOlder (λ _. top) c (zone_limits top zs c) zs → has_start zs c ≡ true
    by_kind (inl on) = begins_there c (zone_limits top zs c) zs on
    by_kind (inr older) = absurd (omega (arith, older.falls))

-- ---- restrictions over the static profile

held_starts : (length_cm : ℤ) (rs : List Restriction) (c : ℤ) (v : ℕ) →
    has_zone c v (map (zone_of length_cm) rs) ≡ has_restriction c v rs
held_starts length_cm [] c v = refl
held_starts length_cm (r ∷ rs) c v = ap (λ b. is_restriction_at c v r || b) (held_starts length_cm rs c v)

-- a fall of the profile is one of the static profile to the same speed, or a restriction begins there
older_or_held : (p : ProfileData) (c : ℤ) → is_fall (mrsp_of p) c ≡ true →
    FallsTo (static_of p) c (mrsp_of p c) ⊎ (has_restriction c (mrsp_of p c) (finite.values p.restrictions) ≡ true)
older_or_held p c falls =
    by_kind (rw (← lowest_limit-after p.max_speed c xs zs) at (fall_over (static_of p) c zs
    (rw (lowest_limit-after p.max_speed c xs zs, lowest_limit-after p.max_speed (c -ℤ pos 1) xs zs)
    at (ltb-true _ _ falls))))
  where
    xs : List Zone
    xs = zones_of_track p.length_cm p.speeds

    zs : List Zone
    zs = map (zone_of p.length_cm) (finite.values p.restrictions)

    by_kind : IsZoneOrOlder (static_of p) c (mrsp_of p c) zs → FallsTo (static_of p) c (mrsp_of p c)
        ⊎ (has_restriction c (mrsp_of p c) (finite.values p.restrictions) ≡ true)
    by_kind (inl on) = inr (sym (held_starts p.length_cm (finite.values p.restrictions) c (mrsp_of p c)) ∙ on)
    by_kind (inr older) = inl (record { falls = lt-ltb _ _ older.falls; to = older.to })

-- so is the next one past a cell
zone_at_fall : (p : ProfileData) (after : ℤ) (fall : Fall) → IsNextFall (mrsp_of p) after fall → IsZoneStart p fall
zone_at_fall p after fall next =
    subst (λ (v : ℕ). FallsTo (static_of p) fall.cell v
    ⊎ (has_restriction fall.cell v (finite.values p.restrictions) ≡ true)) (sym next.lower)
    (older_or_held p fall.cell next.falls)

-- if there is one
pub zone_of_next : (p : ProfileData) (after : ℤ) (next : Option Fall) → IsFallAfter (mrsp_of p) after next →
    IfSome next (IsZoneStart p)
zone_of_next p after None h = tt
zone_of_next p after (Some fall) h = zone_at_fall p after fall h
