-- Restrictions in the order in which they were put into force, and what they are by identity (own).
use Rattle.std.specs.Prelude.{◌≡◌, ℕ, Bool, List, [], ◌∷◌, None, ◌==◌, map, ◌<◌, ◌≤◌}
use Rattle.std.specs.Ordering.{nat_cmp}
use Rattle.std.specs.FinMap as finite
use Rattle.sdm_rules.specs.declared.restrictions.Restriction.{Restriction}
use Rattle.sdm_rules.specs.Ranges.{longest_track}
use Rattle.sdm_speed.specs.Zones.{IsLimit}

-- the restriction has the identity
abbrev pub has_id : ℕ → Restriction → Bool
has_id id r = r.id == id

-- a restriction beside its identity
abbrev pub keyed : Restriction → ℕ × Restriction
keyed r = (r.id, r)

-- the restrictions as a map from identities
abbrev pub by_identity : List Restriction → finite.FinMap nat_cmp Restriction
by_identity rs = finite.from_entries (map keyed rs)

-- a restriction that is held covers a cell of the longest track, and has a limit
pub record IsHeldRestriction (r : Restriction) : Type 0 where
  pub some_cell : r.start < r.end
  pub on_track : r.end ≤ longest_track
  pub limited : IsLimit r.speed

-- no two of the restrictions have one identity
abbrev pub AreDistinct : List Restriction → Type 0
AreDistinct [] = Unit {0}
AreDistinct (r ∷ rs) = (finite.find nat_cmp r.id (map keyed rs) ≡ None) × AreDistinct rs
