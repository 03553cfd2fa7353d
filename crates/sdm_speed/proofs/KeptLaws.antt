-- What the fields of a profile say of its value: how many restrictions there are, and that the steps give the MRSP.
use Rattle.std.proofs.Common.{◌≡◌, ℕ, ℤ, pos, List, ◌++◌, length, map, Option, Some, None, MatchOption, IfSome, All}
use Rattle.std.proofs.Common.{true, ◌≤◌, sym, ap, subst, ◌∙◌, arith}
use Rattle.std.specs.Ordering.{nat_cmp}
use Rattle.std.specs.FinMap as finite
use Rattle.std.proofs.lemmas.Int.{ints}
use Rattle.std.proofs.lemmas.List.Elements.{All-append, All-map}
use Rattle.sdm_rules.specs.declared.restrictions.Restriction.{Restriction}
use Rattle.sdm_rules.specs.declared.targets.Fall.{Fall}
use Rattle.sdm_rules.specs.Profile.{Zone, lowest_limit, zone_of}
use Rattle.sdm_rules.specs.Records.{most_restrictions}
use Rattle.sdm_rules.specs.Targets.{is_fall, IsNextFall, HasNoFall}
use Rattle.sdm_speed.specs.declared.profiles.Profile.TheInside.{Inside}
use Rattle.sdm_speed.specs.Held.{IsHeldRestriction}
use Rattle.sdm_speed.specs.Zones.{IsLimit, IsZone, IsFallInRange, zone_limits}
use Rattle.sdm_speed.specs.Steps.{speeds_of}
use Rattle.sdm_speed.specs.Profiles.{IsProfile, ProfileData, mrsp_of}
use Rattle.sdm_speed.specs.ProfileFields.{profile_data_of, static_zones_of, held_zones_of, IsKeptProfile}
use Rattle.sdm_speed.proofs.ZoneLaws.{lowest_limit-append}
use Rattle.sdm_speed.proofs.StartLaws.{start_on_track}
use Rattle.sdm_speed.proofs.FallStarts.{starts_at_fall}
use Rattle.sdm_speed.proofs.HeldLaws.{len_is, lowest_by_identity}
use Rattle.sdm_speed.proofs.MrspLaws.{limit_in_range}

-- the zone of a restriction that is held
held_zone : (length_cm : ℤ) (r : Restriction) → IsHeldRestriction r → IsZone (zone_of length_cm r)
held_zone length_cm r held = record {
  not_before = λ first is. let same : pos r.start ≡ first = cc in rw (← same) (omega (arith, ints));
  on_track = λ first is. let same : pos r.start ≡ first =
      cc in rw (← same) (omega (arith, ints, held.some_cell, held.on_track));
  limited = held.limited;
}

-- with other restrictions, but not too many, a profile stays in its ranges
pub with_held : (p : ProfileData) (held : finite.FinMap nat_cmp Restriction) → IsProfile p →
    finite.len held ≤ most_restrictions → IsProfile (record p { restrictions = held })
with_held p held h few = record {
  top = h.top;
  shortest_train = h.shortest_train;
  longest_train = h.longest_train;
  longest_track =
      h.longest_track;
  speeds = h.speeds;
  few = few;
}

module _ (f : Inside) (kept : IsKeptProfile f) where
  -- as many restrictions as are held
  pub held_count : (p : ProfileData) → profile_data_of f ≡ p → finite.len p.restrictions ≡ length f.held.items
  held_count p is = ap (λ (q : ProfileData). finite.len q.restrictions) (sym is) ∙ len_is f.held.items kept.distinct

  -- all zones: the static ones and those of the restrictions that are held
  abbrev zones : List Zone
  zones = static_zones_of f ++ held_zones_of f

  -- each is in its ranges
  each : All IsZone zones
  each = All-append IsZone (static_zones_of f) (held_zones_of f) kept.each_static
      (All-map IsZone (zone_of (pos f.length_cm)) f.held.items
      (λ k d l. held_zone (pos f.length_cm) _ (kept.each_held k d l)))

  -- the zones give the MRSP
  zones_at : (cell : ℤ) → zone_limits f.max_speed zones cell ≡ mrsp_of (profile_data_of f) cell
  zones_at cell =
      let statics = static_zones_of f in
      lowest_limit-append f.max_speed cell statics (held_zones_of f)
      ∙ ap (λ n. lowest_limit n cell statics)
      (sym (lowest_by_identity f.max_speed cell (pos f.length_cm) f.held.items kept.distinct))
      ∙ sym (lowest_limit-append f.max_speed cell statics
      (map (zone_of (pos f.length_cm)) (finite.values (profile_data_of f).restrictions)))

  -- so in every cell at once
  zones_mrsp : zone_limits f.max_speed zones ≡ mrsp_of (profile_data_of f)
  zones_mrsp = λ k cell. zones_at cell k

  -- and so do the steps
  pub kept_mrsp : speeds_of f.steps.before f.steps.list.items ≡ mrsp_of (profile_data_of f)
  kept_mrsp = λ k cell. (kept.steps cell ∙ zones_at cell) k

  -- the MRSP of each cell is a limit
  pub mrsp_in_range : (cell : ℤ) → IsLimit (mrsp_of (profile_data_of f) cell)
  mrsp_in_range cell = subst IsLimit (zones_at cell) (limit_in_range f.max_speed cell zones kept.in_range.top each)

  -- a fall lies on the track, and its speed is a limit
  pub fall_in_range : (after : ℤ) (next : Option Fall) → MatchOption next
      (HasNoFall (mrsp_of (profile_data_of f)) after) (IsNextFall (mrsp_of (profile_data_of f)) after) →
      IfSome next IsFallInRange
  fall_in_range after None h = tt
  fall_in_range after (Some fall) h =
      let begins = start_on_track zones fall.cell each (starts_at_fall f.max_speed zones fall.cell
      (subst (λ (profile : ℤ → ℕ). is_fall profile fall.cell ≡ true) (sym zones_mrsp) h.falls)) in
      record { not_before = begins.0; on_track = begins.1; limited = rw h.lower (mrsp_in_range fall.cell) }
