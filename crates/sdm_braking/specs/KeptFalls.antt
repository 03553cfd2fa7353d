-- The falls of a speed profile that are kept with their curves, and the zones that may be falls (own).
use Rattle.std.specs.Prelude.{◌≡◌, ℕ, ℤ, pos, negsuc, Bool, true, false, List, [], ◌∷◌, Option, Some, None, All, ◌&&◌, is_none}
use Rattle.std.specs.Prelude.{length, map, slice_index_or, ◌≢◌, ◌++◌, ◌+◌, ◌-◌, ◌<◌, ◌≤◌, ◌==◌, ◌≤ℤ◌, ◌<ℤ◌}
use Rattle.std.specs.FinMap as finite
use Rattle.std.specs.List.{list_any}
use Rattle.std.specs.Option.{option_map_or}
use Rattle.std.specs.Ordering.{int_eq}
use Rattle.sdm_rules.specs.declared.restrictions.Restriction.{Restriction}
use Rattle.sdm_rules.specs.declared.targets.Fall.{Fall}
use Rattle.sdm_rules.specs.declared.targets.Target.{Target}
use Rattle.sdm_rules.specs.declared.targets.TargetKind.TheVariants.{Svl}
use Rattle.sdm_rules.specs.Data.{TrainAndTrack}
use Rattle.sdm_rules.specs.Records.{most_restrictions}
use Rattle.sdm_rules.specs.Targets.{is_fall}
use Rattle.sdm_speed.specs.Falls.{AreAtFalls}
use Rattle.sdm_speed.specs.Profiles.{ProfileData, mrsp_of, static_of}
use Rattle.sdm_speed.specs.ZoneStarts.{FallsTo}
use Rattle.sdm_targets.specs.Lists.{most_falls, target_at}
use Rattle.sdm_braking.specs.declared.falls_ahead.KeptFall.{KeptFall}
use Rattle.sdm_braking.specs.declared.falls_ahead.KeptZone.{KeptZone}
use Rattle.sdm_braking.specs.declared.falls_ahead.PlacedFall.{PlacedFall}
use Rattle.sdm_braking.specs.declared.kept_targets.KeptTarget.{KeptTarget}
use Rattle.sdm_braking.specs.FallFeet.{AreHidden}
use Rattle.sdm_braking.specs.KeptCurves.{IsKeptTarget}

-- what is kept of a fall: the target at it with its curves
pub record KeptFallData : Type 0 where
  pub fall : Fall
  pub kept : KeptTarget

-- what is kept of a fall, as it is handed out
abbrev pub data_of : KeptFall → KeptFallData
data_of k = record { fall = k.fall; kept = k.kept.now }

-- the fall of what is kept of it
abbrev pub fall_of : KeptFallData → Fall
fall_of k = k.fall

-- the target that is kept of a fall
abbrev pub target_of : KeptFallData → Target
target_of k = k.kept.target

-- the target at a fall, by the fall alone
abbrev pub at_fall : KeptFallData → Target
at_fall k = target_at k.fall

-- a fall that is kept stands beside the target at it with its curves
pub record IsKeptFall (d : TrainAndTrack) (k : KeptFallData) : Type 0 where
  pub at : target_of k ≡ at_fall k
  pub kept : IsKeptTarget d k.kept

-- a zone as the fall that it may be
abbrev pub zone_fall : KeptZone → KeptFallData
zone_fall z = record { fall = z.fall; kept = z.kept }

-- a zone that is kept stands beside the target at its beginning with its curves
abbrev pub IsKeptZone : TrainAndTrack → KeptZone → Type 0
IsKeptZone d z = IsKeptFall d (zone_fall z)

-- what is kept of falls, in order, the zones that may be falls, how many of these are of the static profile, and of how
-- many zones there is room for; and for each fall how many falls further on its EBD and its guidance curve are hidden
pub record KeptFallsData : Type 0 where
  pub list : List KeptFallData
  pub zones : List KeptZone
  pub statics : ℕ
  pub room : ℕ
  pub brake_steps : List ℕ
  pub guide_steps : List ℕ

-- ---- places of zones

-- what stands for a zone at a place past the last, which no fall has
abbrev pub no_zone : KeptZone
no_zone = record {
  id = None;
  fall = record { cell = pos 0; speed = 0 };
  kept = record {
    target = record { kind = Svl; place = pos 0; speed = 0 };
    speeds = record { permitted = 0; warning = 0; sbi = 0; ebi = 0 };
    brake = record { place = pos 0; speed = 0; band = 0; knots = [] };
    guide = None;
  };
}

-- what is kept of a fall that has a place among these zones
abbrev pub kept_at : List KeptZone → PlacedFall → KeptFallData
kept_at zones e = record { fall = e.fall; kept = (slice_index_or zones e.place no_zone).kept }

-- what is kept of falls that have places among these zones
abbrev pub kept_in : List KeptZone → List PlacedFall → List KeptFallData
kept_in zones list = map (kept_at zones) list

-- falls have places among these zones
abbrev pub ArePlacedIn : List KeptZone → List PlacedFall → Type 0
ArePlacedIn zones list = All (λ e. e.place < length zones) list

-- the falls that are listed now, and those that were before, are no more than a profile may have
pub record AreFewPlaced (list older : List PlacedFall) : Type 0 where
  pub now : length list ≤ most_falls
  pub before : length older ≤ most_falls

-- ---- the zones of a profile

-- the zone begins at the fall with its speed
abbrev pub is_at : Fall → KeptZone → Bool
is_at fall z = int_eq z.fall.cell fall.cell && (z.fall.speed == fall.speed)

-- the zone is that of the restriction with this identity
abbrev pub has_id : ℕ → KeptZone → Bool
has_id id z = option_map_or (λ held. held == id) z.id false

-- the zone at this index begins at the fall with its speed
pub record IsZoneAt (fall : Fall) (zones : List KeptZone) (i : ℕ) : Type 0 where
  pub known : i < length zones
  pub at : (d : KeptZone) → (slice_index_or zones i d).fall ≡ fall

-- where a restriction begins, with its speed
abbrev pub fall_by : Restriction → Fall
fall_by r = record { cell = pos r.start; speed = r.speed }

-- a zone of no restriction that begins at the fall with its speed
abbrev pub is_static_at : Fall → KeptZone → Bool
is_static_at fall z = is_none z.id && is_at fall z

-- a zone of a restriction that begins at the fall with its speed
abbrev pub is_held_at : ℕ → Fall → KeptZone → Bool
is_held_at id fall z = has_id id z && is_at fall z

-- no cell of a profile that is asked for lies before this one, which is that of the least i32
abbrev pub first_cell : ℤ
first_cell = negsuc 2_147_483_647

-- so many zones come first and are of no restriction, in the order of their cells
pub record AreStaticsFirst (statics : ℕ) (zones : List KeptZone) : Type 0 where
  pub known : statics ≤ length zones
  pub first : (k : ℕ) (d : KeptZone) → k < statics → (slice_index_or zones k d).id ≡ None
  pub order : (j k : ℕ) (d : KeptZone) → j < k → k < statics →
      (slice_index_or zones j d).fall.cell <ℤ (slice_index_or zones k d).fall.cell

-- there is a zone for each fall of the static profile, and one for each restriction; no more than there is room for
-- beside the restrictions that may come, and behind those of the static profile no more than restrictions
pub record AreZonesOf (p : ProfileData) (v : KeptFallsData) : Type 0 where
  pub statics : (c : ℤ) (speed : ℕ) → first_cell <ℤ c → FallsTo (static_of p) c speed →
      list_any (is_static_at (record { cell = c; speed = speed })) v.zones ≡ true
  pub held : (id : ℕ) (r : Restriction) → finite.get p.restrictions id ≡ Some r →
      list_any (is_held_at id (fall_by r)) v.zones ≡ true
  pub few : length v.zones ≤ length p.speeds + finite.len p.restrictions
  pub few_held : length v.zones ≤ v.statics + finite.len p.restrictions
  pub room : length p.speeds + most_restrictions ≤ v.room

-- behind zones one more is kept, with its curves
pub record IsZoneMore (d : TrainAndTrack) (of : Option ℕ) (at : Fall) (old new : List KeptZone) : Type 0 where
  pub zone : KeptZone
  pub is : new ≡ old ++ zone ∷ []
  pub id : zone.id ≡ of
  pub fall : zone.fall ≡ at
  pub kept : IsKeptZone d zone

-- of zones that of the restriction with this identity is taken out, and the last one takes its place
pub record IsZoneLess (id : ℕ) (old new : List KeptZone) : Type 0 where
  pub index : ℕ
  pub known : index < length old
  pub was : (d : KeptZone) → has_id id (slice_index_or old index d) ≡ true
  pub fewer : length new + 1 ≡ length old
  pub last : (d : KeptZone) → index + 1 < length old →
      slice_index_or new index d ≡ slice_index_or old (length old - 1) d
  pub others : (k : ℕ) (d : KeptZone) → k ≢ index → k + 1 < length old →
      slice_index_or new k d ≡ slice_index_or old k d

-- ---- the falls of a profile

-- what is kept of the falls of a profile: one entry for each, in order, with its curves, and how far on these are
-- hidden; and its zones, with their curves. There are no more falls than a profile may have
pub record AreKeptFalls (d : TrainAndTrack) (p : ProfileData) (v : KeptFallsData) : Type 0 where
  pub falls : AreAtFalls fall_of (mrsp_of p) first_cell v.list
  pub each : All (IsKeptFall d) v.list
  pub few : length v.list ≤ most_falls
  pub zones : AreZonesOf p v
  pub curves : All (IsKeptZone d) v.zones
  pub hidden : AreHidden d (map target_of v.list) v.brake_steps v.guide_steps

-- the fall is at a cell where the profile falls, and to the speed of that cell
pub record IsFallAt (p : ℤ → ℕ) (at : ℤ) (fall : Fall) : Type 0 where
  pub cell : fall.cell ≡ at
  pub falls : is_fall p at ≡ true
  pub speed : fall.speed ≡ p at

-- the first `i` of what stands at falls in order lie at the start of a cell or before it, and the others past it
pub record ArePartedPast {A : Type 0} (fall : A → Fall) (last : ℤ) (xs : List A) (i : ℕ) : Type 0 where
  pub reached : (k : ℕ) (d : A) → k < i → k < length xs → (fall (slice_index_or xs k d)).cell ≤ℤ last
  pub past : (k : ℕ) (d : A) → i ≤ k → k < length xs → last <ℤ (fall (slice_index_or xs k d)).cell

-- what is kept is of the profile before a restriction came
pub record IsRestricted (p : ProfileData) (r : Restriction) (v : KeptFallsData) : Type 0 where
  pub old : ProfileData
  pub zones : AreZonesOf old v
  pub new : finite.contains_key old.restrictions r.id ≡ false
  pub few : finite.len old.restrictions < most_restrictions
  pub is : p ≡ record old { restrictions = finite.insert old.restrictions r.id r }

-- what is kept is of the profile before a restriction went
pub record IsRevoked (p : ProfileData) (id : ℕ) (v : KeptFallsData) : Type 0 where
  pub old : ProfileData
  pub zones : AreZonesOf old v
  pub held : finite.contains_key old.restrictions id ≡ true
  pub is : p ≡ record old { restrictions = finite.remove old.restrictions id }
