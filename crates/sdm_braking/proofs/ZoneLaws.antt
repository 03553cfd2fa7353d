-- The zones that are kept: there is one where a profile falls, with its speed. They stay so where a restriction comes
-- or goes.
use Rattle.std.proofs.Common.{◌≡◌, ◌≢◌, ◌⊎◌, inl, inr, ℕ, zero, suc, ℤ, pos, List, [], ◌∷◌, ◌++◌, Option, Some, None, Bool}
use Rattle.std.proofs.Common.{true, false, ◌&&◌, ◌==◌, T, cond, map, length, get_or, All, ◌+◌, ◌<◌, ◌≤◌, ◌≤ℤ◌}
use Rattle.std.proofs.Common.{◌<ℤ◌, refl, sym, ap, subst, ◌∙◌, arith, is_some, is_none, length-take-le, ◌-◌, position, take, drop}
use Rattle.std.specs.Cmp.{nat_cmp_total}
use Rattle.std.specs.FinMap as finite
use Rattle.std.specs.FinMap.Entries.{below_all, is_sorted}
use Rattle.std.specs.List.{list_any}
use Rattle.std.specs.Option.{option_map_or}
use Rattle.std.specs.Ordering.{int_eq, nat_cmp, eq_by_cmp, is_lt}
use Rattle.std.proofs.lemmas.Int.{ints, by_lt_z}
use Rattle.std.proofs.lemmas.Bool.{true≢false, and_from, and_parts}
use Rattle.std.proofs.lemmas.Bool.Decides.{Decides-int_eq, nat_tests}
use Rattle.std.proofs.lemmas.List.{get_or-drop, length-append, length-drop, take_all}
use Rattle.std.proofs.lemmas.List.Quantifiers.{position-Some}
use Rattle.std.proofs.lemmas.List.Elements.{All-append, All-cons, All-nil}
use Rattle.sdm_rules.specs.declared.restrictions.Restriction.{Restriction}
use Rattle.sdm_rules.specs.declared.targets.Fall.{Fall}
use Rattle.sdm_rules.specs.Data.{TrainAndTrack}
use Rattle.sdm_rules.specs.Profile.{Zone, lowest_limit, zone_of, zones_of_track}
use Rattle.sdm_rules.specs.Records.{most_restrictions}
use Rattle.sdm_rules.specs.Targets.{IsNextFall, HasNoFall}
use Rattle.sdm_speed.proofs.HeldLaws.{len_is}
use Rattle.sdm_speed.proofs.TakenLaws.{distinct_take, next_missing, not_contained, one_taken}
use Rattle.sdm_speed.specs.Held.{AreDistinct, by_identity}
use Rattle.sdm_speed.specs.Profiles.{ProfileData, mrsp_of, static_of, zones_of}
use Rattle.sdm_speed.specs.ZoneStarts.{FallsTo, IsZoneStart, has_restriction, is_restriction_at}
use Rattle.sdm_targets.proofs.CountLaws.{passed, passed_most, track_count}
use Rattle.sdm_targets.specs.Lists.{target_at}
use Rattle.sdm_braking.specs.declared.falls_ahead.KeptZone.{KeptZone}
use Rattle.sdm_braking.proofs.AnyLaws.{any_at, any_more, any_passed, any_new, any_weaker, either_of}
use Rattle.sdm_braking.specs.KeptFalls.{AreZonesOf, IsKeptZone, IsRestricted, IsRevoked, IsZoneAt, IsZoneLess}
use Rattle.sdm_braking.specs.KeptFalls.{KeptFallsData, fall_by, first_cell, has_id, is_at, is_held_at, is_static_at}
use Rattle.sdm_braking.specs.KeptFalls.{IsKeptFall, IsZoneMore, kept_at, no_zone}

-- ---- the restrictions of a map

t_first : (a b : Bool) → T (a && b) → T a
t_first true b h = tt
t_first false b h = h

t_second : (a b : Bool) → T (a && b) → T b
t_second true b h = h
t_second false b h = absurd h

-- a restriction among entries, found by its identity
record IsAmong (es : List (ℕ × Restriction)) (c : ℤ) (v : ℕ) : Type 0 where
  pub id : ℕ
  pub r : Restriction
  pub at : finite.find nat_cmp id es ≡ Some r
  pub is : is_restriction_at c v r ≡ true
  pub later : (x : ℕ) → T (below_all nat_cmp x es) → x < id

below_is : (x y : ℕ) → T (is_lt (nat_cmp x y)) → x < y
below_is x y h = grind (arith, nat_tests)

apart_is : (x y : ℕ) → x < y → eq_by_cmp nat_cmp y x ≡ false
apart_is x y lt = grind (arith, nat_tests)

tied_self : (x : ℕ) → eq_by_cmp nat_cmp x x ≡ true
tied_self x = grind (arith, nat_tests)

tied_is : (x y : ℕ) → eq_by_cmp nat_cmp x y ≡ true → x ≡ y
tied_is x y h = grind (arith, nat_tests)

among_first : (e : ℕ × Restriction) (es : List (ℕ × Restriction)) (c : ℤ) (v : ℕ) → is_restriction_at c v e.1 ≡ true →
    IsAmong (e ∷ es) c v
among_first e es c v here = record {
  id = e.0;
  r = e.1;
  at = ap (λ b. cond b (Some e.1) (finite.find nat_cmp e.0 es)) (tied_self e.0);
  is = here;
  later = λ x h. below_is x e.0 (t_first (is_lt (nat_cmp x e.0)) (below_all nat_cmp x es) h);
}

among_rest : (e : ℕ × Restriction) (es : List (ℕ × Restriction)) (c : ℤ) (v : ℕ) → T (below_all nat_cmp e.0 es) →
    IsAmong es c v → IsAmong (e ∷ es) c v
among_rest e es c v below h = record {
  id = h.id;
  r = h.r;
  at = ap (λ b. cond b (Some e.1) (finite.find nat_cmp h.id es)) (apart_is e.0 h.id (h.later e.0 below)) ∙ h.at;
  is = h.is;
  later = λ x g. h.later x (t_second (is_lt (nat_cmp x e.0)) (below_all nat_cmp x es) g);
}

among : (es : List (ℕ × Restriction)) (c : ℤ) (v : ℕ) → T (is_sorted nat_cmp es) →
    has_restriction c v (map (λ e. e.1) es) ≡ true → IsAmong es c v
among [] c v sorted on = absurd (true≢false (sym on))
among (e ∷ es) c v sorted on = elim (either_of (is_restriction_at c v e.1) (has_restriction c v (map (λ x. x.1) es)) on) [
  | inl here ↦ among_first e es c v here
  | inr rest ↦ among_rest e es c v (t_first (below_all nat_cmp e.0 es) (is_sorted nat_cmp es) sorted)
      (among es c v (t_second (below_all nat_cmp e.0 es) (is_sorted nat_cmp es) sorted) rest)
]

-- ---- a zone where the profile falls

int_is : (a b : ℤ) → int_eq a b ≡ true → a ≡ b
int_is a b t = (Decides-int_eq a b).0 t

int_same : (a : ℤ) → int_eq a a ≡ true
int_same a = (Decides-int_eq a a).1 refl

nat_is : (a b : ℕ) → (a == b) ≡ true → a ≡ b
nat_is a b t = grind (arith, nat_tests)

nat_same : (a : ℕ) → (a == a) ≡ true
nat_same a = grind (arith, nat_tests)

-- a zone that begins at a fall with its speed
pub fall_at : (z : KeptZone) (fall : Fall) → is_at fall z ≡ true → z.fall ≡ fall
fall_at z fall is =
    let parts = and_parts (int_eq z.fall.cell fall.cell) (z.fall.speed == fall.speed) is in
    let cell = int_is z.fall.cell fall.cell parts.0 in
    let speed = nat_is z.fall.speed fall.speed parts.1 in
    λ i. record { cell = cell i; speed = speed i }

-- where a restriction begins is where it is found
fall_is : (c : ℤ) (v : ℕ) (r : Restriction) → is_restriction_at c v r ≡ true →
    fall_by r ≡ record { cell = c; speed = v }
fall_is c v r is =
    let parts = and_parts (int_eq c (pos r.start)) (r.speed == v) is in
    let cell = sym (int_is c (pos r.start) parts.0) in
    let speed = nat_is r.speed v parts.1 in
    λ i. record { cell = cell i; speed = speed i }

pub zone_at_fall : (p : ProfileData) (v : KeptFallsData) (fall : Fall) → AreZonesOf p v → first_cell <ℤ fall.cell →
    IsZoneStart p fall → list_any (is_at fall) v.zones ≡ true
zone_at_fall p v fall h past (inl older) = any_weaker (is_static_at fall) (is_at fall)
    (λ z on. (and_parts (is_none z.id) (is_at fall z) on).1) v.zones (h.statics fall.cell fall.speed past older)
zone_at_fall p v fall h past (inr on) =
    let found = among (finite.entries p.restrictions) fall.cell fall.speed (finite.entries_sorted p.restrictions) on in
    let held = h.held found.id found.r (finite.get-entries p.restrictions found.id ∙ found.at) in
    subst (λ (f : Fall). list_any (is_at f) v.zones ≡ true) (fall_is fall.cell fall.speed found.r found.is)
    (any_weaker (is_held_at found.id (fall_by found.r)) (is_at (fall_by found.r))
    (λ z on. (and_parts (has_id found.id z) (is_at (fall_by found.r) z) on).1) v.zones held)

-- ---- a restriction comes

-- zones are one more
pub one_more : (d : TrainAndTrack) (of : Option ℕ) (fall : Fall) (old new : List KeptZone) →
    IsZoneMore d of fall old new → length new ≡ length old + 1
one_more d of fall old new more = ap (λ (zs : List KeptZone). length zs) more.is ∙ length-append old (more.zone ∷ [])

at_itself : (fall : Fall) (z : KeptZone) → z.fall ≡ fall → is_at fall z ≡ true
at_itself fall z is = subst (λ (f : Fall). is_at f z ≡ true) is
    (and_from (int_eq z.fall.cell z.fall.cell) (z.fall.speed == z.fall.speed) (int_same z.fall.cell)
    (nat_same z.fall.speed))

id_itself : (id : ℕ) (z : KeptZone) → z.id ≡ Some id → has_id id z ≡ true
id_itself id z is = ap (λ (o : Option ℕ). option_map_or (λ held. held == id) o false) is ∙ nat_same id

same_some : (r s : Restriction) → Some r ≡ Some s → r ≡ s
same_some r s e = cc

-- what is found in a map with one more
found_in : (b : Bool) (r s : Restriction) (o : Option Restriction) → cond b (Some r) o ≡ Some s →
    ((b ≡ true) × (r ≡ s)) ⊎ (o ≡ Some s)
found_in true r s o e = inl (refl, same_some r s e)
found_in false r s o e = inr e

pub restricted_zones : (d : TrainAndTrack) (q : ProfileData) (r : Restriction) (v w : KeptFallsData) →
    IsRestricted q r v → IsZoneMore d (Some r.id) (fall_by r) v.zones w.zones → w.statics ≡ v.statics →
    w.room ≡ v.room → AreZonesOf q w
restricted_zones d q r v w h more statics room = subst (λ (x : ProfileData). AreZonesOf x w) (sym h.is) (record {
  statics = λ c speed past falls. rw more.is (any_more (is_static_at (record { cell = c; speed = speed })) v.zones
      more.zone (h.zones.statics c speed past falls));
  held = λ id s here. rw more.is (by_id id s (found_in (eq_by_cmp nat_cmp id r.id) r s (finite.get h.old.restrictions id)
      (sym (finite.get-insert nat_cmp_total h.old.restrictions r.id r id) ∙ here)));
  few = omega (arith, one_more d (Some r.id) (fall_by r) v.zones w.zones more, held_is, h.zones.few);
  few_held = omega (arith, one_more d (Some r.id) (fall_by r) v.zones w.zones more, held_is, statics, h.zones.few_held);
  room = omega (arith, room, h.zones.room);
})
  where
    held_is : finite.len (finite.insert h.old.restrictions r.id r) ≡ finite.len h.old.restrictions + 1
    held_is = finite.len-insert nat_cmp_total h.old.restrictions r.id r ∙ rw h.new refl

    by_id : (id : ℕ) (s : Restriction) →
        ((eq_by_cmp nat_cmp id r.id ≡ true) × (r ≡ s)) ⊎ (finite.get h.old.restrictions id ≡ Some s) →
        list_any (is_held_at id (fall_by s)) (v.zones ++ more.zone ∷ []) ≡ true
    by_id id s (inl same) =
        any_new (is_held_at id (fall_by s)) v.zones more.zone
        (and_from (has_id id more.zone) (is_at (fall_by s) more.zone)
        (id_itself id more.zone (more.id ∙ ap Some (sym (tied_is id r.id same.0))))
        (at_itself (fall_by s) more.zone (more.fall ∙ ap fall_by same.1)))
    by_id id s (inr old) =
        any_more (is_held_at id (fall_by s)) v.zones more.zone (h.zones.held id s old)

-- ---- a restriction goes

pub room_for_one : (q : ProfileData) (r : Restriction) (v : KeptFallsData) → IsRestricted q r v →
    length v.zones < v.room
room_for_one q r v h = omega (arith, h.few, h.zones.few, h.zones.room)

-- there is a zone of it
pub zone_of_held : (q : ProfileData) (id : ℕ) (v : KeptFallsData) → IsRevoked q id v →
    list_any (has_id id) v.zones ≡ true
zone_of_held q id v h = by_value (finite.get h.old.restrictions id) refl h.held
  where
    by_value : (o : Option Restriction) → finite.get h.old.restrictions id ≡ o → is_some o ≡ true →
        list_any (has_id id) v.zones ≡ true
    by_value None here some = absurd (true≢false (sym some))
    by_value (Some r) here some = any_weaker (is_held_at id (fall_by r)) (has_id id)
        (λ z on. (and_parts (has_id id z) (is_at (fall_by r) z) on).0) v.zones (h.zones.held id r here)

-- the zone of one restriction is that of no other, and of no static fall
not_static : (o : Option ℕ) (id : ℕ) (b : Bool) → option_map_or (λ held. held == id) o false ≡ true →
    (is_none o && b) ≡ false
not_static None id b here = absurd (true≢false (sym here))
not_static (Some n) id b here = refl

not_both : (n id other : ℕ) → (n == id) ≡ true → eq_by_cmp nat_cmp other id ≡ false → (n == other) ≡ false
not_both n id other here apart = grind (arith, nat_tests)

not_held : (o : Option ℕ) (id other : ℕ) (b : Bool) → option_map_or (λ held. held == id) o false ≡ true →
    eq_by_cmp nat_cmp other id ≡ false → (option_map_or (λ held. held == other) o false && b) ≡ false
not_held None id other b here apart = absurd (true≢false (sym here))
not_held (Some n) id other b here apart = rw (not_both n id other here apart) refl

-- what is found in a map with one less
left_in : (b : Bool) (s : Restriction) (o : Option Restriction) → cond b None o ≡ Some s →
    (b ≡ false) × (o ≡ Some s)
left_in true s o e = absurd cc
left_in false s o e = (refl, e)

-- two numbers are the same or aren't
same_or_not : (a b : ℕ) → (a ≡ b) ⊎ (a ≢ b)
same_or_not a b = by_test (a == b) refl
  where
    by_test : (t : Bool) → (a == b) ≡ t → (a ≡ b) ⊎ (a ≢ b)
    by_test true is = inl (nat_is a b is)
    by_test false off = inr (λ e. true≢false (sym (ap (λ n. n == b) e ∙ nat_same b) ∙ off))

lt_or_not : (a b : ℕ) → (a < b) ⊎ (b ≤ a)
lt_or_not a zero = inr (omega arith)
lt_or_not zero (suc b) = inl (omega arith)
lt_or_not (suc a) (suc b) = elim (lt_or_not a b) [
  | inl lt ↦ inl (omega (arith, lt))
  | inr le ↦ inr (omega (arith, le))
]

module _ (id : ℕ) (old new : List KeptZone) (less : IsZoneLess id old new) where
  -- one that passes a test, and isn't that which goes, is left
  any_left : (P : KeptZone → Bool) → ((d : KeptZone) → P (get_or old less.index d) ≡ false) →
      list_any P old ≡ true → list_any P new ≡ true
  any_left P off on =
      let found = any_passed P old on in
      let k = found.index in
      let known = found.known in
      let fewer = less.fewer in
      let here = less.known in
      let apart : k ≢ less.index =
      λ e. true≢false (sym (found.is no_zone) ∙ ap (λ n. P (get_or old n no_zone)) e ∙ off no_zone) in
      elim (lt_or_not k (length new)) [
        | inl lt ↦ any_at P new k no_zone lt
            (ap P (less.others k no_zone apart (omega (arith, lt, fewer))) ∙ found.is no_zone)
        | inr past ↦ elim (lt_or_not (less.index + 1) (length old)) [
          | inl more ↦ (let is_last : length old - 1 ≡ k = omega (arith, past, known, fewer) in
              any_at P new less.index no_zone (omega (arith, more, fewer))
              (ap P (less.last no_zone more ∙ ap (λ n. get_or old n no_zone) is_last) ∙ found.is no_zone))
          | inr end ↦ absurd (apart (omega (arith, end, here, past, known, fewer)))
        ]
      ]

  -- what holds of all holds of those that are left
  all_left : (Q : KeptZone → Type 0) → All Q old → All Q new
  all_left Q each k d known =
      let fewer = less.fewer in
      elim (same_or_not k less.index) [
        | inl is ↦ subst Q (sym (ap (λ n. get_or new n d) is ∙ less.last d (omega (arith, known, fewer, is))))
            (each (length old - 1) d (omega (arith, known, fewer)))
        | inr apart ↦ subst Q (sym (less.others k d apart (omega (arith, known, fewer))))
            (each k d (omega (arith, known, fewer)))
      ]

pub revoked_zones : (q : ProfileData) (id : ℕ) (v w : KeptFallsData) → IsRevoked q id v →
    IsZoneLess id v.zones w.zones → w.statics ≡ v.statics → w.room ≡ v.room → AreZonesOf q w
revoked_zones q id v w h less statics room = subst (λ (x : ProfileData). AreZonesOf x w) (sym h.is) (record {
  statics = λ c speed past falls. any_left id v.zones w.zones less (is_static_at (record { cell = c; speed = speed }))
      (λ z. not_static (get_or v.zones less.index z).id id _ (less.was z)) (h.zones.statics c speed past falls);
  held = λ k s here.
      let left = left_in (eq_by_cmp nat_cmp k id) s (finite.get h.old.restrictions k)
      (sym (finite.get-remove nat_cmp_total h.old.restrictions id k) ∙ here) in
      any_left id v.zones w.zones less (is_held_at k (fall_by s))
      (λ z. not_held (get_or v.zones less.index z).id id k _ (less.was z) left.0) (h.zones.held k s left.1);
  few = omega (arith, less.fewer, held_is, h.zones.few);
  few_held = omega (arith, less.fewer, held_is, statics, h.zones.few_held);
  room = omega (arith, room, h.zones.room);
})
  where
    held_is : finite.len (finite.remove h.old.restrictions id) ≡ finite.len h.old.restrictions - 1
    held_is = finite.len-remove nat_cmp_total h.old.restrictions id ∙ rw h.held refl

-- ---- the restrictions of another profile come, one after the other

pub next_restricted : (p : ProfileData) (rs : List Restriction) (i : ℕ) (d : Restriction) (v : KeptFallsData) →
    by_identity rs ≡ p.restrictions → AreDistinct rs → finite.len p.restrictions ≤ most_restrictions → i < length rs →
    AreZonesOf (record p { restrictions = by_identity (take i rs) }) v →
    IsRestricted (record p { restrictions = by_identity (take (i + 1) rs) }) (get_or rs i d) v
next_restricted p rs i d v all distinct few known h = record {
  old = record p { restrictions = by_identity (take i rs) };
  zones = h;
  new = not_contained (take i rs) (get_or rs i d).id (next_missing rs i d known distinct);
  few =
      let count = len_is rs distinct in
      let so_far = len_is (take i rs) (distinct_take rs i distinct) in
      let taken = length-take-le i rs (omega arith) in
      let as_many = ap (λ (m : finite.FinMap nat_cmp Restriction). finite.len m) all in
      omega (arith, count, so_far, taken, as_many, few, known);
  is = λ k. record p { restrictions = sym (one_taken rs i d known distinct) k };
}

-- past the last one they are all in force
pub all_restricted : (p : ProfileData) (rs : List Restriction) (i : ℕ) (v : KeptFallsData) →
    by_identity rs ≡ p.restrictions → length rs ≤ i →
    AreZonesOf (record p { restrictions = by_identity (take i rs) }) v → AreZonesOf p v
all_restricted p rs i v all past h =
    subst (λ (m : finite.FinMap nat_cmp Restriction). AreZonesOf (record p { restrictions = m }) v)
    (ap by_identity (take_all i rs past) ∙ all) h

-- ---- a search

-- the zone that is found
pub zone_found : (fall : Fall) (zs : List KeptZone) (n i : ℕ) → position (is_at fall) (drop n zs) ≡ Some i →
    n ≤ length zs → IsZoneAt fall zs (n + i)
zone_found fall zs n i found first = record {
  known = omega (arith, (position-Some (is_at fall) (drop n zs) i no_zone found).0, length-drop n zs, first);
  at = λ d. fall_at (get_or zs (n + i) d) fall (ap (is_at fall) (sym (get_or-drop n zs i d))
      ∙ (position-Some (is_at fall) (drop n zs) i d found).1);
}

-- ---- the zones of the static profile

-- there is a zone for each fall up to the start of a cell
pub record AreStaticsTo (p : ℤ → ℕ) (at : ℤ) (zs : List KeptZone) : Type 0 where
  pub each : (c : ℤ) (speed : ℕ) → first_cell <ℤ c → c ≤ℤ at → FallsTo p c speed →
      list_any (is_static_at (record { cell = c; speed = speed })) zs ≡ true

no_id : (o : Option ℕ) → o ≡ None → is_none o ≡ true
no_id o is = ap is_none is

-- one more
pub one_static : (d : TrainAndTrack) (p : ℤ → ℕ) (at : ℤ) (fall : Fall) (old new : List KeptZone) →
    AreStaticsTo p at old → IsNextFall p at fall → IsZoneMore d None fall old new → AreStaticsTo p fall.cell new
one_static d p at fall old new h next more = record {
  each = λ c speed past le falls.
      let test : KeptZone → Bool = is_static_at (record { cell = c; speed = speed }) in
      rw more.is (by_lt_z at c
      (λ (beyond : at <ℤ c). by_lt_z c fall.cell
      (λ (before : c <ℤ fall.cell). absurd (true≢false (sym falls.falls ∙ next.first c beyond before)))
      (λ (from : fall.cell ≤ℤ c).
      let cell : fall.cell ≡ c = omega (arith, ints) in
      let lower : fall.speed ≡ speed = next.lower ∙ ap p cell ∙ falls.to in
      let same : fall ≡ record { cell = c; speed = speed } = λ i. record { cell = cell i; speed = lower i } in
      any_new test old more.zone
      (and_from (is_none more.zone.id) (is_at (record { cell = c; speed = speed }) more.zone)
      (no_id more.zone.id more.id) (at_itself (record { cell = c; speed = speed }) more.zone (more.fall ∙ same)))))
      (λ (reached : c ≤ℤ at). any_more test old more.zone (h.each c speed past reached falls)));
}

-- with its curves
pub one_curve : (d : TrainAndTrack) (of : Option ℕ) (fall : Fall) (old new : List KeptZone) →
    All (IsKeptZone d) old → IsZoneMore d of fall old new → All (IsKeptZone d) new
one_curve d of fall old new h more = rw more.is (All-append (IsKeptZone d) old (more.zone ∷ []) h
    (All-cons (IsKeptZone d) more.zone [] more.kept (All-nil (IsKeptZone d))))

no_length : {A : Type 0} (xs : List A) → length xs ≡ 0 → xs ≡ []
no_length [] e = refl
no_length (x ∷ xs) e = absurd (omega arith)

no_entries : (p : ProfileData) → p.restrictions ≡ finite.empty → finite.entries p.restrictions ≡ []
no_entries p bare = no_length (finite.entries p.restrictions)
    (sym (finite.len-entries p.restrictions)
    ∙ ap (λ (m : finite.FinMap nat_cmp Restriction). finite.len m) bare ∙ finite.len-empty nat_cmp Restriction)

pub no_more : {A : Type 0} (xs : List A) → xs ++ [] ≡ xs
no_more [] = refl
no_more (x ∷ xs) = ap (λ ys. x ∷ ys) (no_more xs)

-- under no restriction the zones are those of the entries
bare_zones : (p : ProfileData) → p.restrictions ≡ finite.empty → zones_of p ≡ zones_of_track p.length_cm p.speeds
bare_zones p bare = ap (λ (es : List (ℕ × Restriction)). zones_of_track p.length_cm p.speeds
    ++ map (zone_of p.length_cm) (map (λ e. e.1) es)) (no_entries p bare) ∙ no_more (zones_of_track p.length_cm p.speeds)

-- no more of them than entries
pub few_statics : (p : ProfileData) (at : ℤ) (n : ℕ) → p.restrictions ≡ finite.empty → n ≤ passed (zones_of p) at →
    n ≤ length p.speeds
few_statics p at n bare le =
    let all = ap (λ (zs : List Zone). length zs) (bare_zones p bare) in
    omega (arith, le, passed_most (zones_of p) at, all, track_count p.length_cm p.speeds)

-- past the last fall the zones are those of the profile
pub static_zones_are : (p : ProfileData) (at : ℤ) (v : KeptFallsData) → p.restrictions ≡ finite.empty →
    HasNoFall (mrsp_of p) at → AreStaticsTo (mrsp_of p) at v.zones → length v.zones ≤ length p.speeds →
    v.statics ≡ length v.zones → length p.speeds + most_restrictions ≤ v.room → AreZonesOf p v
static_zones_are p at v bare none h few statics room = record {
  statics = λ c speed past falls.
      let here = subst (λ (f : ℤ → ℕ). FallsTo f c speed) (sym static_is) falls in
      by_lt_z at c
      (λ (beyond : at <ℤ c). absurd (true≢false (sym here.falls ∙ none c beyond)))
      (λ (reached : c ≤ℤ at). h.each c speed past reached here);
  held = λ id r here. absurd (none_held id r (sym (ap (λ (m : finite.FinMap nat_cmp Restriction). finite.get m id) bare
      ∙ finite.get-empty nat_cmp id) ∙ here));
  few = omega (arith, few);
  few_held = omega (arith, statics);
  room = room;
}
  where
    static_is : mrsp_of p ≡ static_of p
    static_is = λ k cell. lowest_limit p.max_speed cell (bare_zones p bare k)

    none_held : (id : ℕ) (r : Restriction) → None ≡ Some r → ⊥
    none_held id r e = cc

-- ---- what stays

-- zones that stay are those of the profile
pub same_zones : (p : ProfileData) (v w : KeptFallsData) → AreZonesOf p v → w.zones ≡ v.zones →
    w.statics ≡ v.statics → w.room ≡ v.room → AreZonesOf p w
same_zones p v w h zones statics room = record {
  statics = λ c speed past falls. rw zones (h.statics c speed past falls);
  held = λ id r here. rw zones (h.held id r here);
  few = rw zones h.few;
  few_held = rw (zones, statics) h.few_held;
  room = rw room h.room;
}

-- the zones that are left have their curves
pub curves_left : (d : TrainAndTrack) (id : ℕ) (old new : List KeptZone) → All (IsKeptZone d) old →
    IsZoneLess id old new → All (IsKeptZone d) new
curves_left d id old new h less = all_left id old new less (IsKeptZone d) h

-- a fall at the zone that is found is kept
pub kept_zone : (d : TrainAndTrack) (zs : List KeptZone) (fall : Fall) (i : ℕ) → IsZoneAt fall zs i →
    All (IsKeptZone d) zs → IsKeptFall d (kept_at zs (record { fall = fall; place = i }))
kept_zone d zs fall i found h =
    let kept = h i no_zone found.known in
    record { at = kept.at ∙ ap target_at (found.at no_zone); kept = kept.kept }
