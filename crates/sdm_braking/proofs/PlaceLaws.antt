-- Places of zones: what stands at falls in a list of places stands there in the list of what is kept.
use Rattle.std.proofs.Common.{◌≡◌, ℕ, ℤ, List, [], ◌∷◌, length, get_or, take, drop, map}
use Rattle.std.proofs.Common.{◌<◌, ◌≤ℤ◌, ◌<ℤ◌, refl, sym, ap, subst, ◌∙◌, arith}
use Rattle.std.proofs.Common.{Bool, true, false, pos, int_le}
use Rattle.sdm_num.proofs.Comparisons.{le_of, not_le_of}
use denote.Param.Members.{Mut}
use denote.Ref.{Bor}
use Rattle.std.specs.Fn.{Called, ComputesKey}
use Rattle.std.specs.List.Sorted.{IsPartitionPoint, IsPartitionedBy}
use Rattle.std.proofs.lemmas.List.{drop-map, get_or-map, get_or_default, length-map}
use Rattle.std.proofs.lemmas.List.{take-map}
use Rattle.std.proofs.lemmas.List.Elements.{All-get_or}
use Rattle.std.proofs.lemmas.List.Sorted.{IsPartitionPoint-from_clause}
use Rattle.sdm_braking.specs.declared.falls_ahead.PlacedFall.{PlacedFall}
use Rattle.sdm_braking.specs.declared.falls_ahead.KeptZone.{KeptZone}
use Rattle.sdm_rules.specs.declared.targets.Fall.{Fall}
use Rattle.sdm_rules.specs.declared.targets.Target.{Target}
use Rattle.sdm_speed.specs.Falls.{AreAtFalls}
use Rattle.sdm_speed.proofs.FallLists.{falls_parted, not_past}
use Rattle.sdm_targets.specs.Lists.{target_at}
use Rattle.sdm_braking.specs.KeptFalls.{ArePartedPast, ArePlacedIn, KeptFallData, at_fall}
use Rattle.sdm_braking.specs.KeptFalls.{fall_of, kept_at, kept_in, no_zone}

-- the fall that has a place
abbrev pub placed : PlacedFall → Fall
placed e = e.fall

-- ---- lists of places and of what is kept

pub kept_part : (zones : List KeptZone) (list : List PlacedFall) (i j : ℕ) →
    kept_in zones (take j (drop i list)) ≡ take j (drop i (kept_in zones list))
kept_part zones list i j =
    sym (take-map (kept_at zones) j (drop i list)) ∙ ap (take j) (sym (drop-map (kept_at zones) i list))

pub targets_at : (zones : List KeptZone) (list : List PlacedFall) →
    map at_fall (kept_in zones list) ≡ map (λ (e : PlacedFall). target_at (placed e)) list
targets_at zones [] = refl
targets_at zones (e ∷ es) = ap (λ (ts : List Target). target_at e.fall ∷ ts) (targets_at zones es)

-- what is read at an index is what is kept there
module _ (zones : List KeptZone) (list : List PlacedFall) (ks : List KeptFallData) (i : ℕ) (e : PlacedFall)
    (same : kept_in zones list ≡ ks) (known : i < length ks) (is : e ≡ get_or list i e) where
  within : i < length list
  within = (let long = length-map list (kept_at zones) in
      let longs = ap (λ (xs : List KeptFallData). length xs) same in omega (arith, long, longs, known))

  pub read_is : (d : KeptFallData) → kept_at zones e ≡ get_or ks i d
  read_is d =
      ap (kept_at zones) is ∙ sym (get_or-map (kept_at zones) list i e d within)
      ∙ ap (λ (xs : List KeptFallData). get_or xs i d) same

  pub read_known : ArePlacedIn zones list → e.place < length zones
  read_known all = subst (λ (x : PlacedFall). x.place < length zones) (sym is)
      (All-get_or (λ (x : PlacedFall). x.place < length zones) list i e within all)

  pub target_is : ArePlacedIn zones list → (t : KeptZone) (d : KeptFallData) → t ≡ get_or zones e.place t →
      record { fall = e.fall; kept = t.kept } ≡ get_or ks i d
  target_is all t d here =
      let full : t ≡ get_or zones e.place no_zone =
      here ∙ get_or_default zones e.place t no_zone (read_known all) in
      (λ j. record { fall = e.fall; kept = (full j).kept }) ∙ read_is d

-- ---- what stands at falls

pub falls_kept : (zones : List KeptZone) (p : ℤ → ℕ) (at : ℤ) (list : List PlacedFall) →
    AreAtFalls placed p at list → AreAtFalls fall_of p at (kept_in zones list)
falls_kept zones p at [] h = h
falls_kept zones p at (e ∷ es) h = (h.0, falls_kept zones p e.fall.cell es h.1)

pub falls_placed : (zones : List KeptZone) (p : ℤ → ℕ) (at : ℤ) (list : List PlacedFall) →
    AreAtFalls fall_of p at (kept_in zones list) → AreAtFalls placed p at list
falls_placed zones p at [] h = h
falls_placed zones p at (e ∷ es) h = (h.0, falls_placed zones p e.fall.cell es h.1)

-- stands for a fall with a place that there is not
abbrev none : PlacedFall
none = record { fall = record { cell = pos 0; speed = 0 }; place = 0 }

pub kept_index : (zones : List KeptZone) (list : List PlacedFall) (i : ℕ) (e : PlacedFall) (d : KeptFallData) →
    i < length list → get_or (kept_in zones list) i d ≡ kept_at zones (get_or list i e)
kept_index zones list i e d known = get_or-map (kept_at zones) list i e d known

-- a search finds those at or before a cell, which come first
pub parted_at : {F : Type 0} {g : Mut F (Bor PlacedFall × Unit {0}) Bool} {f : F} (p : ℤ → ℕ) (after last : ℤ)
    (list : List PlacedFall) (i : ℕ) → AreAtFalls placed p after list →
    ((q : PlacedFall → Bool) → ComputesKey g q f → IsPartitionedBy q list →
    IsPartitionPoint (λ y. q y ≡ true) (λ y. q y ≡ false) list i) →
    ((a : Bor PlacedFall × Unit {0}) (r : Bool) (f' : F) → Called g f a r f' →
    (r ≡ int_le a.0.now.fall.cell last) × (f' ≡ f)) → ArePartedPast placed last list i
parted_at p after last list i h found called =
    let parts = IsPartitionPoint-from_clause (λ (e : PlacedFall). int_le e.fall.cell last) list i found
    (falls_parted placed p (λ a. int_le a last) (not_past last) after list h) called in
    record {
      reached = λ k d l m. le_of _ _ (parts.0 k d (omega arith) l);
      past = λ k d l m. not_le_of _ _ (parts.1 k d l m);
    }

pub parted_kept : (zones : List KeptZone) (last : ℤ) (list : List PlacedFall) (i : ℕ) →
    ArePartedPast placed last list i → ArePartedPast fall_of last (kept_in zones list) i
parted_kept zones last list i h =
    let long = length-map list (kept_at zones) in
    record {
      reached = λ k d l m. let known : k < length list = omega (arith, m, long) in
          subst (λ (x : KeptFallData). x.fall.cell ≤ℤ last) (sym (kept_index zones list k none d known))
          (h.reached k none l known);
      past = λ k d l m. let known : k < length list = omega (arith, m, long) in
          subst (λ (x : KeptFallData). last <ℤ x.fall.cell) (sym (kept_index zones list k none d known))
          (h.past k none l known);
    }
