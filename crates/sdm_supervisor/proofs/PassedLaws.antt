-- One more target behind the others. A target above the train's speed only says whether it is covered, since no margin
-- makes its speed lower; and one whose indication limit is not passed says nothing, since that is the first of its
-- limits.
use Rattle.std.proofs.Common.{◌≡◌, ℕ, ℤ, ◌<ℤ◌, Bool, true, false, not, ◌||◌, ◌&&◌, nat_lt, List}
use Rattle.std.proofs.Common.{[], ◌∷◌, ◌++◌, ◌+◌, ◌≤◌, ◌<◌, Option, Some, None, refl, ap, subst, sym, ◌∙◌, arith}
use Rattle.std.proofs.Common.{is_lt, nat_cmp}
use Rattle.std.specs.Prelude.{IsTrue, ◌↔◌}
use Rattle.std.specs.List.{list_all, list_any}
use Rattle.std.specs.Option.{option_map_or}
use Rattle.std.proofs.lemmas.Bool.{le-ltb}
use Rattle.std.proofs.lemmas.List.Folds.{list_all-append, list_any-append}
use Rattle.std.proofs.Math.Bool.{and-false, and-true, or-false}
use Rattle.sdm_num.specs.Bounds.{Bound}
use Rattle.sdm_num.specs.Fractions.{Fraction}
use Rattle.sdm_num.specs.Units.{notches}
use Rattle.sdm_num.specs.Readings.{Estimate}
use Rattle.sdm_rules.specs.declared.commands.Triggers.{Triggers}
use Rattle.sdm_rules.specs.declared.limits.LimitKind.{LimitKind}
use Rattle.sdm_rules.specs.declared.limits.LimitKind.TheVariants.{Ebi, Sbi, Warning, Permitted, Indication}
use Rattle.sdm_rules.specs.declared.targets.Target.{Target}
use Rattle.sdm_rules.specs.declared.targets.TargetKind.{TargetKind}
use Rattle.sdm_rules.specs.declared.targets.TargetKind.TheVariants.{Mrsp, Loa, Eoa, Svl}
use Rattle.sdm_rules.specs.Data.{TrainAndTrack}
use Rattle.sdm_rules.specs.Limits.{SupervisionLimits, computed, limit_in, limits_of, limits_of_kind, v_bec_for}
use Rattle.sdm_rules.specs.Margins.{margin_of}
use Rattle.sdm_rules.specs.Reaction.{reaction_times}
use Rattle.sdm_rules.specs.Supervision.{is_covered_for, is_met_by_speed}
use Rattle.sdm_rules.specs.Targets.{at_speed_target, foot_speed_of, target_speed, with_margin}
use Rattle.sdm_rules.specs.Triggers.{front_for, is_past, passes}
use Rattle.sdm_limits.specs.declared.limits.Limits.{Limits}
use Rattle.sdm_limits.specs.Sides.{place_where, places_of}
use Rattle.sdm_braking.specs.declared.speeds.SpeedLimits.{SpeedLimits}
use Rattle.sdm_limits.proofs.Passed.{past_of}
use Rattle.sdm_braking.specs.KeptCurves.{AreSpeedsOf}
use Rattle.sdm_supervisor.specs.declared.nearest.Nearest.{Nearest}
use Rattle.sdm_supervisor.specs.declared.verdicts.Verdict.{Verdict}
use Rattle.sdm_supervisor.specs.Verdicts.{AreNearest, IsNearer, IsSaid, said_of}
use Rattle.sdm_supervisor.proofs.LimitOrder.{IsPastNone, past_none}
use Rattle.sdm_supervisor.proofs.NearestLaws.{nearest_with, nearest_without}
use Rattle.sdm_supervisor.proofs.VerdictLaws.{above}

-- ---- one more of a list

module _ (p : Target → Bool) (ts : List Target) (t : Target) (a : Bool) where
  -- whether some target passes, with one more
  pub any_more : a ≡ list_any p ts → (b : Bool) → b ≡ p t → (a || b) ≡ list_any p (ts ++ t ∷ [])
  any_more so_far b is = (λ k. so_far k || (is ∙ sym (or-false (p t))) k) ∙ sym (list_any-append p ts (t ∷ []))

  -- one that fails changes nothing
  pub any_unless : a ≡ list_any p ts → p t ≡ false → a ≡ list_any p (ts ++ t ∷ [])
  any_unless so_far none = sym (or-false a) ∙ any_more so_far false (sym none)

  -- whether all targets pass, with one more
  pub all_more : a ≡ list_all p ts → (b : Bool) → b ≡ p t → (a && b) ≡ list_all p (ts ++ t ∷ [])
  all_more so_far b is = (λ k. so_far k && (is ∙ sym (and-true (p t))) k) ∙ sym (list_all-append p ts (t ∷ []))

  -- one that passes changes nothing
  all_where : a ≡ list_all p ts → p t ≡ true → a ≡ list_all p (ts ++ t ∷ [])
  all_where so_far is = sym (and-true a) ∙ all_more so_far true (sym is)

-- ---- what is left unsaid

-- no margin makes a target's speed lower
pub at_least : (kind : TargetKind) (speed margin : ℕ) →
    at_speed_target kind speed ≤ at_speed_target kind (speed + margin)
at_least Mrsp speed margin = omega arith
at_least Loa speed margin = omega arith
at_least Eoa speed margin = omega arith
at_least Svl speed margin = omega arith

module _ (v : ℕ) (est max : ℤ) (t : Target) (kind : LimitKind) (l : SupervisionLimits) where
  -- up to the target's speed with the margin of a limit it isn't passed
  pub not_above : v ≤ with_margin (margin_of kind) t → passes kind v est max 0 t l ≡ false
  not_above within = rw (le-ltb (with_margin (margin_of kind) t) v within)

  -- so no limit of a target above the train's speed is passed
  pub not_passed : v < target_speed t → passes kind v est max 0 t l ≡ false
  not_passed slower = not_above (omega (arith, at_least t.kind (notches t.speed) (margin_of kind t.speed)))

  -- nor is one that the front end is not past
  not_reached : option_map_or (is_past 0 (front_for est max t.kind)) (limit_in kind l) false ≡ false →
      passes kind v est max 0 t l ≡ false
  not_reached ahead = rw ahead (and-false (nat_lt (with_margin (margin_of kind) t) v))

  -- nor is one that the target doesn't have
  pub not_there : limit_in kind l ≡ None → passes kind v est max 0 t l ≡ false
  not_there none =
      not_reached (ap (λ x. option_map_or (is_past 0 (front_for est max t.kind)) x false) none)

  -- one that it has is passed above the speed where the front end is past it
  pub passes_there : (x : Fraction) → limit_in kind l ≡ Some x →
      passes kind v est max 0 t l
      ≡ (nat_lt (with_margin (margin_of kind) t) v && is_past 0 (front_for est max t.kind) x)
  passes_there x is =
      ap (λ y. nat_lt (with_margin (margin_of kind) t) v
      && option_map_or (is_past 0 (front_for est max t.kind)) y false) is

module _ (d : TrainAndTrack) (max : ℤ) (e : Estimate) (t : Target) where
  -- whether a target with this EBI is covered
  abbrev by_ebi : Option Fraction → Bool
  by_ebi ebi =
      option_map_or (λ x. not (is_past 0 max x) || is_met_by_speed t.kind (v_bec_for d e t) (foot_speed_of t)) ebi true

  -- a target is covered where the front end isn't past its EBI, or the target is met by speed
  pub covered_at : {ebi : Option Bound} {found : Bound} {front : ℤ} {passed met : Bool} →
      place_where ebi ≡ (limits_of computed d e t).ebi → ebi ≡ Some found → (IsTrue passed ↔ (found.at <ℤ front)) →
      front ≡ max → met ≡ is_met_by_speed t.kind (v_bec_for d e t) (foot_speed_of t) →
      (not passed || met) ≡ is_covered_for d max e t
  covered_at is some tells at_max met =
      (λ k. not (past_of tells at_max refl k) || met k) ∙ ap by_ebi (sym (ap place_where some) ∙ is)

  -- one without EBI is covered
  pub covered_without : {ebi : Option Bound} → place_where ebi ≡ (limits_of computed d e t).ebi → ebi ≡ None →
      true ≡ is_covered_for d max e t
  covered_without is none = ap by_ebi (sym (ap place_where none) ∙ is)

-- a target that isn't met by speed is covered where the front end is at or before its EBI, if it has one
pub covered_unmet : (max : ℤ) (met : Bool) (ebi : Option Fraction) → false ≡ met →
    option_map_or (λ e. not (is_past 0 max e)) ebi true ≡ option_map_or (λ e. not (is_past 0 max e) || met) ebi true
covered_unmet max met None is = refl
covered_unmet max met (Some e) is = sym (or-false (not (is_past 0 max e))) ∙ (λ k. not (is_past 0 max e) || is k)

-- a target whose EBI is not passed is covered; the EOA has none
covered_yet : (d : TrainAndTrack) (e : Estimate) (est max : ℤ) (t : Target) (kind : TargetKind) (met : Bool) →
    IsPastNone (front_for est max kind) (limits_of_kind computed d e t kind) →
    option_map_or (λ ebi. not (is_past 0 max ebi) || met) (limits_of_kind computed d e t kind).ebi true ≡ true
covered_yet d e est max t Mrsp met none = rw (none.each Ebi) refl
covered_yet d e est max t Loa met none = rw (none.each Ebi) refl
covered_yet d e est max t Eoa met none = refl
covered_yet d e est max t Svl met none = rw (none.each Ebi) refl

module _ {d : TrainAndTrack} {e : Estimate} {est max : ℤ} {ts : List Target} {t : Target} {p : Verdict}
    (is : IsSaid d e est max ts p) {s : SpeedLimits} (speeds : AreSpeedsOf t s) where
  -- a target above the train's speed only says whether it is covered
  pub slower_said : e.speed < target_speed t → {covered : Bool} → covered ≡ (p.covered && is_covered_for d max e t) →
      IsSaid d e est max (ts ++ t ∷ []) (record p { covered = covered })
  slower_said slower covered =
      record {
        passed = record {
          each = λ kind. any_unless _ ts t _ (is.passed.each kind)
              (not_passed e.speed est max t kind (limits_of computed d e t) slower);
          covered = covered ∙ all_more (is_covered_for d max e) ts t _ is.passed.covered _ refl;
        };
        nearest = nearest_without _ e.speed (limits_of computed d e) ts t p.nearest slower is.nearest;
      }

  module _ (within : s.permitted ≤ e.speed) {l : Limits} (places : places_of l ≡ limits_of computed d e t)
      {new : Nearest} (nearer : IsNearer p.nearest l new) {front : ℤ} (front_is : front ≡ front_for est max t.kind)
      {past : Bool} (tells : IsTrue past ↔ (l.indication.at <ℤ front)) where
    -- the nearest limits, with those of the target
    near : AreNearest (reaction_times d) e.speed (limits_of computed d e) (ts ++ t ∷ []) (Some new)
    near = nearest_with d e ts t l p.nearest new (subst (λ (n : ℕ). n ≤ e.speed) speeds.permitted within) places nearer
        is.nearest

    -- up to its indication limit a target says nothing
    pub nothing_said : past ≡ false → IsSaid d e est max (ts ++ t ∷ []) (record p { nearest = Some new })
    unfolding limits_of
    nothing_said not_past =
        let ahead = sym (past_of tells front_is (λ k. (places k).indication)) ∙ not_past in
        let none = past_none d e t (front_for est max t.kind) ahead in
        record {
          passed = record {
            each = λ kind. any_unless _ ts t _ (is.passed.each kind)
                (not_reached e.speed est max t kind (limits_of computed d e t) (none.each kind));
            covered = all_where (is_covered_for d max e) ts t _ is.passed.covered
                (covered_yet d e est max t t.kind (is_met_by_speed t.kind (v_bec_for d e t) (foot_speed_of t)) none);
          };
          nearest = near;
        }

    -- past it the target says of each limit whether it is passed, by tests of the speed and of the place
    pub reached_said : past ≡ true → {v : ℕ} → v ≡ e.speed →
        {over warn serv indicated po pw ps emer covered : Bool} →
        over ≡ is_lt (nat_cmp s.permitted v) → (IsTrue po ↔ (l.permitted.at <ℤ front)) →
        warn ≡ is_lt (nat_cmp s.warning v) → (IsTrue pw ↔ (l.warning.at <ℤ front)) →
        serv ≡ is_lt (nat_cmp s.sbi v) → (IsTrue ps ↔ (l.sbi.at <ℤ front)) →
        indicated ≡ is_lt (nat_cmp s.permitted v) →
        emer ≡ (p.triggers.emer || passes Ebi e.speed est max 0 t (limits_of computed d e t)) →
        covered ≡ (p.covered && is_covered_for d max e t) →
        IsSaid d e est max (ts ++ t ∷ []) (record {
          triggers = record {
            over = p.triggers.over || (over && po);
            warn = p.triggers.warn || (warn && pw);
            serv = p.triggers.serv || (serv && ps);
            emer = emer;
          };
          indicated = p.indicated || indicated;
          covered = covered;
          nearest = Some new;
        })
    reached_said is_past {v} v_is {over} {warn} {serv} {indicated} {po} {pw} {ps} {emer} {covered} over_is po_is warn_is
        pw_is serv_is ps_is indicated_is emer_is covered_is =
        let permitted = speeds.permitted ∙ ap (at_speed_target t.kind) (omega arith) in
        let reached = sym is_past ∙ past_of tells front_is (λ k. (places k).indication) in
        let triggers : Triggers = record {
          over = p.triggers.over || (over && po);
          warn = p.triggers.warn || (warn && pw);
          serv = p.triggers.serv || (serv && ps);
          emer = emer;
        } in
        record {
          passed = record {
            each = λ kind.
                elim kind as (λ kind. said_of kind triggers (p.indicated || indicated)
                ≡ list_any (λ u. passes kind e.speed est max 0 u (limits_of computed d e u)) (ts ++ t ∷ [])) [
                  | Ebi ↦ emer_is ∙ any_more _ ts t _ (is.passed.each Ebi) _ refl
                  | Sbi ↦
                      any_more _ ts t _ (is.passed.each Sbi) _ (λ k. above serv_is speeds.sbi v_is k
                      && past_of ps_is front_is (λ i. (places i).sbi) k)
                  | Warning ↦
                      any_more _ ts t _ (is.passed.each Warning) _ (λ k. above warn_is speeds.warning v_is k
                      && past_of pw_is front_is (λ i. (places i).warning) k)
                  | Permitted ↦
                      any_more _ ts t _ (is.passed.each Permitted) _ (λ k. above over_is permitted v_is k
                      && past_of po_is front_is (λ i. (places i).permitted) k)
                  | Indication ↦
                      any_more _ ts t _ (is.passed.each Indication) _
                      (sym (and-true _) ∙ (λ k. above indicated_is permitted v_is k && reached k))
                ];
            covered = covered_is ∙ all_more (is_covered_for d max e) ts t _ is.passed.covered _ refl;
          };
          nearest = near;
        }
