-- Targets that are enough say what all say: by kind of limit, a slow fall is stood in for by the one before it by its
-- EBD or by its guidance curve, and every other target by itself, or it says nothing.
use Rattle.std.proofs.Common.{◌≡◌, ◌⊎◌, inl, inr, ℕ, ℤ, true, false, ◌+◌, ◌<◌, ◌≤◌, List}
use Rattle.std.proofs.Common.{Bool, refl, sym, ap, ◌∙◌, arith}
use Rattle.std.proofs.lemmas.Bool.{false≢true}
use Rattle.std.specs.Prelude.{Any}
use Rattle.sdm_num.specs.Readings.{Estimate}
use Rattle.sdm_num.specs.Units.{notches}
use Rattle.sdm_rules.specs.declared.limits.LimitKind.{LimitKind}
use Rattle.sdm_rules.specs.declared.limits.LimitKind.TheVariants.{Ebi, Sbi, Warning, Permitted, Indication}
use Rattle.sdm_rules.specs.declared.targets.Target.{Target}
use Rattle.sdm_rules.specs.declared.targets.TargetKind.{TargetKind}
use Rattle.sdm_rules.specs.declared.targets.TargetKind.TheVariants.{Mrsp}
use Rattle.sdm_rules.specs.Data.{TrainAndTrack}
use Rattle.sdm_rules.specs.Limits.{SupervisionLimits, computed, limit_in, limits_of}
use Rattle.sdm_rules.specs.Margins.{margin_of, no_margin}
use Rattle.sdm_rules.specs.Targets.{at_speed_target, foot_speed_of, target_speed, with_margin}
use Rattle.sdm_rules.specs.Triggers.{Situation, front_for}
use Rattle.sdm_order.specs.AskedTargets.{IsNoLater, IsShownFor, StandsIn}
use Rattle.sdm_order.proofs.Limits.{limit_order}
use Rattle.sdm_order.specs.EnoughTargets.{IsBrakedBefore, IsGuidedBefore, IsSlowStoodFor}

-- ---- margins of falls

-- no margin is more than that of the EBI
margin_most : (kind : LimitKind) (kmh : ℕ) → margin_of kind kmh ≤ margin_of Ebi kmh
margin_most Ebi kmh = omega arith
margin_most Sbi kmh = omega arith
margin_most Warning kmh = omega arith
margin_most Permitted kmh = omega arith
margin_most Indication kmh = omega arith

-- of a greater speed the speed with a margin is no less
margin_rises : (kind : LimitKind) (a b : ℕ) → notches a ≤ notches b →
    notches a + margin_of kind a ≤ notches b + margin_of kind b
margin_rises Ebi a b le = omega (arith, le)
margin_rises Sbi a b le = omega (arith, le)
margin_rises Warning a b le = omega (arith, le)
margin_rises Permitted a b le = omega (arith, le)
margin_rises Indication a b le = omega (arith, le)

-- at a fall each of its speeds counts
pub at_fall : (t : Target) (n : ℕ) → t.kind ≡ Mrsp → at_speed_target t.kind n ≡ n
at_fall t n is = ap (λ (kind : TargetKind). at_speed_target kind n) is

module _ (t r : Target) (t_is : t.kind ≡ Mrsp) (r_is : r.kind ≡ Mrsp) where
  -- a fall that is no faster is so with the margin
  pub no_faster_with : (kind : LimitKind) → target_speed r ≤ target_speed t →
      with_margin (margin_of kind) r ≤ with_margin (margin_of kind) t
  no_faster_with kind slower =
      let own = at_fall r (notches r.speed) r_is in
      let other = at_fall t (notches t.speed) t_is in
      let rises = margin_rises kind r.speed t.speed (omega (arith, slower, own, other)) in
      let here = at_fall r (notches r.speed + margin_of kind r.speed) r_is in
      let there = at_fall t (notches t.speed + margin_of kind t.speed) t_is in
      omega (arith, rises, here, there)

  -- what counts at every margin, or is no faster, is passed by its speed where the other one is
  counts_too : (kind : LimitKind) (v : ℕ) → (foot_speed_of r < v) ⊎ (target_speed r ≤ target_speed t) →
      with_margin (margin_of kind) t < v → with_margin (margin_of kind) r < v
  counts_too kind v (inl slow) above =
      let most = margin_most kind r.speed in
      let foot = at_fall r (notches r.speed + margin_of Ebi r.speed) r_is in
      let here = at_fall r (notches r.speed + margin_of kind r.speed) r_is in
      omega (arith, slow, most, foot, here)
  counts_too kind v (inr slower) above = let rises = no_faster_with kind slower in omega (arith, above, rises)

  -- with no margin a target speed that counts is enough
  counts_bare : (kind : LimitKind) (v : ℕ) → margin_of kind ≡ no_margin →
      (target_speed r < v) ⊎ (target_speed r ≤ target_speed t) → with_margin (margin_of kind) t < v →
      with_margin (margin_of kind) r < v
  counts_bare kind v none counts above =
      let bare : (u : Target) → u.kind ≡ Mrsp → with_margin (margin_of kind) u ≡ target_speed u =
      λ u is. ap (λ (m : ℕ → ℕ). with_margin m u) none
      ∙ ap (at_speed_target u.kind) (omega arith) in
      rw (bare r r_is) (elim counts [
        | inl slow ↦ slow
        | inr slower ↦ (let there = bare t t_is in omega (arith, slower, there, above))
      ])

-- ---- a slow fall that is stood for

module _ (d : TrainAndTrack) (e : Estimate) (asked : List Target) (t : Target) (h : IsSlowStoodFor d e asked t) where
  -- the limits of targets
  abbrev limits : Target → SupervisionLimits
  limits = limits_of computed d e

  -- one that was asked has no later limit of a kind: the one by its EBD, or for a kind with no margin the one by its
  -- guidance curve. Where guidance isn't permitted the first stands for the second, which is not read then.
  by_kind : (kind : LimitKind) (P : Target → Type 0) →
      ((r : Target) → IsBrakedBefore d e t r → IsNoLater (limit_in kind (limits r)) (limit_in kind (limits t)) → P r) →
      ((q : Target) → margin_of kind ≡ no_margin → IsGuidedBefore d e t q →
      IsNoLater (limit_in kind (limits q)) (limit_in kind (limits t)) → P q) → Any P asked
  by_kind kind P by_brake by_guide = by_guidance d.national.guidance refl
    where
      by_guidance : (b : Bool) → d.national.guidance ≡ b → Any P asked
      by_guidance false off =
          let r = h.brakes in
          elim (limit_order kind d e t r.1 r.1 h.slow r.4.slow r.4.slow r.4.no_later
          (λ on. absurd (false≢true (sym off ∙ on)))) [
            | inl no_later ↦ (r.0, r.1, r.2, r.3, by_brake r.1 r.4 no_later)
            | inr bare ↦ (r.0, r.1, r.2, r.3, by_brake r.1 r.4 bare.1)
          ]
      by_guidance true on =
          let r = h.brakes in
          let q = h.guides on in
          elim (limit_order kind d e t r.1 q.1 h.slow r.4.slow q.4.slow r.4.no_later (λ is. q.4.no_later)) [
            | inl no_later ↦ (r.0, r.1, r.2, r.3, by_brake r.1 r.4 no_later)
            | inr bare ↦ (q.0, q.1, q.2, q.3, by_guide q.1 bare.0 q.4 bare.1)
          ]

  -- the same front end is compared by each fall
  same_front : (est max : ℤ) (r : Target) → r.kind ≡ Mrsp → front_for est max r.kind ≡ front_for est max t.kind
  same_front est max r is = ap (front_for est max) (is ∙ sym h.slow.kind)

  -- by its limit of a kind it is stood in for
  pub slow_stands_in : (kind : LimitKind) (s : Situation) → s.speed ≡ e.speed →
      Any (StandsIn kind limits s t) asked
  slow_stands_in kind s same =
      by_kind kind (StandsIn kind limits s t)
      (λ r is no_later. record {
        front = same_front s.est s.front r is.slow.kind;
        above = λ above. rw same (counts_too t r h.slow.kind is.slow.kind kind e.speed is.counts (rw same at above));
        no_later = no_later;
      })
      (λ q none is no_later. record {
        front = same_front s.est s.front q is.slow.kind;
        above = λ above. rw same (counts_bare t q h.slow.kind is.slow.kind kind e.speed none is.counts (rw same at above));
        no_later = no_later;
      })

  -- and for a printed limit of a kind
  pub slow_is_shown : (kind : LimitKind) → Any (IsShownFor e.speed (λ u. limit_in kind (limits u)) t) asked
  slow_is_shown kind =
      by_kind kind (IsShownFor e.speed (λ u. limit_in kind (limits u)) t)
      (λ r is no_later. record { slow = is.slow.slow; no_later = no_later })
      (λ q none is no_later. record { slow = is.slow.slow; no_later = no_later })

  -- one that was asked stands for its EBI
  pub stood_for_ebi : Any (λ r. IsBrakedBefore d e t r × IsNoLater (limits r).ebi (limits t).ebi) asked
  stood_for_ebi =
      by_kind Ebi (λ r. IsBrakedBefore d e t r × IsNoLater (limits r).ebi (limits t).ebi) (λ r is no_later. (is, no_later))
      (λ q none is no_later. absurd (has_margin none))
    where
      has_margin : margin_of Ebi ≡ no_margin → ⊥
      has_margin none = let at_0 = ap (λ (m : ℕ → ℕ). m 0) none in omega (arith, at_0)
