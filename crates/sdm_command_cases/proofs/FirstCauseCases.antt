-- Of causes that stand at once the first is told, and each front end by itself: under a ceiling of 160 km/h.
use Rattle.std.proofs.Common.{◌≡◌, refl, ◌*◌}
use Rattle.std.specs.Prelude.{ℕ, ℤ, pos, Bool, true, false, [], ◌∷◌, List, Option, Some, None}
use Rattle.sdm_num.specs.Fractions.{whole}
use Rattle.sdm_rules.specs.declared.targets.Target.{Target}
use Rattle.sdm_rules.specs.declared.targets.TargetKind.{TargetKind}
use Rattle.sdm_rules.specs.declared.targets.TargetKind.TheVariants.{Mrsp, Loa, Eoa, Svl}
use Rattle.sdm_rules.specs.Limits.{SupervisionLimits}
use Rattle.sdm_rules.specs.Triggers.{Situation}
use Rattle.sdm_causes.specs.declared.causes.Cause.{Cause}
use Rattle.sdm_causes.specs.declared.causes.Cause.TheVariants.{Ceiling, Passed, EndOfAuthority, ReleaseSpeed}
use Rattle.sdm_causes.specs.declared.causes.Cause.TheVariants.{NoServiceBrake}
use Rattle.sdm_causes.specs.Causes.{emer_by, over_by, serv_by, told_first, warn_by}

-- a place in grains, from metres
unfoldable metres : ℕ → ℤ
metres n = pos (n * 540_000_000_000)

-- every limit of every target lies at 500 m, but an EOA has no EBI
unfoldable limits : Target → SupervisionLimits
limits t = of_kind t.kind
  where
    all_at_500 : SupervisionLimits
    all_at_500 = record {
      ebi = Some (whole (metres 500));
      sbi = whole (metres 500);
      warning = whole (metres 500);
      permitted = whole (metres 500);
      indication = whole (metres 500);
    }

    of_kind : TargetKind → SupervisionLimits
    of_kind Mrsp = all_at_500
    of_kind Loa = all_at_500
    of_kind Eoa = record all_at_500 { ebi = None }
    of_kind Svl = all_at_500

-- a speed in notches, no target, and what else there may be of causes
unfoldable going : ℕ → Bool → Option ℕ → Bool → Situation
going v past_end release in_use = record {
  speed = v;
  ceiling_kmh = 160;
  est = metres 0;
  front = metres 0;
  targets = [];
  past_end = past_end;
  release = release;
  in_use = in_use;
}

-- the first causes of over and emer
unfoldable over_and_emer : Situation → List (Option Cause)
over_and_emer s = over_by limits s ∷ emer_by limits s ∷ []

-- ---- causes at once

-- at 172 km/h every limit of the ceiling is passed, and it comes before all others
above_every_limit : over_and_emer (going 2_580_000 true (Some 20) false) ≡ Some Ceiling ∷ Some Ceiling ∷ []
unfolding metres limits going over_and_emer told_first
above_every_limit = refl

-- at 168 km/h its SBI is, and its EBI isn't: of what else is an emergency the end of the authority comes first
end_first : over_and_emer (going 2_520_000 true (Some 20) false) ≡ Some Ceiling ∷ Some EndOfAuthority ∷ []
unfolding metres limits going over_and_emer told_first
end_first = refl

-- then the release speed
release_next : over_and_emer (going 2_520_000 false (Some 20) false) ≡ Some Ceiling ∷ Some ReleaseSpeed ∷ []
unfolding metres limits going over_and_emer told_first
release_next = refl

-- and last that no service brake is in use, which alone is no cause at 72 km/h
brake_last : over_and_emer (going 2_520_000 false None false) ≡ Some Ceiling ∷ Some NoServiceBrake ∷ []
unfolding metres limits going over_and_emer told_first
brake_last = refl

no_sbi_passed : over_and_emer (going 1_080_000 false None false) ≡ None ∷ None ∷ []
unfolding metres limits going over_and_emer told_first
no_sbi_passed = refl

-- with it in use a passed SBI is no emergency
in_use : over_and_emer (going 2_520_000 false None true) ≡ Some Ceiling ∷ None ∷ []
unfolding metres limits going over_and_emer told_first
in_use = refl

-- ---- front ends

-- one target at 600 m at 72 km/h, with the estimated and the max safe front end
unfoldable before_one : TargetKind → ℕ → ℕ → Situation
before_one kind est front = record (going 1_080_000 false None true) {
  est = metres est;
  front = metres front;
  targets = record { kind = kind; place = metres 600; speed = 0 } ∷ [];
}

-- all first causes
unfoldable all_by : Situation → List (Option Cause)
all_by s = over_by limits s ∷ warn_by limits s ∷ serv_by limits s ∷ emer_by limits s ∷ []

-- the target, by its limit at 500 m
unfoldable by : TargetKind → Option Cause
by kind = Some (Passed (record { kind = kind; place = pos 600_000; speed = 0; limit = pos 500_000 }))

-- with the estimated front end before the limits and the max safe one past them an EOA isn't passed, and an SvL is
eoa_by_estimated : all_by (before_one Eoa 499 501) ≡ None ∷ None ∷ None ∷ None ∷ []
unfolding metres limits going before_one all_by told_first
eoa_by_estimated = refl

svl_by_max_safe : all_by (before_one Svl 499 501) ≡ by Svl ∷ by Svl ∷ by Svl ∷ by Svl ∷ []
unfolding metres limits going before_one all_by by told_first
svl_by_max_safe = refl

-- with both past them the EOA is, which has no EBI
eoa_passed : all_by (before_one Eoa 501 501) ≡ by Eoa ∷ by Eoa ∷ by Eoa ∷ None ∷ []
unfolding metres limits going before_one all_by by told_first
eoa_passed = refl
