-- Causes of worked situations, with the limits of the targets given: at 20 m/s, 72 km/h, under a ceiling of 160 km/h.
use Rattle.std.proofs.Common.{◌≡◌, refl, ◌*◌}
use Rattle.std.specs.Prelude.{ℕ, ℤ, pos, neg_ℤ, true, false, [], ◌∷◌, List, Option, Some, None, map, option_map}
use Rattle.sdm_num.specs.Fractions.{whole}
use Rattle.sdm_rules.specs.declared.limits.LimitKind.TheVariants.{Sbi}
use Rattle.sdm_rules.specs.declared.targets.Target.{Target}
use Rattle.sdm_rules.specs.declared.targets.TargetKind.{TargetKind}
use Rattle.sdm_rules.specs.declared.targets.TargetKind.TheVariants.{Mrsp, Loa, Eoa, Svl}
use Rattle.sdm_rules.specs.Limits.{SupervisionLimits}
use Rattle.sdm_rules.specs.Triggers.{Situation}
use Rattle.sdm_causes.specs.declared.causes.Cause.{Cause}
use Rattle.sdm_causes.specs.declared.causes.Cause.TheVariants.{Ceiling, Passed, EndOfAuthority, ReleaseSpeed}
use Rattle.sdm_causes.specs.declared.causes.Cause.TheVariants.{NoServiceBrake}
use Rattle.sdm_causes.specs.declared.causes.Standing.TheVariants.{Off, Set, Held}
use Rattle.sdm_causes.specs.declared.causes.Until.TheVariants.{PermittedSpeed, Standstill, StandstillOrPermittedSpeed}
use Rattle.sdm_causes.specs.Causes.{emer_by, emergency_until, over_by, serv_by, standing, told_first}
use Rattle.sdm_causes.specs.Causes.{told_target, warn_by}

-- a place in grains, from metres
unfoldable metres : ℕ → ℤ
metres n = pos (n * 540_000_000_000)

-- limits at so many metres: EBI, SBI, W, P and I; an EOA has no EBI
unfoldable limits_at : Option ℕ → ℕ → ℕ → ℕ → ℕ → SupervisionLimits
limits_at ebi sbi warning permitted indication = record {
  ebi = option_map (λ n. whole (metres n)) ebi;
  sbi = whole (metres sbi);
  warning = whole (metres warning);
  permitted = whole (metres permitted);
  indication = whole (metres indication);
}

-- a fall to 36 km/h at 900 m, an EOA and an SvL at 1000 m
unfoldable fall_and_stop : List Target
fall_and_stop = record { kind = Mrsp; place = metres 900; speed = 36 }
    ∷ record { kind = Eoa; place = metres 1000; speed = 0 } ∷ record { kind = Svl; place = metres 1000; speed = 0 } ∷ []

-- the fall has its EBI at 810 m and its SBI at 805 m, the EOA its SBI at 800 m, the SvL its EBI at 800 m and its SBI at
-- 790 m; W lies 40 m before the SBI, P 80 m, I 260 m
unfoldable limits : Target → SupervisionLimits
limits t = of_kind t.kind
  where
    of_kind : TargetKind → SupervisionLimits
    of_kind Mrsp = limits_at (Some 810) 805 765 725 545
    of_kind Loa = limits_at (Some 810) 805 765 725 545
    of_kind Eoa = limits_at None 800 760 720 540
    of_kind Svl = limits_at (Some 800) 790 750 710 530

-- all front ends at so many metres, with a speed in notches
unfoldable at : ℕ → ℕ → List Target → Situation
at v m targets = record {
  speed = v;
  ceiling_kmh = 160;
  est = metres m;
  front = metres m;
  targets = targets;
  past_end = false;
  release =
      None;
  in_use = true;
}

-- the first causes of over, warn, serv and emer
all_by : Situation → List (Option Cause)
all_by s = over_by limits s ∷ warn_by limits s ∷ serv_by limits s ∷ emer_by limits s ∷ []

-- a target that is told, places in m
by : TargetKind → ℕ → ℕ → ℕ → Option Cause
by kind place kmh limit = Some (Passed (record {
  kind = kind;
  place = pos (place * 1000);
  speed = kmh;
  limit = pos (limit * 1000);
}))

-- ---- targets

-- at 805 m and 72 km/h the fall comes first, where its own limit is passed: at its SBI it isn't past it, so there the EOA
-- does; the EOA has no EBI
first_of_three : all_by (at 1_080_000 805 fall_and_stop)
    ≡ by Mrsp 900 36 725 ∷ by Mrsp 900 36 765 ∷ by Eoa 1000 0 800 ∷ by Svl 1000 0 800 ∷ []
unfolding metres limits_at fall_and_stop limits at all_by by told_first
first_of_three = refl

-- at 41 km/h and 808 m it is above 36 km/h with the warning margin of 4 km/h, and not with the SBI margin of 5.5 km/h
by_its_margin : all_by (at 615_000 808 fall_and_stop)
    ≡ by Mrsp 900 36 725 ∷ by Mrsp 900 36 765 ∷ by Eoa 1000 0 800 ∷ by Svl 1000 0 800 ∷ []
unfolding metres limits_at fall_and_stop limits at all_by by told_first
by_its_margin = refl

-- at 711 m only the SvL's permitted limit is passed
only_one : all_by (at 1_080_000 711 fall_and_stop) ≡ by Svl 1000 0 710 ∷ None ∷ None ∷ None ∷ []
unfolding metres limits_at fall_and_stop limits at all_by by told_first
only_one = refl

-- at the limit it isn't past it, and a train that stands passes none
at_the_limit : all_by (at 1_080_000 710 fall_and_stop) ≡ None ∷ None ∷ None ∷ None ∷ []
unfolding metres limits_at fall_and_stop limits at all_by by told_first
at_the_limit = refl

standing_still : all_by (at 0 999 fall_and_stop) ≡ None ∷ None ∷ None ∷ None ∷ []
unfolding metres limits_at fall_and_stop limits at all_by by told_first
standing_still = refl

-- the EOA compares the estimated front end
by_the_front_end : all_by (record (at 1_080_000 999 fall_and_stop) { est = metres 0 })
    ≡ by Mrsp 900 36 725 ∷ by Mrsp 900 36 765 ∷ by Mrsp 900 36 805 ∷ by Mrsp 900 36 810 ∷ []
unfolding metres limits_at fall_and_stop limits at all_by by told_first
by_the_front_end = refl

-- ---- the ceiling, and what else is an emergency

-- at 168 km/h the ceiling of 160 km/h comes before all targets: its margins are 5, 7.75 and 11.25 km/h
ceiling_first : all_by (at 2_520_000 805 fall_and_stop)
    ≡ Some Ceiling ∷ Some Ceiling ∷ Some Ceiling ∷ by Svl 1000 0 800 ∷ []
unfolding metres limits_at fall_and_stop limits at all_by by told_first
ceiling_first = refl

-- with no service brake in use the SBI is an emergency, whatever its cause; behind an EBI it isn't the first
no_service_brake : all_by (record (at 2_520_000 0 fall_and_stop) { in_use = false })
    ≡ Some Ceiling ∷ Some Ceiling ∷ Some Ceiling ∷ Some NoServiceBrake ∷ []
unfolding metres limits_at fall_and_stop limits at all_by by told_first
no_service_brake = refl

behind_an_ebi : emer_by limits (record (at 2_520_000 805 fall_and_stop) { in_use = false }) ≡ by Svl 1000 0 800
unfolding metres limits_at fall_and_stop limits at by told_first
behind_an_ebi = refl

-- above the release speed of 20 km/h; past the EOA, which comes before it
above_the_release_speed : all_by (record (at 315_000 999 []) { release = Some 20 })
    ≡ Some ReleaseSpeed ∷ None ∷ None ∷ Some ReleaseSpeed ∷ []
unfolding metres limits_at fall_and_stop limits at all_by by told_first
above_the_release_speed = refl

past_the_end : all_by (record (at 315_000 1001 []) { release = Some 20; past_end = true })
    ≡ Some ReleaseSpeed ∷ None ∷ None ∷ Some EndOfAuthority ∷ []
unfolding metres limits_at fall_and_stop limits at all_by by told_first
past_the_end = refl

-- ---- how a command stands

-- off where it isn't commanded; else set where a cause stands, or held
standings : map (λ caused. standing true caused PermittedSpeed) (true ∷ false ∷ [])
    ≡ Set ∷ Held PermittedSpeed ∷ []
standings = refl

off : standing false true PermittedSpeed ∷ standing false false Standstill ∷ [] ≡ Off ∷ Off ∷ []
off = refl

-- the emergency command is released at standstill, and by the permitted speed where early release is permitted
until : map emergency_until (false ∷ true ∷ []) ≡ Standstill ∷ StandstillOrPermittedSpeed ∷ []
until = refl

-- ---- what is told of a target

-- half a millimetre before a place is told as the whole one below, also before the origin
rounded_down : map (λ x. (told_target Sbi (record (limits_at None 0 0 0 0) { sbi = whole x })
    (record { kind = Eoa; place = metres 1; speed = 0 })).limit) (pos 269_999_999 ∷ neg_ℤ (pos 1) ∷ [])
    ≡ pos 0 ∷ neg_ℤ (pos 1) ∷ []
unfolding metres limits_at
rounded_down = refl
