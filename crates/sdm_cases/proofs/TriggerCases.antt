-- Triggers and commands of worked examples, with the limits of the targets given.
use Rattle.std.proofs.Common.{◌≡◌, refl, ◌*◌}
use Rattle.std.specs.Prelude.{ℕ, ℤ, pos, true, false, [], ◌∷◌, Some, None}
use Rattle.sdm_rules.specs.declared.commands.Triggers.{Triggers}
use Rattle.sdm_rules.specs.declared.commands.Held.{Held}
use Rattle.sdm_rules.specs.declared.commands.State.TheVariants.{C, T}
use Rattle.sdm_rules.specs.declared.commands.Status.TheVariants.{N, I, O, W, X}
use Rattle.sdm_rules.specs.declared.targets.TargetKind.{TargetKind}
use Rattle.sdm_rules.specs.declared.targets.TargetKind.TheVariants.{Eoa, Svl}
use Rattle.sdm_rules.specs.Triggers.{Situation, triggers_of}
use Rattle.sdm_rules.specs.Commands.{commands_after, emergency_after, nothing_held}
use Rattle.sdm_cases.proofs.LimitCases.{metres, limits_at}

-- at 20 m/s one target at 1000 m, whose limits are at 800, 800, 760, 720 and 540 m, with estimated and max safe front
-- end
one_target : TargetKind → ℤ → ℤ → Triggers
one_target kind est front =
    triggers_of (λ t. limits_at (metres 800) (metres 800) (metres 760) (metres 720) (metres 540)) 0
    (record {
      speed = 1_080_000;
      ceiling_kmh = 160;
      est = est;
      front = front;
      targets =
          record { kind = kind; place = metres 1000; speed = 0 } ∷ [];
      past_end = false;
      release = None;
      in_use = true;
    })

-- at the limit is not past it
at_the_limit : one_target Svl (metres 800) (metres 800) ≡ record {
  over = true;
  warn = true;
  serv = false;
  emer = false;
}
unfolding metres limits_at one_target triggers_of
at_the_limit = refl

-- a centimetre further is
past_the_limit : one_target Svl (pos (80_001 * 5_400_000_000)) (pos (80_001 * 5_400_000_000)) ≡ record {
  over = true;
  warn = true;
  serv = true;
  emer = true;
}
unfolding metres limits_at one_target triggers_of
past_the_limit = refl

-- the SvL compares the max safe front end, the EOA the estimated one
svl_compares_the_max_safe_front_end : one_target Svl (metres 700) (metres 801) ≡ record {
  over = true;
  warn = true;
  serv = true;
  emer = true;
}
unfolding metres limits_at one_target triggers_of
svl_compares_the_max_safe_front_end = refl

eoa_compares_the_estimated_front_end : one_target Eoa (metres 700) (metres 801) ≡ record {
  over = false;
  warn = false;
  serv = false;
  emer = false;
}
unfolding metres limits_at one_target triggers_of
eoa_compares_the_estimated_front_end = refl

-- there all is commanded
intervention : commands_after nothing_held (one_target Svl (pos (80_001 * 5_400_000_000))
    (pos (80_001 * 5_400_000_000))) T false false true ≡ record { tco = true; sb = true; eb = true; status = X }
unfolding metres limits_at one_target triggers_of commands_after emergency_after
intervention = refl

-- ---- what is held

no_trigger : Triggers
no_trigger = record { over = false; warn = false; serv = false; emer = false }

all_held : Held
all_held = record { tco = true; sb = true; eb = true; status = X }

-- within the permitted speed and still moving the emergency command is held
held_while_moving : commands_after all_held no_trigger T false false true ≡ record {
  tco = false;
  sb = false;
  eb = true;
  status = X;
}
unfolding commands_after emergency_after no_trigger all_held
held_while_moving = refl

-- with early release it is not
early_release : commands_after all_held no_trigger T false true true ≡ record {
  tco = false;
  sb = false;
  eb = false;
  status = I;
}
unfolding commands_after emergency_after no_trigger all_held
early_release = refl

-- but past the permitted speed it is
no_early_release_while_over : commands_after all_held (record no_trigger { over = true }) T false true true ≡ all_held
unfolding commands_after emergency_after no_trigger all_held
no_early_release_while_over = refl

-- at standstill it is released
released_at_standstill : commands_after all_held no_trigger C true false true ≡ record {
  tco = false;
  sb = false;
  eb = false;
  status = N;
}
unfolding commands_after emergency_after no_trigger all_held
released_at_standstill = refl

-- after a warning the status stays so until the speed is within the permitted one
warning_stays_while_over : commands_after (record nothing_held { status = W })
    (record no_trigger { over = true }) T false false true ≡ record { tco = false; sb = false; eb = false; status = W }
unfolding commands_after emergency_after no_trigger
warning_stays_while_over = refl

-- over the permitted speed with no warning before
overspeed : commands_after nothing_held (record no_trigger { over = true }) T false false true ≡ record {
  tco = false;
  sb = false;
  eb = false;
  status = O;
}
unfolding commands_after emergency_after no_trigger
overspeed = refl

-- ---- other emergencies

-- no target, and nothing else that triggers
no_target : Situation
no_target = record {
  speed = 0;
  ceiling_kmh = 160;
  est = metres 1001;
  front = metres 1001;
  targets = [];
  past_end = false;
  release =
      None;
  in_use = true;
}

-- past the EOA, also at standstill
past_the_eoa : triggers_of (λ t. limits_at (metres 0) (metres 0) (metres 0) (metres 0) (metres 0)) 0
    (record no_target { past_end = true }) ≡ record { over = false; warn = false; serv = false; emer = true }
unfolding metres limits_at triggers_of no_target
past_the_eoa = refl

-- 5.001 m/s are above a release speed of 18 km/h, 5 m/s are not
above_the_release_speed : triggers_of (λ t. limits_at (metres 0) (metres 0) (metres 0) (metres 0) (metres 0)) 0
    (record no_target { speed = 270_054; release = Some 18 }) ≡ record {
      over = true;
      warn = false;
      serv = false;
      emer = true;
    }
unfolding metres limits_at triggers_of no_target
above_the_release_speed = refl

at_the_release_speed : triggers_of (λ t. limits_at (metres 0) (metres 0) (metres 0) (metres 0) (metres 0)) 0
    (record no_target { speed = 270_000; release = Some 18 }) ≡ no_trigger
unfolding metres limits_at triggers_of no_target no_trigger
at_the_release_speed = refl

-- past an SBI alone, with no service brake in use
no_service_brake : triggers_of (λ t. record (limits_at (metres 900) (metres 800) (metres 760) (metres 720)
    (metres 540)) { ebi = None }) 0 (record {
      speed = 1_080_000;
      ceiling_kmh = 160;
      est = metres 805;
      front =
          metres 805;
      targets = record {
        kind = Eoa;
        place = metres 1000;
        speed = 0;
      } ∷ [];
      past_end = false;
      release = None;
      in_use = false;
    })
    ≡ record { over = true; warn = true; serv = true; emer = true }
unfolding metres limits_at triggers_of
no_service_brake = refl

-- above the ceiling of 160 km/h with its margins of 5, 7.75 and 11.25 km/h
over_the_ceiling : (λ (v : ℕ). triggers_of (λ t. limits_at (metres 0) (metres 0) (metres 0) (metres 0) (metres 0)) 0
    (record no_target { speed = v })) 2_568_751 ≡ record { over = true; warn = true; serv = true; emer = true }
unfolding metres limits_at triggers_of no_target
over_the_ceiling = refl

-- and at the ceiling with its EBI margin no emergency
at_the_ebi_ceiling : (λ (v : ℕ). triggers_of (λ t. limits_at (metres 0) (metres 0) (metres 0) (metres 0) (metres 0)) 0
    (record no_target { speed = v })) 2_568_750 ≡ record { over = true; warn = true; serv = true; emer = false }
unfolding metres limits_at triggers_of no_target
at_the_ebi_ceiling = refl
