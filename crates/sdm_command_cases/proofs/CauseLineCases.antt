-- Lines of causes, and each word in them.
use Rattle.std.proofs.Common.{◌≡◌, refl}
use Rattle.std.specs.Prelude.{pos, neg_ℤ, [], ◌∷◌, Some, None, codes, map}
use Rattle.std.specs.Fmt.{digits}
use Rattle.sdm_rules.specs.declared.targets.TargetKind.TheVariants.{Mrsp, Eoa}
use Rattle.sdm_causes.specs.declared.causes.Cause.TheVariants.{Ceiling, Passed, EndOfAuthority, ReleaseSpeed}
use Rattle.sdm_causes.specs.declared.causes.Cause.TheVariants.{NoServiceBrake}
use Rattle.sdm_causes.specs.declared.causes.Standing.TheVariants.{Off, Set, Held}
use Rattle.sdm_causes.specs.declared.causes.Until.TheVariants.{PermittedSpeed, Standstill, StandstillOrPermittedSpeed}
use Rattle.sdm_causes.specs.Text.{cause_text, causes_text, standing_text, trigger_text, until_text}

-- a line with a target, each place in mm
a_line : causes_text (record {
  time = 5;
  over = Some (Passed (record { kind = Eoa; place = pos 1_000_000; speed = 0; limit = pos 720_000 }));
  warn = Some Ceiling;
  serv = None;
  emer = Some EndOfAuthority;
  tco = Set;
  sb = Off;
  eb =
      Held Standstill;
}) ≡ codes "5,target E 1000000 0 720000,ceiling,-,end of authority,set,off,held until standstill\n"
unfolding causes_text cause_text standing_text until_text digits
a_line = refl

-- the other causes, and a target whose limit lies before the origin
other_causes : map trigger_text (Some ReleaseSpeed ∷ Some NoServiceBrake
    ∷ Some (Passed (record { kind = Mrsp; place = pos 10; speed = 160; limit = neg_ℤ (pos 5) })) ∷ [])
    ≡ codes "release speed" ∷ codes "no service brake" ∷ codes "target M 10 160 -5" ∷ []
unfolding cause_text digits
other_causes = refl

-- the other words of a command
other_standings : map standing_text (Held PermittedSpeed ∷ Held StandstillOrPermittedSpeed ∷ [])
    ≡ codes "held until permitted speed" ∷ codes "held until standstill or permitted speed" ∷ []
unfolding standing_text until_text
other_standings = refl
