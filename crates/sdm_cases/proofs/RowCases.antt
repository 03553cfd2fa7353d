-- Whole rows of a short journey, from its opening on: a train of 1 m on level track, towards an EOA at 10 m.
use Rattle.std.proofs.Common.{◌≡◌, refl, ◌∙◌, ◌*◌}
use Rattle.std.specs.Prelude.{pos, negsuc, true, false, [], Some, None, Err}
use Rattle.sdm_rules.specs.declared.authorities.Authority.TheVariants.{Stop}
use Rattle.sdm_rules.specs.declared.commands.State.TheVariants.{C, T, R}
use Rattle.sdm_rules.specs.declared.commands.Status.TheVariants.{N, I, W, X}
use Rattle.sdm_rules.specs.declared.faults.AuthorityFault.TheVariants.{SvlBeforeEoa}
use Rattle.sdm_rules.specs.declared.faults.EventCause.TheVariants as causes
use Rattle.sdm_rules.specs.declared.records.Event.TheVariants as record_kinds
use Rattle.sdm_rules.specs.Data.{TrainAndTrack}
use Rattle.sdm_rules.specs.Decelerations.{slope_at, slopes_of}
use Rattle.sdm_rules.specs.Profile.{mrsp}
use Rattle.sdm_rules.specs.Targets.{targets_of}
use Rattle.sdm_rules.specs.Reaction.{reaction_times}
use Rattle.sdm_rules.specs.Curves.{place_at, corner, arc, stepped, arc_back, back}
use Rattle.sdm_rules.specs.Limits.{limits_of, release_start}
use Rattle.sdm_rules.specs.Triggers.{triggers_of}
use Rattle.sdm_rules.specs.Commands.{commands_after, emergency_after}
use Rattle.sdm_rules.specs.Supervision.{Supervision, opening, row_of, row_in, state_in, commands_in, is_covered_in}
use Rattle.sdm_rules.specs.Records.{step}
use Rattle.sdm_cases.proofs.Journeys.{plain_band, plain_national, plain_train_and_track, reading_at}
use Rattle.sdm_cases.proofs.Openings.{opening_row, situation_with}

-- the train of 1 m on its level track
abbrev pub short_line : TrainAndTrack
short_line = plain_train_and_track (pos 100) (Some (pos 0)) plain_band [] []

-- its state, with EOA and SvL at 10 m
unfoldable pub short : Supervision
short = opening short_line (Stop 1000 1000 0)

-- at standstill 2 m before the end every limit is the end
standing_row : row_of short (reading_at 0 (pos (8000 * 540_000_000)) 0) ≡ record {
  time = 0;
  state = C;
  held = record { tco = false; sb = false; eb = false; status = N };
  covered = true;
  ceiling = 160;
  ebi = Some (pos 10_000);
  sbi = Some (pos 10_000);
  warning = Some (pos 10_000);
  permitted = Some (pos 10_000);
  indication = Some (pos 10_000);
}
unfolding short plain_train_and_track plain_national plain_band reading_at situation_with targets_of mrsp row_in
    state_in commands_in is_covered_in commands_after emergency_after triggers_of limits_of release_start
    reaction_times slopes_of slope_at stepped place_at corner arc arc_back back
standing_row = opening_row short_line (Stop 1000 1000 0) _ ∙ refl

-- at 2 m/s, which takes 2 m to brake, a tenth of a millimetre before the EBI: a warning, and covered
row_before_the_limit : row_of short (reading_at 0 (pos (79_999 * 54_000_000)) 108_000) ≡ record {
  time = 0;
  state = T;
  held = record { tco = true; sb = false; eb = false; status = W };
  covered = true;
  ceiling = 160;
  ebi = Some (pos 8_000);
  sbi = Some (pos 8_000);
  warning = Some (pos 4_000);
  permitted = Some (pos 0);
  indication = Some (negsuc 17_999);
}
unfolding short plain_train_and_track plain_national plain_band reading_at situation_with targets_of mrsp row_in
    state_in commands_in is_covered_in commands_after emergency_after triggers_of limits_of release_start
    reaction_times slopes_of slope_at stepped place_at corner arc arc_back back
row_before_the_limit = opening_row short_line (Stop 1000 1000 0) _ ∙ refl

-- ---- release speed monitoring

-- the same journey with a release speed of 9 km/h, from which it takes 3.125 m to brake
unfoldable pub with_release : Supervision
with_release = opening short_line (Stop 1000 1000 9)

-- at 6.875 m release speed monitoring hasn't begun
row_at_release_start : row_of with_release (reading_at 0 (pos 3_712_500_000_000) 108_000) ≡ record {
  time = 0;
  state = T;
  held = record { tco = true; sb = false; eb = false; status = W };
  covered = true;
  ceiling = 160;
  ebi = Some (pos 8_000);
  sbi = Some (pos 8_000);
  warning = Some (pos 4_000);
  permitted = Some (pos 0);
  indication = Some (negsuc 17_999);
}
unfolding with_release plain_train_and_track plain_national plain_band reading_at situation_with targets_of mrsp row_in
    state_in commands_in is_covered_in commands_after emergency_after triggers_of limits_of release_start
    reaction_times slopes_of slope_at stepped place_at corner arc arc_back back
row_at_release_start = opening_row short_line (Stop 1000 1000 9) _ ∙ refl

-- a grain further it has: no limit is printed, nothing is commanded below the release speed, and no stop is promised
row_past_release_start : row_of with_release (reading_at 0 (pos 3_712_500_000_001) 108_000) ≡ record {
  time = 0;
  state = R;
  held = record { tco = false; sb = false; eb = false; status = I };
  covered = false;
  ceiling = 160;
  ebi = None;
  sbi = None;
  warning = None;
  permitted = None;
  indication = None;
}
unfolding with_release plain_train_and_track plain_national plain_band reading_at situation_with targets_of mrsp row_in
    state_in commands_in is_covered_in commands_after emergency_after triggers_of limits_of release_start
    reaction_times slopes_of slope_at stepped place_at corner arc arc_back back
row_past_release_start = opening_row short_line (Stop 1000 1000 9) _ ∙ refl

-- a notch above the release speed the emergency brake is commanded
row_above_the_release_speed : row_of with_release (reading_at 0 (pos 4_320_000_000_000) 135_001) ≡ record {
  time = 0;
  state = R;
  held = record { tco = true; sb = false; eb = true; status = X };
  covered = false;
  ceiling = 160;
  ebi = None;
  sbi = None;
  warning = None;
  permitted = None;
  indication = None;
}
unfolding with_release plain_train_and_track plain_national plain_band reading_at situation_with targets_of mrsp row_in
    state_in commands_in is_covered_in commands_after emergency_after triggers_of limits_of release_start
    reaction_times slopes_of slope_at stepped place_at corner arc arc_back back
row_above_the_release_speed = opening_row short_line (Stop 1000 1000 9) _ ∙ refl

-- ---- refused records

-- a time before that of the last reading
refused_time : step (record short { last_time = Some 10 }) (record_kinds.Read (reading_at 9 (pos 0) 0))
    ≡ Err (causes.TimeBack 10 9)
unfolding short plain_train_and_track reading_at step
refused_time = refl

-- an SvL before its EOA
refused_authority : step short (record_kinds.Authority (Stop 900 899 0)) ≡ Err (causes.Authority SvlBeforeEoa)
unfolding short plain_train_and_track step
refused_authority = refl
