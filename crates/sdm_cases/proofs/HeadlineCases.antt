-- What the headline says of single readings and of two in turn, and that the other promises of a row exclude
-- something. The journey is the short one of RowCases, with its EOA and SvL at 10 m.
use Rattle.std.proofs.Common.{◌≡◌, pos, true, false, List, [], ◌∷◌, ◌∙◌, refl, sym, ap, arith}
use Rattle.std.proofs.lemmas.Bool.{false≢true}
use Rattle.std.specs.Prelude.{Bool, ◌||◌, Contains, IsTrue, Ok}
use Rattle.sdm_num.specs.Units.{millimetre}
use Rattle.sdm_num.specs.Readings.{OdometerReading, estimate_of}
use Rattle.sdm_rules.specs.declared.authorities.Authority.TheVariants.{Stop}
use Rattle.sdm_rules.specs.declared.commands.State.TheVariants.{T, R}
use Rattle.sdm_rules.specs.declared.records.Event.{Event}
use Rattle.sdm_rules.specs.declared.records.Event.TheVariants as record_kinds
use Rattle.sdm_rules.specs.declared.targets.Target.{Target}
use Rattle.sdm_rules.specs.declared.targets.TargetKind.TheVariants.{Svl}
use Rattle.sdm_rules.specs.Commands.{commands_after, emergency_after}
use Rattle.sdm_rules.specs.Curves.{place_at, corner, arc, stepped, exact, exact_at, arc_back, back}
use Rattle.sdm_rules.specs.Decelerations.{slope_at, slopes_of}
use Rattle.sdm_rules.specs.Headline.{AreTurnsSafe, IsRowSafe}
use Rattle.sdm_rules.specs.Limits.{exact_places, limits_of, release_start}
use Rattle.sdm_rules.specs.Machines.{BeginsReleaseMonitoringAt, InOrder, machine_after, may_after, must_after}
use Rattle.sdm_rules.specs.Machines.{held_after}
use Rattle.sdm_rules.specs.Profile.{mrsp}
use Rattle.sdm_rules.specs.Promises.{BeginsReleaseMonitoring, HasOnlyGaps, IsWithinCeiling}
use Rattle.sdm_rules.specs.Reaction.{reaction_times}
use Rattle.sdm_rules.specs.Records.{Turn, step, journey_from}
use Rattle.sdm_rules.specs.Stop.{IsSafe}
use Rattle.sdm_rules.specs.Supervision.{Supervision, after_reading, commands_in, is_covered_in, is_covered_for}
use Rattle.sdm_rules.specs.Supervision.{opening, row_in, row_of, situation_of, state_in}
use Rattle.sdm_rules.specs.Targets.{targets_of}
use Rattle.sdm_rules.specs.Triggers.{is_past, triggers_of}
use Rattle.sdm_cases.proofs.Journeys.{plain_band, plain_national, plain_train_and_track, reading_at}
use Rattle.sdm_cases.proofs.Openings.{opening_row, opening_situation, situation_with}
use Rattle.sdm_cases.proofs.RowCases.{short, short_line, with_release}
use Rattle.sdm_laws.proofs.Rows.Journeys.{turns_safe}
use Rattle.sdm_cases.proofs.OpenCases.{short_open, short_supervised}

-- ---- gaps: 10 cm past the EBI at 8 m, at 2 m/s, the SvL is not covered, and no target of speed

svl_at_10_m : Target
svl_at_10_m = record { kind = Svl; place = pos 5_400_000_000_000; speed = 0 }

past_the_ebi : OdometerReading
past_the_ebi = reading_at 0 (pos 4_374_000_000_000) 108_000

not_covered : is_covered_for short_line past_the_ebi.max (estimate_of past_the_ebi) svl_at_10_m ≡ false
unfolding plain_train_and_track plain_national plain_band past_the_ebi reading_at svl_at_10_m limits_of reaction_times
    slopes_of slope_at stepped place_at corner arc arc_back back
not_covered = refl

svl_is_ahead : Contains (situation_with short_line (Stop 1000 1000 0) [] past_the_ebi).targets svl_at_10_m
unfolding plain_train_and_track plain_national plain_band past_the_ebi reading_at svl_at_10_m situation_with targets_of
    mrsp
svl_is_ahead = (1, omega arith, refl)

not_only_gaps : HasOnlyGaps (opening short_line (Stop 1000 1000 0)) past_the_ebi → ⊥
unfolding past_the_ebi reading_at svl_at_10_m
not_only_gaps h = (h (omega arith) svl_at_10_m
    (rw (opening_situation short_line (Stop 1000 1000 0) past_the_ebi) svl_is_ahead) not_covered).is_speed.1 refl

-- ---- the start of release speed monitoring, which is 6.875 m here

-- a millimetre less than a centimetre past it, and so a millimetre before a start that lies a centimetre further
in_release : (row_of with_release (reading_at 0 (pos 3_717_360_000_000) 108_000)).state ≡ R
unfolding with_release plain_train_and_track plain_national plain_band reading_at situation_with targets_of mrsp row_in
    state_in commands_in is_covered_in commands_after emergency_after triggers_of limits_of release_start
    reaction_times slopes_of slope_at stepped place_at corner arc arc_back back
in_release = ap (λ row. row.state) (opening_row short_line (Stop 1000 1000 9) _) ∙ refl

not_past_a_later_start : is_past millimetre (pos 3_717_360_000_000) (release_start exact_places short_line 1001 1001 9)
    ≡ false
unfolding plain_train_and_track plain_national plain_band release_start reaction_times slopes_of slope_at exact
    exact_at place_at corner arc arc_back back
not_past_a_later_start = refl

-- for this start monitoring would begin too soon
not_begun_before : BeginsReleaseMonitoringAt with_release (reading_at 0 (pos 3_717_360_000_000) 108_000) 1001 1001 9 → ⊥
unfolding with_release reading_at
not_begun_before h = false≢true (sym not_past_a_later_start ∙ h.only in_release)

-- a grain past a start that lies a centimetre earlier
not_yet_in_release : (row_of with_release (reading_at 0 (pos 3_707_100_000_001) 108_000)).state ≡ T
unfolding with_release plain_train_and_track plain_national plain_band reading_at situation_with targets_of mrsp row_in
    state_in commands_in is_covered_in commands_after emergency_after triggers_of limits_of release_start
    reaction_times slopes_of slope_at stepped place_at corner arc arc_back back
not_yet_in_release = ap (λ row. row.state) (opening_row short_line (Stop 1000 1000 9) _) ∙ refl

past_an_earlier_start : is_past 0 (pos 3_707_100_000_001) (release_start exact_places short_line 999 999 9) ≡ true
unfolding plain_train_and_track plain_national plain_band release_start reaction_times slopes_of slope_at exact
    exact_at place_at corner arc arc_back back
past_an_earlier_start = refl

-- and for this one too late
not_begun_late : BeginsReleaseMonitoringAt with_release (reading_at 0 (pos 3_707_100_000_001) 108_000) 999 999 9 → ⊥
unfolding with_release reading_at
not_begun_late h = let both : T ≡ R = sym not_yet_in_release ∙ h.always past_an_earlier_start in cc

-- ---- the headline

-- readings at 2 m/s, with the front ends at 2 m
at_2_m : OdometerReading
at_2_m = reading_at 0 (pos 1_080_000_000_000) 108_000

-- and 1 s later at 4 m
at_4_m : OdometerReading
at_4_m = reading_at 10 (pos 2_160_000_000_000) 108_000

covered_at_4_m : is_covered_in short_line at_4_m (situation_with short_line (Stop 1000 1000 0) [] at_4_m) ≡ true
unfolding plain_train_and_track plain_national plain_band at_4_m reading_at situation_with targets_of mrsp
    is_covered_in limits_of reaction_times slopes_of slope_at stepped place_at corner arc arc_back back
covered_at_4_m = refl

row_covered : IsTrue (row_of short at_4_m).covered
unfolding short row_in
row_covered = ap (λ now. is_covered_in short_line at_4_m now) (opening_situation short_line (Stop 1000 1000 0) at_4_m)
    ∙ covered_at_4_m

-- of one reading it says that a covered row is safe, and that commands in order stay so
one_reading_is_safe : IsSafe short at_4_m
one_reading_is_safe = (short_supervised at_4_m).safe row_covered

one_reading_in_order : InOrder (must_after short at_4_m false) (held_after short at_4_m) (may_after short at_4_m true)
unfolding short
one_reading_in_order = (short_supervised at_4_m).order false true (record { needed = λ h. h; allowed = λ h. refl })

two_readings : List Event
two_readings = record_kinds.Read at_2_m ∷ record_kinds.Read at_4_m ∷ []

-- the headline of both readings: their turns are safe
supervised : AreTurnsSafe false true (journey_from (λ n e. Ok e) 1 short two_readings).turns
unfolding short
supervised = turns_safe (λ n e. Ok e) 1 short false true two_readings short_open
    (record { needed = λ h. h; allowed = λ h. refl })

after_one : Supervision
after_one = after_reading short at_2_m

-- nothing that the second situation is made of changes in the first reading
same_situation : situation_of after_one at_4_m ≡ situation_of short at_4_m
unfolding after_one after_reading situation_of
same_situation = refl

row_covered_after_one : IsTrue (row_of after_one at_4_m).covered
unfolding after_one short row_in after_reading
row_covered_after_one = ap (λ now. is_covered_in short_line at_4_m now)
    (same_situation ∙ opening_situation short_line (Stop 1000 1000 0) at_4_m) ∙ covered_at_4_m

-- of two it says that a covered row of the second is safe
second_reading_is_safe : IsSafe after_one at_4_m
unfolding short two_readings after_one after_reading step at_2_m at_4_m reading_at
second_reading_is_safe = supervised.1.0.stop row_covered_after_one

-- that where a target isn't covered it is a gap
second_has_only_gaps : (row_of after_one at_4_m).held.eb ≡ false → HasOnlyGaps after_one at_4_m
unfolding short two_readings after_one after_reading step at_2_m at_4_m reading_at
second_has_only_gaps = supervised.1.0.gaps

-- that it is within the ceiling
second_within_ceiling : (row_of after_one at_4_m).held.eb ≡ false → IsWithinCeiling at_4_m (row_of after_one at_4_m)
unfolding short two_readings after_one after_reading step at_2_m at_4_m reading_at
second_within_ceiling = supervised.1.0.ceiling

-- that release speed monitoring begins where it should
second_begins_release_monitoring : BeginsReleaseMonitoring after_one at_4_m
unfolding short two_readings after_one after_reading step at_2_m at_4_m reading_at
second_begins_release_monitoring = supervised.1.0.release

-- and that the commands are in order after both
in_order_after_two : InOrder (must_after after_one at_4_m (must_after short at_2_m false))
    (row_of after_one at_4_m).held.eb (may_after after_one at_4_m (may_after short at_2_m true))
unfolding short two_readings after_one after_reading step at_2_m at_4_m reading_at
in_order_after_two = supervised.1.0.order

-- ---- commands that are out of order: the exact machine holds one while the train moves, the supervisor none

-- a command that is held stays, whatever is triggered
held_stays : (triggered : Bool) → (triggered || true) ≡ true
held_stays true = refl
held_stays false = refl

-- so the exact machine goes on to hold its own
exact_holds : must_after short at_2_m true ≡ true
unfolding short at_2_m reading_at machine_after emergency_after plain_train_and_track plain_national
exact_holds = held_stays _

supervisor_holds_none : (row_of short at_2_m).held.eb ≡ false
unfolding short at_2_m plain_train_and_track plain_national plain_band reading_at situation_with targets_of mrsp row_in
    commands_in commands_after emergency_after triggers_of limits_of reaction_times slopes_of slope_at stepped place_at
    corner arc arc_back back
supervisor_holds_none = ap (λ row. row.held.eb) (opening_row short_line (Stop 1000 1000 0) at_2_m) ∙ refl

-- so the row isn't safe
none_holds_but_the_exact : IsRowSafe true true short at_2_m → ⊥
none_holds_but_the_exact h = false≢true (sym supervisor_holds_none ∙ h.order.needed exact_holds)

-- the exact machine holds its command from turn to turn: past the EBI it commands, and at 2 m it goes on to hold
exact_commands : must_after short past_the_ebi false ≡ true
unfolding short past_the_ebi reading_at machine_after emergency_after plain_train_and_track plain_national plain_band
    situation_with targets_of mrsp triggers_of limits_of reaction_times slopes_of slope_at exact exact_at place_at
    corner arc arc_back back
exact_commands =
    ap (λ now. emergency_after false (triggers_of (limits_of exact_places short_line
    (estimate_of past_the_ebi)) 0 now) false false) (opening_situation short_line (Stop 1000 1000 0) past_the_ebi)
    ∙ refl

-- a turn after which the supervisor holds no command, whatever its reading
abbrev turn_without_commands : OdometerReading → Turn
turn_without_commands r = record { before = short; event = record_kinds.Read r; after = short }

-- two turns with no command of the supervisor, the first of them past the EBI, aren't safe
held_over_a_turn : AreTurnsSafe false true (turn_without_commands past_the_ebi ∷ turn_without_commands at_2_m ∷ []) → ⊥
held_over_a_turn h =
    let holds = ap (λ held. must_after short at_2_m held) exact_commands ∙ exact_holds in
    false≢true (sym supervisor_holds_none ∙ h.1.0.order.needed holds)
