-- What else a row promises, at numbers: a train of 1 m with 1 m/s² and two speed bands, on a level track on which the
-- speed falls to 5 km/h at 5 m, with the EOA at 10 m and the SvL at 11 m. Each limit is shown to the grain.
use Rattle.std.proofs.Common.{◌≡◌, ℕ, ℤ, zero, suc, pos, true, false, List, [], ◌∷◌, ◌<◌}
use Rattle.std.proofs.Common.{refl, sym, ap, ◌∙◌, arith}
use Rattle.std.specs.Prelude.{Some, Ok, map}
use Rattle.std.proofs.lemmas.Bool.{false≢true}
use Rattle.std.proofs.lemmas.Int.{ints}
use Rattle.sdm_num.specs.Units.{millimetre}
use Rattle.sdm_num.specs.Readings.{OdometerReading, estimate_of}
use Rattle.sdm_rules.specs.declared.authorities.Authority.{Authority}
use Rattle.sdm_rules.specs.declared.authorities.Authority.TheVariants.{Stop}
use Rattle.sdm_rules.specs.declared.commands.State.TheVariants.{T}
use Rattle.sdm_rules.specs.declared.commands.Status.TheVariants.{I, O, W, X}
use Rattle.sdm_rules.specs.declared.data.SlopeKind.{SlopeKind}
use Rattle.sdm_rules.specs.declared.data.SlopeKind.TheVariants.{Safe, Expected, Normal}
use Rattle.sdm_rules.specs.declared.records.Event.{Event}
use Rattle.sdm_rules.specs.declared.records.Event.TheVariants as record_kinds
use Rattle.sdm_rules.specs.declared.targets.Target.{Target}
use Rattle.sdm_rules.specs.declared.targets.TargetKind.TheVariants.{Mrsp}
use Rattle.sdm_rules.specs.Cells.{place_of_cell}
use Rattle.sdm_rules.specs.Commands.{commands_after, emergency_after, nothing_held}
use Rattle.sdm_rules.specs.Curves.{arc, arc_back, back, corner, exact, exact_at, place_at, stepped}
use Rattle.sdm_rules.specs.Data.{TrainAndTrack}
use Rattle.sdm_rules.specs.Decelerations.{slope_at, slopes_of}
use Rattle.sdm_rules.specs.Limits.{exact_places, limits_of, release_start}
use Rattle.sdm_rules.specs.Opening.{IsAcceptedKind, IsEven, IsOpen, IsStrong}
use Rattle.sdm_rules.specs.Profile.{mrsp}
use Rattle.sdm_rules.specs.Reaction.{reaction_start, reaction_times}
use Rattle.sdm_rules.specs.Records.{Turn, journey_from, step}
use Rattle.sdm_rules.specs.Stop.{SlowsTo, StopsBySvl}
use Rattle.sdm_rules.specs.Supervision.{Supervision, after_reading, commands_in, is_covered_in, opening, row_in}
use Rattle.sdm_rules.specs.Supervision.{profile_of, row_of, situation_of, state_in}
use Rattle.sdm_rules.specs.Targets.{svl_target, targets_of}
use Rattle.sdm_rules.specs.Triggers.{Situation, is_past, triggers_of}
use Rattle.sdm_laws.specs.Falls.{IsFallAhead, MeetsFalls, allowance}
use Rattle.sdm_laws.proofs.Rows.Falls.{falls}
use Rattle.sdm_row_laws.specs.AllCommands.{AllInOrder, IsNoMore, IsRowInOrder, commands_by, may_hold, must_hold}
use Rattle.sdm_row_laws.specs.AllCommands.{state_by}
use Rattle.sdm_row_laws.specs.OpenTurns.{AreTurnsPromised, MeetsFallsIfFree}
use Rattle.sdm_row_laws.specs.ServiceStop.{CommandsNoBrake, StopsByEoa, StopsIfFree, eoa_target, service_start}
use Rattle.sdm_row_laws.specs.Tightness.{MayExceed, MayPass}
use Rattle.sdm_row_laws.proofs.ExactLimits.{exact_eoa, exact_svl, exact_target, refuted}
use Rattle.sdm_row_laws.proofs.OpenTurns.{promised_turns}
use Rattle.sdm_row_laws.proofs.Service.{service_rows}
use Rattle.sdm_cases.proofs.Journeys.{plain_band, plain_national, plain_train_and_track, reading_at}
use Rattle.sdm_cases.proofs.Openings.{none_in_force, opening_situation, situation_with}
use Rattle.sdm_cases.proofs.RowCases.{short_line}

-- ---- the data

-- the short line with two bands of one deceleration, whose traction is cut off within 0.2 s, whose emergency brake
-- works within 0.3 s and whose service brake within 1 s, and with the fall
unfoldable pub line : TrainAndTrack
line = record short_line {
  train = record (short_line.train) {
    cut_off_time = pos 2;
    emergency_time = pos 3;
    service_time = pos 10;
    bands = record plain_band { upper = Some (pos 1) } ∷ plain_band ∷ [];
  };
  track = record (short_line.track) {
    speeds = record { start = pos 0; speed = pos 160; delayed = true }
        ∷ record { start = pos 500; speed = pos 5; delayed = true } ∷ [];
  };
}

line_slope : (kind : SlopeKind) (cell : ℕ) → slope_at kind line 0 (pos cell) ≡ pos 200_000_000_000
unfolding line plain_train_and_track plain_national plain_band slope_at
line_slope Safe cell = refl
line_slope Expected cell = refl
line_slope Normal cell = refl

line_slope_above : (kind : SlopeKind) (cell : ℕ) → slope_at kind line 1 (pos cell) ≡ pos 200_000_000_000
unfolding line plain_train_and_track plain_national plain_band slope_at
line_slope_above Safe cell = refl
line_slope_above Expected cell = refl
line_slope_above Normal cell = refl

line_accepted : (kind : SlopeKind) → IsAcceptedKind kind line
unfolding line plain_train_and_track plain_national plain_band
line_accepted kind = record { strong = strong; even = even }
  where
    strong : IsStrong kind line
    strong zero cell l = rw (line_slope kind cell) (omega (arith, ints))
    strong (suc zero) cell l = rw (line_slope_above kind cell) (omega (arith, ints))
    strong (suc (suc band)) cell l = absurd (omega arith)

    even : (band : ℕ) → band < 2 → IsEven kind line band
    even zero l cell cell' = rw (line_slope kind cell, line_slope kind cell') (omega (arith, ints))
    even (suc zero) l cell cell' = rw (line_slope_above kind cell, line_slope_above kind cell') (omega (arith, ints))
    even (suc (suc band)) l cell cell' = absurd (omega arith)

abbrev authority : Authority
authority = Stop 1000 1100 0

abbrev pub before : Supervision
before = opening line authority

pub before_open : IsOpen before
unfolding line plain_train_and_track plain_national plain_band
before_open = record {
  bands = record { few = omega arith; in_order = (pos 1, refl, omega (arith, ints), refl) };
  usable = line_accepted;
}

-- ---- readings

-- at 0.2 m/s the SBI of the EOA is 20 cm and 2 cm before it
at_sbi : OdometerReading
at_sbi = reading_at 0 (pos 5_281_200_000_000) 10_800

-- a grain past it
past_sbi : OdometerReading
past_sbi = reading_at 0 (pos 5_281_200_000_001) 10_800

-- half a millimetre before it
near_sbi : OdometerReading
near_sbi = reading_at 0 (pos 5_280_930_000_000) 10_800

-- at 0.278 m/s, across the border of the bands, at the exact SBI; the computed one is a grain before it
at_exact : OdometerReading
at_exact = reading_at 0 (pos 5_229_013_320_000) 15_012

situation_is : (r : OdometerReading) → situation_of before r ≡ situation_with line authority [] r
situation_is r = opening_situation line authority r

-- ---- the service brake

at_sbi_sb : (row_of before at_sbi).held.sb ≡ false
unfolding line plain_train_and_track plain_national plain_band at_sbi reading_at row_in situation_with targets_of mrsp
    state_in commands_in commands_after emergency_after triggers_of limits_of release_start reaction_times slopes_of
    slope_at stepped place_at corner arc arc_back back
at_sbi_sb = ap (λ now. (row_in line nothing_held at_sbi now).held.sb) (situation_is at_sbi) ∙ refl

at_sbi_eb : (row_of before at_sbi).held.eb ≡ false
unfolding line plain_train_and_track plain_national plain_band at_sbi reading_at row_in situation_with targets_of mrsp
    state_in commands_in commands_after emergency_after triggers_of limits_of release_start reaction_times slopes_of
    slope_at stepped place_at corner arc arc_back back
at_sbi_eb = ap (λ now. (row_in line nothing_held at_sbi now).held.eb) (situation_is at_sbi) ∙ refl

at_sbi_state : (row_of before at_sbi).state ≡ T
unfolding line plain_train_and_track plain_national plain_band at_sbi reading_at row_in situation_with targets_of mrsp
    state_in triggers_of limits_of release_start reaction_times slopes_of slope_at stepped place_at corner arc arc_back
    back
at_sbi_state = ap (λ now. (row_in line nothing_held at_sbi now).state) (situation_is at_sbi) ∙ refl

-- THE ROW at the SBI commands no brake, so the service brake stops the train by the EOA
at_sbi_free : CommandsNoBrake at_sbi (row_of before at_sbi)
unfolding at_sbi reading_at
at_sbi_free = record {
  state = λ e. (let both = sym at_sbi_state ∙ e in absurd cc);
  moving = omega arith;
  sb = at_sbi_sb;
  eb = at_sbi_eb;
}

at_sbi_stops : StopsByEoa line at_sbi 1000
at_sbi_stops = service_rows before at_sbi before_open at_sbi_free 1000 1100 0 refl

-- THE ROW a grain past it commands the service brake
past_sbi_sb : (row_of before past_sbi).held.sb ≡ true
unfolding line plain_train_and_track plain_national plain_band past_sbi reading_at row_in situation_with targets_of mrsp
    state_in commands_in commands_after emergency_after triggers_of limits_of release_start reaction_times slopes_of
    slope_at stepped place_at corner arc arc_back back
past_sbi_sb = ap (λ now. (row_in line nothing_held past_sbi now).held.sb) (situation_is past_sbi) ∙ refl

past_sbi_past : is_past 0 past_sbi.est (limits_of exact_places line (estimate_of past_sbi) (eoa_target 1000)).sbi ≡ true
unfolding line plain_train_and_track plain_national plain_band past_sbi reading_at limits_of reaction_times slopes_of
    slope_at exact exact_at place_at corner arc arc_back back
past_sbi_past = refl

-- and rightly: from there some motion passes the EOA
past_sbi_passes : MayPass (slopes_of Expected line) (service_start line past_sbi) (place_of_cell (pos 1000))
past_sbi_passes = (exact_eoa before past_sbi 1000 before_open).passes past_sbi_past

past_sbi_doesn't_stop : StopsByEoa line past_sbi 1000 → ⊥
past_sbi_doesn't_stop h = refuted _ _ _ past_sbi_passes h

-- ---- all commands

-- Half a millimetre before the SBI the early machine commands the service brake, and the supervisor doesn't yet.
early_sb : (may_hold before near_sbi nothing_held).sb ≡ true
unfolding line plain_train_and_track plain_national plain_band near_sbi reading_at commands_by state_by situation_with
    targets_of mrsp commands_after emergency_after triggers_of limits_of release_start reaction_times slopes_of slope_at
    exact exact_at stepped place_at corner arc arc_back back
early_sb =
    ap (λ now. (commands_after nothing_held (triggers_of (limits_of exact_places line (estimate_of near_sbi)) millimetre
    now) T false false now.in_use).sb) (situation_is near_sbi) ∙ refl

early_status : (may_hold before near_sbi nothing_held).status ≡ X
unfolding line plain_train_and_track plain_national plain_band near_sbi reading_at commands_by state_by situation_with
    targets_of mrsp commands_after emergency_after triggers_of limits_of release_start reaction_times slopes_of slope_at
    exact exact_at stepped place_at corner arc arc_back back
early_status =
    ap (λ now. (commands_after nothing_held (triggers_of (limits_of exact_places line (estimate_of near_sbi)) millimetre
    now) (state_by exact_places millimetre before near_sbi) false false now.in_use).status) (situation_is near_sbi)
    ∙ refl

near_sb : (row_of before near_sbi).held.sb ≡ false
unfolding line plain_train_and_track plain_national plain_band near_sbi reading_at row_in situation_with targets_of mrsp
    state_in commands_in commands_after emergency_after triggers_of limits_of release_start reaction_times slopes_of
    slope_at stepped place_at corner arc arc_back back
near_sb = ap (λ now. (row_in line nothing_held near_sbi now).held.sb) (situation_is near_sbi) ∙ refl

near_status : (row_of before near_sbi).held.status ≡ W
unfolding line plain_train_and_track plain_national plain_band near_sbi reading_at row_in situation_with targets_of mrsp
    state_in commands_in commands_after emergency_after triggers_of limits_of release_start reaction_times slopes_of
    slope_at stepped place_at corner arc arc_back back
near_status = ap (λ now. (row_in line nothing_held near_sbi now).held.status) (situation_is near_sbi) ∙ refl

-- At the exact SBI the supervisor commands the service brake, by a place a grain earlier, and the exact machine doesn't:
-- an early machine without its millimetre would not hold what the supervisor does.
exact_sb : (row_of before at_exact).held.sb ≡ true
unfolding line plain_train_and_track plain_national plain_band at_exact reading_at row_in situation_with targets_of mrsp
    state_in commands_in commands_after emergency_after triggers_of limits_of release_start reaction_times slopes_of
    slope_at stepped place_at corner arc arc_back back
exact_sb = ap (λ now. (row_in line nothing_held at_exact now).held.sb) (situation_is at_exact) ∙ refl

must_sb : (must_hold before at_exact nothing_held).sb ≡ false
unfolding line plain_train_and_track plain_national plain_band at_exact reading_at commands_by state_by situation_with
    targets_of mrsp commands_after emergency_after triggers_of limits_of release_start reaction_times slopes_of slope_at
    exact exact_at stepped place_at corner arc arc_back back
must_sb =
    ap (λ now. (commands_after nothing_held (triggers_of (limits_of exact_places line (estimate_of at_exact)) 0 now) T
    false false now.in_use).sb) (situation_is at_exact) ∙ refl

-- ---- the SvL

-- at 0.2 m/s the EBI of the SvL is 6 cm and 2 cm before it; a grain past it
past_ebi : OdometerReading
past_ebi = reading_at 0 (pos 5_896_800_000_001) 10_800

-- at it
at_ebi : OdometerReading
at_ebi = reading_at 0 (pos 5_896_800_000_000) 10_800

at_ebi_stops : StopsBySvl line at_ebi 1100
unfolding line plain_train_and_track plain_national plain_band at_ebi reading_at limits_of reaction_times slopes_of
    slope_at exact exact_at place_at corner arc arc_back back
at_ebi_stops = (exact_svl before at_ebi 1100 _ before_open refl).stops refl

past_ebi_passes : MayPass (slopes_of Safe line) (reaction_start line past_ebi) (place_of_cell (pos 1100))
unfolding line plain_train_and_track plain_national plain_band past_ebi reading_at limits_of reaction_times slopes_of
    slope_at exact exact_at place_at corner arc arc_back back
past_ebi_passes = (exact_svl before past_ebi 1100 _ before_open refl).passes refl

past_ebi_doesn't_stop : StopsBySvl line past_ebi 1100 → ⊥
past_ebi_doesn't_stop h = refuted _ _ _ past_ebi_passes h

-- ---- a speed target

-- the fall to 5 km/h, with a foot speed of 12.5 km/h
unfoldable pub fall : Target
fall = record { kind = Mrsp; place = place_of_cell (pos 500); speed = 5 }

-- at 3.7 m/s, a fraction of a grain before its exact EBI
by_target : OdometerReading
by_target = reading_at 0 (pos 1_651_504_629_629) 200_000

-- and past it
past_target : OdometerReading
past_target = reading_at 0 (pos 1_651_504_629_630) 200_000

by_target_slows : SlowsTo (slopes_of Safe line) (reaction_start line by_target) (place_of_cell (pos 500)) 187_500
unfolding line plain_train_and_track plain_national plain_band by_target reading_at fall limits_of reaction_times
    slopes_of slope_at exact exact_at place_at corner arc arc_back back
by_target_slows =
    (exact_target before by_target fall _ before_open ((λ x. cc), (λ x. cc))
    (record { fast = omega arith; gains = omega arith }) refl).slows refl

past_target_exceeds : MayExceed (slopes_of Safe line) (reaction_start line past_target) (place_of_cell (pos 500)) 187_500
unfolding line plain_train_and_track plain_national plain_band past_target reading_at fall limits_of reaction_times
    slopes_of slope_at exact exact_at place_at corner arc arc_back back
past_target_exceeds =
    (exact_target before past_target fall _ before_open ((λ x. cc), (λ x. cc))
    (record { fast = omega arith; gains = omega arith }) refl).exceeds refl

-- ---- a fall that is no target any more

-- 10 cm before the fall and 5 cm past it at most
unfoldable pub at_fall : OdometerReading
at_fall = record {
  time = 0;
  est = pos 2_673_000_000_000;
  min = pos 2_646_000_000_000;
  max = pos 2_727_000_000_000;
  speed = 10_800;
  accel = pos 50;
  under = 5_400;
}

at_fall_targets : (situation_of before at_fall).targets ≡ eoa_target 1000 ∷ svl_target 1100 ∷ []
unfolding line plain_train_and_track plain_national plain_band at_fall situation_with targets_of mrsp release_start
at_fall_targets = ap (λ (now : Situation). now.targets) (situation_is at_fall) ∙ refl

at_fall_covered : (row_of before at_fall).covered ≡ true
unfolding line plain_train_and_track plain_national plain_band at_fall row_in situation_with targets_of mrsp
    is_covered_in limits_of release_start reaction_times slopes_of slope_at stepped place_at corner arc arc_back back
at_fall_covered = ap (λ now. is_covered_in line at_fall now) (situation_is at_fall) ∙ refl

at_fall_eb : (row_of before at_fall).held.eb ≡ false
unfolding line plain_train_and_track plain_national plain_band at_fall row_in situation_with targets_of mrsp state_in
    commands_in commands_after emergency_after triggers_of limits_of release_start reaction_times slopes_of slope_at
    stepped place_at corner arc arc_back back
at_fall_eb = ap (λ now. (row_in line nothing_held at_fall now).held.eb) (situation_is at_fall) ∙ refl

-- the fall is still to be met, with 0.24 m/s more: 0.1 m/s of under-reading, and 0.14 m/s that may be gained
at_fall_meets : MeetsFalls before at_fall
at_fall_meets = falls before at_fall before_open at_fall_covered at_fall_eb

at_fall_allowance : allowance line at_fall (pos 500) ≡ 12_960
unfolding line plain_train_and_track plain_national plain_band at_fall reaction_times
at_fall_allowance = refl

pub profile_is : (cell : ℤ) → profile_of before cell ≡ mrsp line.train line.track [] cell
profile_is cell = ap (λ es. mrsp line.train line.track (map (λ e. e.1) es) cell) none_in_force

at_fall_ahead : IsFallAhead before at_fall (pos 500)
unfolding line plain_train_and_track plain_national plain_band at_fall mrsp
at_fall_ahead = record {
  falls = rw (profile_is (pos 500), profile_is (pos 499)) refl;
  ahead = omega (arith, ints);
  by_end = omega (arith, ints);
}

-- ---- the order

-- before the first reading the three machines hold nothing, in order
nothing_in_order : AllInOrder nothing_held nothing_held nothing_held
nothing_in_order = record {
  needed = record { tco = λ e. e; sb = λ e. e; eb = λ e. e; status = omega arith };
  allowed = record { tco = λ e. e; sb = λ e. e; eb = λ e. e; status = omega arith };
}

-- one command or a higher status is more than nothing
cut_off_is_more : IsNoMore (record nothing_held { tco = true }) nothing_held → ⊥
cut_off_is_more h = false≢true (h.tco refl)

service_is_more : IsNoMore (record nothing_held { sb = true }) nothing_held → ⊥
service_is_more h = false≢true (h.sb refl)

emergency_is_more : IsNoMore (record nothing_held { eb = true }) nothing_held → ⊥
emergency_is_more h = false≢true (h.eb refl)

indication_is_more : IsNoMore (record nothing_held { status = I }) nothing_held → ⊥
indication_is_more h = let le = h.status in omega arith

-- and each status is higher than the one before
overspeed_is_more : IsNoMore (record nothing_held { status = O }) (record nothing_held { status = I }) → ⊥
overspeed_is_more h = let le = h.status in omega arith

warning_is_more : IsNoMore (record nothing_held { status = W }) (record nothing_held { status = O }) → ⊥
warning_is_more h = let le = h.status in omega arith

intervention_is_more : IsNoMore (record nothing_held { status = X }) (record nothing_held { status = W }) → ⊥
intervention_is_more h = let le = h.status in omega arith

-- ---- two readings in turn: at the SBI of the EOA, and past it

two_readings : List Event
two_readings = record_kinds.Read at_sbi ∷ record_kinds.Read past_sbi ∷ []

-- the turn of a reading
unfoldable pub turn_at : Supervision → OdometerReading → Turn
turn_at s r = record { before = s; event = record_kinds.Read r; after = after_reading s r }

promised : AreTurnsPromised (journey_from (λ n e. Ok e) 1 before two_readings).turns
promised = promised_turns (λ n e. Ok e) 1 before two_readings before_open refl

after_one : Supervision
after_one = after_reading before at_sbi

-- the second row is in order by what the machines hold after the first
second_in_order : IsRowInOrder (must_hold before at_sbi nothing_held) (may_hold before at_sbi nothing_held) after_one
    past_sbi (row_of after_one past_sbi)
unfolding two_readings after_one after_reading step at_sbi past_sbi reading_at
second_in_order = promised.in_order.1.0

-- of each row the EOA is promised where it commands no brake, and each fall where it is covered and not an emergency
first_stops : StopsIfFree before at_sbi
unfolding two_readings turn_at after_reading step at_sbi past_sbi reading_at
first_stops = promised.eoa 0 (turn_at before at_sbi) (omega arith)

second_meets : MeetsFallsIfFree after_one past_sbi
unfolding two_readings turn_at after_one after_reading step at_sbi past_sbi reading_at
second_meets = promised.falls 1 (turn_at after_one past_sbi) (omega arith)
