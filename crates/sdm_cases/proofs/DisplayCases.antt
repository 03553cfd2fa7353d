-- Limits as speeds, and the target that counts. On the line of RowCases the train brakes at 1 m/s² with no times, so at
-- v m/s its EBI and SBI of an end lie v²/2 m before it, and its permitted limit another 4 v m. In m/s: 1 km/h is 0.278,
-- 2 is 0.556, 3 is 0.833, 7 is 1.944, 8 is 2.222, 9 is 2.5, 10 is 2.778, 11 is 3.056.
use Rattle.std.proofs.Common.{◌≡◌, ℕ, ℤ, pos, Bool, true, false, List, [], ◌∷◌, map, suc, ◌<◌, refl, arith}
use Rattle.std.specs.Prelude.{Option, Some, None}
use Rattle.sdm_num.specs.Readings.{OdometerReading}
use Rattle.sdm_rules.specs.declared.display.LimitName.TheVariants.{Permitted, Sbi, Ebi}
use Rattle.sdm_rules.specs.declared.display.Shown.{Shown}
use Rattle.sdm_rules.specs.declared.targets.Target.{Target}
use Rattle.sdm_rules.specs.declared.targets.TargetKind.{TargetKind}
use Rattle.sdm_rules.specs.declared.targets.TargetKind.TheVariants.{Mrsp, Eoa, Svl}
use Rattle.sdm_rules.specs.Curves.{place_at, corner, arc, stepped, arc_back, back}
use Rattle.sdm_rules.specs.Data.{TrainAndTrack}
use Rattle.sdm_rules.specs.Decelerations.{slope_at, slopes_of}
use Rattle.sdm_rules.specs.Display.{counting_target, display_speed, passes_limit, shown_target}
use Rattle.sdm_rules.specs.Limits.{limits_of}
use Rattle.sdm_rules.specs.Reaction.{reaction_times}
use Rattle.sdm_rules.specs.Triggers.{Situation}
use Rattle.sdm_cases.proofs.Journeys.{plain_band, plain_national, plain_train_and_track, reading_at}
use Rattle.sdm_cases.proofs.LimitCases.{metres}
use Rattle.sdm_cases.proofs.OpenCases.{short_open}
use Rattle.sdm_cases.proofs.RowCases.{short, short_line}
use Rattle.sdm_laws.proofs.Rows.Passing.{display_speed_is}

-- ---- what is shown of which situation

-- a target, with its place in m and its speed in km/h
unfoldable target_at : TargetKind → ℕ → ℕ → Target
target_at kind m kmh = record { kind = kind; place = metres m; speed = kmh }

-- a ceiling of 160 km/h and these targets, with estimated and max safe front end
unfoldable towards : List Target → ℤ → ℤ → Situation
towards targets est front = record {
  speed = 0;
  ceiling_kmh = 160;
  est = est;
  front = front;
  targets = targets;
  past_end = false;
  release = None;
  in_use =
      true;
}

-- an EOA at 10 m with its SvL at 12 m
unfoldable ends : List Target
ends = target_at Eoa 10 0 ∷ target_at Svl 12 0 ∷ []

-- a reading of a train that stands: its own speed is not asked
unfoldable standing : OdometerReading
standing = reading_at 0 (pos 0) 0

-- permitted speed, SBI and EBI
abbrev speeds_of : OdometerReading → Situation → List ℕ
speeds_of r now =
    display_speed short_line r now Permitted ∷ display_speed short_line r now Sbi ∷ display_speed short_line r now Ebi
    ∷ []

-- whether they are passed, each at a speed of its own
abbrev passed_at : OdometerReading → Situation → ℕ → ℕ → ℕ → List Bool
passed_at r now p s e =
    passes_limit short_line r now Permitted p ∷ passes_limit short_line r now Sbi s
    ∷ passes_limit short_line r now Ebi e ∷ []

-- none is passed at its speed, and each is at one more
speeds_are : (r : OdometerReading) (now : Situation) (p s e : ℕ) → p < 500 → s < 500 → e < 500 →
    passed_at r now p s e ≡ false ∷ false ∷ false ∷ [] →
    passed_at r now (suc p) (suc s) (suc e) ≡ true ∷ true ∷ true ∷ [] → speeds_of r now ≡ p ∷ s ∷ e ∷ []
unfolding short
speeds_are r now p s e p_le s_le e_le within past =
    let p_within : passes_limit short_line r now Permitted p ≡ false = cc in
    let s_within : passes_limit short_line r now Sbi s ≡ false = cc in
    let e_within : passes_limit short_line r now Ebi e ≡ false = cc in
    let p_past : passes_limit short_line r now Permitted (suc p) ≡ true = cc in
    let s_past : passes_limit short_line r now Sbi (suc s) ≡ true = cc in
    let e_past : passes_limit short_line r now Ebi (suc e) ≡ true = cc in
    let p_is = display_speed_is short_line short_open.bands short_open.usable r now Permitted p (omega arith) p_within
    (λ _. p_past) in
    let s_is = display_speed_is short_line short_open.bands short_open.usable r now Sbi s (omega arith) s_within
    (λ _. s_past) in
    let e_is = display_speed_is short_line short_open.bands short_open.usable r now Ebi e (omega arith) e_within
    (λ _. e_past) in
    cc

-- ---- limits as speeds

-- 2 m before the EOA and 4 m before the SvL: 1.9 m and 3.9 m are braked from 7 and 10 km/h, 2.5 m and 4.7 m from 8 and
-- 11 km/h; with the driver's 4 s it takes 1.1 m from 1 km/h and 2.4 m from 2 km/h. The EOA has no EBI
at_8_m : speeds_of standing (towards ends (metres 8) (metres 8)) ≡ 1 ∷ 7 ∷ 10 ∷ []
unfolding standing towards ends target_at metres reading_at plain_train_and_track plain_national plain_band passes_limit
    limits_of reaction_times slopes_of slope_at stepped place_at corner arc arc_back back
at_8_m = speeds_are standing (towards ends (metres 8) (metres 8)) 1 7 10 (omega arith) (omega arith) (omega arith) refl
    refl

-- the EOA compares the estimated front end: at 7 m it leaves 3 m, for 2.5 m from 8 km/h, not for 3.1 m from 9 km/h
at_7_to_8_m : speeds_of standing (towards ends (metres 7) (metres 8)) ≡ 2 ∷ 8 ∷ 10 ∷ []
unfolding standing towards ends target_at metres reading_at plain_train_and_track plain_national plain_band passes_limit
    limits_of reaction_times slopes_of slope_at stepped place_at corner arc arc_back back
at_7_to_8_m = speeds_are standing (towards ends (metres 7) (metres 8)) 2 8 10 (omega arith) (omega arith) (omega arith)
    refl refl

-- the SvL the max safe one: at 11 m it leaves 1 m, for 0.96 m from 5 km/h, not for 1.4 m from 6 km/h
at_8_to_11_m : speeds_of standing (towards ends (metres 8) (metres 11)) ≡ 0 ∷ 5 ∷ 5 ∷ []
unfolding standing towards ends target_at metres reading_at plain_train_and_track plain_national plain_band passes_limit
    limits_of reaction_times slopes_of slope_at stepped place_at corner arc arc_back back
at_8_to_11_m = speeds_are standing (towards ends (metres 8) (metres 11)) 0 5 5 (omega arith) (omega arith) (omega arith)
    refl refl

-- the reading's own speed and acceleration change nothing here, its under-reading amount does: with 1 m/s more it takes
-- 3.6 m from 6 km/h and 4.3 m from 7 km/h to the SvL
with_under_reading : speeds_of (record (reading_at 0 (pos 0) 540_000) { accel = pos 100; under = 54_000 })
    (towards ends (metres 8) (metres 8)) ≡ 1 ∷ 6 ∷ 6 ∷ []
unfolding towards ends target_at metres reading_at plain_train_and_track plain_national plain_band passes_limit
    limits_of reaction_times slopes_of slope_at stepped place_at corner arc arc_back back
with_under_reading =
    speeds_are (record (reading_at 0 (pos 0) 540_000) { accel = pos 100; under = 54_000 })
    (towards ends (metres 8) (metres 8)) 1 6 6 (omega arith) (omega arith) (omega arith) refl refl

-- with a traction that pushes for 1 s the acceleration of 1 m/s² does: then 3.8 m are needed from 4 km/h, 4.7 m from
-- 5 km/h
with_acceleration :
    map (passes_limit (record short_line { train = record (short_line.train) { cut_off_time = pos 10 } })
    (record (reading_at 0 (pos 0) 0) { accel = pos 100 }) (towards ends (metres 8) (metres 8)) Ebi) (4 ∷ 5 ∷ [])
    ≡ false ∷ true ∷ []
unfolding towards ends target_at metres reading_at plain_train_and_track plain_national plain_band passes_limit
    limits_of reaction_times slopes_of slope_at stepped place_at corner arc arc_back back
with_acceleration = refl

-- past a fall to 36 km/h its margins are left: 5.5 km/h to the SBI and 7.5 km/h to the EBI
past_a_fall : speeds_of standing (towards (target_at Mrsp 10 36 ∷ []) (metres 30) (metres 30)) ≡ 36 ∷ 41 ∷ 43 ∷ []
unfolding standing towards target_at metres reading_at plain_train_and_track plain_national plain_band passes_limit
    limits_of reaction_times slopes_of slope_at stepped place_at corner arc arc_back back
past_a_fall = speeds_are standing (towards (target_at Mrsp 10 36 ∷ []) (metres 30) (metres 30)) 36 41 43 (omega arith)
    (omega arith) (omega arith) refl refl

-- with no target the ceiling of 160 km/h has margins of 7.75 and 11.25 km/h
at_the_ceiling : speeds_of standing (towards [] (metres 8) (metres 8)) ≡ 160 ∷ 167 ∷ 171 ∷ []
unfolding standing towards metres reading_at passes_limit
at_the_ceiling = speeds_are standing (towards [] (metres 8) (metres 8)) 160 167 171 (omega arith) (omega arith)
    (omega arith) refl refl

-- in release speed monitoring the release speed is permitted, and above it the emergency brake comes; it has no SBI
at_the_release_speed : speeds_of standing (record (towards [] (metres 8) (metres 8)) { release = Some 9 })
    ≡ 9 ∷ 167 ∷ 9 ∷ []
unfolding standing towards metres reading_at passes_limit
at_the_release_speed = speeds_are standing (record (towards [] (metres 8) (metres 8)) { release = Some 9 }) 9 167 9
    (omega arith) (omega arith) (omega arith) refl refl

-- no greater speed than 500 km/h is told
at_the_top : display_speed short_line standing (record (towards [] (metres 8) (metres 8)) { ceiling_kmh = 500 }) Ebi
    ≡ 500
unfolding short standing towards metres reading_at passes_limit
at_the_top = display_speed_is short_line short_open.bands short_open.usable standing
    (record (towards [] (metres 8) (metres 8)) { ceiling_kmh = 500 }) Ebi 500 (omega arith) refl
    (λ lt. absurd (omega (arith, lt)))

-- ---- the target that counts

-- what is shown at a speed in notches
abbrev shown_at : ℕ → List Target → ℤ → ℤ → Option Shown
shown_at v targets est front = shown_target short_line (reading_at 0 front v) (towards targets est front)

-- EOA and SvL at one place have the same permitted limit: the first counts, and the estimated front end
eoa_before_svl : shown_at 540_000 (target_at Eoa 10 0 ∷ target_at Svl 10 0 ∷ []) (metres 7) (metres 8)
    ≡ Some (record { kind = Eoa; speed = 0; distance = pos 3_000 })
unfolding towards target_at metres reading_at plain_train_and_track plain_national plain_band counting_target
    limits_of reaction_times slopes_of slope_at stepped place_at corner arc arc_back back
eoa_before_svl = refl

-- the SvL, if it comes first, with the max safe front end
svl_before_eoa : shown_at 540_000 (target_at Svl 10 0 ∷ target_at Eoa 10 0 ∷ []) (metres 7) (metres 8)
    ≡ Some (record { kind = Svl; speed = 0; distance = pos 2_000 })
unfolding towards target_at metres reading_at plain_train_and_track plain_national plain_band counting_target
    limits_of reaction_times slopes_of slope_at stepped place_at corner arc arc_back back
svl_before_eoa = refl

-- a fall to 36 km/h at 9 m, and an EOA far behind it
unfoldable fall_and_end : List Target
fall_and_end = target_at Mrsp 9 36 ∷ target_at Eoa 200 0 ∷ []

-- at 36 km/h the fall doesn't count, though its permitted limit is the earlier one: at 9 + 23 - 40 m, since its curve
-- runs on 23 m past it to this speed, against 200 - 50 - 40 m
at_the_target_speed : shown_at 540_000 fall_and_end (metres 7) (metres 8)
    ≡ Some (record { kind = Eoa; speed = 0; distance = pos 193_000 })
unfolding fall_and_end towards target_at metres reading_at plain_train_and_track plain_national plain_band
    counting_target limits_of reaction_times slopes_of slope_at stepped place_at corner arc arc_back back
at_the_target_speed = refl

-- a notch faster it does
above_the_target_speed : shown_at 540_001 fall_and_end (metres 7) (metres 8)
    ≡ Some (record { kind = Mrsp; speed = 36; distance = pos 1_000 })
unfolding fall_and_end towards target_at metres reading_at plain_train_and_track plain_national plain_band
    counting_target limits_of reaction_times slopes_of slope_at stepped place_at corner arc arc_back back
above_the_target_speed = refl

-- the nearer target is not the one that counts where the farther one's permitted limit is earlier: an EOA at 30 m has
-- it at 30 - 50 - 40 m, a fall to 35 km/h at 9 m at 9 + 19.7 - 40 m
farther_but_sooner : shown_at 540_000 (target_at Mrsp 9 35 ∷ target_at Eoa 30 0 ∷ []) (metres 7) (metres 8)
    ≡ Some (record { kind = Eoa; speed = 0; distance = pos 23_000 })
unfolding towards target_at metres reading_at plain_train_and_track plain_national plain_band counting_target
    limits_of reaction_times slopes_of slope_at stepped place_at corner arc arc_back back
farther_but_sooner = refl

-- none at the speed of the only target, and none for a train that stands
no_slower_target : shown_at 540_000 (target_at Mrsp 9 36 ∷ []) (metres 7) (metres 8) ∷ shown_at 0 ends (metres 7)
    (metres 8) ∷ [] ≡ None ∷ None ∷ []
unfolding ends towards target_at metres reading_at plain_train_and_track plain_national plain_band counting_target
    limits_of reaction_times slopes_of slope_at stepped place_at corner arc arc_back back
no_slower_target = refl

-- the line with guidance and a normal brake of 0.1 m/s²
guided_line : TrainAndTrack
guided_line =
    let line = plain_train_and_track (pos 100) (Some (pos 0)) (record plain_band { normal = pos 10 }) [] [] in
    record line { national = record plain_national { guidance = true } }

-- the permitted limit decides, not the SBI: from 2 m/s the guidance curve to an EOA at 10 m begins at 10 - 20 m; the
-- SvL at 5 m has its SBI at 5 - 2 m, before the EOA's at 10 - 2 m, and its permitted limit at 5 - 2 - 8 m
by_the_permitted_limit :
    shown_target guided_line (reading_at 0 (metres 4) 108_000)
    (towards (target_at Svl 5 0 ∷ target_at Eoa 10 0 ∷ []) (metres 4) (metres 4))
    ≡ Some (record { kind = Eoa; speed = 0; distance = pos 6_000 })
unfolding guided_line towards target_at metres reading_at plain_train_and_track plain_national plain_band
    counting_target limits_of reaction_times slopes_of slope_at stepped place_at corner arc arc_back back
by_the_permitted_limit = refl

-- ---- its distance

-- the distance to an EOA at 10 m from an estimated front end in grains
abbrev to_10_m : ℤ → Option Shown
to_10_m est = shown_at 540_000 (target_at Eoa 10 0 ∷ []) est (metres 11)

-- 1.5 mm, a grain, nothing, half a millimetre and a metre past it: rounded down, and never below 0
distances : map to_10_m (pos 5_399_190_000_000 ∷ pos 5_399_999_999_999 ∷ pos 5_400_000_000_000
    ∷ pos 5_400_270_000_000 ∷ metres 11 ∷ [])
    ≡ map (λ mm. Some (record { kind = Eoa; speed = 0; distance = pos mm })) (1 ∷ 0 ∷ 0 ∷ 0 ∷ 0 ∷ [])
unfolding towards target_at metres reading_at plain_train_and_track plain_national plain_band counting_target
    limits_of reaction_times slopes_of slope_at stepped place_at corner arc arc_back back
distances = refl
