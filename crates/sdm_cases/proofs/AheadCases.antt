-- What-if readings at numbers, on the line on which the speed falls to 5 km/h at 5 m, with EOA and SvL at 50 m: the gap of
-- a train that isn't above the permitted speed, why the column `covered` of a what-if reading doesn't say enough, and the
-- rule that cuts the traction. The foot speed of the fall is 12.5 km/h, which is 187,500 notches.
use Rattle.std.proofs.Common.{◌≡◌, ℕ, ℤ, pos, true, false, [], ◌∷◌, Bool, refl, ap, ◌∙◌, sym, arith}
use Rattle.std.specs.Prelude.{map}
use Rattle.std.specs.List.{list_all}
use Rattle.std.proofs.lemmas.Bool.{true≢false}
use Rattle.std.proofs.lemmas.Int.{ints}
use Rattle.sdm_num.specs.Readings.{OdometerReading, estimate_of}
use Rattle.sdm_rules.specs.declared.authorities.Authority.{Authority}
use Rattle.sdm_rules.specs.declared.authorities.Authority.TheVariants.{Stop}
use Rattle.sdm_rules.specs.declared.commands.State.TheVariants.{C}
use Rattle.sdm_rules.specs.declared.commands.Status.TheVariants.{N}
use Rattle.sdm_rules.specs.Commands.{commands_after, emergency_after, nothing_held}
use Rattle.sdm_rules.specs.Curves.{arc, arc_back, back, corner, place_at, stepped}
use Rattle.sdm_rules.specs.Decelerations.{slope_at, slopes_of}
use Rattle.sdm_rules.specs.Limits.{limits_of, release_start}
use Rattle.sdm_rules.specs.Opening.{IsOpen}
use Rattle.sdm_rules.specs.Profile.{mrsp}
use Rattle.sdm_rules.specs.Reaction.{reaction_times}
use Rattle.sdm_rules.specs.Supervision.{Supervision, after_reading, commands_in, is_covered_for, is_covered_in, opening}
use Rattle.sdm_rules.specs.Supervision.{row_in, row_of, state_in}
use Rattle.sdm_rules.specs.Targets.{targets_of}
use Rattle.sdm_rules.specs.Triggers.{triggers_of}
use Rattle.sdm_ahead.specs.CutOffs.{AreAsAsked, AskedTurn, IsUncovered}
use Rattle.sdm_ahead.specs.WhatIfs.{AreWithinReach, AsksNoMore, IsAskedTwice, would_cover_from}
use Rattle.sdm_ahead.proofs.CutOffs.{cut_offs}
use Rattle.sdm_ahead.proofs.TwoColumns.{two_columns}
use Rattle.sdm_cases.proofs.Journeys.{plain_band, plain_national, plain_train_and_track}
use Rattle.sdm_cases.proofs.Openings.{none_in_force, opening_situation, situation_with}
use Rattle.sdm_cases.proofs.RowPromiseCases.{before_open, line}

abbrev authority : Authority
authority = Stop 5000 5000 0

abbrev far : Supervision
far = opening line authority

far_open : IsOpen far
far_open = record { bands = before_open.bands; usable = before_open.usable }

-- a reading with equal front ends and an under-reading of 2 m/s
unfoldable crawling : ℕ → ℤ → ℕ → ℤ → OdometerReading
crawling time front speed accel = record {
  time = time;
  est = front;
  min = front;
  max = front;
  speed = speed;
  accel = accel;
  under = 108_000;
}

-- ---- the gap

-- 10 cm before the fall, at 4.67 km/h and at most 0.99 m/s²: V_bec is 190,852 notches
abbrev driven_on : OdometerReading
driven_on = crawling 0 (pos 2_646_000_000_000) 70_000 (pos 99)

-- the row isn't covered, and commands nothing: it is state C with status N
gap_uncovered : (row_of far driven_on).covered ≡ false
unfolding line plain_train_and_track plain_national plain_band crawling row_in situation_with targets_of mrsp
    is_covered_in limits_of release_start reaction_times slopes_of slope_at stepped place_at corner arc arc_back back
gap_uncovered = ap (λ now. is_covered_in line driven_on now) (opening_situation line authority driven_on) ∙ refl

gap_held : (row_of far driven_on).held ≡ record { tco = false; sb = false; eb = false; status = N }
unfolding line plain_train_and_track plain_national plain_band crawling row_in situation_with targets_of mrsp
    state_in commands_in commands_after emergency_after triggers_of limits_of release_start reaction_times slopes_of
    slope_at stepped place_at corner arc arc_back back
gap_held = ap (λ now. (row_in line nothing_held driven_on now).held) (opening_situation line authority driven_on) ∙ refl

gap_state : (row_of far driven_on).state ≡ C
unfolding line plain_train_and_track plain_national plain_band crawling row_in situation_with targets_of mrsp
    state_in triggers_of limits_of release_start reaction_times slopes_of slope_at stepped place_at corner arc arc_back
    back
gap_state = ap (λ now. (row_in line nothing_held driven_on now).state) (opening_situation line authority driven_on) ∙ refl

-- with the traction off it is covered: V_bec is 178,000 notches
abbrev coasting_on : OdometerReading
coasting_on = crawling 0 (pos 2_646_000_000_000) 70_000 (pos 0)

coasting_covered : (row_of far coasting_on).covered ≡ true
unfolding line plain_train_and_track plain_national plain_band crawling row_in situation_with targets_of mrsp
    is_covered_in limits_of release_start reaction_times slopes_of slope_at stepped place_at corner arc arc_back back
coasting_covered = ap (λ now. is_covered_in line coasting_on now) (opening_situation line authority coasting_on) ∙ refl

-- ---- the column alone doesn't say enough

-- 5 cm past the fall the same train is covered, as the fall is no target there
abbrev past_fall : OdometerReading
past_fall = crawling 0 (pos 2_727_000_000_000) 70_000 (pos 99)

past_fall_covered : (row_of far past_fall).covered ≡ true
unfolding line plain_train_and_track plain_national plain_band crawling row_in situation_with targets_of mrsp
    is_covered_in limits_of release_start reaction_times slopes_of slope_at stepped place_at corner arc arc_back back
past_fall_covered = ap (λ now. is_covered_in line past_fall now) (opening_situation line authority past_fall) ∙ refl

asks : AsksNoMore line past_fall driven_on
unfolding crawling line plain_train_and_track plain_national
asks = record { front = omega (arith, ints); speed = omega arith; accel = omega arith }

-- so a reading that asks no more than a covered one may be uncovered: the law needs that no fall lies between
no_monotony : ((s : Supervision) (asked r : OdometerReading) → IsOpen s → (row_of s asked).covered ≡ true →
    AsksNoMore s.train_and_track asked r → (row_of s r).covered ≡ true) → ⊥
no_monotony law =
    true≢false (sym (law far past_fall driven_on far_open past_fall_covered asks) ∙ gap_uncovered)

-- ---- what is asked

-- over the restrictions that are in force, which are none
would_is : (from : ℤ) (asked : OdometerReading) → would_cover_from far from asked
    ≡ list_all (is_covered_for line asked.max (estimate_of asked)) (targets_of (mrsp line.train line.track []) authority
    from false)
unfolding would_cover_from
would_is from asked =
    ap (λ es. list_all (is_covered_for line asked.max (estimate_of asked))
    (targets_of (mrsp line.train line.track (map (λ e. e.1) es)) authority from false)) none_in_force

-- from before the fall the reading past it would not cover each target
would_not : would_cover_from far (pos 2_646_000_000_000) past_fall ≡ false
unfolding line plain_train_and_track plain_national plain_band crawling targets_of mrsp limits_of reaction_times
    slopes_of slope_at stepped place_at corner arc arc_back back
would_not = would_is (pos 2_646_000_000_000) past_fall ∙ refl

-- ---- two columns

-- a driven train at 2.8 m and at 3.4 m: 60 cm are less than its D_bec, which is 1.05 m
abbrev near_asked : OdometerReading
near_asked = crawling 0 (pos 1_512_000_000_000) 74_000 (pos 99)

abbrev far_asked : OdometerReading
far_asked = crawling 0 (pos 1_836_000_000_000) 74_000 (pos 99)

near_covered : (row_of far near_asked).covered ≡ true
unfolding line plain_train_and_track plain_national plain_band crawling row_in situation_with targets_of mrsp
    is_covered_in limits_of release_start reaction_times slopes_of slope_at stepped place_at corner arc arc_back back
near_covered = ap (λ now. is_covered_in line near_asked now) (opening_situation line authority near_asked) ∙ refl

far_covered : (row_of far far_asked).covered ≡ true
unfolding line plain_train_and_track plain_national plain_band crawling row_in situation_with targets_of mrsp
    is_covered_in limits_of release_start reaction_times slopes_of slope_at stepped place_at corner arc arc_back back
far_covered = ap (λ now. is_covered_in line far_asked now) (opening_situation line authority far_asked) ∙ refl

within_reach : AreWithinReach line near_asked far_asked
unfolding line plain_train_and_track plain_national crawling reaction_times
within_reach = record { estimate = refl; reach = omega (arith, ints) }

-- both are covered, so each reading between them is that asks no more
asked_twice : IsAskedTwice far near_asked far_asked
unfolding crawling
asked_twice = two_columns far near_asked far_asked far_open within_reach (omega (arith, ints)) near_covered far_covered

-- ---- the rule

-- a reading's turn: what is asked of a driven and of a coasting train, from its front end on
abbrev turn : ℕ → ℤ → ℕ → ℤ → Bool → Bool → ℤ → ℤ → AskedTurn
turn time front speed accel is_off cuts_off driven_front coasting_front = record {
  reading = crawling time front speed accel;
  from = front;
  driven = crawling time driven_front 74_000 (pos 99);
  coasting = crawling time coasting_front 74_000 (pos 0);
  is_off = is_off;
  cuts_off = cuts_off;
}

-- at 2.8 m the train may be driven on for 60 cm
first_turn : AskedTurn
first_turn = turn 0 (pos 1_512_000_000_000) 70_000 (pos 99) false false (pos 1_836_000_000_000) (pos 1_836_000_000_000)

-- at 3.1 m it may not be driven on for 60 cm more: the cut-off is ordered
second_turn : AskedTurn
second_turn = turn 2 (pos 1_674_000_000_000) 71_000 (pos 99) false true (pos 1_998_000_000_000) (pos 1_998_000_000_000)

-- at 3.4 m it works
third_turn : AskedTurn
third_turn = turn 4 (pos 1_836_000_000_000) 73_000 (pos 0) true true (pos 2_160_000_000_000) (pos 2_700_000_000_000)

-- and 10 cm before the fall it still does
last_turn : AskedTurn
last_turn = turn 6 (pos 2_646_000_000_000) 74_000 (pos 0) true true (pos 2_970_000_000_000) (pos 2_970_000_000_000)

first_left : would_cover_from far first_turn.from first_turn.driven ≡ true
unfolding line plain_train_and_track plain_national plain_band crawling targets_of mrsp limits_of reaction_times
    slopes_of slope_at stepped place_at corner arc arc_back back first_turn
first_left = would_is first_turn.from first_turn.driven ∙ refl

second_cuts : would_cover_from far second_turn.from second_turn.driven ≡ false
unfolding line plain_train_and_track plain_national plain_band crawling targets_of mrsp limits_of reaction_times
    slopes_of slope_at stepped place_at corner arc arc_back back second_turn
second_cuts = would_is second_turn.from second_turn.driven ∙ refl

third_coasts : would_cover_from far third_turn.from third_turn.coasting ≡ true
unfolding line plain_train_and_track plain_national plain_band crawling targets_of mrsp limits_of reaction_times
    slopes_of slope_at stepped place_at corner arc arc_back back third_turn
third_coasts = would_is third_turn.from third_turn.coasting ∙ refl

-- each turn asks no more than was asked before
as_asked : AreAsAsked far first_turn first_turn (second_turn ∷ third_turn ∷ last_turn ∷ [])
unfolding crawling line plain_train_and_track plain_national after_reading first_turn second_turn third_turn last_turn
as_asked = (
  λ e. absurd (true≢false e),
  λ outside. record {
    driven = λ e. record {
      back = omega (arith, ints);
      no_more = record { front = omega (arith, ints); speed = omega arith; accel = omega arith };
    };
    coasting = λ e. absurd (true≢false (sym e));
  },
  (
    λ e. absurd (true≢false e),
    λ outside. record {
      driven = λ e. absurd (true≢false e);
      coasting = λ e. record {
        back = omega (arith, ints);
        no_more = record { front = omega (arith, ints); speed = omega arith; accel = omega arith };
      };
    },
    (
      λ e. absurd (true≢false e),
      λ outside. record {
        driven = λ e. absurd (true≢false e);
        coasting = λ e. record {
          back = omega (arith, ints);
          no_more = record { front = omega (arith, ints); speed = omega arith; accel = omega arith };
        };
      },
      tt,
    ),
  ),
)

-- so by the law the last row, which would be a gap with the traction on, isn't one
no_gap : IsUncovered (after_reading (after_reading far second_turn.reading) third_turn.reading) last_turn → ⊥
unfolding after_reading would_cover_from
no_gap u =
    let h = cut_offs far first_turn first_turn (second_turn ∷ third_turn ∷ last_turn ∷ []) far_open first_left as_asked in
    true≢false (sym third_coasts ∙ (h.1.1.0 u).asked)
