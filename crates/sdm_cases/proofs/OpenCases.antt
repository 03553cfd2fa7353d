-- There is an accepted supervision state, so the laws over such states say something: that of the short journey, whose
-- slopes are all 1 m/s². And there are openings that are refused.
use Rattle.std.proofs.Common.{◌≡◌, ℕ, zero, suc, pos, ◌<◌, refl, arith}
use Rattle.std.proofs.lemmas.Int.{ints}
use Rattle.std.specs.Prelude.{[], Some}
use Rattle.sdm_num.specs.Readings.{OdometerReading}
use Rattle.sdm_rules.specs.declared.authorities.Authority.TheVariants.{Stop}
use Rattle.sdm_rules.specs.declared.faults.AuthorityFault.TheVariants.{SvlBeforeEoa}
use Rattle.sdm_rules.specs.declared.faults.OpenFault.TheVariants.{TooWeak, BadAuthority}
use Rattle.sdm_rules.specs.declared.data.SlopeKind.{SlopeKind}
use Rattle.sdm_rules.specs.declared.data.SlopeKind.TheVariants.{Safe, Expected, Normal}
use Rattle.sdm_rules.specs.Data.{TrainAndTrack}
use Rattle.sdm_rules.specs.Decelerations.{slope_at}
use Rattle.sdm_rules.specs.Opening.{IsAcceptedKind, IsStrong, IsEven, IsOpen, IsOpenFault}
use Rattle.sdm_rules.specs.Headline.{IsSupervised}
use Rattle.sdm_cases.proofs.Journeys.{plain_band, plain_national, plain_train_and_track}
use Rattle.sdm_cases.proofs.RowCases.{short}
use Rattle.sdm_laws.proofs.Rows.Headline.{supervision}

short_slope : (kind : SlopeKind) (cell : ℕ) → slope_at kind short.train_and_track 0 (pos cell) ≡ pos 200_000_000_000
unfolding short plain_train_and_track plain_national plain_band slope_at
short_slope Safe cell = refl
short_slope Expected cell = refl
short_slope Normal cell = refl

pub short_accepted : (kind : SlopeKind) → IsAcceptedKind kind short.train_and_track
unfolding short plain_train_and_track plain_national plain_band
short_accepted kind = record { strong = strong; even = even }
  where
    strong : IsStrong kind short.train_and_track
    strong zero cell l = rw (short_slope kind cell) (omega (arith, ints))
    strong (suc band) cell l = absurd (omega arith)

    even : (band : ℕ) → band < 1 → IsEven kind short.train_and_track band
    even zero l cell cell' = rw (short_slope kind cell, short_slope kind cell') (omega (arith, ints))
    even (suc band) l cell cell' = absurd (omega arith)

pub short_open : IsOpen short
unfolding short plain_train_and_track plain_national plain_band
short_open = record { bands = record { few = omega arith; in_order = refl }; usable = short_accepted }

pub short_supervised : (r : OdometerReading) → IsSupervised short r
short_supervised r = supervision short r short_open

-- ---- openings that are refused

-- an emergency brake of 0.04 m/s², where 0.05 m/s² are asked for
weak_line : TrainAndTrack
weak_line = plain_train_and_track (pos 100) (Some (pos 0)) (record plain_band { emergency = pos 4 }) [] []

-- its slope is too weak from cell 0 on, in the first band
too_weak : IsOpenFault weak_line (Stop 1000 1000 0) (TooWeak Safe 1 (pos 0) (pos 8_000_000_000))
unfolding weak_line plain_train_and_track plain_national plain_band slope_at
too_weak = (
  tt,
  (
    0,
    refl,
    (
      0,
      refl,
      record {
        known = omega arith;
        value = refl;
        weak =
            omega (arith, ints);
        lower_bands = λ b c l. absurd (omega arith);
        earlier_cells = λ c l. absurd (omega arith);
      },
    ),
  ),
)

-- an EOA behind the SvL, on slopes that are accepted
svl_before_eoa : IsOpenFault short.train_and_track (Stop 1000 999 0) (BadAuthority SvlBeforeEoa)
svl_before_eoa = (short_accepted, refl)
