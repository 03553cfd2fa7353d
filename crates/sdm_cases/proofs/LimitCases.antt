-- Supervision limits of worked examples, with the places of the curves given.
use Rattle.std.proofs.Common.{◌≡◌, refl, ◌*◌}
use Rattle.std.specs.Prelude.{ℕ, ℤ, pos, true, false, Some, None}
use Rattle.sdm_num.specs.Units.{notches_of_mm_s}
use Rattle.sdm_num.specs.Fractions.{whole}
use Rattle.sdm_rules.specs.Reaction.{times_of, build_up, d_bec}
use Rattle.sdm_rules.specs.Limits.{SupervisionLimits, sbd_limits_at, ebd_limits_at}

-- a place in grains, from metres
unfoldable pub metres : ℕ → ℤ
metres n = pos (n * 540_000_000_000)

-- EBI, SBI, warning, permitted and indication limit
unfoldable pub limits_at : ℤ → ℤ → ℤ → ℤ → ℤ → SupervisionLimits
limits_at a b c d e = record {
  ebi = Some (whole a);
  sbi = whole b;
  warning = whole c;
  permitted = whole d;
  indication = whole e;
}

-- 20 m/s, an emergency brake of 2 s and a service brake of 3 s, with the curves at 800 m
svl_limits : ebd_limits_at (times_of 0 false 20 30 true) (notches_of_mm_s 20_000) None
    (d_bec (build_up (times_of 0 false 20 30 true) (notches_of_mm_s 20_000) (pos 0)) 0) (whole (metres 800))
    ≡ limits_at (metres 760) (metres 700) (metres 660) (metres 620) (metres 440)
unfolding metres limits_at
svl_limits = refl

-- by the curve of the service brake alone there is no EBI
eoa_limits : sbd_limits_at (times_of 0 false 20 30 true) (notches_of_mm_s 20_000) None (whole (metres 800))
    ≡ record (limits_at (metres 0) (metres 740) (metres 700) (metres 660) (metres 480)) { ebi = None }
unfolding metres limits_at
eoa_limits = refl

-- without times, with the guidance curve at 600 m, before the 720 m that the driver's time asks
guided_limits : ebd_limits_at (times_of 0 false 0 0 true) (notches_of_mm_s 20_000) (Some (whole (metres 600))) 0
    (whole (metres 800)) ≡ limits_at (metres 800) (metres 800) (metres 760) (metres 600) (metres 420)
unfolding metres limits_at
guided_limits = refl

-- and at 730 m, behind them
guide_too_late : ebd_limits_at (times_of 0 false 0 0 true) (notches_of_mm_s 20_000) (Some (whole (metres 730))) 0
    (whole (metres 800)) ≡ limits_at (metres 800) (metres 800) (metres 760) (metres 720) (metres 540)
unfolding metres limits_at
guide_too_late = refl
