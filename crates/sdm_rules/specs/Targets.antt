-- The targets of a front end (SUBSET-026-3 3.13.8.2).
use Rattle.std.specs.Prelude.{◌≡◌, ℕ, ℤ, pos, Bool, true, false, List, [], ◌∷◌, ◌++◌, ◌+◌, ◌+ℤ◌, ◌-ℤ◌, ◌<ℤ◌, map}
use Rattle.std.specs.Prelude.{filter, nat_lt, if◌then◌else◌}
use Rattle.std.specs.Int.{int_gap}
use Rattle.sdm_num.specs.Units.{notches}
use Rattle.sdm_rules.specs.declared.authorities.Authority.{Authority}
use Rattle.sdm_rules.specs.declared.authorities.Authority.TheVariants.{Stop, Limit}
use Rattle.sdm_rules.specs.declared.targets.Fall.{Fall}
use Rattle.sdm_rules.specs.declared.targets.TargetKind.{TargetKind}
use Rattle.sdm_rules.specs.declared.targets.TargetKind.TheVariants.{Mrsp, Loa, Eoa, Svl}
use Rattle.sdm_rules.specs.declared.targets.Target.{Target}
use Rattle.sdm_rules.specs.Cells.{cells, cell_of, place_of_cell}
use Rattle.sdm_rules.specs.Margins.{ebi_margin}

-- ---- falls of a speed profile

-- the profile falls at the start of the cell (SUBSET-026-3 3.13.8.2; own cell form)
abbrev pub is_fall : (ℤ → ℕ) → ℤ → Bool
is_fall profile cell = nat_lt (profile cell) (profile (cell -ℤ pos 1))

-- the first fall past the start of a cell, with the lower speed (own)
pub record IsNextFall (profile : ℤ → ℕ) (after : ℤ) (fall : Fall) : Type 0 where
  pub beyond : after <ℤ fall.cell
  pub falls : is_fall profile fall.cell ≡ true
  pub lower : fall.speed ≡ profile fall.cell
  pub first : (c : ℤ) → after <ℤ c → c <ℤ fall.cell → is_fall profile c ≡ false

-- the profile falls nowhere past the start of a cell (own)
abbrev pub HasNoFall : (ℤ → ℕ) → ℤ → Type 0
HasNoFall profile after = (c : ℤ) → after <ℤ c → is_fall profile c ≡ false

-- ---- the targets

-- the end of the authority in cm: the EOA or the LOA (SUBSET-026-3 3.8.1)
abbrev pub end_of : Authority → ℕ
end_of (Stop eoa svl release) = eoa
end_of (Limit loa speed) = loa

-- the target at a fall: its speed is that of the cell that begins there (SUBSET-026-3 3.13.8.2; own cell form)
abbrev pub fall_at : (ℤ → ℕ) → ℤ → Target
fall_at profile cell = record { kind = Mrsp; place = place_of_cell cell; speed = profile cell }

-- the falls of the profile strictly ahead of the front end and at or before the end of the authority, in order
-- (SUBSET-026-3 3.13.8.2; own cell form)
abbrev pub falls_ahead : (ℤ → ℕ) → ℤ → ℕ → List Target
falls_ahead profile front end = map (fall_at profile)
    (filter (is_fall profile) (cells (cell_of front +ℤ pos 1) (int_gap (cell_of front) (pos end))))

-- the target at an SvL in cm (SUBSET-026-3 3.13.8.2)
abbrev pub svl_target : ℕ → Target
svl_target svl = record { kind = Svl; place = place_of_cell (pos svl); speed = 0 }

-- the targets at the end of the authority, also once they are passed; in release speed monitoring the EOA and SvL are
-- none (SUBSET-026-3 3.13.8.2)
abbrev pub ends_of : Authority → Bool → List Target
ends_of (Stop eoa svl release) in_release_monitoring =
    if in_release_monitoring then []
    else record { kind = Eoa; place = place_of_cell (pos eoa); speed = 0 } ∷ svl_target svl ∷ []
ends_of (Limit loa speed) in_release_monitoring =
    record { kind = Loa; place = place_of_cell (pos loa); speed = speed } ∷ []

-- all targets, by place and then by kind: the falls come first, since they lie at or before the end of the authority
-- (SUBSET-026-3 3.13.8.2)
unfoldable pub targets_of : (ℤ → ℕ) → Authority → ℤ → Bool → List Target
targets_of profile a front in_release_monitoring =
    falls_ahead profile front (end_of a) ++ ends_of a in_release_monitoring

-- ---- their speeds

-- a value that counts for targets with a speed; at the EOA and the SvL it counts as 0 (SUBSET-026-3 3.13.10; own)
abbrev pub at_speed_target : TargetKind → ℕ → ℕ
at_speed_target Mrsp n = n
at_speed_target Loa n = n
at_speed_target Eoa n = 0
at_speed_target Svl n = 0

-- the target speed, in notches (SUBSET-026-3 3.13.8.2)
abbrev pub target_speed : Target → ℕ
target_speed t = at_speed_target t.kind (notches t.speed)

-- the target speed with a margin of it, in notches (SUBSET-026-3 3.13.10; own)
abbrev pub with_margin : (ℕ → ℕ) → Target → ℕ
with_margin margin t = at_speed_target t.kind (notches t.speed + margin t.speed)

-- the foot speed of the target's EBD, in notches: V_target + dV_ebi(V_target), 0 at the SvL (SUBSET-026-3 3.13.8.3)
abbrev pub foot_speed_of : Target → ℕ
foot_speed_of t = with_margin ebi_margin t
