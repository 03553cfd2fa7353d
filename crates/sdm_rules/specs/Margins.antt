-- The margins over a speed limit of whole km/h, in notches (SUBSET-026-3 3.13.9.2; own values). Each rises evenly with
-- the speed from 110 km/h on, up to a greatest value. At whole km/h each is a whole number of notches.
use Rattle.std.specs.Prelude.{ℕ, ◌+◌, ◌-◌, ◌*◌, min}
use Rattle.sdm_rules.specs.declared.limits.LimitKind.{LimitKind}
use Rattle.sdm_rules.specs.declared.limits.LimitKind.TheVariants.{Ebi, Sbi, Warning, Permitted, Indication}

-- dV_ebi: 7.5 km/h, and from 210 km/h on 15 km/h (SUBSET-026-3 3.13.9.2; own values)
abbrev pub ebi_margin : ℕ → ℕ
ebi_margin kmh = min (112_500 + 1_125 * (kmh - 110)) 225_000

-- dV_sbi: 5.5 km/h, and from 210 km/h on 10 km/h (SUBSET-026-3 3.13.9.2; own values)
abbrev pub sbi_margin : ℕ → ℕ
sbi_margin kmh = min (82_500 + 675 * (kmh - 110)) 150_000

-- dV_warning: 4 km/h, and from 140 km/h on 5 km/h (SUBSET-026-3 3.13.9.2; own values)
abbrev pub warning_margin : ℕ → ℕ
warning_margin kmh = min (60_000 + 500 * (kmh - 110)) 75_000

-- no margin: the speed itself (own)
abbrev pub no_margin : ℕ → ℕ
no_margin kmh = 0

-- the margin above which a limit of a kind is passed (SUBSET-026-3 3.13.10; own table)
abbrev pub margin_of : LimitKind → ℕ → ℕ
margin_of Ebi = ebi_margin
margin_of Sbi = sbi_margin
margin_of Warning = warning_margin
margin_of Permitted = no_margin
margin_of Indication = no_margin
