-- The commands and the status after a reading, from those that are held (SUBSET-026-3 3.13.10; own tables).
use Rattle.std.specs.Prelude.{Bool, true, false, not, ◌&&◌, ◌||◌, if◌then◌else◌}
use Rattle.sdm_rules.specs.declared.commands.State.{State}
use Rattle.sdm_rules.specs.declared.commands.State.TheVariants.{C, T, R}
use Rattle.sdm_rules.specs.declared.commands.Status.{Status}
use Rattle.sdm_rules.specs.declared.commands.Status.TheVariants.{N, I, O, W, X}
use Rattle.sdm_rules.specs.declared.commands.Triggers.{Triggers}
use Rattle.sdm_rules.specs.declared.commands.Held.{Held}

-- the emergency command is released: at standstill, or within the permitted speed where Q_NVEMRRLS permits it
-- (SUBSET-026-3 3.13.10)
abbrev pub is_released : Triggers → Bool → Bool → Bool
is_released t stopped early_release = stopped || (early_release && not t.over)

-- the emergency command: triggered, or held and not released (SUBSET-026-3 3.13.10; own table)
unfoldable pub emergency_after : Bool → Triggers → Bool → Bool → Bool
emergency_after held t stopped early_release = t.emer || (held && not (is_released t stopped early_release))

-- the service brake command: triggered, or held until the speed is within the permitted one; never where the service
-- brake is not in use (SUBSET-026-3 3.13.10; own table)
abbrev pub service_after : Bool → Triggers → Bool → Bool
service_after held t in_use = in_use && (t.serv || (held && t.over))

-- the traction cut-off: triggered, or held until the speed is within the permitted one (SUBSET-026-3 3.13.10; own
-- table)
abbrev pub cut_off_after : Bool → Triggers → Bool
cut_off_after held t = t.warn || t.serv || t.emer || (held && t.over)

-- the last status was a warning or an intervention (own)
abbrev pub is_alarm : Status → Bool
is_alarm N = false
is_alarm I = false
is_alarm O = false
is_alarm W = true
is_alarm X = true

-- the train is in ceiling speed monitoring (own)
abbrev pub is_ceiling : State → Bool
is_ceiling C = true
is_ceiling T = false
is_ceiling R = false

-- the status, the first that holds: intervention while a brake is commanded; warning, which stays over the permitted
-- speed after a warning or an intervention; overspeed; indication, outside ceiling speed monitoring; normal
-- (SUBSET-026-3 3.13.10; own table)
abbrev pub status_after : Status → Triggers → State → Bool → Bool → Status
status_after last t state sb eb =
    if eb || sb then X
    else if t.warn || (t.over && is_alarm last) then W
    else if t.over then O
    else if is_ceiling state then N
    else I

-- all commands with the status, from those that are held (SUBSET-026-3 3.13.10; own tables)
unfoldable pub commands_after : Held → Triggers → State → Bool → Bool → Bool → Held
commands_after held t state stopped early_release in_use =
    let eb = emergency_after held.eb t stopped early_release in
    let sb = service_after held.sb t in_use in
    record { tco = cut_off_after held.tco t; sb = sb; eb = eb; status = status_after held.status t state sb eb }

-- the commands before the first reading: none is held, and the status is normal (own)
abbrev pub nothing_held : Held
nothing_held = record { tco = false; sb = false; eb = false; status = N }
