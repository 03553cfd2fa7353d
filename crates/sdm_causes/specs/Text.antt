-- The line of a reading's causes (own): its time, the first cause of each trigger, and how each command stands.
use Rattle.std.specs.Prelude.{ℕ, List, [], ◌∷◌, ◌++◌, Option, Some, None, codes, decimal}
use Rattle.std.specs.Fmt.{signed_decimal}
use Rattle.std.specs.List.{join_with_byte}
use Rattle.sdm_rules.specs.declared.records.Event.{Event}
use Rattle.sdm_rules.specs.declared.records.Event.TheVariants as record_kinds
use Rattle.sdm_rules.specs.Records.{Turn}
use Rattle.sdm_rules.specs.Supervision.{Supervision}
use Rattle.sdm_formats.specs.Text.{kind_text, text_line}
use Rattle.sdm_causes.specs.declared.causes.Cause.{Cause}
use Rattle.sdm_causes.specs.declared.causes.Cause.TheVariants.{Ceiling, Passed, EndOfAuthority, ReleaseSpeed}
use Rattle.sdm_causes.specs.declared.causes.Cause.TheVariants.{NoServiceBrake}
use Rattle.sdm_causes.specs.declared.causes.Causes.{Causes}
use Rattle.sdm_causes.specs.declared.causes.PassedTarget.{PassedTarget}
use Rattle.sdm_causes.specs.declared.causes.Standing.{Standing}
use Rattle.sdm_causes.specs.declared.causes.Standing.TheVariants.{Off, Set, Held}
use Rattle.sdm_causes.specs.declared.causes.Until.{Until}
use Rattle.sdm_causes.specs.declared.causes.Until.TheVariants.{PermittedSpeed, Standstill, StandstillOrPermittedSpeed}
use Rattle.sdm_causes.specs.Causes.{causes_of}

-- ---- causes

-- the words of a target that is passed: `target`, its letter, its place in mm, its speed in km/h, and the limit in mm
abbrev pub target_text : PassedTarget → List ℕ
target_text t = codes "target " ++ join_with_byte 32
    (kind_text t.kind ∷ signed_decimal t.place ∷ decimal t.speed ∷ signed_decimal t.limit ∷ [])

-- the words of a cause
unfoldable pub cause_text : Cause → List ℕ
cause_text Ceiling = codes "ceiling"
cause_text (Passed t) = target_text t
cause_text EndOfAuthority = codes "end of authority"
cause_text ReleaseSpeed = codes "release speed"
cause_text NoServiceBrake = codes "no service brake"

-- the field of a trigger: the words of its first cause; `-` where it doesn't hold
abbrev pub trigger_text : Option Cause → List ℕ
trigger_text None = codes "-"
trigger_text (Some cause) = cause_text cause

-- ---- commands

-- the words of what releases a command
unfoldable pub until_text : Until → List ℕ
until_text PermittedSpeed = codes "permitted speed"
until_text Standstill = codes "standstill"
until_text StandstillOrPermittedSpeed = codes "standstill or permitted speed"

-- the field of a command
unfoldable pub standing_text : Standing → List ℕ
standing_text Off = codes "off"
standing_text Set = codes "set"
standing_text (Held until) = codes "held until " ++ until_text until

-- ---- the line

-- the fields of causes in order: time in ds; over, warn, serv and emer; tco, sb and eb
abbrev pub fields_of : Causes → List (List ℕ)
fields_of c =
    decimal c.time ∷ trigger_text c.over ∷ trigger_text c.warn ∷ trigger_text c.serv ∷ trigger_text c.emer
    ∷ standing_text c.tco ∷ standing_text c.sb ∷ standing_text c.eb ∷ []

-- the text of causes
unfoldable pub causes_text : Causes → List ℕ
causes_text c = text_line (fields_of c)

-- the text of the causes of an event in the state after it: of a reading a line
abbrev pub text_explained : Supervision → Event → List ℕ
text_explained s (record_kinds.Read r) = causes_text (causes_of s r)
text_explained s (record_kinds.Authority a) = []
text_explained s (record_kinds.Calculated eoa svl trip) = []
text_explained s (record_kinds.Restrict r) = []
text_explained s (record_kinds.Revoke id) = []

-- what `why` writes for a turn: the causes of its reading in the state after it
abbrev pub why_tells : Turn → List ℕ
why_tells t = text_explained t.after t.event

-- ---- the line in parts, as it is written

-- its time, and why the driver is warned: over and warn
unfoldable pub driver_part : Causes → List ℕ
driver_part c = join_with_byte 44 (decimal c.time ∷ trigger_text c.over ∷ trigger_text c.warn ∷ [])

-- why the brakes come: serv and emer
unfoldable pub brake_part : Causes → List ℕ
brake_part c = 44 ∷ join_with_byte 44 (trigger_text c.serv ∷ trigger_text c.emer ∷ [])

-- the commands, up to the line feed
unfoldable pub command_part : Causes → List ℕ
command_part c = 44 ∷ text_line (standing_text c.tco ∷ standing_text c.sb ∷ standing_text c.eb ∷ [])
