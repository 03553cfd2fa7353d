-- Every driver: once the ordered cut-off of the traction works, no driver ends a promise of the EOA (own).
use Rattle.std.specs.Prelude.{◌≡◌, ℕ, suc, Bool, true, ◌&&◌, ◌||◌, IsTrue, All, List, [], ◌∷◌, Option, Some, None, ⊤}
use Rattle.std.specs.Prelude.{◌+◌, ◌*◌, ◌≤◌, is_some, option_map, if◌then◌else◌}
use Rattle.sdm_num.specs.Readings.{OdometerReading}
use Rattle.sdm_rules.specs.declared.rows.Row.{Row}
use Rattle.sdm_rules.specs.Supervision.{Supervision, row_of}
use Rattle.sdm_ride.specs.Happenings.{Happening, Record, Unread, Overdue, Change, Tick}
use Rattle.sdm_ride.specs.Moments.{Moment, ordered}
use Rattle.sdm_ride.specs.Orders.{judged_in}
use Rattle.sdm_ride.specs.Rides.{Delays}
use Rattle.sdm_service_ride.specs.ServiceMoments.{Allowance, commands_brake, is_steady, promises_eoa, steady_after}
use Rattle.sdm_service_ride.specs.ServiceMoments.{steady_moments}

-- the row cuts the traction off: where it commands that, or a brake (own)
abbrev pub cuts_off : Row → Bool
cuts_off row = row.held.tco || commands_brake row

-- for how many ticks the cut-off has been ordered, after a reading that is judged, if one is (own)
abbrev pub cut_after_reading : Supervision → Option OdometerReading → Option ℕ → Option ℕ
cut_after_reading s None cut = cut
cut_after_reading s (Some r) cut = if cuts_off (row_of s r) then ordered cut else None

-- the same after a happening: a missing reading orders it (own)
abbrev pub cut_after : Supervision → Happening → Option ℕ → Option ℕ
cut_after s (Record e) cut = cut_after_reading s (judged_in s (Record e)) cut
cut_after s Unread cut = cut
cut_after s Overdue cut = ordered cut
cut_after s (Change next) cut = cut
cut_after s (Tick to length) cut = option_map (λ o. suc o) cut

-- the ordered cut-off works: its order is c + K old (own)
pub record IsCut (w : Delays) (s : ℕ) (cut : Option ℕ) : Type 0 where
  pub since : ℕ
  pub is : cut ≡ Some since
  pub long : s * (w.latency + w.cut_off) ≤ since

-- a reading leaves both the cut-off and a promise: its row commands a brake; or it promises the EOA, and its row cuts
-- the traction off (own)
abbrev pub leaves_cut : Supervision → Option OdometerReading → Bool
leaves_cut s None = true
leaves_cut s (Some r) =
    let row = row_of s r in
    commands_brake row || (promises_eoa s r && cuts_off row)

-- what may happen while the cut-off works: each reading leaves it, and in a tick the train gains no more speed than it
-- is allowed (own)
abbrev pub StaysCut : Delays → Allowance → ℕ → Moment → Option ℕ → Happening → Type 0
StaysCut w a s m cut (Record e) = IsTrue (leaves_cut m.supervision (judged_in m.supervision (Record e)))
StaysCut w a s m cut Unread = ⊤
StaysCut w a s m cut Overdue = ⊤
StaysCut w a s m cut (Change next) = ⊤
StaysCut w a s m cut (Tick to length) = IsCut w s cut → IsTrue (is_steady a m (Tick to length))

-- so over a list of happenings (own)
abbrev pub AllStayCut : Delays → Allowance → ℕ → Moment → Option ℕ → List Happening → Type 0
AllStayCut w a s m cut [] = ⊤
AllStayCut w a s m cut (h ∷ hs) =
    StaysCut w a s m cut h × AllStayCut w a s (steady_after a m h) (cut_after m.supervision h cut) hs

-- EVERY DRIVER: from a moment on at which the cut-off works and a promise stands, one stands whatever the driver does,
-- for as long as each row commands a brake, or promises the EOA and cuts the traction off
abbrev pub LawOfCutOffs : Type 0
LawOfCutOffs =
    (w : Delays) (a : Allowance) (s : ℕ) (m : Moment) (cut : Option ℕ) (hs : List Happening) → IsCut w s cut →
    IsTrue (is_some m.promise) → AllStayCut w a s m cut hs →
    All (λ n. IsTrue (is_some n.promise)) (steady_moments a m hs)
