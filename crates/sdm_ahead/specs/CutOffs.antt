-- The rule of a computer that asks ahead: at each reading it asks whether the train would be covered later if it were
-- driven on, and where not, it orders the traction's cut-off (own).
use Rattle.std.specs.Prelude.{◌≡◌, ◌+◌, ◌<◌, ◌≤◌, ℕ, ℤ, Bool, true, false, List, [], ◌∷◌, Option, Some, None, IsTrue, ⊤}
use Rattle.std.specs.Prelude.{if◌then◌else◌}
use Rattle.sdm_num.specs.Readings.{OdometerReading}
use Rattle.sdm_rules.specs.declared.commands.State.TheVariants.{R}
use Rattle.sdm_rules.specs.declared.targets.Target.{Target}
use Rattle.sdm_rules.specs.Opening.{IsOpen}
use Rattle.sdm_rules.specs.Supervision.{Supervision, after_reading, row_of}
use Rattle.sdm_ride.specs.Rides.{Delays}
use Rattle.sdm_ahead.specs.WhatIfs.{AsksNoMoreFrom, IsAskedGap, would_cover_from}

-- a turn of the rule: a reading, and what is asked at it (own)
pub record AskedTurn : Type 0 where
  pub reading : OdometerReading
  pub from : ℤ  -- at most the max safe front end of each later reading, in grains
  pub driven : OdometerReading  -- the most that a reading asks until an order of the next turn works
  pub coasting : OdometerReading  -- the most that the next reading asks if the traction is off by then
  pub is_off : Bool  -- the traction is off
  pub cuts_off : Bool  -- after the reading the computer orders the traction's cut-off

-- the rule: the traction is left on only where what is asked of a driven train would be covered (own)
abbrev pub KeepsRule : Supervision → AskedTurn → Type 0
KeepsRule s t = t.cuts_off ≡ false → IsTrue (would_cover_from s t.from t.driven)

-- the last turn after which the traction was left on (own)
abbrev pub last_left_on : AskedTurn → AskedTurn → AskedTurn
last_left_on on t = if t.cuts_off then on else t

-- what a turn owes those before it: with the traction on it asks no more than was asked of a driven train at the last
-- turn that left it on, and with the traction off no more than was asked of a coasting one at the last turn (own)
pub record IsAsAsked (s : Supervision) (on last t : AskedTurn) : Type 0 where
  pub driven : t.is_off ≡ false → AsksNoMoreFrom s.train_and_track on.from on.driven t.reading
  pub coasting : t.is_off ≡ true → AsksNoMoreFrom s.train_and_track last.from last.coasting t.reading

-- the turns after one keep the rule and this, each from the supervision state that it meets. In release speed monitoring
-- nothing is asked of a reading (own)
abbrev pub AreAsAsked : Supervision → AskedTurn → AskedTurn → List AskedTurn → Type 0
AreAsAsked s on last [] = ⊤
AreAsAsked s on last (t ∷ ts) =
    KeepsRule s t × (((row_of s t.reading).state ≡ R → ⊥) → IsAsAsked s on last t)
    × AreAsAsked (after_reading s t.reading) (last_left_on on t) t ts

-- a row that isn't covered, outside release speed monitoring (own)
pub record IsUncovered (s : Supervision) (t : AskedTurn) : Type 0 where
  pub uncovered : (row_of s t.reading).covered ≡ false
  pub outside : (row_of s t.reading).state ≡ R → ⊥

-- such a row comes only with the traction off, and where a coasting train might not be covered. Where no emergency brake
-- is commanded and the train moves, it has a gap at which V_bec of the coasting train is above the foot speed, too (own)
pub record IsLastResort (s : Supervision) (last t : AskedTurn) : Type 0 where
  pub is_off : t.is_off ≡ true
  pub asked : would_cover_from s last.from last.coasting ≡ false
  pub gap : (row_of s t.reading).held.eb ≡ false → 0 < t.reading.speed →
      (u : Target) × IsAskedGap s last.coasting t.reading u

-- so over all turns (own)
abbrev pub AreLastResorts : Supervision → AskedTurn → List AskedTurn → Type 0
AreLastResorts s last [] = ⊤
AreLastResorts s last (t ∷ ts) =
    (IsUncovered s t → IsLastResort s last t) × AreLastResorts (after_reading s t.reading) t ts

-- THE RULE: from a turn at which a driven train would be covered, over every list of readings under the same data,
-- authority and restrictions, an uncovered row comes only with the traction off, and where a coasting train might not be
-- covered
abbrev pub LawOfCutOffs : Type 0
LawOfCutOffs =
    (s : Supervision) (on last : AskedTurn) (ts : List AskedTurn) → IsOpen s →
    IsTrue (would_cover_from s on.from on.driven) →
    AreAsAsked s on last ts → AreLastResorts s last ts

-- ---- by the clock

-- what a computer that asks ahead keeps: the last turn that left the traction on, the last turn, and the time in ds since
-- when the cut-off is ordered, where it is (own)
pub record Asker : Type 0 where
  pub on : AskedTurn
  pub last : AskedTurn
  pub since : Option ℕ

-- an order that stands goes on, else one is given (own)
abbrev pub since_or : ℕ → Option ℕ → ℕ
since_or now None = now
since_or now (Some before) = before

-- after a turn (own)
abbrev pub after_turn : Asker → AskedTurn → Asker
after_turn a t =
    if t.cuts_off then record { on = a.on; last = t; since = Some (since_or t.reading.time a.since) }
    else record { on = t; last = t; since = None }

-- a turn keeps the rule. It comes within p after the last one, and the traction is off once its cut-off has been ordered
-- for c + K. Outside release speed monitoring its reading asks no more than was asked of a driven train within p + c + K,
-- and with the traction off no more than was asked of a coasting one at the last turn (own)
pub record IsInTime (w : Delays) (s : Supervision) (a : Asker) (t : AskedTurn) : Type 0 where
  pub rule : KeepsRule s t
  pub in_time : t.reading.time ≤ a.last.reading.time + w.period
  pub off : (o : ℕ) → a.since ≡ Some o → o + w.latency + w.cut_off ≤ t.reading.time → t.is_off ≡ true
  pub driven : ((row_of s t.reading).state ≡ R → ⊥) → t.is_off ≡ false →
      t.reading.time ≤ a.on.reading.time + (w.period + w.latency + w.cut_off) →
      AsksNoMoreFrom s.train_and_track a.on.from a.on.driven t.reading
  pub coasting : ((row_of s t.reading).state ≡ R → ⊥) → t.is_off ≡ true →
      AsksNoMoreFrom s.train_and_track a.last.from a.last.coasting t.reading

-- so over all turns (own)
abbrev pub AreInTime : Delays → Supervision → Asker → List AskedTurn → Type 0
AreInTime w s a [] = ⊤
AreInTime w s a (t ∷ ts) = IsInTime w s a t × AreInTime w (after_reading s t.reading) (after_turn a t) ts

-- the computer begins with a turn at which a driven train would be covered (own)
abbrev pub begun : AskedTurn → Asker
begun on = record { on = on; last = on; since = None }

-- BY THE CLOCK: the same where what is asked of a driven train holds for p + c + K
abbrev pub LawOfTimedCutOffs : Type 0
LawOfTimedCutOffs =
    (w : Delays) (s : Supervision) (on : AskedTurn) (ts : List AskedTurn) → IsOpen s →
    IsTrue (would_cover_from s on.from on.driven) →
    AreInTime w s (begun on) ts → AreLastResorts s on ts
