-- By the laws of what-if readings a row that isn't covered, outside release speed monitoring, wasn't asked of before: so
-- its turn isn't one with the traction on, and the coasting train of the last turn wasn't covered.
use Rattle.std.proofs.Common.{◌≡◌, ◌+◌, ◌≤◌, ℕ, Option, Some, None, arith, ap, nat_lt, Bool, true, false, List, [], ◌∷◌, inl, inr, refl, subst, sym, ◌∙◌}
use Rattle.std.specs.Prelude.{IsTrue, if◌then◌else◌}
use Rattle.std.proofs.lemmas.Bool.{true≢false, ltb-true, ltb-false}
use Rattle.std.proofs.lemmas.Option.{same_Some}
use Rattle.sdm_rules.specs.declared.commands.State.TheVariants.{R}
use Rattle.sdm_rules.specs.Opening.{IsOpen}
use Rattle.sdm_rules.specs.Supervision.{Supervision, after_reading, row_of}
use Rattle.sdm_ahead.specs.WhatIfs.{IsCoveredOrReleased, would_cover_from}
use Rattle.sdm_ahead.specs.CutOffs.{AreAsAsked, AskedTurn, IsAsAsked, IsLastResort, IsUncovered}
use Rattle.sdm_ride.specs.Rides.{Delays}
use Rattle.sdm_ahead.specs.CutOffs.{AreInTime, Asker, IsInTime, LawOfCutOffs, LawOfTimedCutOffs, after_turn, begun}
use Rattle.sdm_ahead.specs.CutOffs.{KeepsRule, last_left_on, since_or}
use Rattle.sdm_ahead.proofs.LessAsked.{asked_gaps, less_asked}

-- an uncovered row outside release speed monitoring is neither covered nor in it
neither : {A : Type 0} (s : Supervision) (t : AskedTurn) → IsUncovered s t → IsCoveredOrReleased s t.reading → A
neither s t u (inl e) = absurd (true≢false (sym e ∙ u.uncovered))
neither s t u (inr e) = absurd (u.outside e)

-- a turn that is as it was asked
last_resort : (s : Supervision) (on last t : AskedTurn) → IsOpen s →
    IsTrue (would_cover_from s on.from on.driven) → IsAsAsked s on last t → IsUncovered s t → IsLastResort s last t
last_resort s on last t o left h u =
    let off : t.is_off ≡ true = elim (t.is_off) as (λ b. t.is_off ≡ b → b ≡ true) [
      | true ↦ λ is. refl
      | false ↦ λ is. neither s t u (less_asked s on.from on.driven t.reading o left (h.driven is))
    ] refl in
    let would = would_cover_from s last.from last.coasting in
    record {
      is_off = off;
      asked = elim would as (λ b. would ≡ b → b ≡ false) [
        | true ↦ λ is. neither s t u (less_asked s last.from last.coasting t.reading o is (h.coasting off))
        | false ↦ λ is. refl
      ] refl;
      gap = λ eb moving. asked_gaps s last.coasting t.reading (h.coasting off).no_more u.uncovered u.outside eb moving;
    }

still_open : (s : Supervision) (t : AskedTurn) → IsOpen s → IsOpen (after_reading s t.reading)
unfolding after_reading
still_open s t o = record { bands = o.bands; usable = o.usable }

-- the last turn that left the traction on is one at which a driven train would be covered
still_left : (s : Supervision) (on t : AskedTurn) → IsTrue (would_cover_from s on.from on.driven) → KeepsRule s t →
    IsTrue (would_cover_from (after_reading s t.reading) (last_left_on on t).from (last_left_on on t).driven)
unfolding after_reading would_cover_from
still_left s on t left rule =
    elim (t.cuts_off) as (λ b. t.cuts_off ≡ b →
    IsTrue (would_cover_from s (chosen b).from (chosen b).driven)) [
      | true ↦ λ is. left
      | false ↦ λ is. rule is
    ] refl
  where
    chosen : Bool → AskedTurn
    chosen b = if b then on else t

pub cut_offs : LawOfCutOffs
cut_offs s on last [] o left h = tt
cut_offs s on last (t ∷ ts) o left h = (
  λ u. last_resort s on last t o left (h.1 u.outside) u,
  cut_offs (after_reading s t.reading) (last_left_on on t) t ts (still_open s t o) (still_left s on t left h.0) h.2,
)

-- ---- by the clock

-- with no order the last turn left the traction on; an order that stands was given by the turn after such a one
record IsAsker (w : Delays) (a : Asker) : Type 0 where
  free : a.since ≡ None → a.on ≡ a.last
  ordered : (o : ℕ) → a.since ≡ Some o → o ≤ a.on.reading.time + w.period

-- the order that stands after a turn was given in time
since_in_time : (on last now p : ℕ) (since : Option ℕ) → (since ≡ None → on ≡ last) →
    ((o : ℕ) → since ≡ Some o → o ≤ on + p) → now ≤ last + p → since_or now since ≤ on + p
since_in_time on last now p None free ordered le =
    let same = free refl in
    subst (λ (n : ℕ). now ≤ n + p) (sym same) le
since_in_time on last now p (Some o) free ordered le = ordered o refl

-- a turn with the traction on comes within p + c + K after the last one that left it on
in_reach : (on last now p c k : ℕ) (since : Option ℕ) (is_off : Bool) → (since ≡ None → on ≡ last) →
    ((o : ℕ) → since ≡ Some o → o ≤ on + p) → now ≤ last + p →
    ((o : ℕ) → since ≡ Some o → o + c + k ≤ now → is_off ≡ true) → is_off ≡ false → now ≤ on + (p + c + k)
in_reach on last now p c k None is_off free ordered le off driven =
    let same = free refl in
    omega (arith, same, le)
in_reach on last now p c k (Some o) is_off free ordered le off driven =
    let given = ordered o refl in
    elim (nat_lt now (o + c + k)) as (λ b. nat_lt now (o + c + k) ≡ b → now ≤ on + (p + c + k)) [
      | true ↦ λ e. (let lt = ltb-true now (o + c + k) e in omega (arith, lt, given))
      | false ↦ λ e. absurd (true≢false (sym (off o refl (ltb-false now (o + c + k) e)) ∙ driven))
    ] refl

as_asked : (w : Delays) (s : Supervision) (a : Asker) (t : AskedTurn) → IsAsker w a → IsInTime w s a t →
    ((row_of s t.reading).state ≡ R → ⊥) → IsAsAsked s a.on a.last t
as_asked w s a t is h outside = record {
  driven = λ driven. h.driven outside driven
      (in_reach a.on.reading.time a.last.reading.time t.reading.time w.period w.latency w.cut_off a.since t.is_off
      (λ e. ap (λ (u : AskedTurn). u.reading.time) (is.free e)) is.ordered h.in_time h.off driven);
  coasting = h.coasting outside;
}

some_none : {A : Type 0} (n : ℕ) → Some n ≡ None → A
some_none n e = cc

still_asker : (w : Delays) (s : Supervision) (a : Asker) (t : AskedTurn) → IsAsker w a → IsInTime w s a t →
    IsAsker w (after_turn a t)
still_asker w s a t is h =
    elim (t.cuts_off)
    as (λ b. IsAsker w (if b then record { on = a.on; last = t; since = Some (since_or t.reading.time a.since) }
    else record { on = t; last = t; since = None })) [
      | true ↦ record {
        free = λ e. some_none _ e;
        ordered = λ o e. subst (λ (n : ℕ). n ≤ a.on.reading.time + w.period) (same_Some _ _ e)
            (since_in_time a.on.reading.time a.last.reading.time t.reading.time w.period a.since
            (λ e. ap (λ (u : AskedTurn). u.reading.time) (is.free e)) is.ordered h.in_time);
      }
      | false ↦ record { free = λ e. refl; ordered = λ o e. some_none o (sym e) }
    ]

-- what is kept after a turn, whatever it orders
abbrev kept : Asker → AskedTurn → Bool → Asker
kept a t cuts =
    if cuts then record { on = a.on; last = t; since = Some (since_or t.reading.time a.since) }
    else record { on = t; last = t; since = None }

last_is : (a : Asker) (t : AskedTurn) (cuts : Bool) → (kept a t cuts).last ≡ t
last_is a t true = refl
last_is a t false = refl

on_is : (a : Asker) (t : AskedTurn) (cuts : Bool) → (kept a t cuts).on ≡ (if cuts then a.on else t)
on_is a t true = refl
on_is a t false = refl

all_as_asked : (w : Delays) (s : Supervision) (a : Asker) (ts : List AskedTurn) → IsAsker w a → AreInTime w s a ts →
    AreAsAsked s a.on a.last ts
all_as_asked w s a [] is h = tt
all_as_asked w s a (t ∷ ts) is h =
    let next = all_as_asked w (after_reading s t.reading) (after_turn a t) ts (still_asker w s a t is h.0) h.1 in (
      h.0.rule,
      as_asked w s a t is h.0,
      subst (λ (u : AskedTurn). AreAsAsked (after_reading s t.reading) (last_left_on a.on t) u ts) (last_is a t t.cuts_off)
          (subst (λ (u : AskedTurn). AreAsAsked (after_reading s t.reading) u (after_turn a t).last ts) (on_is a t t.cuts_off)
          next),
    )

pub timed_cut_offs : LawOfTimedCutOffs
timed_cut_offs w s on ts o left h =
    cut_offs s on on ts o left
    (all_as_asked w s (begun on) ts (record { free = λ e. refl; ordered = λ o e. some_none o (sym e) }) h)
