-- The rows of a ride are those of the journey of its records: each record that the journey takes leads the ride to the
-- same state, and nothing else changes it.
use Rattle.std.proofs.Common.{◌≡◌, ℕ, suc, List, [], ◌∷◌, refl, subst, sym, ap, ◌∙◌}
use Rattle.std.specs.Prelude.{Result, Ok, Err, map, ⊤}
use Rattle.std.specs.List.{cons_option}
use Rattle.sdm_rules.specs.declared.faults.EventCause.{EventCause}
use Rattle.sdm_rules.specs.declared.faults.EventFault.{EventFault}
use Rattle.sdm_rules.specs.declared.records.Event.{Event}
use Rattle.sdm_rules.specs.Records.{Journey, Turn, go_on, journey_from, row_at, rows_of, step, turn_of, turn_to}
use Rattle.sdm_rules.specs.Supervision.{Supervision}
use Rattle.sdm_ride.specs.Happenings.{Happening, Record, Unread, Overdue, Change, Tick}
use Rattle.sdm_ride.specs.Moments.{Judging, Moment, after}
use Rattle.sdm_ride.specs.Orders.{taken_or}
use Rattle.sdm_ride.specs.RideLaws.{HasNoChange, LawOfRiddenRows, records_of, rows_on}
use Rattle.sdm_ride.proofs.Computers.{leads}

-- each turn begins in the state that the one before it left
abbrev AreTurnsFrom : Supervision → List Turn → Type 0
AreTurnsFrom s [] = ⊤
AreTurnsFrom s (t ∷ ts) = (t.before ≡ s) × (step s t.event ≡ Ok t.after) × AreTurnsFrom t.after ts

-- so do those of a journey
turns_go_on : (n : ℕ) (s : Supervision) (e : Event) (r : Result Supervision EventCause) (rest : Supervision → Journey) →
    step s e ≡ r → ((t : Supervision) → AreTurnsFrom t (rest t).turns) →
    AreTurnsFrom s (go_on n (turn_to s e r) rest).turns
turns_go_on n s e (Ok t) rest is later = (refl, is, later t)
turns_go_on n s e (Err cause) rest is later = tt

turns_read : (n : ℕ) (s : Supervision) (e : Result Event EventFault) (rest : Supervision → Journey) →
    ((t : Supervision) → AreTurnsFrom t (rest t).turns) →
    AreTurnsFrom s (go_on n (turn_of s e) rest).turns
turns_read n s (Ok e) rest later = turns_go_on n s e (step s e) rest refl later
turns_read n s (Err fault) rest later = tt

turns_from : {A : Type 0} (form : ℕ → A → Result Event EventFault) (n : ℕ) (s : Supervision) (xs : List A) →
    AreTurnsFrom s (journey_from form n s xs).turns
turns_from form n s [] = tt
turns_from form n s (x ∷ xs) =
    turns_read n s (form n x) (λ t. journey_from form (suc n) t xs) (λ t. turns_from form (suc n) t xs)

-- ---- the rows

same_head : {A : Type 0} (x y : A) (xs ys : List A) → x ∷ xs ≡ y ∷ ys → x ≡ y
same_head x y xs ys h = cc

same_tail : {A : Type 0} (x y : A) (xs ys : List A) → x ∷ xs ≡ y ∷ ys → xs ≡ ys
same_tail x y xs ys h = cc

-- a record that is taken leads the ride to its state
taken_to : (j : Judging) (m : Moment) (e : Event) (s : Supervision) → step m.supervision e ≡ Ok s →
    (after j m (Record e)).supervision ≡ s
taken_to j m e s is = leads j m (Record e) ∙ ap (taken_or m.supervision) is

-- turns in which the ride's records come in order have its rows
rows_same : (j : Judging) (m : Moment) (ts : List Turn) (hs : List Happening) → HasNoChange hs →
    AreTurnsFrom m.supervision ts → map (λ t. t.event) ts ≡ records_of hs →
    rows_of ts ≡ rows_on j m hs
unfolding after
rows_same j m [] [] none h e = refl
rows_same j m (t ∷ ts) [] none h e = absurd cc
rows_same j m [] (Record x ∷ hs) none h e = absurd cc
rows_same j m (t ∷ ts) (Record x ∷ hs) none h e =
    let first = same_head t.event x (map (λ t. t.event) ts) (records_of hs) e in
    let rest = same_tail t.event x (map (λ t. t.event) ts) (records_of hs) e in
    let before = h.0 in
    let goes : step m.supervision x ≡ Ok t.after = subst (λ (y : Event). step m.supervision y ≡ Ok t.after) first
    h.1 in
    let state = taken_to j m x t.after goes in
    let later = rows_same j (after j m (Record x)) ts hs none
    (subst (λ (s : Supervision). AreTurnsFrom s ts) (sym state) h.2) rest in
    rw (before, first) (ap (λ rows. cons_option (row_at m.supervision x) rows) later)
rows_same j m ts (Unread ∷ hs) none h e = rows_same j m ts hs none h e
rows_same j m ts (Overdue ∷ hs) none h e = rows_same j (after j m Overdue) ts hs none h e
rows_same j m ts (Change next ∷ hs) none h e = absurd none
rows_same j m ts (Tick to length ∷ hs) none h e = rows_same j (after j m (Tick to length)) ts hs none h e

-- the law of ridden rows
pub ridden_rows : {A : Type 0} → LawOfRiddenRows A
ridden_rows form n j m xs hs none e =
    rows_same j m (journey_from form n m.supervision xs).turns hs none (turns_from form n m.supervision xs) e
