-- What is due of a text, and histories of a program that tells each line again with a semicolon.
use Rattle.std.proofs.Common.{◌≡◌, ◌∙◌, ◌==◌, sym, ap, subst, refl, ℕ, Bool, List, [], ◌∷◌, ◌++◌, append-nil, codes, false}
use Rattle.std.proofs.lemmas.Bool.{false≢true}
use Rattle.std.specs.List.{AllByRecursion}
use Rattle.sdm_live.specs.Exchanges.{Gave, Given_on, History, IsAnswered, IsPrompt, Took, asked_at, came, sent}
use Rattle.sdm_live.specs.Progress.{Rules, due, whole}

abbrev again : Rules (List ℕ)
again = record { next = λ s line. line; told = λ s. s ++ codes ";"; too_long = codes "!" }

abbrev due_again : List ℕ → List ℕ
due_again = due again []

-- a line is due once its end has come, and not before
nothing_due : due_again (codes "ab") ≡ []
nothing_due = refl

one_line_due : due_again (codes "ab\nc") ≡ codes "ab;"
one_line_due = refl

-- the end of the input ends the last line
two_lines : whole again [] (codes "ab\nc") ≡ codes "ab;c;"
two_lines = refl

-- one answer for each line, none for an empty one
three_due : due_again (codes "a\n\r\nb\nc\n") ≡ codes "a;b;c;"
three_due = refl

-- the line came, its answer was handed over and given on, and then more was asked for
abbrev answered : History
answered = Given_on ∷ Took (codes "ab;") ∷ Gave (codes "ab\n") ∷ []

prompt : IsPrompt due_again [] (Gave [] ∷ answered)
prompt = record {
  asks = answered ∷ [] ∷ [];
  asks_are = refl;
  answered = (
    record { bytes = codes "ab\n"; came_is = refl; sent_is = refl; given_on = refl },
    (record { bytes = []; came_is = refl; sent_is = refl; given_on = refl }, tt),
  );
}

-- so it is when the line comes in two pieces, between which nothing is due
in_pieces : IsPrompt due_again [] (Gave (codes "b\n") ∷ Gave (codes "a") ∷ [])
in_pieces = record {
  asks = (Gave (codes "a") ∷ []) ∷ [] ∷ [];
  asks_are = refl;
  answered = (
    record { bytes = codes "a"; came_is = refl; sent_is = refl; given_on = refl },
    (record { bytes = []; came_is = refl; sent_is = refl; given_on = refl }, tt),
  );
}

-- what was answered whenever more was asked for was so at the last time
last_ask : (before : History) → IsPrompt due_again [] (Gave [] ∷ before) → IsAnswered due_again [] before
last_ask before p =
    let asks : p.asks ≡ before ∷ asked_at before = sym (append-nil p.asks) ∙ sym p.asks_are in
    let A : List History → Type 0 = λ asks. AllByRecursion (IsAnswered due_again []) asks in
    (subst A asks p.answered).0

-- asked for before the answer was given on: not prompt
not_flushed : IsPrompt due_again [] (Gave [] ∷ Took (codes "ab;") ∷ Gave (codes "ab\n") ∷ []) → ⊥
not_flushed p = absurd (false≢true (last_ask _ p).given_on)

-- what is answered is what was handed over of the bytes that came
told_is : (before : History) → IsAnswered due_again [] before → sent before ≡ due_again (came before)
told_is before a = a.sent_is ∙ ap due_again (sym a.came_is)

-- the answer left out: not prompt
left_out : IsPrompt due_again [] (Gave [] ∷ Given_on ∷ Gave (codes "ab\n") ∷ []) → ⊥
left_out p = let told = told_is _ (last_ask _ p) in absurd cc

-- two answers to one line: not prompt
told_twice : IsPrompt due_again [] (Gave [] ∷ Given_on ∷ Took (codes "ab;ab;") ∷ Gave (codes "ab\n") ∷ []) → ⊥
told_twice p = let told = told_is _ (last_ask _ p) in absurd cc

-- answered before it came: not prompt
too_early : IsPrompt due_again [] (Gave [] ∷ Given_on ∷ Took (codes "ab;") ∷ Gave (codes "ab") ∷ []) → ⊥
too_early p = let told = told_is _ (last_ask _ p) in absurd cc

abbrev begins_with_a : List ℕ → Bool
begins_with_a [] = false
begins_with_a (c ∷ cs) = c == 97

-- the answers of two lines in the wrong order: not prompt
out_of_order : IsPrompt due_again [] (Gave [] ∷ Given_on ∷ Took (codes "b;a;") ∷ Gave (codes "a\nb\n") ∷ []) → ⊥
out_of_order p = absurd (false≢true (ap begins_with_a (told_is _ (last_ask _ p))))

-- what was answered at each time was so at the time before the last, too
ask_before : (before earlier : History) → asked_at before ≡ earlier ∷ asked_at earlier →
    IsPrompt due_again [] (Gave [] ∷ before) → IsAnswered due_again [] earlier
ask_before before earlier is p =
    let asks : p.asks ≡ before ∷ earlier ∷ asked_at earlier =
    sym (append-nil p.asks) ∙ (sym p.asks_are ∙ ap (λ xs. before ∷ xs) is) in
    let A : List History → Type 0 = λ asks. AllByRecursion (IsAnswered due_again []) asks in
    (subst A asks p.answered).1.0

-- asked for once before the answer, though all was given on by the next time: not prompt
late : IsPrompt due_again []
    (Gave [] ∷ Given_on ∷ Took (codes "ab;") ∷ Gave (codes "c") ∷ Gave (codes "ab\n") ∷ []) → ⊥
late p = let told = told_is _ (ask_before _ (Gave (codes "ab\n") ∷ []) refl p) in absurd cc
