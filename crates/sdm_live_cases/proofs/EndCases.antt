-- What the end of a run says of what the peer has, of a program that tells each line again with a semicolon.
use Rattle.std.proofs.Common.{◌≡◌, ◌∙◌, ◌==◌, sym, ap, refl, ℕ, Bool, List, [], ◌∷◌, ◌++◌, codes, false}
use Rattle.std.proofs.lemmas.Bool.{false≢true}
use Rattle.sdm_live.specs.Answers.{IsLiveAnswer}
use Rattle.sdm_live.specs.declared.live.Ended.TheVariants.{Done, ReadFault, WriteFault}
use Rattle.sdm_live.specs.Exchanges.{Gave, Gave_fault, Given_on, Took, Took_fault}
use Rattle.sdm_live.specs.Progress.{Rules, due, whole}

abbrev again : Rules (List ℕ)
again = record { next = λ s line. line; told = λ s. s ++ codes ";"; too_long = codes "!" }

abbrev due_again : List ℕ → List ℕ
due_again = due again []

abbrev whole_again : List ℕ → List ℕ
whole_again = whole again []

-- the end of the input ended the last line, which was answered and given on
whole_input : IsLiveAnswer due_again whole_again [] Done (Given_on ∷ Took (codes "b;") ∷ Gave [] ∷ Gave (codes "b") ∷ [])
whole_input = record { bytes = codes "b"; came_is = refl; sent_is = refl; given_on = refl }

-- the same without the flush
not_given_on : IsLiveAnswer due_again whole_again [] Done (Took (codes "b;") ∷ Gave [] ∷ Gave (codes "b") ∷ []) → ⊥
not_given_on w = absurd (false≢true w.given_on)

-- the same without the answer
not_answered : IsLiveAnswer due_again whole_again [] Done (Given_on ∷ Gave [] ∷ Gave (codes "b") ∷ []) → ⊥
not_answered w = let told = w.sent_is ∙ ap whole_again (sym w.came_is) in absurd cc

-- after a read fault the last line, which has no end, isn't answered
after_read_fault : IsLiveAnswer due_again whole_again [] ReadFault
    (Gave_fault ∷ Given_on ∷ Took (codes "a;") ∷ Gave (codes "a\nb") ∷ [])
after_read_fault = record { bytes = codes "a\nb"; came_is = refl; sent_is = refl; given_on = refl }

-- a read fault with an answer held back, or left out
held_at_read_fault :
    IsLiveAnswer due_again whole_again [] ReadFault (Gave_fault ∷ Took (codes "a;") ∷ Gave (codes "a\n") ∷ []) → ⊥
held_at_read_fault a = absurd (false≢true a.given_on)

unanswered_at_read_fault :
    IsLiveAnswer due_again whole_again [] ReadFault (Gave_fault ∷ Given_on ∷ Gave (codes "a\n") ∷ []) → ⊥
unanswered_at_read_fault a = let told = a.sent_is ∙ ap due_again (sym a.came_is) in absurd cc

-- a write fault in the middle of an answer: what was handed over begins the whole text
cut_off : IsLiveAnswer due_again whole_again [] WriteFault (Took_fault ∷ Took (codes "a") ∷ Gave (codes "a\nb") ∷ [])
cut_off = record { bytes = codes "a\nb"; came_is = refl; begins = (codes ";b;", refl) }

abbrev begins_with_a : List ℕ → Bool
begins_with_a [] = false
begins_with_a (c ∷ cs) = c == 97

-- something else was handed over
no_beginning : IsLiveAnswer due_again whole_again [] WriteFault
    (Took_fault ∷ Took (codes "b") ∷ Gave (codes "a\nb") ∷ []) → ⊥
no_beginning c =
    let told : codes "a;b;" ≡ codes "b" ++ c.begins.0 = ap whole_again c.came_is ∙ c.begins.1 in
    absurd (false≢true (sym (ap begins_with_a told)))
