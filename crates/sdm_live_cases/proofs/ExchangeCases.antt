-- Histories of calls, the newest first, and what each call was.
use Rattle.std.proofs.Common.{◌≡◌, refl, [], ◌∷◌, Some, None, Ok, Err, Result, ℕ, codes, true, false}
use Rattle.sdm_live.specs.Exchanges.{Along, Gave, Gave_fault, Given_on, Held_fault, History, Told, Took}
use Rattle.sdm_live.specs.Exchanges.{Took_fault, asked, asked_at, came, flushed, handed, is_given_on, sent}

-- bytes came and went in the order of the calls, and each to its own
abbrev both_ways : History
both_ways = Took (codes "d") ∷ Gave (codes "b") ∷ Took (codes "c") ∷ Gave (codes "a") ∷ []

came_in_order : came both_ways ≡ codes "ab"
came_in_order = refl

sent_in_order : sent both_ways ≡ codes "cd"
sent_in_order = refl

-- each ask counts, also one that failed or found the end, with what was before it
asks : asked_at (Gave_fault ∷ Gave [] ∷ Took (codes "c") ∷ Gave (codes "a") ∷ [])
    ≡ (Gave [] ∷ Took (codes "c") ∷ Gave (codes "a") ∷ []) ∷ (Took (codes "c") ∷ Gave (codes "a") ∷ []) ∷ [] ∷ []
asks = refl

-- a call that failed brought nothing and took nothing
nothing_of_faults : came (Gave_fault ∷ Took_fault ∷ Held_fault ∷ []) ≡ []
nothing_of_faults = refl

nothing_taken : sent (Gave_fault ∷ Took_fault ∷ Held_fault ∷ []) ≡ []
nothing_taken = refl

-- what was taken is held back until it is given on, and after a flush that failed it isn't known to be given on
held_back : is_given_on (Gave (codes "b") ∷ Took (codes "c") ∷ Given_on ∷ []) ≡ false
held_back = refl

given_on : is_given_on (Gave_fault ∷ Took_fault ∷ Given_on ∷ Took (codes "c") ∷ []) ≡ true
given_on = refl

held_after_fault : is_given_on (Held_fault ∷ Given_on ∷ []) ≡ false
held_after_fault = refl

-- of a buffer only the bytes that were given count, and of a piece those that were taken
abbrev one_of : Result ℕ ℕ
one_of = Ok 1

abbrev fault : Result ℕ ℕ
fault = Err 0

calls : asked one_of (codes "ab") ∷ asked fault (codes "ab") ∷ handed one_of (codes "cd") ∷ handed fault (codes "cd")
    ∷ flushed one_of ∷ flushed fault ∷ []
    ≡ Gave (codes "a") ∷ Gave_fault ∷ Took (codes "c") ∷ Took_fault ∷ Given_on ∷ Held_fault ∷ []
calls = refl

-- a peer that tells its history says something of it, and one that told none doesn't begin to
tells : Told (Some both_ways) (λ h. sent h ≡ []) → ⊥
tells told = absurd cc

goes_on : Along (Some both_ways) (Some []) (λ h k. came k ≡ came h) → ⊥
goes_on along = absurd cc

begins_none : Along None (Some []) (λ h k. came k ≡ came h) → ⊥
begins_none along = along
