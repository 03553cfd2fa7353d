-- Divisions of bytes that more may follow, and what a peer has while the data part is read.
use Rattle.std.proofs.Common.{refl, [], ◌∷◌, codes, false}
use Rattle.std.proofs.lemmas.Bool.{false≢true}
use Rattle.sdm_data.specs.Division.{divide}
use Rattle.sdm_live.specs.Exchanges.{Gave, Given_on, Took}
use Rattle.sdm_live_data.specs.Divisions.{HasNoRecords, IsDivision}
use Rattle.sdm_live_data.specs.Waiting.{IsWaiting}

-- a dividing line that nothing ends yet may become another line
not_divided_yet : IsDivision (codes "a\n%%") (record { data_end = 2; records_start = 4; is_end = false }) → ⊥
unfolding divide
not_divided_yet d = let more = d.divided (codes "x\n") in absurd cc

-- a record has begun with the first byte after the dividing line
begun : HasNoRecords (codes "a\n%%\nb") → ⊥
unfolding divide
begun none = let after = none 2 5 refl in absurd cc

-- so the program isn't waiting any more
not_waiting : IsWaiting [] (Gave (codes "a\n%%\nb") ∷ []) → ⊥
not_waiting w = begun (subst_came w)
  where
    subst_came : (w : IsWaiting [] (Gave (codes "a\n%%\nb") ∷ [])) → HasNoRecords (codes "a\n%%\nb")
    subst_came w = rw w.came_is w.no_records

-- nor where something was handed over, or is held back
told_something : IsWaiting [] (Given_on ∷ Took (codes "x") ∷ Gave (codes "a") ∷ []) → ⊥
told_something w = let told = w.sent_is in absurd cc

held_something : IsWaiting [] (Took [] ∷ Gave (codes "a") ∷ []) → ⊥
held_something w = absurd (false≢true w.given_on)
