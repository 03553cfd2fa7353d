-- The data part, from one read to the next.
use Rattle.std.proofs.Common.{◌≡◌, ◌∙◌, ◌<◌, sym, ap, subst, refl, ℕ, List, [], ◌∷◌, ◌++◌, append-nil, append_assoc, true}
use Rattle.std.proofs.Common.{Option, Some, None, length, arith}
use Rattle.std.proofs.Common.{Result, Ok, Err, IfOk, ◌≤◌, ◌-◌, length-append, take}
use Rattle.std.proofs.lemmas.List.{length-take-le}
use Rattle.sdm_live.specs.Exchanges.{Along, Gave, Gave_fault, History, Told, came, is_given_on}
use Rattle.sdm_live_data.specs.Divisions.{HasNoRecords}
use Rattle.sdm_live_data.specs.Waiting.{IsGathered, IsUnanswered, IsWaiting}

pub at_first : (a : Option History) → Told a (λ h. is_given_on h ≡ true) → (bytes : List ℕ) → bytes ≡ [] →
    Along a a (IsGathered bytes)
at_first None told bytes is = tt
at_first (Some h) told bytes is =
    let B : List ℕ → Type 0 = λ xs. IsGathered xs h h in
    subst B (sym is) (record {
      came_is = sym (append-nil (came h));
      sent_is = refl;
      given_on = told;
      prompt = record { asks = []; asks_are = refl; waited = tt };
    })

pub waiting : (bytes : List ℕ) → HasNoRecords bytes → (h k : History) → IsGathered bytes h k → IsWaiting h k
waiting bytes none h k so_far = record {
  bytes = bytes;
  came_is = so_far.came_is;
  sent_is = so_far.sent_is;
  given_on = so_far.given_on;
  no_records = none;
}

-- a piece came
pub gathered_more : (bytes piece : List ℕ) → HasNoRecords bytes → (h k l : History) → IsGathered bytes h k →
    l ≡ Gave piece ∷ k → IsGathered (bytes ++ piece) h l
gathered_more bytes piece none h k l so_far is =
    let A : History → Type 0 = λ l. IsGathered (bytes ++ piece) h l in
    subst A (sym is) (record {
      came_is = ap (λ xs. xs ++ piece) so_far.came_is ∙ append_assoc (came h) bytes piece;
      sent_is = so_far.sent_is;
      given_on = so_far.given_on;
      prompt = record {
        asks = k ∷ so_far.prompt.asks;
        asks_are = ap (λ xs. k ∷ xs) so_far.prompt.asks_are;
        waited = (waiting bytes none h k so_far, so_far.prompt.waited);
      };
    })

-- the peer failed
pub gathered_fault : (bytes : List ℕ) → HasNoRecords bytes → (h k l : History) → IsGathered bytes h k →
    l ≡ Gave_fault ∷ k → IsGathered bytes h l
gathered_fault bytes none h k l so_far is =
    let A : History → Type 0 = λ l. IsGathered bytes h l in
    subst A (sym is) (record {
      came_is = so_far.came_is;
      sent_is = so_far.sent_is;
      given_on = so_far.given_on;
      prompt = record {
        asks = k ∷ so_far.prompt.asks;
        asks_are = ap (λ xs. k ∷ xs) so_far.prompt.asks_are;
        waited = (waiting bytes none h k so_far, so_far.prompt.waited);
      };
    })

pub unanswered : (P : List ℕ → Type 0) (bytes : List ℕ) → P bytes → (h k : History) → IsGathered bytes h k →
    IsUnanswered P h k
unanswered P bytes holds h k so_far =
    record { bytes = bytes; came_is = so_far.came_is; sent_is = so_far.sent_is; holds = holds }

-- the input ended
pub gathered_end : (bytes piece : List ℕ) → HasNoRecords bytes → (h k l : History) → IsGathered bytes h k →
    l ≡ Gave piece ∷ k → piece ≡ [] → IsGathered bytes h l
gathered_end bytes piece none h k l so_far is empty =
    let A : List ℕ → Type 0 = λ xs. IsGathered xs h l in
    subst A (ap (λ xs. bytes ++ xs) empty ∙ append-nil bytes) (gathered_more bytes piece none h k l so_far is)

-- the piece makes the bytes more than a data part may have
pub too_long : (bytes buffer : List ℕ) (n most : ℕ) → n ≤ length buffer → most - length bytes < n →
    most < length (bytes ++ take n buffer)
too_long bytes buffer n most within more =
    let sum = length-append bytes (take n buffer) in
    let size = length-take-le n buffer within in
    omega (arith, sum, size, more)

-- what holds at every division holds at that of an answer
pub if_divided : {A E : Type 0} (result : Result A E) (P : Type 0) → P → IfOk result (λ _. P)
if_divided (Ok a) P p = p
if_divided (Err e) P p = tt
