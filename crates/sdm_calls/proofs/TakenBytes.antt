-- What bytes that were taken one by one are to a history.
use Rattle.std.proofs.Common.{◌≡◌, ◌∙◌, ap, refl, subst, sym, Bool, true, false, ℕ, List, [], ◌∷◌, ◌++◌, Some, append_assoc, append-nil}
use Rattle.sdm_live.specs.Exchanges.{Along, Exchange, History, Took, sent}
use Rattle.sdm_live.specs.Lines.{Coming}
use Rattle.sdm_live.specs.Progress.{with_bytes, with_end}
use Rattle.sdm_live.specs.Taken.{IsEnded, IsTaken, standing}
use Rattle.sdm_live_records.specs.Live.{LiveState, live_rules}
use Rattle.sdm_calls.specs.TakenBytes.{history_of, taken_onto}

last : (h : History) (text : List ℕ) (b : ℕ) →
    taken_onto h (text ++ b ∷ []) ≡ Took (b ∷ []) ∷ taken_onto h text
last h [] b = refl
last h (c ∷ cs) b = last (Took (c ∷ []) ∷ h) cs b

-- one byte more
pub one_more : (lost : Bool) (text : List ℕ) (b : ℕ) (e : Exchange) → Took (b ∷ []) ≡ e →
    Along (history_of lost text) (history_of lost (text ++ b ∷ [])) (λ h k. k ≡ e ∷ h)
one_more true text b e is = tt
one_more false text b e is = last [] text b ∙ ap (λ x. x ∷ taken_onto [] text) is

-- something else
pub lost_now : (lost : Bool) (text text2 : List ℕ) (e : Exchange) →
    Along (history_of lost text) (history_of true text2) (λ h k. k ≡ e ∷ h)
lost_now true text text2 e = tt
lost_now false text text2 e = tt

-- they are what was handed over
pub sent_onto : (h : History) (text : List ℕ) → sent (taken_onto h text) ≡ sent h ++ text
sent_onto h [] = sym (append-nil (sent h))
sent_onto h (b ∷ bs) = sent_onto (Took (b ∷ []) ∷ h) bs ∙ append_assoc (sent h) (b ∷ []) bs

-- from no byte on, what relates both histories holds of those of the bytes
from_nothing : (R : History → History → Type 0) (begun now : Bool) (none text : List ℕ) → begun ≡ false → none ≡ []
    → now ≡ false → Along (history_of begun none) (history_of now text) R → R [] (taken_onto [] text)
from_nothing R begun now none text b n l h =
    subst (λ (x : Bool). Along (Some []) (history_of x text) R) l
    (subst (λ (x : List ℕ). Along (history_of false x) (history_of now text) R) n
    (subst (λ (x : Bool). Along (history_of x none) (history_of now text) R) b h))

module _ (state : LiveState) (line : Coming) (after : LiveState) (left : Coming) (begun now : Bool) (none text : List ℕ) where
  -- what bytes of records lead to
  pub fed_text : (bytes : List ℕ) → begun ≡ false → none ≡ [] → now ≡ false
      → Along (history_of begun none) (history_of now text) (IsTaken live_rules state line bytes after left)
      → with_bytes live_rules (standing state line []) bytes ≡ standing after left text
  fed_text bytes b n l h =
      (from_nothing (IsTaken live_rules state line bytes after left) begun now none text b n l h).leads
      ∙ ap (standing after left) (sent_onto [] text)

  -- what their end leads to
  pub ended_text : begun ≡ false → none ≡ [] → now ≡ false
      → Along (history_of begun none) (history_of now text) (IsEnded live_rules state line after left)
      → with_end live_rules (standing state line []) ≡ standing after left text
  ended_text b n l h =
      (from_nothing (IsEnded live_rules state line after left) begun now none text b n l h).leads
      ∙ ap (standing after left) (sent_onto [] text)
