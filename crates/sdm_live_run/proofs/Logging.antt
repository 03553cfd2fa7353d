-- What a log says after one more call, and of a run that began with an empty one.
use Rattle.std.proofs.Common.{◌≡◌, ◌∙◌, ap, refl, subst, Bool, true, false, List, [], ◌∷◌, ◌++◌, Option, Some, None}
use Rattle.sdm_live.specs.Exchanges.{Along, Exchange, History, Told}
use Rattle.sdm_live_run.specs.declared.memory.Call.{Call}
use Rattle.sdm_live_run.specs.Memory.{exchange_of, history_of, log_onto}

log_last : (h : History) (log : List Call) (call : Call) →
    log_onto h (log ++ call ∷ []) ≡ exchange_of call ∷ log_onto h log
log_last h [] call = refl
log_last h (c ∷ cs) call = log_last (exchange_of c ∷ h) cs call

pub noted : (lost : Bool) (log : List Call) (call : Call) (e : Exchange) → exchange_of call ≡ e →
    Along (history_of lost log) (history_of lost (log ++ call ∷ [])) (λ h k. k ≡ e ∷ h)
noted true log call e is = tt
noted false log call e is = log_last [] log call ∙ ap (λ x. x ∷ log_onto [] log) is

pub lost_now : (lost : Bool) (log log2 : List Call) (e : Exchange) →
    Along (history_of lost log) (history_of true log2) (λ h k. k ≡ e ∷ h)
lost_now true log log2 e = tt
lost_now false log log2 e = tt

-- from the empty history on
pub from_nothing : (o p : Option History) (R : History → History → Type 0) → o ≡ Some [] → Along o p R → Told p (R [])
from_nothing o p R is along = at p (subst (λ (x : Option History). Along x p R) is along)
  where
    at : (p : Option History) → Along (Some []) p R → Told p (R [])
    at None h = tt
    at (Some k) h = h
