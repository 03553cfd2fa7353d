-- `closed` makes a handle that owns nothing.
use Rattle.std.proofs.Common.{[], ◌∷◌, refl, lit<}
use base.Logic.{emp}
use base.Fml.{ftrue}
use contract.Running.{tables}
use types.Kit.{‵, raw, ◌⊛◌, ◌$◌, ◌∵◌, !, qed, drop, split, join, suffices, done}
use types.Part.{agg}
use types.Run.{lit, no_more, and_then, returns, enter}
use types.ByLocal.{alloc_all, pass_all, free_all, look_at, sets}
use denote.RawPtr.{null_ptr}
use denote.Steps.{nothing}
use denote.Triple.Walked.{Stays, says, ends_at}
use Rattle.std.proofs.raw_atomic.Walks.{proved_at}
use Rattle.sdm_calls.specs.declared.live_handles.Live.{Live}
use Rattle.sdm_calls.proofs.LiveSteps.{none, both, typed, handle_in}
use Rattle.sdm_calls.specs.contracts.live_handles.Live.closed as f
use Rattle.sdm_calls.proofs.live_handles.Live.closed.Statement.{statement}
use Rattle.sdm_calls.proofs.live_handles.Live.closed.Code as code

abbrev stayed : Stays (f.ended).signature.params (f.ended).kept
stayed = tt

pub closed_spec : {M : Type 1} → statement M
closed_spec 𝓤 𝓛 𝓜 𝓡 wired =
    let c = f.clauses 𝓛 𝓜.mem 𝓡.returns in let 𝓣 = tables 𝓤 𝓛.H 𝓜 𝓡 𝓡.env in
    proved_at 𝓛 f.ended stayed c 𝓜 𝓡 tt f.Key.name code.function (code.unfolded 𝓤 𝓛.H 𝓜 𝓡 wired) (λ z are.
    let made : Live = record { at = null_ptr; is_open = 0; state = none } in
    qed 𝓛 ((‵ ftrue ⊛ ‵ ftrue) ∷ raw (emp 𝓤) ∷ []) ∵ split ! $ drop ! $ drop ! $ drop ! $
    enter ! 𝓣.C 𝓣.Λ code.function [] _ $ alloc_all ! (λ ls. pass_all ! refl tt $
    sets ! (agg ! (and_then ! (lit ! tt) (and_then ! (lit ! tt) (no_more !)))) refl
    (typed made.at made.is_open (lit< tt)) $
    returns ! (look_at ! 0 refl) $ free_all ! refl $ nothing ! $ handle_in ! made (lit< tt) $
    suffices ! _ (ends_at 𝓛 f.ended stayed c z (both made.at made.is_open) made tt tt) $
    says ! (record { at = refl; is_open = refl }) $
    nothing ! $ join ! $ nothing ! $ join ! $ done !))
