-- `discard` lets two words go.
use Rattle.std.proofs.Common.{◌≡◌, List, [], ◌∷◌, ◌++◌, refl, sym, subst}
use mir.Val.{Val, vunit}
use base.Logic.{ent, emp, id⊢}
use base.Fml.{ftrue, fsep}
use prog.Wp.{WpFn}
use contract.Monad.{fact}
use contract.Running.{tables}
use types.Kit.{Item, ‵, raw, ◌⊛◌, ◌$◌, ◌∵◌, !, qed, by, drop, move, use0, split, keep, feq_i, fjoin}
use types.Run.{of_opd, unit_lit, returns, enter}
use types.ByLocal.{alloc_all, pass_all, free_all, look_at, sets}
use denote.Exit.{yes}
use denote.Steps.{nothing}
use denote.Triple.Walked.{Stays, stay_dropped, walk_of, Goes-dropped}
use Rattle.std.proofs.raw_atomic.Walks.{proved_at, leaves}
use Rattle.sdm_calls.proofs.LiveSteps.{Row, FromLive, both, told, typed}
use Rattle.sdm_calls.specs.contracts.live_handles.Live.discard as f
use Rattle.sdm_calls.proofs.live_handles.Live.discard.Statement.{statement}
use Rattle.sdm_calls.proofs.live_handles.Live.discard.Code as code

abbrev stayed : Stays (f.ended).signature.params (f.ended).kept
stayed = (stay_dropped FromLive yes, tt)

pub discard_spec : {M : Type 1} → statement M
discard_spec 𝓤 𝓛 𝓜 𝓡 wired =
    let c = f.clauses 𝓛 𝓜.mem 𝓡.returns in let W = walk_of 𝓛 f.ended stayed c in let 𝓣 = tables 𝓤 𝓛.H 𝓜 𝓡 𝓡.env in
    proved_at 𝓛 f.ended stayed c 𝓜 𝓡 (Goes-dropped 𝓛 0 FromLive yes (λ κs x g. refl), tt) f.Key.name code.function
    (code.unfolded 𝓤 𝓛.H 𝓜 𝓡 wired) (λ z are.
    let h = z.0.3.0 in let tells = told h z.0.4.0 are.0 in
    qed 𝓛 ((‵ ftrue ⊛ ‵ (fsep (Row.own_val h z.0.4.0) ftrue)) ∷ raw (fact 𝓤 (¬ (h.is_open ≡ 1))) ∷ []) ∵ split ! $
    drop ! $ drop ! $ drop ! $
    by ! (subst (λ (ws : List Val). ent 𝓤 (types.Kit.⋆ 𝓛 []) (WpFn 𝓤 𝓛.H 𝓣.C 𝓣.Λ code.function ws (W.post z)))
    (sym (λ i. tells.0 i ++ []))
    (qed 𝓛 [] ∵ enter ! 𝓣.C 𝓣.Λ code.function (both h.at h.is_open ∷ []) _ $
    alloc_all ! (λ ls. pass_all ! refl (typed h.at h.is_open tells.1, tt) $
    sets ! (of_opd ! (unit_lit !)) refl (tt, tt) $ returns ! (look_at ! 0 refl) $ free_all ! refl $
    use0 𝓛 (raw (emp 𝓤)) (id⊢ 𝓤 _) $ feq_i ! _ (vunit ∷ []) _ refl $ nothing ! $ nothing ! $ fjoin ! $ nothing ! $
    keep ! (0 ∷ 1 ∷ 2 ∷ 3 ∷ []) $ by ! (leaves 𝓛 f.ended stayed c z vunit tt (tt, tt) (tt, tt))))))
