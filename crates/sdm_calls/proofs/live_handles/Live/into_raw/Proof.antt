-- `into_raw` moves the pointer, and what it owns goes with it.
use Rattle.std.proofs.Common.{◌≡◌, ℕ, List, [], ◌∷◌, ◌++◌, refl, sym, ◌∙◌, subst, lit<}
use mir.Val.{Val}
use base.Logic.{ent}
use base.Fml.{ftrue, fsep}
use prog.Wp.{WpFn}
use contract.Monad.{fact}
use contract.Running.{tables}
use types.Kit.{Item, ‵, raw, ◌⊛◌, ◌$◌, ◌∵◌, !, qed, by, move, drop, join, split, fsplit, fjoin, rewrite, suffices, done}
use types.Part.{whole, sub, agg}
use types.Run.{stop, fld, no_more, and_then, of_opd, returns, enter}
use types.ByLocal.{alloc_all, pass_all, free_all, look_at, get, get_in, sets}
use denote.Exit.{yes}
use denote.RawPtr.{block_ptr, in_a_block}
use denote.Steps.{nothing, heard}
use denote.Triple.Walked.{Stays, stay_dropped, walk_of, says, ends_at, Goes-dropped}
use Rattle.std.proofs.raw_atomic.Walks.{proved_at}
use Rattle.sdm_calls.specs.declared.sessions.Session.{Session}
use Rattle.sdm_calls.specs.contracts.sessions.Session as Low
use Rattle.sdm_calls.specs.Held.{held}
use Rattle.sdm_calls.specs.declared.raw_boxes.RawBox.{RawBox}
use Rattle.sdm_calls.proofs.LiveSteps.{Row, FromLive, both, told, typed}
use Rattle.sdm_calls.proofs.RawBoxSteps as raw_box
use Rattle.sdm_calls.specs.contracts.live_handles.Live.into_raw as f
use Rattle.sdm_calls.proofs.live_handles.Live.into_raw.Statement.{statement}
use Rattle.sdm_calls.proofs.live_handles.Live.into_raw.Code as code

abbrev stayed : Stays (f.ended).signature.params (f.ended).kept
stayed = (stay_dropped FromLive yes, tt)

pub into_raw_spec : {M : Type 1} → statement M
into_raw_spec 𝓤 𝓛 𝓜 𝓡 wired =
    let c = f.clauses 𝓛 𝓜.mem 𝓡.returns in let W = walk_of 𝓛 f.ended stayed c in let 𝓣 = tables 𝓤 𝓛.H 𝓜 𝓡 𝓡.env in
    proved_at 𝓛 f.ended stayed c 𝓜 𝓡 (Goes-dropped 𝓛 0 FromLive yes (λ κs x g. refl), tt) f.Key.name code.function
    (code.unfolded 𝓤 𝓛.H 𝓜 𝓡 wired) (λ z are.
    let h = z.0.3.0 in let vs = z.0.4.0 in
    qed 𝓛 ((‵ ftrue ⊛ ‵ (fsep (Row.own_val h vs) ftrue)) ∷ raw (fact 𝓤 (h.is_open ≡ 1)) ∷ []) ∵
    move ! (1 ∷ []) $ heard ! (h.is_open ≡ 1) (λ is_one. split ! $ drop ! $ fsplit ! $ fsplit ! $ drop ! $
    rewrite ! 0 (λ (n : ℕ). ‵ (held n h.at h.state)) is_one refl $
    in_a_block ! h.at (λ p. held 1 p h.state) (raw_box.at_null Low.the_row 𝓛 h.state) (λ b o e.
    let made : RawBox Session = record { at = block_ptr b o; value = h.state } in
    raw_box.raw_in Low.the_row ! made $ move ! (1 ∷ []) $ drop ! $
    let Γ : List (Item 𝓤) = ‵ ((raw_box.Row Low.the_row).own_val made (raw_box.word made.at ∷ [])) ∷ [] in
    let is = (told h vs are.0).0 ∙ (λ i. both (e i) (is_one i) ∷ []) in
    by ! (subst (λ (us : List Val). ent 𝓤 (types.Kit.⋆ 𝓛 Γ) (WpFn 𝓤 𝓛.H 𝓣.C 𝓣.Λ code.function (us ++ []) (W.post z)))
    (sym is)
    (qed 𝓛 Γ ∵ enter ! 𝓣.C 𝓣.Λ code.function (both (block_ptr b o) 1 ∷ []) _ $
    alloc_all ! (λ ls. pass_all ! refl (typed (block_ptr b o) 1 (lit< tt), tt) $
    sets ! (of_opd ! (get_in ! (fld ! refl (stop !)) (sub ! 0 refl (whole !)))) refl (tt, tt) $
    sets ! (of_opd ! (get ! refl)) refl (tt, tt) $
    sets ! (agg ! (and_then ! (get ! refl) (no_more !))) refl (raw_box.typed Low.the_row made.at) $
    returns ! (look_at ! 0 refl) $ free_all ! refl $
    suffices ! _ (ends_at 𝓛 f.ended stayed c z (raw_box.word made.at) made (tt, tt) (tt, tt)) $ says ! refl $
    nothing ! $ nothing ! $ fjoin ! $ join ! $ nothing ! $ join ! $ done !))))))
