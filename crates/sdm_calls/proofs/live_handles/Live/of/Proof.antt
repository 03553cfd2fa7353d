-- `of` moves the pointer, and what it owns goes with it.
use Rattle.std.proofs.Common.{List, [], ◌∷◌, ◌++◌, refl, sym, subst, lit<}
use mir.Val.{Val}
use base.Logic.{ent, emp, id⊢}
use base.Fml.{ftrue, fsep}
use prog.Wp.{WpFn}
use contract.Running.{tables}
use types.Kit.{Item, ‵, raw, ◌⊛◌, ◌$◌, ◌∵◌, !, qed, by, move, drop, use1, join, split, fsplit, fjoin, suffices, done}
use types.Part.{whole, sub, agg}
use types.Run.{stop, fld, lit, no_more, and_then, of_opd, returns, enter}
use types.ByLocal.{alloc_all, pass_all, free_all, look_at, get, get_in, sets}
use denote.Exit.{yes}
use denote.RawPtr.{block_ptr}
use denote.Steps.{nothing}
use denote.Triple.Walked.{Stays, stay_dropped, walk_of, ends_at, Goes-dropped}
use Rattle.std.proofs.mem.Facts.{says_two}
use Rattle.std.proofs.raw_atomic.Walks.{proved_at}
use Rattle.sdm_calls.specs.contracts.sessions.Session as Low
use Rattle.sdm_calls.specs.Held.{held}
use Rattle.sdm_calls.specs.declared.live_handles.Live.{Live}
use Rattle.sdm_calls.proofs.LiveSteps.{FromRaw, both, typed, handle_in}
use Rattle.sdm_calls.proofs.RawBoxSteps as raw_box
use Rattle.sdm_calls.specs.contracts.live_handles.Live.of as f
use Rattle.sdm_calls.proofs.live_handles.Live.of.Statement.{statement}
use Rattle.sdm_calls.proofs.live_handles.Live.of.Code as code

abbrev stayed : Stays (f.ended).signature.params (f.ended).kept
stayed = (stay_dropped FromRaw yes, tt)

pub of_spec : {M : Type 1} → statement M
of_spec 𝓤 𝓛 𝓜 𝓡 wired =
    let c = f.clauses 𝓛 𝓜.mem 𝓡.returns in let W = walk_of 𝓛 f.ended stayed c in let 𝓣 = tables 𝓤 𝓛.H 𝓜 𝓡 𝓡.env in
    proved_at 𝓛 f.ended stayed c 𝓜 𝓡 (Goes-dropped 𝓛 0 FromRaw yes (λ κs x g. refl), tt) f.Key.name code.function
    (code.unfolded 𝓤 𝓛.H 𝓜 𝓡 wired) (λ z are.
    let r = z.0.3.0 in
    qed 𝓛 ((‵ ftrue ⊛ ‵ (fsep ((raw_box.Row Low.the_row).own_val r z.0.4.0) ftrue)) ∷ raw (emp 𝓤) ∷ []) ∵ split ! $
    drop ! $ fsplit ! $
    raw_box.raw_out Low.the_row ! r z.0.4.0 (λ b o e ws.
    let made : Live = record { at = block_ptr b o; is_open = 1; state = r.value } in
    use1 𝓛 (‵ (held made.is_open made.at made.state)) (id⊢ 𝓤 _) $ move ! (1 ∷ 2 ∷ []) $ drop ! $ drop ! $
    let Γ : List (Item 𝓤) = ‵ (held made.is_open made.at made.state) ∷ [] in
    by ! (subst (λ (us : List Val). ent 𝓤 (types.Kit.⋆ 𝓛 Γ) (WpFn 𝓤 𝓛.H 𝓣.C 𝓣.Λ code.function (us ++ []) (W.post z)))
    (sym ws)
    (qed 𝓛 Γ ∵ enter ! 𝓣.C 𝓣.Λ code.function (raw_box.word (block_ptr b o) ∷ []) _ $
    alloc_all ! (λ ls. pass_all ! refl (raw_box.typed Low.the_row (block_ptr b o), tt) $
    sets ! (of_opd ! (get_in ! (fld ! refl (stop !)) (sub ! 0 refl (whole !)))) refl (tt, tt) $
    sets ! (of_opd ! (get ! refl)) refl (tt, tt) $
    sets ! (agg ! (and_then ! (get ! refl) (and_then ! (lit ! tt) (no_more !)))) refl
    (typed made.at made.is_open (lit< tt)) $
    returns ! (look_at ! 0 refl) $ free_all ! refl $ handle_in ! made (lit< tt) $
    suffices ! _ (ends_at 𝓛 f.ended stayed c z (both made.at made.is_open) made (tt, tt) (tt, tt)) $
    says_two ! (refl, refl) $
    nothing ! $ nothing ! $ fjoin ! $ join ! $ nothing ! $ join ! $ done !)))))
