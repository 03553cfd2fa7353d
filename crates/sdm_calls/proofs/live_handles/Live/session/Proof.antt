-- `low` lends what the pointer leads to, and the handle follows it.
use Rattle.std.proofs.Common.{◌≡◌, ℕ, ◌<◌, ◌^◌, List, [], ◌∷◌, refl, sym, ◌∙◌}
use seplogic.Ra.Ura.{Ura}
use base.Fraction.{full_share}
use base.Logic.{ent, sep, id⊢, never, fst∗}
use base.Fml.{GName, Fml, ftrue, fsep, flft}
use mir.Raw.{raw as bare}
use mir.Syntax.{named}
use mir.Val.{Val, vptr}
use contract.Monad.{fact}
use contract.Running.{tables}
use types.Logic.{Logic, sem}
use types.Kit.{‵, raw, ◌⊛◌, some, later, at_ret, ◌$◌, ◌∵◌, !, qed, move, keep, drop, use1, split, join, fsplit, fsplit3}
use types.Kit.{fjoin, fpack, pick, await, rewrite, suffices, frame, group, done}
use types.Part.{whole, sub, look_in}
use types.Run.{stop, fld, load, addr, of_opd, first, blocks, exec, returns, enter}
use types.ByLocal.{alloc_all, pass_all, free_all, look_at, get, through, sets, sets_last, env}
use denote.Exit.{no}
use denote.Follow.{follows, Part, lends_Part}
use denote.Laws.{Is, shows}
use denote.Memory.{cell_at, part_at, part_of, mem}
use denote.Param.{layout}
use denote.RattleType.{RattleType}
use denote.RawPtr.{Ptr, block_ptr, null_ptr, in_a_block}
use denote.Ref.{MutBor, MutRef, mut_vals, mut_Tells}
use denote.Signature.{plain, mut_ref_to}
use denote.Steps.{nothing, opens, peeks, heard}
use denote.Triple.Walked.{Stays, stay_dropped, walk_of, says, ends_at, Goes-spent_ref}
use Rattle.std.proofs.VecSteps.Shapes.{after}
use Rattle.std.proofs.raw_atomic.Walks.{proved}
use Rattle.sdm_calls.specs.declared.sessions.Session.{Session}
use Rattle.sdm_calls.specs.contracts.sessions.Session as Low
use Rattle.sdm_calls.specs.Held.{held}
use Rattle.sdm_calls.specs.Heap.{free_right}
use Rattle.sdm_calls.specs.Lending.{with_state}
use Rattle.sdm_calls.specs.declared.live_handles.Live.{Live}
use Rattle.sdm_calls.proofs.LiveSteps.{Row, both, told, handle_in}
use Rattle.sdm_calls.specs.contracts.live_handles.Live.session as f
use Rattle.sdm_calls.proofs.live_handles.Live.session.Statement.{statement}
use Rattle.sdm_calls.proofs.live_handles.Live.session.Code as code

abbrev stayed : Stays (f.ended).signature.params (f.ended).kept
stayed = (stay_dropped (mut_ref_to (0 ∷ []) tt (plain (λ _. Row))) no, tt)

abbrev R : RattleType
R = Low.the_row

module _ {M : Type 1} {𝓤 : Ura M} (𝓛 : Logic 𝓤) (h : Live) (fits : h.is_open < 2 ^ 32) (is_one : h.is_open ≡ 1)
    (b o rb ro : ℕ) (e : h.at ≡ block_ptr b o) where
  -- all of the handle but the session
  abbrev Rest : Fml
  Rest = fsep (free_right (bare (layout R)) (block_ptr b o))
      (cell_at full_share Row.mir (both (block_ptr b o) 1 ∷ []) rb ro)

  told_word : both h.at h.is_open ∷ [] ≡ both (block_ptr b o) 1 ∷ []
  told_word = λ i. both (e i) (is_one i) ∷ []

  back : (w : Session) → ent 𝓤 (sep 𝓤 (sem 𝓛 ((mem R).own_at w b o)) (sem 𝓛 Rest))
      (sem 𝓛 ((mem Row).own_at (with_state h w) rb ro))
  unfolding part_of
  back w =
      qed 𝓛 (‵ (part_at R full_share w b o) ∷ ‵ Rest ∷ []) ∵ move ! (1 ∷ []) $ fsplit ! $ move ! (2 ∷ 0 ∷ []) $
      fjoin ! $
      use1 𝓛 (‵ (held 1 (block_ptr b o) w)) (id⊢ 𝓤 _) $ rewrite ! 0 (λ (p : Ptr). ‵ (held 1 p w)) (sym e) refl $
      rewrite ! 0 (λ (n : ℕ). ‵ (held n h.at w)) (sym is_one) refl $
      handle_in ! (with_state h w) fits $ move ! (1 ∷ []) $
      rewrite ! 0 (λ (ws : List Val). ‵ (cell_at full_share Row.mir ws rb ro)) (sym told_word) refl $ fjoin ! $
      fpack ! (List Val) (λ us. fsep (cell_at full_share Row.mir us rb ro) (Row.own_val (with_state h w) us))
      (both h.at h.is_open ∷ []) $ done !

pub session_spec : {M : Type 1} → statement M
session_spec 𝓤 𝓛 𝓜 𝓡 wired =
    let c = f.clauses 𝓛 𝓜.mem 𝓡.returns in let W = walk_of 𝓛 f.ended stayed c in let 𝓣 = tables 𝓤 𝓛.H 𝓜 𝓡 𝓡.env in
    proved 𝓛 f.ended stayed c 𝓜 𝓡 (Goes-spent_ref 𝓛 1 (0 ∷ []) tt (plain (λ _. Row)), tt) f.Key.name code.function
    (code.unfolded 𝓤 𝓛.H 𝓜 𝓡 wired)
    (λ κs. (mut_vals, tt)) (λ κs. (mut_Tells (named 0) κs.0 Row, tt)) (λ κs qs bounds a _ are.
    let κ = κs.0 in let q = qs.0 in let rb = a.0.ref_ptr.0 in let ro = a.0.ref_ptr.1 in let γ = a.0.ghost_name in
    let h = a.0.now in let vs = mut_vals a.0 in
    let y : W.Ghost = ((κs, qs, bounds, a, (vs, tt)), tt) in
    qed 𝓛 (((‵ (flft κ q) ⊛ ‵ ftrue) ⊛ ‵ ((MutRef (named 0) κ Row).own_val a.0 vs) ⊛ ‵ ftrue) ∷ raw
    (fact 𝓤 (h.is_open ≡ 1)) ∷ []) ∵
    move ! (1 ∷ []) $ heard ! (h.is_open ≡ 1) (λ is_one. split ! $ split ! $ move ! (2 ∷ []) $ split ! $
    keep ! (0 ∷ 2 ∷ []) $
    enter ! _ _ _ _ _ $ alloc_all ! (λ l. pass_all ! refl ((tt, tt), tt) $
    fsplit3 ! $ drop ! $ opens ! tt Row rb ro (λ us.
    move ! (1 ∷ []) $ peeks ! Row (Is Row) (shows 𝓛 Row) h us (λ is. let tells = told h us is in
    fsplit ! $ drop ! $ rewrite ! 0 (λ (n : ℕ). ‵ (held n h.at h.state)) is_one refl $
    in_a_block ! h.at (λ p. held 1 p h.state) (fst∗ 𝓤 (never 𝓤) (sem 𝓛 (free_right (bare (layout R)) null_ptr)))
    (λ b o e.
    fsplit ! $ rewrite ! 2 (λ (ws : List Val). ‵ (cell_at full_share Row.mir ws rb ro))
    (tells.0 ∙ (λ i. both (e i) (is_one i) ∷ [])) refl $
    -- [the session; the right to free its block; the handle's cell; the open borrow, in three entries]
    first ! $ blocks ! $
    sets ! (of_opd ! (load ! (through ! refl (fld ! refl (stop !))) (look_in ! 2 (sub ! 0 refl (whole !))))) refl
    (tt, tt) $
    sets ! (of_opd ! (get ! refl)) refl (tt, tt) $
    sets_last ! (addr ! (through ! refl (stop !))) refl (tt, tt) $
    exec ! 𝓣.C 𝓣.Λ (env code.Mir.locals l) (after 1 (code.function).body) (at_ret _ (W.post y)) $
    sets ! (of_opd ! (get ! refl)) refl (tt, tt) $
    move ! (1 ∷ 2 ∷ []) $ fjoin ! $ move ! (2 ∷ 3 ∷ 4 ∷ 1 ∷ 0 ∷ []) $ group ! 5 $
    let kept = Rest 𝓛 h tells.1 is_one b o rb ro e in let again = back 𝓛 h tells.1 is_one b o rb ro e in
    use1 𝓛 (later (some (λ (δ : GName). raw
    (Part 𝓛 Row R (with_state h) (named 0) κ q rb ro b o γ (sem 𝓛 kept) again h.state δ))))
    (lends_Part 𝓛 Row R (with_state h) (named 0) κ q rb ro b o γ (sem 𝓛 kept) again (Row.coded.code h)
    (Row.coded.code h) h.state) $ await ! tt $ pick ! (λ δ.
    returns ! (look_at ! 0 refl) $ free_all ! refl $ keep ! (0 ∷ []) $
    let lent : MutBor Session = record { ref_ptr = (b, o); ghost_name = δ; now = h.state } in
    use1 𝓛 (‵ ((MutRef (named 0) κ R).own_val lent (vptr b o ∷ [])) ⊛ ‵ (flft κ q) ⊛ ‵
    (follows Row R γ δ (with_state h))) (id⊢ 𝓤 _) $ split ! $ move ! (1 ∷ []) $ split ! $ move ! (2 ∷ 0 ∷ 1 ∷ []) $
    suffices ! _ (ends_at 𝓛 f.ended stayed c y (vptr b o) lent (tt, tt) (tt, tt)) $
    nothing ! $ nothing ! $ fjoin ! $ join ! $ nothing ! $ move ! (2 ∷ 0 ∷ []) $ join ! $ join ! $ frame ! $
    says ! refl $ done !)))))))
