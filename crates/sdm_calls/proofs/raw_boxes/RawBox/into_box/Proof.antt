-- `into_box` hands the pointer to `from_raw`, with the heap's lifetime, which never ends, beside that of the value.
use Rattle.std.proofs.Common.{◌≡◌, List, [], ◌∷◌, ◌++◌, refl, sym, subst, ap}
use lib.Dec.{T}
use mir.Syntax.{Args, Body, a_type, place, copy, assign, rv_opd, seq, return}
use mir.MapTy.{inst_fn}
use mir.Val.{Val, vptr, has_ty, WT}
use base.Fraction.{full_share}
use base.Logic.{ent, emp, id⊢}
use base.Fml.{ftrue, fsep, flft}
use contract.BorrowLft.{◌⊑◌, ⊑_static}
use contract.Monad.{fact, fact_i}
use contract.Running.{tables}
use prog.Wp.{WpFn}
use types.Kit.{Item, at_ret, ‵, raw, ◌⊛◌, some, later, ◌$◌, ◌∵◌, !, qed, by, move, drop, use0, use1, join, split}
use types.Kit.{split3, pick, fsplit, fjoin, feq_i, rewrite, suffices, await, done}
use types.Part.{whole, sub}
use types.Run.{stop, fld, no_more, and_then, of_opd, returns, enter, first, blocks, exec}
use types.ByLocal.{alloc_all, pass_all, free_all, look_at, get, get_in, sets, lands_last, env}
use denote.Exit.{no, yes}
use denote.Param.{layouts, param}
use denote.Param.NoDrop.{glues}
use denote.RawPtr.{block_ptr}
use denote.Signature.{plain}
use denote.Steps.{heard, only, nothing}
use denote.Triple.Call.{calls_at_last}
use denote.Triple.Spec.{triple_of}
use denote.Triple.Table.{framed}
use denote.Triple.Walked.{Stays, stay_dropped, walk_of, says, ends_at, Goes-dropped}
use Rattle.std.proofs.alloc.Calls.{handle_tells, Goes-blank}
use Rattle.std.proofs.raw_atomic.Walks.{proved_at}
use Rattle.std.specs.Box.Ownership.{box_owns}
use Rattle.std.proofs.BoxSteps.Form as box
use Rattle.std.proofs.BoxSteps.Steps.{box_out, box_in}
use Rattle.std.specs.contracts.alloc.Global as Heap
use Rattle.std.specs.contracts.impls.GlobalAllocator.TheImpl.{ghosts, dict}
use Rattle.std.proofs.impls.GlobalAllocator.TheImpl.Met as allocator
use Rattle.std.specs.contracts.boxed.Box.from_raw as callee
use Rattle.std.proofs.boxed.Box.from_raw.Met as met
use Rattle.sdm_calls.specs.Heap.{free_right}
use Rattle.sdm_calls.proofs.RawBoxSteps.{Row, boxed, heap_row, heap_laws, no_drop, raw_out, typed, word}
use Rattle.sdm_calls.specs.contracts.raw_boxes.RawBox.into_box as f
use Rattle.sdm_calls.proofs.raw_boxes.RawBox.into_box.Statement.{statement}
use Rattle.sdm_calls.proofs.raw_boxes.RawBox.into_box.Code as code

-- what follows the call
abbrev rest : Body
rest = seq (assign (place 0 []) (rv_opd (copy (place 4 [])))) return

pub into_box_spec : {M : Type 1} → statement M
unfolding Rattle.sdm_calls.proofs.Destruct++none.drop.Code.code
into_box_spec {M} 𝓤 𝓛 𝓜 𝓡 wired X L =
    let E = boxed X L in let En = f.ended X in let c = f.clauses X 𝓛 𝓜.mem 𝓡.returns in
    let 𝓣 = tables 𝓤 𝓛.H 𝓜 𝓡 𝓡.env in
    let args : Args = layouts (a_type ∷ []) (X, tt) in let fn = inst_fn args code.function in
    let hs : Stays En.signature.params En.kept =
    (stay_dropped (plain (λ _. Row X)) no, (stay_dropped (plain (λ _. Heap.the_row)) yes, tt)) in
    let frees = allocator.passed 𝓡.env (code.calls-std_heap::GlobalAllocator::allocate 𝓡.env wired)
    (code.calls-std_heap::GlobalAllocator::deallocate 𝓡.env wired)
    (code.calls-std_heap::GlobalAllocator::grow 𝓡.env wired)
    (code.calls-std_heap::GlobalAllocator::shrink 𝓡.env wired) M 𝓤 𝓛 𝓜 𝓡 in
    let undropped = glues "sdm_calls::Destruct++none::drop" 𝓡.env (code.calls-sdm_calls::Destruct++none::drop 𝓡.env wired)
    heap_row heap_laws M 𝓤 𝓛 𝓜 𝓡 in
    let k = triple_of 𝓛 (callee.signature X heap_row ghosts dict no_drop)
    (callee.spec X heap_row ghosts dict no_drop 𝓛 𝓜.mem 𝓡.returns) in
    let meets = met.met 𝓤 𝓛 𝓜 𝓡 (code.calls-std_alloc::boxed::Box::from_raw 𝓡.env wired) X heap_row L heap_laws ghosts
    dict no_drop frees undropped in
    proved_at 𝓛 En hs c 𝓜 𝓡 (
      Goes-blank 𝓛 1 (plain (λ _. Row X)) no (λ κs x g. tt),
      (Goes-dropped 𝓛 1 (plain (λ _. Heap.the_row)) yes (λ κs x g. refl), tt),
    ) (f.Key.name args) fn
    (code.unfolded 𝓤 𝓛.H 𝓜 𝓡 wired (X, tt)) (λ z are.
    let κ = z.0.0.0 in let q = z.0.1.0 in let r = z.0.3.0 in let a = z.0.3.1.0 in let vs = z.0.4.0 in
    let us = z.0.4.1.0 in let Post = (walk_of 𝓛 En hs c).post z in
    qed 𝓛 (((‵ (flft κ q) ⊛ ‵ ftrue) ⊛ ‵ (fsep ((Row X).own_val r vs) (fsep (Heap.the_row.own_val a us) ftrue))) ∷
    (raw (fact 𝓤 (κ ⊑ X.lives)) ⊛ ‵ ftrue) ∷ []) ∵
    split ! $ move ! (1 ∷ []) $ fsplit ! $ raw_out X ! r vs (λ b o e ev. move ! (1 ∷ []) $ fsplit ! $
    handle_tells E.al ! a us (λ hv eh fa.
    let Γ : List (Item 𝓤) = ‵ (Heap.the_row.own_val a (hv ∷ [])) ∷ ‵ ftrue ∷ ‵
    (box_owns free_right (param 0 X) (block_ptr b o) r.value) ∷ (‵ (flft κ q) ⊛ ‵ ftrue) ∷
    (raw (fact 𝓤 (κ ⊑ X.lives)) ⊛ ‵ ftrue) ∷ [] in
    by ! (subst (λ (ws : List Val). ent 𝓤 (types.Kit.⋆ 𝓛 Γ) (WpFn 𝓤 𝓛.H 𝓣.C 𝓣.Λ fn ws Post))
    (sym (λ i. ev i ++ (eh i ++ []))) (qed 𝓛 Γ ∵
    enter ! 𝓣.C 𝓣.Λ fn (word (block_ptr b o) ∷ hv ∷ []) _ $
    alloc_all ! (λ ls. pass_all ! refl (typed X (block_ptr b o), (fa, tt)) $
    sets ! (of_opd ! (get_in ! (fld ! refl (stop !)) (sub ! 0 refl (whole !)))) refl (tt, tt) $ first ! $ blocks ! $
    -- [the heap's handle; true; what the pointer owns; the tokens; the value's lifetime]
    move ! (4 ∷ []) $ split ! $ move ! (1 ∷ []) $ drop ! $
    use0 𝓛 (raw (fact 𝓤 ([] ⊑ heap_row.lives))) (fact_i 𝓤 ([] ⊑ heap_row.lives) (emp 𝓤) (⊑_static [])) $
    move ! (0 ∷ 4 ∷ []) $ join ! $ move ! (1 ∷ 0 ∷ []) $ join ! $
    -- [what it requires; the heap's handle; true; the tokens]
    move ! (3 ∷ []) $ split ! $ use0 𝓛 (‵ (flft [] full_share)) (𝓛.lfts.lft-nil full_share) $ move ! (0 ∷ 2 ∷ []) $
    join ! $ move ! (1 ∷ 0 ∷ []) $ join ! $
    move ! (3 ∷ []) $ feq_i ! (List Val) (vptr b o ∷ []) (vptr b o ∷ []) refl $ fjoin ! $ move ! (3 ∷ 0 ∷ []) $
    fjoin ! $ move ! (1 ∷ 0 ∷ []) $ join ! $ join ! $
    let y : k.Ghost = (
      (
        (κ, ([], tt)),
        (q, (full_share, tt)),
        tt,
        (a, (block_ptr b o, tt)),
        (hv ∷ [], (vptr b o ∷ [], tt)),
      ),
      r.value,
    ) in
    use1 𝓛 (raw (k.pre y)) (id⊢ 𝓤 _) $
    calls_at_last ! (framed 𝓤 𝓛.H 𝓜 𝓣) k meets y (and_then ! (get ! refl) (and_then ! (get ! refl) (no_more !))) (λ u.
    use1 𝓛 (later (some (λ (d : box.D E).
    ((‵ (flft κ q) ⊛ ‵ (flft [] full_share) ⊛ ‵ ftrue) ⊛ ‵ ((box.B E).own_val d (u ∷ []))) ⊛ some
    (λ (_ : Unit {0} × (Unit {0} × Unit {0})).
    ‵ (fsep ftrue (fsep ftrue ftrue)) ⊛ (raw (fact 𝓤 (d.value ≡ r.value)) ⊛ raw (fact 𝓤 (d.alloc ≡ a))))))) (id⊢ 𝓤 _) $
    await ! tt $ pick ! (λ d. split ! $ move ! (1 ∷ []) $ pick ! (λ _. split3 ! $ drop ! $
    heard ! (d.value ≡ r.value) (λ same. drop ! $ split ! $ move ! (1 ∷ []) $
    box_out E ! d (u ∷ []) (λ b' o' hw e' wu fw. box_in E ! d b' o' d.value e' refl $
    rewrite ! 0 (λ (ws : List Val). ‵ ((box.B E).own_val d ws)) (sym wu) refl $
    let typed_u : T (has_ty (box.box_ty E) u) × WT u = subst (λ (s : Val). T (has_ty (box.box_ty E) s) × WT s)
    (sym (ap only wu)) (box.box_typed E hw b' o' fw) in
    lands_last ! refl typed_u $ exec ! 𝓣.C 𝓣.Λ (env fn.locals ls) rest (at_ret (env fn.locals ls) Post) $
    sets ! (of_opd ! (get ! refl)) refl typed_u $ returns ! (look_at ! 0 refl) $ free_all ! refl $
    -- [the box; the tokens]
    move ! (1 ∷ []) $ split3 ! $ move ! (1 ∷ []) $ drop ! $ join ! $ move ! (1 ∷ []) $
    suffices ! _ (ends_at 𝓛 En hs c z u d (tt, (tt, tt)) (tt, (tt, tt))) $ says ! same $
    nothing ! $ nothing ! $ fjoin ! $ nothing ! $ fjoin ! $ join ! $ move ! (1 ∷ 0 ∷ []) $ join ! $ done !)))))))))))
