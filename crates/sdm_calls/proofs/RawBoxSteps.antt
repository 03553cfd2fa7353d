-- A box on the heap as its pointer: its machine value, and what it owns, put together and taken apart. Assumes `Logic`.
use Rattle.std.proofs.Common.{◌≡◌, ℕ, List, [], ◌∷◌, ◌++◌, refl, ap, ◌∙◌, lit<}
use lib.Dec.{T}
use seplogic.Ra.Ura.{Ura}
use mir.Raw.{raw as bare}
use mir.Syntax.{Dict, impl, tnil, tcons, dnil}
use mir.Val.{Val, vstruct, vcons, vnil, of_list, has_ty, WT}
use base.Logic.{ent, never, fst∗}
use base.Fml.{Fml}
use types.Logic.{Logic, sem}
use types.Kit.{Item, Goal, Step, Seq, step, ‵, ◌$◌, drop, fjoin, fsplit, fpack, fpick, feq_i, feq_l}
use denote.RattleType.{RattleType, Valss}
use denote.Builtin.{RawPtr}
use denote.Exit.{no}
use denote.Param.{arg, layout, param}
use denote.Param.Laws.{Laws, arg_laws}
use denote.RawPtr.{Ptr, block_ptr, null_ptr, ptr_val, in_a_block}
use denote.Steps.{nothing}
use denote.Struct.Struct.{within}
use denote.Struct.Owning.{shape}
use Rattle.std.specs.contracts.alloc.Global as Heap
use Rattle.std.specs.contracts.boxed.Box as Box
use Rattle.std.proofs.alloc.Global.TheLaws as heap
use Rattle.std.specs.contracts.impls.GlobalAllocator.TheImpl.{ghosts, dict}
use Rattle.std.specs.Box.Ownership.{box_owns}
use Rattle.std.proofs.BoxSteps.Form.{Bx}
use Rattle.sdm_calls.specs.Heap.{free_right}
use Rattle.sdm_calls.specs.declared.raw_boxes.RawBox.{RawBox}
use Rattle.sdm_calls.specs.contracts.raw_boxes.RawBox as C

-- the heap's handle, as it is passed for a type parameter
abbrev pub heap_row : RattleType
heap_row = arg (bare (layout Heap.the_row)) no Heap.the_row

abbrev pub heap_laws : Laws heap_row
heap_laws = arg_laws (bare (layout Heap.the_row)) no Heap.the_row heap.the_row_laws refl

-- its glue, which has nothing to drop
abbrev pub no_drop : Dict
no_drop = impl ("sdm_calls::Destruct++none::drop" ∷ []) (tcons (layout heap_row) tnil) dnil

-- a box on the heap
abbrev pub boxed : (X : RattleType) → Laws X → Bx
boxed X L = record {
  row = X;
  laws = L;
  al = record
      { row = heap_row; laws = heap_laws; g = ghosts; d = dict; drops = no_drop };
}

-- the same as a type
abbrev pub HeapBox : RattleType → RattleType
HeapBox X = Box.the_row (param 0 X) Heap.the_row ghosts

abbrev pub word : Ptr → Val
word p = vstruct (vcons (ptr_val p) vnil)

module _ (X : RattleType) where
  abbrev pub Row : RattleType
  Row = C.the_row (param 0 X)

  abbrev pub owned : RawBox X.Denot → Fml
  owned r = box_owns free_right (param 0 X) r.at r.value

  -- a box on the heap is at no null pointer
  pub at_null : {M : Type 1} {𝓤 : Ura M} (𝓛 : Logic 𝓤) (x : X.Denot) → ent 𝓤
      (sem 𝓛 (box_owns free_right (param 0 X) null_ptr x)) (never 𝓤)
  at_null {𝓤 = 𝓤} 𝓛 x = fst∗ 𝓤 (never 𝓤) (sem 𝓛 (free_right (bare (layout X)) null_ptr))

  pub typed : (p : Ptr) → T (has_ty (layout Row) (word p)) × WT (word p)
  typed (block_ptr b o) = (tt, (tt, tt))
  typed null_ptr = (tt, (record { fits = lit< tt }, tt))

  module _ {M : Type 1} {𝓤 : Ura M} {𝓛 : Logic 𝓤} {K : Type 0} {Γ : List (Item 𝓤)} {G : Goal 𝓤 𝓛.H} where
    pub raw_in : K → (r : RawBox X.Denot) → Step K 𝓛 (‵ (Row.own_val r (word r.at ∷ [])) ∷ Γ) G (‵ (owned r) ∷ Γ) G
    raw_in t r = step (λ s.
        nothing t $ feq_i t (List Val) (ptr_val r.at ∷ []) (ptr_val r.at ∷ []) refl $ fjoin t $
        feq_i t (List Val) (word r.at ∷ []) (word r.at ∷ []) refl $ fjoin t $
        fpack t (Valss (RawPtr ∷ [])) (within (shape (C.the_type (param 0 X))) (r.at, tt) (word r.at ∷ []))
        (ptr_val r.at ∷ [], tt) $ fjoin t $ s)

    pub raw_out : K → (r : RawBox X.Denot) (vs : List Val)
        → ((b o : ℕ) → r.at ≡ block_ptr b o → vs ≡ word (block_ptr b o) ∷ [] → Seq K 𝓛
        (‵ (box_owns free_right (param 0 X) (block_ptr b o) r.value) ∷ Γ) G)
        → Seq K 𝓛 (‵ (Row.own_val r vs) ∷ Γ) G
    raw_out t r vs k =
        fsplit t $ fpick t (λ vss. fsplit t $ feq_l t (λ ev. fsplit t $ feq_l t (λ ep. drop t $
        in_a_block t r.at (λ p. box_owns free_right (param 0 X) p r.value) (at_null 𝓛 r.value) (λ b o e. k b o e
        (ev ∙ ap (λ (ps : List Val). vstruct (of_list (ps ++ [])) ∷ []) ep ∙ ap (λ (p : Ptr). word p ∷ []) e)))))
