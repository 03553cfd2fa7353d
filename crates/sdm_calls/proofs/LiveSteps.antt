-- A handle's machine value, and what it owns, taken apart and put together. Assumes `Logic`.
use Rattle.std.proofs.Common.{◌≡◌, ℕ, ◌<◌, ◌^◌, List, [], ◌∷◌, refl, lit<, w32, false}
use lib.Dec.{T}
use seplogic.Ra.Ura.{Ura}
use mir.Val.{Val, vint, vstruct, vcons, vnil, has_ty, WT}
use types.Logic.{Logic}
use types.Kit.{Item, Goal, Step, step, ‵, ◌$◌, fjoin, fpack, feq_i}
use denote.RattleType.{RattleType, Valss}
use denote.Builtin.{u32, RawPtr}
use denote.Laws.{Is}
use denote.Param.{layout}
use denote.Plain.{uint_Makes}
use denote.RawPtr.{Ptr, block_ptr, null_ptr, ptr_val}
use denote.Signature.{Slot, plain}
use denote.Steps.{nothing, owned}
use denote.Struct.Struct.{within}
use denote.Struct.Owning.{shape}
use Rattle.sdm_rules.specs.Supervision.{opening}
use Rattle.sdm_calls.specs.declared.sessions.Session.{Session}
use Rattle.sdm_rules.specs.declared.authorities.Authority.TheVariants.{Limit}
use Rattle.sdm_formats.specs.Trial.{trial_train_and_track}
use Rattle.sdm_calls.specs.contracts.sessions.Session as Low
use Rattle.sdm_calls.specs.Held.{held}
use Rattle.sdm_calls.specs.contracts.raw_boxes.RawBox as Raw
use Rattle.sdm_calls.specs.declared.live_handles.Live.{Live}
use Rattle.sdm_calls.specs.contracts.live_handles.Live as C
use Rattle.sdm_calls.proofs.live_handles.Live.TheLaws.{lowers}

abbrev pub Row : RattleType
Row = C.the_row

-- any state, for a handle that owns nothing
abbrev pub none : Session
none = record {
  records = record { supervision = opening trial_train_and_track (Limit 0 0); text = [] };
  line = record { bytes = []; is_over = false };
}

abbrev pub FromRaw : Slot 0
FromRaw = plain (λ _. Raw.the_row Low.the_row)

abbrev pub FromLive : Slot 0
FromLive = plain (λ _. Row)

abbrev pub both : Ptr → ℕ → Val
both p n = vstruct (vcons (ptr_val p) (vcons (vint w32 n) vnil))

pub told : (h : Live) (vs : List Val) → Is Row h vs → (vs ≡ both h.at h.is_open ∷ []) × (h.is_open < 2 ^ 32)
told h vs is = (lowers.val_is h vs is, is.0.1.1.1.0.1)

pub typed : (p : Ptr) (n : ℕ) → n < 2 ^ 32 → T (has_ty (layout Row) (both p n)) × WT (both p n)
typed (block_ptr b o) n f = (tt, (tt, (record { fits = f }, tt)))
typed null_ptr n f = (tt, (record { fits = lit< tt }, (record { fits = f }, tt)))

module _ {M : Type 1} {𝓤 : Ura M} {𝓛 : Logic 𝓤} {K : Type 0} {Γ : List (Item 𝓤)} {G : Goal 𝓤 𝓛.H} where
  pub handle_in : K → (h : Live) → h.is_open < 2 ^ 32 → Step K 𝓛 (‵ (Row.own_val h (both h.at h.is_open ∷ [])) ∷ Γ)
      G (‵ (held h.is_open h.at h.state) ∷ Γ) G
  handle_in t h f = step (λ s. let v : Val = both h.at h.is_open in
      nothing t $ owned t u32 (Is u32) (uint_Makes 𝓛 w32) h.is_open (vint w32 h.is_open ∷ []) (refl, f) $ fjoin t $
      feq_i t (List Val) (ptr_val h.at ∷ []) (ptr_val h.at ∷ []) refl $ fjoin t $
      feq_i t (List Val) (v ∷ []) (v ∷ []) refl $ fjoin t $
      fpack t (Valss (RawPtr ∷ u32 ∷ [])) (within (shape C.the_type) (h.at, (h.is_open, tt)) (v ∷ []))
      (ptr_val h.at ∷ [], (vint w32 h.is_open ∷ [], tt)) $ fjoin t $ s)
