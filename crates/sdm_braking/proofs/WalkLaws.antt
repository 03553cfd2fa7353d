-- The kept falls ahead of a front end and the kept end are the targets of the definitions.
use Rattle.std.proofs.Common.{◌≡◌, ℕ, suc, ℤ, pos, Bool, true, false, List, [], ◌∷◌, ◌++◌, map, All, ◌∙◌, refl, sym}
use Rattle.std.proofs.Common.{arith, int_lt}
use Rattle.sdm_rules.specs.declared.authorities.Authority.{Authority}
use Rattle.sdm_rules.specs.declared.authorities.Authority.TheVariants.{Stop, Limit}
use Rattle.sdm_rules.specs.Cells.{cell_of}
use Rattle.sdm_rules.specs.Data.{TrainAndTrack}
use Rattle.sdm_rules.specs.Supervision.{is_past_end}
use Rattle.sdm_rules.specs.Targets.{end_of, ends_of, targets_of}
use Rattle.sdm_targets.specs.Lists.{falls_past}
use Rattle.sdm_braking.specs.declared.kept_ends.KeptEnd.{KeptEnd}
use Rattle.sdm_braking.specs.declared.kept_ends.KeptEnd.TheVariants.{Stop as KeptStop, Limit as KeptLimit}
use Rattle.sdm_braking.specs.KeptCurves.{AreKept, IsKeptEnd, targets_in}
use Rattle.sdm_braking.specs.KeptFalls.{IsKeptFall, KeptFallData, at_fall, target_of}

-- each target is that of its fall
at_falls : (d : TrainAndTrack) (ks : List KeptFallData) → All (IsKeptFall d) ks → map target_of ks ≡ map at_fall ks
at_falls d [] each = refl
at_falls d (k ∷ ks) each = λ i. (each 0 k (omega arith)).at i ∷ at_falls d ks (λ j e l. each (suc j) e (omega arith)) i

-- the targets at the end are those of the authority
ends_are : (d : TrainAndTrack) (a : Authority) (e : KeptEnd) (in_release_monitoring : Bool) → IsKeptEnd d a e →
    targets_in e in_release_monitoring ≡ ends_of a in_release_monitoring
ends_are d (Stop eoa svl release) (KeptStop e s) true h = refl
ends_are d (Stop eoa svl release) (KeptStop e s) false h = λ i. h.0.at i ∷ h.1.at i ∷ []
ends_are d (Stop eoa svl release) (KeptLimit l) in_release_monitoring h = absurd h
ends_are d (Limit loa speed) (KeptStop e s) in_release_monitoring h = absurd h
ends_are d (Limit loa speed) (KeptLimit l) in_release_monitoring h = λ i. h.at i ∷ []

-- and each stands beside its curves
pub ends_kept : (d : TrainAndTrack) (a : Authority) (e : KeptEnd) → IsKeptEnd d a e → AreKept d e
ends_kept d (Stop eoa svl release) (KeptStop e s) h = (h.0.kept, h.1.kept)
ends_kept d (Stop eoa svl release) (KeptLimit l) h = absurd h
ends_kept d (Limit loa speed) (KeptStop e s) h = absurd h
ends_kept d (Limit loa speed) (KeptLimit l) h = h.kept

-- whether there is an EOA that is kept, and a front end is past it
abbrev pub is_past_eoa : KeptEnd → ℤ → Bool
is_past_eoa (KeptStop e s) front = int_lt e.target.place front
is_past_eoa (KeptLimit l) front = false

-- there the front end is past the end of the authority, and nowhere else
pub past_eoa : (d : TrainAndTrack) (a : Authority) (e : KeptEnd) (front : ℤ) → IsKeptEnd d a e →
    is_past_eoa e front ≡ is_past_end a front
past_eoa d (Stop eoa svl release) (KeptStop e s) front h = λ i. int_lt (h.0.at i).place front
past_eoa d (Stop eoa svl release) (KeptLimit l) front h = absurd h
past_eoa d (Limit loa speed) (KeptStop e s) front h = absurd h
past_eoa d (Limit loa speed) (KeptLimit l) front h = refl

-- the kept falls ahead and the kept end make the targets of the definitions
pub targets_are : (d : TrainAndTrack) (p : ℤ → ℕ) (a : Authority) (ks : List KeptFallData) (e : KeptEnd)
    (after front : ℤ) (end : ℕ) (in_release_monitoring : Bool) → after ≡ cell_of front → end ≡ end_of a →
    All (IsKeptFall d) ks →
    falls_past p after (pos end) ≡ map at_fall ks → IsKeptEnd d a e →
    map target_of ks ++ targets_in e in_release_monitoring ≡ targets_of p a front in_release_monitoring
unfolding targets_of
targets_are d p a ks e after front end in_release_monitoring at last each falls ends =
    let ahead = at_falls d ks each ∙ sym falls ∙ (λ i. falls_past p (at i) (pos (last i))) in
    λ i. ahead i ++ ends_are d a e in_release_monitoring ends i
