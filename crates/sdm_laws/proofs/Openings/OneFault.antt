-- An opening is never both accepted and refused, and has one first fault: an earlier fault contradicts that everything
-- before the later one is accepted.
use Rattle.std.proofs.Common.{◌≡◌, ℕ, ℤ, suc, pos, ◌<◌, ◌*ℤ◌, ◌≤ℤ◌, ◌<ℤ◌, refl, sym, subst, arith, inl, inr, ◌∙◌}
use Rattle.std.proofs.lemmas.Int.{ints}
use Rattle.std.proofs.lemmas.Bool.{cases_order}
use Rattle.sdm_rules.specs.declared.authorities.Authority.{Authority}
use Rattle.sdm_rules.specs.declared.data.SlopeKind.{SlopeKind}
use Rattle.sdm_rules.specs.declared.data.SlopeKind.TheVariants.{Safe, Expected, Normal}
use Rattle.sdm_rules.specs.declared.faults.OpenFault.{OpenFault}
use Rattle.sdm_rules.specs.declared.faults.OpenFault.TheVariants.{TooWeak, TooVaried, BadAuthority, Memory}
use Rattle.sdm_rules.specs.Data.{TrainAndTrack}
use Rattle.sdm_rules.specs.Decelerations.{slope_at}
use Rattle.sdm_rules.specs.Opening.{IsStrongAt, IsStrong, IsEven, IsRange, IsAcceptedKind, IsFirstWeak, IsFirstVaried}
use Rattle.sdm_rules.specs.Opening.{AreBefore, IsAccepted, IsOpenFault, variation_of}
use Rattle.sdm_laws.specs.SupervisionLaws.{LawOfOpening}
use Rattle.sdm_laws.proofs.Openings.Decided.{decided}

-- two numbers that are neither before the other are one
one_number : (b b' : ℕ) → (b < b' → ⊥) → (b' < b → ⊥) → b ≡ b'
one_number b b' h k =
    elim (cases_order b b') [ inl e ↦ e | inr o ↦ elim o [ inl lt ↦ absurd (h lt) | inr gt ↦ absurd (k gt) ] ]

-- ---- one kind

-- a slope isn't both weak and strong
weak_clash : (kind : SlopeKind) (d : TrainAndTrack) (band cell : ℕ) (slope : ℤ) → IsFirstWeak kind d band cell slope →
    IsStrongAt kind d band cell → ⊥
weak_clash kind d band cell slope w strong = omega (arith, ints, w.value, w.weak, strong)

-- a range that is too wide contradicts evenness
varied_clash : (kind : SlopeKind) (d : TrainAndTrack) (band : ℕ) (least greatest : ℤ) →
    IsRange kind d band least greatest → (pos (variation_of d) *ℤ least) <ℤ greatest → IsEven kind d band → ⊥
varied_clash kind d band least greatest range varied even =
    let h = even range.high.0 range.low.0 in
    let one = range.high.1 in
    let two = range.low.1 in
    let le : greatest ≤ℤ (pos (variation_of d) *ℤ least) = subst
    (λ (a : ℤ). greatest ≤ℤ (pos (variation_of d) *ℤ a)) two
    (subst (λ (a : ℤ). a ≤ℤ (pos (variation_of d) *ℤ slope_at kind d band (pos range.low.0))) one h) in
    omega (arith, ints, varied, le)

-- a kind with a weak slope isn't accepted
weak_refuses : (kind : SlopeKind) (d : TrainAndTrack) (band cell : ℕ) (slope : ℤ) →
    IsFirstWeak kind d band cell slope → IsAcceptedKind kind d → ⊥
weak_refuses kind d band cell slope w ok = weak_clash kind d band cell slope w (ok.strong band cell w.known)

-- a kind with a band that varies too much isn't accepted
varied_refuses : (kind : SlopeKind) (d : TrainAndTrack) (band : ℕ) (least greatest : ℤ) →
    IsFirstVaried kind d band least greatest → IsAcceptedKind kind d → ⊥
varied_refuses kind d band least greatest w ok =
    varied_clash kind d band least greatest w.range w.varied (ok.even band w.known)

-- the band of the first weak slope is one
one_weak_band : (kind : SlopeKind) (d : TrainAndTrack) (b b' c c' : ℕ) (a a' : ℤ) → IsFirstWeak kind d b c a →
    IsFirstWeak kind d b' c' a' → b ≡ b'
one_weak_band kind d b b' c c' a a' w w' =
    one_number b b' (λ lt. weak_clash kind d b c a w (w'.lower_bands b c lt))
    (λ gt. weak_clash kind d b' c' a' w' (w.lower_bands b' c' gt))

-- and so is its cell
one_weak_cell : (kind : SlopeKind) (d : TrainAndTrack) (b c c' : ℕ) (a a' : ℤ) → IsFirstWeak kind d b c a →
    IsFirstWeak kind d b c' a' →
    c ≡ c'
one_weak_cell kind d b c c' a a' w w' =
    one_number c c' (λ lt. weak_clash kind d b c a w (w'.earlier_cells c lt))
    (λ gt. weak_clash kind d b c' a' w' (w.earlier_cells c' gt))

-- where the first weak slope is, there is one value
record IsSameWeak (b b' c c' : ℕ) (a a' : ℤ) : Type 0 where
  band : b ≡ b'
  cell : c ≡ c'
  slope : a ≡ a'

-- there is one first weak slope
one_weak : (kind : SlopeKind) (d : TrainAndTrack) (b b' c c' : ℕ) (a a' : ℤ) → IsFirstWeak kind d b c a →
    IsFirstWeak kind d b' c' a' → IsSameWeak b b' c c' a a'
one_weak kind d b b' c c' a a' w w' =
    let e = one_weak_band kind d b b' c c' a a' w w' in
    let here : IsFirstWeak kind d b c' a' = subst (λ (k : ℕ). IsFirstWeak kind d k c' a') (sym e) w' in
    let e' = one_weak_cell kind d b c c' a a' w here in
    let there : IsFirstWeak kind d b c a' = subst (λ (k : ℕ). IsFirstWeak kind d b k a') (sym e') here in
    record { band = e; cell = e'; slope = w.value ∙ sym there.value }

-- a range has one least slope
least_once : (kind : SlopeKind) (d : TrainAndTrack) (b : ℕ) (l l' g g' : ℤ) → IsRange kind d b l g →
    IsRange kind d b l' g' → l ≡ l'
least_once kind d b l l' g g' r r' =
    let one : l ≤ℤ l' = subst (λ (a : ℤ). l ≤ℤ a) r'.low.1 (r.above r'.low.0) in
    let two : l' ≤ℤ l = subst (λ (a : ℤ). l' ≤ℤ a) r.low.1 (r'.above r.low.0) in
    omega (arith, ints)

-- and one greatest
greatest_once : (kind : SlopeKind) (d : TrainAndTrack) (b : ℕ) (l l' g g' : ℤ) → IsRange kind d b l g →
    IsRange kind d b l' g' → g ≡ g'
greatest_once kind d b l l' g g' r r' =
    let one : g' ≤ℤ g = subst (λ (a : ℤ). a ≤ℤ g) r'.high.1 (r.below r'.high.0) in
    let two : g ≤ℤ g' = subst (λ (a : ℤ). a ≤ℤ g') r.high.1 (r'.below r.high.0) in
    omega (arith, ints)

-- there is one first band that varies too much
one_varied_band : (kind : SlopeKind) (d : TrainAndTrack) (b b' : ℕ) (l l' g g' : ℤ) → IsFirstVaried kind d b l g →
    IsFirstVaried kind d b' l' g' → b ≡ b'
one_varied_band kind d b b' l l' g g' w w' =
    one_number b b' (λ lt. varied_clash kind d b l g w.range w.varied (w'.lower_bands b lt))
    (λ gt. varied_clash kind d b' l' g' w'.range w'.varied (w.lower_bands b' gt))

-- ---- kinds

-- of two kinds one comes first, and the other's faults presume that it is accepted
data InTurn (d : TrainAndTrack) (k k' : SlopeKind) : Type 0 where
  together : k ≡ k' → InTurn d k k'
  goes_first : (AreBefore k' d → IsAcceptedKind k d) → InTurn d k k'
  goes_last : (AreBefore k d → IsAcceptedKind k' d) → InTurn d k k'

-- any two kinds stand in turn
in_turn : (d : TrainAndTrack) (k k' : SlopeKind) → InTurn d k k'
in_turn d Safe Safe = together refl
in_turn d Safe Expected = goes_first (λ h. h)
in_turn d Safe Normal = goes_first (λ h. h.0)
in_turn d Expected Safe = goes_last (λ h. h)
in_turn d Expected Expected = together refl
in_turn d Expected Normal = goes_first (λ h. h.1)
in_turn d Normal Safe = goes_last (λ h. h.0)
in_turn d Normal Expected = goes_last (λ h. h.1)
in_turn d Normal Normal = together refl

-- a fact that no accepted kind has, of two kinds: the kinds are one
one_kind : (d : TrainAndTrack) (k k' : SlopeKind) → AreBefore k d → AreBefore k' d → (IsAcceptedKind k d → ⊥) →
    (IsAcceptedKind k' d → ⊥) → k ≡ k'
one_kind d k k' b b' none none' = elim (in_turn d k k') [
  | together e ↦ e
  | goes_first f ↦ absurd (none (f b'))
  | goes_last f ↦ absurd (none' (f b))
]

-- ---- faults

-- one first weak slope is one fault
same_weak : (k k' : SlopeKind) (n n' b b' c c' : ℕ) (cell cell' a a' : ℤ) → k ≡ k' → n ≡ suc b → n' ≡ suc b' →
    cell ≡ pos c → cell' ≡ pos c' → IsSameWeak b b' c c' a a' → TooWeak k n cell a ≡ TooWeak k' n' cell' a'
same_weak k k' n n' b b' c c' cell cell' a a' e p p' q q' same = let x = same.band in let y = same.cell in let z =
    same.slope in cc

-- one first varied band is one fault
same_varied : (k k' : SlopeKind) (n n' b b' : ℕ) (l l' g g' : ℤ) → k ≡ k' → n ≡ suc b → n' ≡ suc b' → b ≡ b' → l ≡ l' →
    g ≡ g' → TooVaried k n l g ≡ TooVaried k' n' l' g'
same_varied k k' n n' b b' l l' g g' e p p' x y z = cc

-- no opening is both accepted and refused
pub not_both : (d : TrainAndTrack) (a : Authority) (fault : OpenFault) → IsAccepted d a → IsOpenFault d a fault → ⊥
not_both d a (TooWeak kind band cell slope) ok (before, (b, is, (c, at, w))) =
    weak_refuses kind d b c slope w (ok.0 kind)
not_both d a (TooVaried kind band least greatest) ok (before, (b, is, w)) =
    varied_refuses kind d b least greatest w (ok.0 kind)
not_both d a (BadAuthority fault) ok (usable, e) = let f = ok.1 in absurd (cc)
not_both d a Memory ok h = absurd h

-- an opening has one first fault
pub one_fault : (d : TrainAndTrack) (a : Authority) (fault fault' : OpenFault) → IsOpenFault d a fault →
    IsOpenFault d a fault' →
    fault ≡ fault'
one_fault d a (TooWeak k n cell x) (TooWeak k' n' cell' x') (before, (b, is, (c, at, w)))
    (before', (b', is', (c', at', w'))) =
    let e = one_kind d k k' before before' (weak_refuses k d b c x w) (weak_refuses k' d b' c' x' w') in
    same_weak k k' n n' b b' c c' cell cell' x x' e is is' at at'
    (one_weak k d b b' c c' x x' w (subst (λ (j : SlopeKind). IsFirstWeak j d b' c' x') (sym e) w'))
one_fault d a (TooWeak k n cell x) (TooVaried k' n' l g) (before, (b, is, (c, at, w))) (before', (b', is', w')) =
    let e = one_kind d k k' before before' (weak_refuses k d b c x w) (varied_refuses k' d b' l g w') in
    absurd (weak_clash k d b c x w ((subst (λ (j : SlopeKind). IsStrong j d) (sym e) w'.strong) b c w.known))
one_fault d a (TooWeak k n cell x) (BadAuthority fault) (before, (b, is, (c, at, w))) (usable, e) =
    absurd (weak_refuses k d b c x w (usable k))
one_fault d a (TooWeak k n cell x) Memory h h' = absurd h'
one_fault d a (TooVaried k n l g) (TooWeak k' n' cell x) (before, (b, is, w)) (before', (b', is', (c, at, w'))) =
    let e = one_kind d k k' before before' (varied_refuses k d b l g w) (weak_refuses k' d b' c x w') in
    absurd (weak_clash k' d b' c x w' ((subst (λ (j : SlopeKind). IsStrong j d) e w.strong) b' c w'.known))
one_fault d a (TooVaried k n l g) (TooVaried k' n' l' g') (before, (b, is, w)) (before', (b', is', w')) =
    let e = one_kind d k k' before before' (varied_refuses k d b l g w) (varied_refuses k' d b' l' g' w') in
    let there = subst (λ (j : SlopeKind). IsFirstVaried j d b' l' g') (sym e) w' in
    let band = one_varied_band k d b b' l l' g g' w there in
    let range = subst (λ (i : ℕ). IsRange k d i l' g') (sym band) there.range in
    same_varied k k' n n' b b' l l' g g' e is is' band (least_once k d b l l' g g' w.range range)
    (greatest_once k d b l l' g g' w.range range)
one_fault d a (TooVaried k n l g) (BadAuthority fault) (before, (b, is, w)) (usable, e) =
    absurd (varied_refuses k d b l g w (usable k))
one_fault d a (TooVaried k n l g) Memory h h' = absurd h'
one_fault d a (BadAuthority fault) (TooWeak k n cell x) (usable, e) (before, (b, is, (c, at, w))) =
    absurd (weak_refuses k d b c x w (usable k))
one_fault d a (BadAuthority fault) (TooVaried k n l g) (usable, e) (before, (b, is, w)) =
    absurd (varied_refuses k d b l g w (usable k))
one_fault d a (BadAuthority fault) (BadAuthority fault') (usable, e) (usable', e') = cc
one_fault d a (BadAuthority fault) Memory h h' = absurd h'
one_fault d a Memory fault' h h' = absurd h

-- of all data and authorities the opening is either accepted or has one first fault
pub opening_decided : LawOfOpening
opening_decided d a = record { decided = decided d a; not_both = not_both d a; one_fault = one_fault d a }
