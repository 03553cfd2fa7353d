-- What the next entry of a list adds to what the entries before it gave.
use Rattle.std.proofs.Common.{◌≡◌, ℕ, ℤ, pos, negsuc, List, [], ◌∷◌, ◌++◌, map, Option, Some, None, length, get_or}
use Rattle.std.proofs.Common.{slice_get, take, unsigned_abs, ◌+◌, ◌<◌, ◌+ℤ◌, ◌≤ℤ◌, ap, sym, refl, ◌∙◌, arith}
use Rattle.std.proofs.Common.{append_assoc}
use Rattle.std.specs.List.{flat_map}
use Rattle.std.specs.Option.{option_map}
use Rattle.std.proofs.lemmas.Int.{ints}
use Rattle.std.proofs.lemmas.List.{append-nil, take_more, map_more}
use Rattle.std.proofs.lemmas.List.Elements.{filter_map-append}
use Rattle.std.proofs.lemmas.Grind.{flat_map-append}
use Rattle.std.proofs.lemmas.Option.{slice_get_within, slice_get-get_or, get_or_from_slice_get}
use Rattle.sdm_num.specs.Units.{notches}
use Rattle.sdm_rules.specs.declared.data.Band.{Band}
use Rattle.sdm_rules.specs.declared.data.Area.{Area}
use Rattle.sdm_rules.specs.Decelerations.{uppers_of}
use Rattle.sdm_track.specs.declared.under_train.Segment.{Segment}
use Rattle.sdm_decel.specs.StretchCells.{gradient_starts, area_ends}

-- the next element of a list
pub next_is : {X : Type 0} (xs : List X) (i : ℕ) (x : X) → slice_get xs i ≡ Some x →
    take (i + 1) xs ≡ take i xs ++ x ∷ []
next_is xs i x h =
    take_more xs i x (slice_get_within xs i x h) ∙ ap (λ y. take i xs ++ y ∷ []) (get_or_from_slice_get xs i x x h)

-- the next element adds what it gives
pub flat_map_next : {X A : Type 0} (f : X → List A) (xs : List X) (i : ℕ) (x : X) → slice_get xs i ≡ Some x →
    flat_map f (take (i + 1) xs) ≡ flat_map f (take i xs) ++ f x
flat_map_next f xs i x h = ap (λ ys. flat_map f ys) (next_is xs i x h) ∙ flat_map-append f (take i xs) (x ∷ [])
    ∙ ap (λ ys. flat_map f (take i xs) ++ ys) (append-nil (f x))

-- ---- cells

-- stands for a segment that there is not
some_segment : Segment
some_segment = record { start = pos 0; value = pos 0 }

-- the start that was read is the segment's
start_is : (segments : List Segment) (i : ℕ) (start : ℤ) → i < length segments → option_map (λ (s : Segment). s.start)
    (slice_get segments i) ≡ Some start → start ≡ (get_or segments i some_segment).start
start_is segments i start lt h = let there = slice_get-get_or segments i some_segment lt in cc

-- the next segment adds its start
pub gradients_more : (segments : List Segment) (i : ℕ) (start : ℤ) (before old new : List ℕ) (x : ℕ) →
    i < length segments → option_map (λ (s : Segment). s.start) (slice_get segments i) ≡ Some start →
    old ≡ before ++ gradient_starts (take i segments) → new ≡ old ++ x ∷ [] → x ≡ unsigned_abs start →
    new ≡ before ++ gradient_starts (take (i + 1) segments)
gradients_more segments i start before old new x lt h old_is new_is x_is =
    let more : gradient_starts (take (i + 1) segments) ≡ gradient_starts (take i segments) ++ unsigned_abs start ∷ [] =
    map_more (λ (s : Segment). unsigned_abs s.start) segments i some_segment lt ∙ ap
    (λ (z : ℤ). gradient_starts (take i segments) ++ unsigned_abs z ∷ []) (sym (start_is segments i start lt h)) in
    rw (new_is, old_is, x_is, more) (simp append_assoc)

-- the next area adds its two ends
pub areas_more : (length_cm : ℕ) (areas : List Area) (i : ℕ) (d : Area) (before old middle new : List ℕ) (x y : ℕ) →
    i < length areas → old ≡ before ++ area_ends length_cm (take i areas) →
    middle ≡ old ++ x ∷ [] → new ≡ middle ++ y ∷ [] → x ≡ unsigned_abs (get_or areas i d).start → y ≡ unsigned_abs
    ((get_or areas i d).end +ℤ pos length_cm) → new ≡ before ++ area_ends length_cm (take (i + 1) areas)
areas_more length_cm areas i d before old middle new x y lt old_is middle_is new_is x_is y_is =
    let cells_of : Area → List ℕ = λ a. unsigned_abs a.start ∷ unsigned_abs (a.end +ℤ pos length_cm) ∷ [] in
    rw (
      new_is,
      middle_is,
      old_is,
      x_is,
      y_is,
      flat_map_next cells_of areas i (get_or areas i d) (slice_get-get_or areas i d lt),
    ) (simp append_assoc)

-- a sum of naturals is that of whole numbers
pub nat_plus : (z : ℤ) (n : ℕ) → pos 0 ≤ℤ z → unsigned_abs z + n ≡ unsigned_abs (z +ℤ pos n)
nat_plus (pos m) n h = refl
nat_plus (negsuc m) n h = absurd (omega (arith, ints))

-- ---- slopes

-- the next element adds its slope to the row
pub row_more : {U : Type 0} (f : U → ℤ) (us : List U) (i : ℕ) (u : U) (before old new : List ℤ) (x : ℤ) →
    i < length us → u ≡ get_or us i u → old ≡ before ++ map f (take i us) → new ≡ old ++ x ∷ [] → x ≡ f u →
    new ≡ before ++ map f (take (i + 1) us)
row_more f us i u before old new x lt here old_is new_is x_is =
    let more : map f (take (i + 1) us) ≡ map f (take i us) ++ f u ∷ [] = map_more f us i u lt
    ∙ ap (λ z. map f (take i us) ++ f z ∷ []) (sym here) in
    rw (new_is, old_is, x_is, more) (simp append_assoc)

-- ---- upper speeds

-- a band with an upper speed adds it
pub uppers_more : (bands : List Band) (i : ℕ) (b : Band) (kmh : ℤ) (old new : List ℕ) (x : ℕ) →
    slice_get bands i ≡ Some b → b.upper ≡ Some kmh → old ≡ uppers_of (take i bands) → new ≡ old ++ x ∷ [] →
    x ≡ notches (unsigned_abs kmh) →
    new ≡ uppers_of (take (i + 1) bands)
uppers_more bands i b kmh old new x h has old_is new_is x_is =
    let more : uppers_of (take (i + 1) bands) ≡ uppers_of (take i bands) ++ notches (unsigned_abs kmh)
    ∷ [] = ap (λ (bs : List Band). uppers_of bs) (next_is bands i b h)
    ∙ filter_map-append _ (take i bands) (b ∷ []) ∙ rw has refl in
    rw (new_is, old_is, x_is) (sym more)

none_of : (o : Option ℤ) → ((x : ℤ) → o ≡ Some x → ⊥) → o ≡ None
none_of None h = refl
none_of (Some x) h = absurd (h x refl)

-- a band without one adds none
pub uppers_same : (bands : List Band) (i : ℕ) (b : Band) → slice_get bands i ≡ Some b →
    ((kmh : ℤ) → b.upper ≡ Some kmh → ⊥) → uppers_of (take (i + 1) bands) ≡ uppers_of (take i bands)
uppers_same bands i b h none = ap (λ (bs : List Band). uppers_of bs) (next_is bands i b h)
    ∙ filter_map-append _ (take i bands) (b ∷ []) ∙ rw (none_of b.upper none) (append-nil _)
