-- The same lies under the train with its front end in two cells, where nothing changes past the first up to the
-- second: each gradient has begun for both or for neither, and each area is in force for both or for neither.
use Rattle.std.proofs.Common.{◌≡◌, ℕ, suc, ℤ, pos, List, [], ◌∷◌, length, get_or, Bool, int_le, int_lt, ◌<◌, ◌+ℤ◌}
use Rattle.std.proofs.Common.{◌≤ℤ◌, ◌<ℤ◌, refl, sym, ◌∙◌, ap, ap₂, arith}
use Rattle.std.proofs.lemmas.Int.{ints, by_lt_z}
use Rattle.sdm_num.proofs.Comparisons.{le_is, not_le_is, lt_is, not_lt_is}
use Rattle.sdm_rules.specs.declared.data.Area.{Area}
use Rattle.sdm_rules.specs.Cells.{last_at, value_at}
use Rattle.sdm_rules.specs.Data.{TrackData}
use Rattle.sdm_rules.specs.Decelerations.{UnderTrain, any_in_force, under_train}
use Rattle.sdm_track.specs.declared.under_train.Segment.{Segment}
use Rattle.sdm_decel.specs.StretchCells.{AreGradientsUnder}

-- nothing changes past the cell `s` up to the cell `c`
pub record IsBegun (s c cell : ℤ) : Type 0 where
  pub begun : cell ≤ℤ c → cell ≤ℤ s

-- so where areas of a list come into force, and where the rear end has left them
pub record AreBegun (s c : ℤ) (length_cm : ℕ) (areas : List Area) : Type 0 where
  pub starts : (k : ℕ) (d : Area) → k < length areas → IsBegun s c (get_or areas k d).start
  pub ends : (k : ℕ) (d : Area) → k < length areas → IsBegun s c ((get_or areas k d).end +ℤ pos length_cm)

module _ (s c : ℤ) (le : s ≤ℤ c) where
  -- what begins there has begun at both cells or at neither
  le_same : (b : ℤ) → IsBegun s c b → int_le b c ≡ int_le b s
  le_same b h =
      by_lt_z c b
      (λ (lt : c <ℤ b). not_le_is b c lt ∙ sym (not_le_is b s (omega (arith, ints))))
      (λ (ge : b ≤ℤ c). le_is b c ge ∙ sym (le_is b s (h.begun ge)))

  -- what ends there has ended at both or at neither
  lt_same : (b : ℤ) → IsBegun s c b → int_lt c b ≡ int_lt s b
  lt_same b h =
      by_lt_z c b
      (λ (lt : c <ℤ b). lt_is c b lt ∙ sym (lt_is s b (omega (arith, ints))))
      (λ (ge : b ≤ℤ c). not_lt_is c b ge ∙ sym (not_lt_is s b (h.begun ge)))

  -- ---- gradients

  -- the last entry that has begun is the same
  last_same : {E V : Type 0} (start : E → ℤ) (value : E → V) (es : List E) (before : V) →
      ((k : ℕ) (d : E) → k < length es → IsBegun s c (start (get_or es k d))) →
      last_at start value es c before ≡ last_at start value es s before
  last_same start value [] before h = refl
  last_same start value (x ∷ xs) before h =
      rw (le_same (start x) (h 0 x (omega arith))) (last_same start value xs _ (λ k d l. h (suc k) d (omega arith)))

  -- and so is its value
  value_same : {E V : Type 0} (start : E → ℤ) (value : E → V) (none : V) (es : List E) →
      ((k : ℕ) (d : E) → k < length es → IsBegun s c (start (get_or es k d))) →
      value_at start value none es c ≡ value_at start value none es s
  value_same start value none [] h = refl
  value_same start value none (x ∷ xs) h = last_same start value xs (value x) (λ k d l. h (suc k) d (omega arith))

  -- ---- areas

  -- some area is in force at both or at neither
  any_same : (length_cm : ℕ) (areas : List Area) → AreBegun s c length_cm areas →
      any_in_force areas (pos length_cm) c ≡ any_in_force areas (pos length_cm) s
  any_same length_cm [] h = refl
  any_same length_cm (a ∷ more) h =
      let front = le_same a.start (h.starts 0 a (omega arith)) in
      let rear = lt_same (a.end +ℤ pos length_cm) (h.ends 0 a (omega arith)) in
      let rest = any_same length_cm more (record {
        starts = λ k d l. h.starts (suc k) d (omega arith);
        ends = λ k d l. h.ends (suc k) d (omega arith);
      }) in
      cc

  -- ---- the track under the train

  -- so the same lies under the train
  pub under_same : (track : TrackData) (length_cm : ℕ) (segments : List Segment) →
      AreGradientsUnder track length_cm segments →
      ((k : ℕ) (d : Segment) → k < length segments → IsBegun s c (get_or segments k d).start) →
      AreBegun s c length_cm track.areas → AreBegun s c length_cm track.no_special →
      under_train track (pos length_cm) c ≡ under_train track (pos length_cm) s
  under_same track length_cm segments given gradients adhesion no_special =
      let grad = sym (given.at c) ∙ value_same (λ x. x.start) (λ x. x.value) (pos 0) segments gradients ∙ given.at s in
      let reduced = any_same length_cm track.areas adhesion in
      let unaided = any_same length_cm track.no_special no_special in
      let under : ℤ → Bool → Bool → UnderTrain = λ g r u. record { grad = g; reduced = r; unaided = u } in
      ap₂ (λ (g : ℤ) (r : Bool). under g r (any_in_force track.no_special (pos length_cm) c)) grad reduced
      ∙ ap (λ (u : Bool). under (under_train track (pos length_cm) s).grad
      (any_in_force track.areas (pos length_cm) s) u) unaided
