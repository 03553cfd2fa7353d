-- The segments made so far, as a sweep moves on: they are right up to its cell, and go on with the gradient there.
-- Where the gradient changes, a segment more keeps this; where it does not, they stay.
use Rattle.std.proofs.Common.{◌≡◌, ◌≢◌, ℕ, ℤ, pos, List, [], ◌∷◌, ◌++◌, length, get_or, All, ◌+◌, ◌-◌, ◌*◌, ◌<◌, ◌≤◌}
use Rattle.std.proofs.Common.{◌≤ℤ◌, ◌<ℤ◌, inl, inr, refl, sym, ap, ◌∙◌, arith, length-append}
use Rattle.std.proofs.lemmas.Int.{ints, by_lt_z}
use Rattle.std.proofs.lemmas.Bool.{cases_lt}
use Rattle.std.proofs.lemmas.List.{get_or_default}
use Rattle.std.proofs.Math.ListN.{get_or-append}
use Rattle.std.proofs.Math.Seq.{get_or-append_seam}
use Rattle.sdm_rules.specs.declared.data.Gradient.{Gradient}
use Rattle.sdm_rules.specs.Ranges.{most_gradients}
use Rattle.sdm_track.specs.declared.under_train.Segment.{Segment}
use Rattle.sdm_track.specs.Steps.{IsRising, LiesIn}
use Rattle.sdm_track.specs.Sweeps.{Swept, gradient_at, gradient_under}
use Rattle.sdm_track.specs.Segments.{IsSegment, AreSegments, GoOnWith, segment_gradient}
use Rattle.sdm_track.proofs.StepLaws.{value_is, value_before, value_from}

-- ---- the segment in which a cell lies

-- a segment that is read at the index where a cell lies has the gradient there
pub read_is : (list : List Segment) (i : ℕ) (c : ℤ) (s : Segment) → IsRising (λ s. s.start) list →
    LiesIn (λ s. s.start) list i c → s ≡ get_or list i s →
    s.value ≡ segment_gradient list c
read_is list i c s rise lies is =
    ap (λ (s : Segment). s.value) is ∙ sym (value_is (λ s. s.start) (λ s. s.value) list i c s (pos 0) rise lies)

-- ---- a list of segments, as one more is added

-- where the last segment has the gradient, the segments go on
pub goes_on_same : (out : List Segment) (s last : Segment) → AreSegments out → All (λ t. t.start <ℤ s.start) out →
    last ≡ get_or out (length out - 1) last → last.value ≡ s.value → GoOnWith s out out
goes_on_same out s last h later is same = record {
  before = λ c l. refl;
  after = λ c l. value_is (λ s. s.start) (λ s. s.value) out (length out - 1) c last (pos 0) h.rise (record {
    known = omega (arith, h.some);
    begun = λ d p. (let b = later (length out - 1) d (omega (arith, h.some)) in omega (arith, ints));
    goes_on = record { before = λ d m. absurd (omega arith) };
  }) ∙ ap (λ (t : Segment). t.value) (sym is) ∙ same;
  begun = λ i d l. (let b = later i d l in omega (arith, ints));
  by_one = omega arith;
}

module _ (out : List Segment) (s last : Segment) (h : AreSegments out) (later : All (λ t. t.start <ℤ s.start) out)
    (in_range : IsSegment s) (room : length out + 1 < 2 * most_gradients)
    (is : last ≡ get_or out (length out - 1) last) (new : last.value ≢ s.value) where
  -- the segments before stay as they were
  old_at : (i : ℕ) (d : Segment) → i < length out → get_or (out ++ s ∷ []) i d ≡ get_or out i d
  old_at i d l = get_or-append out (s ∷ []) d i l

  new_at : (i : ℕ) (d : Segment) → i ≡ length out → get_or (out ++ s ∷ []) i d ≡ s
  new_at i d is = rw is (get_or-append_seam out s [] d)

  longer : length (out ++ s ∷ []) ≡ length out + 1
  longer = length-append out (s ∷ [])

  -- the last one before
  last_at : (i : ℕ) (d : Segment) → i ≡ length out - 1 → get_or out i d ≡ last
  last_at i d e = rw e (get_or_default out (length out - 1) d last (omega (arith, h.some)) ∙ sym is)

  -- one segment more, with another gradient
  pub segments_more : AreSegments (out ++ s ∷ [])
  segments_more = record {
    some = omega (arith, longer);
    few = omega (arith, longer, room);
    each = λ i d l. elim (cases_lt i (length out)) [
      | inl lt ↦ rw (old_at i d lt) (h.each i d lt)
      | inr ge ↦ rw (new_at i d (omega (arith, longer))) in_range
    ];
    from_zero = record { first = λ d some. rw (old_at 0 d h.some) (h.from_zero.first d h.some) };
    rise = record {
      rises = λ i j d l m. elim (cases_lt j (length out)) [
        | inl lt ↦ rw (old_at i d (omega arith), old_at j d lt) (h.rise.rises i j d l lt)
        | inr ge ↦ rw (old_at i d (omega (arith, longer)), new_at j d (omega (arith, longer)))
            (later i d (omega (arith, longer)))
      ];
    };
    differ = λ i d m. elim (cases_lt (i + 1) (length out)) [
      | inl lt ↦ rw (old_at i d (omega arith), old_at (i + 1) d lt) (h.differ i d lt)
      | inr ge ↦ rw (
        new_at (i + 1) d (omega (arith, longer)),
        old_at i d (omega (arith, longer)),
        last_at i d (omega (arith, longer)),
      ) new
    ];
  }

  -- its gradient holds from its start on
  pub goes_on_more : GoOnWith s out (out ++ s ∷ [])
  goes_on_more = record {
    before = λ c l. value_before (λ s. s.start) (λ s. s.value) out s c (pos 0) h.some l;
    after = λ c l. value_from (λ s. s.start) (λ s. s.value) out s c (pos 0) h.some l;
    begun = λ i d l. elim (cases_lt i (length out)) [
      | inl lt ↦ (let b = later i d lt in rw (old_at i d lt) (omega (arith, ints)))
      | inr ge ↦ rw (new_at i d (omega (arith, longer))) (omega (arith, ints))
    ];
    by_one = omega (arith, longer);
  }

-- ---- the segments of a sweep

-- the segments made so far are right up to the cell of the sweep, and go on with the gradient there
pub record IsSoFar (entries : List Gradient) (length_cm : ℕ) (s : Swept) (out : List Segment) : Type 0 where
  pub entries_are : s.entries ≡ entries
  pub length_is : s.length_cm ≡ length_cm
  pub segments : AreSegments out
  pub begun : All (λ t. t.start ≤ℤ s.at) out
  pub right : (c : ℤ) → c ≤ℤ s.at → segment_gradient out c ≡ gradient_under entries length_cm c
  pub goes_on : (c : ℤ) → s.at ≤ℤ c → segment_gradient out c ≡ gradient_under entries length_cm s.at
  pub few : length out + s.left ≤ 2 * (length entries - 1) + 1

module _ (entries : List Gradient) (length_cm : ℕ) where
  -- the first segment, from cell 0
  pub so_far_first : (s : Swept) (first : Segment) →
      s ≡ record { entries = entries; length_cm = length_cm; at = pos 0; left = 2 * (length entries - 1) } →
      ((c : ℤ) → c ≤ℤ pos 0 → gradient_at s c ≡ gradient_at s (pos 0)) →
      first ≡ record { start = s.at; value = gradient_at s s.at } → IsSegment first →
      IsSoFar entries length_cm s (first ∷ [])
  so_far_first s first begins before is in_range = let here = rw begins at is in rw (begins, here) (record {
    entries_are = refl;
    length_is = refl;
    segments = record {
      some = omega arith;
      few = omega arith;
      each = λ i d l. (let e : i ≡ 0 = omega arith in rw e (rw here at in_range));
      from_zero = record { first = λ d some. refl };
      rise = record { rises = λ i j d l m. absurd (omega arith) };
      differ = λ i d l. absurd (omega arith);
    };
    begun = λ i d l. (let e : i ≡ 0 = omega arith in rw e (omega (arith, ints)));
    right = λ c l. sym ((rw begins at before) c l);
    goes_on = λ c l. refl;
    few = omega arith;
  })

  module _ (s : Swept) (out : List Segment) (made : IsSoFar entries length_cm s out) where
    -- they are right as long as the gradient stays
    right_on : (c : ℤ) → (s.at ≤ℤ c → gradient_at s c ≡ gradient_at s s.at) →
        segment_gradient out c ≡ gradient_under entries length_cm c
    right_on c same = by_lt_z c s.at
        (λ (lt : c <ℤ s.at). made.right c (omega (arith, ints)))
        (λ (le : s.at ≤ℤ c). made.goes_on c le ∙ sym (rw (made.entries_are, made.length_is) at (same le)))

    -- the sweep moves on to a later cell, from which on the segments go on with the gradient there
    pub so_far_on : (to : Swept) (next : Segment) (more : List Segment) → to.entries ≡ s.entries →
        to.length_cm ≡ s.length_cm → s.at <ℤ to.at → to.left < s.left →
        ((c : ℤ) → s.at ≤ℤ c → c <ℤ to.at → gradient_at s c ≡ gradient_at s s.at) →
        next ≡ record { start = to.at; value = gradient_at to to.at } → GoOnWith next out more → AreSegments more →
        IsSoFar entries length_cm to more
    so_far_on to next more entries_stay train_stays later fewer same is h segments =
        let entries_are = entries_stay ∙ made.entries_are in
        let length_is = train_stays ∙ made.length_is in
        let start_is : next.start ≡ to.at = ap (λ (t : Segment). t.start) is in
        let value_is : next.value ≡ gradient_under entries length_cm to.at =
        rw (entries_are, length_is) at (ap (λ (t : Segment). t.value) is) in
        record {
          entries_are = entries_are;
          length_is = length_is;
          segments = segments;
          begun = rw start_is at h.begun;
          right = λ c l.
              by_lt_z c to.at
              (λ (lt : c <ℤ to.at). h.before c (rw start_is lt) ∙ right_on c (λ le. same c le lt))
              (λ (le : to.at ≤ℤ c). let e : c ≡ to.at = omega (arith, ints) in
              h.after c (rw start_is le) ∙ value_is ∙ ap (gradient_under entries length_cm) (sym e));
          goes_on = λ c l. h.after c (rw start_is l) ∙ value_is;
          few = omega (arith, made.few, fewer, h.by_one);
        }

    -- once it stays for good they are right for every cell
    pub so_far_all : ((c : ℤ) → s.at ≤ℤ c → gradient_at s c ≡ gradient_at s s.at) → (c : ℤ) →
        segment_gradient out c ≡ gradient_under entries length_cm c
    so_far_all same c = right_on c (same c)
