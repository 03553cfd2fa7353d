-- Segments that were read start at 0 and rise, with a slope for each band; so a written map that was read is one that
-- may be handed in.
use Rattle.std.proofs.Common.{◌≡◌, ℕ, zero, suc, ℤ, pos, neg_ℤ, List, [], ◌∷◌, ◌++◌, Ok, ◌+◌, ◌-◌, ◌*◌, ◌^◌, ◌<◌, ◌≤◌}
use Rattle.std.proofs.Common.{◌+ℤ◌, All, length, length-append, append_assoc, unsigned_abs, refl, sym, ap, subst, arith}
use Rattle.std.specs.Prelude.{codes}
use Rattle.std.proofs.lemmas.Int.{ints}
use Rattle.std.proofs.lemmas.List.{append-nil}
use Rattle.std.proofs.lemmas.List.Elements.{All-append, All-cons, All-nil}
use Rattle.sdm_formats.specs.Lines.{comma_fields}
use Rattle.sdm_curve.specs.Maps.{MapData, IsMapData, IsSlopeBounded, AreStarts}
use Rattle.sdm_certify.specs.declared.forms.Head.{Head}
use Rattle.sdm_certify.specs.Fields.{first_number, first_word, slopes_after}
use Rattle.sdm_certify.specs.Lines.{LinesLeft, Segment, Segments, head_of, map_in, map_of, next_line, one_more}
use Rattle.sdm_certify.specs.Lines.{segment_of, segments_after, segments_in, uppers_in}
use Rattle.sdm_certify.proofs.ByBand.{as_many, of_all}
use Rattle.sdm_certify.proofs.ReadMaps.{AreUppersOf, IfField, IfForm, IfRead, IsFrom, IsHead, head_read, line_read}
use Rattle.sdm_certify.proofs.ReadMaps.{number_read, then_fields, then_form, then_read, uppers_read, whole}
use Rattle.sdm_certify.proofs.ReadOn.{AreStartsBelow, start_read}

-- ---- one segment

-- what holds of so many slopes, after others, holds of what is read
slopes_read : (P : List ℤ → Type 0) (done : List ℤ) (count : ℕ) →
    ((slopes : List ℤ) → length slopes ≡ count → All IsSlopeBounded slopes → P (done ++ slopes)) →
    (fields : List (List ℕ)) → IfField P (slopes_after done count fields)
slopes_read P done zero h fields = subst P (append-nil done) (h [] refl (All-nil IsSlopeBounded))
slopes_read P done (suc count) h fields =
    then_form (IsFrom (neg_ℤ (pos (10 ^ 15))) (pos (10 ^ 15))) (λ read. P read.0)
    (first_number (neg_ℤ (pos (10 ^ 15))) (pos (10 ^ 15)) fields) _ (number_read _ _ fields) (λ n after from.
    slopes_read P (done ++ n ∷ []) count (λ ns long all. subst P (sym (append_assoc done (n ∷ []) ns))
    (h (n ∷ ns) (ap suc long) (All-cons IsSlopeBounded n ns (record { low = from.low; high = from.high }) all))) after)

-- a segment as its line has it
record IsSegment (bands : ℕ) (least greatest : ℤ) (s : Segment) : Type 0 where
  pub from : IsFrom least greatest s.start
  pub many : length s.slopes ≡ bands
  pub bounded : All IsSlopeBounded s.slopes

-- the line of a segment
segment_line : (bands : ℕ) (least greatest : ℤ) (line : List ℕ) →
    IfForm (IsSegment bands least greatest) (segment_of bands least greatest line)
unfolding segment_of
segment_line bands least greatest line =
    let Is = IsSegment bands least greatest in
    then_fields Is (first_word (codes "seg") (comma_fields line)) _ (λ fields.
    then_form (IsFrom least greatest) Is (first_number least greatest fields) _ (number_read _ _ fields)
    (λ start fields from.
    then_form (λ slopes. Is (record { start = start; slopes = slopes })) Is (slopes_after [] bands fields) _
    (slopes_read _ [] bands (λ slopes many all. record { from = from; many = many; bounded = all }) fields)
    (λ slopes fields is. whole Is _ fields is)))

-- ---- all segments

-- so many segments, which all start before `least`
record AreSegmentsBelow (bands count : ℕ) (read : Segments) (least : ℕ) : Type 0 where
  pub starts : AreStartsBelow read.starts least
  pub count_is : length read.starts ≡ count
  pub many : length read.slopes ≡ count * bands
  pub bounded : All IsSlopeBounded read.slopes

-- so many segments of a map
record AreSegmentsOf (bands count : ℕ) (read : Segments) : Type 0 where
  pub starts : AreStarts read.starts
  pub count_is : length read.starts ≡ count
  pub many : length read.slopes ≡ count * bands
  pub bounded : All IsSlopeBounded read.slopes

-- one segment more, of which the first starts at 0
segments_more : (bands count : ℕ) (read : Segments) (least : ℕ) (s : Segment) (from greatest : ℤ) → from ≡ pos least →
    (count ≡ 0 → greatest ≡ pos 0) → AreSegmentsBelow bands count read least → IsSegment bands from greatest s →
    AreSegmentsBelow bands (suc count) (one_more read s) (suc (unsigned_abs s.start))
segments_more bands count read least s from greatest from_is first h is =
    let k = unsigned_abs s.start in
    let low = is.from.low in
    let high = is.from.high in
    let natural : pos k ≡ s.start = omega (arith, ints, low, from_is) in
    let past : least ≤ k = omega (arith, ints, low, from_is) in
    let starts = start_read read.starts least k h.starts past (λ none.
    let zero_is = first (omega (arith, none, h.count_is)) in omega (arith, ints, high, zero_is, natural)) in
    record {
      starts = subst (λ (z : ℤ). AreStartsBelow (read.starts ++ z ∷ []) (suc k)) natural starts;
      count_is = omega (arith, length-append read.starts (s.start ∷ []), h.count_is);
      many = omega (arith, length-append read.slopes s.slopes, h.many, is.many);
      bounded = All-append IsSlopeBounded read.slopes s.slopes h.bounded is.bounded;
    }

-- the segments from some lines on
segments_read : (bands done : ℕ) (read : Segments) (count least : ℕ) (from greatest : ℤ) (at : LinesLeft) →
    from ≡ pos least → (done ≡ 0 → greatest ≡ pos 0) → 0 < done + count → AreSegmentsBelow bands done read least →
    IfRead (AreSegmentsOf bands (done + count)) (segments_after bands read count from greatest at)
segments_read bands done read zero least from greatest at from_is first some h =
    let some_starts : 0 < length read.starts = omega (arith, some, h.count_is) in
    record {
      starts = record { some = some_starts; first = h.starts.first some_starts; rise = h.starts.rise };
      count_is = omega (arith, h.count_is);
      many = (let same : done ≡ done + zero = omega arith in
          subst (λ (n : ℕ). length read.slopes ≡ n * bands) same h.many);
      bounded = h.bounded;
    }
segments_read bands done read (suc count) least from greatest at from_is first some h =
    then_read (IsSegment bands from greatest) (AreSegmentsOf bands (done + suc count))
    (next_line (segment_of bands from greatest) at) _
    (line_read (IsSegment bands from greatest) (segment_of bands from greatest) at (segment_line bands from greatest))
    (λ s at is.
    let long : suc done + count ≡ done + suc count = omega arith in
    let low = is.from.low in
    let next : s.start +ℤ pos 1 ≡ pos (suc (unsigned_abs s.start)) = omega (arith, ints, low, from_is) in
    subst
    (λ (m : ℕ). IfRead (AreSegmentsOf bands m)
    (segments_after bands (one_more read s) count (s.start +ℤ pos 1) (pos 10_200_000) at)) long
    (segments_read bands (suc done) (one_more read s) count (suc (unsigned_abs s.start)) (s.start +ℤ pos 1)
    (pos 10_200_000) at next (λ none. absurd (omega (arith, none))) (omega arith)
    (segments_more bands done read least s from greatest from_is first h is)))

-- no segment was read yet
none_read : (bands : ℕ) → AreSegmentsBelow bands 0 (record { starts = []; slopes = [] }) 0
none_read bands = record {
  starts = record {
    first = λ some. absurd (omega (arith, some));
    below = λ k lt. absurd (omega (arith, lt));
    rise = λ j k lt known. absurd (omega (arith, known));
  };
  count_is = omega arith;
  many = omega arith;
  bounded = All-nil IsSlopeBounded;
}

-- all segments
segments_in_read : (bands count : ℕ) (at : LinesLeft) → 1 ≤ count →
    IfRead (AreSegmentsOf bands count) (segments_in bands count at)
segments_in_read bands count at some =
    let same : 0 + count ≡ count = omega arith in
    subst (λ (m : ℕ). IfRead (AreSegmentsOf bands m) (segments_in bands count at)) same
    (segments_read bands 0 (record { starts = []; slopes = [] }) count 0 (pos 0) (pos 0) at (omega (arith, ints))
    (λ none. omega (arith, ints)) (omega (arith, some)) (none_read bands))

-- ---- the map

-- a map of what was read
read_data : (head : Head) (uppers : List ℕ) (read : Segments) → IsHead head → AreUppersOf (head.bands - 1) uppers →
    AreSegmentsOf head.bands head.segments read → IsMapData (map_of head uppers read)
read_data head uppers read h are segments =
    let some = h.some_bands in
    let bands : suc (length uppers) ≡ head.bands = omega (arith, are.count_is, some) in
    record {
      low_q = h.low_q;
      high_q = h.high_q;
      uppers = record {
        few = (let few = h.few_bands in omega (arith, bands, few));
        positive = are.positive;
        rise = are.rise;
      };
      starts = segments.starts;
      lengths = rw (bands, segments.count_is) (as_many head.bands read.slopes head.segments head.bands);
      bounded = λ k lt. of_all head.bands read.slopes IsSlopeBounded head.segments segments.bounded segments.many
          head.bands (omega arith) k (pos 0) lt;
    }

-- the map of any lines, where it is read
lines_data : (at : LinesLeft) → IfRead IsMapData (map_in at)
unfolding map_in
lines_data at =
    then_read IsHead IsMapData (next_line head_of at) _ (line_read IsHead head_of at head_read) (λ head at h.
    then_read (AreUppersOf (head.bands - 1)) IsMapData (uppers_in head.bands at) _
    (uppers_read head.bands at h.some_bands) (λ uppers at are.
    then_read (AreSegmentsOf head.bands head.segments) IsMapData (segments_in head.bands head.segments at) _
    (segments_in_read head.bands head.segments at h.some_segments) (λ read at segments.
    read_data head uppers read h are segments)))

-- a map that was read may be handed in
pub map_data_read : (at after : LinesLeft) (written : MapData) → map_in at ≡ Ok (written, after) → IsMapData written
map_data_read at after written is = subst (IfRead IsMapData) is (lines_data at)
