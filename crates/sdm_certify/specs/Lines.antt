-- The text of stop certificates, read line by line: first the map, then claims, each with its marks (own).
use Rattle.std.specs.Prelude.{ℕ, zero, suc, ℤ, pos, negsuc, neg_ℤ, List, [], ◌∷◌, ◌++◌, Option, Some, None, Result}
use Rattle.std.specs.Prelude.{Ok, Err, ◌+◌, ◌-◌, ◌*◌, ◌^◌, ◌+ℤ◌, codes, nat_le, unsigned_abs, slice_index_or}
use Rattle.std.specs.Prelude.{if◌then◌else◌}
use Rattle.sdm_rules.specs.declared.certificates.Claim.{Claim}
use Rattle.sdm_rules.specs.declared.certificates.Mark.{Mark}
use Rattle.sdm_formats.specs.Lines.{lines_of, comma_fields}
use Rattle.sdm_curve.specs.Maps.{MapData, map_data}
use Rattle.sdm_certify.specs.declared.forms.Head.{Head}
use Rattle.sdm_certify.specs.declared.forms.ClaimLine.{ClaimLine}
use Rattle.sdm_certify.specs.Fields.{and_then, first_word, first_number, first_wide, rising_after, slopes_after}
use Rattle.sdm_certify.specs.Fields.{whole_line}

-- ---- the forms of lines

-- `map,q,b,s`: the unit of slopes, and how many bands and segments there are
unfoldable pub head_of : List ℕ → Option Head
head_of line =
    and_then (first_word (codes "map") (comma_fields line)) (λ _ fields.
    and_then (first_number (pos 100) (pos 11_730) fields) (λ q fields.
    and_then (first_number (pos 1) (pos 10) fields) (λ bands fields.
    and_then (first_number (pos 1) (pos 2_000) fields) (λ segments fields.
    whole_line (record {
      q = unsigned_abs q;
      bands = unsigned_abs bands;
      segments = unsigned_abs segments;
    }) fields))))

-- `uppers` and so many upper speeds in notches, which rise
unfoldable pub uppers_of : ℕ → List ℕ → Option (List ℕ)
uppers_of count line =
    and_then (first_word (codes "uppers") (comma_fields line)) (λ _ fields.
    and_then (rising_after [] count 1 20_000_000 fields) whole_line)

-- a segment as it is written: its first cell, and the slopes of its bands, in 1/Q m/s²
pub record Segment : Type 0 where
  pub start : ℤ
  pub slopes : List ℤ

-- `seg,start` and so many slopes; the start is from `least` to `greatest`
unfoldable pub segment_of : ℕ → ℤ → ℤ → List ℕ → Option Segment
segment_of bands least greatest line =
    and_then (first_word (codes "seg") (comma_fields line)) (λ _ fields.
    and_then (first_number least greatest fields) (λ start fields.
    and_then (slopes_after [] bands fields) (λ slopes fields.
    whole_line (record { start = start; slopes = slopes }) fields)))

-- `claim,time,front,speed,a1,a2,tt,tb,svl,n`: a claim, and how many marks it has
unfoldable pub claim_of : List ℕ → Option ClaimLine
claim_of line =
    and_then (first_word (codes "claim") (comma_fields line)) (λ _ fields.
    and_then (first_number (pos 0) (pos 100_000_000) fields) (λ time fields.
    and_then (first_number (neg_ℤ (pos 60_000_000_000_000_000)) (pos 60_000_000_000_000_000) fields) (λ front fields.
    and_then (first_number (pos 0) (pos 8_100_000) fields) (λ speed fields.
    and_then (first_number (pos 0) (pos 300) fields) (λ accel1 fields.
    and_then (first_number (pos 0) (pos 40) fields) (λ accel2 fields.
    and_then (first_number (pos 0) (pos 300) fields) (λ traction fields.
    and_then (first_number (pos 0) (pos 300) fields) (λ berem fields.
    and_then (first_number (pos 0) (pos 54_000_000_000_000_000) fields) (λ svl fields.
    and_then (first_number (pos 1) (pos 4_000) fields) (λ marks fields.
    whole_line (record {
      claim = record {
        time = unsigned_abs time;
        front = front;
        speed = unsigned_abs speed;
        accel1 = unsigned_abs accel1;
        accel2 = unsigned_abs accel2;
        traction = unsigned_abs traction;
        berem = unsigned_abs berem;
        svl = svl;
      };
      marks = unsigned_abs marks;
    }) fields))))))))))

-- `mark,place,energy`: the place has at most 18 digits, the energy is at most 10^32
unfoldable pub mark_of : List ℕ → Option Mark
mark_of line =
    and_then (first_word (codes "mark") (comma_fields line)) (λ _ fields.
    and_then (first_number (negsuc 999_999_999_999_999_998) (pos 999_999_999_999_999_999) fields) (λ place fields.
    and_then (first_wide (10 ^ 32) fields) (λ energy fields.
    whole_line (record { place = place; energy = energy }) fields)))

-- ---- lines one after the other

-- the lines of a text that are left, and the number of the first of them, from 1
pub record LinesLeft : Type 0 where
  pub number : ℕ
  pub lines : List (List ℕ)

-- what is read, with the lines after it; or the number of the first line that is missing or hasn't the right form
abbrev pub Read : Type 0 → Type 0
Read A = Result (A × LinesLeft) ℕ

-- what was read, and then what is read of the lines after it
abbrev pub and_on : {A B : Type 0} → Read A → (A → LinesLeft → Read B) → Read B
and_on (Err number) next = Err number
and_on (Ok (a, at)) next = next a at

-- what is read of the line of this number, if it has the right form
abbrev pub in_form : {A : Type 0} → ℕ → List (List ℕ) → Option A → Read A
in_form number lines None = Err number
in_form number lines (Some a) = Ok (a, record { number = suc number; lines = lines })

-- the first of lines, by its form
abbrev pub line_in : {A : Type 0} → (List ℕ → Option A) → ℕ → List (List ℕ) → Read A
line_in form number [] = Err number
line_in form number (line ∷ lines) = in_form number lines (form line)

-- the next line, by its form
abbrev pub next_line : {A : Type 0} → (List ℕ → Option A) → LinesLeft → Read A
next_line form at = line_in form at.number at.lines

-- ---- the map

-- the upper speeds: the line stands only where there is more than one band
abbrev pub uppers_in : ℕ → LinesLeft → Read (List ℕ)
uppers_in bands at = if nat_le bands 1 then Ok ([], at) else next_line (uppers_of (bands - 1)) at

-- the segments that were read: their first cells, and the slopes of their bands, those of one segment after the other
pub record Segments : Type 0 where
  pub starts : List ℤ
  pub slopes : List ℤ

-- one segment more
abbrev pub one_more : Segments → Segment → Segments
one_more read s = record { starts = read.starts ++ s.start ∷ []; slopes = read.slopes ++ s.slopes }

-- so many segments more; the next one starts from `least` to `greatest`, and each later one past the one before
abbrev pub segments_after : ℕ → Segments → ℕ → ℤ → ℤ → LinesLeft → Read Segments
segments_after bands read zero least greatest at = Ok (read, at)
segments_after bands read (suc count) least greatest at =
    and_on (next_line (segment_of bands least greatest) at) (λ s at.
    segments_after bands (one_more read s) count (s.start +ℤ pos 1) (pos 10_200_000) at)

-- all segments, of which the first starts at 0
abbrev pub segments_in : ℕ → ℕ → LinesLeft → Read Segments
segments_in bands count at = segments_after bands (record { starts = []; slopes = [] }) count (pos 0) (pos 0) at

-- the slopes of a band in the first so many segments, where there are so many bands
abbrev pub slopes_of_band : ℕ → List ℤ → ℕ → ℕ → List ℤ
slopes_of_band bands slopes band zero = []
slopes_of_band bands slopes band (suc i) =
    slopes_of_band bands slopes band i ++ slice_index_or slopes (i * bands + band) (pos 0) ∷ []

-- the slopes of the first so many bands, those of one band after the other
abbrev pub slopes_by_band : ℕ → List ℤ → ℕ → ℕ → List ℤ
slopes_by_band bands slopes segments zero = []
slopes_by_band bands slopes segments (suc band) =
    slopes_by_band bands slopes segments band ++ slopes_of_band bands slopes band segments

-- the map of its lines
abbrev pub map_of : Head → List ℕ → Segments → MapData
map_of head uppers read =
    map_data head.q uppers read.starts (slopes_by_band head.bands read.slopes head.segments head.bands)

-- the written map
unfoldable pub map_in : LinesLeft → Read MapData
map_in at =
    and_on (next_line head_of at) (λ head at.
    and_on (uppers_in head.bands at) (λ uppers at.
    and_on (segments_in head.bands head.segments at) (λ read at.
    Ok (map_of head uppers read, at))))

-- the lines of a text before any is read
abbrev pub lines_in : List ℕ → LinesLeft
lines_in text = record { number = 1; lines = lines_of text }

-- ---- claims

-- so many marks more than those that were read
abbrev pub marks_after : List Mark → ℕ → LinesLeft → Read (List Mark)
marks_after read zero at = Ok (read, at)
marks_after read (suc count) at = and_on (next_line mark_of at) (λ x at. marks_after (read ++ x ∷ []) count at)

-- a claim and its marks
pub record Certified : Type 0 where
  pub claim : Claim
  pub marks : List Mark

-- a claim with its marks, from the next line on
unfoldable pub claim_in : LinesLeft → Read Certified
claim_in at =
    and_on (next_line claim_of at) (λ c at.
    and_on (marks_after [] c.marks at) (λ marks at.
    Ok (record { claim = c.claim; marks = marks }, at)))

-- what is read from lines on; nothing where no line is left
abbrev pub where_due : List (List ℕ) → Read Certified → Option (Read Certified)
where_due [] read = None
where_due (line ∷ lines) read = Some read

-- the next claim with its marks; none where no line is left
abbrev pub next_claim : LinesLeft → Option (Read Certified)
next_claim at = where_due at.lines (claim_in at)
