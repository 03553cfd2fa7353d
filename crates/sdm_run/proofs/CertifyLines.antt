-- The lines that `certify` writes, one after the other: each is whole, and so are all of them.
use Rattle.std.proofs.Common.{◌≡◌, ℕ, ℤ, zero, suc, ◌+◌, ◌<◌, Bool, true, false, List, [], ◌∷◌, ◌++◌, Option}
use Rattle.std.proofs.Common.{nat_le, cond, refl, ap, sym, ◌∙◌, subst, inl, inr, map, arith, length, take, drop, get_or}
use Rattle.std.proofs.Common.{append_assoc, length-append}
use Rattle.std.specs.Prelude.{Result, Ok, Err, OnErr, codes, decimal}
use Rattle.std.specs.Fmt.{signed_decimal}
use Rattle.std.specs.List.{join_with_byte}
use Rattle.std.specs.Io.KnownBytes.{Appends}
use Rattle.std.proofs.KnownBytes.{Appends-trans}
use Rattle.std.proofs.Math.Seq.{take-append-add}
use Rattle.std.proofs.lemmas.List.{append-nil, take-append-le}
use Rattle.sdm_io.specs.Told.{AppendsPart}
use Rattle.sdm_rules.specs.declared.certificates.Claim.{Claim}
use Rattle.sdm_rules.specs.declared.certificates.Mark.{Mark}
use Rattle.sdm_rules.specs.declared.data.SlopeKind.TheVariants.{Safe}
use Rattle.sdm_rules.specs.Data.{TrainAndTrack}
use Rattle.sdm_rules.specs.Decelerations.{slopes_of}
use Rattle.sdm_rules.specs.Slopes.{Slopes, bands_of}
use Rattle.sdm_formats.specs.Text.{text_line}
use Rattle.sdm_certify.specs.WrittenLines.{claim_text, head_line, map_text, mark_text, marked_claim_text, segment_cells}
use Rattle.sdm_certify.specs.WrittenLines.{segment_line, slopes_at, text_of_lines, uppers_line, uppers_lines}
use Rattle.sdm_run.specs.Answers.{AreWholeLines}
use Rattle.sdm_run.specs.Certifying.{safe_map_text}
use Rattle.sdm_run.specs.declared.tellers.Teller.{Teller}
use Rattle.sdm_run.specs.declared.tellers.Teller.TheVariants.{Rows, Displays, Causes, Certificates}
use Rattle.sdm_run.specs.RunParts.{TellsEach, head_text}
use Rattle.sdm_run.proofs.OutputLeft.{empty_left, line_some, lines_both}

-- ---- whole lines

-- a line with its line feed is whole lines
line_whole : (fields : List (List ℕ)) → AreWholeLines (text_line fields)
line_whole fields = inr (join_with_byte 44 fields, refl)

claim_whole : (c : Claim) (marks : ℕ) → AreWholeLines (claim_text c marks)
unfolding claim_text
claim_whole c marks = line_whole
    (codes "claim" ∷ decimal c.time ∷ signed_decimal c.front ∷ decimal c.speed ∷ decimal c.accel1 ∷ decimal c.accel2
    ∷ decimal c.traction ∷ decimal c.berem ∷ signed_decimal c.svl ∷ decimal marks ∷ [])

mark_whole : (x : Mark) → AreWholeLines (mark_text x)
unfolding mark_text
mark_whole x = line_whole (codes "mark" ∷ signed_decimal x.place ∷ decimal x.energy ∷ [])

-- lines one after the other are whole lines
marks_whole : (marks : List Mark) → AreWholeLines (text_of_lines (map mark_text marks))
marks_whole [] = inl refl
marks_whole (x ∷ xs) = lines_both (mark_text x) (text_of_lines (map mark_text xs)) (mark_whole x) (marks_whole xs)

pub certificate_whole : (c : Claim) (marks : List Mark) → AreWholeLines (marked_claim_text c marks)
certificate_whole c marks = lines_both (claim_text c (length marks)) (text_of_lines (map mark_text marks))
    (claim_whole c (length marks)) (marks_whole marks)

segments_whole : (on : Slopes) (cells : List ℤ) → AreWholeLines (text_of_lines (map (segment_line on) cells))
unfolding segment_line
segments_whole on [] = inl refl
segments_whole on (cell ∷ cells) = lines_both (segment_line on cell) (text_of_lines (map (segment_line on) cells))
    (line_whole (codes "seg" ∷ signed_decimal cell ∷ slopes_at on cell (bands_of on.uppers))) (segments_whole on cells)

uppers_whole : (on : Slopes) (few : Bool) (cells : List ℤ) →
    AreWholeLines (text_of_lines (cond few [] (uppers_line on ∷ []) ++ map (segment_line on) cells))
unfolding uppers_line
uppers_whole on true cells = segments_whole on cells
uppers_whole on false cells = lines_both (uppers_line on) _
    (line_whole (codes "uppers" ∷ map decimal on.uppers)) (segments_whole on cells)

map_whole : (on : Slopes) → AreWholeLines (map_text on)
unfolding head_line
map_whole on = lines_both (head_line on (length (segment_cells on))) _
    (line_whole (codes "map" ∷ decimal on.q ∷ decimal (bands_of on.uppers) ∷ decimal (length (segment_cells on)) ∷ []))
    (uppers_whole on (nat_le (bands_of on.uppers) 1) (segment_cells on))

-- what stands before the records
pub head_whole : (teller : Teller) (d : TrainAndTrack) → AreWholeLines (head_text teller d)
unfolding safe_map_text
head_whole Rows d = inl refl
head_whole Displays d = inl refl
head_whole Causes d = inl refl
head_whole (Certificates left) d = map_whole (slopes_of Safe d)

-- the written map has a text
pub map_some : (d : TrainAndTrack) → safe_map_text d ≡ [] → ⊥
unfolding safe_map_text head_line
map_some d none =
    let on = slopes_of Safe d in
    let segments = length (segment_cells on) in
    line_some (join_with_byte 44 (codes "map" ∷ decimal on.q ∷ decimal (bands_of on.uppers) ∷ decimal segments ∷ []))
    (empty_left (head_line on segments) (text_of_lines (uppers_lines on ++ map (segment_line on) (segment_cells on)))
    none)

-- so where nothing stands before the records, a line is told of each reading
pub tells_each : (teller : Teller) (d : TrainAndTrack) → head_text teller d ≡ [] → TellsEach teller
tells_each Rows d none = tt
tells_each Displays d none = tt
tells_each Causes d none = tt
tells_each (Certificates left) d none = absurd (map_some d none)

-- ---- lines that are written one after the other

-- a line more
pub text_more : (lines : List (List ℕ)) (i : ℕ) → i < length lines →
    text_of_lines (take (suc i) lines) ≡ text_of_lines (take i lines) ++ get_or lines i []
text_more [] i known = absurd (omega (arith, known))
text_more (line ∷ more) zero known = append-nil line
text_more (line ∷ more) (suc i) known =
    ap (λ rest. line ++ rest) (text_more more i (omega (arith, known)))
    ∙ sym (append_assoc line (text_of_lines (take i more)) (get_or more i []))

-- all lines are those before one, this one, and those past it
pub text_at : (lines : List (List ℕ)) (i : ℕ) → i < length lines →
    text_of_lines lines
    ≡ text_of_lines (take i lines) ++ (get_or lines i [] ++ text_of_lines (drop (suc i) lines))
text_at [] i known = absurd (omega (arith, known))
text_at (line ∷ more) zero known = refl
text_at (line ∷ more) (suc i) known =
    ap (λ rest. line ++ rest) (text_at more i (omega (arith, known)))
    ∙ sym (append_assoc line (text_of_lines (take i more)) (get_or more i [] ++ text_of_lines (drop (suc i) more)))

-- a part of a line, after what was taken before it, is a part of the whole
pub part_after : (old mid new : Option (List ℕ)) (whole done line rest : List ℕ) → whole ≡ done ++ (line ++ rest) →
    Appends old mid done → AppendsPart mid new line → AppendsPart old new whole
part_after old mid new whole done line rest is before part =
    let at = length done + part.0 in
    let texts : take at whole ≡ done ++ take part.0 line =
    ap (take at) is ∙ take-append-add done (line ++ rest) part.0
    ∙ ap (λ text. done ++ text) (take-append-le part.0 line rest part.1) in (
      at,
      rw (is, length-append, length-append) (omega (arith, part.1)),
      subst (Appends old new) (sym texts) (Appends-trans old mid new done (take part.0 line) before part.2),
    )

-- what holds holds of a failure
pub on_err : {A B : Type 0} (answer : Result A B) (P : Type 0) → P → OnErr answer P
on_err (Ok x) P h = tt
on_err (Err fault) P h = h
