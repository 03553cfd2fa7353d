-- The table of data is plain: there are strings, numbers, flags and arrays of tables in it, a few levels deep. So
-- `toml` prints it as one text, which is read back.
use Rattle.std.proofs.Common.{◌≡◌, ℕ, ℤ, zero, suc, ◌≤◌, Bool, true, false, ◌&&◌, List, [], ◌∷◌, ◌++◌, map}
use Rattle.std.proofs.Common.{Option, Some, None, refl, ap, sym, ◌∙◌, inl, inr, arith}
use Rattle.std.proofs.lemmas.Bool.{cases_Bool, and_parts, false≢true}
use Rattle.std.proofs.lemmas.Bool.Decides.{nat_tests}
use Rattle.std.specs.Prelude.{codes, if◌then◌else◌}
use Rattle.toml_writer.specs.Text.{dotted_text}
use Rattle.toml.specs.Data.{Data, string, integer, float, boolean, datetime, array, table, Items, no_items, item}
use Rattle.toml.specs.Data.{Members, no_members, member, depth, items_depth, members_depth}
use Rattle.toml.specs.Tables.{Definition, key_value, std_table, array_table, Expression}
use Rattle.toml.specs.Text.{IsValueText, IsLineText, IsLinesText, IsDocumentText, expressions, is_section, are_tables}
use Rattle.toml.specs.Text.{needs_header, pairs, sections, section, elements}
use Rattle.toml.specs.View.{items_of}
use Rattle.sdm_rules.specs.declared.authorities.Authority.{Authority}
use Rattle.sdm_rules.specs.declared.authorities.Authority.TheVariants.{Stop, Limit}
use Rattle.sdm_rules.specs.declared.data.Band.{Band}
use Rattle.sdm_rules.specs.declared.data.NationalFields.{NationalFields}
use Rattle.sdm_rules.specs.declared.data.Gradient.{Gradient}
use Rattle.sdm_rules.specs.declared.data.SpeedStep.{SpeedStep}
use Rattle.sdm_rules.specs.declared.data.Area.{Area}
use Rattle.sdm_rules.specs.Data.{TrainData, TrackData, TrainAndTrack}
use Rattle.sdm_formats.specs.FaultLines.{key_names}
use Rattle.sdm_data.specs.Tables.{array_of, band_table, train_table, national_table, gradient_table, speed_table}
use Rattle.sdm_data.specs.Tables.{area_table, track_table, authority_table, table_of}
use Rattle.sdm_data.specs.Texts.{value_text, line_text, lines_text, document_text}

-- ---- plain data, with arrays and tables at most so deep

abbrev mutual
  plain : ℕ → Data → Bool
  plain n (string s) = true
  plain n (integer z) = true
  plain n (float x) = false
  plain n (boolean b) = true
  plain n (datetime t) = false
  plain zero (array ds) = false
  plain (suc n) (array ds) = are_tables ds && items_plain n ds
  plain zero (table ms) = false
  plain (suc n) (table ms) = members_plain n ms

  items_plain : ℕ → Items → Bool
  items_plain n no_items = true
  items_plain n (item d ds) = plain n d && items_plain n ds

  members_plain : ℕ → Members → Bool
  members_plain n no_members = true
  members_plain n (member k d ms) = plain n d && members_plain n ms

-- they are not deep
mutual
  shallow : (n : ℕ) (d : Data) → plain n d ≡ true → depth d ≤ n
  shallow n (string s) h = omega arith
  shallow n (integer z) h = omega arith
  shallow n (float x) h = cc
  shallow n (boolean b) h = omega arith
  shallow n (datetime t) h = cc
  shallow zero (array ds) h = cc
  shallow (suc n) (array ds) h =
      let below = items_shallow n ds (and_parts (are_tables ds) (items_plain n ds) h).1 in omega arith
  shallow zero (table ms) h = cc
  shallow (suc n) (table ms) h = let below = members_shallow n ms h in omega arith

  items_shallow : (n : ℕ) (ds : Items) → items_plain n ds ≡ true → items_depth ds ≤ n
  items_shallow n no_items h = omega arith
  items_shallow n (item d ds) h =
      let both = and_parts (plain n d) (items_plain n ds) h in
      let here = shallow n d both.0 in
      let more = items_shallow n ds both.1 in grind (arith, nat_tests)

  members_shallow : (n : ℕ) (ms : Members) → members_plain n ms ≡ true → members_depth ms ≤ n
  members_shallow n no_members h = omega arith
  members_shallow n (member k d ms) h =
      let both = and_parts (plain n d) (members_plain n ms) h in
      let here = shallow n d both.0 in
      let more = members_shallow n ms both.1 in grind (arith, nat_tests)

-- ---- their text

-- the value has one text
abbrev HasOneText : Data → Type 0
HasOneText d = (text : List ℕ) → IsValueText false d text → text ≡ value_text d

-- the value of a line has one text, where it has a value
abbrev IsOneLine : Definition → Type 0
IsOneLine (key_value d) = HasOneText d
IsOneLine std_table = Unit {0}
IsOneLine array_table = Unit {0}

-- each of the lines has one text
abbrev AreOneText : List Expression → Type 0
AreOneText [] = Unit {0}
AreOneText (line ∷ more) = IsOneLine line.1 × AreOneText more

-- lines behind lines
append_one : (lines more : List Expression) → AreOneText lines → AreOneText more → AreOneText (lines ++ more)
append_one [] more a b = b
append_one (line ∷ lines) more a b = (a.0, append_one lines more a.1 b)

-- a value that stands beside its key
value_one : (n : ℕ) (d : Data) → plain n d ≡ true → is_section d ≡ false → HasOneText d
value_one n (string s) h beside text is = is
value_one n (integer z) h beside text is = is.0
value_one n (float x) h beside text is = absurd cc
value_one n (boolean b) h beside text is = is
value_one n (datetime t) h beside text is = absurd cc
value_one n (array no_items) h beside text is =
    let (rest, whole, end) = is in whole ∙ ap (λ (end : List ℕ). codes "[" ++ end) end
value_one zero (array (item d ds)) h beside text is = absurd cc
value_one (suc n) (array (item d ds)) h beside text is =
    let tables = (and_parts (are_tables (item d ds)) (items_plain n (item d ds)) h).0 in
    absurd (false≢true (sym beside ∙ tables))
value_one n (table ms) h beside text is = absurd cc

-- the lines of the values that stand beside their keys
pairs_one : (n : ℕ) (ms : Members) → members_plain n ms ≡ true → AreOneText (pairs ms)
pairs_one n no_members h = tt
pairs_one n (member k d ms) h =
    let both = and_parts (plain n d) (members_plain n ms) h in
    elim (cases_Bool (is_section d)) [
      | inl below ↦ rw below (pairs_one n ms both.1)
      | inr beside ↦ rw beside (value_one n d both.0 beside, pairs_one n ms both.1)
    ]

-- a header before lines, or none
header_one : (b : Bool) (p : List (List ℕ)) (k : List ℕ) (more : List Expression) → AreOneText more →
    AreOneText ((if b then ((p, k), std_table) ∷ [] else []) ++ more)
header_one true p k more h = (tt, h)
header_one false p k more h = h

-- the lines of sections, and of one section
mutual
  sections_one : (n : ℕ) (ms : Members) (p : List (List ℕ)) → members_plain n ms ≡ true → AreOneText (sections p ms)
  sections_one n no_members p h = tt
  sections_one n (member k d ms) p h =
      let both = and_parts (plain n d) (members_plain n ms) h in
      append_one _ _ (section_one n d p k both.0) (sections_one n ms p both.1)

  section_one : (n : ℕ) (d : Data) (p : List (List ℕ)) (k : List ℕ) → plain n d ≡ true → AreOneText (section (p, k) d)
  section_one n (string s) p k h = tt
  section_one n (integer z) p k h = tt
  section_one n (float x) p k h = tt
  section_one n (boolean b) p k h = tt
  section_one n (datetime t) p k h = tt
  section_one zero (array ds) p k h = absurd cc
  section_one (suc n) (array ds) p k h =
      let both = and_parts (are_tables ds) (items_plain n ds) h in rw both.0 (elements_one n ds p k both.1)
  section_one zero (table ms) p k h = absurd cc
  section_one (suc n) (table ms) p k h = header_one (needs_header ms) p k _
      (append_one _ _ (pairs_one n ms h) (sections_one n ms (p ++ k ∷ []) h))

  elements_one : (n : ℕ) (ds : Items) (p : List (List ℕ)) (k : List ℕ) → items_plain n ds ≡ true →
      AreOneText (elements (p, k) ds)
  elements_one n no_items p k h = tt
  elements_one n (item (string s) ds) p k h = elements_one n ds p k (and_parts true (items_plain n ds) h).1
  elements_one n (item (integer z) ds) p k h = elements_one n ds p k (and_parts true (items_plain n ds) h).1
  elements_one n (item (float x) ds) p k h = absurd cc
  elements_one n (item (boolean b) ds) p k h = elements_one n ds p k (and_parts true (items_plain n ds) h).1
  elements_one n (item (datetime t) ds) p k h = absurd cc
  elements_one zero (item (array es) ds) p k h = absurd cc
  elements_one (suc n) (item (array es) ds) p k h =
      elements_one (suc n) ds p k (and_parts (plain (suc n) (array es)) (items_plain (suc n) ds) h).1
  elements_one zero (item (table ms) ds) p k h = absurd cc
  elements_one (suc n) (item (table ms) ds) p k h =
      let both = and_parts (members_plain n ms) (items_plain (suc n) ds) h in (
        tt,
        append_one _ _ (append_one _ _ (pairs_one n ms both.0) (sections_one n ms (p ++ k ∷ []) both.0))
            (elements_one (suc n) ds p k both.1),
      )

-- the text of a line is the one that is defined
line_is : (started : Bool) (key : List (List ℕ) × List ℕ) (line : Definition) (text : List ℕ) → IsOneLine line →
    IsLineText false started key line text → text ≡ line_text started key line
line_is started key (key_value d) text one is =
    let (this, whole, value) = is in
    whole ∙ ap (λ t. dotted_text key ++ (codes " = " ++ (t ++ codes "\n"))) (one this value)
line_is started key std_table text one is = is
line_is started key array_table text one is = is

-- so is the text of lines
lines_are : (started : Bool) (lines : List Expression) (text : List ℕ) → AreOneText lines →
    IsLinesText false started lines text → text ≡ lines_text started lines
lines_are started [] text one is = is
lines_are started (line ∷ more) text one is =
    let (this, rest, whole, first, others) = is in
    whole ∙ ap (λ t. t ++ rest) (line_is started line.0 line.1 this one.0 first)
    ∙ ap (λ t. line_text started line.0 line.1 ++ t) (lines_are true more rest one.1 others)

-- and that of a document
document_is : (n : ℕ) (ms : Members) (text : List ℕ) → members_plain n ms ≡ true → IsDocumentText false ms text →
    text ≡ document_text ms
unfolding document_text
document_is n ms text h is = lines_are false (expressions ms) text
    (append_one _ _ (pairs_one n ms h) (sections_one n ms [] h)) is

-- ---- lists

both_true : (a b : Bool) → a ≡ true → b ≡ true → (a && b) ≡ true
both_true a b is also = rw (is, also) refl

module _ {A : Type 0} (n : ℕ) (write : A → Members) (each : (x : A) → members_plain n (write x) ≡ true) where
  -- an array of tables holds tables alone
  are_all_tables : (xs : List A) → are_tables (items_of (map table (map write xs))) ≡ true
  are_all_tables [] = refl
  are_all_tables (x ∷ xs) = are_all_tables xs

  -- they are plain where each entry's table is
  all_plain : (xs : List A) → items_plain (suc n) (items_of (map table (map write xs))) ≡ true
  all_plain [] = refl
  all_plain (x ∷ xs) = both_true (members_plain n (write x)) _ (each x) (all_plain xs)

  -- so the array is plain
  array_plain : (xs : List A) → plain (suc (suc n)) (array_of (map write xs)) ≡ true
  array_plain xs = both_true _ _ (are_all_tables xs) (all_plain xs)

-- ---- the sections

-- with or without an upper speed and a reduced deceleration
band_by : (b : Band) (upper reduced : Option ℤ) →
    members_plain 0 (band_table (record b { upper = upper; emergency_reduced = reduced })) ≡ true
unfolding band_table key_names
band_by b None None = refl
band_by b None (Some reduced) = refl
band_by b (Some upper) None = refl
band_by b (Some upper) (Some reduced) = refl

band_plain : (b : Band) → members_plain 0 (band_table b) ≡ true
band_plain b = band_by b b.upper b.emergency_reduced

-- with or without a rotating mass
train_by : (t : TrainData) (mass : Option ℤ) → members_plain 2 (train_table (record t { rotating_mass = mass })) ≡ true
unfolding train_table key_names
train_by t None = rw (array_plain 0 band_table band_plain t.bands) refl
train_by t (Some percent) = rw (array_plain 0 band_table band_plain t.bands) refl

train_plain : (t : TrainData) → members_plain 2 (train_table t) ≡ true
train_plain t = train_by t t.rotating_mass

national_plain : (n : NationalFields) → members_plain 2 (national_table n) ≡ true
unfolding national_table key_names
national_plain n = refl

gradient_plain : (g : Gradient) → members_plain 0 (gradient_table g) ≡ true
unfolding gradient_table key_names
gradient_plain g = refl

speed_plain : (s : SpeedStep) → members_plain 0 (speed_table s) ≡ true
unfolding speed_table key_names
speed_plain s = refl

area_plain : (a : Area) → members_plain 0 (area_table a) ≡ true
unfolding area_table key_names
area_plain a = refl

gradients_plain : (gradients : List Gradient) → plain 2 (array_of (map gradient_table gradients)) ≡ true
gradients_plain = array_plain 0 gradient_table gradient_plain

areas_plain : (areas : List Area) → plain 2 (array_of (map area_table areas)) ≡ true
areas_plain = array_plain 0 area_table area_plain

speeds_plain : (speeds : List SpeedStep) → plain 2 (array_of (map speed_table speeds)) ≡ true
speeds_plain = array_plain 0 speed_table speed_plain

-- with or without each of the lists that may be absent
track_by : (t : TrackData) (gradients : List Gradient) (areas no_special : List Area) → members_plain 2
    (track_table (record t { gradients = gradients; areas = areas; no_special = no_special })) ≡ true
unfolding track_table key_names
track_by t [] [] [] = rw (speeds_plain t.speeds) refl
track_by t [] [] (n ∷ ns) = rw (speeds_plain t.speeds, areas_plain (n ∷ ns)) refl
track_by t [] (a ∷ more) [] = rw (speeds_plain t.speeds, areas_plain (a ∷ more)) refl
track_by t [] (a ∷ more) (n ∷ ns) = rw (speeds_plain t.speeds, areas_plain (a ∷ more), areas_plain (n ∷ ns)) refl
track_by t (g ∷ gs) [] [] = rw (speeds_plain t.speeds, gradients_plain (g ∷ gs)) refl
track_by t (g ∷ gs) [] (n ∷ ns) = rw (speeds_plain t.speeds, gradients_plain (g ∷ gs), areas_plain (n ∷ ns)) refl
track_by t (g ∷ gs) (a ∷ more) [] = rw (speeds_plain t.speeds, gradients_plain (g ∷ gs), areas_plain (a ∷ more)) refl
track_by t (g ∷ gs) (a ∷ more) (n ∷ ns) =
    rw (speeds_plain t.speeds, gradients_plain (g ∷ gs), areas_plain (a ∷ more), areas_plain (n ∷ ns)) refl

track_plain : (t : TrackData) → members_plain 2 (track_table t) ≡ true
track_plain t = track_by t t.gradients t.areas t.no_special

authority_plain : (a : Authority) → members_plain 2 (authority_table a) ≡ true
unfolding authority_table key_names
authority_plain (Stop eoa svl release) = refl
authority_plain (Limit loa speed) = refl

-- ---- the whole

table_plain : (d : TrainAndTrack) (a : Authority) → members_plain 3 (table_of d a) ≡ true
unfolding table_of key_names
table_plain d a = rw (train_plain d.train, national_plain d.national, track_plain d.track, authority_plain a) refl

-- the table is not too deep to be read
pub not_deep : (d : TrainAndTrack) (a : Authority) → members_depth (table_of d a) ≤ 80
not_deep d a = let at_most = members_shallow 3 (table_of d a) (table_plain d a) in omega arith

-- and its text is the one that is defined
pub text_is : (d : TrainAndTrack) (a : Authority) (text : List ℕ) → IsDocumentText false (table_of d a) text →
    text ≡ document_text (table_of d a)
text_is d a text is = document_is 3 (table_of d a) text (table_plain d a) is
