-- The line of a claim and that of a mark are read as what was written.
use Rattle.std.proofs.Common.{◌≡◌, ℕ, ℤ, pos, negsuc, neg_ℤ, true, List, [], ◌∷◌, ◌^◌, ◌-◌, ◌<◌, ◌≤◌, ◌≤ℤ◌, Some, codes}
use Rattle.std.proofs.Common.{decimal, refl, arith}
use Rattle.std.proofs.lemmas.Int.{ints}
use Rattle.std.specs.Fmt.{signed_decimal}
use Rattle.std.specs.Io.BufRead.{strip_last}
use Rattle.std.specs.List.{list_all, join_with_byte}
use Rattle.sdm_rules.specs.declared.certificates.Claim.{Claim}
use Rattle.sdm_rules.specs.declared.certificates.Mark.{Mark}
use Rattle.sdm_rules.specs.Certificates.{IsClaimInRange, IsMarkInRange}
use Rattle.sdm_certify.specs.Lines.{claim_of, mark_of}
use Rattle.sdm_certify.specs.WrittenLines.{claim_text, mark_text}
use Rattle.sdm_certify.proofs.FieldsLeft.{none_left}
use Rattle.sdm_certify.proofs.ReadBack.{IsShort, fields_written, is_plain, number_first, plain_number, plain_wide}
use Rattle.sdm_certify.proofs.ReadBack.{wide_first, without_lf, word_first}

-- the fields of a mark
abbrev pub mark_fields : Mark → List (List ℕ)
mark_fields x = signed_decimal x.place ∷ decimal x.energy ∷ []

-- are read as that mark
pub mark_read : (x : Mark) → IsMarkInRange x → (list_all is_plain (codes "mark" ∷ mark_fields x) ≡ true)
    × (mark_of (join_with_byte 44 (codes "mark" ∷ mark_fields x)) ≡ Some x)
unfolding mark_of
mark_read x h =
    let place : IsShort (negsuc 999_999_999_999_999_998) (pos 999_999_999_999_999_999) x.place = record {
      low = omega (arith, ints, h.behind);
      high = omega (arith, ints, h.ahead);
      above = omega (arith, ints, h.behind);
      below = omega (arith, ints, h.ahead);
    } in
    let plain : list_all is_plain (codes "mark" ∷ signed_decimal x.place ∷ decimal x.energy ∷ []) ≡ true =
    rw (plain_number x.place place.low place.high, plain_wide x.energy (omega (arith, h.energy))) refl in (
      plain,
      rw (
        fields_written (codes "mark") (mark_fields x) plain,
        word_first (codes "mark") (mark_fields x) refl,
        number_first (negsuc 999_999_999_999_999_998) (pos 999_999_999_999_999_999) x.place (decimal x.energy ∷ [])
            place,
        wide_first (10 ^ 32) x.energy [] (omega arith) h.energy,
        none_left,
      ) refl,
    )

-- so is its line
pub mark_back : (x : Mark) → IsMarkInRange x → mark_of (strip_last 10 (mark_text x)) ≡ Some x
unfolding mark_text
mark_back x h = rw (without_lf (join_with_byte 44 (codes "mark" ∷ mark_fields x))) (mark_read x h).1

-- a number from `least` to `greatest`, both of at most 18 digits
pub short : (least greatest z : ℤ) → neg_ℤ (pos (10 ^ 18 - 1)) ≤ℤ least → greatest ≤ℤ pos (10 ^ 18 - 1) →
    least ≤ℤ z → z ≤ℤ greatest → IsShort least greatest z
short least greatest z low high above below = record {
  low = omega (arith, ints, low, above);
  high = omega (arith, ints, high, below);
  above = above;
  below = below;
}

-- the same of numbers that are not below 0
pub natural : (least greatest n : ℕ) → greatest < 10 ^ 18 → least ≤ n → n ≤ greatest →
    IsShort (pos least) (pos greatest) (pos n)
natural least greatest n most above below = short (pos least) (pos greatest) (pos n)
    (omega (arith, ints)) (omega (arith, ints, most)) (omega (arith, ints, above)) (omega (arith, ints, below))

-- the fields of a claim with so many marks
abbrev pub claim_fields : Claim → ℕ → List (List ℕ)
claim_fields c n =
    decimal c.time ∷ signed_decimal c.front ∷ decimal c.speed ∷ decimal c.accel1 ∷ decimal c.accel2
    ∷ decimal c.traction ∷ decimal c.berem ∷ signed_decimal c.svl ∷ decimal n ∷ []

-- are read as that claim
pub claim_read : (c : Claim) (n : ℕ) → IsClaimInRange c → 1 ≤ n → n ≤ 4_000 →
    (list_all is_plain (codes "claim" ∷ claim_fields c n) ≡ true)
    × (claim_of (join_with_byte 44 (codes "claim" ∷ claim_fields c n)) ≡ Some (record { claim = c; marks = n }))
unfolding claim_of
claim_read c n h some most =
    let time = natural 0 100_000_000 c.time (omega arith) (omega arith) h.time in
    let front = short (neg_ℤ (pos 60_000_000_000_000_000)) (pos 60_000_000_000_000_000) c.front
    (omega (arith, ints)) (omega (arith, ints)) h.behind h.ahead in
    let speed = natural 0 8_100_000 c.speed (omega arith) (omega arith) h.speed in
    let accel1 = natural 0 300 c.accel1 (omega arith) (omega arith) h.accel1 in
    let accel2 = natural 0 40 c.accel2 (omega arith) (omega arith) h.accel2 in
    let traction = natural 0 300 c.traction (omega arith) (omega arith) h.traction in
    let berem = natural 0 300 c.berem (omega arith) (omega arith) h.berem in
    let svl = short (pos 0) (pos 54_000_000_000_000_000) c.svl
    (omega (arith, ints)) (omega (arith, ints)) h.not_below_0 h.on_track in
    let marks = natural 1 4_000 n (omega arith) some most in
    let from_marks : List (List ℕ) = signed_decimal (pos n) ∷ [] in
    let from_svl : List (List ℕ) = signed_decimal c.svl ∷ from_marks in
    let from_berem : List (List ℕ) = signed_decimal (pos c.berem) ∷ from_svl in
    let from_traction : List (List ℕ) = signed_decimal (pos c.traction) ∷ from_berem in
    let from_accel2 : List (List ℕ) = signed_decimal (pos c.accel2) ∷ from_traction in
    let from_accel1 : List (List ℕ) = signed_decimal (pos c.accel1) ∷ from_accel2 in
    let from_speed : List (List ℕ) = signed_decimal (pos c.speed) ∷ from_accel1 in
    let from_front : List (List ℕ) = signed_decimal c.front ∷ from_speed in
    let from_time : List (List ℕ) = signed_decimal (pos c.time) ∷ from_front in
    let plain : list_all is_plain (codes "claim" ∷ from_time) ≡ true = rw (
      plain_number (pos c.time) time.low time.high,
      plain_number c.front front.low front.high,
      plain_number (pos c.speed) speed.low speed.high,
      plain_number (pos c.accel1) accel1.low accel1.high,
      plain_number (pos c.accel2) accel2.low accel2.high,
      plain_number (pos c.traction) traction.low traction.high,
      plain_number (pos c.berem) berem.low berem.high,
      plain_number c.svl svl.low svl.high,
      plain_number (pos n) marks.low marks.high,
    ) refl in (
      plain,
      rw (
        fields_written (codes "claim") from_time plain,
        word_first (codes "claim") from_time refl,
        number_first _ _ (pos c.time) from_front time,
        number_first _ _ c.front from_speed front,
        number_first _ _ (pos c.speed) from_accel1 speed,
        number_first _ _ (pos c.accel1) from_accel2 accel1,
        number_first _ _ (pos c.accel2) from_traction accel2,
        number_first _ _ (pos c.traction) from_berem traction,
        number_first _ _ (pos c.berem) from_svl berem,
        number_first _ _ c.svl from_marks svl,
        number_first _ _ (pos n) [] marks,
        none_left,
      ) refl,
    )

-- so is its line
pub claim_back : (c : Claim) (n : ℕ) → IsClaimInRange c → 1 ≤ n → n ≤ 4_000 →
    claim_of (strip_last 10 (claim_text c n)) ≡ Some (record { claim = c; marks = n })
unfolding claim_text
claim_back c n h some most =
    rw (without_lf (join_with_byte 44 (codes "claim" ∷ claim_fields c n))) (claim_read c n h some most).1
