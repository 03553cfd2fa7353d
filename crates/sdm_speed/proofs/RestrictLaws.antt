-- When a restriction is refused: each cause by what is held, and what holds where there is none.
use Rattle.std.proofs.Common.{◌≡◌, ℕ, ℤ, pos, Some, None, Bool, true, false, ◌||◌, nat_le, int_lt, if◌then◌else◌, ◌<◌}
use Rattle.std.proofs.Common.{◌≤◌, ◌≤ℤ◌, ◌<ℤ◌, refl}
use Rattle.std.specs.Ordering.{nat_cmp}
use Rattle.std.specs.FinMap as finite
use Rattle.std.proofs.lemmas.Bool.{le-leb, lt-leb, leb-false}
use Rattle.sdm_num.proofs.Comparisons.{lt_is, not_lt_is, not_lt_of}
use Rattle.sdm_rules.specs.declared.restrictions.Restriction.{Restriction}
use Rattle.sdm_rules.specs.declared.faults.RestrictFault.TheVariants.{Full, IdInUse, Value}
use Rattle.sdm_rules.specs.Records.{restrict_fault, most_restrictions}

module _ (track_cm : ℤ) (held : finite.FinMap nat_cmp Restriction) (r : Restriction) where
  pub refused_as_full : most_restrictions ≤ finite.len held → restrict_fault track_cm held r ≡ Some Full
  refused_as_full full = rw (le-leb most_restrictions (finite.len held) full) refl

  module _ (room : finite.len held < most_restrictions) where
    pub refused_as_in_use : finite.contains_key held r.id ≡ true → restrict_fault track_cm held r ≡ Some (IdInUse r.id)
    refused_as_in_use in_use = rw (lt-leb most_restrictions (finite.len held) room, in_use) refl

    pub refused_as_empty : finite.contains_key held r.id ≡ false → r.end ≤ r.start →
        restrict_fault track_cm held r ≡ Some Value
    refused_as_empty new empty =
        rw (lt-leb most_restrictions (finite.len held) room, new, le-leb r.end r.start empty) refl

    pub refused_past_end : finite.contains_key held r.id ≡ false → r.start < r.end → track_cm <ℤ pos r.end →
        restrict_fault track_cm held r ≡ Some Value
    refused_past_end new some past = rw (
      lt-leb most_restrictions (finite.len held) room,
      new,
      lt-leb r.end r.start some,
      lt_is track_cm (pos r.end) past,
    ) refl

    pub not_refused : finite.contains_key held r.id ≡ false → r.start < r.end → pos r.end ≤ℤ track_cm →
        restrict_fault track_cm held r ≡ None
    not_refused new some on = rw (
      lt-leb most_restrictions (finite.len held) room,
      new,
      lt-leb r.end r.start some,
      not_lt_is track_cm (pos r.end) on,
    ) refl

-- what holds of a restriction that is not refused
pub record IsAcceptedRestriction (track_cm : ℤ) (held : finite.FinMap nat_cmp Restriction)
    (r : Restriction) : Type 0 where
  pub room : finite.len held < most_restrictions
  pub new : finite.contains_key held r.id ≡ false
  pub some : r.start < r.end
  pub on_track : pos r.end ≤ℤ track_cm

-- no fault: each of the four tests fails
by_tests : (a b c d : Bool) (id : ℕ) → (if a then Some Full else if b then Some (IdInUse id) else if c || d
    then Some Value else None) ≡ None → (a ≡ false) × (b ≡ false) × (c ≡ false) × (d ≡ false)
by_tests true b c d id e = absurd cc
by_tests false true c d id e = absurd cc
by_tests false false true d id e = absurd cc
by_tests false false false true id e = absurd cc
by_tests false false false false id e = (refl, refl, refl, refl)

-- a restriction that isn't refused has room, a new identity, and cells on the track
pub accepted : (track_cm : ℤ) (held : finite.FinMap nat_cmp Restriction) (r : Restriction) →
    restrict_fault track_cm held r ≡ None → IsAcceptedRestriction track_cm held r
accepted track_cm held r none =
    let tests = by_tests (nat_le most_restrictions (finite.len held)) (finite.contains_key held r.id)
    (nat_le r.end r.start) (int_lt track_cm (pos r.end)) r.id none in
    record {
      room = leb-false _ _ tests.0;
      new = tests.1;
      some = leb-false _ _ tests.2;
      on_track = not_lt_of _ _ tests.3;
    }
