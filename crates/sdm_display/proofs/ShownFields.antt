-- The fields of the target that is shown are two, so they join the fields before them.
use Rattle.std.proofs.Common.{◌≡◌, ℕ, List, [], ◌∷◌, ◌++◌, Option, Some, None, codes}
use Rattle.std.specs.Fmt.{signed_decimal}
use Rattle.std.specs.List.{join_with_byte}
use Rattle.sdm_rules.specs.declared.display.Shown.{Shown}
use Rattle.sdm_formats.specs.Text.{kind_text, shown_fields}
use Rattle.sdm_report.proofs.Pieces.{IsJoined, more_fields}

pub with_shown : (old comma new x : List ℕ) (xs : List (List ℕ)) (shown : Option Shown) → IsJoined old (x ∷ xs) →
    comma ≡ old ++ 44 ∷ [] → new ≡ comma ++ join_with_byte 44 (shown_fields shown) →
    IsJoined new ((x ∷ xs) ++ shown_fields shown)
with_shown old comma new x xs None h comma_is new_is =
    more_fields old comma new x (codes "-") xs (codes "-" ∷ []) h comma_is new_is
with_shown old comma new x xs (Some s) h comma_is new_is =
    more_fields old comma new x (kind_text s.kind) xs (signed_decimal s.distance ∷ []) h comma_is new_is
