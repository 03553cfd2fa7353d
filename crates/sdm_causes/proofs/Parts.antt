-- The three parts of a line are the line.
use Rattle.std.proofs.Common.{◌≡◌, ℕ, List, [], ◌∷◌, ◌++◌, refl, ap, sym, ◌∙◌, append_assoc, codes, decimal}
use Rattle.std.specs.List.{join_with_byte}
use Rattle.sdm_causes.specs.declared.causes.Causes.{Causes}
use Rattle.sdm_formats.specs.Text.{text_line}
use Rattle.sdm_causes.specs.Text.{brake_part, causes_text, command_part, driver_part, standing_text, trigger_text}

-- fields that are joined before a comma and further fields are all joined
joined : (xs : List (List ℕ)) (x y : List ℕ) (ys : List (List ℕ)) →
    join_with_byte 44 (x ∷ xs) ++ (44 ∷ join_with_byte 44 (y ∷ ys)) ≡ join_with_byte 44 ((x ∷ xs) ++ (y ∷ ys))
joined [] x y ys = refl
joined (z ∷ xs) x y ys =
    append_assoc x (44 ∷ join_with_byte 44 (z ∷ xs)) (44 ∷ join_with_byte 44 (y ∷ ys))
    ∙ ap (λ (rest : List ℕ). x ++ (44 ∷ rest)) (joined xs z y ys)

module _ (t o w s e x y z : List ℕ) where
  -- eight fields in three parts
  eight : (join_with_byte 44 (t ∷ o ∷ w ∷ []) ++ (44 ∷ join_with_byte 44 (s ∷ e ∷ [])))
      ++ (44 ∷ text_line (x ∷ y ∷ z ∷ []))
      ≡ text_line (t ∷ o ∷ w ∷ s ∷ e ∷ x ∷ y ∷ z ∷ [])
  eight =
      let commands = 44 ∷ join_with_byte 44 (x ∷ y ∷ z ∷ []) in
      ap (λ (text : List ℕ). text ++ (commands ++ codes "\n")) (joined (o ∷ w ∷ []) t s (e ∷ []))
      ∙ sym (append_assoc (join_with_byte 44 (t ∷ o ∷ w ∷ s ∷ e ∷ [])) commands (codes "\n"))
      ∙ ap (λ (text : List ℕ). text ++ codes "\n") (joined (o ∷ w ∷ s ∷ e ∷ []) t x (y ∷ z ∷ []))

pub line_in_parts : (c : Causes) → (driver_part c ++ brake_part c) ++ command_part c ≡ causes_text c
unfolding driver_part brake_part command_part causes_text
line_in_parts c =
    eight (decimal c.time) (trigger_text c.over) (trigger_text c.warn) (trigger_text c.serv) (trigger_text c.emer)
    (standing_text c.tco) (standing_text c.sb) (standing_text c.eb)
