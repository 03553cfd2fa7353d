-- The pieces that a line of causes is put together of.
use Rattle.std.proofs.Common.{◌≡◌, ℕ, List, [], ◌∷◌, ◌++◌, ap, append_assoc}
use Rattle.std.specs.List.{join_with_byte}
use Rattle.sdm_formats.specs.Text.{text_line}

-- a word and four fields with spaces between them
pub spaced : (old a b c d e f g new w k p s l : List ℕ) →
    a ≡ old ++ w → b ≡ a ++ k → c ≡ b ++ 32 ∷ [] → d ≡ c ++ p → e ≡ d ++ 32 ∷ [] → f ≡ e ++ s → g ≡ f ++ 32 ∷ [] →
    new ≡ g ++ l → new ≡ old ++ (w ++ join_with_byte 32 (k ∷ p ∷ s ∷ l ∷ []))
spaced old a b c d e f g new w k p s l a_is b_is c_is d_is e_is f_is g_is new_is =
    rw (new_is, g_is, f_is, e_is, d_is, c_is, b_is, a_is) (simp append_assoc)

-- two fields behind a comma
pub two_behind : (old a b c new x y : List ℕ) → old ≡ [] → a ≡ old ++ 44 ∷ [] → b ≡ a ++ x → c ≡ b ++ 44 ∷ [] →
    new ≡ c ++ y → new ≡ 44 ∷ join_with_byte 44 (x ∷ y ∷ [])
two_behind old a b c new x y old_is a_is b_is c_is new_is =
    rw (new_is, c_is, b_is, a_is, old_is) (ap (λ (t : List ℕ). 44 ∷ t) (append_assoc x (44 ∷ []) y))

-- three fields behind a comma, and a line feed
pub three_behind : (old a b c d e f new x y z : List ℕ) → old ≡ [] → a ≡ old ++ 44 ∷ [] → b ≡ a ++ x →
    c ≡ b ++ 44 ∷ [] → d ≡ c ++ y → e ≡ d ++ 44 ∷ [] → f ≡ e ++ z → new ≡ f ++ 10 ∷ [] →
    new ≡ 44 ∷ text_line (x ∷ y ∷ z ∷ [])
three_behind old a b c d e f new x y z old_is a_is b_is c_is d_is e_is f_is new_is =
    rw (new_is, f_is, e_is, d_is, c_is, b_is, a_is, old_is) (simp append_assoc)
