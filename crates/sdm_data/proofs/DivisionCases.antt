-- Inputs with and without a dividing line.
use Rattle.std.proofs.Common.{◌≡◌, refl}
use Rattle.std.specs.Prelude.{[], ◌∷◌, Some, None, codes, map}
use Rattle.sdm_data.specs.Division.{divide}

-- the first line that is exactly `%%`, ended by LF, by CR and LF, or by the end of the input
divided : map divide (codes "a\n%%\nb\n%%\n" ∷ codes "a\r\n%%\r\nb" ∷ codes "a\n%%" ∷ codes "%%\n" ∷ codes "%%" ∷ [])
    ≡ Some (2, 5) ∷ Some (3, 7) ∷ Some (2, 4) ∷ Some (0, 3) ∷ Some (0, 2) ∷ []
unfolding divide
divided = refl

-- no input at all; a space, a letter or a third sign; CR at the end of the input; a byte order mark
not_divided : map divide ([] ∷ codes "%% \n" ∷ codes " %%\n" ∷ codes "a%%\n" ∷ codes "%%%\n" ∷ codes "%\n"
    ∷ codes "%%\r" ∷ (239 ∷ 187 ∷ 191 ∷ codes "%%\n") ∷ [])
    ≡ None ∷ None ∷ None ∷ None ∷ None ∷ None ∷ None ∷ None ∷ []
unfolding divide
not_divided = refl
