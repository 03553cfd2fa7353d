-- The earlier of two places, each so many whole grains before a whole one, is found as for fractions.
use Rattle.std.proofs.Common.{◌≡◌, ℕ, ℤ, pos, neg_ℤ, ◌+ℤ◌, ◌∙◌, ap}
use Rattle.sdm_num.specs.Bounds.{Bound, earlier_of}
use Rattle.sdm_num.specs.Fractions.{less, lesser, whole}
use Rattle.sdm_limits.specs.Sides.{place_of}
use Rattle.sdm_limits.proofs.Places.{earlier_place, whole_less}

-- the earlier of two bounds, of which each lies so many grains before a whole place
pub earlier_of_two :
    (e d : Bound) (x y : ℤ) (j k : ℕ) →
    e.at ≡ x +ℤ neg_ℤ (pos j) →
    d.at ≡ y +ℤ neg_ℤ (pos k) →
    place_of (earlier_of e d) ≡ lesser (less (whole x) j) (less (whole y) k)
earlier_of_two e d x y j k e_is d_is =
    earlier_place e d ∙ ap (λ p. lesser p (whole d.at)) (whole_less e.at x j e_is)
    ∙ ap (λ p. lesser (less (whole x) j) p) (whole_less d.at y k d_is)
