-- Marks that hold, by what the code tests, and what the law makes of them.
use Rattle.std.proofs.Common.{◌≡◌, List, [], ◌∷◌, Some, slice_get, refl}
use Rattle.sdm_rules.specs.declared.certificates.Claim.{Claim}
use Rattle.sdm_rules.specs.declared.certificates.Mark.{Mark}
use Rattle.sdm_rules.specs.Certificates.{start_of, Hold, IsBeginning}
use Rattle.sdm_rules.specs.Slopes.{Slopes, IsUsable}
use Rattle.sdm_rules.specs.Stop.{StopsBy}
use Rattle.sdm_laws.proofs.Marks.Stopping.{marks_stop}
use Rattle.sdm_certify.specs.Steps.{AreLeading}

-- marks that begin and lead hold
pub hold_of : (on : Slopes) (c : Claim) (marks : List Mark) (x : Mark) → slice_get marks 0 ≡ Some x →
    IsBeginning on c x → AreLeading on c.svl marks → Hold on c marks
hold_of on c [] x at begins leading = absurd leading
hold_of on c (y ∷ ys) x at begins leading =
    let e : y ≡ x = cc in record { first = y; more = ys; split = refl; begins = rw e begins; lead = leading }

-- so every motion from the claim stops
pub stop_of : (on : Slopes) (c : Claim) (marks : List Mark) (x : Mark) → IsUsable on → slice_get marks 0 ≡ Some x →
    IsBeginning on c x → AreLeading on c.svl marks → StopsBy on (start_of c) c.svl
stop_of on c marks x usable at begins leading = marks_stop on c marks usable (hold_of on c marks x at begins leading)
