-- A slope is what the brakes give, scaled by q, and A_gradient.
use Rattle.std.proofs.Common.{◌≡◌, ℕ, ℤ, pos, ◌+ℤ◌, ◌*ℤ◌, refl}
use Rattle.sdm_rules.specs.declared.data.Band.{Band}
use Rattle.sdm_rules.specs.declared.data.NationalFields.{NationalFields}
use Rattle.sdm_rules.specs.declared.data.SlopeKind.{SlopeKind}
use Rattle.sdm_rules.specs.declared.data.SlopeKind.TheVariants.{Safe, Expected, Normal}
use Rattle.sdm_rules.specs.Data.{TrainData}
use Rattle.sdm_rules.specs.Decelerations.{UnderTrain, q_of, a_gradient, slope_under}
use Rattle.sdm_decel.specs.Slopes.{brake_of}

-- each kind is the brakes' part, scaled by q, and A_gradient
slope_of_brake : (kind : SlopeKind) (t : TrainData) (n : NationalFields) (u : UnderTrain) (b : Band) →
    pos (q_of t.rotating_mass) *ℤ brake_of kind n u b +ℤ a_gradient t.rotating_mass u.grad ≡ slope_under kind t n u b
slope_of_brake Safe t n u b = refl
slope_of_brake Expected t n u b = refl
slope_of_brake Normal t n u b = refl

-- so the sum of both is the slope
pub slope_is : (kind : SlopeKind) (t : TrainData) (n : NationalFields) (u : UnderTrain) (b : Band) (q : ℕ)
    (brake scaled grad : ℤ) →
    q ≡ q_of t.rotating_mass → brake ≡ brake_of kind n u b → scaled ≡ pos q *ℤ brake →
    grad ≡ a_gradient t.rotating_mass u.grad →
    scaled +ℤ grad ≡ slope_under kind t n u b
slope_is kind t n u b q brake scaled grad q_is brake_is scaled_is grad_is =
    rw (scaled_is, q_is, brake_is, grad_is) (slope_of_brake kind t n u b)
