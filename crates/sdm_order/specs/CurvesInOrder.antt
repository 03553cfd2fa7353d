-- The order of stepped curves over one slope map: of any two or three, with feet `f`, `g`, `h` in grains and foot
-- speeds `w`, `x`, `y` in notches (own).
use Rattle.std.specs.Prelude.{ℕ, ℤ, ◌≤◌, ◌≤ℤ◌, ◌<ℤ◌}
use Rattle.sdm_rules.specs.Slopes.{Slopes, IsUsable}
use Rattle.sdm_rules.specs.Curves.{stepped}

-- Where a curve's foot is at or before another curve at its foot speed, the curve is at or before that one at every
-- speed.
abbrev pub LawOfLaterCurves : Type 0
LawOfLaterCurves =
    (on : Slopes) (f g : ℤ) (w x v : ℕ) → IsUsable on → f ≤ℤ stepped on g x w →
    stepped on f w v ≤ℤ stepped on g x v

-- Where a slower curve is before the foot of a faster one at its foot speed, it is at or before that one at every
-- greater speed. Below that speed rounding may turn them.
abbrev pub LawOfEarlierCurves : Type 0
LawOfEarlierCurves =
    (on : Slopes) (f g : ℤ) (w x v : ℕ) → IsUsable on → x ≤ w → w ≤ v → stepped on g x w <ℤ f →
    stepped on g x v ≤ℤ stepped on f w v

-- A curve whose foot is no later, and no faster, is no later at any speed.
abbrev pub LawOfFeet : Type 0
LawOfFeet =
    (on : Slopes) (f g : ℤ) (w x v : ℕ) → IsUsable on → f ≤ℤ g → w ≤ x → stepped on f w v ≤ℤ stepped on g x v

-- ---- curves whose feet lie further on

-- a curve with the foot `g` and foot speed `x`, if it is no faster, is at or past the foot `f` at the foot speed `w`;
-- so it is asked once, at the higher of the two foot speeds
abbrev pub IsAtOrPast : Slopes → ℤ → ℕ → ℤ → ℕ → Type 0
IsAtOrPast on f w g x = x ≤ w → f ≤ℤ stepped on g x w

-- A curve that begins further on, and is at or past another one's foot at its foot speed, is at or past that curve at
-- every speed.
abbrev pub LawOfPassedCurves : Type 0
LawOfPassedCurves =
    (on : Slopes) (f g : ℤ) (w x v : ℕ) → IsUsable on → f ≤ℤ g → IsAtOrPast on f w g x →
    stepped on f w v ≤ℤ stepped on g x v

-- Of curves that begin further and further on, where none is before the foot of the one before it, none is before that
-- of the first: so a search for the first curve that hides one may go from hidden curve to what hides it.
abbrev pub LawOfSteps : Type 0
LawOfSteps =
    (on : Slopes) (f g h : ℤ) (w x y : ℕ) → IsUsable on → f ≤ℤ g → g ≤ℤ h → IsAtOrPast on f w g x →
    IsAtOrPast on g x h y → IsAtOrPast on f w h y
