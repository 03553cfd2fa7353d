-- Each call begins with what the one before it left, so what holds of one call holds along the list.
use Rattle.std.proofs.Common.{◌∙◌, ap, refl, List, [], ◌∷◌}
use Rattle.std.specs.Prelude.{map}
use Rattle.sdm_c.specs.CallLists.{Answer, LawOfCalls, Made, answer_in, answers_of}

-- EVERY LIST OF CALLS
pub folds : LawOfCalls
folds h w [] made = refl
folds h w (m ∷ more) made =
    ap (λ (later : List Answer). answer_in m ∷ later) (folds m.handle m.written more made.1)
    ∙ ap (λ (first : Answer). first ∷ answers_of first.supervisor first.written (map (λ (n : Made). n.asked) more))
    made.0.answer
