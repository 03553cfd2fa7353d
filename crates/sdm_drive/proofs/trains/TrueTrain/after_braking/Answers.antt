-- A train that stands stays.
use Rattle.std.proofs.Common.{ap, arith, sym, ◌∙◌}
use Rattle.sdm_rules.specs.Slopes.{meaning_of}
use Rattle.sdm_drive.specs.Drive.{TrueTrain}
use Rattle.sdm_drive.proofs.TrainLaws.{stays}
use Rattle.sdm_drive.proofs.trains.TrueTrain.after_braking.Goals as goal

pub returns-then-v-eq0 : goal.returns-then-v-eq0
returns-then-v-eq0 c =
    c.self.view_is ∙ stays (meaning_of c.args.map.now) c.args.self
    (sym (ap (λ (t : TrueTrain). t.speed) c.self.view_is) ∙ omega arith)
