-- Each number that is handed on is the number itself, since it fits its width.
use Rattle.std.proofs.Common.{w64, rules, refl}
use Rattle.std.proofs.lemmas.Int.{to_z-of_z}
use Rattle.sdm_train.proofs.bands.band_refused.Goals as goal

pub returns : goal.returns
returns c =
    let b = c.args.band.now in
    rw (
      c.first_refused.ensures,
      c.outside_if_any.ensures,
      c.outside.ensures,
      c.outside-2.ensures,
      c.outside-3.ensures,
      c.outside-4.ensures,
      c.outside-5.ensures,
      c.outside-6.ensures,
      c.outside-7.ensures,
      c.outside_if_any-2.ensures,
      to_z-of_z w64 c.from.result (search rules),
      c.from.ensures,
      to_z-of_z w64 b.emergency (search rules),
      to_z-of_z w64 b.service (search rules),
      to_z-of_z w64 b.normal (search rules),
      to_z-of_z w64 b.kdry (search rules),
      to_z-of_z w64 b.kwet (search rules),
      to_z-of_z w64 b.kn_up (search rules),
      to_z-of_z w64 b.kn_down (search rules),
    ) refl
