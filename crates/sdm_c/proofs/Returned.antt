-- A handle whose supervisor comes back as it was lent is as it was.
use Rattle.std.proofs.Common.{◌≡◌, refl}
use Rattle.sdm_rules.specs.Supervision.{Supervision}
use Rattle.sdm_c.specs.declared.handle.Handle.{Handle}
use Rattle.sdm_c.specs.Lending.{with_state}

pub as_it_was : (h asked : Handle) (lent back : Supervision) → asked ≡ h → lent ≡ asked.state → back ≡ lent →
    with_state asked back ≡ h
as_it_was h asked lent back same was same_back = rw (same_back, was, same) refl
