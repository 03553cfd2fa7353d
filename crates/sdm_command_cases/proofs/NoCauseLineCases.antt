-- A record that is no reading has no line of causes.
use Rattle.std.proofs.Common.{◌≡◌, refl}
use Rattle.std.specs.Prelude.{[]}
use Rattle.sdm_rules.specs.declared.authorities.Authority.{Authority}
use Rattle.sdm_rules.specs.declared.records.Event.TheVariants as record_kinds
use Rattle.sdm_rules.specs.declared.restrictions.Restriction.{Restriction}
use Rattle.sdm_rules.specs.Supervision.{Supervision}
use Rattle.sdm_causes.specs.Text.{text_explained}

module _ (s : Supervision) where
  none_of_an_authority : (a : Authority) → text_explained s (record_kinds.Authority a) ≡ []
  none_of_an_authority a = refl

  -- a stop at 1000 m with the trip at 1001 m
  none_of_a_stop : text_explained s (record_kinds.Calculated 100_000 110_000 100_100) ≡ []
  none_of_a_stop = refl

  none_of_a_restriction : (r : Restriction) → text_explained s (record_kinds.Restrict r) ≡ []
  none_of_a_restriction r = refl

  none_of_a_revocation : text_explained s (record_kinds.Revoke 7) ≡ []
  none_of_a_revocation = refl
