-- What a look-up gives at an index of the names is the name of the key whose number is one higher.
use Rattle.std.proofs.Common.{◌≡◌, ℕ, suc, ◌-◌, ◌<◌, ◌≤◌, List, map, Option, Some, None, option_map, is_some, length}
use Rattle.std.proofs.Common.{get_or, nat_lt, Bor, refl, sym, ap, ◌∙◌, arith}
use Rattle.std.proofs.lemmas.Bool.Decides.{nat_tests}
use Rattle.std.specs.Option.{option_copied, IfSome}
use Rattle.std.specs.List.{slice_get}
use Rattle.std.proofs.lemmas.Option.{slice_get-map, slice_get_past, slice_get_read}
use Rattle.sdm_rules.specs.declared.faults.Section.{Section}
use Rattle.sdm_formats.specs.FaultLines.{key_name, key_names}
use Rattle.sdm_text.proofs.keys.key_name.Goals as goal

-- a look-up gives what stands at the index of the names, where something does
looked_up : (names : List (Bor (List ℕ))) (i : ℕ) (o : Option (Bor (Bor (List ℕ)))) → is_some o
    ≡ nat_lt i (length names) → IfSome o (λ x. x.now ≡ get_or names i x.now) → option_copied o ≡ slice_get names i
looked_up names i None test is =
    let past : length names ≤ i = grind (arith, nat_tests) in sym (slice_get_past names i past)
looked_up names i (Some x) test is =
    let within : i < length names = grind (arith, nat_tests)
    in sym (slice_get_read names (length names) i x.now refl within is)

-- and that is the name of the key
named : (names : List (Bor (List ℕ))) (section : Section) (key i : ℕ) → key ≡ suc i → map (λ name. name.now) names
    ≡ key_names section → option_map (λ name. name.now) (slice_get names i) ≡ key_name section key
named names section key i at is = rw at (sym (slice_get-map (λ (name : Bor (List ℕ)). name.now) names i)
    ∙ ap (λ (all : List (List ℕ)). slice_get all i) is)

pub returns : goal.returns
returns c =
    let found = looked_up c.key_names.result.now
    (c.from.result - 1) c.get.result c.get.ensures.lookup.0 c.get.ensures.lookup.1 in
    rw (c.copied.ensures, found)
    (named c.key_names.result.now c.args.section c.args.key (c.from.result - 1) (omega arith) c.key_names.ensures)
