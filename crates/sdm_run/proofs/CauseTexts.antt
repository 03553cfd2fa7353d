-- A text in three parts that are written one after the other: all of it, or a part of it.
use Rattle.std.proofs.Common.{◌≡◌, ℕ, List, [], ◌++◌, Option, ap, sym, ◌∙◌, subst, append_assoc}
use Rattle.std.specs.Prelude.{Result, Ok, Err, OnOk, OnErr}
use Rattle.std.proofs.lemmas.List.{append-nil}
use Rattle.std.proofs.KnownBytes.{Appends-nil, Appends-trans}
use Rattle.std.specs.Io.KnownBytes.{Appends}
use Rattle.sdm_io.specs.Told.{AppendsPart}
use Rattle.sdm_run.proofs.CertifyLines.{part_after}

module _ (a b c whole : List ℕ) (is : (a ++ b) ++ c ≡ whole) where
  pub of_first : (old new : Option (List ℕ)) → AppendsPart old new a → AppendsPart old new whole
  of_first old new part =
      part_after old old new whole [] a (b ++ c) (sym is ∙ append_assoc a b c) (Appends-nil old) part

  pub of_second : (old one new : Option (List ℕ)) → Appends old one a → AppendsPart one new b →
      AppendsPart old new whole
  of_second old one new first part = part_after old one new whole a b c (sym is ∙ append_assoc a b c) first part

  module _ (old one two new : Option (List ℕ)) (first : Appends old one a) (second : Appends one two b) where
    pub of_third : AppendsPart two new c → AppendsPart old new whole
    of_third part =
        part_after old two new whole (a ++ b) c [] (sym is ∙ ap (λ (t : List ℕ). (a ++ b) ++ t) (sym (append-nil c)))
        (Appends-trans old one two a b first second) part

    pub of_all : Appends two new c → Appends old new whole
    of_all third = subst (Appends old new) is
        (Appends-trans old two new (a ++ b) c (Appends-trans old one two a b first second) third)

-- what an answer says on Ok, or on Err, says what follows from it
pub ok_to : {A B : Type 0} (answer : Result A B) (P Q : Type 0) → (P → Q) → OnOk answer P → OnOk answer Q
ok_to (Ok x) P Q f h = f h
ok_to (Err fault) P Q f h = tt

pub err_to : {A B : Type 0} (answer : Result A B) (P Q : Type 0) → (P → Q) → OnErr answer P → OnErr answer Q
err_to (Ok x) P Q f h = tt
err_to (Err fault) P Q f h = f h
