-- A text that is written in one piece: the whole of it before Done, a part of it before a write fault.
use Rattle.std.proofs.Common.{◌≡◌, ℕ, List, Option, Some, inl, inr, refl, sym, subst, ap}
use Rattle.std.specs.Io.KnownBytes.{Appends}
use Rattle.sdm_formats.specs.Flat.{Output}
use Rattle.sdm_formats.specs.Input as ends
use Rattle.sdm_io.specs.Told.{AppendsPart}
use Rattle.sdm_report.specs.declared.outcome.Outcome.TheVariants.{Done, WriteFault}
use Rattle.sdm_run.specs.Answers.{IsAnswer}

-- the whole text answers an output that ends with it
pub written_whole : (text : List ℕ) (old new : Option (List ℕ)) → Appends old new text →
    (output : Output) → output.text ≡ text → output.end ≡ ends.Done → IsAnswer output old new Done
written_whole text old new h output text_is end_is = record {
  ended = inl (ap Some (sym end_is));
  taken = subst (Appends old new) (sym text_is) h;
}

-- a part of it answers as a write fault
pub written_in_part : (text : List ℕ) (old new : Option (List ℕ)) → AppendsPart old new text →
    (output : Output) → output.text ≡ text → output.end ≡ ends.Done → IsAnswer output old new WriteFault
written_in_part text old new h output text_is end_is = record {
  ended = inr (inr (inl refl));
  taken = subst (AppendsPart old new) (sym text_is) h;
}
