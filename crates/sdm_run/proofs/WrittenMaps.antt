-- The written map of the slopes of A_safe is that of the map that is kept, and is read back with it.
use Rattle.std.proofs.Common.{◌≡◌, ℤ, pos, ◌≤ℤ◌, ap, subst, ◌∙◌, arith}
use Rattle.std.specs.Prelude.{All}
use Rattle.std.proofs.lemmas.Int.{ints}
use Rattle.sdm_rules.specs.declared.data.SlopeKind.TheVariants.{Safe}
use Rattle.sdm_rules.specs.Data.{TrainAndTrack}
use Rattle.sdm_rules.specs.Decelerations.{slopes_of}
use Rattle.sdm_rules.specs.Slopes.{Slopes, SlopeMap, meaning_of}
use Rattle.sdm_decel.specs.StretchCells.{AreStretches}
use Rattle.sdm_certify.specs.ReadBack.{IsReadBack}
use Rattle.sdm_certify.specs.WrittenLines.{last_start, map_text, text_of_lines, written_lines}
use Rattle.sdm_certify.proofs.WrittenMaps.{lines_are}
use Rattle.sdm_run.specs.Certifying.{safe_map_text}

module _ (m : SlopeMap) (d : TrainAndTrack) (slopes : meaning_of m ≡ slopes_of Safe d)
    (on : AreStretches d.track d.train.length_cm m.starts) where
  -- no stretch begins past the last cell with which a segment may
  pub near : All (λ s. s ≤ℤ pos last_start) m.starts
  near k d lt = let at = on.near k d lt in omega (arith, ints, at)

  -- the written map, from stretches of the track
  pub safe_is : text_of_lines (written_lines m) ≡ safe_map_text d
  unfolding safe_map_text
  safe_is = ap text_of_lines (lines_are m on.starts near) ∙ ap map_text slopes

  -- is read back as the slopes of A_safe
  pub safe_back : (All (λ s. s ≤ℤ pos last_start) m.starts →
      IsReadBack (meaning_of m) (text_of_lines (written_lines m))) → IsReadBack (slopes_of Safe d) (safe_map_text d)
  safe_back back = subst (IsReadBack (slopes_of Safe d)) safe_is
      (subst (λ (s : Slopes). IsReadBack s (text_of_lines (written_lines m))) slopes (back near))
