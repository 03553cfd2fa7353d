-- The written map as the program holds it, and why it isn't read (own).
use Rattle.std.specs.Prelude.{◌≡◌, Err}
use Rattle.sdm_curve.specs.Maps.{MapData, map_data}
use Rattle.sdm_certify.specs.declared.answers.CheckFault.{CheckFault}
use Rattle.sdm_certify.specs.declared.answers.CheckFault.TheVariants.{Line, Memory}
use Rattle.sdm_certify.specs.declared.map_text.SegmentLines.{SegmentLines}
use Rattle.sdm_certify.specs.declared.map_text.WrittenMap.{WrittenMap}
use Rattle.sdm_certify.specs.Lines.{Read, Segments}

-- the segments of lines
abbrev pub segments_view : SegmentLines → Segments
segments_view read = record { starts = read.starts.items; slopes = read.slopes.items }

-- the map of lines
abbrev pub map_view : WrittenMap → MapData
map_view m = map_data m.q m.uppers.items m.starts.items m.slopes.items

-- a line isn't of the form due or is wanting, and is the first such; or memory was wanted
abbrev pub IsFaultOf : {A : Type 0} → Read A → CheckFault → Type 0
IsFaultOf read (Line bad) = read ≡ Err bad.number
IsFaultOf read Memory = Unit {0}
