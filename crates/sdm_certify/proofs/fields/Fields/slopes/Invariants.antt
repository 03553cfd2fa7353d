-- So far the slopes of the fields before are read, and the rest of them is in the fields that are left.
use Rattle.std.proofs.Common.{◌≡◌, ◌-◌, [], length, All}
use Rattle.sdm_curve.specs.Maps.{IsSlopeBounded}
use Rattle.sdm_certify.specs.Fields.{slopes_after}
use Rattle.sdm_certify.proofs.fields.Fields.slopes.Given as goal

abbrev pub invariant-loop-i : goal.invariant-loop-i
invariant-loop-i l = record {
  left : slopes_after [] l.count l.fn.self ≡ slopes_after l.slopes.items (l.count - l.i) l.self;
  range : All IsSlopeBounded l.slopes.items;
  count : length l.slopes.items ≡ l.i;
}
