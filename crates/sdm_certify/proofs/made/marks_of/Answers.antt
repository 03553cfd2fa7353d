-- The list that going back gives is turned round; its marks lie between the first and the stop.
use Rattle.std.proofs.Common.{◌≡◌, arith}
use Rattle.std.proofs.lemmas.Int.{ints}
use Rattle.sdm_rules.specs.Slopes.{meaning_of}
use Rattle.sdm_certify.specs.Made.{marks_of}
use Rattle.sdm_certify.proofs.MadeMarks.{made_hold, made_list, made_ranges, made_some}
use Rattle.sdm_certify.proofs.made.marks_of.Goals as goal

pub new-requires : goal.new-requires
new-requires c =
    let on = meaning_of c.args.map.now in
    let claim = c.args.claim.now in
    let usable = c.in_ok-marks.ensures.usable in
    let list : c.reverse.new.self.items ≡ marks_of on claim =
    made_list on claim _ _ _ c.reverse.ensures.items c.in_ok-marks.ensures.value c.v_bec.ensures in
    record {
      some = rw list (made_some on claim usable);
      few = omega (
        arith,
        c.reverse.ensures.len,
        c.in_ok-marks.ensures.few,
        c.in_ok-marks.ensures.bands,
        c.requires.segments,
      );
      each = rw list (made_ranges on claim usable (omega (arith, ints, c.requires.claim.on_track))
          (rw (← c.v_bec.ensures) c.in_ok-marks.ensures.first));
    }

pub returns-clause-hold : goal.returns-clause-hold
returns-clause-hold c = λ place.
    let on = meaning_of c.args.map.now in
    let claim = c.args.claim.now in
    let list : c.reverse.new.self.items ≡ marks_of on claim =
    made_list on claim _ _ _ c.reverse.ensures.items c.in_ok-marks.ensures.value c.v_bec.ensures in
    rw (c.new.ensures, list) (made_hold on claim c.in_ok-marks.ensures.usable place)
