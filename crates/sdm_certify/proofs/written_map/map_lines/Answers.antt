-- The lines are those of the map, which can be read back.
use Rattle.sdm_certify.proofs.WrittenMaps.{lines_back}
use Rattle.sdm_certify.proofs.written_map.map_lines.Goals as goal

pub returns-clause-read_back : goal.returns-clause-read_back
returns-clause-read_back c near =
    lines_back c.args.map.now c.written_count.ensures.kept c.requires.segments near
