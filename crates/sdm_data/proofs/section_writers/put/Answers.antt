use Rattle.sdm_data.proofs.Puts.{put_is}
use Rattle.sdm_data.proofs.section_writers.put.Goals as goal

pub returns : goal.returns
returns c = put_is c.args.table.now.entries c.insert.new.self.entries c.in_ok-key.key c.args.value c.args.name.now
    c.in_ok-insert.ensures.entries c.in_ok-key.ensures.ok
