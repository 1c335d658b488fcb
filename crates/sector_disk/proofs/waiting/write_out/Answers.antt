use Rattle.sector_disk.specs.Record.{recorded_state}
use Rattle.sector_disk.proofs.Following.{before_none, before_lacks}
use Rattle.sector_disk.proofs.waiting.write_out.Goals as goal

pub write_all-requires-clause-follows : goal.write_all-requires-clause-follows
write_all-requires-clause-follows g c =
    let memory = c.args.memory.now in
    before_none (recorded_state memory.history memory.failures) c.args.waiting.now c.args.all_wait (g.F.DiskFile.held c.args.file.now) c.requires.follows

pub returns-then-all_wait-clause-follows : goal.returns-then-all_wait-clause-follows
returns-then-all_wait-clause-follows g c =
    let memory = c.args.memory.now in
    before_lacks (recorded_state memory.history memory.failures) c.args.waiting.now c.args.all_wait 0 (g.F.DiskFile.held c.write_all.new.file) c.if-all_wait.true c.write_all.ensures.follows
