use Rattle.std.proofs.Common.{◌<◌, length, rules}
use Rattle.disk_tests.proofs.KnownFiles.{stopped_more}
use Rattle.disk_tests.proofs.tests.known_files.Kept.after_stop.Goals.{then-i-left+then-left-i+then-n-len, else-i-left}
use Rattle.disk_tests.proofs.tests.known_files.Kept.after_stop.Goals as goal

pub loop-i-preserved : goal.loop-i-preserved
loop-i-preserved c =
    let stable = c.args.self.now.stable.items in
    let writes = c.args.self.now.writes.items in
    let below : c.loop-i.i < length writes = search rules in
    elim c.if-i-left.branch [
      | then-i-left+then-left-i+then-n-len w ↦
          rw w.sectors-is
          (stopped_more stable writes c.loop-i.i c.index.result.now _ c.loop-i.sectors.items below c.index.ensures c.loop-i.invariant)
      | else-i-left w ↦ rw w.sectors-is c.loop-i.invariant
    ]
