use Rattle.std.proofs.Common.{◌∙◌, ◌+◌, ◌<◌, ap, length, subst, sym}
use Rattle.sector_disk.specs.Disk.{Image}
use Rattle.disk_tests.specs.Writes.{kept_held}
use Rattle.disk_tests.proofs.KnownFiles.{seen_kept, tried_more, begun_more}
use Rattle.disk_tests.proofs.tests.known_files.KnownFileDiskFile.write_run.Goals as goal

pub loop-i-preserved : goal.loop-i-preserved
loop-i-preserved c =
    let was = c.args.self.now.kept.now in
    let mid = c.loop-i.self.kept.now in
    let new = c.write.new.self in
    let first = c.args.first in
    let i = c.loop-i.i in
    let run = c.args.run.now in
    let ok = c.in_ok-write.ensures in
    let seen = ap (λ (s : Image). length s) (new.follows ∙ sym (seen_kept new.stable.items new.writes.items)) in
    record {
      tried = tried_more first i run (kept_held was.stable.items was.writes.items) (kept_held mid.stable.items mid.writes.items)
          (kept_held new.stable.items new.writes.items) c.loop-i-test.true ok.ok c.loop-i.invariant.tried;
      begun = begun_more first i run (kept_held mid.stable.items mid.writes.items) (kept_held new.stable.items new.writes.items)
          (subst (λ k. first + i < k) seen ok.below) ok.ok c.loop-i.invariant.begun;
    }
