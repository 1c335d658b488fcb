use Rattle.std.proofs.Common.{◌≡◌, ◌≤◌, take}
use Rattle.sector_disk.specs.Disk.{LeavesOnly, AddsOnly, IsImageOr}
use Rattle.disk_tests.specs.Writes.{IsContentOf, after_writes}
use Rattle.disk_tests.proofs.tests.disks.scatter.Given as goal

abbrev pub invariant-loop-content : goal.invariant-loop-content
invariant-loop-content g l =
    let old = g.D.Disk.state l.initial.disk in
    let now = g.D.Disk.state l.disk in
    record {
      seen : now.seen ≡ after_writes old.seen (take l.content-index l.contents);
      adds : AddsOnly (IsContentOf l.contents) old now;
      any_moment : LeavesOnly old now (IsImageOr (IsContentOf l.contents) old);
      failures : old.failures ≤ now.failures;
    }
