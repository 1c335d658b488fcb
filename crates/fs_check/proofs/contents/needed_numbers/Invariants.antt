use Rattle.std.proofs.Common.{◌≡◌, ◌≤◌}
use Rattle.fs_model.specs.Nodes.{numbers_for}
use Rattle.fs_check.proofs.contents.needed_numbers.Given as goal

abbrev pub invariant-loop-below : goal.invariant-loop-below
invariant-loop-below l = record {
  most : l.below ≤ l.level;
  is : l.count ≡ numbers_for l.below l.inode.size;
  few : l.count ≤ l.inode.size;
}
