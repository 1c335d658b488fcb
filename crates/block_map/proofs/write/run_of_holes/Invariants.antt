use Rattle.std.proofs.Common.{◌≡◌, ◌≤◌, ◌<◌, ◌+◌, ℕ}
use Rattle.fs_layout.specs.Bytes.{SectorMap}
use Rattle.fs_layout.specs.Images.{pointer}
use Rattle.block_map.specs.Blocks.{IsLoaded}
use Rattle.block_map.proofs.write.run_of_holes.Given as goal

abbrev pub invariant-loop-i : goal.invariant-loop-i
invariant-loop-i l = record {
  within : l.i ≤ l.most;
  holes : (image : SectorMap) → IsLoaded image l.blocks l.k → (j : ℕ) → l.k ≤ j → j < l.k + l.i → pointer image l.blocks.inode j ≡ 0;
}
