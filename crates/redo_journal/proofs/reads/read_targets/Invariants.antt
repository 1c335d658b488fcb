use Rattle.std.proofs.Common.{◌≡◌, ◌≤◌, ◌<◌, ◌+◌, ◌*◌, ◌/◌, ◌%◌, ℕ, length, get_or}
use Rattle.fs_layout.specs.Bytes.{u32_of}
use Rattle.fs_layout.specs.declared.header.TheConstants.{MAX_HEADER}
use Rattle.fs_layout.specs.Header.{max_targets}
use Rattle.sector_disk.specs.Disk.{OnlyReads, sector}
use Rattle.redo_journal.proofs.reads.read_targets.Given as goal

abbrev pub invariant-loop-at : goal.invariant-loop-at
invariant-loop-at g l = record {
  few : length l.fn.counted ≤ max_targets l.fn.header;
  most : l.fn.header ≤ MAX_HEADER;
  room : 126 < length l.fn.counted → l.fn.from + l.fn.header ≤ (g.D.Disk.state l.initial.disk).size;
  count : length l.commit ≡ length l.fn.counted;
  first : (i : ℕ) → i < 126 → get_or l.commit i 0 ≡ get_or l.fn.counted i 0;
  more : (k : ℕ) → k < 128 * l.at → 126 + k < length l.fn.counted → u32_of (sector (g.D.Disk.state l.initial.disk).seen (l.fn.from + k / 128)) (4 * (k % 128)) ≡ get_or l.commit (126 + k) 0;
  reads : OnlyReads (g.D.Disk.state l.initial.disk) (g.D.Disk.state l.disk);
}
