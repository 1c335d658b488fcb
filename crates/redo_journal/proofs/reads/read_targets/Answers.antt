use Rattle.std.proofs.Common.{◌≡◌, ◌+◌, ◌*◌, ◌∙◌, length, arith, ap}
use Rattle.sector_disk.specs.Disk.{Image, sector}
use Rattle.sector_disk.proofs.Moments.{reads_more}
use Rattle.fs_layout.specs.Bytes.{u32_of}
use Rattle.redo_journal.proofs.Writing.{header_read}
use Rattle.redo_journal.proofs.reads.read_targets.Goals as goal

pub loop-at-preserved : goal.loop-at-preserved
loop-at-preserved g c =
    let so_far = c.loop-at.invariant in
    let at = c.loop-at.at in
    let first = g.D.Disk.state c.args.disk.now in
    let here = c.read_header.ensures in
    let seen = so_far.reads.narrowed.seen in
    let len : length c.loop-at.commit ≡ length c.args.counted = so_far.count in
    record {
      few = so_far.few;
      most = so_far.most;
      room = so_far.room;
      count = here.count ∙ so_far.count;
      first = λ i low. here.before i (omega (arith, low)) ∙ so_far.first i low;
      more =
          header_read c.args.from (length c.args.counted) at c.loop-at.commit c.read_header.new.commit first.seen here.before so_far.more
          (λ k low lt. c.in_ok-read_header.ensures.read k low (omega (arith, lt, len)) ∙ ap (λ (l : Image). u32_of (sector l (c.args.from + at)) (4 * k)) seen);
      reads = reads_more so_far.reads here.same here.time here.cause.later here.quiet (g.met.D.Disk.counts_now c.loop-at.disk);
    }
