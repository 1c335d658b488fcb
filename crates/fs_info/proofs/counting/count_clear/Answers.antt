use Rattle.std.proofs.Common.{◌≡◌, ◌≤◌, ◌+◌, ◌-◌, ◌/◌, ◌∙◌, ℕ, ap, arith}
use Rattle.fs_layout.specs.Bytes.{SectorMap}
use Rattle.fs_check.specs.Checks.{meaning}
use Rattle.fs_check.proofs.Carrying.{meaning_same}
use Rattle.sector_disk.proofs.Moments.{reads_joined}
use Rattle.fs_info.proofs.Counts.{clear_more, set_more}
use Rattle.fs_info.proofs.counting.count_clear.Goals as goal
use Rattle.fs_info.proofs.counting.count_clear.Goals.{then-not-has_bit, else-not-has_bit}

pub loop-n-preserved : goal.loop-n-preserved
loop-n-preserved g c =
    let m = meaning (g.D.Disk.state c.args.disk.now) in
    let n = c.loop-n.n in
    let so_far = c.loop-n.invariant in
    let read = c.in_ok-read_map.ensures in
    let here : c.read_map.new.map ≡ m (c.args.start + n / 4096) = read.map ∙ ap (λ (i : SectorMap). i (c.args.start + n / 4096)) (meaning_same so_far.reads) in
    let low : c.args.from ≤ n = c.loop-n.auto.n in
    let same : n ≡ n + 1 - 1 = omega arith in
    let below = c.loop-n-test.true in
    let few = so_far.few in
    let is = c.has_bit.ensures m c.args.start here in
    record {
      top = omega (arith, below);
      reads = reads_joined so_far.reads read.reads;
      kept = λ past. here ∙ ap (λ (k : ℕ). m (c.args.start + k / 4096)) same;
      few = elim c.if-not-has_bit.branch [
        | then-not-has_bit w ↦ let free = w.free-is in omega (arith, free, few, low)
        | else-not-has_bit w ↦ let free = w.free-is in omega (arith, free, few, low)
      ];
      count = elim c.if-not-has_bit.branch [
        | then-not-has_bit w ↦ w.free-is ∙ clear_more m c.args.start c.args.from n low c.loop-n.free c.has_bit.result so_far.count is w.if-not-has_bit.true
        | else-not-has_bit w ↦ w.free-is ∙ set_more m c.args.start c.args.from n low c.loop-n.free c.has_bit.result so_far.count is w.if-not-has_bit.false
      ];
    }
