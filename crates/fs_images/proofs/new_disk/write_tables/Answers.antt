use Rattle.std.proofs.Common.{◌≡◌, ◌<◌, ◌≤◌, ◌∙◌, length, arith}
use Rattle.sector_disk.proofs.Moments.{adds_write, goes_on, image_or}
use Rattle.fs_layout.proofs.Places.{after_map}
use Rattle.fs_images.proofs.MakingMoments.{beside_tables_kept, table_more}
use Rattle.fs_images.proofs.Causes.{later_cause}
use Rattle.fs_images.proofs.new_disk.write_tables.Goals as goal

pub loop-n-preserved : goal.loop-n-preserved
loop-n-preserved g c =
    let so_far = c.loop-n.invariant in
    let n = c.loop-n.n in
    let last = g.D.Disk.state c.loop-n.disk in
    let after = g.D.Disk.state c.write.new.self in
    let first = after_map c.requires.geometry in
    let from : 128 ≤ n = omega (arith, c.loop-n.auto.n, first.0) in
    let whole : length last.seen ≡ last.size = (g.met.D.Disk.seen_is_image c.loop-n.disk).size in
    let fits : n < length last.seen = omega (arith, whole, so_far.adds.size, c.loop-n-test.true, c.requires.room) in
    let put = c.in_ok-write.ensures.written.seen in
    let adds = adds_write so_far.adds c.write.ensures.changes (λ k content is same. omega (arith, is, from)) in
    record {
      written = table_more c.args.geometry last.seen after.seen n c.table_sector.result fits put c.table_sector.ensures so_far.written;
      kept = beside_tables_kept c.args.geometry (g.D.Disk.state c.args.disk.now).seen last.seen after.seen n c.table_sector.result c.loop-n.auto.n c.loop-n-test.true put
          so_far.kept;
      adds = adds;
      since = goes_on so_far.since c.write.ensures.time (image_or adds);
      failures = omega (arith, so_far.failures, c.write.ensures.cause.later);
    }

pub returns-in_err-write-clause-adds : goal.returns-in_err-write-clause-adds
returns-in_err-write-clause-adds g c =
    let from : 128 ≤ c.loop-n.n = omega (arith, c.loop-n.auto.n, (after_map c.requires.geometry).0) in
    adds_write c.loop-n.invariant.adds c.write.ensures.changes (λ k content is same. omega (arith, is, from))

pub returns-in_err-write-clause-any_moment : goal.returns-in_err-write-clause-any_moment
returns-in_err-write-clause-any_moment g c =
    let from : 128 ≤ c.loop-n.n = omega (arith, c.loop-n.auto.n, (after_map c.requires.geometry).0) in
    let adds = adds_write c.loop-n.invariant.adds c.write.ensures.changes (λ k content is same. omega (arith, is, from)) in
    goes_on c.loop-n.invariant.since c.write.ensures.time (image_or adds)

pub returns-in_err-write-clause-cause : goal.returns-in_err-write-clause-cause
returns-in_err-write-clause-cause g c =
    later_cause (g.D.Disk.state c.args.disk.now) (g.D.Disk.state c.loop-n.disk) (g.D.Disk.state c.write.new.self) c.loop-n.invariant.failures c.in_err-write.ensures.cause
    c.from_residual.result
