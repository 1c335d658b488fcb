use Rattle.std.proofs.Common.{◌∙◌, ◌+◌, ◌≤◌, ap, length, subst, sym}
use Rattle.sector_disk.proofs.Following.{piece_fits, read_none, read_more}
use Rattle.sector_disk.proofs.Recorded.{recorded}
use Rattle.sector_disk.proofs.reading.read_sectors.Goals as goal

pub loop-at-init : goal.loop-at-init
loop-at-init g c =
    let file = g.F.DiskFile.held c.args.file.now in
    read_none c.args.count c.in_ok-sectors.sectors.shown file c.in_ok-sectors.ensures

pub set_run-requires-clause-fits : goal.set_run-requires-clause-fits
set_run-requires-clause-fits g c =
    let at = c.loop-at.at in
    let piece = c.read_run.new.to in
    let was = c.loop-at.invariant in
    let fits =
    piece_fits at c.args.count c.min-len.result c.loop-at.buffer piece was.fits c.min-len.ensures
    c.read_run.auto.to in
    subst (λ n. at + length piece ≤ n) (sym was.len) fits.1

pub loop-at-preserved : goal.loop-at-preserved
loop-at-preserved g c =
    let at = c.loop-at.at in
    let count = c.args.count in
    let len = c.min-len.result in
    let piece = c.read_run.new.to in
    let was = c.loop-at.invariant in
    let held = g.F.DiskFile.held in
    let fits = piece_fits at count len c.loop-at.buffer piece was.fits c.min-len.ensures c.read_run.auto.to in
    let fine = sym c.is_err.ensures.value ∙ c.if-is_err.false in
    let has = recorded c.read_run.result fine c.read_run.ensures.content in
    read_more at count (at + len) piece c.loop-at.sectors.shown c.set_run.new.self.shown
    (held c.args.file.now) (held c.loop-at.file) (held c.read_run.new.self) was fits.1
    (ap (λ n. at + n) (sym fits.0)) c.read_run.ensures.same has c.in_ok-set_run.ensures
