use Rattle.std.proofs.Common.{◌*◌, arith}
use Rattle.fs_check.specs.Checks.{meaning}
use Rattle.fs_check.proofs.Tables.{table_geometry}
use Rattle.fs_check.proofs.inodes.is_free_sector.Goals as goal

pub find_recovered-requires-clause-on_disk : goal.find_recovered-requires-clause-on_disk
find_recovered-requires-clause-on_disk g c =
    let at = (table_geometry _ _ c.args.opened.now.geometry (4 * c.args.k) c.requires.opened.geometry c.requires.there).on_disk in
    omega (arith, at)

pub overflow_add-opened : goal.overflow_add-opened
overflow_add-opened g c =
    let found = table_geometry _ _ c.args.opened.now.geometry (4 * c.args.k) c.requires.opened.geometry c.requires.there in
    let at = found.on_disk in
    let small = found.small in
    omega (arith, at, small)

pub returns-in-Some : goal.returns-in-Some
returns-in-Some g c = λ t.
    c.is_blank_sector.ensures t c.args.opened.now.geometry (meaning (g.D.Disk.state c.args.disk.now)) c.args.k
    (λ none. absurd (omega (arith, none, c.if-k-eq0.false))) c.in-Some.ensures
