use Rattle.std.proofs.Common.{arith, refl}
use Rattle.fs_check.specs.Checks.{meaning}
use Rattle.fs_check.proofs.Tallies.{all_repeated, all_named}
use Rattle.fs_check.proofs.directories.read_names.Goals as goal

pub add_directories-requires-clause-none : goal.add_directories-requires-clause-none
add_directories-requires-clause-none g c = c.in_ok-names.ensures c.args.opened.now.geometry (meaning (g.D.Disk.state c.args.disk.now)) refl

pub returns-clause-names : goal.returns-clause-names
returns-clause-names g c =
    let p = c.args.opened.now.geometry in
    let names = c.add_directories.new.names in
    all_named p (meaning (g.D.Disk.state c.args.disk.now)) p.inodes names.counts.items names.directories.items refl c.in_ok-add_directories.ensures.names.tally

pub returns-clause-repeated : goal.returns-clause-repeated
returns-clause-repeated g c =
    let p = c.args.opened.now.geometry in
    all_repeated p (meaning (g.D.Disk.state c.args.disk.now)) p.inodes c.add_directories.new.names.repeated (omega arith) c.in_ok-add_directories.ensures.names.repeated
