use Rattle.fs_check.proofs.Openings.{header_few, place_there, place_means}
use Rattle.fs_check.proofs.reading.place_of.Goals as goal

pub content_of-requires : goal.content_of-requires
content_of-requires g c = header_few (g.D.Disk.state c.args._disk.now) c.args.opened.now.geometry c.requires.opened

pub returns-clause-on_disk : goal.returns-clause-on_disk
returns-clause-on_disk g c =
    place_there (g.D.Disk.state c.args._disk.now) c.args.opened.now.geometry c.requires.opened c.args.n c.content_of.ensures.on_disk c.requires.on_disk

pub returns-clause-content : goal.returns-clause-content
returns-clause-content g c =
    place_means (g.D.Disk.state c.args._disk.now) c.args.opened.now.geometry c.requires.opened c.args.n c.content_of.ensures.content
    (g.met.D.Disk.size_fits c.args._disk.now)
