use Rattle.std.proofs.Common.{sym, ◌∙◌}
use Rattle.fs_check.proofs.Carrying.{reads_once}
use Rattle.fs_check.proofs.Openings.{header_few, place_there, place_means}
use Rattle.fs_check.proofs.recovering.read_meaning.Goals as goal

pub content_of-requires : goal.content_of-requires
content_of-requires g c = header_few (g.D.Disk.state c.args.disk.now) c.args.geometry c.requires.begins

pub read-requires : goal.read-requires
read-requires g c =
    place_there (g.D.Disk.state c.args.disk.now) c.args.geometry c.requires.begins c.args.n c.content_of.ensures.on_disk c.requires.on_disk

pub returns-clause-content : goal.returns-clause-content
returns-clause-content g c =
    c.in_ok-read.ensures.content
    ∙ sym (place_means (g.D.Disk.state c.args.disk.now) c.args.geometry c.requires.begins c.args.n c.content_of.ensures.content (g.met.D.Disk.size_fits c.args.disk.now))

pub returns-clause-reads : goal.returns-clause-reads
returns-clause-reads g c = reads_once c.read.ensures.same c.read.ensures.time c.read.ensures.cause.later c.read.ensures.quiet (g.met.D.Disk.counts_now c.args.disk.now)
