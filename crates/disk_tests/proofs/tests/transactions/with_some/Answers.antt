use Rattle.std.proofs.Common.{◌∙◌, ap}
use Rattle.redo_journal.specs.States.{header_at}
use Rattle.disk_tests.proofs.tests.transactions.with_some.Goals as goal

pub put_some-requires : goal.put_some-requires
put_some-requires g c = record {
  size = ap (λ disk. (g.D.Disk.state disk).size) c.begin-txn.ensures.disk ∙ c.requires.size;
  header = ap (λ disk. header_at (g.D.Disk.state disk).seen) c.begin-txn.ensures.disk ∙ c.requires.header;
}

pub returns : goal.returns
returns g c = record {
  size = c.put_some.ensures.reads.narrowed.size ∙ ap (λ disk. (g.D.Disk.state disk).size) c.begin-txn.ensures.disk ∙ c.requires.size;
  header = c.put_some.ensures.header ∙ ap (λ disk. header_at (g.D.Disk.state disk).seen) c.begin-txn.ensures.disk ∙ c.requires.header;
}
