use Rattle.std.proofs.Common.{map, ap, ◌∙◌}
use Rattle.posix_acl.specs.Entries.{numbers_of}
use Rattle.fs_check.proofs.SectorAcls.{no_entries, with_entries}
use Rattle.fs_check.proofs.acls.acl_with.Goals as goal

pub returns-in-None : goal.returns-in-None
returns-in-None c = no_entries c.args.numbers.now c.in_ok-entries.field-0 c.in_ok-entries.ensures c.in-None.is

pub acl_of-requires : goal.acl_of-requires
acl_of-requires c = ap (map numbers_of) c.deref.ensures.value
    ∙ with_entries c.args.numbers.now c.in_ok-entries.field-0 c.in_ok-entries.ensures c.in-Some.entries c.in-Some.is
