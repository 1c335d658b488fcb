use Rattle.fs_check.proofs.SectorAcls.{faulty, only_made, not_these}
use Rattle.fs_check.proofs.acls.acl_of.Goals as goal

pub returns-in_default : goal.returns-in_default
returns-in_default c =
    faulty c.args.entries.now c.args.numbers.now c.in-Err.fault c.requires (c.in-Err.ensures.err c.in_default.not-OutOfMemory)

pub returns-then-not-have_numbers : goal.returns-then-not-have_numbers
returns-then-not-have_numbers c =
    let ns = c.args.numbers.now in
    only_made c.args.entries.now ns c.in-Ok.acl c.requires c.in-Ok.ensures.only
    (not_these c.in-Ok.acl c.entries.result.now ns c.have_numbers.result c.entries.ensures.all c.if-not-have_numbers.true c.have_numbers.ensures)
