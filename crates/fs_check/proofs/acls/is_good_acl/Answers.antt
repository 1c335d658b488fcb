use Rattle.fs_check.proofs.InodeAcls.{only_this}
use Rattle.fs_check.proofs.acls.is_good_acl.Goals as goal

pub returns-in-Some : goal.returns-in-Some
returns-in-Some c = only_this c.args.bits c.args.content.now c.in_ok-acl.field-0 c.in_ok-acl.ensures c.in-Some.acl c.goes_with.result c.in-Some.is c.goes_with.ensures
