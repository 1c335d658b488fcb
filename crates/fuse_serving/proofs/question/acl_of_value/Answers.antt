use Rattle.std.proofs.Common.{rules, ◌≡◌, ◌≢◌, [], Some}
use Rattle.posix_acl.specs.Entries.{plain_entries}
use Rattle.posix_acl.specs.Faults.{first_fault}
use Rattle.fuse_serving.proofs.Values.{says_nothing}
use Rattle.fuse_serving.proofs.question.acl_of_value.Goals as goal

pub returns : goal.returns
returns c =
    let some : c.in-Ok.entries.items ≢ [] = search rules in
    let wrong : first_fault (plain_entries c.in-Ok.entries.items) ≡ Some c.in-Err.field-0 = search rules in
    says_nothing c.args.value.now c.in-Ok.entries.items c.in-Err.field-0 c.in-Ok.ensures.found some wrong
