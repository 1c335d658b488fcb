use Rattle.std.specs.Prelude.{Option}
use Rattle.std.proofs.Common.{ap, ◌∙◌}
use Rattle.posix_acl.specs.AccessList.{AccessList}
use Rattle.fuse_plans.specs.Works.{give, fail, ◌>>=◌}
use Rattle.fuse_plans.specs.AclPlans.{tell_acl}
use Rattle.fuse_requests.proofs.xattrs.tell_acl.Goals as goal

pub returns-in_default : goal.returns-in_default
unfolding fail ◌>>=◌
returns-in_default c = ap (λ (found : Option AccessList). tell_acl c.args.size found) c.in_default.is

pub returns : goal.returns
unfolding give ◌>>=◌
returns c = ap (λ (found : Option AccessList). tell_acl c.args.size found) c.in-Some.is ∙ rw c.acl_size-has.ensures at c.sized.ensures
