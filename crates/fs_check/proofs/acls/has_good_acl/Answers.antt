use Rattle.fs_check.proofs.Carrying.{memory_error, same_error}
use Rattle.fs_check.proofs.acls.has_good_acl.Goals as goal

pub returns-in_err-read_recovered-clause-passed : goal.returns-in_err-read_recovered-clause-passed
returns-in_err-read_recovered-clause-passed g c = same_error c.from_residual.result c.from_residual.ensures.1 c.in_err-read_recovered.ensures.passed

pub returns-in_err-is_good_acl-clause-passed : goal.returns-in_err-is_good_acl-clause-passed
returns-in_err-is_good_acl-clause-passed g c = memory_error c.in_ok-read_recovered.ensures.passed.reads c.from_residual-in_err-is_good_acl.result c.from_residual-in_err-is_good_acl.ensures.1
