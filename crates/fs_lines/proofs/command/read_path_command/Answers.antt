use Rattle.std.proofs.Common.{rules}
use Rattle.fs_model.specs.declared.call.Call.TheVariants as calls
use Rattle.fs_lines.proofs.command.read_path_command.Goals as goal

pub returns-in-stat-clause-said : goal.returns-in-stat-clause-said
returns-in-stat-clause-said c = λ pid same. rw (c.in-stat.is, ← same) (c.one_call.ensures.said calls.Stat (λ a made is. is))

pub returns-in-lstat-clause-said : goal.returns-in-lstat-clause-said
returns-in-lstat-clause-said c = λ pid same. rw (c.in-lstat.is, ← same) (c.one_call-in-lstat.ensures.said calls.Lstat (λ a made is. is))

pub returns-in-access-clause-said : goal.returns-in-access-clause-said
returns-in-access-clause-said c = λ pid same. rw (c.in-access.is, ← same) (c.two_call.ensures.said calls.Access (λ a b made is. is))

pub returns-in-truncate-clause-said : goal.returns-in-truncate-clause-said
returns-in-truncate-clause-said c = λ pid same. rw (c.in-truncate.is, ← same) (c.two_call-in-truncate.ensures.said calls.Truncate (λ a b made is. is))

pub returns-in-chmod-clause-said : goal.returns-in-chmod-clause-said
returns-in-chmod-clause-said c = λ pid same. rw (c.in-chmod.is, ← same) (c.two_call-in-chmod.ensures.said calls.Chmod (λ a b made is. is))

pub returns-in-chown-clause-said : goal.returns-in-chown-clause-said
returns-in-chown-clause-said c = λ pid same. rw (c.in-chown.is, ← same) (c.three_call.ensures.said calls.Chown (λ a b c made is. search rules))

pub returns-in-getacl-clause-said : goal.returns-in-getacl-clause-said
returns-in-getacl-clause-said c = λ pid same. rw (c.in-getacl.is, ← same) (c.two_call-in-getacl.ensures.said calls.GetAcl (λ a b made is. is))

pub returns-in-setacl : goal.returns-in-setacl
returns-in-setacl c = record { said = λ pid same. rw c.in-setacl.is (c.read_set_acl.ensures.said pid same); offered = c.read_set_acl.ensures.offered }

pub returns-in_default-clause-offered : goal.returns-in_default-clause-offered
returns-in_default-clause-offered c = c.read_descriptor_command.ensures.offered
