use Rattle.std.proofs.Common.{rules}
use Rattle.fs_model.specs.declared.call.Call.TheVariants as calls
use Rattle.fs_lines.specs.BehindPid.{name_rows}
use Rattle.fs_lines.proofs.command.read_name_command.Goals as goal

pub returns-in-mkdir-clause-said : goal.returns-in-mkdir-clause-said
unfolding name_rows
returns-in-mkdir-clause-said c = λ pid same. rw (c.in-mkdir.is, ← same) (c.two_call.ensures.said calls.Mkdir (λ a b made is. is))

pub returns-in-rmdir-clause-said : goal.returns-in-rmdir-clause-said
unfolding name_rows
returns-in-rmdir-clause-said c = λ pid same. rw (c.in-rmdir.is, ← same) (c.one_call.ensures.said calls.Rmdir (λ a made is. is))

pub returns-in-link-clause-said : goal.returns-in-link-clause-said
unfolding name_rows
returns-in-link-clause-said c = λ pid same. rw (c.in-link.is, ← same) (c.two_call-in-link.ensures.said calls.Link (λ a b made is. search rules))

pub returns-in-symlink-clause-said : goal.returns-in-symlink-clause-said
unfolding name_rows
returns-in-symlink-clause-said c = λ pid same. rw (c.in-symlink.is, ← same) (c.two_call-in-symlink.ensures.said calls.Symlink (λ a b made is. search rules))

pub returns-in-readlink-clause-said : goal.returns-in-readlink-clause-said
unfolding name_rows
returns-in-readlink-clause-said c = λ pid same. rw (c.in-readlink.is, ← same) (c.one_call-in-readlink.ensures.said calls.Readlink (λ a made is. is))

pub returns-in-unlink-clause-said : goal.returns-in-unlink-clause-said
unfolding name_rows
returns-in-unlink-clause-said c = λ pid same. rw (c.in-unlink.is, ← same) (c.one_call-in-unlink.ensures.said calls.Unlink (λ a made is. is))

pub returns-in-rename-clause-said : goal.returns-in-rename-clause-said
unfolding name_rows
returns-in-rename-clause-said c = λ pid same. rw (c.in-rename.is, ← same) (c.two_call-in-rename.ensures.said calls.Rename (λ a b made is. search rules))

pub returns-in-chdir-clause-said : goal.returns-in-chdir-clause-said
unfolding name_rows
returns-in-chdir-clause-said c = λ pid same. rw (c.in-chdir.is, ← same) (c.one_call-in-chdir.ensures.said calls.Chdir (λ a made is. is))
