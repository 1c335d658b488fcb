use Rattle.std.proofs.Common.{min, rules}
use Rattle.fs_model.specs.declared.call.Call.TheVariants as calls
use Rattle.fs_model.specs.Limits.{move_limit}
use Rattle.fs_lines.specs.BehindPid.{descriptor_rows}
use Rattle.fs_lines.proofs.command.read_descriptor_command.Goals as goal

pub returns-in-read-clause-said : goal.returns-in-read-clause-said
unfolding descriptor_rows
returns-in-read-clause-said c = λ pid same. rw (c.in-read.is, ← same) (c.two_call.ensures.said (λ fd len. calls.Read fd (min len move_limit)) (λ a b made is. search rules))

pub returns-in-write-clause-said : goal.returns-in-write-clause-said
unfolding descriptor_rows
returns-in-write-clause-said c = λ pid same. rw (c.in-write.is, ← same) (c.two_call-in-write.ensures.said calls.Write (λ a b made is. is))

pub returns-in-lseek-clause-said : goal.returns-in-lseek-clause-said
unfolding descriptor_rows
returns-in-lseek-clause-said c = λ pid same. rw (c.in-lseek.is, ← same) (c.three_call.ensures.said calls.Lseek (λ a b c made is. is))

pub returns-in-close-clause-said : goal.returns-in-close-clause-said
unfolding descriptor_rows
returns-in-close-clause-said c = λ pid same. rw (c.in-close.is, ← same) (c.one_call.ensures.said calls.Close (λ a made is. is))

pub returns-in-fstat-clause-said : goal.returns-in-fstat-clause-said
unfolding descriptor_rows
returns-in-fstat-clause-said c = λ pid same. rw (c.in-fstat.is, ← same) (c.one_call-in-fstat.ensures.said calls.Fstat (λ a made is. is))

pub returns-in-ftruncate-clause-said : goal.returns-in-ftruncate-clause-said
unfolding descriptor_rows
returns-in-ftruncate-clause-said c = λ pid same. rw (c.in-ftruncate.is, ← same) (c.two_call-in-ftruncate.ensures.said calls.Ftruncate (λ a b made is. is))

pub returns-in-readdir-clause-said : goal.returns-in-readdir-clause-said
unfolding descriptor_rows
returns-in-readdir-clause-said c = λ pid same. rw (c.in-readdir.is, ← same) (c.one_call-in-readdir.ensures.said calls.Readdir (λ a made is. is))
