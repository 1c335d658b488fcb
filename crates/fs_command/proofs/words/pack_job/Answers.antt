use Rattle.std.proofs.Common.{codes, arith}
use Rattle.std.specs.Str.Parse.{ParsesUnsigned, ExplainsUnsignedError, HasUnsignedDigitsIfOk}
use Rattle.clap.specs.Words.{found_of}
use Rattle.fs_command.proofs.Getters.{number_if_any}
use Rattle.fs_command.proofs.words.pack_job.Goals as goal

pub returns : goal.returns
returns c = (
  c.in_ok-image.ensures,
  c.in_ok-from.ensures,
  c.in_ok-sectors.ensures,
  c.inodes_given-inodes.ensures,
  number_if_any (λ bs r. ParsesUnsigned 32 10 bs r × ExplainsUnsignedError 10 bs r × HasUnsignedDigitsIfOk bs r) (λ u x g. g.0)
      0 4294967295 (found_of c.args.matches.now) (codes "uid") c.get_one-user.result
      c.get_one-user.ensures.none c.get_one-user.ensures.value (omega arith) c.requires.user,
  number_if_any (λ bs r. ParsesUnsigned 32 10 bs r × ExplainsUnsignedError 10 bs r × HasUnsignedDigitsIfOk bs r) (λ u x g. g.0)
      0 4294967295 (found_of c.args.matches.now) (codes "gid") c.get_one-group.result
      c.get_one-group.ensures.none c.get_one-group.ensures.value (omega arith) c.requires.group,
)
