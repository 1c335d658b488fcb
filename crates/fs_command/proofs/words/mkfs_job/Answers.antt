use Rattle.std.proofs.Common.{codes, arith}
use Rattle.std.specs.Str.Parse.{ParsesUnsigned, ExplainsUnsignedError, HasUnsignedDigitsIfOk}
use Rattle.clap.specs.Words.{found_of}
use Rattle.fs_command.proofs.Getters.{number_is_some, number_is}
use Rattle.fs_command.proofs.words.mkfs_job.Goals as goal

pub unwrap-requires : goal.unwrap-requires
unwrap-requires c =
    number_is_some (λ bs r. ParsesUnsigned 32 10 bs r × ExplainsUnsignedError 10 bs r × HasUnsignedDigitsIfOk bs r) (λ u x g. g.0) 1024 65536
    (found_of c.args.matches.now) (codes "sectors") c.get_one.result c.get_one.ensures.value (omega arith) c.requires.sectors

pub unwrap-requires-2 : goal.unwrap-requires-2
unwrap-requires-2 c =
    number_is_some (λ bs r. ParsesUnsigned 32 10 bs r × ExplainsUnsignedError 10 bs r × HasUnsignedDigitsIfOk bs r) (λ u x g. g.0) 16 4096
    (found_of c.args.matches.now) (codes "inodes") c.get_one-2.result c.get_one-2.ensures.value (omega arith) c.requires.inodes

pub returns : goal.returns
returns c = (
  c.in_ok-text_given.ensures,
  number_is (λ bs r. ParsesUnsigned 32 10 bs r × ExplainsUnsignedError 10 bs r × HasUnsignedDigitsIfOk bs r) (λ u x g. g.0) 1024 65536
      (found_of c.args.matches.now) (codes "sectors") c.get_one.result c.unwrap.result
      c.get_one.ensures.value (omega arith) c.requires.sectors c.unwrap.ensures,
  number_is (λ bs r. ParsesUnsigned 32 10 bs r × ExplainsUnsignedError 10 bs r × HasUnsignedDigitsIfOk bs r) (λ u x g. g.0) 16 4096
      (found_of c.args.matches.now) (codes "inodes") c.get_one-2.result c.unwrap-2.result
      c.get_one-2.ensures.value (omega arith) c.requires.inodes c.unwrap-2.ensures,
)
