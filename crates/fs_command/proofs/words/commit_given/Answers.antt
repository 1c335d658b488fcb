use Rattle.std.proofs.Common.{codes, arith}
use Rattle.std.specs.Str.Parse.{ParsesUnsigned, ExplainsUnsignedError, HasUnsignedDigitsIfOk}
use Rattle.clap.specs.Words.{found_of}
use Rattle.fs_command.proofs.Getters.{number_or_is}
use Rattle.fs_command.proofs.words.commit_given.Goals as goal

pub returns : goal.returns
returns c =
    number_or_is (λ bs r. ParsesUnsigned 32 10 bs r × ExplainsUnsignedError 10 bs r × HasUnsignedDigitsIfOk bs r) (λ u x g. g.0)
    0 0 86400 (found_of c.args.matches.now) (codes "commit") c.get_one.result c.unwrap_or.result
    c.get_one.ensures.none c.get_one.ensures.value (omega arith) c.requires.given c.unwrap_or.ensures
