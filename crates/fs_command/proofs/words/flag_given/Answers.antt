use Rattle.clap.specs.Words.{found_of}
use Rattle.fs_command.proofs.Getters.{flag_is}
use Rattle.fs_command.proofs.words.flag_given.Goals as goal

pub returns : goal.returns
returns c =
    flag_is (found_of c.args.matches.now) c.args.name.now c.get_flag.result c.get_flag.ensures.none c.get_flag.ensures.value c.get_flag.ensures.other
    c.requires.flag
