use Rattle.std.proofs.Common.{◌<◌, length, sym, arith}
use Rattle.std.proofs.lemmas.Bool.Decides.{nat_tests}
use Rattle.path_walk.proofs.Asking.{ends_is}
use Rattle.path_walk.proofs.walker.ends_with_slash.Goals as goal

pub returns-then-not-is_empty : goal.returns-then-not-is_empty
returns-then-not-is_empty c =
    let some : 0 < length c.args.path.now = grind (arith, nat_tests) in
    sym (ends_is c.args.path.now some)
