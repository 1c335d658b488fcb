use Rattle.std.proofs.Common.{◌≡◌, rules, replicate}
use Rattle.fs_layout.specs.declared.inode.TheConstants.{POINTER_LEVELS}
use Rattle.fs_check.proofs.DataNumbers.{none_on}
use Rattle.fs_check.proofs.owning.top_level.Goals as goal

pub returns-then-eq-clause-none : goal.returns-then-eq-clause-none
returns-then-eq-clause-none c = λ level gt le m i.
    let is : c.args.inode.now.indirect ≡ replicate POINTER_LEVELS 0 = search rules in
    none_on m c.args.inode.now is level i gt
