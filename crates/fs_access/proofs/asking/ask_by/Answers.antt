use Rattle.std.proofs.Common.{◌≡◌, Ok, Result, rules, subst}
use Rattle.host_trees.specs.Copies.{Copies}
use Rattle.fs_access.specs.Asking.{AreHeard}
use Rattle.fs_access.specs.declared.asking.Heard.{Heard}
use Rattle.fs_access.specs.declared.asking.Heard.TheVariants as heard
use Rattle.fs_access.specs.declared.fault.AccessFault.{AccessFault}
use Rattle.fs_access.proofs.Replies.{called_denied}
use Rattle.fs_access.proofs.Steps.{asked_then}
use Rattle.fs_access.proofs.asking.ask_by.Goals as goal

pub returns-in-Ok-Denied : goal.returns-in-Ok-Denied
returns-in-Ok-Denied g c =
    let is : c.hear.result ≡ Ok (heard.Denied c.in-Ok-Denied.denial) = search rules in
    let said = subst (λ (r : Result Heard AccessFault). Copies g.M.FileSystem.Serves c.args.machine.now c.hear.new.machine (λ asked. AreHeard c.args.question.now c.args.pid asked r)) is c.hear.ensures in
    asked_then said c.explain.ensures (λ first rest hears told. called_denied c.args.question.now c.args.pid c.in-Ok-Denied.denial first rest c.explain.result hears told)
