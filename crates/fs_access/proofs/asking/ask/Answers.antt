use Rattle.std.proofs.Common.{ℕ, subst, Result}
use Rattle.host_trees.specs.Copies.{Copies}
use Rattle.fs_access.specs.Asking.{AreBegun}
use Rattle.fs_access.specs.declared.fault.AccessFault.{AccessFault}
use Rattle.fs_access.proofs.Replies.{asking_then}
use Rattle.fs_access.proofs.Steps.{asked_then}
use Rattle.fs_access.proofs.asking.ask.Goals as goal

pub returns-in-Ok : goal.returns-in-Ok
returns-in-Ok g c =
    let begun = subst (λ (r : Result ℕ AccessFault). Copies g.M.FileSystem.Serves c.args.machine.now c.begin.new.machine (λ asked. AreBegun c.args.question.now asked r)) c.in-Ok.is c.begin.ensures in
    asked_then begun c.ask_by.ensures (λ first rest begins called. asking_then c.args.question.now c.in-Ok.pid first rest c.ask_by.result begins called)
