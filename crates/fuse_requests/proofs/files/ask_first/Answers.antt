use Rattle.fuse_sessions.proofs.Doings.{then-matches, when-false, when-true}
use Rattle.std.proofs.Common.{sym, ◌∙◌}
use Rattle.fuse_requests.proofs.files.ask_first.Goals as goal

pub returns-then-not-is_exec-clause-did : goal.returns-then-not-is_exec-clause-did
returns-then-not-is_exec-clause-did g c = when-false _ (sym c.is_exec.ensures ∙ c.if-not-is_exec.true)

pub returns-clause-did : goal.returns-clause-did
returns-clause-did g c =
    when-true _ (sym c.is_exec.ensures ∙ c.if-not-is_exec.false) (then-matches _ (rw
    (c.empty_path.ensures, c.from_digit.ensures) at c.on_once.ensures.did) c.done.ensures)
