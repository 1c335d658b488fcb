use Rattle.std.proofs.Common.{◌≡◌, ◌∙◌, ◌+◌, ℕ, Bool, Ok, Result, ap, arith, subst}
use Rattle.host_trees.specs.Copies.{Copies}
use Rattle.fs_access.specs.Asking.{AreLook, AreNoLinks, none}
use Rattle.fs_access.specs.declared.fault.AccessFault.{AccessFault}
use Rattle.fs_access.proofs.Replies.{finds, passes}
use Rattle.fs_access.proofs.Steps.{asked_nothing, asked_then, cut_after}
use Rattle.fs_access.proofs.asking.first_link.Goals as goal

pub loop-passed-init : goal.loop-passed-init
loop-passed-init g c = (asked_nothing _ none, omega arith)

pub loop-passed-preserved : goal.loop-passed-preserved
loop-passed-preserved g c =
    let path = c.args.question.now.path in
    let look = subst (λ (r : Result Bool AccessFault). Copies g.M.FileSystem.Serves c.loop-passed.machine c.is_link.new.machine
    (λ asked. AreLook path c.args.pid (c.loop-passed.passed + 1) asked r)) (c.in-Ok-false.is ∙ ap Ok c.in-Ok-false.field-0-test) c.is_link.ensures in (
      asked_then c.loop-passed.invariant.0 look (λ first rest before seen. passes path c.args.pid c.loop-passed.passed first rest before seen),
      omega (arith, c.loop-passed-test.true),
    )

pub returns-in-Ok-true : goal.returns-in-Ok-true
returns-in-Ok-true g c =
    let path = c.args.question.now.path in
    let look = subst (λ (r : Result Bool AccessFault). Copies g.M.FileSystem.Serves c.loop-passed.machine c.is_link.new.machine
    (λ asked. AreLook path c.args.pid (c.loop-passed.passed + 1) asked r)) (c.in-Ok-true.is ∙ ap Ok c.in-Ok-true.field-0-test) c.is_link.ensures in
    asked_then c.loop-passed.invariant.0 look
    (λ first rest before seen. finds path c.args.pid c.args.most c.loop-passed.passed first rest c.loop-passed-test.true before seen)

pub returns-in-Err : goal.returns-in-Err
returns-in-Err g c =
    let look = subst (λ (r : Result Bool AccessFault). Copies g.M.FileSystem.Serves c.loop-passed.machine c.is_link.new.machine
    (λ asked. AreLook c.args.question.now.path c.args.pid (c.loop-passed.passed + 1) asked r)) c.in-Err.is c.is_link.ensures in
    asked_then c.loop-passed.invariant.0 look (λ first rest before cut. cut_after first rest c.in-Err.fault cut)

pub returns : goal.returns
returns g c =
    let all : c.loop-passed.passed ≡ c.args.most = omega (arith, c.loop-passed.invariant.1, c.loop-passed-test.false) in
    subst (λ (n : ℕ). Copies g.M.FileSystem.Serves c.args.machine.now c.loop-passed.machine (λ asked. AreNoLinks c.args.question.now.path c.args.pid n asked)) all
    c.loop-passed.invariant.0
