use Rattle.std.proofs.Common.{rules, sym, ◌∙◌}
use Rattle.fs_cred.proofs.ByCapability.{capability_is_verdict, capability_decides, entries_are_left}
use Rattle.fs_cred.proofs.OneAnswer.{decided}
use Rattle.fs_cred.proofs.access.decide.Goals as goal

pub returns-in-Some-clause-decides : goal.returns-in-Some-clause-decides
returns-in-Some-clause-decides c = capability_decides c.args.cred.now c.args.node.now c.args.want c.in-Some.verdict (search rules)

pub returns-in-Some-clause-computed : goal.returns-in-Some-clause-computed
returns-in-Some-clause-computed c = capability_is_verdict c.args.cred.now c.args.node.now c.args.want c.in-Some.verdict (search rules)

pub returns-in-Some-named_user-clause-decides : goal.returns-in-Some-named_user-clause-decides
returns-in-Some-named_user-clause-decides c =
    let left = entries_are_left c.args.cred.now c.args.node.now c.args.want (search rules) in
    decided c.args.cred.now c.args.node.now c.args.want c.named_user.ensures.valid c.by_named_user.result ((search rules) ∙ sym left)

pub returns-in_default-named_user-clause-decides : goal.returns-in_default-named_user-clause-decides
returns-in_default-named_user-clause-decides c =
    let left = entries_are_left c.args.cred.now c.args.node.now c.args.want (search rules) in
    decided c.args.cred.now c.args.node.now c.args.want c.named_user.ensures.valid c.by_groups.result ((search rules) ∙ sym left)
