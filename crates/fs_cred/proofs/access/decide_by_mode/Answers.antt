use Rattle.std.proofs.Common.{◌≡◌, Some, sym, ap, ◌∙◌}
use Rattle.fs_cred.specs.declared.node.Node.{Node}
use Rattle.fs_cred.specs.declared.rule.Rule.TheVariants.{Owner, OwningGroup, Other}
use Rattle.fs_cred.specs.Decisions.{has_execute_bit, node_of_mode}
use Rattle.fs_cred.specs.Verdicts.{by_capability, by_entry}
use Rattle.fs_cred.proofs.ByCapability.{capability_is_verdict, capability_decides}
use Rattle.posix_acl.proofs.Laws.{minimal_valid}
use Rattle.fs_cred.proofs.ByMode.{verdict_by_owner, verdict_by_group, verdict_by_others, asked_by_mode}
use Rattle.fs_cred.proofs.OneAnswer.{decided}
use Rattle.fs_cred.proofs.access.decide_by_mode.Goals.{In-Some}
use Rattle.fs_cred.proofs.access.decide_by_mode.Goals as goal

abbrev node : (c : In-Some) → Node
node c = node_of_mode c.args.kind c.args.owner c.args.group c.args.mode

answered : (c : In-Some)
    → by_capability c.args.cred.now c.args.kind
    (has_execute_bit (node c).acl) c.args.want ≡ Some c.in-Some.verdict
answered c =
    asked_by_mode c.args.cred.now c.args.kind c.args.owner c.args.group c.args.mode c.args.want
    c.from_digit-of_owner.ensures c.from_digit-of_group.ensures c.from_digit-of_others.ensures
    c.any_executes-executable.ensures c.by_capability.ensures c.in-Some.is

pub returns-in-Some-clause-decides : goal.returns-in-Some-clause-decides
returns-in-Some-clause-decides c =
    capability_decides c.args.cred.now (node c) c.args.want c.in-Some.verdict (answered c)

pub returns-in-Some-clause-computed : goal.returns-in-Some-clause-computed
returns-in-Some-clause-computed c =
    capability_is_verdict c.args.cred.now (node c) c.args.want c.in-Some.verdict (answered c)

pub returns-then-uid-owner-clause-computed : goal.returns-then-uid-owner-clause-computed
returns-then-uid-owner-clause-computed c =
    let none =
    asked_by_mode c.args.cred.now c.args.kind c.args.owner c.args.group c.args.mode c.args.want
    c.from_digit-of_owner.ensures c.from_digit-of_group.ensures c.from_digit-of_others.ensures
    c.any_executes-executable.ensures c.by_capability.ensures c.in_default.is in
    c.by_entry.ensures ∙ ap (λ p. by_entry p c.args.want Owner) c.from_digit-of_owner.ensures
    ∙ verdict_by_owner c.args.cred.now c.args.kind c.args.owner c.args.group c.args.mode c.args.want none
    (sym c.uid.ensures ∙ c.if-uid-owner.true)

pub returns-then-uid-owner-clause-decides : goal.returns-then-uid-owner-clause-decides
returns-then-uid-owner-clause-decides c =
    decided c.args.cred.now (node_of_mode c.args.kind c.args.owner c.args.group c.args.mode) c.args.want
    (minimal_valid c.args.mode) c.by_entry.result (returns-then-uid-owner-clause-computed c)

pub returns-then-is_member : goal.returns-then-is_member
returns-then-is_member c =
    let none =
    asked_by_mode c.args.cred.now c.args.kind c.args.owner c.args.group c.args.mode c.args.want
    c.from_digit-of_owner.ensures c.from_digit-of_group.ensures c.from_digit-of_others.ensures
    c.any_executes-executable.ensures c.by_capability.ensures c.in_default.is in
    let apart = λ (same : c.args.cred.now.uid ≡ c.args.owner). c.if-uid-owner.false (c.uid.ensures ∙ same) in
    let member = sym c.is_member.ensures ∙ c.if-is_member.true in
    let node = node_of_mode c.args.kind c.args.owner c.args.group c.args.mode in
    let computed =
    c.by_entry-then-is_member.ensures
    ∙ ap (λ p. by_entry p c.args.want OwningGroup) c.from_digit-of_group.ensures
    ∙ verdict_by_group c.args.cred.now c.args.kind c.args.owner c.args.group c.args.mode c.args.want none apart
    member in
    let valid = minimal_valid c.args.mode in
    record {
      decides = decided c.args.cred.now node c.args.want valid c.by_entry-then-is_member.result computed;
      computed = computed;
    }

pub returns-else-is_member-clause-computed : goal.returns-else-is_member-clause-computed
returns-else-is_member-clause-computed c =
    let none =
    asked_by_mode c.args.cred.now c.args.kind c.args.owner c.args.group c.args.mode c.args.want
    c.from_digit-of_owner.ensures c.from_digit-of_group.ensures c.from_digit-of_others.ensures
    c.any_executes-executable.ensures c.by_capability.ensures c.in_default.is in
    c.by_entry-else-is_member.ensures ∙ ap (λ p. by_entry p c.args.want Other) c.from_digit-of_others.ensures
    ∙ verdict_by_others c.args.cred.now c.args.kind c.args.owner c.args.group c.args.mode c.args.want none
    (λ same. c.if-uid-owner.false (c.uid.ensures ∙ same)) (sym c.is_member.ensures ∙ c.if-is_member.false)

pub returns-else-is_member-clause-decides : goal.returns-else-is_member-clause-decides
returns-else-is_member-clause-decides c =
    decided c.args.cred.now (node_of_mode c.args.kind c.args.owner c.args.group c.args.mode) c.args.want
    (minimal_valid c.args.mode) c.by_entry-else-is_member.result (returns-else-is_member-clause-computed c)
