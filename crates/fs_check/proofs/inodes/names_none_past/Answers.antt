use Rattle.std.proofs.Common.{arith}
use Rattle.fs_check.proofs.Allowed.{names_none, names_some}
use Rattle.fs_check.proofs.inodes.names_none_past.Goals as goal

pub returns-then-not-may_be_named : goal.returns-then-not-may_be_named
returns-then-not-may_be_named c = names_some c.args.inode.now c.args.most 0 c.may_be_named.result c.may_be_named.ensures c.if-not-may_be_named.true

pub returns-then-not-may_be_named-2 : goal.returns-then-not-may_be_named-2
returns-then-not-may_be_named-2 c = names_some c.args.inode.now c.args.most 1 c.may_be_named-2.result c.may_be_named-2.ensures c.if-not-may_be_named-2.true

pub returns : goal.returns
returns c =
    let first = c.may_be_named.ensures.0 c.if-not-may_be_named.false in
    let second = c.may_be_named-2.ensures.0 c.if-not-may_be_named-2.false in (
      (λ t. names_none c.args.inode.now c.args.most (omega arith) first second (c.may_be_named-3.ensures.0 t)),
      (λ none. c.may_be_named-3.ensures.1 (none 2)),
    )
