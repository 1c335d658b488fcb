use Rattle.std.proofs.Common.{sym, ap, ◌∙◌}
use Rattle.fs_layout.specs.Inode.{is_small, kind_of}
use Rattle.fs_layout.proofs.InodeLaw.{older_fails, older_is_none, older_is_read, older_refuses, older_with_more}
use Rattle.fs_layout.proofs.inode.Inode.get_older.Goals as goal

pub returns-in_default : goal.returns-in_default
returns-in_default c = older_is_none c.args.from.now (ap kind_of (sym c.u16_at.ensures) ∙ sym c.of_number.ensures ∙ c.in_default.is)

pub returns-then-not-is_small : goal.returns-then-not-is_small
returns-then-not-is_small c =
    older_refuses c.args.from.now c.in-Some.kind (ap kind_of (sym c.u16_at.ensures) ∙ sym c.of_number.ensures ∙ c.in-Some.is)
    (ap (is_small c.in-Some.kind) (sym c.u64_at.ensures) ∙ sym c.is_small.ensures ∙ c.if-not-is_small.true)

pub returns-in_err-inode : goal.returns-in_err-inode
returns-in_err-inode c =
    older_fails c.args.from.now c.in-Some.kind c.in_err-inode.field-0.0 c.from_residual.result (
      ap kind_of (sym c.u16_at.ensures) ∙ sym c.of_number.ensures ∙ c.in-Some.is,
      ap (is_small c.in-Some.kind) (sym c.u64_at.ensures) ∙ sym c.is_small.ensures ∙ c.if-not-is_small.false,
    )
    (sym c.get.ensures ∙ c.in_err-inode.was) c.from_residual.ensures.1

pub returns-then-not-are_zero : goal.returns-then-not-are_zero
returns-then-not-are_zero c =
    older_with_more c.args.from.now c.in-Some.kind c.in_ok-inode.inode c.are_zero.result (
      ap kind_of (sym c.u16_at.ensures) ∙ sym c.of_number.ensures ∙ c.in-Some.is,
      ap (is_small c.in-Some.kind) (sym c.u64_at.ensures) ∙ sym c.is_small.ensures ∙ c.if-not-is_small.false,
    )
    (sym c.get.ensures ∙ c.in_ok-inode.was) c.are_zero.ensures c.if-not-are_zero.true

pub returns : goal.returns
returns c =
    older_is_read c.args.from.now c.in-Some.kind c.in_ok-inode.inode c.are_zero.result (
      ap kind_of (sym c.u16_at.ensures) ∙ sym c.of_number.ensures ∙ c.in-Some.is,
      ap (is_small c.in-Some.kind) (sym c.u64_at.ensures) ∙ sym c.is_small.ensures ∙ c.if-not-is_small.false,
    )
    (sym c.get.ensures ∙ c.in_ok-inode.was) c.are_zero.ensures c.if-not-are_zero.false
