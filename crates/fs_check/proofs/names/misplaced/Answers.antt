use Rattle.std.proofs.Common.{get_or, arith, sym, ap, ◌∙◌, subst, inl, inr}
use Rattle.std.proofs.lemmas.Bool.{cases_lt}
use Rattle.std.proofs.lemmas.List.{get_or_default}
use Rattle.fs_model.specs.Rules.{Inodes}
use Rattle.fs_check.specs.Ways.{the_parent}
use Rattle.fs_check.proofs.Namings.{IsPlaced, free_parent, parent_good, parent_must}
use Rattle.fs_check.proofs.Tests.{within, inode_here, free_behind, blank, refuses}
use Rattle.fs_check.proofs.names.misplaced.Goals as goal

pub returns-then-not-has_parent : goal.returns-then-not-has_parent
returns-then-not-has_parent c = λ m table named before.
    let p = c.args.geometry in
    let directories = c.args.names.now.directories.items in
    let n = c.loop-ino.ino in
    let lt = c.loop-ino-test.true in
    record {
      fails = λ all.
          let below = within p m c.args.inodes.now n table lt in
          let there = get_or_default directories n 0 c.index.result.now (let len = named.len in omega (arith, below, len)) ∙ sym c.index.ensures in
          let has = subst (IsPlaced directories n) (sym (inode_here p m c.args.inodes.now n blank table lt))
          (parent_must p m c.args.names.now.counts.items directories named before n below (all below)) in
          refuses _ c.has_parent.result c.if-not-has_parent.true c.has_parent.ensures (has ∙ ap (the_parent n (get_or c.args.inodes.now n blank).kind) there);
      least = λ k low below. parent_good p m c.args.names.now.counts.items directories named before k below
          (subst (IsPlaced directories k) (table.each k below) (c.loop-ino.invariant k low));
    }

pub returns : goal.returns
returns c = λ m table named before n lt.
    let p = c.args.geometry in
    let directories = c.args.names.now.directories.items in
    elim (cases_lt n c.loop-ino.ino) [
      | inl low ↦
          parent_good p m c.args.names.now.counts.items directories named before n lt (subst (IsPlaced directories n) (table.each n lt) (c.loop-ino.invariant n low))
      | inr ge ↦
          let past = c.loop-ino-test.false in
          free_parent p m n ((before Inodes (omega arith) n lt).top) (free_behind p m c.args.inodes.now n table (omega (arith, ge, past)) lt)
    ]
