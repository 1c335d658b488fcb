use Rattle.std.proofs.Common.{ℕ, get_or, arith, ◌∙◌, subst}
use Rattle.std.proofs.lemmas.List.{get_or_default}
use Rattle.fs_layout.specs.declared.inode.Inode.{Inode}
use Rattle.fs_layout.specs.Inode.{free_inode}
use Rattle.fs_model.specs.Rules.{HasNameCount}
use Rattle.fs_check.proofs.Tables.{more_good}
use Rattle.fs_check.proofs.Tests.{blank}
use Rattle.fs_check.proofs.names.miscounted.Goals as goal

pub loop-ino-init : goal.loop-ino-init
loop-ino-init c = λ k lt. absurd (omega (arith, lt))

pub loop-ino-preserved : goal.loop-ino-preserved
loop-ino-preserved c =
    let inodes = c.args.inodes.now in
    let counts = c.args.names.now.counts.items in
    let version = c.args.geometry.version in
    let n = c.loop-ino.ino in
    let lt = c.loop-ino-test.true in
    let few = c.requires.few in
    let len = c.requires.counts_len in
    let count = c.index-count.ensures
    ∙ get_or_default counts n c.index-count.result.now 0 (omega (arith, lt, few, len)) in
    let at = λ (k : ℕ). get_or inodes k free_inode in
    more_good (λ k. HasNameCount version (at k).kind k (at k).names (get_or counts k 0)) n
    c.loop-ino.invariant
    (subst (HasNameCount version (at n).kind n (at n).names) count
    (subst (λ (v : Inode). HasNameCount version v.kind n v.names c.index-count.result.now)
    (get_or_default inodes n blank free_inode lt)
    (c.has_name_count.ensures.0 c.if-not-has_name_count.false)))
