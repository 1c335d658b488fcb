use Rattle.std.proofs.Common.{◌≡◌, ◌<◌, ◌+◌, ◌-◌, ℕ, length, get_or, take, drop, subst, arith}
use Rattle.fs_layout.specs.declared.inode.TheConstants.{INODE_SIZE}
use Rattle.fs_check.proofs.FreeInodes.{blank_is_free}
use Rattle.fs_check.proofs.inodes.is_blank.Goals as goal

pub returns-then-content-at-eq0 : goal.returns-then-content-at-eq0
returns-then-content-at-eq0 c = λ zero.
    let content = c.args.content.now in
    let at = c.args.at in
    let size : at + 128 - at ≡ INODE_SIZE = omega arith in
    blank_is_free content at c.told-content c.requires
    (subst (λ (k : ℕ). (i : ℕ) → i < length (take k (drop at content)) → get_or (take k (drop at content)) i 0 ≡ 0) size (c.are_zero.ensures.0 zero))
