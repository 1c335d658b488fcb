use Rattle.std.proofs.Common.{◌≡◌, ◌≢◌, ◌+◌, ◌%◌, ap, rules, refl}
use Rattle.fs_layout.specs.declared.inode.Kind.TheVariants.{Link}
use Rattle.fs_check.specs.LastBlocks.{last_bytes}
use Rattle.fs_check.proofs.Trims.{fits_no_link, fits_link}
use Rattle.fs_check.proofs.contents.fits_last.Goals as goal

pub returns-then-ne : goal.returns-then-ne
returns-then-ne c =
    let other : c.args.inode.now.kind ≢ Link = search rules in
    let at : c.saturating_sub.result % 512 + 1 ≡ last_bytes c.args.inode.now = ap (λ k. k % 512 + 1) c.saturating_sub.ensures in
    fits_no_link c.args.inode.now c.args.content.now _ at c.told-content (c.if-not-ends_in_zeros.ensures.0 refl) c.ne.result other c.if-ne.true

pub returns-else-ne : goal.returns-else-ne
returns-else-ne c =
    let link : c.args.inode.now.kind ≡ Link = search rules in
    let at : c.saturating_sub.result % 512 + 1 ≡ last_bytes c.args.inode.now = ap (λ k. k % 512 + 1) c.saturating_sub.ensures in
    fits_link c.args.inode.now c.args.content.now _ at c.told-content (c.if-not-ends_in_zeros.ensures.0 refl) c.has_no_zero.result link c.has_no_zero.ensures
