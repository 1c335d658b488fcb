use Rattle.std.proofs.Common.{◌≡◌, ◌≢◌, ◌+◌, ◌%◌, ap, arith, rules}
use Rattle.fs_layout.specs.declared.inode.Kind.TheVariants.{Link}
use Rattle.fs_check.specs.LastBlocks.{last_bytes}
use Rattle.fs_check.proofs.contents.is_known_to_fit.Goals as goal

pub returns-then-end-eq512 : goal.returns-then-end-eq512
returns-then-end-eq512 g c = λ t.
    let at : c.saturating_sub.result % 512 + 1 ≡ last_bytes c.args.inode.now = ap (λ k. k % 512 + 1) c.saturating_sub.ensures in
    let whole = c.if-end-eq512.true in
    let other : c.args.inode.now.kind ≢ Link = search rules in
    record { rest = λ i from to. absurd (omega (arith, from, to, at, whole)); target = λ link. absurd (other link) }

pub returns : goal.returns
returns g c = λ t.
    let at : c.saturating_sub.result % 512 + 1 ≡ last_bytes c.args.inode.now = ap (λ k. k % 512 + 1) c.saturating_sub.ensures in
    let other : c.args.inode.now.kind ≢ Link = search rules in
    record { rest = λ i from to. c.is_zero_past.ensures t i (omega (arith, from, at)) to; target = λ link. absurd (other link) }
