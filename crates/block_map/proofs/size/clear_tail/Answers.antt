use Rattle.std.proofs.Common.{◌≡◌, ◌+◌, ◌-◌, ◌/◌, ◌%◌, ◌⊎◌, sym, ◌∙◌, arith, inl, inr}
use Rattle.std.proofs.lemmas.Bool.{cases_lt}
use Rattle.fs_layout.specs.Images.{pointer}
use Rattle.block_map.proofs.Numbers.{number_within}
use Rattle.block_map.proofs.Resizing.{tail_kept, at_a_block, hole_is_clear, some_zeros, tail_written}
use Rattle.block_map.proofs.Wrote.{block_whole, may_within, rewrite_puts}
use Rattle.block_map.proofs.size.clear_tail.Goals as goal

pub returns-then-at-eq0-clause-cleared : goal.returns-then-at-eq0-clause-cleared
returns-then-at-eq0-clause-cleared g c = tail_kept c.requires.may (λ bytes h i ge lt. absurd (at_a_block c.args.size i c.if-at-eq0.true ge lt))

pub returns-then-number-eq0-clause-cleared : goal.returns-then-number-eq0-clause-cleared
returns-then-number-eq0-clause-cleared g c =
    let old = g.S.Sectors.state c.args.s.now in
    let v = c.args.blocks.now.inode in
    let none : pointer old.sectors v (c.args.size / 512) ≡ 0 =
    sym (c.number-number.ensures old.sectors c.requires.loaded) ∙ c.if-number-eq0.true in
    tail_kept c.requires.may (λ bytes h i ge lt. hole_is_clear c.args.size h none i ge lt)

pub rewrite-requires-clause-part : goal.rewrite-requires-clause-part
rewrite-requires-clause-part g c =
    (number_within (g.S.Sectors.state c.args.s.now).header c.args.blocks.now.inode (c.args.size / 512) (may_within c.requires.may) (c.number-number.ensures _ c.requires.loaded) c.if-number-eq0.false).0

pub rewrite-requires-clause-on_disk : goal.rewrite-requires-clause-on_disk
rewrite-requires-clause-on_disk g c =
    (number_within (g.S.Sectors.state c.args.s.now).header c.args.blocks.now.inode (c.args.size / 512) (may_within c.requires.may) (c.number-number.ensures _ c.requires.loaded) c.if-number-eq0.false).1

pub rewrite-requires-clause-whole : goal.rewrite-requires-clause-whole
rewrite-requires-clause-whole g c =
    block_whole (c.args.size / 512) c.requires.may (c.number-number.ensures (g.S.Sectors.state c.args.s.now).sectors c.requires.loaded) c.if-number-eq0.false

pub returns-clause-cleared : goal.returns-clause-cleared
returns-clause-cleared g c =
    let old = g.S.Sectors.state c.args.s.now in
    let p = c.args.geometry in
    let v = c.args.blocks.now.inode in
    let k = c.args.size / 512 in
    let len = c.min-len.result in
    let is : c.number-number.result ≡ pointer old.sectors v k = c.number-number.ensures old.sectors c.requires.loaded in
    let way : (len ≡ 512 - c.args.size % 512) ⊎ (c.args.size + len ≡ v.size) = elim (cases_lt (v.size - c.args.size) (512 - c.args.size % 512)) [
      | inl lt ↦ inr (omega (arith, lt, c.min-len.ensures, c.requires.less))
      | inr ge ↦ inl (omega (arith, ge, c.min-len.ensures))
    ] in
    tail_written {len = len} c.requires.may (sym is) c.if-number-eq0.false c.in_ok-rewrite.ensures.written (some_zeros 512 len (omega (arith, c.min-len.ensures)))
    (rewrite_puts k c.requires.may is c.if-number-eq0.false c.in_ok-rewrite.ensures.puts)
    (omega (arith, c.min-len.ensures, c.requires.less)) (omega (arith, c.min-len.ensures)) way
