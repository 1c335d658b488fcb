use Rattle.std.proofs.Common.{◌≡◌, ◌≢◌, ◌+◌, ◌*◌, ◌/◌, ◌%◌, ℕ, sym, subst, ◌∙◌, arith, rules, ap}
use Rattle.fs_layout.specs.Header.{log_end}
use Rattle.fs_layout.specs.Bytes.{IsSector, splice}
use Rattle.fs_layout.specs.declared.inode.Inode.{Inode}
use Rattle.block_map.specs.Blocks.{IsWithin}
use Rattle.fs_layout.specs.Images.{pointer, Holds}
use Rattle.block_map.specs.Steps.{MayChange}
use Rattle.block_map.proofs.Numbers.{number_within}
use Rattle.block_map.proofs.Overwriting.{used_may_change, loaded_number, over_changes, over_holds, over_whole}
use Rattle.block_map.proofs.Wrote.{block_whole, may_within}
use Rattle.bit_alloc.proofs.Passing.{fault_on, no_fault}
use Rattle.sector_txn.proofs.TransactionRuns.{store_joined}
use Rattle.block_map.proofs.write.overwrite.Goals as goal

pub load-requires-clause-within : goal.load-requires-clause-within
load-requires-clause-within g c =
    let old = g.S.Sectors.state c.args.s.now in
    subst (λ (v : Inode). IsWithin old.header old.disk.size old.sectors v) (sym c.new-blocks.ensures.inode) (may_within (used_may_change c.requires.sound c.requires.below c.requires.inode c.requires.used))

pub load-requires-clause-at_hand : goal.load-requires-clause-at_hand
load-requires-clause-at_hand g c = c.new-blocks.ensures.at_hand _

pub rewrite-requires-clause-part : goal.rewrite-requires-clause-part
rewrite-requires-clause-part g c =
    let may = used_may_change c.requires.sound c.requires.below c.requires.inode c.requires.used in
    let is = loaded_number (g.S.Sectors.state c.args.s.now).sectors (c.args.offset / 512) (c.number.ensures (g.S.Sectors.state c.args.s.now).sectors c.in_ok-load.ensures.loaded) (c.in_ok-load.ensures.inode ∙ c.new-blocks.ensures.inode) in
    let w = number_within (g.S.Sectors.state c.args.s.now).header c.args.inode.now (c.args.offset / 512) (may_within may) is (λ e. c.requires.no_hole (sym is ∙ e)) in
    omega (arith, w.0, ap log_end c.in_ok-load.ensures.same.store.header)

pub rewrite-requires-clause-on_disk : goal.rewrite-requires-clause-on_disk
rewrite-requires-clause-on_disk g c =
    let may = used_may_change c.requires.sound c.requires.below c.requires.inode c.requires.used in
    let is = loaded_number (g.S.Sectors.state c.args.s.now).sectors (c.args.offset / 512) (c.number.ensures (g.S.Sectors.state c.args.s.now).sectors c.in_ok-load.ensures.loaded) (c.in_ok-load.ensures.inode ∙ c.new-blocks.ensures.inode) in
    let w = number_within (g.S.Sectors.state c.args.s.now).header c.args.inode.now (c.args.offset / 512) (may_within may) is (λ e. c.requires.no_hole (sym is ∙ e)) in
    omega (arith, w.1, c.in_ok-load.ensures.same.store.reads.narrowed.size)

pub rewrite-requires-clause-whole : goal.rewrite-requires-clause-whole
rewrite-requires-clause-whole g c =
    let may : MayChange c.args.geometry (g.S.Sectors.state c.args.s.now) c.args.inode.now = used_may_change c.requires.sound c.requires.below c.requires.inode c.requires.used in
    let is = loaded_number (g.S.Sectors.state c.args.s.now).sectors (c.args.offset / 512) (c.number.ensures (g.S.Sectors.state c.args.s.now).sectors c.in_ok-load.ensures.loaded) (c.in_ok-load.ensures.inode ∙ c.new-blocks.ensures.inode) in
    subst IsSector (sym (c.in_ok-load.ensures.same.sectors c.number.result)) (block_whole (c.args.offset / 512) may is (λ e. c.requires.no_hole (sym is ∙ e)))

-- the block's number, which is some
number_is : (g : _) (c : goal.In_ok-rewrite g) → c.number.result ≡ pointer (g.S.Sectors.state c.args.s.now).sectors c.args.inode.now (c.args.offset / 512)
number_is g c =
    loaded_number (g.S.Sectors.state c.args.s.now).sectors (c.args.offset / 512) (c.number.ensures (g.S.Sectors.state c.args.s.now).sectors c.in_ok-load.ensures.loaded)
    (c.in_ok-load.ensures.inode ∙ c.new-blocks.ensures.inode)

some_number : (g : _) (c : goal.In_ok-rewrite g) → c.number.result ≢ 0
some_number g c e = c.requires.no_hole (sym (number_is g c) ∙ e)

pub returns-clause-change : goal.returns-clause-change
returns-clause-change g c =
    over_changes (c.args.offset / 512) (c.args.offset % 512) c.args.bytes.now c.requires.sound c.requires.below c.requires.inode c.requires.used c.in_ok-load.ensures.same
    (sym (number_is g c)) (some_number g c) c.requires.one_block (λ i. let f = c.type_inv.bytes i in search rules) (omega (arith, c.requires.inside))
    c.in_ok-rewrite.ensures.written c.in_ok-rewrite.ensures.puts

pub returns-clause-held : goal.returns-clause-held
returns-clause-held g c = λ held h.
    let at : 512 * (c.args.offset / 512) + c.args.offset % 512 ≡ c.args.offset = omega arith in
    subst (λ (k : ℕ). Holds (g.S.Sectors.state c.rewrite.new.s).sectors c.args.inode.now (splice held k c.args.bytes.now)) at
    (over_holds (c.args.offset / 512) (c.args.offset % 512) c.args.bytes.now c.requires.sound c.requires.below c.requires.inode c.requires.used c.in_ok-load.ensures.same
    (sym (number_is g c)) (some_number g c) c.requires.one_block (λ i. let f = c.type_inv.bytes i in search rules) (omega (arith, at, c.requires.inside))
    c.in_ok-rewrite.ensures.written c.in_ok-rewrite.ensures.puts held h)

pub returns-clause-whole : goal.returns-clause-whole
returns-clause-whole g c =
    over_whole (c.args.offset / 512) (c.args.offset % 512) c.args.bytes.now c.requires.sound c.requires.below c.requires.inode c.requires.used c.in_ok-load.ensures.same
    (sym (number_is g c)) (some_number g c) c.requires.one_block (λ i. let f = c.type_inv.bytes i in search rules) (omega (arith, c.requires.inside))
    c.in_ok-rewrite.ensures.written c.in_ok-rewrite.ensures.puts

pub returns-in_err-rewrite-clause-store : goal.returns-in_err-rewrite-clause-store
returns-in_err-rewrite-clause-store g c = store_joined c.in_ok-load.ensures.same.store c.in_err-rewrite.ensures.store

pub returns-in_err-rewrite-clause-cause : goal.returns-in_err-rewrite-clause-cause
returns-in_err-rewrite-clause-cause g c = fault_on c.in_ok-load.ensures.same.store c.in_err-rewrite.ensures.cause c.from_residual-in_err-rewrite.result c.from_residual-in_err-rewrite.ensures

pub returns-clause-store : goal.returns-clause-store
returns-clause-store g c = store_joined c.in_ok-load.ensures.same.store c.in_ok-rewrite.ensures.store

pub returns-clause-cause : goal.returns-clause-cause
returns-clause-cause g c = no_fault (store_joined c.in_ok-load.ensures.same.store c.in_ok-rewrite.ensures.store)
