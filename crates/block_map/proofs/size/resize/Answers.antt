use Rattle.std.proofs.Common.{◌≡◌, ◌+◌, ◌/◌, ℕ, sym, ap, subst, ◌∙◌, arith}
use Rattle.fs_layout.specs.declared.inode.Inode.{Inode}
use Rattle.sector_txn.proofs.TransactionRuns.{store_same, store_joined}
use Rattle.bit_alloc.specs.Room.{HasSpare}
use Rattle.bit_alloc.proofs.Transactions.{spare_unchanged}
use Rattle.block_map.specs.Blocks.{IsWithin}
use Rattle.block_map.proofs.Numbers.{loaded_unchanged}
use Rattle.block_map.proofs.Wrote.{may_within}
use Rattle.block_map.specs.Drops.{DropsBlocks, cut_by}
use Rattle.block_map.specs.Steps.{MayChange, blocks_to}
use Rattle.block_map.proofs.Alterings.{may_after}
use Rattle.block_map.proofs.Givings.{may_unchanged}
use Rattle.block_map.proofs.Resizing.{grows, resizes, resizes_last}
use Rattle.block_map.proofs.Rooms.{spare_after_one, spare_one}
use Rattle.bit_alloc.proofs.Passing.{no_fault, fault_on}
use Rattle.block_map.proofs.size.resize.Goals as goal

pub load-requires-clause-within : goal.load-requires-clause-within
load-requires-clause-within g c =
    let old = g.S.Sectors.state c.args.s.now in
    subst (λ (v : Inode). IsWithin old.header old.disk.size old.sectors v) (sym c.new-blocks.ensures.inode) (may_within c.requires.may)

pub load-requires-clause-at_hand : goal.load-requires-clause-at_hand
load-requires-clause-at_hand g c = c.new-blocks.ensures.at_hand _

pub returns-then-inode-size-clause-resized : goal.returns-then-inode-size-clause-resized
returns-then-inode-size-clause-resized g c = grows c.args.size c.requires.may c.requires.kind c.requires.limit.0 c.if-inode-size.true

pub clear_tail-requires-clause-may : goal.clear_tail-requires-clause-may
clear_tail-requires-clause-may g c =
    subst (λ (u : Inode). MayChange c.args.geometry (g.S.Sectors.state c.load.new.s) u) (sym (c.in_ok-load.ensures.inode ∙ c.new-blocks.ensures.inode)) (may_unchanged c.requires.may c.in_ok-load.ensures.same)

pub returns-then-inode-end-clause-resized : goal.returns-then-inode-end-clause-resized
returns-then-inode-end-clause-resized g c =
    resizes_last c.requires.may c.requires.kind (omega (arith, c.if-inode-size.false)) c.requires.limit.1 c.in_ok-load.ensures.same (c.in_ok-load.ensures.inode ∙ c.new-blocks.ensures.inode)
    c.in_ok-clear_tail.ensures.cleared (omega (arith, c.if-inode-end.true, c.div_ceil-end.ensures))

pub drop_blocks-requires-clause-may : goal.drop_blocks-requires-clause-may
drop_blocks-requires-clause-may g c =
    may_after
    (subst (λ (u : Inode). MayChange c.args.geometry (g.S.Sectors.state c.load.new.s) u) (sym (c.in_ok-load.ensures.inode ∙ c.new-blocks.ensures.inode)) (may_unchanged c.requires.may c.in_ok-load.ensures.same))
    c.in_ok-clear_tail.ensures.cleared.alters

pub clear_tail-requires-clause-loaded : goal.clear_tail-requires-clause-loaded
clear_tail-requires-clause-loaded g c = loaded_unchanged c.in_ok-load.ensures.same c.in_ok-load.ensures.loaded

pub drop_blocks-requires-clause-room : goal.drop_blocks-requires-clause-room
drop_blocks-requires-clause-room g c =
    let spare = spare_unchanged c.args.geometry (1 + cut_by (blocks_to c.args.size)) _ _ c.requires.room c.in_ok-load.ensures.same in
    let e : blocks_to c.args.size ≡ c.div_ceil-end.result = omega (arith, c.div_ceil-end.ensures) in
    subst (λ (k : ℕ). HasSpare c.args.geometry (cut_by k) (g.S.Sectors.state c.clear_tail.new.s)) e
    (spare_after_one c.args.geometry (cut_by (blocks_to c.args.size)) spare c.in_ok-clear_tail.ensures.cleared.puts)

pub returns-clause-resized : goal.returns-clause-resized
returns-clause-resized g c =
    let e : c.div_ceil-end.result ≡ (c.args.size + 511) / 512 = omega (arith, c.div_ceil-end.ensures) in
    resizes c.requires.may c.requires.kind (omega (arith, c.if-inode-size.false)) c.requires.limit.1 c.in_ok-load.ensures.same (c.in_ok-load.ensures.inode ∙ c.new-blocks.ensures.inode)
    c.in_ok-clear_tail.ensures.cleared
    (subst (λ (f : ℕ). DropsBlocks c.args.geometry f (g.S.Sectors.state c.clear_tail.new.s) (g.S.Sectors.state c.drop_blocks.new.s) c.load.new.self.inode c.drop_blocks.new.inode) e
    c.in_ok-drop_blocks.ensures.dropped)

pub returns-clause-store : goal.returns-clause-store
returns-clause-store g c =
    store_joined (store_joined c.in_ok-load.ensures.same.store c.in_ok-clear_tail.ensures.store) c.in_ok-drop_blocks.ensures.store

pub returns-clause-cause : goal.returns-clause-cause
returns-clause-cause g c =
    no_fault (store_joined (store_joined c.in_ok-load.ensures.same.store c.in_ok-clear_tail.ensures.store) c.in_ok-drop_blocks.ensures.store)

pub clear_tail-requires-clause-less : goal.clear_tail-requires-clause-less
clear_tail-requires-clause-less g c =
    let e = ap (λ (u : Inode). u.size) (c.in_ok-load.ensures.inode ∙ c.new-blocks.ensures.inode) in
    omega (arith, e, c.if-inode-size.false)

pub clear_tail-requires-clause-limit : goal.clear_tail-requires-clause-limit
clear_tail-requires-clause-limit g c =
    let e = ap (λ (u : Inode). u.size) (c.in_ok-load.ensures.inode ∙ c.new-blocks.ensures.inode) in
    omega (arith, e, c.requires.limit.1)

pub clear_tail-requires-clause-room : goal.clear_tail-requires-clause-room
clear_tail-requires-clause-room g c = spare_unchanged c.args.geometry 1 _ _ (spare_one c.args.geometry (g.S.Sectors.state c.args.s.now) (cut_by (blocks_to c.args.size)) c.requires.room) c.in_ok-load.ensures.same

pub drop_blocks-requires-clause-few : goal.drop_blocks-requires-clause-few
drop_blocks-requires-clause-few g c = omega (arith, c.requires.limit.0, c.div_ceil-end.ensures)

pub returns-in_err-load-clause-store : goal.returns-in_err-load-clause-store
returns-in_err-load-clause-store g c = c.in_err-load.ensures.same.store

pub returns-in_err-load-clause-cause : goal.returns-in_err-load-clause-cause
returns-in_err-load-clause-cause g c =
    fault_on {old = g.S.Sectors.state c.args.s.now} store_same c.in_err-load.ensures.cause c.from_residual.result c.from_residual.ensures

pub returns-in_err-clear_tail-clause-store : goal.returns-in_err-clear_tail-clause-store
returns-in_err-clear_tail-clause-store g c = store_joined c.in_ok-load.ensures.same.store c.in_err-clear_tail.ensures.store

pub returns-in_err-clear_tail-clause-cause : goal.returns-in_err-clear_tail-clause-cause
returns-in_err-clear_tail-clause-cause g c =
    fault_on c.in_ok-load.ensures.same.store c.in_err-clear_tail.ensures.cause c.from_residual-in_err-clear_tail.result c.from_residual-in_err-clear_tail.ensures

pub returns-then-inode-end-clause-store : goal.returns-then-inode-end-clause-store
returns-then-inode-end-clause-store g c = store_joined c.in_ok-load.ensures.same.store c.in_ok-clear_tail.ensures.store

pub returns-then-inode-end-clause-cause : goal.returns-then-inode-end-clause-cause
returns-then-inode-end-clause-cause g c = no_fault (store_joined c.in_ok-load.ensures.same.store c.in_ok-clear_tail.ensures.store)

pub returns-in_err-drop_blocks-clause-store : goal.returns-in_err-drop_blocks-clause-store
returns-in_err-drop_blocks-clause-store g c =
    store_joined (store_joined c.in_ok-load.ensures.same.store c.in_ok-clear_tail.ensures.store) c.in_err-drop_blocks.ensures.store

pub returns-in_err-drop_blocks-clause-cause : goal.returns-in_err-drop_blocks-clause-cause
returns-in_err-drop_blocks-clause-cause g c =
    fault_on (store_joined c.in_ok-load.ensures.same.store c.in_ok-clear_tail.ensures.store) c.in_err-drop_blocks.ensures.cause
    c.from_residual-in_err-drop_blocks.result c.from_residual-in_err-drop_blocks.ensures
