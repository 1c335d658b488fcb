use Rattle.std.proofs.Common.{◌+◌, sym, arith}
use Rattle.fs_layout.proofs.Parts.{Holds-kept, HasNoHole-kept}
use Rattle.sector_txn.proofs.TransactionRuns.{store_joined, store_same}
use Rattle.block_map.proofs.Rooms.{spare_but_one, spare_last}
use Rattle.block_map.proofs.Saving.{IsEnded, saved_after}
use Rattle.block_map.proofs.Sizing.{may_change, size_limit}
use Rattle.block_map.specs.Drops.{cut_by}
use Rattle.block_map.specs.Sizes.{put_to}
use Rattle.block_map.specs.Steps.{blocks_to}
use Rattle.bit_alloc.proofs.Passing.{no_fault_of, other_fault_on}
use Rattle.block_map.proofs.Failing.{not_past}
use Rattle.block_map.proofs.size.set_size.Goals as goal

pub resize-requires-clause-may : goal.resize-requires-clause-may
resize-requires-clause-may g c = may_change c.args.size c.requires.sound c.requires.below c.requires.inode c.requires.kind

pub resize-requires-clause-limit : goal.resize-requires-clause-limit
resize-requires-clause-limit g c = (omega (arith, c.if-size-max_file_size.false, c.max_file_size.ensures.most), size_limit c.args.size c.requires.sound c.requires.below c.requires.inode c.requires.kind)

pub resize-requires-clause-room : goal.resize-requires-clause-room
resize-requires-clause-room g c = spare_but_one c.args.geometry (g.S.Sectors.state c.args.s.now) (1 + cut_by (blocks_to c.args.size)) c.requires.spare

pub write_inode-requires-clause-room : goal.write_inode-requires-clause-room
write_inode-requires-clause-room g c = λ none. spare_last c.args.geometry (1 + cut_by (blocks_to c.args.size)) c.requires.spare c.in_ok-resize.ensures.resized.puts

-- the steps and the save
ended : (g : _) (c : goal.In_ok-write_inode g) → IsEnded c.args.geometry c.args.ino 0 (put_to c.args.size) (g.S.Sectors.state c.args.s.now) (g.S.Sectors.state c.resize.new.s)
    (g.S.Sectors.state c.write_inode.new.s) c.args.inode.now c.resize.new.inode
ended g c =
    let r = c.in_ok-resize.ensures.resized in
    saved_after {taken = 0} c.requires.sound c.requires.below (sym c.requires.inode) r.alters r.puts (let f = r.free in omega (arith, f)) c.in_ok-write_inode.ensures.saved
    c.in_ok-write_inode.ensures.puts

pub returns-clause-change : goal.returns-clause-change
returns-clause-change g c = (ended g c).content

pub returns-clause-held : goal.returns-clause-held
returns-clause-held g c = λ held h. Holds-kept (ended g c).keeps (c.in_ok-resize.ensures.resized.held held h)

pub returns-clause-whole : goal.returns-clause-whole
returns-clause-whole g c = λ none less. HasNoHole-kept (ended g c).keeps (c.in_ok-resize.ensures.resized.whole none less)

pub returns-clause-store : goal.returns-clause-store
returns-clause-store g c = store_joined c.in_ok-resize.ensures.store c.in_ok-write_inode.ensures.store

pub returns-in_err-write_inode-clause-store : goal.returns-in_err-write_inode-clause-store
returns-in_err-write_inode-clause-store g c = store_joined c.in_ok-resize.ensures.store c.in_err-write_inode.ensures.store

pub returns-in_err-write_inode-clause-cause : goal.returns-in_err-write_inode-clause-cause
returns-in_err-write_inode-clause-cause g c =
    other_fault_on c.in_ok-resize.ensures.store c.in_err-write_inode.ensures.cause c.from_residual-in_err-write_inode.result c.from_residual-in_err-write_inode.ensures.0

pub returns-clause-cause : goal.returns-clause-cause
returns-clause-cause g c = no_fault_of (store_joined c.in_ok-resize.ensures.store c.in_ok-write_inode.ensures.store)

-- ---- where a call fails, and where none does
pub returns-in_err-resize-clause-untouched : goal.returns-in_err-resize-clause-untouched
returns-in_err-resize-clause-untouched g c = not_past c.max_file_size.ensures.value c.if-size-max_file_size.false

pub returns-in_err-write_inode-clause-untouched : goal.returns-in_err-write_inode-clause-untouched
returns-in_err-write_inode-clause-untouched g c = not_past c.max_file_size.ensures.value c.if-size-max_file_size.false

pub returns-in_err-resize-clause-store : goal.returns-in_err-resize-clause-store
returns-in_err-resize-clause-store g c = c.in_err-resize.ensures.store

pub returns-in_err-resize-clause-cause : goal.returns-in_err-resize-clause-cause
returns-in_err-resize-clause-cause g c = other_fault_on (store_same {txn = g.S.Sectors.state c.args.s.now}) c.in_err-resize.ensures.cause c.from_residual.result c.from_residual.ensures.0

pub returns-clause-untouched : goal.returns-clause-untouched
returns-clause-untouched g c = not_past c.max_file_size.ensures.value c.if-size-max_file_size.false
