use Rattle.std.proofs.Common.{ap, arith}
use Rattle.fs_layout.specs.declared.inode.Inode.{Inode}
use Rattle.fs_layout.proofs.Free.{free_fits}
use Rattle.bit_alloc.proofs.Transactions.{bitmaps_unchanged}
use Rattle.bit_alloc.proofs.Soundness.{sound_then, spare_then}
use Rattle.inode_table.proofs.Sound.{room_left}
use Rattle.inode_table.proofs.StoredAcls.{acl_in_data, default_acl_in_data}
use Rattle.sector_txn.proofs.TransactionRuns.{store_joined, store_same}
use Rattle.block_map.proofs.Freeings.{cleared_puts, given_puts, access_puts, default_puts, may_change_then, IsFreed, all_freed}
use Rattle.bit_alloc.proofs.Passing.{fault_on, no_fault}
use Rattle.block_map.proofs.release.free_all.Goals as goal

pub give-requires-clause-bitmaps : goal.give-requires-clause-bitmaps
give-requires-clause-bitmaps g c =
    bitmaps_unchanged c.args.geometry (g.S.Sectors.state c.args.s.now) (g.S.Sectors.state c.load.new.s) c.requires.sound.bitmaps c.in_ok-inode.ensures.same

pub give_from-requires-clause-may : goal.give_from-requires-clause-may
give_from-requires-clause-may g c =
    may_change_then c.requires.sound c.requires.number c.in_ok-inode.ensures.found c.in_ok-inode.ensures.same c.in_ok-give.ensures.given c.in_ok-give.ensures.puts c.requires.used c.in_ok-give.ensures.bitmaps

pub give_from-requires-clause-room : goal.give_from-requires-clause-room
give_from-requires-clause-room g c =
    spare_then c.args.geometry 0 0 (g.S.Sectors.state c.args.s.now) (g.S.Sectors.state c.give.new.s) (omega (arith, c.requires.spare))
    (cleared_puts c.requires.sound c.requires.number c.in_ok-inode.ensures.found c.in_ok-inode.ensures.same c.in_ok-give.ensures.given c.in_ok-give.ensures.puts)

pub give_sector-requires-clause-owned : goal.give_sector-requires-clause-owned
give_sector-requires-clause-owned g c = acl_in_data c.requires.sound c.requires.number.1 (ap (λ (v : Inode). v.acl) c.in_ok-inode.ensures.found)

pub give_sector-requires-clause-room : goal.give_sector-requires-clause-room
give_sector-requires-clause-room g c =
    spare_then c.args.geometry 0 0 (g.S.Sectors.state c.args.s.now) (g.S.Sectors.state c.give_from.new.s) (omega (arith, c.requires.spare))
    (given_puts c.requires.sound c.requires.number c.in_ok-inode.ensures.found c.in_ok-inode.ensures.same c.in_ok-give.ensures.given c.in_ok-give.ensures.puts c.in_ok-give_from.ensures.given)

pub give_sector-requires-2-clause-owned : goal.give_sector-requires-2-clause-owned
give_sector-requires-2-clause-owned g c =
    default_acl_in_data c.requires.sound c.requires.number.1 (ap (λ (v : Inode). v.default_acl) c.in_ok-inode.ensures.found)

pub give_sector-requires-2-clause-room : goal.give_sector-requires-2-clause-room
give_sector-requires-2-clause-room g c =
    spare_then c.args.geometry 0 0 (g.S.Sectors.state c.args.s.now) (g.S.Sectors.state c.give_sector.new.s) (omega (arith, c.requires.spare))
    (access_puts c.requires.sound c.requires.number c.in_ok-inode.ensures.found c.in_ok-inode.ensures.same c.in_ok-give.ensures.given c.in_ok-give.ensures.puts
    c.in_ok-give_from.ensures.given c.in_ok-give_sector.ensures.puts)

pub returns-in_err-give-clause-store : goal.returns-in_err-give-clause-store
returns-in_err-give-clause-store g c = store_joined c.in_ok-inode.ensures.same.store c.in_err-give.ensures.unchanged.store

pub returns-in_err-give-clause-cause : goal.returns-in_err-give-clause-cause
returns-in_err-give-clause-cause g c = fault_on c.in_ok-inode.ensures.same.store c.in_err-give.ensures.cause c.from_residual-in_err-give.result c.from_residual-in_err-give.ensures

pub returns-in_err-give_from-clause-store : goal.returns-in_err-give_from-clause-store
returns-in_err-give_from-clause-store g c = store_joined (store_joined c.in_ok-inode.ensures.same.store c.in_ok-give.ensures.puts.store) c.in_err-give_from.ensures.store

pub returns-in_err-give_from-clause-cause : goal.returns-in_err-give_from-clause-cause
returns-in_err-give_from-clause-cause g c = fault_on (store_joined c.in_ok-inode.ensures.same.store c.in_ok-give.ensures.puts.store) c.in_err-give_from.ensures.cause c.from_residual-in_err-give_from.result c.from_residual-in_err-give_from.ensures

pub returns-in_err-give_sector-clause-store : goal.returns-in_err-give_sector-clause-store
returns-in_err-give_sector-clause-store g c = store_joined (given_puts c.requires.sound c.requires.number c.in_ok-inode.ensures.found c.in_ok-inode.ensures.same c.in_ok-give.ensures.given c.in_ok-give.ensures.puts c.in_ok-give_from.ensures.given).store c.in_err-give_sector.ensures.store

pub returns-in_err-give_sector-clause-cause : goal.returns-in_err-give_sector-clause-cause
returns-in_err-give_sector-clause-cause g c = fault_on (given_puts c.requires.sound c.requires.number c.in_ok-inode.ensures.found c.in_ok-inode.ensures.same c.in_ok-give.ensures.given c.in_ok-give.ensures.puts c.in_ok-give_from.ensures.given).store c.in_err-give_sector.ensures.cause c.from_residual-in_err-give_sector.result c.from_residual-in_err-give_sector.ensures

pub returns-in_err-give_sector-2-clause-store : goal.returns-in_err-give_sector-2-clause-store
returns-in_err-give_sector-2-clause-store g c = store_joined (access_puts c.requires.sound c.requires.number c.in_ok-inode.ensures.found c.in_ok-inode.ensures.same c.in_ok-give.ensures.given c.in_ok-give.ensures.puts c.in_ok-give_from.ensures.given c.in_ok-give_sector.ensures.puts).store c.in_err-give_sector-2.ensures.store

pub returns-in_err-give_sector-2-clause-cause : goal.returns-in_err-give_sector-2-clause-cause
returns-in_err-give_sector-2-clause-cause g c = fault_on (access_puts c.requires.sound c.requires.number c.in_ok-inode.ensures.found c.in_ok-inode.ensures.same c.in_ok-give.ensures.given c.in_ok-give.ensures.puts c.in_ok-give_from.ensures.given c.in_ok-give_sector.ensures.puts).store c.in_err-give_sector-2.ensures.cause c.from_residual-in_err-give_sector-2.result c.from_residual-in_err-give_sector-2.ensures

pub returns-in_err-write_inode-clause-store : goal.returns-in_err-write_inode-clause-store
returns-in_err-write_inode-clause-store g c = store_joined (default_puts c.requires.sound c.requires.number c.in_ok-inode.ensures.found c.in_ok-inode.ensures.same c.in_ok-give.ensures.given c.in_ok-give.ensures.puts c.in_ok-give_from.ensures.given c.in_ok-give_sector.ensures.puts c.in_ok-give_sector-2.ensures.puts).store c.in_err-write_inode.ensures.store

pub returns-in_err-write_inode-clause-cause : goal.returns-in_err-write_inode-clause-cause
returns-in_err-write_inode-clause-cause g c = fault_on (default_puts c.requires.sound c.requires.number c.in_ok-inode.ensures.found c.in_ok-inode.ensures.same c.in_ok-give.ensures.given c.in_ok-give.ensures.puts c.in_ok-give_from.ensures.given c.in_ok-give_sector.ensures.puts c.in_ok-give_sector-2.ensures.puts).store c.in_err-write_inode.ensures.cause c.from_residual-in_err-write_inode.result c.from_residual-in_err-write_inode.ensures

pub write_inode-requires-clause-fits : goal.write_inode-requires-clause-fits
write_inode-requires-clause-fits g c = free_fits

pub write_inode-requires-clause-room : goal.write_inode-requires-clause-room
write_inode-requires-clause-room g c = λ none.
    let t5 = g.S.Sectors.state c.give_sector-2.new.s in
    let puts = default_puts c.requires.sound c.requires.number c.in_ok-inode.ensures.found c.in_ok-inode.ensures.same c.in_ok-give.ensures.given c.in_ok-give.ensures.puts
    c.in_ok-give_from.ensures.given c.in_ok-give_sector.ensures.puts c.in_ok-give_sector-2.ensures.puts in
    room_left c.args.geometry 1 t5 (spare_then c.args.geometry 0 1 (g.S.Sectors.state c.args.s.now) t5 (omega (arith, c.requires.spare)) puts) (omega arith)

-- all that has come of it
is_freed : (g : _) (c : goal.In_ok-write_inode g) → IsFreed c.args.geometry c.args.ino (g.S.Sectors.state c.args.s.now) (g.S.Sectors.state c.write_inode.new.s)
is_freed g c =
    let may = may_change_then c.requires.sound c.requires.number c.in_ok-inode.ensures.found c.in_ok-inode.ensures.same c.in_ok-give.ensures.given c.in_ok-give.ensures.puts c.requires.used c.in_ok-give.ensures.bitmaps in
    all_freed c.requires.sound c.requires.number c.in_ok-inode.ensures.found c.in_ok-inode.ensures.same c.in_ok-give.ensures.given c.in_ok-give.ensures.puts c.in_ok-give_from.ensures.given
    c.in_ok-give_sector.ensures.puts c.in_ok-give_sector-2.ensures.puts _ may c.in_ok-give_sector.ensures.given c.in_ok-give_sector-2.ensures.given
    c.in_ok-write_inode.ensures.saved c.in_ok-write_inode.ensures.puts

pub returns : goal.returns
returns g c =
    let f = is_freed g c in
    record {
      store = f.touches.puts.store;
      sound = sound_then c.args.geometry c.args.ino 0 1 (g.S.Sectors.state c.args.s.now) (g.S.Sectors.state c.write_inode.new.s) c.requires.sound c.requires.number f.touches;
      touches = f.touches;
      free = f.free;
      unused = f.unused;
      cause = no_fault f.touches.puts.store;
    }

-- ---- where a call fails, and where none does
pub returns-in_err-inode-clause-store : goal.returns-in_err-inode-clause-store
returns-in_err-inode-clause-store g c = c.in_err-inode.ensures.same.store

pub returns-in_err-inode-clause-cause : goal.returns-in_err-inode-clause-cause
returns-in_err-inode-clause-cause g c = fault_on (store_same {txn = g.S.Sectors.state c.args.s.now}) c.in_err-inode.ensures.cause c.from_residual.result c.from_residual.ensures
