use Rattle.std.proofs.Common.{ap, arith, rules}
use Rattle.fs_layout.proofs.Free.{free_fits}
use Rattle.bit_alloc.proofs.Transactions.{bitmaps_unchanged}
use Rattle.bit_alloc.proofs.Soundness.{spare_then}
use Rattle.inode_table.proofs.Sound.{room_left}
use Rattle.inode_table.proofs.StoredAcls.{acl_in_data, default_acl_in_data}
use Rattle.inode_table.proofs.Freeing.{puts_2, puts_3, puts_4, puts_5, IsFreed, freed}
use Rattle.bit_alloc.proofs.Passing.{fault_on}
use Rattle.sector_txn.proofs.TransactionRuns.{store_joined}
use Rattle.inode_table.proofs.inodes.free_inode.Goals as goal

pub give-requires-clause-bitmaps : goal.give-requires-clause-bitmaps
give-requires-clause-bitmaps g c =
    bitmaps_unchanged c.args.geometry (g.S.Sectors.state c.args.s.now) (g.S.Sectors.state c.load.new.s) c.requires.sound.bitmaps c.in_ok-inode.ensures.same

pub give_sector-requires-clause-owned : goal.give_sector-requires-clause-owned
give_sector-requires-clause-owned g c = acl_in_data c.requires.sound c.requires.number.1 (ap (λ v. v.acl) c.in_ok-inode.ensures.found)

pub give_sector-requires-clause-room : goal.give_sector-requires-clause-room
give_sector-requires-clause-room g c =
    let puts = puts_2 c.requires.sound c.requires.number c.in_ok-inode.ensures.same c.in_ok-give.ensures.puts in
    spare_then c.args.geometry 0 0 (g.S.Sectors.state c.args.s.now) (g.S.Sectors.state c.give.new.s) (omega (arith, c.requires.spare)) puts

pub give_sector-requires-2-clause-owned : goal.give_sector-requires-2-clause-owned
give_sector-requires-2-clause-owned g c =
    default_acl_in_data c.requires.sound c.requires.number.1 (ap (λ v. v.default_acl) c.in_ok-inode.ensures.found)

pub give_sector-requires-2-clause-room : goal.give_sector-requires-2-clause-room
give_sector-requires-2-clause-room g c =
    let puts = puts_3 c.requires.sound c.requires.number c.in_ok-inode.ensures.same c.in_ok-give.ensures.puts c.in_ok-give_sector.ensures.puts in
    spare_then c.args.geometry 0 0 (g.S.Sectors.state c.args.s.now) (g.S.Sectors.state c.give_sector.new.s) (omega (arith, c.requires.spare)) puts

pub write_inode-requires-clause-fits : goal.write_inode-requires-clause-fits
write_inode-requires-clause-fits g c = free_fits

pub write_inode-requires-clause-room : goal.write_inode-requires-clause-room
write_inode-requires-clause-room g c = λ none.
    let t4 = g.S.Sectors.state c.give_sector-2.new.s in
    let puts = puts_4 c.requires.sound c.requires.number c.in_ok-inode.ensures.same c.in_ok-give.ensures.puts c.in_ok-give_sector.ensures.puts c.in_ok-give_sector-2.ensures.puts in
    room_left c.args.geometry 1 t4 (spare_then c.args.geometry 0 1 (g.S.Sectors.state c.args.s.now) t4 (omega (arith, c.requires.spare)) puts) (omega arith)

-- all that has come of it
is_freed : (g : _) (c : goal.In_ok-write_inode g) → IsFreed c.args.geometry c.args.ino (g.S.Sectors.state c.args.s.now) (g.S.Sectors.state c.write_inode.new.s)
is_freed g c =
    let p = c.args.geometry in
    let n = c.args.ino in
    let t0 = g.S.Sectors.state c.args.s.now in
    let t1 = g.S.Sectors.state c.load.new.s in
    let t2 = g.S.Sectors.state c.give.new.s in
    let t3 = g.S.Sectors.state c.give_sector.new.s in
    let t4 = g.S.Sectors.state c.give_sector-2.new.s in
    let t5 = g.S.Sectors.state c.write_inode.new.s in
    let puts = puts_5 c.requires.sound c.requires.number c.in_ok-inode.ensures.same c.in_ok-give.ensures.puts c.in_ok-give_sector.ensures.puts c.in_ok-give_sector-2.ensures.puts
    c.in_ok-write_inode.ensures.puts in
    freed p n c.in_ok-inode.inode t0 t1 t2 t3 t4 t5 c.requires.sound c.requires.number c.requires.empty c.in_ok-inode.ensures.found c.in_ok-inode.ensures.same
    c.in_ok-give.ensures.given c.in_ok-give_sector.ensures.given c.in_ok-give_sector-2.ensures.given c.in_ok-write_inode.ensures.saved puts

pub returns : goal.returns
returns g c =
    let f = is_freed g c in
    let store = f.puts.store in search rules

pub returns-in_err-give-clause-store : goal.returns-in_err-give-clause-store
returns-in_err-give-clause-store g c = store_joined c.in_ok-inode.ensures.same.store c.in_err-give.ensures.unchanged.store

pub returns-in_err-give-clause-cause : goal.returns-in_err-give-clause-cause
returns-in_err-give-clause-cause g c =
    fault_on c.in_ok-inode.ensures.same.store c.in_err-give.ensures.cause
    c.from_residual-in_err-give.result c.from_residual-in_err-give.ensures

pub returns-in_err-give_sector-clause-store : goal.returns-in_err-give_sector-clause-store
returns-in_err-give_sector-clause-store g c = store_joined (puts_2 c.requires.sound c.requires.number c.in_ok-inode.ensures.same c.in_ok-give.ensures.puts).store c.in_err-give_sector.ensures.store

pub returns-in_err-give_sector-clause-cause : goal.returns-in_err-give_sector-clause-cause
returns-in_err-give_sector-clause-cause g c =
    fault_on (puts_2 c.requires.sound c.requires.number c.in_ok-inode.ensures.same c.in_ok-give.ensures.puts).store c.in_err-give_sector.ensures.cause
    c.from_residual-in_err-give_sector.result c.from_residual-in_err-give_sector.ensures

pub returns-in_err-give_sector-2-clause-store : goal.returns-in_err-give_sector-2-clause-store
returns-in_err-give_sector-2-clause-store g c = store_joined (puts_3 c.requires.sound c.requires.number c.in_ok-inode.ensures.same c.in_ok-give.ensures.puts c.in_ok-give_sector.ensures.puts).store c.in_err-give_sector-2.ensures.store

pub returns-in_err-give_sector-2-clause-cause : goal.returns-in_err-give_sector-2-clause-cause
returns-in_err-give_sector-2-clause-cause g c =
    fault_on (puts_3 c.requires.sound c.requires.number c.in_ok-inode.ensures.same c.in_ok-give.ensures.puts c.in_ok-give_sector.ensures.puts).store c.in_err-give_sector-2.ensures.cause
    c.from_residual-in_err-give_sector-2.result c.from_residual-in_err-give_sector-2.ensures

pub returns-in_err-write_inode-clause-store : goal.returns-in_err-write_inode-clause-store
returns-in_err-write_inode-clause-store g c = store_joined (puts_4 c.requires.sound c.requires.number c.in_ok-inode.ensures.same c.in_ok-give.ensures.puts c.in_ok-give_sector.ensures.puts c.in_ok-give_sector-2.ensures.puts).store c.in_err-write_inode.ensures.store

pub returns-in_err-write_inode-clause-cause : goal.returns-in_err-write_inode-clause-cause
returns-in_err-write_inode-clause-cause g c =
    fault_on (puts_4 c.requires.sound c.requires.number c.in_ok-inode.ensures.same c.in_ok-give.ensures.puts c.in_ok-give_sector.ensures.puts c.in_ok-give_sector-2.ensures.puts).store c.in_err-write_inode.ensures.cause
    c.from_residual-in_err-write_inode.result c.from_residual-in_err-write_inode.ensures
