use Rattle.std.proofs.Common.{◌^◌, ◌<◌, ap, subst, arith, rules}
use Rattle.std.specs.Option.{option_copied}
use Rattle.fs_layout.specs.declared.inode.Inode.{Inode}
use Rattle.sector_txn.proofs.TransactionRuns.{store_joined}
use Rattle.inode_table.specs.Storing.{Stores}
use Rattle.inode_table.proofs.Bits.{with_mode_fits}
use Rattle.inode_table.proofs.StoredAcls.{default_acl_in_data}
use Rattle.inode_table.proofs.AclCalls.{IsDefaultSaved, default_is_saved}
use Rattle.bit_alloc.proofs.Passing.{other_fault_on}
use Rattle.inode_table.proofs.inodes.save_default_acl.Goals as goal

pub store-requires-clause-owned : goal.store-requires-clause-owned
store-requires-clause-owned g c = default_acl_in_data c.requires.sound c.requires.below (ap (λ (u : Inode). u.default_acl) c.requires.attributes)

pub write_inode-requires-clause-fits : goal.write_inode-requires-clause-fits
write_inode-requires-clause-fits g c =
    let v = c.args.inode.now in
    let small : c.in_ok-sector.sector < 2 ^ 32 = omega arith in
    with_mode_fits v v.acl c.in_ok-sector.sector c.requires.fits c.requires.used c.requires.fits.acl small

is_saved : (g : _) (c : goal.In_ok-write_inode g) → IsDefaultSaved c.args.geometry c.args.ino c.args.inode.now (option_copied c.args.acl) (g.S.Sectors.state c.args.s.now) (g.S.Sectors.state c.write_inode.new.s)
is_saved g c =
    let p = c.args.geometry in
    let v = c.args.inode.now in
    let y = c.in_ok-sector.sector in
    let t0 = g.S.Sectors.state c.args.s.now in
    let t1 = g.S.Sectors.state c.store.new.s in
    let t2 = g.S.Sectors.state c.write_inode.new.s in
    let small : y < 2 ^ 32 = omega arith in
    let way = subst (λ content. Stores p v.default_acl y content t0.sectors t1.sectors) c.content_of.ensures.content c.in_ok-sector.ensures.stored in
    let fits = with_mode_fits v v.acl y c.requires.fits c.requires.used c.requires.fits.acl small in
    default_is_saved p c.args.ino v (option_copied c.args.acl) y t0 t1 t2 c.requires.sound c.requires.below c.requires.attributes c.content_of.ensures.valid way fits c.in_ok-write_inode.ensures.saved
    (store_joined c.in_ok-sector.ensures.store c.in_ok-write_inode.ensures.store) c.in_ok-sector.ensures.puts c.in_ok-sector.ensures.none c.in_ok-write_inode.ensures.puts

pub returns : goal.returns
returns g c =
    let s = is_saved g c in
    let saved = s.saved in
    let store = saved.touches.puts.store in search rules

pub returns-in_err-write_inode-clause-store : goal.returns-in_err-write_inode-clause-store
returns-in_err-write_inode-clause-store g c = store_joined c.in_ok-sector.ensures.store c.in_err-write_inode.ensures.store

pub returns-in_err-write_inode-clause-cause : goal.returns-in_err-write_inode-clause-cause
returns-in_err-write_inode-clause-cause g c =
    other_fault_on c.in_ok-sector.ensures.store c.in_err-write_inode.ensures.cause c.from_residual-in_err-write_inode.result c.from_residual-in_err-write_inode.ensures.0
