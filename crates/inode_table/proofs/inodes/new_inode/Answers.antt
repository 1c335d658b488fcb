use Rattle.std.proofs.Common.{◌^◌, ◌<◌, ℕ, sym, subst, arith, rules, inr}
use Rattle.std.specs.Option.{option_copied}
use Rattle.fs_layout.specs.Inode.{FitsInode}
use Rattle.fs_layout.specs.InodeChanges.{Saves}
use Rattle.fs_layout.proofs.OneAcl.{mode_small}
use Rattle.bit_alloc.proofs.Passing.{through_try, cause_on, other_fault_on}
use Rattle.bit_alloc.proofs.Soundness.{spare_then}
use Rattle.sector_txn.proofs.TransactionRuns.{store_joined}
use Rattle.inode_table.specs.Storing.{Stores}
use Rattle.inode_table.proofs.Bits.{with_bits_fits, empty_no_link}
use Rattle.inode_table.proofs.Made.{made_puts_1, made_puts_4, left_free, IsMade, made, too_few_for_access, too_few_for_default}
use Rattle.inode_table.proofs.inodes.new_inode.Goals as goal

pub store-requires-clause-room : goal.store-requires-clause-room
store-requires-clause-room g c =
    let p = c.args.geometry in
    let t0 = g.S.Sectors.state c.args.s.now in
    let t1 = g.S.Sectors.state c.take.new.s in
    let n = c.in_ok-ino.ino in
    let lt = c.in_ok-ino.ensures.taken.free.1 in
    spare_then p 0 1 t0 t1 (omega (arith, c.requires.spare)) (made_puts_1 p n t0 t1 c.requires.sound lt c.in_ok-ino.ensures.puts)

pub returns-in_err-acl-clause-full : goal.returns-in_err-acl-clause-full
returns-in_err-acl-clause-full g c =
    let p = c.args.geometry in
    let t0 = g.S.Sectors.state c.args.s.now in
    let t1 = g.S.Sectors.state c.take.new.s in
    through_try _ c.from_residual-in_err-acl.result c.in_err-acl.field-0.0 c.from_residual-in_err-acl.ensures
    (λ full. inr (too_few_for_access p c.in_ok-ino.ino t0.sectors t1.sectors c.args.access.now (option_copied c.args.default) c.kept_content.result c.in_ok-ino.ensures.taken
    c.kept_content.ensures.content (c.in_err-acl.ensures.full full)))

pub returns-in_err-default_acl-clause-full : goal.returns-in_err-default_acl-clause-full
returns-in_err-default_acl-clause-full g c =
    let p = c.args.geometry in
    let a = c.args.access.now in
    let t0 = g.S.Sectors.state c.args.s.now in
    let t1 = g.S.Sectors.state c.take.new.s in
    let t2 = g.S.Sectors.state c.store.new.s in
    let access = subst (λ content. Stores p 0 c.in_ok-acl.acl content t1.sectors t2.sectors) c.kept_content.ensures.content c.in_ok-acl.ensures.stored in
    let left = left_free p c.in_ok-ino.ino c.args.inode.now a c.in_ok-acl.acl t0 t1 t2 c.requires.sound c.requires.clear c.in_ok-ino.ensures.taken c.requires.blank
    c.kept_content.ensures.valid access in
    through_try _ c.from_residual-in_err-default_acl.result c.in_err-default_acl.field-0.0 c.from_residual-in_err-default_acl.ensures
    (λ full. inr (too_few_for_default p t0.sectors t2.sectors a (option_copied c.args.default) c.content_of.result left c.content_of.ensures.content
    (c.in_err-default_acl.ensures.full full)))

pub returns-in_err-write_inode-clause-store : goal.returns-in_err-write_inode-clause-store
returns-in_err-write_inode-clause-store g c =
    store_joined (store_joined c.in_ok-ino.ensures.puts.store c.in_ok-acl.ensures.puts.store)
    (store_joined c.in_ok-default_acl.ensures.puts.store c.in_err-write_inode.ensures.store)

pub write_inode-requires-clause-fits : goal.write_inode-requires-clause-fits
write_inode-requires-clause-fits g c =
    let v = c.args.inode.now in
    let small : c.in_ok-acl.acl < 2 ^ 32 = omega arith in
    let small_default : c.in_ok-default_acl.default_acl < 2 ^ 32 = omega arith in
    subst (λ (m : ℕ). FitsInode (record v { mode = m; acl = c.in_ok-acl.acl; default_acl = c.in_ok-default_acl.default_acl })) (sym c.with_bits.ensures)
    (with_bits_fits v _ c.in_ok-acl.acl c.in_ok-default_acl.default_acl c.requires.fits c.requires.blank.used (empty_no_link v c.requires.fits c.requires.blank.size)
    (mode_small c.args.access.now) small small_default)

-- all that the number returned stands for
is_made : (g : _) (c : goal.In_ok-write_inode g) → IsMade c.args.geometry c.in_ok-ino.ino c.args.inode.now c.args.access.now (option_copied c.args.default)
    (g.S.Sectors.state c.args.s.now) (g.S.Sectors.state c.write_inode.new.s)
is_made g c =
    let p = c.args.geometry in
    let v = c.args.inode.now in
    let a = c.args.access.now in
    let d = option_copied c.args.default in
    let n = c.in_ok-ino.ino in
    let y = c.in_ok-acl.acl in
    let z = c.in_ok-default_acl.default_acl in
    let t0 = g.S.Sectors.state c.args.s.now in
    let t1 = g.S.Sectors.state c.take.new.s in
    let t2 = g.S.Sectors.state c.store.new.s in
    let t3 = g.S.Sectors.state c.store-2.new.s in
    let t4 = g.S.Sectors.state c.write_inode.new.s in
    let small : y < 2 ^ 32 = omega arith in
    let small_default : z < 2 ^ 32 = omega arith in
    let access = subst (λ content. Stores p 0 y content t1.sectors t2.sectors) c.kept_content.ensures.content c.in_ok-acl.ensures.stored in
    let default = subst (λ content. Stores p 0 z content t2.sectors t3.sectors) c.content_of.ensures.content c.in_ok-default_acl.ensures.stored in
    let fits = with_bits_fits v _ y z c.requires.fits c.requires.blank.used (empty_no_link v c.requires.fits c.requires.blank.size) (mode_small a) small small_default in
    let saves = subst (λ (m : ℕ). Saves p n (record v { mode = m; acl = y; default_acl = z }) t3.sectors t4.sectors) c.with_bits.ensures c.in_ok-write_inode.ensures.saved in
    let puts = made_puts_4 p n t0 t1 c.requires.sound c.in_ok-ino.ensures.taken.free.1 c.in_ok-ino.ensures.puts t2 c.in_ok-acl.ensures.puts t3 c.in_ok-default_acl.ensures.puts
    t4 c.in_ok-write_inode.ensures.puts in
    made p n v a y t0 t1 t2 c.requires.sound c.requires.clear c.in_ok-ino.ensures.taken c.requires.blank c.kept_content.ensures.valid access
    d z t3 t4 c.content_of.ensures.valid default fits saves puts

pub returns : goal.returns
returns g c =
    let m = is_made g c in
    let store = m.touches.puts.store in search rules

pub returns-in_err-acl-clause-store : goal.returns-in_err-acl-clause-store
returns-in_err-acl-clause-store g c = store_joined c.in_ok-ino.ensures.puts.store c.in_err-acl.ensures.store

pub returns-in_err-acl-clause-cause : goal.returns-in_err-acl-clause-cause
returns-in_err-acl-clause-cause g c =
    cause_on c.in_ok-ino.ensures.puts.store c.in_err-acl.ensures.cause c.from_residual-in_err-acl.result c.from_residual-in_err-acl.ensures

pub returns-in_err-default_acl-clause-store : goal.returns-in_err-default_acl-clause-store
returns-in_err-default_acl-clause-store g c = store_joined (store_joined c.in_ok-ino.ensures.puts.store c.in_ok-acl.ensures.puts.store) c.in_err-default_acl.ensures.store

pub returns-in_err-default_acl-clause-cause : goal.returns-in_err-default_acl-clause-cause
returns-in_err-default_acl-clause-cause g c =
    cause_on (store_joined c.in_ok-ino.ensures.puts.store c.in_ok-acl.ensures.puts.store) c.in_err-default_acl.ensures.cause c.from_residual-in_err-default_acl.result c.from_residual-in_err-default_acl.ensures

pub returns-in_err-write_inode-clause-cause : goal.returns-in_err-write_inode-clause-cause
returns-in_err-write_inode-clause-cause g c =
    other_fault_on (store_joined (store_joined c.in_ok-ino.ensures.puts.store c.in_ok-acl.ensures.puts.store) c.in_ok-default_acl.ensures.puts.store) c.in_err-write_inode.ensures.cause c.from_residual-in_err-write_inode.result c.from_residual-in_err-write_inode.ensures.0
