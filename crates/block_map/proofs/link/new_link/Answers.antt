use Rattle.std.proofs.Common.{length, refl, sym, ◌∙◌, arith, rules, inl, inr, ◌≢◌}
use Rattle.bit_alloc.proofs.Soundness.{free_kept, sound_then}
use Rattle.bit_alloc.proofs.Passing.{through_try, cause_on, other_fault_on}
use Rattle.block_map.proofs.Linking.{link_fits, IsMade, link_made}
use Rattle.block_map.proofs.Rewritten.{filled}
use Rattle.sector_txn.proofs.TransactionRuns.{store_joined, store_same}
use Rattle.bit_alloc.specs.declared.bitmap.TakeFault.TheVariants.{Full, DiskFault}
use Rattle.block_map.proofs.link.new_link.Goals as goal

pub returns-in_err-link-clause-full : goal.returns-in_err-link-clause-full
returns-in_err-link-clause-full g c =
    let t0 = g.S.Sectors.state c.args.s.now in
    let t1 = g.S.Sectors.state c.take.new.s in
    through_try _ c.from_residual-in_err-link.result c.in_err-link.field-0.0 c.from_residual-in_err-link.ensures
    (λ full. inr (sym (free_kept c.args.geometry c.in_ok-ino.ino t0.sectors t1.sectors c.in_ok-ino.ensures.taken.mark) ∙ c.in_err-link.ensures.full full))

pub write_inode-requires-clause-fits : goal.write_inode-requires-clause-fits
write_inode-requires-clause-fits g c =
    link_fits c.args.uid c.args.gid (length c.args.target.now) c.in_ok-link.field-0 (omega arith) (omega arith) c.requires.target.0 c.requires.target.1 (omega arith)

-- all that the number returned stands for
is_made : (g : _) (c : goal.In_ok-write_inode g) → IsMade c.args.geometry c.in_ok-ino.ino c.args.uid c.args.gid c.args.target.now
    (g.S.Sectors.state c.args.s.now) (g.S.Sectors.state c.write_inode.new.s)
is_made g c =
    let fits = link_fits c.args.uid c.args.gid (length c.args.target.now) c.in_ok-link.field-0 (omega arith) (omega arith) c.requires.target.0 c.requires.target.1
    (omega arith) in
    link_made c.requires.sound c.in_ok-ino.ensures.taken c.in_ok-ino.ensures.puts c.in_ok-link.ensures.taken.puts c.args.uid c.args.gid c.args.target.now _ c.requires.clear c.requires.target
    (filled 0 c.copy_from_slice.ensures.after refl) c.in_ok-link.ensures.taken.taken fits c.in_ok-write_inode.ensures.saved c.in_ok-link.ensures.taken.free c.in_ok-write_inode.ensures.puts

pub returns : goal.returns
returns g c =
    let m = is_made g c in
    let store = m.touches.puts.store in
    let free = c.in_ok-ino.ensures.taken.free in
    let sound = sound_then c.args.geometry c.in_ok-ino.ino 1 2 (g.S.Sectors.state c.args.s.now) (g.S.Sectors.state c.write_inode.new.s) c.requires.sound (free.0, free.1) m.touches in
    search rules

pub returns-in_err-link-clause-store : goal.returns-in_err-link-clause-store
returns-in_err-link-clause-store g c = store_joined c.in_ok-ino.ensures.puts.store c.in_err-link.ensures.store

pub returns-in_err-link-clause-cause : goal.returns-in_err-link-clause-cause
returns-in_err-link-clause-cause g c =
    cause_on c.in_ok-ino.ensures.puts.store c.in_err-link.ensures.cause c.from_residual-in_err-link.result c.from_residual-in_err-link.ensures

pub returns-in_err-write_inode-clause-store : goal.returns-in_err-write_inode-clause-store
returns-in_err-write_inode-clause-store g c = store_joined (store_joined c.in_ok-ino.ensures.puts.store c.in_ok-link.ensures.taken.puts.store) c.in_err-write_inode.ensures.store

pub returns-in_err-write_inode-clause-cause : goal.returns-in_err-write_inode-clause-cause
returns-in_err-write_inode-clause-cause g c =
    other_fault_on (store_joined c.in_ok-ino.ensures.puts.store c.in_ok-link.ensures.taken.puts.store) c.in_err-write_inode.ensures.cause c.from_residual-in_err-write_inode.result c.from_residual-in_err-write_inode.ensures.0

-- ---- where a call fails, and where none does
of_disk : DiskFault ≢ Full
of_disk is = cc

pub returns-in_err-ino-clause-store : goal.returns-in_err-ino-clause-store
returns-in_err-ino-clause-store g c = c.in_err-ino.ensures.unchanged.store

pub returns-in_err-ino-clause-cause : goal.returns-in_err-ino-clause-cause
returns-in_err-ino-clause-cause g c = cause_on (store_same {txn = g.S.Sectors.state c.args.s.now}) c.in_err-ino.ensures.cause c.from_residual.result c.from_residual.ensures

pub returns-in_err-ino-clause-full : goal.returns-in_err-ino-clause-full
returns-in_err-ino-clause-full g c = through_try _ c.from_residual.result c.in_err-ino.field-0.0 c.from_residual.ensures (λ full. inl (c.in_err-ino.ensures.full full))

pub returns-in_err-write_inode-clause-full : goal.returns-in_err-write_inode-clause-full
returns-in_err-write_inode-clause-full g c = through_try _ c.from_residual-in_err-write_inode.result DiskFault c.from_residual-in_err-write_inode.ensures (λ full. absurd (of_disk full))
