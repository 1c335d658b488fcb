use Rattle.std.proofs.Common.{◌≡◌, ◌∙◌, arith, ap, sym, subst, inr}
use Rattle.posix_acl.specs.AccessList.{AccessList, with_mode_bits}
use Rattle.fs_layout.specs.declared.inode.Inode.{Inode}
use Rattle.fs_layout.specs.AclSector.{kept_acl}
use Rattle.fs_layout.specs.Images.{inode_at}
use Rattle.fs_layout.specs.Inode.{FitsInode}
use Rattle.fs_layout.proofs.Free.{inode_fits_there}
use Rattle.bit_alloc.proofs.Transactions.{spare_unchanged}
use Rattle.inode_table.specs.Acls.{acl_takes}
use Rattle.sector_txn.proofs.TransactionRuns.{store_joined}
use Rattle.path_walk.proofs.Kept.{kept, kept_back, sound_kept, interrupts_later, failed_with}
use Rattle.path_walk.specs.Answers.{Interrupts}
use Rattle.call_parts.specs.Given.{SavesAcl, special_mode}
use Rattle.call_parts.proofs.Removed.{taken_after}
use Rattle.file_calls.proofs.Moded.{mode_fits, mode_takes_none}
use Rattle.file_calls.proofs.attributes.give_mode.Goals as goal

pub acl_of-requires : goal.acl_of-requires
acl_of-requires g c = record { sound = c.requires.loaded.sound; there = (c.args.ino, c.requires.loaded.below, c.requires.loaded.inode); has = c.requires.has }

pub give_acl-requires-clause-ready : goal.give_acl-requires-clause-ready
give_acl-requires-clause-ready g c =
    let same = c.in_ok-had.ensures.same in
    record {
      sound = sound_kept same c.requires.loaded.sound;
      spare = spare_unchanged c.args.caller.now.geometry 2 (g.S.Sectors.state c.args.s.now) (g.S.Sectors.state c.acl_of.new.s) c.requires.spare same;
    }

pub give_acl-requires-clause-inode : goal.give_acl-requires-clause-inode
give_acl-requires-clause-inode g c =
    ap (λ (v : Inode). record v { mode = c.special_bits.result })
    (kept (λ m. c.args.inode.now ≡ inode_at c.args.caller.now.geometry m c.args.ino) c.in_ok-had.ensures.same c.requires.loaded.inode)

pub give_acl-requires-clause-fits : goal.give_acl-requires-clause-fits
give_acl-requires-clause-fits g c =
    subst (λ k. FitsInode (record c.args.inode.now { mode = k })) (sym c.special_bits.ensures)
    (mode_fits c.args.inode.now c.args.cred.now c.args.mode
    (subst FitsInode (sym c.requires.loaded.inode) (inode_fits_there c.requires.loaded.sound.consistent c.args.ino c.requires.loaded.below)) c.requires.loaded.used c.requires.no_link)

pub give_acl-requires-clause-room : goal.give_acl-requires-clause-room
give_acl-requires-clause-room g c =
    let h = c.requires.has in
    let none = ap (λ (a : AccessList). acl_takes c.args.inode.now.acl (kept_acl a))
    (c.with_mode_bits-acl.ensures ∙ ap (λ (a : AccessList). with_mode_bits a c.args.mode) (c.in_ok-had.ensures.found h.0 h.1))
    ∙ mode_takes_none (g.S.Sectors.state c.args.s.now).sectors c.args.inode.now.acl h.0 c.args.mode h.1.stored in
    omega (arith, none)

pub returns-clause-given : goal.returns-clause-given
returns-clause-given g c = λ a h.
    let new = g.S.Sectors.state c.give_acl.new.s in
    let then = g.S.Sectors.state c.acl_of.new.s in
    kept_back (λ m. SavesAcl c.args.caller.now.geometry c.args.ino (special_mode c.args.cred.now c.args.inode.now.kind c.args.inode.now.gid c.args.mode) (with_mode_bits a c.args.mode) m new.sectors) c.in_ok-had.ensures.same
    (subst (λ k. SavesAcl c.args.caller.now.geometry c.args.ino k (with_mode_bits a c.args.mode) then.sectors new.sectors) c.special_bits.ensures
    (subst (λ (x : AccessList). SavesAcl c.args.caller.now.geometry c.args.ino c.special_bits.result x then.sectors new.sectors)
    (c.with_mode_bits-acl.ensures ∙ ap (λ (x : AccessList). with_mode_bits x c.args.mode) (c.in_ok-had.ensures.found a h)) c.in_ok-give_acl.ensures.made))

pub returns-clause-taken : goal.returns-clause-taken
returns-clause-taken g c =
    taken_after c.args.caller.now.geometry 2 (g.S.Sectors.state c.give_acl.new.s) c.in_ok-had.ensures.same c.in_ok-give_acl.ensures.taken

pub returns-clause-store : goal.returns-clause-store
returns-clause-store g c = store_joined c.in_ok-had.ensures.same.store c.in_ok-give_acl.ensures.store

pub returns-in_err-give_acl-clause-store : goal.returns-in_err-give_acl-clause-store
returns-in_err-give_acl-clause-store g c = store_joined c.in_ok-had.ensures.same.store c.in_err-give_acl.ensures.store

pub returns-in_err-give_acl-clause-interrupts : goal.returns-in_err-give_acl-clause-interrupts
returns-in_err-give_acl-clause-interrupts g c =
    let r = c.from_residual-in_err-give_acl.ensures in
    let old = g.S.Sectors.state c.args.s.now in
    let new = g.S.Sectors.state c.give_acl.new.s in
    failed_with c.from_residual-in_err-give_acl.result c.in_err-give_acl.field-0.0 (Interrupts old.disk new.disk) r.0 r.1
    (interrupts_later new.disk c.in_ok-had.ensures.same (inr c.in_err-give_acl.ensures.fault))
