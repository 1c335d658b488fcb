use Rattle.std.proofs.Common.{rules, ◌≡◌, ◌≢◌, refl, sym, ap, ◌∙◌}
use Rattle.fs_layout.specs.declared.inode.Inode.{Inode}
use Rattle.fs_layout.specs.declared.inode.Kind.TheVariants as kinds
use Rattle.fs_layout.specs.Bytes.{SectorMap}
use Rattle.fs_layout.specs.Images.{inode_at}
use Rattle.path_walk.proofs.Kept.{kept, sound_kept}
use Rattle.call_parts.specs.Performing.{IsStateOf}
use Rattle.call_parts.specs.Times.{with_times}
use Rattle.fs_model.specs.Nodes.{stamped}
use Rattle.fs_model.specs.StoredStamps.{stamps_in}
use Rattle.fs_system.specs.Stamping.{absent, read_fails}
use Rattle.fs_system.proofs.Stamped.{none_past, none_free, here, stamp_absent, same_stamped, no_times, none_given, saved_stamped}
use Rattle.fs_system.proofs.StampedNodes.{given_fits, stamps_given}
use Rattle.fs_system.proofs.stamping.stamp.Goals.{then-not-keeps_times-via-then-not-keeps_times, then-not-keeps_times-via-else-not-keeps_times+then-gives_none}
use Rattle.sector_txn.proofs.TransactionRuns.{store_joined, store_same}
use Rattle.fs_system.proofs.stamping.stamp.Goals as goal

pub returns-then-ino-geometry-clause-each : goal.returns-then-ino-geometry-clause-each
returns-then-ino-geometry-clause-each g c = λ processes t at.
    absent (stamp_absent at c.args.ino c.args.atime c.args.mtime c.args.ctime
    (none_past at c.args.ino c.args.atime c.args.mtime c.args.ctime c.if-ino-geometry.true))

pub returns-then-eq-clause-each : goal.returns-then-eq-clause-each
returns-then-eq-clause-each g c =
    let is_free : c.in-Ok.inode.kind ≡ kinds.Free = search rules in
    λ processes t at.
    absent (stamp_absent at c.args.ino c.args.atime c.args.mtime c.args.ctime
    (none_free at c.args.ino c.args.atime c.args.mtime c.args.ctime (sym (ap (λ (v : Inode). v.kind) c.in-Ok.ensures.found) ∙ is_free)))

pub returns-then-not-keeps_times-clause-each : goal.returns-then-not-keeps_times-clause-each
returns-then-not-keeps_times-clause-each g c =
    let used : c.in-Ok.inode.kind ≢ kinds.Free = search rules in
    let p = c.args.geometry in
    let n = c.args.ino in
    let same = c.in-Ok.ensures.same in
    let found = kept (λ (m : SectorMap). c.in-Ok.inode ≡ inode_at p m n) same c.in-Ok.ensures.found in
    λ processes t at.
    let mid : IsStateOf p (g.S.Sectors.state c.load.new.s).sectors processes t = kept (λ (m : SectorMap). IsStateOf p m processes t) same at in
    let h = here mid n c.args.atime c.args.mtime c.args.ctime c.if-ino-geometry.false (λ free. used (ap (λ (v : Inode). v.kind) found ∙ free)) in
    same_stamped mid n c.args.atime c.args.mtime c.args.ctime h
    (elim c.then-not-keeps_times.branch [
      | then-not-keeps_times-via-then-not-keeps_times w ↦
          no_times mid n c.args.atime c.args.mtime c.args.ctime h (sym c.keeps_times.ensures ∙ w.if-not-keeps_times.true)
      | then-not-keeps_times-via-else-not-keeps_times+then-gives_none w ↦
          none_given mid n c.args.atime c.args.mtime c.args.ctime h (w.gives_none.ensures w.if-gives_none.true)
    ]) c.stamps_in.result (c.stamps_in.ensures ∙ ap stamps_in found)

pub save-requires-clause-sound : goal.save-requires-clause-sound
save-requires-clause-sound g c = sound_kept c.in-Ok.ensures.same c.requires.sound

pub save-requires-clause-fits : goal.save-requires-clause-fits
save-requires-clause-fits g c =
    let used : c.in-Ok.inode.kind ≢ kinds.Free = search rules in
    given_fits c.args.atime c.args.mtime c.args.ctime c.in-Ok.inode c.with_given-given.result c.with_given-given.ensures
    c.requires.counts.0 c.requires.counts.1 c.requires.counts.2 c.in-Ok.ensures.fits used

pub returns-clause-each : goal.returns-clause-each
returns-clause-each g c =
    let used : c.in-Ok.inode.kind ≢ kinds.Free = search rules in
    let p = c.args.geometry in
    let n = c.args.ino in
    let same = c.in-Ok.ensures.same in
    let first = (g.S.Sectors.state c.load.new.s).sectors in
    let last = (g.S.Sectors.state c.save.new.s).sectors in
    let found = kept (λ (m : SectorMap). c.in-Ok.inode ≡ inode_at p m n) same c.in-Ok.ensures.found in
    let counts = c.requires.counts in
    let given = c.with_given-given.ensures ∙ ap (λ (v : Inode). with_times v (stamped c.args.atime c.args.mtime c.args.ctime (stamps_in v))) found in
    λ processes t at.
    let mid : IsStateOf p first processes t = kept (λ (m : SectorMap). IsStateOf p m processes t) same at in
    let h = here mid n c.args.atime c.args.mtime c.args.ctime c.if-ino-geometry.false (λ free. used (ap (λ (v : Inode). v.kind) found ∙ free)) in
    let saved = c.in-Ok-save.ensures in
    saved_stamped mid n c.args.atime c.args.mtime c.args.ctime h last (sym c.keeps_times.ensures ∙ c.if-not-keeps_times.false) counts.0 counts.1 counts.2
    (record { super = saved.touches.super; inode = saved.touches.inode; used = saved.used })
    (saved.saved ∙ given) saved.bytes saved.acls c.stamps_in-2.result
    (c.stamps_in-2.ensures
    ∙ stamps_given (inode_at p first n) c.with_given-given.result (stamped c.args.atime c.args.mtime c.args.ctime (stamps_in (inode_at p first n))) given)

pub returns-then-ino-geometry-clause-store : goal.returns-then-ino-geometry-clause-store
returns-then-ino-geometry-clause-store g c = store_same

pub returns-then-eq-clause-store : goal.returns-then-eq-clause-store
returns-then-eq-clause-store g c = c.in-Ok.ensures.same.store

pub returns-then-not-keeps_times-clause-store : goal.returns-then-not-keeps_times-clause-store
returns-then-not-keeps_times-clause-store g c = c.in-Ok.ensures.same.store

pub returns-then-not-keeps_times-clause-superblock : goal.returns-then-not-keeps_times-clause-superblock
returns-then-not-keeps_times-clause-superblock g c = c.in-Ok.ensures.same.sectors 0

pub returns-clause-store : goal.returns-clause-store
returns-clause-store g c = store_joined c.in-Ok.ensures.same.store c.in-Ok-save.ensures.store

pub returns-clause-superblock : goal.returns-clause-superblock
returns-clause-superblock g c = c.in-Ok-save.ensures.touches.super ∙ c.in-Ok.ensures.same.sectors 0

pub returns-in_default-clause-store : goal.returns-in_default-clause-store
returns-in_default-clause-store g c = c.in_default.ensures.same.store

pub returns-in_default-clause-each : goal.returns-in_default-clause-each
returns-in_default-clause-each g c = λ processes t at. read_fails c.in_default.ensures.cause.fault refl
