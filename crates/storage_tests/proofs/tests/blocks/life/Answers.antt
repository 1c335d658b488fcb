use Rattle.std.proofs.Common.{◌≡◌, sym, ap, subst, ◌∙◌, arith}
use Rattle.fs_layout.specs.declared.inode.Kind.TheVariants as kinds
use Rattle.fs_layout.specs.Images.{inode_at}
use Rattle.bit_alloc.proofs.Soundness.{spare_then}
use Rattle.bit_alloc.proofs.Transactions.{map_unchanged, spare_unchanged}
use Rattle.inode_table.specs.Inodes.{ClearAreFree}
use Rattle.storage_tests.proofs.Lives.{sound_unchanged}
use Rattle.storage_tests.proofs.tests.blocks.life.Goals as goal

pub new_link-requires-clause-sound : goal.new_link-requires-clause-sound
new_link-requires-clause-sound g c =
    sound_unchanged c.args.geometry (g.S.Sectors.state c.args.s.now.inner) (g.S.Sectors.state c.free.new.s.inner) c.requires.sound c.in_ok-before.ensures

pub new_link-requires-clause-clear : goal.new_link-requires-clause-clear
new_link-requires-clause-clear g c = subst (ClearAreFree c.args.geometry) (map_unchanged c.in_ok-before.ensures) c.requires.clear

pub free_all-requires-clause-sound : goal.free_all-requires-clause-sound
free_all-requires-clause-sound g c =
    sound_unchanged c.args.geometry (g.S.Sectors.state c.new_link.new.s.inner) (g.S.Sectors.state c.free-2.new.s.inner) c.in-Ok.ensures.sound c.in_ok-between.ensures

pub free_all-requires-clause-used : goal.free_all-requires-clause-used
free_all-requires-clause-used g c = λ e.
    let is = ap (λ image. (inode_at c.args.geometry image c.in-Ok.n).kind) (sym (map_unchanged c.in_ok-between.ensures)) ∙ c.in-Ok.ensures.fields.kind in
    let both : kinds.Link ≡ kinds.Free = sym is ∙ e in
    cc

pub free_all-requires-clause-spare : goal.free_all-requires-clause-spare
free_all-requires-clause-spare g c =
    let p = c.args.geometry in
    let t0 = g.S.Sectors.state c.args.s.now.inner in
    let t1 = g.S.Sectors.state c.free.new.s.inner in
    let t2 = g.S.Sectors.state c.new_link.new.s.inner in
    let t3 = g.S.Sectors.state c.free-2.new.s.inner in
    let begun = spare_unchanged p 12 t0 t1 c.requires.spare c.in_ok-before.ensures in
    spare_unchanged p 1 t2 t3 (spare_then p 2 1 t1 t2 (omega (arith, begun)) c.in-Ok.ensures.touches.puts) c.in_ok-between.ensures
