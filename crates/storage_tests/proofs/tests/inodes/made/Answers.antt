use Rattle.std.proofs.Common.{ap, ◌∙◌, subst, []}
use Rattle.fs_layout.specs.Bytes.{SectorMap}
use Rattle.fs_layout.specs.Images.{Holds, inode_at}
use Rattle.bit_alloc.proofs.Transactions.{map_unchanged, unchanged_joined}
use Rattle.storage_tests.proofs.Lives.{sound_unchanged}
use Rattle.storage_tests.proofs.tests.inodes.made.Goals as goal

pub load_acl-requires-clause-sound : goal.load_acl-requires-clause-sound
load_acl-requires-clause-sound g c =
    sound_unchanged c.args.geometry (g.S.Sectors.state c.new_inode.new.s.inner) (g.S.Sectors.state c.load.new.s.inner) c.in-Ok.ensures.sound c.in_ok-made.ensures.same

pub load_acl-requires-clause-there : goal.load_acl-requires-clause-there
load_acl-requires-clause-there g c =
    (c.in-Ok.ino, c.in-Ok.ensures.free.1, c.in_ok-made.ensures.found ∙ ap (λ image. inode_at c.args.geometry image c.in-Ok.ino) (map_unchanged c.in_ok-made.ensures.same))

pub load_default_acl-requires-clause-sound : goal.load_default_acl-requires-clause-sound
load_default_acl-requires-clause-sound g c =
    sound_unchanged c.args.geometry (g.S.Sectors.state c.new_inode.new.s.inner) (g.S.Sectors.state c.load_acl.new.s.inner) c.in-Ok.ensures.sound
    (unchanged_joined c.in_ok-made.ensures.same c.in-Ok-load_acl.ensures.same)

pub load_default_acl-requires-clause-there : goal.load_default_acl-requires-clause-there
load_default_acl-requires-clause-there g c = (
  c.in-Ok.ino,
  c.in-Ok.ensures.free.1,
  c.in_ok-made.ensures.found ∙ ap (λ image. inode_at c.args.geometry image c.in-Ok.ino)
      (map_unchanged (unchanged_joined c.in_ok-made.ensures.same c.in-Ok-load_acl.ensures.same)),
)

pub returns-clause-sound : goal.returns-clause-sound
returns-clause-sound g c =
    sound_unchanged c.args.geometry (g.S.Sectors.state c.new_inode.new.s.inner) (g.S.Sectors.state c.load_default_acl.new.s.inner) c.in-Ok.ensures.sound
    (unchanged_joined (unchanged_joined c.in_ok-made.ensures.same c.in-Ok-load_acl.ensures.same) c.in-Ok-load_default_acl.ensures.same)

pub returns-clause-empty : goal.returns-clause-empty
returns-clause-empty g c =
    subst (λ (image : SectorMap). Holds image (inode_at c.args.geometry image c.in-Ok.ino) [])
    (map_unchanged (unchanged_joined (unchanged_joined c.in_ok-made.ensures.same c.in-Ok-load_acl.ensures.same) c.in-Ok-load_default_acl.ensures.same))
    c.in-Ok.ensures.empty
