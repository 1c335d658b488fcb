use Rattle.std.proofs.Common.{ℕ, refl, ap, ◌∙◌}
use Rattle.fs_layout.specs.Bytes.{le32, splice, zeros}
use Rattle.fs_layout.proofs.Writes.{first_write, next_write, all_written}
use Rattle.fs_layout.specs.Version.{version_number}
use Rattle.fs_layout.proofs.superblock.Super.put.Goals as goal
use Rattle.fs_layout.specs.Superblock.{super_magic}

pub returns : goal.returns
unfolding le32 zeros
returns c =
    let s = c.args.self.now in
    let old = c.args.to.now in
    let b0 = first_write old _ (le32 super_magic) c.put_u32.ensures in
    let b1 = next_write old _ _ _ (le32 (version_number s.version)) 4 b0 refl (c.put_u32-2.ensures ∙ ap (λ (n : ℕ). splice c.put_u32.new.to 4 (le32 n)) c.number.ensures) in
    let b2 = next_write old _ _ _ (le32 s.sectors) 8 b1 refl c.put_u32-3.ensures in
    let b3 = next_write old _ _ _ (le32 s.inodes) 12 b2 refl c.put_u32-4.ensures in
    let b4 = next_write old _ _ _ (le32 s.header) 16 b3 refl c.put_u32-5.ensures in
    let b5 = next_write old _ _ _ (zeros 492) 20 b4 refl c.put_zeros.ensures in
    all_written old _ _ b5 c.requires
