use Rattle.fs_layout.specs.declared.inode.TheConstants.{INODE_SIZE}
use Rattle.fs_layout.specs.Version.{slot_size}
use Rattle.fs_layout.proofs.AclSectorLaw.{acl_sector_codec, length-acl_sector_bytes}
use Rattle.fs_layout.proofs.Codecs.{are_read_again}
use Rattle.fs_layout.proofs.CommitLaw.{commit_codec, length-commit_bytes}
use Rattle.fs_layout.proofs.InodeLaw.{inode_codec, older_codec}
use Rattle.fs_layout.proofs.SlotLaw.{slot_codec, length-slot_bytes}
use Rattle.fs_layout.proofs.SuperLaw.{super_codec, length-super_bytes}
use Rattle.fs_layout.proofs.Writes.{length-inode_bytes}
use Rattle.fs_layout.proofs.laws.what_is_written_is_read.Goals as goal

pub returns : goal.returns
returns c = record {
  superblock = are_read_again 512 super_codec (λ v fits. length-super_bytes v);
  commit = are_read_again 512 commit_codec (λ targets fits. length-commit_bytes targets);
  inode = are_read_again INODE_SIZE inode_codec (λ v fits. length-inode_bytes v fits.direct_len fits.indirect_len);
  older_inode = are_read_again INODE_SIZE older_codec (λ v fits. length-inode_bytes v fits.fields.direct_len fits.fields.indirect_len);
  slot = λ version. are_read_again (slot_size version) (slot_codec version) (λ v fits. length-slot_bytes version v fits.short);
  acl_sector = are_read_again 512 acl_sector_codec (λ entries fits. length-acl_sector_bytes entries fits.few);
}
