-- The sector of an ACL.
use Rattle.posix_acl.specs.AccessList.{AccessList, IsAcl, list_numbers}
use Rattle.fs_layout.specs.AclSector.{acl_content}
use Rattle.fs_layout.specs.Laws.{HasSector}
use Rattle.fs_layout.proofs.AclSectorLaw.{acl_sector_codec}
use Rattle.fs_layout.proofs.Sectors.{IsSector-acl_sector_bytes}
use Rattle.fs_layout.proofs.OneAcl.{sector_fits, acl_same}

pub has_sector : (a : AccessList) → IsAcl a → HasSector a
unfolding acl_content
has_sector a is =
    let fits = sector_fits a is in
    record {
      whole = IsSector-acl_sector_bytes (list_numbers a) fits.few;
      fits = fits;
      read = acl_sector_codec.again (list_numbers a) fits;
      one = λ b is_b same. acl_same b a is_b is same;
    }
