-- The ACL that a sector has, and the ACLs of an inode.
use Rattle.std.specs.Prelude.{◌≡◌, ◌≢◌, ℕ, zero, suc, ◌%◌, ◌<◌, Bool, true, false, List, length, get_or, Option, Some, None, IsTrue, ◌↔◌}
use Rattle.std.proofs.Common.{sym, arith, ◌∙◌, subst}
use Rattle.posix_acl.specs.AccessList.{AccessList, list_numbers}
use Rattle.posix_acl.proofs.Laws.{one_of_numbers}
use Rattle.fs_layout.specs.declared.inode.Inode.{Inode}
use Rattle.fs_layout.specs.declared.geometry.Geometry.{Geometry}
use Rattle.fs_layout.specs.Bytes.{SectorMap}
use Rattle.fs_layout.specs.AclSector.{acl_sector_of}
use Rattle.fs_layout.specs.Images.{inode_at}
use Rattle.fs_layout.proofs.Codecs.{same_ok}
use Rattle.fs_layout.proofs.Parts.{owns_acl, owns_default_acl}
use Rattle.sector_disk.specs.Disk.{DiskState, OnlyReads}
use Rattle.fs_model.specs.Rules.{IsStoredAcl, HasSomeAccessAcl, HasAcls, InData, ObeysBefore}
use Rattle.fs_check.specs.Checks.{meaning, BeginsWith, AreInodes}
use Rattle.fs_check.specs.StoredAcls.{IsAclIn, GoesWith, HasGoodAcl, HasListsInPlace}
use Rattle.fs_check.proofs.Carrying.{meaning_same}
use Rattle.fs_check.proofs.Openings.{room, geometry_size}
use Rattle.fs_check.proofs.Tests.{within, inode_here}

-- ---- the ACL that a sector has

one_stored : (content : List ℕ) (a b : AccessList) → IsStoredAcl content a → IsStoredAcl content b → a ≡ b
one_stored content a b x y = one_of_numbers a b (same_ok (list_numbers a) (list_numbers b) (acl_sector_of content) x.entries y.entries)

module _ (bits : Option ℕ) (content : List ℕ) (o : Option AccessList) (found : IsAclIn content o) where
  -- the ACL that a sector has goes with the bits where it has one that does
  pub only_this : (a : AccessList) (r : Bool) → o ≡ Some a → (IsTrue r ↔ GoesWith bits a) → IsTrue r ↔ HasGoodAcl bits content
  only_this a r is test =
      let stored = subst (IsAclIn content) is found in (
        (λ t. record { acl = a; stored = stored; fit = test.0 t }),
        (λ x. test.1 (subst (GoesWith bits) (one_stored content x.acl a x.stored stored) x.fit)),
      )

  pub no_acl : o ≡ None → IsTrue false ↔ HasGoodAcl bits content
  no_acl is = ((λ f. absurd (let c : false ≡ true = f in cc)), (λ x. absurd (subst (IsAclIn content) is found x.acl x.stored)))

-- ---- the ACLs of an inode

-- those that its rule asks for
access_here : (m : SectorMap) (v : Inode) → HasGoodAcl (Some (v.mode % 512)) (m v.acl) → HasSomeAccessAcl m v
access_here m v x = record { acl = x.acl; stored = x.stored; more = x.fit.0; bits = x.fit.1 }

access_there : (m : SectorMap) (v : Inode) → HasSomeAccessAcl m v → HasGoodAcl (Some (v.mode % 512)) (m v.acl)
access_there m v x = record { acl = x.acl; stored = x.stored; fit = (x.more, x.bits) }

module _ (m : SectorMap) (v : Inode) where
  pub misplaced : (b : Bool) → b ≡ false → (IsTrue b ↔ HasListsInPlace v) → IsTrue false ↔ HasAcls m v
  misplaced b bad test = (
    (λ f. absurd (let c : false ≡ true = f in cc)),
    (λ x. absurd (let c : false ≡ true = sym bad ∙ test.1 (x.no_link, x.only_directory) in cc)),
  )

  pub bad_access : (b : Bool) → b ≡ false → (IsTrue b ↔ (v.acl ≢ 0 → HasGoodAcl (Some (v.mode % 512)) (m v.acl))) → IsTrue false ↔ HasAcls m v
  bad_access b bad test = (
    (λ f. absurd (let c : false ≡ true = f in cc)),
    (λ x. absurd (let c : false ≡ true = sym bad ∙ test.1 (λ some. access_there m v (x.access some)) in cc)),
  )

-- the default ACL is read later
pub good_by_default : (old mid : DiskState) (v : Inode) → OnlyReads old mid → (a b r : Bool) → a ≡ true → b ≡ true → (IsTrue a ↔ HasListsInPlace v)
    → (IsTrue b ↔ (v.acl ≢ 0 → HasGoodAcl (Some (v.mode % 512)) (meaning old v.acl)))
    → (IsTrue r ↔ (v.default_acl ≢ 0 → HasGoodAcl None (meaning mid v.default_acl))) → IsTrue r ↔ HasAcls (meaning old) v
good_by_default old mid v reads a b r is good placed access later =
    let m = meaning old in
    let default = subst (λ (n : SectorMap). IsTrue r ↔ (v.default_acl ≢ 0 → HasGoodAcl None (n v.default_acl))) (meaning_same reads) later in (
      (λ t. record {
        access = λ some. access_here m v (access.0 good some);
        default = λ some. (let x = default.0 t some in record { acl = x.acl; stored = x.stored });
        no_link = (placed.0 is).0;
        only_directory = (placed.0 is).1;
      }),
      (λ x. default.1 (λ some. (let y = x.default some in record { acl = y.acl; stored = y.stored; fit = tt }))),
    )

-- ---- their sectors

module _ {area : ℕ} {targets : List ℕ} (old mid : DiskState) (p : Geometry) (inodes : List Inode) (n : ℕ) (d : Inode)
    (reads : OnlyReads old mid) (opened : BeginsWith old p area targets)
    (table : AreInodes p (meaning old) inodes) (before : ObeysBefore p (meaning old) 9) (lt : n < length inodes) where
  on_disk : (s : ℕ) → (s ≢ 0 → s < p.sectors) → s < mid.size
  on_disk zero below = let some = room old p opened in let kept = reads.narrowed.size in omega (arith, some, kept)
  on_disk (suc s) below =
      let small : suc s < p.sectors = below (λ e. cc) in
      let same = geometry_size _ _ p opened.geometry in
      let kept = reads.narrowed.size in
      omega (arith, same, kept, small)

  pub acl_on_disk : (get_or inodes n d).acl < mid.size
  acl_on_disk =
      let v = inode_at p (meaning old) n in
      subst (λ (u : Inode). u.acl < mid.size) (sym (inode_here p (meaning old) inodes n d table lt))
      (on_disk v.acl (λ some. (before InData (omega arith) n (within p (meaning old) inodes n table lt) v.acl (owns_acl (meaning old) v some)).1))

  pub default_acl_on_disk : (get_or inodes n d).default_acl < mid.size
  default_acl_on_disk =
      let v = inode_at p (meaning old) n in
      subst (λ (u : Inode). u.default_acl < mid.size) (sym (inode_here p (meaning old) inodes n d table lt))
      (on_disk v.default_acl (λ some. (before InData (omega arith) n (within p (meaning old) inodes n table lt) v.default_acl (owns_default_acl (meaning old) v some)).1))
