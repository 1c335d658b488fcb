-- ACLs as sectors' contents, and how many sectors they take.
use Rattle.std.proofs.Common.{◌≡◌, ◌≢◌, ℕ, zero, suc, ◌<◌, ◌≤◌, List, Option, Some, None, true, false, refl, sym, subst, ◌∙◌, arith}
use Rattle.std.specs.Prelude.{if◌then◌else◌}
use Rattle.std.specs.Option.{option_map}
use Rattle.posix_acl.specs.AccessList.{AccessList, IsAcl, IsSomeAcl, list_numbers, minimal, is_extended}
use Rattle.posix_acl.proofs.Laws.{minimal_valid, mode_bits-minimal}
use Rattle.fs_layout.specs.Header.{log_end}
use Rattle.fs_layout.specs.declared.inode.Inode.{Inode}
use Rattle.fs_layout.specs.Bytes.{SectorMap, IsSector}
use Rattle.fs_layout.specs.AclSector.{acl_content, HoldsAcl, kept_acl}
use Rattle.fs_layout.specs.Images.{IsData, inode_at}
use Rattle.fs_layout.proofs.OneAcl.{sector_fits, access_same}
use Rattle.fs_layout.specs.declared.geometry.Geometry.{Geometry}
use Rattle.fs_layout.proofs.Parts.{owns_acl, owns_default_acl}
use Rattle.fs_layout.proofs.Places.{after_map, before_data}
use Rattle.sector_txn.specs.Sectors.{TxnState}
use Rattle.fs_layout.proofs.Sectors.{IsSector-acl_sector_bytes}
use Rattle.bit_alloc.specs.Inodes.{IsSound, HoldsContent}
use Rattle.inode_table.specs.Acls.{acl_takes, HasAcl}
use Rattle.inode_table.specs.Storing.{takes_for}

-- the contents of ACLs
abbrev pub contents : Option AccessList → Option (List ℕ)
contents a = option_map acl_content a

-- an ACL's content is a whole sector
pub content_whole : (a : AccessList) → IsAcl a → IsSector (acl_content a)
unfolding acl_content
content_whole a is = IsSector-acl_sector_bytes (list_numbers a) (sector_fits a is).few

pub contents_whole : (a : Option AccessList) → IsSomeAcl a → (c : List ℕ) → contents a ≡ Some c → IsSector c
contents_whole None is c e = absurd cc
contents_whole (Some a) is c e = let same : acl_content a ≡ c = cc in subst IsSector same (content_whole a is)

-- a valid ACL is valid where it is kept
pub kept_valid : (a : AccessList) → IsAcl a → IsSomeAcl (kept_acl a)
kept_valid a is = elim (is_extended a) as (λ b. IsSomeAcl (if b then Some a else None)) [ true ↦ is | false ↦ tt ]

-- a sector that has the content has the ACL
pub holds_acl : (image : SectorMap) (s : ℕ) (a : Option AccessList) → HoldsContent image s (contents a) → HoldsAcl image s a
holds_acl image s None h = h
holds_acl image s (Some a) h = h

-- and has it where the sector is the same
pub acl_stays : (old new : SectorMap) (s : ℕ) (a : Option AccessList) → (s ≢ 0 → new s ≡ old s) → HoldsAcl old s a → HoldsAcl new s a
acl_stays old new s None same h = h
acl_stays old new s (Some a) same h = (h.0, same h.0 ∙ h.1)

-- an ACL takes as many sectors as its content
pub takes_same : (s : ℕ) (a : Option AccessList) → takes_for s (contents a) ≡ acl_takes s a
takes_same s None = refl
takes_same zero (Some a) = refl
takes_same (suc s) (Some a) = refl

-- ---- where they stand
-- an ACL's sector is one of the data
pub acl_in_data : {p : Geometry} {n s : ℕ} {txn : TxnState} → IsSound p txn → n < p.inodes → s ≡ (inode_at p txn.sectors n).acl → s ≢ 0 → IsData p s
acl_in_data {p} {n} {s} {txn} sound lt e some =
    subst (IsData p) (sym e) (sound.consistent.in_data n _ lt (owns_acl txn.sectors (inode_at p txn.sectors n) (λ z. some (e ∙ z))))

pub default_acl_in_data : {p : Geometry} {n s : ℕ} {txn : TxnState} → IsSound p txn → n < p.inodes → s ≡ (inode_at p txn.sectors n).default_acl → s ≢ 0 → IsData p s
default_acl_in_data {p} {n} {s} {txn} sound lt e some =
    subst (IsData p) (sym e) (sound.consistent.in_data n _ lt (owns_default_acl txn.sectors (inode_at p txn.sectors n) (λ z. some (e ∙ z))))

-- so it is part of the map, and on the disk
pub data_mapped : {p : Geometry} {s : ℕ} {txn : TxnState} → IsSound p txn → IsData p s → (log_end txn.header ≤ s) × (s < txn.disk.size)
data_mapped sound d =
    let from = after_map sound.consistent.geometry in
    let to = before_data sound.consistent.geometry in
    let size = sound.bitmaps.disk in
    (omega (arith, from, to, d, sound.bitmaps.header), omega (arith, d, size))

-- ---- without a sector
-- an access ACL that has none is told by the mode
pub told_by_mode : (image : SectorMap) (v : Inode) (a b : AccessList) → HasAcl image v a → v.acl ≡ 0 → b ≡ minimal v.mode → b ≡ a
told_by_mode image v a b has none is =
    is ∙ access_same image v.acl (minimal v.mode) a (minimal_valid v.mode) has.valid (mode_bits-minimal v.mode ∙ has.bits) none has.stored
