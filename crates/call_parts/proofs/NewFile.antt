-- A new inode, and a name for it in a directory.
--     nothing_stands        nothing stands at a free number
--     new_file, file_fits, file_taken        a new file's inode fits its fields, and was taken
--     takes_one, takes_few, room_suffices        there is room: the disk alone can fail
--     dir_below, apart_from_new, dir_kept, dir_still_held        the directory, once the inode is made
--     set_group_says, default_is        what a directory gives to what is made in it
use Rattle.std.specs.Prelude.{◌≡◌, ◌≢◌, ℕ, ◌+◌, ◌%◌, ◌^◌, ◌<◌, ◌≤◌, nat_eq, nat_le, ◌||◌, Bool, true, false, List, [], length, Option, None, Some, is_some, IsTrue, ◌/◌, ◌==◌, cond}
use Rattle.std.proofs.Common.{refl, sym, ap, arith, ◌∙◌, inl, inr}
use Rattle.std.proofs.lemmas.Bool.{or_right, true≢false}
use Rattle.posix_acl.specs.AccessList.{AccessList, mode_bits}
use Rattle.sector_disk.specs.Disk.{DiskState, HasFailed}
use Rattle.fs_layout.specs.declared.inode.TheConstants.{S_ISGID, S_ISVTX}
use Rattle.fs_layout.specs.declared.inode.Inode.{Inode}
use Rattle.fs_layout.specs.declared.inode.Kind.TheVariants as kinds
use Rattle.fs_layout.specs.declared.geometry.Geometry.{Geometry}
use Rattle.fs_layout.specs.AclSector.{kept_acl}
use Rattle.fs_layout.specs.Bytes.{SectorMap}
use Rattle.fs_layout.specs.InodeChanges.{ChangesInode}
use Rattle.fs_layout.specs.Inode.{FitsInode, free_inode}
use Rattle.fs_layout.specs.Maps.{name_cmp, get}
use Rattle.fs_layout.specs.Version.{max_names}
use Rattle.fs_layout.specs.Images.{Holds, bit, inode_at, free_sectors}
use Rattle.fs_layout.proofs.UsedInodes.{made_fits}
use Rattle.fs_layout.proofs.Bits.{inode_has_bit}
use Rattle.fs_layout.proofs.Saves.{inode_kept}
use Rattle.bit_alloc.specs.declared.bitmap.Bitmap.TheVariants.{Inodes}
use Rattle.bit_alloc.specs.Bitmaps.{IsFreeNumber}
use Rattle.bit_alloc.specs.Inodes.{KeepsFields}
use Rattle.inode_table.specs.Acls.{HasAcl, HasDefaultAcl, with_acl_bits, acl_takes, acls_take}
use Rattle.dir_core.specs.declared.fault.DirFault.{DirFault}
use Rattle.dir_core.specs.declared.fault.DirFault.TheVariants as naming
use Rattle.dir_core.specs.Faults.{WhyNotAdded}
use Rattle.dir_core.proofs.Taking.{taken_for_few}
use Rattle.fs_model.specs.declared.reply.Stamps.{Stamps}
use Rattle.fs_model.specs.Nodes.{Node, Body, File, Dir, Link, is_directory, default_in, shown_mode}
use Rattle.fs_model.specs.Stands.{placed}
use Rattle.fs_model.specs.StoredNodes.{Placed, HoldsNode}
use Rattle.fs_model.specs.Trees.{Tree, node_at, names_of, parent, IsDirectoryAt}
use Rattle.fs_model.proofs.PlacedNodes.{placed_from, placing, placing_other, one_placed, held_at}
use Rattle.path_walk.specs.HeldTrees.{HoldsTree}
use Rattle.call_parts.proofs.HeldChanges.{new_file_held}
use Rattle.path_walk.proofs.HeldNodes.{number_below, is_there}
use Rattle.sector_txn.specs.Sectors.{TxnState}
use Rattle.bit_alloc.specs.Inodes.{Touches}
use Rattle.call_parts.specs.NewNodes.{TakesInode, file_made}
use Rattle.call_parts.specs.Makings.{CanMake}
use Rattle.fs_layout.proofs.OneAcl.{mode_small}
use Rattle.fs_model.specs.Births.{the_directory}

-- ---- a free number

pub nothing_stands : {p : Geometry} {map : SectorMap} {t : Tree} → HoldsTree p map t → (n : ℕ) → IsFreeNumber p Inodes map n → node_at t n ≡ None
nothing_stands {p} {map} {t} h n free = go (node_at t n) refl
  where
    go : (o : Option Node) → node_at t n ≡ o → node_at t n ≡ None
    go None e = e
    go (Some node) e =
        let set : bit map p.inode_bitmap n ≡ true =
        h.holds.inode_bits n (inode_has_bit h.holds.consistent.geometry n free.1)
        ∙ ap (λ o. nat_eq n 0 || nat_le p.inodes n || is_some o) (placed_from t n (Some node) (names_of t n) (parent t n) e refl refl)
        ∙ or_right (nat_eq n 0 || nat_le p.inodes n) true refl in
        absurd (true≢false (sym set ∙ free.2))

-- ---- the new inode

-- an empty file with one name
abbrev pub new_file : ℕ → ℕ → Inode
new_file uid gid = record free_inode { kind = kinds.File; uid = uid; gid = gid; names = 1 }

pub file_fits : (uid gid : ℕ) → uid < 2 ^ 32 → gid < 2 ^ 32 → FitsInode (new_file uid gid)
file_fits uid gid small_uid small_gid = made_fits (λ e. cc) refl small_uid small_gid (omega arith) (omega arith)

-- an ACL takes a sector at most
pub takes_one : (o : Option AccessList) → acl_takes 0 o ≤ 1
takes_one None = omega arith
takes_one (Some a) = omega arith

pub takes_few : (a : AccessList) → acls_take a None ≤ 1
takes_few a = let few = takes_one (kept_acl a) in omega (arith, few)

module _ {p : Geometry} {map : SectorMap} {t : Tree} {dir_ino : ℕ} {name : List ℕ} (can : CanMake p map t dir_ino name) where
  pub dir_below : dir_ino < p.inodes
  dir_below = number_below can.holds dir_ino (is_there t dir_ino can.directory.node can.directory.is_there)

module _ {p : Geometry} {map : SectorMap} {t : Tree} (h : HoldsTree p map t) {dir_ino : ℕ} (d : IsDirectoryAt t dir_ino) {mid : SectorMap} (n : ℕ)
    (free : IsFreeNumber p Inodes map n) (first : ChangesInode p n map mid) where
  pub apart_from_new : dir_ino ≢ n
  apart_from_new e =
      let both : Some d.node ≡ None = sym d.is_there ∙ ap (node_at t) e ∙ nothing_stands h n free in
      cc

  -- the directory's inode is the same
  pub dir_kept : inode_at p mid dir_ino ≡ inode_at p map dir_ino
  dir_kept = inode_kept p dir_ino map mid (first.table dir_ino (number_below h dir_ino (is_there t dir_ino d.node d.is_there)) apart_from_new)

  -- and it holds what it held
  pub dir_still_held : (x : Placed) → HoldsNode p.version mid (inode_at p mid n) x → IsTrue (bit mid p.inode_bitmap n)
      → HoldsNode p.version mid (inode_at p mid dir_ino) (record { node = d.node; names = names_of t dir_ino; parent = parent t dir_ino })
  dir_still_held x born taken =
      held_at p mid (placing n (Some x) (placed t))
      (one_placed p n map mid (placed t) h.holds free.1 first (Some x) born (taken ∙ sym (or_right (nat_eq n 0 || nat_le p.inodes n) true refl)))
      dir_ino (number_below h dir_ino (is_there t dir_ino d.node d.is_there)) (record { node = d.node; names = names_of t dir_ino; parent = parent t dir_ino })
      (placing_other n (Some x) (placed t) dir_ino apart_from_new ∙ placed_from t dir_ino (Some d.node) (names_of t dir_ino) (parent t dir_ino) d.is_there refl refl)

module _ {p : Geometry} {n taken more : ℕ} {old new : TxnState} (free : IsFreeNumber p Inodes old.sectors n) (touches : Touches p n taken more old new)
    (used : IsTrue (bit new.sectors p.inode_bitmap n)) where
  pub file_taken : (dir_ino uid gid : ℕ) (a : AccessList) → KeepsFields (with_acl_bits (new_file uid gid) a) (inode_at p new.sectors n) → Holds new.sectors (inode_at p new.sectors n) []
      → HasAcl new.sectors (inode_at p new.sectors n) a → HasDefaultAcl new.sectors (inode_at p new.sectors n) None
      → TakesInode p n (record { node = file_made uid gid a; names = 1; parent = dir_ino }) old.sectors new.sectors
  file_taken dir_ino uid gid a fields empty access default = record {
    super = touches.super;
    free = free;
    change = touches.inode;
    taken = used;
    holds = new_file_held new.sectors (new_file uid gid) (inode_at p new.sectors n) uid gid refl refl refl (refl, refl, refl) a fields empty access dir_ino refl refl refl default;
  }

-- ---- its name

module _ (p : Geometry) (map : SectorMap) (v : Inode) (names : List (List ℕ × ℕ)) (name : List ℕ) (is_new : get name_cmp names name ≡ None) (few : length names < max_names p.version)
    (enough : 3 ≤ free_sectors p map) where
  -- a name isn't refused for want of room, nor because it is there
  pub room_suffices : (old new : DiskState) (e : DirFault) → WhyNotAdded p map v names name e → (e ≡ naming.DiskFault → HasFailed old new) → HasFailed old new
  room_suffices old new naming.Exists why failed = absurd (why is_new)
  room_suffices old new naming.Full why failed = absurd (elim why.1 [
    | inl many ↦ omega (arith, many, few)
    | inr less ↦ let three = taken_for_few v in omega (arith, less, three, enough)
  ])
  room_suffices old new naming.Absent why failed = absurd why
  room_suffices old new naming.DiskFault why failed = failed refl
  room_suffices old new naming.OutOfMemory why failed = absurd why

-- ---- what a directory gives to what is made in it

group_bit : (n : ℕ) (s g : Bool) → n < 512 → ((n + cond s S_ISVTX 0 + cond g S_ISGID 0) / S_ISGID % 2 == 1) ≡ g
group_bit n true true lt = let e : (n + 512 + 1024) / S_ISGID % 2 ≡ 1 = omega (arith, lt) in ap (λ (k : ℕ). k == 1) e
group_bit n true false lt = let e : (n + 512 + 0) / S_ISGID % 2 ≡ 0 = omega (arith, lt) in ap (λ (k : ℕ). k == 1) e
group_bit n false true lt = let e : (n + 0 + 1024) / S_ISGID % 2 ≡ 1 = omega (arith, lt) in ap (λ (k : ℕ). k == 1) e
group_bit n false false lt = let e : (n + 0 + 0) / S_ISGID % 2 ≡ 0 = omega (arith, lt) in ap (λ (k : ℕ). k == 1) e

-- S_ISGID of its mode is that of the directory
pub set_group_says : (owner group : ℕ) (b : Body) (stamps : Stamps) (m : ℕ) → IsTrue (is_directory b) → m ≡ shown_mode b
    → (m / S_ISGID % 2 == 1) ≡ (the_directory (record { owner = owner; group = group; body = b; stamps = stamps })).set_group_id
set_group_says owner group (File a bytes) stamps m is e = absurd (cc)
set_group_says owner group (Dir a d) stamps m is e = ap (λ (k : ℕ). k / S_ISGID % 2 == 1) e ∙ group_bit (mode_bits a) d.sticky d.set_group_id (mode_small a)
set_group_says owner group (Link target) stamps m is e = absurd (cc)

-- and so is its default ACL
pub default_is : (owner group : ℕ) (b : Body) (stamps : Stamps) → IsTrue (is_directory b)
    → default_in b ≡ (the_directory (record { owner = owner; group = group; body = b; stamps = stamps })).default
default_is owner group (File a bytes) stamps is = absurd (cc)
default_is owner group (Dir a d) stamps is = refl
default_is owner group (Link target) stamps is = absurd (cc)
