-- The limits of each version, and how they go together.
use Rattle.std.specs.Prelude.{List, ◌∷◌, ◌++◌, ◌-◌, length}
use Rattle.std.proofs.Common.{◌≡◌, ℕ, ◌*◌, ◌/◌, ◌%◌, ◌≤◌, refl, ap, arith}
use Rattle.std.specs.List.{flat_map}
use Rattle.fs_layout.specs.declared.version.Version.{Version}
use Rattle.fs_layout.specs.declared.version.Version.TheVariants.{One, Two, Three}
use Rattle.fs_layout.specs.Geometry.{allows_header}
use Rattle.fs_layout.specs.Superblock.{numbers_end}
use Rattle.fs_layout.specs.Version.{max_sectors, max_inodes, max_name, max_names, max_inode_names, slot_size, max_directory_size, keeps_times}
use Rattle.fs_layout.specs.Bytes.{le32, zeros}
use Rattle.fs_layout.specs.Directories.{NamedInode, slots_bytes}

-- ---- versions whose slots take as many bytes

-- names are as long, and there are as many of them
pub record HasSameNames (old new : Version) : Type 0 where
  pub name : max_name old ≡ max_name new
  pub names : max_names old ≡ max_names new
  pub inode_names : max_inode_names old ≡ max_inode_names new

pub same_names : (old new : Version) → slot_size old ≡ slot_size new → HasSameNames old new
same_names One One e = record { name = refl; names = refl; inode_names = refl }
same_names One Two e = record { name = refl; names = refl; inode_names = refl }
same_names One Three e = absurd (omega (arith, e))
same_names Two One e = record { name = refl; names = refl; inode_names = refl }
same_names Two Two e = record { name = refl; names = refl; inode_names = refl }
same_names Two Three e = absurd (omega (arith, e))
same_names Three One e = absurd (omega (arith, e))
same_names Three Two e = absurd (omega (arith, e))
same_names Three Three e = record { name = refl; names = refl; inode_names = refl }

-- either both keep times, or neither does
pub same_times : (old new : Version) → slot_size old ≡ slot_size new → keeps_times old ≡ keeps_times new
same_times One One e = refl
same_times One Two e = refl
same_times One Three e = absurd (omega (arith, e))
same_times Two One e = refl
same_times Two Two e = refl
same_times Two Three e = absurd (omega (arith, e))
same_times Three One e = absurd (omega (arith, e))
same_times Three Two e = absurd (omega (arith, e))
same_times Three Three e = refl

-- so slots are spelled alike
pub same_slots : (old new : Version) (slots : List NamedInode) → HasSameNames old new → slots_bytes old slots ≡ slots_bytes new slots
same_slots old new slots same =
    ap (λ n. flat_map (λ v. le32 v.ino ++ (length v.name ∷ (zeros 3 ++ (v.name ++ zeros (n - length v.name))))) slots) same.name

-- a disk of the one may have the numbers of one of the other, and its superblock as many of them
pub record HasSameRange (old new : Version) : Type 0 where
  pub sectors : max_sectors old ≡ max_sectors new
  pub inodes : max_inodes old ≡ max_inodes new
  pub header : (header sectors inodes : ℕ) → allows_header old header sectors inodes ≡ allows_header new header sectors inodes
  pub numbers : numbers_end old ≡ numbers_end new

pub same_range : (old new : Version) → slot_size old ≡ slot_size new → HasSameRange old new
unfolding allows_header
same_range One One e = record { sectors = refl; inodes = refl; header = λ h s i. refl; numbers = refl }
same_range One Two e = record { sectors = refl; inodes = refl; header = λ h s i. refl; numbers = refl }
same_range One Three e = absurd (omega (arith, e))
same_range Two One e = record { sectors = refl; inodes = refl; header = λ h s i. refl; numbers = refl }
same_range Two Two e = record { sectors = refl; inodes = refl; header = λ h s i. refl; numbers = refl }
same_range Two Three e = absurd (omega (arith, e))
same_range Three One e = absurd (omega (arith, e))
same_range Three Two e = absurd (omega (arith, e))
same_range Three Three e = record { sectors = refl; inodes = refl; header = λ h s i. refl; numbers = refl }

-- ---- the size of a directory

-- of no more bytes than the largest one, it has no more names
pub names_most : (version : Version) (size : ℕ) → size ≤ max_directory_size version → size / slot_size version ≤ max_names version
names_most One size few = omega (arith, few)
names_most Two size few = omega (arith, few)
names_most Three size few = omega (arith, few)

-- the bytes of slots are whole slots
pub slots_even : (version : Version) (n size : ℕ) → size ≡ slot_size version * n → size % slot_size version ≡ 0
slots_even One n size is = omega (arith, is)
slots_even Two n size is = omega (arith, is)
slots_even Three n size is = omega (arith, is)
