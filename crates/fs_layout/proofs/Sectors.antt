-- What is spelled are bytes, and a sector stays one where bytes are written into it.
use Rattle.std.proofs.Common.{ℕ, zero, suc, ◌+◌, ◌-◌, ◌<◌, ◌≤◌, List, [], ◌∷◌, ◌++◌, length, take, drop, refl, arith, inl, inr, ◌*◌, ◌/◌, ◌^◌}
use Rattle.std.proofs.Math.Nat.{mod-lt}
use Rattle.std.proofs.lemmas.Bool.{cases_lt}
use Rattle.std.proofs.lemmas.List.{get_or-append_right, get_or_append_left, get_or-drop, get_or-take, get_or_past, length-append, length-drop, length-take, length-take-le}
use Rattle.std.specs.Int.{byte_at, bytes_low_first}
use Rattle.posix_acl.specs.declared.entry.EntryNumbers.{EntryNumbers}
use Rattle.fs_layout.specs.declared.inode.Inode.{Inode}
use Rattle.fs_layout.specs.declared.superblock.Super.{Super}
use Rattle.fs_layout.specs.Bytes.{IsBytes, IsSector, splice, le16, le32, le64, le32s, zeros}
use Rattle.fs_layout.specs.AclSector.{acl_sector_bytes, entry_bytes, entries_bytes}
use Rattle.fs_layout.specs.Commit.{commit_bytes, commit_magic}
use Rattle.fs_layout.specs.Inode.{inode_bytes, kind_number}
use Rattle.fs_layout.specs.Directories.{NamedInode, FitsSlot, slot_bytes}
use Rattle.fs_layout.specs.Superblock.{super_bytes, super_magic}
use Rattle.fs_layout.specs.declared.version.Version.{Version}
use Rattle.fs_layout.specs.Version.{version_number, max_name}
use Rattle.fs_layout.proofs.AclSectorLaw.{length-acl_sector_bytes}
use Rattle.fs_layout.proofs.CommitLaw.{length-commit_bytes}
use Rattle.fs_layout.proofs.SuperLaw.{length-super_bytes}

pub IsBytes-append : (xs ys : List ℕ) → IsBytes xs → IsBytes ys → IsBytes (xs ++ ys)
IsBytes-append xs ys a b i = elim (cases_lt i (length xs)) [
  | inl lt ↦ rw (get_or_append_left xs ys 0 i lt) (a i)
  | inr le ↦ rw (get_or-append_right xs ys (length xs) i 0 refl le) (b (i - length xs))
]

IsBytes-cons : (x : ℕ) (xs : List ℕ) → x < 256 → IsBytes xs → IsBytes (x ∷ xs)
IsBytes-cons x xs small rest zero = small
IsBytes-cons x xs small rest (suc i) = rest i

pub IsBytes-take : (n : ℕ) (s : List ℕ) → IsBytes s → IsBytes (take n s)
IsBytes-take n s small i = elim (cases_lt i n) [
  | inl lt ↦ rw (get_or-take n s i 0 lt) (small i)
  | inr le ↦ rw (get_or_past (take n s) i 0 (omega (arith, length-take n s))) (omega arith)
]

pub IsBytes-drop : (n : ℕ) (s : List ℕ) → IsBytes s → IsBytes (drop n s)
IsBytes-drop n s small i = rw get_or-drop (small (n + i))

byte_small : (i x : ℕ) → byte_at i x < 256
byte_small zero x = omega arith
byte_small (suc i) x = mod-lt (x / 256 ^ suc i) (omega arith)

IsBytes-number : (first n x : ℕ) → IsBytes (bytes_low_first first n x)
IsBytes-number first zero x i = omega arith
IsBytes-number first (suc n) x zero = byte_small first x
IsBytes-number first (suc n) x (suc i) = IsBytes-number (suc first) n x i

pub IsBytes-le16 : (x : ℕ) → IsBytes (le16 x)
unfolding le16
IsBytes-le16 x = IsBytes-number 0 2 x

pub IsBytes-le32 : (x : ℕ) → IsBytes (le32 x)
unfolding le32
IsBytes-le32 x = IsBytes-number 0 4 x

pub IsBytes-le64 : (x : ℕ) → IsBytes (le64 x)
unfolding le64
IsBytes-le64 x = IsBytes-number 0 8 x

pub IsBytes-zeros : (n : ℕ) → IsBytes (zeros n)
unfolding zeros
IsBytes-zeros zero i = omega arith
IsBytes-zeros (suc n) zero = omega arith
IsBytes-zeros (suc n) (suc i) = IsBytes-zeros n i

pub IsBytes-le32s : (xs : List ℕ) → IsBytes (le32s xs)
unfolding le32s
IsBytes-le32s [] i = omega arith
IsBytes-le32s (x ∷ xs) i = IsBytes-append (le32 x) (le32s xs) (IsBytes-le32 x) (IsBytes-le32s xs) i

-- a sector with bytes written into it
pub IsSector-splice : (s x : List ℕ) (at : ℕ) → IsSector s → IsBytes x → at + length x ≤ 512 → IsSector (splice s at x)
unfolding splice
IsSector-splice s x at is small room = record {
  len =
      omega (
        arith,
        is.len,
        length-take-le at s (omega (arith, is.len)),
        length-drop (at + length x) s,
        length-append x (drop (at + length x) s),
        length-append (take at s) (x ++ drop (at + length x) s),
      );
  bytes =
      IsBytes-append (take at s) (x ++ drop (at + length x) s) (IsBytes-take at s is.bytes)
      (IsBytes-append x (drop (at + length x) s) small (IsBytes-drop (at + length x) s is.bytes));
}

-- ---- what each structure is spelled as
pub IsSector-super_bytes : (v : Super) → IsSector (super_bytes v)
IsSector-super_bytes v = let n = version_number v.version in record {
  len = length-super_bytes v;
  bytes =
      IsBytes-append (le32 super_magic) (le32 n ++ (le32 v.sectors ++ (le32 v.inodes ++ (le32 v.header ++ zeros 492)))) (IsBytes-le32 super_magic)
      (IsBytes-append (le32 n) (le32 v.sectors ++ (le32 v.inodes ++ (le32 v.header ++ zeros 492))) (IsBytes-le32 n)
      (IsBytes-append (le32 v.sectors) (le32 v.inodes ++ (le32 v.header ++ zeros 492)) (IsBytes-le32 v.sectors)
      (IsBytes-append (le32 v.inodes) (le32 v.header ++ zeros 492) (IsBytes-le32 v.inodes)
      (IsBytes-append (le32 v.header) (zeros 492) (IsBytes-le32 v.header) (IsBytes-zeros 492)))));
}

pub IsSector-commit_bytes : (ts : List ℕ) → IsSector (commit_bytes ts)
IsSector-commit_bytes ts = record {
  len = length-commit_bytes ts;
  bytes =
      IsBytes-append (le32 commit_magic) (le32 (length ts) ++ (le32s (take 126 ts) ++ zeros (504 - 4 * length ts))) (IsBytes-le32 commit_magic)
      (IsBytes-append (le32 (length ts)) (le32s (take 126 ts) ++ zeros (504 - 4 * length ts)) (IsBytes-le32 (length ts))
      (IsBytes-append (le32s (take 126 ts)) (zeros (504 - 4 * length ts)) (IsBytes-le32s (take 126 ts)) (IsBytes-zeros (504 - 4 * length ts))));
}

entry_is_bytes : (e : EntryNumbers) → IsBytes (entry_bytes e)
entry_is_bytes e =
    IsBytes-append (le16 e.tag) (le16 e.perms ++ le32 e.id) (IsBytes-le16 e.tag)
    (IsBytes-append (le16 e.perms) (le32 e.id) (IsBytes-le16 e.perms) (IsBytes-le32 e.id))

entries_are_bytes : (es : List EntryNumbers) → IsBytes (entries_bytes es)
unfolding entries_bytes
entries_are_bytes [] i = omega arith
entries_are_bytes (e ∷ es) i = IsBytes-append (entry_bytes e) (entries_bytes es) (entry_is_bytes e) (entries_are_bytes es) i

pub IsSector-acl_sector_bytes : (es : List EntryNumbers) → length es ≤ 32 → IsSector (acl_sector_bytes es)
IsSector-acl_sector_bytes es few = record {
  len = length-acl_sector_bytes es few;
  bytes =
      IsBytes-append (le16 (length es)) (zeros 6 ++ (entries_bytes es ++ zeros (504 - 8 * length es))) (IsBytes-le16 (length es))
      (IsBytes-append (zeros 6) (entries_bytes es ++ zeros (504 - 8 * length es)) (IsBytes-zeros 6)
      (IsBytes-append (entries_bytes es) (zeros (504 - 8 * length es)) (entries_are_bytes es) (IsBytes-zeros (504 - 8 * length es))));
}

pub IsBytes-slot_bytes : (version : Version) (v : NamedInode) → FitsSlot version v → IsBytes (slot_bytes version v)
IsBytes-slot_bytes version v f =
    IsBytes-append (le32 v.ino) (length v.name ∷ (zeros 3 ++ (v.name ++ zeros (max_name version - length v.name)))) (IsBytes-le32 v.ino)
    (IsBytes-cons (length v.name) (zeros 3 ++ (v.name ++ zeros (max_name version - length v.name))) (omega (arith, f.name.short))
    (IsBytes-append (zeros 3) (v.name ++ zeros (max_name version - length v.name)) (IsBytes-zeros 3)
    (IsBytes-append v.name (zeros (max_name version - length v.name)) f.bytes (IsBytes-zeros (max_name version - length v.name)))))

pub IsBytes-inode_bytes : (v : Inode) → IsBytes (inode_bytes v)
IsBytes-inode_bytes v =
    IsBytes-append _ _ (IsBytes-le16 (kind_number v.kind)) (IsBytes-append _ _ (IsBytes-le16 v.mode)
    (IsBytes-append _ _ (IsBytes-le32 v.uid) (IsBytes-append _ _ (IsBytes-le32 v.gid) (IsBytes-append _ _ (IsBytes-le32 v.names)
    (IsBytes-append _ _ (IsBytes-le64 v.size) (IsBytes-append _ _ (IsBytes-le32 v.parent)
    (IsBytes-append _ _ (IsBytes-le32 v.acl) (IsBytes-append _ _ (IsBytes-le32 v.default_acl)
    (IsBytes-append _ _ (IsBytes-le32s v.direct) (IsBytes-append _ _ (IsBytes-le32s v.indirect)
    (IsBytes-append _ _ (IsBytes-le64 v.mtime) (IsBytes-append _ _ (IsBytes-le64 v.ctime) (IsBytes-append _ _ (IsBytes-le64 v.atime) (IsBytes-zeros 8))))))))))))))
