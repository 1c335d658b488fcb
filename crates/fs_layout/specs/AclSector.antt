-- An ACL in a sector of its own: our own layout.
--     acl_sector_bytes, acl_sector_of        the bytes of such a sector, and what bytes are read as
--     acl_content        the sector of an ACL
--     HoldsAcl        a sector has the ACL, where there is one
--     kept_acl        of a file's or a directory's ACL what has a sector
use Rattle.std.specs.Prelude.{ℕ, zero, suc, ◌+◌, ◌-◌, ◌*◌, ◌<◌, ◌≤◌, ◌^◌, ◌++◌, List, [], ◌∷◌, length, drop, Result, Ok, Err, nat_lt, if◌then◌else◌, ◌&&◌, All, ◌≡◌, ◌≢◌, Option, Some, None}
use Rattle.std.specs.List.{flat_map}
use Rattle.posix_acl.specs.declared.entry.EntryNumbers.{EntryNumbers}
use Rattle.posix_acl.specs.declared.validity.TheConstants.{MAX_ENTRIES}
use Rattle.fs_layout.specs.declared.fault.LayoutFault.{LayoutFault}
use Rattle.fs_layout.specs.declared.fault.LayoutFault.TheVariants.{BadNumber, NotZero}
use Rattle.fs_layout.specs.Bytes.{window, le16, le32, zeros, u16_of, u32_of, are_zero, SectorMap}
use Rattle.posix_acl.specs.AccessList.{AccessList, is_extended, list_numbers}

-- tag, permissions, id
abbrev pub entry_bytes : EntryNumbers → List ℕ
entry_bytes e = le16 e.tag ++ (le16 e.perms ++ le32 e.id)

-- entries one after the other
unfoldable pub entries_bytes : List EntryNumbers → List ℕ
entries_bytes es = flat_map entry_bytes es

-- how many entries, zeros, the entries, zeros
abbrev pub acl_sector_bytes : List EntryNumbers → List ℕ
acl_sector_bytes es = le16 (length es) ++ (zeros 6 ++ (entries_bytes es ++ zeros (504 - 8 * length es)))

-- each number fits its field
pub record FitsAclEntry (e : EntryNumbers) : Type 0 where
  pub tag : e.tag < 2 ^ 16
  pub perms : e.perms < 2 ^ 16
  pub id : e.id < 2 ^ 32

-- the entries have room, and fit their fields
pub record FitsAclSector (es : List EntryNumbers) : Type 0 where
  pub few : length es ≤ MAX_ENTRIES
  pub entries : All FitsAclEntry es

-- the entry that stands at an offset
abbrev pub acl_entry_at : List ℕ → ℕ → EntryNumbers
acl_entry_at s at = record { tag = u16_of s at; perms = u16_of s (at + 2); id = u32_of s (at + 4) }

-- the n entries that stand from an offset on
unfoldable pub acl_entries_at : List ℕ → ℕ → ℕ → List EntryNumbers
acl_entries_at s at zero = []
acl_entries_at s at (suc n) = acl_entry_at s at ∷ acl_entries_at s (at + 8) n

-- the entries that 512 bytes are, or the first fault
unfoldable pub acl_sector_of : List ℕ → Result (List EntryNumbers) LayoutFault
acl_sector_of s =
    if nat_lt MAX_ENTRIES (u16_of s 0) then Err BadNumber else
    (if are_zero (window s 2 6) && are_zero (drop (8 + 8 * u16_of s 0) s) then Ok (acl_entries_at s 8 (u16_of s 0)) else Err NotZero)

-- ---- an ACL, and the sector that has it

-- the entries in canonical order
unfoldable pub acl_content : AccessList → List ℕ
acl_content a = acl_sector_bytes (list_numbers a)

-- sector s has the ACL, or is 0 and there is none
abbrev pub HoldsAcl : SectorMap → ℕ → Option AccessList → Type 0
HoldsAcl image s None = s ≡ 0
HoldsAcl image s (Some a) = (s ≢ 0) × (image s ≡ acl_content a)

-- an ACL that is no more than mode bits has no sector
abbrev pub kept_acl : AccessList → Option AccessList
kept_acl a = if is_extended a then Some a else None
