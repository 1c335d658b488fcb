-- ACLs as the values of attributes, as Linux spells them.
--     acl_value_bytes        the value of entries
--     IsAclValue        the value says these entries
use Rattle.std.specs.Prelude.{◌≡◌, ℕ, zero, suc, ◌+◌, ◌*◌, List, [], ◌∷◌, ◌++◌, length, map, if◌then◌else◌}
use Rattle.std.specs.List.{flat_map}
use Rattle.posix_acl.specs.declared.entry.Entry.{Entry}
use Rattle.posix_acl.specs.declared.entry.EntryNumbers.{EntryNumbers}
use Rattle.posix_acl.specs.Entries.{tag_number, digit_of, is_named, numbers_of}
use Rattle.fuse_protocol.specs.declared.acl_value.TheConstants.{ACL_VERSION, ACL_HEADER_SIZE, ACL_ENTRY_SIZE, NO_ID}
use Rattle.fuse_protocol.specs.Bytes.{short_at, word_at, bytes_of_u16s, bytes_of_u32s}

-- tag and permissions of 16 bits, then the id, where the tag takes one
abbrev pub acl_entry_bytes : Entry → List ℕ
acl_entry_bytes e =
    bytes_of_u16s (tag_number e.tag ∷ digit_of e.perms ∷ []) ++ bytes_of_u32s ((if is_named e.tag then e.id else NO_ID) ∷ [])

-- the version, then the entries
unfoldable pub acl_value_bytes : List Entry → List ℕ
acl_value_bytes es = bytes_of_u32s (ACL_VERSION ∷ []) ++ flat_map acl_entry_bytes es

-- the numbers of the entry at an offset
abbrev pub numbers_at : List ℕ → ℕ → EntryNumbers
numbers_at s at = record { tag = short_at s at; perms = short_at s (at + 2); id = word_at s (at + 4) }

-- the numbers of the first n entries
unfoldable pub first_numbers : List ℕ → ℕ → List EntryNumbers
first_numbers s zero = []
first_numbers s (suc n) = first_numbers s n ++ numbers_at s (ACL_HEADER_SIZE + ACL_ENTRY_SIZE * n) ∷ []

-- the value has the version, and is these entries and nothing more
pub record IsAclValue (s : List ℕ) (es : List Entry) : Type 0 where
  pub size : length s ≡ ACL_HEADER_SIZE + ACL_ENTRY_SIZE * length es
  pub version : word_at s 0 ≡ ACL_VERSION
  pub entries : map numbers_of es ≡ first_numbers s (length es)
