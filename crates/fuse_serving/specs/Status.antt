-- What /proc/PID/status says of a process: proc(5).
--     HasLine        a line of the text begins so
--     SaysNumber, SaysIds        digits, and numbers with spaces between them
--     SaysGroups, SaysCaps        the supplementary groups, where they aren't too many; which capabilities are in effect
--     SaysLastId, ActsAs        as which user and group it acts on files
--     SaysCaller        what is known of it is what the text says
use Rattle.std.specs.Prelude.{◌≡◌, ℕ, ◌^◌, ◌<◌, ◌≤◌, ◌==◌, Bool, List, [], ◌∷◌, ◌++◌, length, codes, bit_and, Contains, drop, ◌+◌, ◌⊎◌, IfSome}
use Rattle.std.specs.List.{slice_split, slice_index}
use Rattle.std.specs.Str.Parse.{IsNumeral, digits_value, without_leading_plus}
use Rattle.fs_cred.specs.declared.caps.Caps.{Caps}
use Rattle.fs_cred.specs.Capabilities.{no_caps, all_caps}
use Rattle.fuse_serving.specs.declared.caller.Caller.{Caller}

abbrev pub ends_line : ℕ → Bool
ends_line byte = byte == 10

abbrev pub is_blank_byte : ℕ → Bool
is_blank_byte byte = byte == 32

-- the name of the line, and what follows it
abbrev pub HasLine : List ℕ → List ℕ → List ℕ → Type 0
HasLine text name rest = Contains (slice_split ends_line text) (name ++ rest)

-- A plus may stand first.
pub record SaysNumber (bits radix : ℕ) (word : List ℕ) (n : ℕ) : Type 0 where
  pub numeral : IsNumeral radix (without_leading_plus word)
  pub value : n ≡ digits_value radix (without_leading_plus word)
  pub fits : n < 2 ^ bits

-- an empty word says nothing
pub data SaysIds : List (List ℕ) → List ℕ → Type 0 where
  no_word : SaysIds [] []
  empty_word : (words : List (List ℕ)) (ids : List ℕ) → SaysIds words ids → SaysIds ([] ∷ words) ids
  one_id : (word : List ℕ) (id : ℕ) (words : List (List ℕ)) (ids : List ℕ) → SaysNumber 32 10 word id → SaysIds words ids
      → SaysIds (word ∷ words) (id ∷ ids)

abbrev pub groups_name : List ℕ
groups_name = codes "Groups:\t"

-- Of who is in more groups than these none is known: each of its requests would take long.
abbrev pub known_groups_limit : ℕ
known_groups_limit = 4096

pub record SaysGroups (text groups : List ℕ) : Type 0 where
  pub rest : List ℕ
  pub line : HasLine text groups_name rest
  pub ids : SaysIds (slice_split is_blank_byte rest) groups
  pub few : length groups ≤ known_groups_limit

abbrev pub tab : ℕ
tab = 9

-- The number behind the last tab of the line.
pub record SaysLastId (text name : List ℕ) (id : ℕ) : Type 0 where
  pub rest : List ℕ
  pub line : HasLine text name rest
  pub at : ℕ
  pub is_tab : slice_index rest at ≡ tab
  pub number : SaysNumber 32 10 (drop (at + 1) rest) id

abbrev pub user_name : List ℕ
user_name = codes "Uid:\t"

abbrev pub group_name : List ℕ
group_name = codes "Gid:\t"

-- The real, the effective and the saved id of a process stand first, and last the one as which it acts on files: credentials(7).
pub record ActsAs (text : List ℕ) (uid gid : ℕ) : Type 0 where
  pub user : SaysLastId text user_name uid
  pub group : SaysLastId text group_name gid

abbrev pub caps_name : List ℕ
caps_name = codes "CapEff:\t"

-- The capabilities that are asked about are the lowest bits, in the same order.
pub record SaysCaps (text : List ℕ) (caps : Caps) : Type 0 where
  pub rest : List ℕ
  pub line : HasLine text caps_name rest
  pub bits : ℕ
  pub number : SaysNumber 64 16 rest bits
  pub those : caps.0 ≡ bit_and bits all_caps.0

-- A process that acts on files as this user and this group is known. Its groups are all that the text says, where they are known, and
-- its capabilities are those of the text, or none.
pub record SaysCaller (text : List ℕ) (uid gid : ℕ) (caller : Caller) : Type 0 where
  pub acts : ActsAs text uid gid
  pub groups : IfSome caller.groups (SaysGroups text)
  pub caps : (caller.caps ≡ no_caps) ⊎ SaysCaps text caller.caps
