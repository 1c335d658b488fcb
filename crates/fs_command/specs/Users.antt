-- Who is asked about, and for what, by the words.
--     perms_said        the permissions that a word says
--     HasIds, HasNoIds, SaysUserIds        a word says a user and groups
--     AreCapsFor        a word says capabilities, or there is none
--     SaysUser        the words say a credential
--     SaysNoUser, SaysNoCaps        they say none
--     IsBadUser        why they say none
use Rattle.std.specs.Prelude.{◌≡◌, ◌<◌, ◌≤◌, ℕ, ◌==◌, not, List, ◌∷◌, length, map, codes, Option, None, Some, Result, Ok, Err, if◌then◌else◌}
use Rattle.std.specs.List.{after_first, before_first, filter, find, position_or_len, range_with_len, slice_split}
use Rattle.std.specs.Str.{bytes_eq}
use Rattle.posix_acl.specs.declared.entry.Perms.{Perms}
use Rattle.posix_acl.specs.Entries.{perms_of}
use Rattle.posix_acl.specs.Text.{is_colon, is_comma, perms_text}
use Rattle.fs_cred.specs.Capabilities.{no_caps, usual_caps}
use Rattle.fs_cred.specs.Credentials.{Credential}
use Rattle.fs_cred.specs.declared.caps.Caps.{Caps}
use Rattle.fs_lines.specs.Lines.{each}
use Rattle.fs_lines.specs.Words.{caps_with, id_of, perms_in}
use Rattle.fs_lines.specs.declared.line.LineFault.{LineFault}
use Rattle.fs_command.specs.declared.words.WordsFault.{WordsFault}
use Rattle.fs_command.specs.declared.words.WordsFault.TheVariants.{BadUser, BadCaps, OutOfMemory}

-- the letters of those that are asked for
abbrev pub letters_of : Perms → List ℕ
letters_of p = filter (λ b. not (b == 45)) (perms_text p)

-- the permissions with these letters, where some are asked for, and not all
abbrev pub lettered : List ℕ → Option Perms
lettered word = find (λ p. bytes_eq word (letters_of p)) (map perms_of (range_with_len 1 6))

abbrev pub perms_or : Result Perms LineFault → Option Perms → Option Perms
perms_or (Ok p) other = Some p
perms_or (Err fault) other = other

-- A word says permissions as the shell's do, or by these letters alone.
abbrev pub perms_said : List ℕ → Option Perms
perms_said word = perms_or (perms_in word) (lettered word)

-- A user stands before the first colon, and ids behind it, with commas between.
pub record HasIds (word : List ℕ) (uid : ℕ) (ids : List ℕ) : Type 0 where
  pub colon : position_or_len is_colon word < length word
  pub user : id_of (before_first is_colon word) ≡ Ok uid
  pub groups : each id_of (slice_split is_comma (after_first is_colon word)) ≡ Ok ids

abbrev pub HasNoIds : List ℕ → Type 0
HasNoIds word = (uid : ℕ) → (ids : List ℕ) → HasIds word uid ids → ⊥

-- The ids are those of a group, and of up to sixteen more.
pub record SaysUserIds (word : List ℕ) (uid gid : ℕ) (groups : List ℕ) : Type 0 where
  pub ids : HasIds word uid (gid ∷ groups)
  pub few : length groups ≤ 16

-- the capabilities with these names, or none of them
abbrev pub caps_named_by : List ℕ → Result Caps LineFault
caps_named_by word = if bytes_eq word (codes "none") then Ok no_caps else caps_with no_caps (slice_split is_comma word)

-- without a word those that the user has in the shell
abbrev pub AreCapsFor : ℕ → Option (List ℕ) → Caps → Type 0
AreCapsFor uid None caps = caps ≡ usual_caps uid
AreCapsFor uid (Some word) caps = caps_named_by word ≡ Ok caps

pub record SaysUser (word : List ℕ) (caps : Option (List ℕ)) (cred : Credential) : Type 0 where
  pub user : SaysUserIds word cred.uid cred.gid cred.groups
  pub named : AreCapsFor cred.uid caps cred.caps

abbrev pub SaysNoUser : List ℕ → Type 0
SaysNoUser word = (uid gid : ℕ) → (groups : List ℕ) → SaysUserIds word uid gid groups → ⊥

abbrev pub SaysNoCaps : List ℕ → Type 0
SaysNoCaps word = (caps : Caps) → caps_named_by word ≡ Ok caps → ⊥

-- why the words say no credential: memory may run out at any words
abbrev pub IsBadUser : List ℕ → Option (List ℕ) → WordsFault → Type 0
IsBadUser word caps BadUser = SaysNoUser word
IsBadUser word caps BadCaps = (names : List ℕ) × (caps ≡ Some names) × SaysNoCaps names
IsBadUser word caps OutOfMemory = Unit {0}
IsBadUser word caps fault = ⊥
