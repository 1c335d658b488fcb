-- The plan of READDIRPLUS: a directory is listed as by READDIR, and each name that fits is looked up as by LOOKUP.
--     names_within        the names that fit
--     bounded        as much as is told at once
--     find_listed, look_up_names        what the server finds under a name, and under several
--     told_record, records_bytes        the record of a name by what was found, and those of several
--     read_directory_plus        the request
use Rattle.std.specs.Prelude.{ℕ, ◌-◌, min, nat_le, Bool, List, [], ◌∷◌, length, Option, None, Some, Result, Ok, if◌then◌else◌}
use Rattle.std.specs.List.{flat_map}
use Rattle.fs_cred.specs.declared.errno.Errno.TheVariants.{EINVAL}
use Rattle.fs_model.specs.declared.reply.FileType.{FileType}
use Rattle.fs_model.specs.declared.reply.FileType.TheVariants as types
use Rattle.fuse_protocol.specs.declared.entry.DirectoryEntry.{DirectoryEntry}
use Rattle.fuse_protocol.specs.declared.entry.DirectoryRecord.{DirectoryRecord}
use Rattle.fuse_protocol.specs.declared.entry.EntryKind.{EntryKind}
use Rattle.fuse_protocol.specs.declared.entry.EntryKind.TheVariants as kinds
use Rattle.fuse_protocol.specs.declared.operation.Extent.{Extent}
use Rattle.fuse_protocol.specs.declared.reply.FoundEntry.{FoundEntry}
use Rattle.fuse_protocol.specs.Entries.{record_size, directory_record_bytes}
use Rattle.fuse_plans.specs.declared.reply.ReplyBody.{ReplyBody}
use Rattle.fuse_plans.specs.declared.reply.ReplyBody.TheVariants.{Found, Bytes}
use Rattle.fuse_plans.specs.declared.request_error.RequestError.{RequestError}
use Rattle.fuse_plans.specs.RequestErrors.{failed}
use Rattle.fuse_plans.specs.Protocol.{looked_up_entry}
use Rattle.fuse_plans.specs.Works.{Work, give, fail, ◌>>=◌, ◌>>◌, attempt, of_result}
use Rattle.fuse_plans.specs.Callers.{server_credential, the_number}
use Rattle.fuse_plans.specs.NamePlans.{plain_name, find_inside}
use Rattle.fuse_plans.specs.DirectoryPlans.{listed_entry, list_kept}
use Rattle.fuse_plans.specs.ListingOrder.{behind}

-- ---- what fits

-- the first of the names, as many as have room for their records
abbrev pub names_within : ℕ → List (ℕ × (List ℕ × ℕ)) → List (ℕ × (List ℕ × ℕ))
names_within size [] = []
names_within size (e ∷ es) =
    let needs = record_size (length e.1.0) in
    if nat_le needs size then e ∷ names_within (size - needs) es else []

-- No more is told at once, whatever the kernel has room for: so one request looks up at most 107 names, and others wait no longer for it.
abbrev pub most_looked_up : ℕ
most_looked_up = 16384

abbrev pub bounded : Extent → Extent
bounded extent = record extent { size = min extent.size most_looked_up }

-- ---- look-ups

-- a name has so many bytes at most on Linux
abbrev pub longest_name : ℕ
longest_name = 255

abbrev pub short_name : List ℕ → Work (Unit {0})
short_name name = if nat_le (length name) longest_name then give tt else fail (failed EINVAL)

-- What the server finds under a name in a directory. It may be kept as long as what LOOKUP tells. The directory itself and its parent
-- aren't looked up.
abbrev pub find_in_place : Bool → Result ℕ RequestError → List ℕ → Work ReplyBody
find_in_place nobody place name = do
  plain_name name
  d ← of_result place
  find_inside nobody server_credential d name

abbrev pub find_listed : Bool → Result ℕ RequestError → List ℕ → Work ReplyBody
find_listed nobody place name = do
  short_name name
  find_in_place nobody place name

-- a name of a listing, with the offset behind it and its inode there; and what a look-up of it came to
abbrev pub LookedUp : Type 0
LookedUp = (ℕ × (List ℕ × ℕ)) × Result ReplyBody RequestError

-- one after another: what is found counts as told
unfoldable pub look_up_names : Bool → Result ℕ RequestError → List (ℕ × (List ℕ × ℕ)) → Work (List LookedUp)
look_up_names nobody place [] = give []
look_up_names nobody place (e ∷ es) = do
  found ← attempt (find_listed nobody place e.1.0)
  others ← look_up_names nobody place es
  give ((e, found) ∷ others)

-- ---- records

abbrev pub entry_kind_of_type : FileType → EntryKind
entry_kind_of_type types.File = kinds.File
entry_kind_of_type types.Directory = kinds.Directory
entry_kind_of_type types.Link = kinds.Link

-- of what was not found no node is told
abbrev pub told_found : Result ReplyBody RequestError → Option FoundEntry
told_found (Ok (Found node name_valid shown)) = Some (looked_up_entry node name_valid shown)
told_found _ = None

-- of what was found its own inode and kind, and else what READDIR tells
abbrev pub record_entry : ℕ × (List ℕ × ℕ) → Result ReplyBody RequestError → DirectoryEntry
record_entry e (Ok (Found node name_valid shown)) =
    record { ino = shown.status.ino; next = e.0; kind = entry_kind_of_type shown.status.kind; name = e.1.0 }
record_entry e _ = listed_entry e

abbrev pub told_record : LookedUp → DirectoryRecord
told_record l = record { found = told_found l.1; entry = record_entry l.0 l.1 }

abbrev pub records_bytes : List LookedUp → List ℕ
records_bytes ls = flat_map (λ l. directory_record_bytes (told_record l)) ls

-- ---- the request

-- those of the names that fit into what is told at once are looked up in the directory of the node
abbrev pub tell_looked_up : Bool → Result ℕ RequestError → Extent → List (List ℕ × ℕ) → Work ReplyBody
tell_looked_up nobody place extent names = do
  found ← look_up_names nobody place (names_within (bounded extent).size (behind extent.offset names))
  give (Bytes (records_bytes found))

unfoldable pub read_directory_plus : Bool → ℕ → Extent → Work ReplyBody
read_directory_plus nobody node extent = do
  place ← attempt (the_number node)
  names ← list_kept node extent
  tell_looked_up nobody place extent names
