-- Plans of requests for directories. An open directory holds no handle of the machine.
--     open_directory, take_directory, read_directory, close_directory
use Rattle.std.specs.Prelude.{ℕ, ◌-◌, ◌==◌, nat_le, Bool, true, false, ◌||◌, List, [], ◌∷◌, length, codes, bytes_eq, Option, Some, Result, Ok, Err, if◌then◌else◌}
use Rattle.std.specs.List.{flat_map}
use Rattle.posix_acl.specs.Entries.{perms_of}
use Rattle.fs_cred.specs.Credentials.{Credential}
use Rattle.fs_cred.specs.declared.errno.Errno.TheVariants.{EBADF}
use Rattle.fs_model.specs.declared.call.Call.TheVariants.{Open as OpenCall, Access}
use Rattle.fs_model.specs.declared.event.Event.TheVariants.{CallBy, Sync}
use Rattle.fs_model.specs.declared.event.HandleCall.TheVariants as by_handle
use Rattle.fs_model.specs.declared.reply.Reply.{Reply}
use Rattle.fuse_plans.specs.declared.request_error.RequestError.{RequestError}
use Rattle.fuse_plans.specs.declared.request_error.RequestError.TheVariants.{Lacks}
use Rattle.fuse_plans.specs.RequestErrors.{failed}
use Rattle.fuse_plans.specs.declared.request_error.OtherErrno.TheVariants.{ENFILE, ESTALE}
use Rattle.fuse_plans.specs.declared.request.Asked.{Asked}
use Rattle.fuse_protocol.specs.declared.entry.DirectoryEntry.{DirectoryEntry}
use Rattle.fuse_protocol.specs.declared.entry.EntryKind.{EntryKind}
use Rattle.fuse_protocol.specs.declared.entry.EntryKind.TheVariants.{Unknown, Directory}
use Rattle.fuse_protocol.specs.declared.flags.OpenedFlags.{OpenedFlags}
use Rattle.fuse_protocol.specs.declared.operation.Extent.{Extent}
use Rattle.fuse_protocol.specs.Entries.{directory_entry_bytes, entry_size}
use Rattle.fuse_plans.specs.declared.reply.ReplyBody.{ReplyBody}
use Rattle.fuse_plans.specs.declared.reply.ReplyBody.TheVariants.{Nothing, Opened, Bytes}
use Rattle.fuse_state.specs.declared.settings.Settings.{Settings}
use Rattle.fuse_state.specs.Servers.{Server, may_open_directory, directory_of, listing_of, with_opened, with_listing, without_directory}
use Rattle.fuse_state.specs.declared.directory.OpenDirectory.{OpenDirectory}
use Rattle.fuse_plans.specs.Works.{Work, give, fail, kept, keep, ◌>>=◌, ◌>>◌, ask, attempt, of_result, needed, obtain, replied_opened, replied_names}
use Rattle.fuse_plans.specs.Callers.{server_credential, who_asks, on, the_number}
use Rattle.fuse_plans.specs.Flags.{listing}
use Rattle.fuse_plans.specs.ListingOrder.{in_order, behind}

-- the kernel may keep the listing, and go on in it by the offsets of another one: KEEP_CACHE and CACHE_DIR
abbrev pub directory_flags : Settings → OpenedFlags
directory_flags settings = record { 0 = if settings.keeping.pages then 10 else 0 }

abbrev pub opened_directory_body : ℕ → Server → ReplyBody
opened_directory_body handle s = Opened handle (directory_flags s.settings)

abbrev pub take_directory_if : ℕ → ℕ → Bool → Work ReplyBody
take_directory_if uid node false = fail (Lacks ENFILE)
take_directory_if uid node true = do
  handle ← kept (λ s. s.next_directory)
  keep (with_opened uid node)
  kept (opened_directory_body handle)

-- where the user may open one more
unfoldable pub take_directory : ℕ → ℕ → Work ReplyBody
take_directory uid node = do
  may ← kept (λ s. may_open_directory s uid)
  take_directory_if uid node may

-- a directory that was removed has no names, and of it nothing is asked
abbrev pub or_removed : Result Reply RequestError → Work (Unit {0})
or_removed (Ok reply) = give tt
or_removed (Err (Lacks ESTALE)) = give tt
or_removed (Err e) = fail e

-- asks for reading
abbrev pub ask_reading : Credential → ℕ → Work Reply
ask_reading cred node = do
  n ← the_number node
  on cred n (Access [] (perms_of 4))

-- as who asks
abbrev pub open_directory : Asked → Work ReplyBody
open_directory r = do
  cred ← who_asks r.cred
  read ← attempt (ask_reading cred r.node)
  or_removed read
  take_directory cred.uid r.node

-- ---- listings

-- the kind is told of the directory itself and its parent alone
abbrev pub entry_kind : List ℕ → EntryKind
entry_kind name = if bytes_eq name (codes ".") || bytes_eq name (codes "..") then Directory else Unknown

-- a name with its inode, and the offset behind it
abbrev pub listed_entry : ℕ × (List ℕ × ℕ) → DirectoryEntry
listed_entry e = record { ino = e.1.1; next = e.0; kind = entry_kind e.1.0; name = e.1.0 }

-- the first of the names, as many as fit
abbrev pub fitting : ℕ → List (ℕ × (List ℕ × ℕ)) → List DirectoryEntry
fitting size [] = []
fitting size (e ∷ es) =
    let needs = entry_size (length e.1.0) in
    if nat_le needs size then listed_entry e ∷ fitting (size - needs) es else []

-- as many entries as fit, byte for byte
abbrev pub listing_bytes : ℕ → List (ℕ × (List ℕ × ℕ)) → List ℕ
listing_bytes size names = flat_map directory_entry_bytes (fitting size names)

unfoldable pub tell_names : ℕ → Work (List (List ℕ × ℕ))
tell_names handle = do
  reply ← obtain (CallBy handle by_handle.List)
  replied_names reply

-- the names in what was opened, and then it is closed
abbrev pub list_and_close : ℕ → Work (List (List ℕ × ℕ))
list_and_close handle = do
  names ← attempt (tell_names handle)
  ask (CallBy handle by_handle.Close)
  of_result names

abbrev pub list_opened : Result Reply RequestError → Work (List (List ℕ × ℕ))
list_opened (Ok reply) = do
  opened ← replied_opened reply
  list_and_close opened.0
list_opened (Err (Lacks ESTALE)) = give []
list_opened (Err e) = fail e

-- the names in a directory, as the server sees them; none where it was removed
unfoldable pub list_all : ℕ → Work (List (List ℕ × ℕ))
list_all n = do
  opened ← attempt (on server_credential n (OpenCall [] listing 0))
  list_opened opened

-- once the directory is gone another may have its number
abbrev pub only_node : ℕ → ℕ → Work (Unit {0})
only_node opened node = if node == opened then give tt else fail (Lacks ESTALE)

-- the names that are there now, in the directory of the node, if that is the one that is open
abbrev pub list_now : ℕ → ℕ → ℕ → Work (List (List ℕ × ℕ))
list_now node handle opened = do
  n ← the_number node
  only_node opened node
  names ← list_all n
  keep (with_listing handle (in_order names))
  give (in_order names)

-- At the beginning it is listed anew. Else whichever listing of it was made last goes on: offsets follow from names alone.
abbrev pub listed : ℕ → ℕ → OpenDirectory → Bool → Option (List (List ℕ × ℕ)) → Work (List (List ℕ × ℕ))
listed node handle d false (Some names) = give names
listed node handle d _ _ = list_now node handle d.node

abbrev pub tell_listed : Extent → List (List ℕ × ℕ) → Work ReplyBody
tell_listed extent names = give (Bytes (listing_bytes extent.size (behind extent.offset names)))

-- the names of an open directory
unfoldable pub list_kept : ℕ → Extent → Work (List (List ℕ × ℕ))
list_kept node extent = do
  known ← kept (λ s. directory_of s extent.handle)
  d ← needed (failed EBADF) known
  made ← kept (λ s. listing_of s extent.handle)
  listed node extent.handle d (extent.offset == 0) made

unfoldable pub read_directory : ℕ → Extent → Work ReplyBody
read_directory node extent = do
  names ← list_kept node extent
  tell_listed extent names

unfoldable pub close_directory : ℕ → Work ReplyBody
close_directory handle = do
  keep (without_directory handle)
  give Nothing

unfoldable pub sync_all : Work ReplyBody
sync_all = do
  obtain Sync
  give Nothing
