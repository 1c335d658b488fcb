-- What a server keeps between requests. Its maps are lists of entries with rising keys.
--     Server, new_server        the whole
--     node_of, number_of_node        nodes, by which the kernel names objects, and the numbers of their inodes
--     with_generation        a new object has a number
--     times_of, with_new_contents, with_change_time        times of objects, where the disk keeps none
--     directory_holders, may_open_directory        who has opened directories, and whether a user may open one more
--     with_opened, with_listing, without_directory        open directories, and one listing of each
--     WithinShares        none has opened more than it may
--     removed_directory_of, with_removed_directory, without_nodes        what is shown of directories that were removed, until the kernel forgets them
--     with_acls_offered, with_end, with_kept_at        what is agreed on, the end, and when all was last made to last
use Rattle.std.specs.Prelude.{◌≡◌, ℕ, ◌+◌, ◌*◌, ◌/◌, ◌%◌, ◌^◌, ◌==◌, ◌≤◌, Bool, true, false, ◌&&◌, List, [], ◌∷◌, map, Option, None, Some, unwrap_or, option_and_then, slice_get, if◌then◌else◌}
use Rattle.std.specs.Ordering.{nat_cmp}
use Rattle.std.specs.List.{list_any}
use Rattle.fs_layout.specs.Maps.{get, with_entry, without, IsMap}
use Rattle.fuse_protocol.specs.declared.reply.Time.{Time}
use Rattle.fuse_state.specs.Shares.{directory_shares, may_hold, KeepsShares}
use Rattle.fuse_state.specs.declared.directory.OpenDirectory.{OpenDirectory}
use Rattle.fuse_state.specs.declared.removed.RemovedDirectory.{RemovedDirectory}
use Rattle.fuse_state.specs.declared.settings.Settings.{Settings}
use Rattle.fuse_state.specs.declared.times.Times.{Times}

pub record Server : Type 0 where
  pub settings : Settings
  -- how often each number was given to a new object, modulo 2 ^ 32
  pub generations : List (ℕ × ℕ)
  -- of objects, where the disk keeps none
  pub times : List (ℕ × Times)
  pub directories : List (ℕ × OpenDirectory)
  -- of the directories that are open, by their nodes, the listings that were made last
  pub listings : List (ℕ × List (List ℕ × ℕ))
  pub next_directory : ℕ
  -- of directories that were removed, by their nodes, what is shown
  pub removed_directories : List (ℕ × RemovedDirectory)
  pub ended : Bool
  -- when the server itself last made all last
  pub kept_at : Time

abbrev pub new_server : Settings → Server
new_server settings = record {
  settings = settings;
  generations = [];
  times = [];
  directories = [];
  listings = [];
  next_directory = 0;
  removed_directories = [];
  ended = false;
  kept_at = settings.start;
}

-- ---- nodes

abbrev pub generation_of : Server → ℕ → ℕ
generation_of s n = unwrap_or (get nat_cmp s.generations n) 0

-- a number and its generation
abbrev pub node_of : Server → ℕ → ℕ
node_of s n = 2 ^ 32 * generation_of s n + n

-- a number is given to one more new object
abbrev pub with_generation : ℕ → Server → Server
with_generation n s = record s { generations = with_entry nat_cmp s.generations n ((generation_of s n + 1) % 2 ^ 32) }

-- the number of a node, unless another object has got it since
abbrev pub number_of_node : Server → ℕ → Option ℕ
number_of_node s node = if generation_of s (node % 2 ^ 32) == node / 2 ^ 32 then Some (node % 2 ^ 32) else None

-- ---- times

abbrev pub times_of : Server → ℕ → Times
times_of s n =
    let start = s.settings.start in
    unwrap_or (get nat_cmp s.times n) (record { atime = start; mtime = start; ctime = start })

-- a disk that keeps times has them for the server
abbrev pub times_with : Bool → ℕ → Times → List (ℕ × Times) → List (ℕ × Times)
times_with true n times old = old
times_with false n times old = with_entry nat_cmp old n times

abbrev pub with_times_of : ℕ → Times → Server → Server
with_times_of n times s = record s { times = times_with s.settings.keeps_times n times s.times }

-- the contents of an object have changed
abbrev pub with_new_contents : Time → ℕ → Server → Server
with_new_contents now n s = with_times_of n (record (times_of s n) { mtime = now; ctime = now }) s

-- something else of it has
abbrev pub with_change_time : Time → ℕ → Server → Server
with_change_time now n s = with_times_of n (record (times_of s n) { ctime = now }) s

-- ---- open directories

-- the users who opened them, with an entry for each directory
abbrev pub directory_holders : Server → List ℕ
directory_holders s = map (λ e. e.1.owner) s.directories

-- the user may open one more: our own rule
abbrev pub may_open_directory : Server → ℕ → Bool
may_open_directory s uid = may_hold directory_shares (directory_holders s) uid

abbrev pub directory_of : Server → ℕ → Option OpenDirectory
directory_of s handle = get nat_cmp s.directories handle

-- the directory of a node is open
abbrev pub is_directory_open : List (ℕ × OpenDirectory) → ℕ → Bool
is_directory_open directories node = list_any (λ e. e.1.node == node) directories

abbrev pub listing_in : List (ℕ × List (List ℕ × ℕ)) → Option OpenDirectory → Option (List (List ℕ × ℕ))
listing_in listings None = None
listing_in listings (Some d) = get nat_cmp listings d.node

-- the listing that was made last of the directory that is open there, through whichever handle
abbrev pub listing_of : Server → ℕ → Option (List (List ℕ × ℕ))
listing_of s handle = listing_in s.listings (directory_of s handle)

-- a name of it, with its inode, counted from 0
abbrev pub named_at : Server → ℕ → ℕ → Option (List ℕ × ℕ)
named_at s handle at = option_and_then (λ names. slice_get names at) (listing_of s handle)

-- a user opens the directory of a node
abbrev pub with_opened : ℕ → ℕ → Server → Server
with_opened uid node s = record s {
  directories = with_entry nat_cmp s.directories s.next_directory (record { node = node; owner = uid });
  next_directory = s.next_directory + 1;
}

-- in place of the one before
abbrev pub listings_with : List (ℕ × List (List ℕ × ℕ)) → Option OpenDirectory → List (List ℕ × ℕ) → List (ℕ × List (List ℕ × ℕ))
listings_with listings None names = listings
listings_with listings (Some d) names = with_entry nat_cmp listings d.node names

-- the directory that is open there was listed
abbrev pub with_listing : ℕ → List (List ℕ × ℕ) → Server → Server
with_listing handle names s = record s { listings = listings_with s.listings (directory_of s handle) names }

-- nobody goes on in the listing of a directory that isn't open
abbrev pub listings_while_open : List (ℕ × OpenDirectory) → List (ℕ × List (List ℕ × ℕ)) → ℕ → List (ℕ × List (List ℕ × ℕ))
listings_while_open directories listings node = if is_directory_open directories node then listings else without nat_cmp listings node

-- where these stay open, and this one is closed
abbrev pub listings_left : List (ℕ × OpenDirectory) → List (ℕ × List (List ℕ × ℕ)) → Option OpenDirectory → List (ℕ × List (List ℕ × ℕ))
listings_left directories listings None = listings
listings_left directories listings (Some d) = listings_while_open directories listings d.node

-- its listing goes with its last opening
abbrev pub without_directory : ℕ → Server → Server
without_directory handle s =
    let left = without nat_cmp s.directories handle in
    record s { directories = left; listings = listings_left left s.listings (directory_of s handle) }

-- ---- shares

-- None has opened more directories than it may; the next handle is free; and listings are kept of open directories alone.
pub record WithinShares (s : Server) : Type 0 where
  pub rising : IsMap nat_cmp s.directories
  pub behind : (handle : ℕ) → s.next_directory ≤ handle → directory_of s handle ≡ None
  pub keeps : KeepsShares directory_shares (directory_holders s)
  pub listings : (node : ℕ) → is_directory_open s.directories node ≡ false → get nat_cmp s.listings node ≡ None

-- ---- removed directories

abbrev pub removed_directory_of : Server → ℕ → Option RemovedDirectory
removed_directory_of s node = get nat_cmp s.removed_directories node

-- one was removed, if any was: nobody has its number yet
abbrev pub with_removed_directory : Option RemovedDirectory → Server → Server
with_removed_directory None s = s
with_removed_directory (Some d) s = record s { removed_directories = with_entry nat_cmp s.removed_directories (node_of s d.status.ino) d }

abbrev pub without_keys : {X : Type 0} → List ℕ → List (ℕ × X) → List (ℕ × X)
without_keys [] entries = entries
without_keys (key ∷ keys) entries = without_keys keys (without nat_cmp entries key)

-- the kernel forgets nodes, and so has none of them open
abbrev pub without_nodes : List ℕ → Server → Server
without_nodes nodes s = record s { removed_directories = without_keys nodes s.removed_directories }

-- ---- the beginning and the end

-- the kernel judges by ACLs only where it offers that
abbrev pub with_acls_offered : Bool → Server → Server
with_acls_offered offered s = record s { settings = record s.settings { posix_acl = s.settings.posix_acl && offered } }

abbrev pub with_end : Server → Server
with_end s = record s { ended = true }

-- the server has made all last at this time
abbrev pub with_kept_at : Time → Server → Server
with_kept_at now s = record s { kept_at = now }
