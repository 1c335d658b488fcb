-- Whole requests of the other kinds, run on the abstract machine: names, times, listings, default ACLs and long writes.
use Rattle.std.specs.Prelude.{◌≡◌, ℕ, ◌^◌, false, List, [], ◌∷◌, codes, None, Some, replicate}
use Rattle.std.specs.List.{flat_map}
use Rattle.std.proofs.Common.{refl}
use Rattle.posix_acl.specs.AccessList.{AccessList}
use Rattle.posix_acl.specs.Entries.{perms_of}
use Rattle.fs_model.specs.declared.reply.FileType.TheVariants.{File, Directory}
use Rattle.fs_model.specs.declared.reply.Status.{Status}
use Rattle.fs_model.specs.States.{State}
use Rattle.fs_model.proofs.Machine.{fresh}
use Rattle.fuse_protocol.specs.declared.entry.DirectoryRecord.{DirectoryRecord}
use Rattle.fuse_protocol.specs.declared.entry.EntryKind.{EntryKind}
use Rattle.fuse_protocol.specs.declared.entry.EntryKind.TheVariants as kinds
use Rattle.fuse_protocol.specs.Entries.{directory_record_bytes}
use Rattle.fuse_protocol.specs.declared.operation.NewTime.TheVariants.{Now, At as AtTime}
use Rattle.fuse_protocol.specs.declared.operation.Operation.TheVariants.{Lookup, Forget, GetAttr, MkNod, MkDir, Unlink, RmDir, Rename, Link as AddLink, Open as OpenFile, Read as ReadFile, Write as WriteFile, FSync, SetXAttr, GetXAttr, ListXAttr, RemoveXAttr, OpenDir, ReadDir, ReadDirPlus, ReleaseDir, FSyncDir, Create, Interrupt, Destroy, SyncFs, Unknown}
use Rattle.fuse_plans.specs.declared.reply.ReplyBody.TheVariants.{Bytes, Wrote as WroteBytes, Size}
use Rattle.fuse_plans.specs.Protocol.{looked_up_entry}
use Rattle.fuse_plans.specs.ListingOrder.{listing_place}
use Rattle.fuse_plans.specs.AclPlans.{default_name}
use Rattle.fuse_plans.proofs.Replays.{all_runs, all_listings, second, new, asks_with, kernel, root, user, another, init, set_mode, set_times, set_size_by, flags, extent, status, attributes, shown, found, made, created, opened, done, begun, node, entry, entries, acl, ◌hears◌, AreHeardFrom, AreHeard, all_bytes, Silent, Told, Error}

-- ---- names

-- In a directory with the sticky bit another user removes and renames nothing. What isn't empty stays; a directory and what is none
-- don't replace one another; what isn't to be replaced isn't.
pub names_refused : AreHeard (
    kernel 0 1 init hears begun
    ∷ root 1 2 (MkDir (codes "d") 0o1777 0) hears made (node 1 2) (status 2 Directory 0o1777 1 0 0 0) 2
    ∷ user (node 1 2) 3 (Create (codes "f") (flags 0o101) 0o100644 0o22) hears created (node 1 3) (status 3 File 0o644 1 1000 100 0) 3 1
    ∷ another (node 1 2) 4 (Unlink (codes "f")) hears Error 1
    ∷ another (node 1 2) 4 (Rename (codes "f") (node 1 2) (codes "g") 0) hears Error 1
    ∷ user (node 1 2) 5 (MkDir (codes "s") 0o755 0) hears made (node 1 4) (status 4 Directory 0o755 1 1000 100 0) 5
    ∷ user (node 1 4) 6 (Create (codes "x") (flags 0o101) 0o100644 0o22) hears created (node 1 5) (status 5 File 0o644 1 1000 100 0) 6 2
    ∷ user (node 1 2) 7 (RmDir (codes "s")) hears Error 39
    ∷ user (node 1 2) 7 (Unlink (codes "s")) hears Error 21
    ∷ user (node 1 2) 7 (RmDir (codes "f")) hears Error 20
    ∷ user (node 1 2) 7 (MkDir (codes "f") 0o755 0) hears Error 17
    ∷ user (node 1 2) 7 (Rename (codes "f") (node 1 2) (codes "s") 0) hears Error 21
    ∷ user (node 1 2) 7 (Rename (codes "s") (node 1 2) (codes "f") 0) hears Error 20
    ∷ user (node 1 2) 7 (Rename (codes "f") (node 1 2) (codes "s") 1) hears Error 17
    ∷ user (node 1 2) 7 (Rename (codes "f") (node 1 2) (codes "s") 2) hears Error 22
    ∷ user (node 1 2) 7 (Rename (codes "s") (node 1 4) (codes "t") 0) hears Error 22
    ∷ user (node 1 2) 8 (Rename (codes "f") (node 1 2) (codes "n") 1) hears done
    ∷ user (node 1 2) 9 (Lookup (codes "n")) hears found (node 1 3) (status 3 File 0o644 1 1000 100 0) 3 3 8
    ∷ user (node 1 3) 9 (Lookup (codes "y")) hears Error 20
    ∷ user (node 1 2) 9 (Lookup (codes "none")) hears Error 2
    ∷ user (node 1 2) 9 (Unlink (codes "none")) hears Error 2
    ∷ user (node 1 2) 9 (Rename (codes "none") (node 1 2) (codes "n") 0) hears Error 2
    ∷ another (node 1 4) 9 (MkDir (codes "m") 0o755 0) hears Error 13
    ∷ user (node 1 2) 9 (AddLink (node 1 4) (codes "h")) hears Error 1
    ∷ user (node 1 2) 9 (Lookup (codes ".")) hears Error 22
    ∷ user (node 1 2) 9 (Lookup (codes "..")) hears Error 22
    ∷ user (node 1 2) 10 GetAttr hears shown (status 2 Directory 0o1777 1 0 0 256) 2 8 8
    ∷ [])
unfolding all_runs
names_refused = refl

-- ---- times by right

-- Who may write may set both to the present, and no more; who may not write, and doesn't own it, nothing.
pub times_by_right : AreHeard (
    kernel 0 1 init hears begun
    ∷ root 1 2 (MkDir (codes "d") 0o777 0) hears made (node 1 2) (status 2 Directory 0o777 1 0 0 0) 2
    ∷ user (node 1 2) 3 (Create (codes "f") (flags 0o101) 0o100602 0) hears created (node 1 3) (status 3 File 0o602 1 1000 100 0) 3 1
    ∷ another (node 1 3) 4 (set_times (Some Now) (Some Now)) hears shown (status 3 File 0o602 1 1000 100 0) 4 4 4
    ∷ another (node 1 3) 5 (set_times (Some Now) None) hears Error 1
    ∷ another (node 1 3) 5 (set_times (Some (AtTime 9 0)) (Some Now)) hears Error 1
    ∷ user (node 1 3) 6 (set_mode 0o100600) hears shown (status 3 File 0o600 1 1000 100 0) 4 4 6
    ∷ another (node 1 3) 7 (set_times (Some Now) (Some Now)) hears Error 13
    ∷ user (node 1 3) 8 (set_times (Some (AtTime 9 0)) None) hears shown (status 3 File 0o600 1 1000 100 0) 9 4 8
    ∷ user (node 1 3) 10 (set_times None (Some Now)) hears shown (status 3 File 0o600 1 1000 100 0) 9 10 10
    ∷ [])
unfolding all_runs
times_by_right = refl

-- ---- long writes

-- More than the machine writes at once is written all the same.
pub more_than_a_run : AreHeard (
    kernel 0 1 init hears begun
    ∷ root 1 2 (Create (codes "f") (flags 0o102) 0o100644 0) hears created (node 1 2) (status 2 File 0o644 1 0 0 0) 2 1
    ∷ root (node 1 2) 3 (WriteFile 1 0 (replicate 20000 120)) hears Told (WroteBytes 20000)
    ∷ root (node 1 2) 4 GetAttr hears shown (status 2 File 0o644 1 0 0 20000) 2 3 3
    ∷ root (node 1 2) 5 (ReadFile (extent 1 16382 4)) hears Told (Bytes (codes "xxxx"))
    ∷ root (node 1 2) 5 (ReadFile (extent 1 19998 4096)) hears Told (Bytes (codes "xx"))
    ∷ root (node 1 2) 6 (WriteFile 1 (2 ^ 63) (codes "x")) hears Error 27
    ∷ root (node 1 2) 6 (WriteFile 2 0 (codes "x")) hears Error 9
    ∷ [])
unfolding all_runs
more_than_a_run = refl

-- a disk with 41 data sectors
abbrev of_41_sectors : State
of_41_sectors = record fresh { room = record fresh.room { sectors = 41 }; free = 41 }

-- With 39 free sectors more than 4096 bytes are no single run, and are written by several moves: the kernel hears of all of them.
pub little_space : AreHeardFrom new of_41_sectors (
    kernel 0 1 init hears begun
    ∷ root 1 2 (Create (codes "f") (flags 0o102) 0o100644 0) hears created (node 1 2) (status 2 File 0o644 1 0 0 0) 2 1
    ∷ root (node 1 2) 3 (WriteFile 1 0 (replicate 4097 120)) hears Told (WroteBytes 4097)
    ∷ root (node 1 2) 4 (set_size_by 1 512) hears shown (status 2 File 0o644 1 0 0 512) 2 4 4
    ∷ root (node 1 2) 5 (WriteFile 1 512 (replicate 4097 121)) hears Told (WroteBytes 4097)
    ∷ root (node 1 2) 6 GetAttr hears shown (status 2 File 0o644 1 0 0 4609) 2 5 5
    ∷ root (node 1 2) 6 (ReadFile (extent 1 510 4)) hears Told (Bytes (codes "xxyy"))
    ∷ root (node 1 2) 6 (ReadFile (extent 1 4607 4)) hears Told (Bytes (codes "yy"))
    ∷ [])
unfolding all_runs
little_space = refl

-- ---- what isn't replied, and what nothing is done for

pub silent_and_malformed : AreHeard (
    kernel 0 1 init hears begun
    ∷ root 1 2 (Forget 1) hears Silent
    ∷ root 1 2 Interrupt hears Silent
    ∷ record (root 1 2 Interrupt) { operation = None } hears Error 22
    ∷ record (root 1 2 (MkDir (codes "d") 0o755 0)) { memory = false } hears Error 12
    ∷ root 1 2 (Lookup (codes "d")) hears Error 2
    ∷ root 1 2 Unknown hears Error 38
    ∷ root 1 2 SyncFs hears done
    ∷ root 1 2 (FSync 1) hears done
    ∷ root 1 2 FSyncDir hears done
    ∷ root 1 2 (OpenFile (flags 3)) hears Error 22
    ∷ root 0 2 Destroy hears done
    ∷ [])
unfolding all_runs
silent_and_malformed = refl

-- ---- default ACLs

abbrev default_of : AccessList
default_of = acl (perms_of 7) [] (perms_of 5) [] None (perms_of 5)

-- Where a directory has a default ACL that takes the place of the umask; a new directory inherits it. No file has one.
pub default_acls : AreHeard (
    kernel 0 1 init hears begun
    ∷ root 1 2 (MkDir (codes "d") 0o777 0) hears made (node 1 2) (status 2 Directory 0o777 1 0 0 0) 2
    ∷ asks_with (Some default_of) (node 1 2) 0 0 (Some []) 3 (SetXAttr default_name []) hears done
    ∷ root (node 1 2) 4 (GetXAttr default_name 0) hears Told (Size 28)
    ∷ root (node 1 2) 4 (ListXAttr 0) hears Told (Size 25)
    ∷ root (node 1 2) 4 (ListXAttr 24) hears Error 34
    ∷ root (node 1 2) 5 (MkNod (codes "f") 0o100666 0o77) hears made (node 1 3) (status 3 File 0o644 1 0 0 0) 5
    ∷ root (node 1 2) 6 (MkDir (codes "e") 0o777 0o77) hears made (node 1 4) (status 4 Directory 0o755 1 0 0 0) 6
    ∷ root (node 1 4) 6 (GetXAttr default_name 0) hears Told (Size 28)
    ∷ root 1 7 (MkNod (codes "f") 0o100666 0o77) hears made (node 1 5) (status 5 File 0o600 1 0 0 0) 7
    ∷ root 1 7 (MkDir (codes "e") 0o777 0o77) hears made (node 1 6) (status 6 Directory 0o700 1 0 0 0) 7
    ∷ root (node 1 6) 7 (GetXAttr default_name 0) hears Error 61
    ∷ root (node 1 3) 8 (GetXAttr default_name 0) hears Error 61
    ∷ asks_with (Some default_of) (node 1 3) 0 0 (Some []) 8 (SetXAttr default_name []) hears Error 13
    ∷ root (node 1 2) 9 (RemoveXAttr default_name) hears done
    ∷ root (node 1 2) 9 (GetXAttr default_name 0) hears Error 61
    ∷ root 1 9 (MkNod (codes "pipe") 0o010666 0) hears Error 1
    ∷ asks_with None 1 0 0 (Some []) 9 (SetXAttr (codes "user.x") []) hears Error 95
    ∷ root 1 9 (GetXAttr (codes "user.x") 0) hears Error 95
    ∷ [])
unfolding all_runs
default_acls = refl

-- ---- listings

-- the place of a name follows from its SipHash-1-3 with the key 0: these were computed apart
abbrev place_of_a : ℕ
place_of_a = 1161104296400832007

abbrev place_of_b : ℕ
place_of_b = 2506450870661470262

abbrev place_of_f : ℕ
place_of_f = 812275300645269003

pub place_of_name : listing_place (codes "a") ≡ place_of_a
unfolding all_listings
place_of_name = refl

-- Who may read a directory lists it, and goes on behind an offset while a name goes; who may not isn't let in, and looks names up.
pub listed_in_order : AreHeard (
    kernel 0 1 init hears begun
    ∷ root 1 2 (MkDir (codes "d") 0o711 0) hears made (node 1 2) (status 2 Directory 0o711 1 0 0 0) 2
    ∷ root (node 1 2) 3 (MkNod (codes "b") 0o100644 0) hears made (node 1 3) (status 3 File 0o644 1 0 0 0) 3
    ∷ root (node 1 2) 3 (MkDir (codes "f") 0o755 0) hears made (node 1 4) (status 4 Directory 0o755 1 0 0 0) 3
    ∷ root (node 1 2) 3 (MkNod (codes "a") 0o100644 0) hears made (node 1 5) (status 5 File 0o644 1 0 0 0) 3
    ∷ user (node 1 2) 4 OpenDir hears Error 13
    ∷ user (node 1 2) 4 (Lookup (codes "b")) hears found (node 1 3) (status 3 File 0o644 1 0 0 0) 3 3 3
    ∷ root (node 1 2) 5 OpenDir hears opened 0
    ∷ root (node 1 2) 5 (ReadDir (extent 0 0 4096))
    hears Told (entries (entry (codes ".") 2 1 ∷ entry (codes "..") 1 2 ∷ entry (codes "f") 4 place_of_f ∷ entry (codes "a") 5 place_of_a ∷ entry (codes "b") 3 place_of_b ∷ []))
    ∷ root (node 1 2) 5 (ReadDir (extent 0 0 72)) hears Told (entries (entry (codes ".") 2 1 ∷ entry (codes "..") 1 2 ∷ []))
    ∷ root (node 1 2) 6 (Unlink (codes "a")) hears done
    ∷ root (node 1 2) 6 (ReadDir (extent 0 place_of_f 4096)) hears Told (entries (entry (codes "a") 5 place_of_a ∷ entry (codes "b") 3 place_of_b ∷ []))
    ∷ root (node 1 2) 6 (ReadDir (extent 0 0 4096))
    hears Told (entries (entry (codes ".") 2 1 ∷ entry (codes "..") 1 2 ∷ entry (codes "f") 4 place_of_f ∷ entry (codes "b") 3 place_of_b ∷ []))
    ∷ root (node 1 2) 6 (ReadDir (extent 0 place_of_b 4096)) hears Told (entries [])
    ∷ root (node 1 2) 7 (ReleaseDir 0) hears done
    ∷ [])
unfolding all_listings
listed_in_order = refl

-- a record of the listing with look-ups
abbrev looked_up : List ℕ → ℕ → ℕ → EntryKind → Status → ℕ → DirectoryRecord
looked_up name offset of kind status time = record {
  found = Some (looked_up_entry of 0 (attributes status (second time) (second time) (second time)));
  entry = record { ino = status.ino; next = offset; kind = kind; name = name };
}

abbrev looked_up_a : DirectoryRecord
looked_up_a = looked_up (codes "a") place_of_a (node 1 2) kinds.File (status 2 File 0o644 1 0 0 0) 2

abbrev looked_up_f : DirectoryRecord
looked_up_f = looked_up (codes "f") place_of_f (node 1 3) kinds.Directory (status 3 Directory 0o755 1 0 0 0) 3

abbrev not_looked_up : List ℕ → ℕ → ℕ → DirectoryRecord
not_looked_up name ino offset = record { found = None; entry = entry name ino offset }

-- READDIRPLUS tells of each name what LOOKUP does, but of `.` and `..`.
pub listed_and_looked_up : AreHeard (
    kernel 0 1 init hears begun
    ∷ root 1 2 (MkNod (codes "a") 0o100644 0) hears made (node 1 2) (status 2 File 0o644 1 0 0 0) 2
    ∷ root 1 3 (MkDir (codes "f") 0o755 0) hears made (node 1 3) (status 3 Directory 0o755 1 0 0 0) 3
    ∷ root 1 4 OpenDir hears opened 0
    ∷ root 1 4 (ReadDirPlus (extent 0 0 4096)) hears Told (Bytes (flat_map directory_record_bytes (not_looked_up (codes ".") 1 1 ∷ not_looked_up (codes "..") 1 2 ∷ looked_up_f ∷ looked_up_a ∷ [])))
    ∷ root 1 4 (ReadDirPlus (extent 0 place_of_f 4096)) hears Told (Bytes (directory_record_bytes looked_up_a))
    ∷ [])
unfolding all_bytes
listed_and_looked_up = refl
