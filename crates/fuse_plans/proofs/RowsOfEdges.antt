-- Whole requests that are seldom made, run on the abstract machine: links that are opened, handles for something else, directories that
-- were removed, groups, and what isn't to do anything.
use Rattle.std.specs.Prelude.{ℕ, [], ◌∷◌, codes, None, Some}
use Rattle.std.proofs.Common.{refl}
use Rattle.fs_model.specs.declared.reply.FileType.TheVariants.{File, Directory, Link as LinkType}
use Rattle.fuse_protocol.specs.declared.operation.Operation.{Operation}
use Rattle.fuse_protocol.specs.declared.operation.Operation.TheVariants.{Lookup, Forget, GetAttr, SetAttr, SymLink, MkNod, MkDir, Unlink, RmDir, Rename, Link as AddLink, Read as ReadFile, Write as WriteFile, Release, GetXAttr, ListXAttr, OpenDir, ReadDir, Access as AskAccess, Create, BatchForget}
use Rattle.fuse_plans.specs.declared.reply.ReplyBody.TheVariants.{Wrote as WroteBytes, Size}
use Rattle.fuse_plans.specs.AclPlans.{access_name}
use Rattle.fuse_plans.specs.Requests.{Request}
use Rattle.fuse_plans.proofs.Replays.{all_runs, timekeeping, keeping, asks, kernel, root, init, no_changes, set_mode, set_owner, set_size, set_size_by, flags, reading, extent, status, shown, found, made, created, opened, done, begun, node, entries, ◌hears◌, AreHeardFrom, AreHeard, Silent, Told, Error}

-- user 1000 of group 100, and of group 7
abbrev member : ℕ → ℕ → Operation → Request
member of now operation = asks of 1000 100 (Some (7 ∷ [])) now operation

-- ---- links

-- A link gets another name, and one owner by all its names. It isn't followed: it isn't opened, nor made anew, and has no size to set.
-- Access to it is never refused. Where owner and mode are to be set, the owner is.
pub a_link_is_not_followed : AreHeard (
    kernel 0 1 init hears begun
    ∷ root 1 2 (SymLink (codes "l") (codes "f")) hears made (node 1 2) (status 2 LinkType 0o777 1 0 0 1) 2
    ∷ root 1 3 (AddLink (node 1 2) (codes "m")) hears found (node 1 2) (status 2 LinkType 0o777 2 0 0 1) 2 2 3
    ∷ member (node 1 2) 4 (AskAccess 6) hears done
    ∷ root 1 5 (Create (codes "l") (flags 0o101) 0o100644 0) hears Error 40
    ∷ root 1 5 (Create (codes "l") (flags 0o301) 0o100644 0) hears Error 17
    ∷ root (node 1 2) 5 reading hears Error 95
    ∷ root (node 1 2) 6 (set_size 0) hears Error 95
    ∷ root (node 1 2) 7 (SetAttr (record no_changes { uid = Some 5; mode = Some 0o777 })) hears Error 95
    ∷ root (node 1 2) 8 GetAttr hears shown (status 2 LinkType 0o777 2 5 0 1) 2 2 7
    ∷ root 1 8 (Lookup (codes "m")) hears found (node 1 2) (status 2 LinkType 0o777 2 5 0 1) 2 2 7
    ∷ [])
unfolding all_runs
a_link_is_not_followed = refl

-- ---- handles

-- What was opened to be written isn't read by that handle, nor the other way round; what was closed does nothing, and a directory has no
-- size that could be set.
pub handles_for_something_else : AreHeard (
    kernel 0 1 init hears begun
    ∷ root 1 2 (Create (codes "f") (flags 0o101) 0o100644 0) hears created (node 1 2) (status 2 File 0o644 1 0 0 0) 2 1
    ∷ root (node 1 2) 2 reading hears opened 2
    ∷ root (node 1 2) 3 (ReadFile (extent 1 0 1)) hears Error 9
    ∷ root (node 1 2) 3 (WriteFile 2 0 (codes "x")) hears Error 9
    ∷ root (node 1 2) 3 (set_size_by 2 1) hears Error 9
    ∷ root (node 1 2) 3 (Release 1) hears done
    ∷ root (node 1 2) 3 (WriteFile 1 0 (codes "x")) hears Error 9
    ∷ root (node 1 2) 3 (Release 1) hears Error 9
    ∷ root 1 3 (set_size 0) hears Error 21
    ∷ root (node 1 2) 4 GetAttr hears shown (status 2 File 0o644 1 0 0 0) 2 2 2
    ∷ [])
unfolding all_runs
handles_for_something_else = refl

-- ---- directories that were removed

-- Nothing is made there, moved there or found there; it is opened, and has no names; it is shown without a link or a list, until the kernel
-- forgets it; and else its node is stale.
pub in_a_removed_directory : AreHeard (
    kernel 0 1 init hears begun
    ∷ root 1 2 (MkDir (codes "d") 0o755 0) hears made (node 1 2) (status 2 Directory 0o755 1 0 0 0) 2
    ∷ root 1 2 (MkNod (codes "f") 0o100644 0) hears made (node 1 3) (status 3 File 0o644 1 0 0 0) 2
    ∷ root 1 3 (RmDir (codes "d")) hears done
    ∷ root (node 1 2) 4 (MkDir (codes "e") 0o755 0) hears Error 2
    ∷ root (node 1 2) 4 (MkNod (codes "e") 0o100644 0) hears Error 2
    ∷ root (node 1 2) 4 (Create (codes "e") (flags 0o101) 0o100644 0) hears Error 2
    ∷ root (node 1 2) 4 (SymLink (codes "e") (codes "f")) hears Error 2
    ∷ root (node 1 2) 4 (AddLink (node 1 3) (codes "e")) hears Error 2
    ∷ root 1 4 (Rename (codes "f") (node 1 2) (codes "e") 0) hears Error 2
    ∷ root (node 1 2) 4 (Lookup (codes "e")) hears Error 2
    ∷ root (node 1 2) 4 (Unlink (codes "e")) hears Error 2
    ∷ root (node 1 2) 4 OpenDir hears opened 0
    ∷ root (node 1 2) 4 (ReadDir (extent 0 0 4096)) hears Told (entries [])
    ∷ root (node 1 2) 4 GetAttr hears shown (status 2 Directory 0o755 0 0 0 0) 2 2 3
    ∷ root (node 1 2) 4 (GetXAttr access_name 0) hears Error 61
    ∷ root (node 1 2) 4 (ListXAttr 0) hears Told (Size 0)
    ∷ root (node 1 2) 4 (AskAccess 4) hears Error 116
    ∷ root (node 1 2) 4 (set_mode 0o40700) hears Error 116
    ∷ kernel (node 1 2) 5 (Forget 1) hears Silent
    ∷ root (node 1 2) 5 GetAttr hears Error 116
    ∷ root (node 1 2) 5 (GetXAttr access_name 0) hears Error 116
    ∷ [])
unfolding all_runs
in_a_removed_directory = refl

-- one in whose place another is moved, which is shown under its own number
pub a_replaced_directory : AreHeard (
    kernel 0 1 init hears begun
    ∷ root 1 2 (MkDir (codes "d") 0o755 0) hears made (node 1 2) (status 2 Directory 0o755 1 0 0 0) 2
    ∷ root 1 3 (MkDir (codes "e") 0o700 0) hears made (node 1 3) (status 3 Directory 0o700 1 0 0 0) 3
    ∷ root 1 4 (Rename (codes "d") 1 (codes "e") 0) hears done
    ∷ root (node 1 3) 5 GetAttr hears shown (status 3 Directory 0o700 0 0 0 0) 3 3 4
    ∷ root (node 1 2) 5 GetAttr hears shown (status 2 Directory 0o755 1 0 0 0) 2 2 4
    ∷ kernel 0 6 (BatchForget ((node 1 2, 1) ∷ (node 1 3, 2) ∷ [])) hears Silent
    ∷ root (node 1 3) 6 GetAttr hears Error 116
    ∷ root (node 1 2) 6 GetAttr hears shown (status 2 Directory 0o755 1 0 0 0) 2 2 4
    ∷ [])
unfolding all_runs
a_replaced_directory = refl

-- A directory that can't be removed is shown as it is.
pub a_directory_that_stays : AreHeard (
    kernel 0 1 init hears begun
    ∷ root 1 2 (MkDir (codes "d") 0o755 0) hears made (node 1 2) (status 2 Directory 0o755 1 0 0 0) 2
    ∷ root (node 1 2) 3 (MkNod (codes "f") 0o100644 0) hears made (node 1 3) (status 3 File 0o644 1 0 0 0) 3
    ∷ root 1 4 (RmDir (codes "d")) hears Error 39
    ∷ root (node 1 2) 5 GetAttr hears shown (status 2 Directory 0o755 1 0 0 128) 2 3 3
    ∷ [])
unfolding all_runs
a_directory_that_stays = refl

-- ---- groups

-- The owner of a file gives it a group that it is in, and no other, and no other owner. Where its groups aren't known it does nothing.
pub groups_of_the_owner : AreHeard (
    kernel 0 1 init hears begun
    ∷ root 1 2 (MkNod (codes "f") 0o100640 0) hears made (node 1 2) (status 2 File 0o640 1 0 0 0) 2
    ∷ root (node 1 2) 3 (set_owner 1000) hears shown (status 2 File 0o640 1 1000 0 0) 2 2 3
    ∷ member (node 1 2) 4 (SetAttr (record no_changes { gid = Some 7 })) hears shown (status 2 File 0o640 1 1000 7 0) 2 2 4
    ∷ member (node 1 2) 5 (SetAttr (record no_changes { gid = Some 100 })) hears shown (status 2 File 0o640 1 1000 100 0) 2 2 5
    ∷ member (node 1 2) 6 (SetAttr (record no_changes { gid = Some 8 })) hears Error 1
    ∷ member (node 1 2) 6 (SetAttr (record no_changes { uid = Some 1000; gid = Some 7 })) hears shown (status 2 File 0o640 1 1000 7 0) 2 2 6
    ∷ member (node 1 2) 7 (SetAttr (record no_changes { uid = Some 0; gid = Some 7 })) hears Error 1
    ∷ asks (node 1 2) 1000 100 None 8 (set_mode 0o100600) hears Error 13
    ∷ asks (node 1 2) 1001 101 (Some (7 ∷ [])) 9 reading hears opened 1
    ∷ asks (node 1 2) 1001 101 (Some (8 ∷ [])) 9 reading hears Error 13
    ∷ asks (node 1 2) 1001 101 (Some (7 ∷ [])) 9 (AskAccess 6) hears Error 13
    ∷ root (node 1 2) 9 GetAttr hears shown (status 2 File 0o640 1 1000 7 0) 2 2 6
    ∷ [])
unfolding all_runs
groups_of_the_owner = refl

-- ---- what does nothing

-- To rename a file to another of its names does nothing, and so does a write of no bytes: no time moves.
pub nothing_is_done : AreHeardFrom timekeeping keeping (
    kernel 0 1 init hears begun
    ∷ root 1 2 (Create (codes "f") (flags 0o102) 0o100644 0) hears created (node 1 2) (status 2 File 0o644 1 0 0 0) 2 1
    ∷ root 1 3 (AddLink (node 1 2) (codes "g")) hears found (node 1 2) (status 2 File 0o644 2 0 0 0) 2 2 3
    ∷ root 1 4 (Rename (codes "f") 1 (codes "g") 0) hears done
    ∷ root (node 1 2) 5 (WriteFile 1 0 []) hears Told (WroteBytes 0)
    ∷ root (node 1 2) 6 GetAttr hears shown (status 2 File 0o644 2 0 0 0) 2 2 3
    ∷ root 1 6 GetAttr hears shown (status 1 Directory 0o755 1 0 0 256) 1000000001 3 3
    ∷ root 1 6 (Lookup (codes "f")) hears found (node 1 2) (status 2 File 0o644 2 0 0 0) 2 2 3
    ∷ root 1 6 (Lookup (codes "g")) hears found (node 1 2) (status 2 File 0o644 2 0 0 0) 2 2 3
    ∷ [])
unfolding all_runs
nothing_is_done = refl
