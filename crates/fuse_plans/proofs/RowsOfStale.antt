-- Requests whose node is another object by now.
use Rattle.std.specs.Prelude.{[], ◌∷◌, codes, Some}
use Rattle.std.proofs.Common.{refl}
use Rattle.posix_acl.specs.AccessList.{minimal}
use Rattle.fs_cred.specs.declared.errno.Errno.TheVariants.{EIO}
use Rattle.fs_cred.specs.Credentials.{usual_credential}
use Rattle.fs_model.specs.declared.call.AclType.TheVariants.{Access as AccessAcl}
use Rattle.fs_model.specs.declared.call.Call.TheVariants.{Lstat, GetAcl, Mkdir, Rmdir}
use Rattle.fs_model.specs.declared.event.Event.TheVariants.{CallAt}
use Rattle.fs_model.specs.declared.reply.FileType.TheVariants.{File, Directory}
use Rattle.fs_model.specs.declared.reply.Reply.TheVariants.{Done, Made, Shown, Acl}
use Rattle.fuse_protocol.specs.declared.operation.Operation.TheVariants.{Lookup, GetAttr, MkDir, RmDir, Rename, Open as OpenFile, Read as ReadFile, Write as WriteFile, Release, OpenDir, ReadDir, ReleaseDir, Create}
use Rattle.fuse_plans.specs.declared.reply.ReplyBody.TheVariants.{Bytes, Wrote as WroteBytes}
use Rattle.fuse_plans.specs.Callers.{actor_at}
use Rattle.fuse_plans.proofs.Replays.{all_plans, all_runs, all_listings, new, kernel, root, init, flags, at, extent, failed, status, shown, found, made, created, opened, done, begun, node, entry, entries, ◌hears◌, AreHeard, ◌gets◌, ◌through◌, ◌first◌, ◌then◌, ArePlayed, Told, Error}

-- Another file takes a file's name, while both are open. Each node leads to its own file still, and to open one with O_TRUNC cuts
-- that one; the one without a name is stale once it is closed.
pub open_elsewhere : AreHeard (
    kernel 0 1000000002 init hears begun
    ∷ root 1 1000000003 (Create (codes "a") (flags 0o102) 0o100600 0) hears created (node 1 2) (status 2 File 0o600 1 0 0 0) 1000000003 1
    ∷ root (node 1 2) 1000000004 (WriteFile 1 0 (codes "first")) hears Told (WroteBytes 5)
    ∷ root 1 1000000005 (Create (codes "b") (flags 0o101) 0o100600 0) hears created (node 1 3) (status 3 File 0o600 1 0 0 0) 1000000005 2
    ∷ root (node 1 3) 1000000006 (WriteFile 2 0 (codes "second")) hears Told (WroteBytes 6)
    ∷ root 1 1000000007 (Rename (codes "b") 1 (codes "a") 0) hears done
    ∷ root 1 1000000008 (Lookup (codes "a")) hears found (node 1 3) (status 3 File 0o600 1 0 0 6) 1000000005 1000000006 1000000007
    ∷ root (node 1 2) 1000000009 GetAttr hears shown (status 2 File 0o600 0 0 0 5) 1000000003 1000000004 1000000007
    ∷ root (node 1 2) 1000000010 (ReadFile (extent 1 0 4096)) hears Told (Bytes (codes "first"))
    ∷ root (node 1 2) 1000000011 (OpenFile (flags 0o1001)) hears opened 3
    ∷ root (node 1 2) 1000000012 GetAttr hears shown (status 2 File 0o600 0 0 0 0) 1000000003 1000000011 1000000011
    ∷ root (node 1 3) 1000000012 GetAttr hears shown (status 3 File 0o600 1 0 0 6) 1000000005 1000000006 1000000007
    ∷ kernel (node 1 2) 1000000013 (Release 1) hears done
    ∷ kernel (node 1 2) 1000000013 (Release 3) hears done
    ∷ root (node 1 2) 1000000014 (OpenFile (flags 0o1001)) hears Error 116
    ∷ root (node 1 3) 1000000014 GetAttr hears shown (status 3 File 0o600 1 0 0 6) 1000000005 1000000006 1000000007
    ∷ [])
unfolding all_runs
open_elsewhere = refl

-- An open directory is removed, and has no names; another gets its number, and isn't listed by the handle of the first. Opened by its
-- own node it is. What was closed isn't open.
pub list_elsewhere : AreHeard (
    kernel 0 1000000002 init hears begun
    ∷ root 1 1000000003 (MkDir (codes "d") 0o755 0o22) hears made (node 1 2) (status 2 Directory 0o755 1 0 0 0) 1000000003
    ∷ root (node 1 2) 1000000004 OpenDir hears opened 0
    ∷ root (node 1 2) 1000000004 (ReadDir (extent 0 0 4096)) hears Told (entries (entry (codes ".") 2 1 ∷ entry (codes "..") 1 2 ∷ []))
    ∷ root 1 1000000005 (RmDir (codes "d")) hears done
    ∷ root (node 1 2) 1000000005 (ReadDir (extent 0 0 4096)) hears Told (entries [])
    ∷ root 1 1000000006 (MkDir (codes "e") 0o755 0o22) hears made (node 2 2) (status 2 Directory 0o755 1 0 0 0) 1000000006
    ∷ root (node 1 2) 1000000007 (ReadDir (extent 0 0 4096)) hears Error 116
    ∷ root (node 2 2) 1000000008 OpenDir hears opened 1
    ∷ root (node 2 2) 1000000008 (ReadDir (extent 1 0 4096)) hears Told (entries (entry (codes ".") 2 1 ∷ entry (codes "..") 1 2 ∷ []))
    ∷ root (node 2 2) 1000000008 (ReadDir (extent 0 0 4096)) hears Error 116
    ∷ kernel (node 1 2) 1000000009 (ReleaseDir 0) hears done
    ∷ root (node 1 2) 1000000009 (ReadDir (extent 0 0 4096)) hears Error 9
    ∷ [])
unfolding all_listings
list_elsewhere = refl

-- A directory is removed, and another that has its number is made, but can't be shown: the node of the one that is gone never leads
-- there, and the other is found by a node of its own.
pub made_unseen : ArePlayed new (
    kernel 0 1000000002 init through [] hears begun
    ∷ root 1 1000000003 (MkDir (codes "d") 0o755 0o22)
    first CallAt (actor_at (usual_credential 0 0 []) 0o22 1 1) (Mkdir (codes "d") 0o755) gets Made 4
    then at 0 0 4 (Lstat []) gets Shown (status 4 Directory 0o755 1 0 0 0)
    hears made (node 1 4) (status 4 Directory 0o755 1 0 0 0) 1000000003
    ∷ root 1 1000000004 (RmDir (codes "d")) first at 0 0 1 (Lstat (codes "d")) gets Shown (status 4 Directory 0o755 1 0 0 0) then at 0 0 1 (Rmdir (codes "d")) gets Done hears done
    ∷ root 1 1000000005 (MkDir (codes "e") 0o755 0o22)
    first CallAt (actor_at (usual_credential 0 0 []) 0o22 1 1) (Mkdir (codes "e") 0o755) gets Made 4
    then at 0 0 4 (Lstat []) gets failed EIO
    hears Error 5
    ∷ root (node 1 4) 1000000006 GetAttr through [] hears shown (status 4 Directory 0o755 0 0 0 0) 1000000003 1000000003 1000000004
    ∷ root (node 1 4) 1000000006 (Lookup (codes "f")) through [] hears Error 2
    ∷ root (node 1 4) 1000000006 (RmDir (codes "f")) through [] hears Error 116
    ∷ root 1 1000000007 (Lookup (codes "e"))
    first at 0 0 1 (Lstat []) gets Shown (status 1 Directory 0o755 1 0 0 128)
    then at 0 0 1 (GetAcl [] AccessAcl) gets Acl (Some (minimal 0o755))
    then at 0 0 1 (Lstat (codes "e")) gets Shown (status 4 Directory 0o755 1 0 0 0)
    hears made (node 2 4) (status 4 Directory 0o755 1 0 0 0) 1000000005
    ∷ root (node 1 4) 1000000008 GetAttr through [] hears shown (status 4 Directory 0o755 0 0 0 0) 1000000003 1000000003 1000000004
    ∷ root (node 1 4) 1000000009 (Lookup (codes "f")) through [] hears Error 2
    ∷ [])
unfolding all_plans
made_unseen = refl
