-- Files that are opened for reading alone, and are to lose their bytes.
use Rattle.std.specs.Prelude.{true, false, [], ◌∷◌, codes, Some}
use Rattle.std.proofs.Common.{refl}
use Rattle.posix_acl.specs.AccessList.{minimal}
use Rattle.fs_cred.specs.declared.errno.Errno.TheVariants.{EACCES, EEXIST}
use Rattle.fs_cred.specs.Credentials.{usual_credential}
use Rattle.fs_model.specs.declared.call.AclType.TheVariants.{Access as AccessAcl}
use Rattle.fs_model.specs.declared.call.Call.TheVariants.{Open, Lstat, GetAcl}
use Rattle.fs_model.specs.declared.event.Event.TheVariants.{CallAt}
use Rattle.fs_model.specs.declared.reply.FileType.TheVariants.{File}
use Rattle.fs_model.specs.declared.reply.Reply.TheVariants.{Opened, Shown, Acl}
use Rattle.fuse_protocol.specs.declared.operation.Operation.{Operation}
use Rattle.fuse_protocol.specs.declared.operation.Operation.TheVariants.{Lookup, GetAttr, Open as OpenFile, Read as ReadFile, Write as WriteFile, Release, Create}
use Rattle.fuse_plans.specs.declared.mode.Mode.TheVariants.{Reads, Both}
use Rattle.fuse_plans.specs.declared.reply.ReplyBody.TheVariants.{Bytes, Wrote as WroteBytes}
use Rattle.fuse_plans.specs.Callers.{actor_at}
use Rattle.fuse_plans.specs.Flags.{opening, creating}
use Rattle.fuse_plans.proofs.Replays.{all_plans, all_runs, new, kernel, root, user, init, set_mode, flags, reading, at, extent, failed, status, shown, found, created_at, created, opened, done, begun, node, ◌hears◌, AreHeard, ◌gets◌, ◌through◌, ◌first◌, ◌then◌, ArePlayed, Told, Error}

-- O_RDONLY with O_TRUNC
abbrev cutting : Operation
cutting = OpenFile (flags 0o1000)

-- Reading and writing are asked at once: where one is refused nothing is cut, and where both are granted what is open is.
pub open_and_cut : AreHeard (
    kernel 0 1000000002 init hears begun
    ∷ root 1 1000000003 (Create (codes "a") (flags 0o102) 0o100222 0) hears created (node 1 2) (status 2 File 0o222 1 0 0 0) 1000000003 1
    ∷ root (node 1 2) 1000000004 (WriteFile 1 0 (codes "bytes")) hears Told (WroteBytes 5)
    ∷ user 1 1000000005 (Lookup (codes "a")) hears found (node 1 2) (status 2 File 0o222 1 0 0 5) 1000000003 1000000004 1000000004
    ∷ user (node 1 2) 1000000006 cutting hears Error 13
    ∷ root (node 1 2) 1000000007 (set_mode 0o100444) hears shown (status 2 File 0o444 1 0 0 5) 1000000003 1000000004 1000000007
    ∷ user (node 1 2) 1000000008 cutting hears Error 13
    ∷ root (node 1 2) 1000000009 (set_mode 0o100666) hears shown (status 2 File 0o666 1 0 0 5) 1000000003 1000000004 1000000009
    ∷ user (node 1 2) 1000000010 reading hears opened 2
    ∷ user (node 1 2) 1000000010 (ReadFile (extent 2 0 4096)) hears Told (Bytes (codes "bytes"))
    ∷ user (node 1 2) 1000000011 cutting hears opened 3
    ∷ user (node 1 2) 1000000012 (ReadFile (extent 3 0 4096)) hears Told (Bytes [])
    ∷ user (node 1 2) 1000000012 GetAttr hears shown (status 2 File 0o666 1 0 0 0) 1000000003 1000000011 1000000011
    ∷ user (node 1 2) 1000000013 reading hears opened 4
    ∷ [])
unfolding all_runs
open_and_cut = refl

-- A file that was to be made is there already: reading and writing are asked of it too, by the call that cuts it. With O_EXCL it isn't
-- opened at all.
pub create_and_cut : AreHeard (
    kernel 0 1000000002 init hears begun
    ∷ root 1 1000000003 (Create (codes "a") (flags 0o102) 0o100222 0) hears created (node 1 2) (status 2 File 0o222 1 0 0 0) 1000000003 1
    ∷ root (node 1 2) 1000000004 (WriteFile 1 0 (codes "bytes")) hears Told (WroteBytes 5)
    ∷ user 1 1000000005 (Create (codes "a") (flags 0o1100) 0o100777 0o22) hears Error 13
    ∷ user 1 1000000005 (Create (codes "b") (flags 0o1100) 0o100777 0o22) hears Error 13
    ∷ root (node 1 2) 1000000006 (set_mode 0o100666) hears shown (status 2 File 0o666 1 0 0 5) 1000000003 1000000004 1000000006
    ∷ user 1 1000000007 (Create (codes "a") (flags 0o1300) 0o100777 0o22) hears Error 17
    ∷ user (node 1 2) 1000000007 GetAttr hears shown (status 2 File 0o666 1 0 0 5) 1000000003 1000000004 1000000006
    ∷ root (node 1 2) 1000000008 (Release 1) hears done
    ∷ user 1 1000000009 (Create (codes "a") (flags 0o1100) 0o100777 0o22) hears created_at (node 1 2) (status 2 File 0o666 1 0 0 0) 1000000003 1000000009 1000000009 1
    ∷ [])
unfolding all_runs
create_and_cut = refl

-- What is asked then: one call, for both, that cuts. To open for reading alone it is asked before whether the user alone counts.
pub asked_at_once : ArePlayed new (
    kernel 0 1000000002 init through [] hears begun
    ∷ user 2 1000000004 cutting first at 1000 100 2 (Open [] (opening Both true) 0) gets failed EACCES hears Error 13
    ∷ user 2 1000000005 cutting first at 1000 100 2 (Open [] (opening Both true) 0) gets Opened 4 2 hears opened 4
    ∷ user 2 1000000006 reading
    first at 0 0 2 (Lstat []) gets Shown (status 2 File 0o666 1 0 0 0)
    then at 0 0 2 (GetAcl [] AccessAcl) gets Acl (Some (minimal 0o666))
    then at 1000 100 2 (Open [] (opening Reads false) 0) gets Opened 5 2
    hears opened 5
    ∷ user 1 1000000007 (Create (codes "a") (flags 0o1100) 0o100777 0o22)
    first CallAt (actor_at (usual_credential 1000 100 []) 0o22 1 1) (Open (codes "a") (creating Reads) 0o777) gets failed EEXIST
    then at 1000 100 1 (Open (codes "a") (opening Both true) 0) gets failed EACCES
    hears Error 13
    ∷ [])
unfolding all_plans
asked_at_once = refl
