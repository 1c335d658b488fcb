-- Whole requests on objects, run on the abstract machine: what the kernel hears. No name counts for what is asked of an object, nor
-- does a directory in which it has one.
use Rattle.std.specs.Prelude.{ℕ, [], ◌∷◌, codes, Some, None}
use Rattle.std.proofs.Common.{refl}
use Rattle.posix_acl.specs.AccessList.{AccessList, entries_of}
use Rattle.posix_acl.specs.Entries.{perms_of}
use Rattle.fs_model.specs.declared.reply.FileType.TheVariants.{File, Directory, Link as LinkType}
use Rattle.fs_model.proofs.Machine.{fresh}
use Rattle.fuse_protocol.specs.declared.operation.NewTime.TheVariants.{Now, At as AtTime}
use Rattle.fuse_protocol.specs.declared.operation.Operation.{Operation}
use Rattle.fuse_protocol.specs.declared.operation.Operation.TheVariants.{Lookup, Forget, GetAttr, ReadLink, SymLink, MkDir, Unlink, RmDir, OpenDir, Link as AddLink, Open as OpenFile, Read as ReadFile, Write as WriteFile, Release, SetXAttr, GetXAttr, ListXAttr, RemoveXAttr, Access as AskAccess, Create}
use Rattle.fuse_protocol.specs.AclValues.{acl_value_bytes}
use Rattle.fuse_plans.specs.declared.reply.ReplyBody.TheVariants.{Bytes, Wrote as WroteBytes, Acl, Size}
use Rattle.fuse_plans.specs.declared.request.WhoCounts.{WhoCounts}
use Rattle.fuse_plans.specs.declared.request.WhoCounts.TheVariants.{Nobody, User, Process}
use Rattle.fuse_plans.specs.Requests.{Request}
use Rattle.fuse_plans.specs.AclPlans.{access_name}
use Rattle.fuse_plans.proofs.Replays.{counted_from, all_runs, new, asks, asks_with, kernel, root, user, another, init, set_mode, set_owner, set_times, set_size, set_size_by, flags, reading, writing, extent, status, shown, found, made, created, opened, done, begun, node, acl, ◌hears◌, AreHeard, ◌is◌, EachIs, Silent, Told, Error}

-- ---- lists

-- read and write for user 1001 too
abbrev shared : AccessList
shared = acl (perms_of 6) ((1001, perms_of 6) ∷ []) (perms_of 4) [] (Some (perms_of 6)) (perms_of 0)

abbrev sharing : Operation
sharing = SetXAttr access_name (acl_value_bytes (entries_of shared))

abbrev user_shares : ℕ → ℕ → Request
user_shares of now = asks_with (Some shared) of 1000 100 (Some []) now sharing

-- ---- below a directory that is closed

-- The owner of a file gives it a mode and an ACL, though the directory is closed to it: only a look-up asks that. Another user does
-- neither, and reads the ACL. Without the ACL the mode stays.
pub owner_below_a_closed_directory : AreHeard (
    kernel 0 2 init hears begun
    ∷ root 1 2 (MkDir (codes "d") 0o777 0) hears made (node 1 2) (status 2 Directory 0o777 1 0 0 0) 2
    ∷ user (node 1 2) 3 (Create (codes "f") (flags 0o101) 0o100644 0o22) hears created (node 1 3) (status 3 File 0o644 1 1000 100 0) 3 1
    ∷ user (node 1 3) 4 (Release 1) hears done
    ∷ root (node 1 2) 5 (set_mode 0o40700) hears shown (status 2 Directory 0o700 1 0 0 128) 2 3 5
    ∷ user (node 1 2) 6 (Lookup (codes "f")) hears Error 13
    ∷ user (node 1 3) 7 (set_mode 0o100640) hears shown (status 3 File 0o640 1 1000 100 0) 3 3 7
    ∷ another (node 1 3) 8 (set_mode 0o100666) hears Error 1
    ∷ user_shares (node 1 3) 9 hears done
    ∷ asks_with (Some shared) (node 1 3) 1001 101 (Some []) 10 sharing hears Error 1
    ∷ user (node 1 3) 11 (GetXAttr access_name 0) hears Told (Size 44)
    ∷ another (node 1 3) 11 (GetXAttr access_name 100) hears Told (Acl shared)
    ∷ user (node 1 3) 11 GetAttr hears shown (status 3 File 0o660 1 1000 100 0) 3 3 9
    ∷ user (node 1 3) 12 (RemoveXAttr access_name) hears done
    ∷ user (node 1 3) 13 (GetXAttr access_name 0) hears Error 61
    ∷ user (node 1 3) 13 GetAttr hears shown (status 3 File 0o660 1 1000 100 0) 3 3 12
    ∷ [])
unfolding all_runs acl_value_bytes
owner_below_a_closed_directory = refl

-- ---- without a name

-- A file that is open loses its name: it gets a mode and an ACL, is shown with no links, is read and opened anew, and gets no name any
-- more. With its last handle it goes, and the node is stale; a further name of it is refused as before, as Linux does where there are
-- no links.
pub unlinked_while_it_is_open : AreHeard (
    kernel 0 2 init hears begun
    ∷ root 1 2 (MkDir (codes "d") 0o777 0) hears made (node 1 2) (status 2 Directory 0o777 1 0 0 0) 2
    ∷ user (node 1 2) 3 (Create (codes "f") (flags 0o102) 0o100600 0) hears created (node 1 3) (status 3 File 0o600 1 1000 100 0) 3 1
    ∷ user (node 1 2) 4 (Unlink (codes "f")) hears done
    ∷ user (node 1 2) 4 (Lookup (codes "f")) hears Error 2
    ∷ user (node 1 3) 5 (set_mode 0o100640) hears shown (status 3 File 0o640 0 1000 100 0) 3 3 5
    ∷ user_shares (node 1 3) 6 hears done
    ∷ user (node 1 3) 7 GetAttr hears shown (status 3 File 0o660 0 1000 100 0) 3 3 6
    ∷ user (node 1 3) 7 (GetXAttr access_name 100) hears Told (Acl shared)
    ∷ another (node 1 3) 8 (set_mode 0o100666) hears Error 1
    ∷ user (node 1 2) 9 (AddLink (node 1 3) (codes "again")) hears Error 2
    ∷ root (node 1 2) 9 (AddLink (node 1 3) (codes "again")) hears Error 2
    ∷ user (node 1 3) 10 (WriteFile 1 0 (codes "abc")) hears Told (WroteBytes 3)
    ∷ another (node 1 3) 11 reading hears opened 2
    ∷ asks (node 1 3) 1002 102 (Some []) 11 reading hears Error 13
    ∷ user (node 1 3) 12 (Release 1) hears done
    ∷ another (node 1 3) 12 (ReadFile (extent 2 0 4096)) hears Told (Bytes (codes "abc"))
    ∷ user (node 1 3) 13 GetAttr hears shown (status 3 File 0o660 0 1000 100 3) 3 10 10
    ∷ another (node 1 3) 14 (Release 2) hears done
    ∷ user (node 1 3) 15 GetAttr hears Error 116
    ∷ user (node 1 3) 15 (set_mode 0o100600) hears Error 116
    ∷ user (node 1 3) 15 reading hears Error 116
    ∷ user (node 1 3) 15 (GetXAttr access_name 100) hears Error 116
    ∷ user (node 1 2) 15 (AddLink (node 1 3) (codes "again")) hears Error 2
    ∷ [])
unfolding all_runs acl_value_bytes
unlinked_while_it_is_open = refl

-- A file goes, and another that is made gets its number: that has a node of its own, and the one before is stale for each request. What was
-- a directory is shown as it was, until the kernel forgets it.
pub a_number_is_given_again : AreHeard (
    kernel 0 2 init hears begun
    ∷ root 1 2 (Create (codes "f") (flags 0o102) 0o100644 0) hears created (node 1 2) (status 2 File 0o644 1 0 0 0) 2 1
    ∷ root (node 1 2) 3 (Release 1) hears done
    ∷ root 1 4 (Unlink (codes "f")) hears done
    ∷ root (node 1 2) 5 GetAttr hears Error 116
    ∷ root 1 6 (MkDir (codes "g") 0o755 0) hears made (node 2 2) (status 2 Directory 0o755 1 0 0 0) 6
    ∷ root (node 1 2) 7 GetAttr hears Error 116
    ∷ root (node 1 2) 7 (set_mode 0o100600) hears Error 116
    ∷ root (node 1 2) 7 reading hears Error 116
    ∷ root 1 7 (AddLink (node 1 2) (codes "h")) hears Error 116
    ∷ root (node 2 2) 8 GetAttr hears shown (status 2 Directory 0o755 1 0 0 0) 6 6 6
    ∷ root 1 9 (RmDir (codes "g")) hears done
    ∷ root (node 2 2) 9 GetAttr hears shown (status 2 Directory 0o755 0 0 0 0) 6 6 9
    ∷ root 1 10 (SymLink (codes "g") (codes "f")) hears made (node 3 2) (status 2 LinkType 0o777 1 0 0 1) 10
    ∷ root (node 1 2) 11 GetAttr hears Error 116
    ∷ root (node 2 2) 11 GetAttr hears shown (status 2 Directory 0o755 0 0 0 0) 6 6 9
    ∷ root (node 2 2) 11 OpenDir hears opened 0
    ∷ kernel (node 2 2) 11 (Forget 2) hears Silent
    ∷ root (node 2 2) 11 GetAttr hears Error 116
    ∷ root (node 3 2) 11 ReadLink hears Told (Bytes (codes "f"))
    ∷ [])
unfolding all_runs
a_number_is_given_again = refl

-- ---- links

-- Root gives a link an owner, who may give it no other, and sets its times; nobody else does, since a link is never written to. It has
-- no mode that could be set, and no ACL.
pub a_symbolic_link : AreHeard (
    kernel 0 2 init hears begun
    ∷ root 1 2 (SymLink (codes "l") (codes "nowhere")) hears made (node 1 2) (status 2 LinkType 0o777 1 0 0 7) 2
    ∷ root (node 1 2) 3 (set_owner 1000) hears shown (status 2 LinkType 0o777 1 1000 0 7) 2 2 3
    ∷ user (node 1 2) 4 (set_owner 1001) hears Error 1
    ∷ root (node 1 2) 5 (set_mode 0o120600) hears Error 95
    ∷ user (node 1 2) 5 (set_mode 0o120600) hears Error 95
    ∷ user (node 1 2) 6 ReadLink hears Told (Bytes (codes "nowhere"))
    ∷ user (node 1 2) 6 (GetXAttr access_name 0) hears Error 95
    ∷ user (node 1 2) 6 (ListXAttr 0) hears Told (Size 0)
    ∷ user (node 1 2) 7 (set_times None (Some (AtTime 5 0))) hears shown (status 2 LinkType 0o777 1 1000 0 7) 2 5 7
    ∷ another (node 1 2) 8 (set_times None (Some (AtTime 5 0))) hears Error 1
    ∷ another (node 1 2) 8 (set_times (Some Now) (Some Now)) hears Error 1
    ∷ another 1 9 (Lookup (codes "l")) hears found (node 1 2) (status 2 LinkType 0o777 1 1000 0 7) 2 5 7
    ∷ [])
unfolding all_runs
a_symbolic_link = refl

-- A file of user 7 has a name in a directory that is closed to it, and another where it isn't. The file is opened by its owner, and
-- gets one more name; another user is refused, whatever names there are.
pub a_file_with_several_names : AreHeard (
    kernel 0 2 init hears begun
    ∷ root 1 2 (MkDir (codes "A") 0o700 0) hears made (node 1 2) (status 2 Directory 0o700 1 0 0 0) 2
    ∷ root 1 2 (MkDir (codes "B") 0o777 0) hears made (node 1 3) (status 3 Directory 0o777 1 0 0 0) 2
    ∷ asks (node 1 3) 7 7 (Some []) 3 (Create (codes "f") (flags 0o101) 0o100600 0) hears created (node 1 4) (status 4 File 0o600 1 7 7 0) 3 1
    ∷ root (node 1 2) 4 (AddLink (node 1 4) (codes "f")) hears found (node 1 4) (status 4 File 0o600 2 7 7 0) 3 3 4
    ∷ asks (node 1 4) 7 7 (Some []) 5 reading hears opened 2
    ∷ asks (node 1 3) 7 7 (Some []) 6 (AddLink (node 1 4) (codes "g")) hears found (node 1 4) (status 4 File 0o600 3 7 7 0) 3 3 6
    ∷ asks (node 1 2) 7 7 (Some []) 7 (AddLink (node 1 4) (codes "g")) hears Error 13
    ∷ asks (node 1 4) 8 8 (Some []) 8 reading hears Error 13
    ∷ asks (node 1 3) 7 7 (Some []) 9 (Unlink (codes "f")) hears done
    ∷ asks (node 1 3) 7 7 (Some []) 9 (Unlink (codes "g")) hears done
    ∷ asks (node 1 4) 8 8 (Some []) 10 reading hears Error 13
    ∷ asks (node 1 4) 7 7 (Some []) 11 writing hears opened 3
    ∷ asks (node 1 4) 7 7 (Some []) 11 GetAttr hears shown (status 4 File 0o600 1 7 7 0) 3 3 9
    ∷ [])
unfolding all_runs
a_file_with_several_names = refl

-- ---- opening

-- What a user may run and not read is opened to be run, and its bytes are read then; it isn't opened to be read. What it may read and
-- not run is opened the other way round. Where nobody may run it root may not either.
pub opened_to_be_run : AreHeard (
    kernel 0 2 init hears begun
    ∷ root 1 2 (Create (codes "x") (flags 0o102) 0o100711 0) hears created (node 1 2) (status 2 File 0o711 1 0 0 0) 2 1
    ∷ root (node 1 2) 3 (WriteFile 1 0 (codes "run")) hears Told (WroteBytes 3)
    ∷ root (node 1 2) 4 (Release 1) hears done
    ∷ user (node 1 2) 5 (OpenFile (flags 0x20)) hears opened 1
    ∷ user (node 1 2) 6 reading hears Error 13
    ∷ user (node 1 2) 7 (ReadFile (extent 1 0 4096)) hears Told (Bytes (codes "run"))
    ∷ user (node 1 2) 7 (AskAccess 1) hears done
    ∷ user (node 1 2) 7 (AskAccess 4) hears Error 13
    ∷ root (node 1 2) 8 (set_mode 0o100744) hears shown (status 2 File 0o744 1 0 0 3) 2 3 8
    ∷ user (node 1 2) 9 (OpenFile (flags 0x20)) hears Error 13
    ∷ user (node 1 2) 10 reading hears opened 2
    ∷ root (node 1 2) 11 (OpenFile (flags 0x20)) hears opened 3
    ∷ root (node 1 2) 12 (set_mode 0o100644) hears shown (status 2 File 0o644 1 0 0 3) 2 3 12
    ∷ root (node 1 2) 13 (OpenFile (flags 0x20)) hears Error 13
    ∷ root (node 1 2) 13 (AskAccess 1) hears Error 13
    ∷ [])
unfolding all_runs
opened_to_be_run = refl

-- What is open is read, written and cut by its handle, though its mode grants nobody anything by now; by the object it isn't.
pub by_a_handle_after_chmod : AreHeard (
    kernel 0 2 init hears begun
    ∷ root 1 2 (MkDir (codes "d") 0o777 0) hears made (node 1 2) (status 2 Directory 0o777 1 0 0 0) 2
    ∷ user (node 1 2) 3 (Create (codes "f") (flags 0o102) 0o100600 0) hears created (node 1 3) (status 3 File 0o600 1 1000 100 0) 3 1
    ∷ user (node 1 3) 4 (set_mode 0o100000) hears shown (status 3 File 0o000 1 1000 100 0) 3 3 4
    ∷ user (node 1 3) 5 (WriteFile 1 0 (codes "abc")) hears Told (WroteBytes 3)
    ∷ user (node 1 3) 6 (ReadFile (extent 1 0 4096)) hears Told (Bytes (codes "abc"))
    ∷ user (node 1 3) 6 (ReadFile (extent 1 1 1)) hears Told (Bytes (codes "b"))
    ∷ user (node 1 3) 6 (ReadFile (extent 1 3 1)) hears Told (Bytes [])
    ∷ user (node 1 3) 7 reading hears Error 13
    ∷ user (node 1 3) 7 writing hears Error 13
    ∷ user (node 1 3) 8 (set_size_by 1 2) hears shown (status 3 File 0o000 1 1000 100 2) 3 8 8
    ∷ user (node 1 3) 9 (set_size 1) hears Error 13
    ∷ user (node 1 3) 10 GetAttr hears shown (status 3 File 0o000 1 1000 100 2) 3 8 8
    ∷ root (node 1 3) 11 (OpenFile (flags 2)) hears opened 2
    ∷ [])
unfolding all_runs
by_a_handle_after_chmod = refl

-- ---- who counts

-- user 1000, of whom no groups are known, asks after a file of root with this mode was made
abbrev counted : ℕ → Operation → WhoCounts
counted mode operation =
    counted_from new fresh (kernel 0 2 init ∷ root 1 2 (Create (codes "f") (flags 0o102) mode 0) ∷ [])
    (asks (node 1 2) 1000 100 None 3 operation)

-- the same of a file of its own
abbrev counted_of_own : ℕ → Operation → WhoCounts
counted_of_own mode operation =
    counted_from new fresh (kernel 0 2 init ∷ root 1 2 (Create (codes "f") (flags 0o102) mode 0) ∷ root (node 1 2) 2 (set_owner 1000) ∷ [])
    (asks (node 1 2) 1000 100 None 3 operation)

-- What everyone may read is read by the user whatever its groups are, what the group alone may read by who is in it, and what all but
-- the group may read by who isn't. What everyone may run is opened by the user too. Opened to write, a file may change. The owner reads
-- by what its own entry grants, and asks no group; where that grants nothing a capability might.
pub files_of_each_mode : EachIs (
    counted 0o100644 reading is User
    ∷ counted 0o100640 reading is Process
    ∷ counted 0o100604 reading is Process
    ∷ counted 0o100711 (OpenFile (flags 0x20)) is User
    ∷ counted 0o100666 writing is Process
    ∷ counted_of_own 0o100400 reading is User
    ∷ counted_of_own 0o100044 reading is Process
    ∷ [])
unfolding all_runs
files_of_each_mode = refl

-- user 1000 opens a file of root with this list to read it
abbrev counted_with : AccessList → WhoCounts
counted_with list =
    counted_from new fresh
    (kernel 0 2 init ∷ root 1 2 (Create (codes "f") (flags 0o102) 0o100600 0)
    ∷ asks_with (Some list) (node 1 2) 0 0 (Some []) 2 (SetXAttr access_name (acl_value_bytes (entries_of list))) ∷ [])
    (asks (node 1 2) 1000 100 None 3 reading)

-- What an entry for the user grants behind the mask it is granted in any group. Where a group's entry grants less than that for others
-- the group counts; where all of them grant it, it doesn't.
pub lists_that_name_users_and_groups : EachIs (
    counted_with (acl (perms_of 6) ((1000, perms_of 4) ∷ []) (perms_of 0) [] (Some (perms_of 4)) (perms_of 0)) is User
    ∷ counted_with (acl (perms_of 6) ((1000, perms_of 4) ∷ []) (perms_of 0) [] (Some (perms_of 2)) (perms_of 0)) is Process
    ∷ counted_with (acl (perms_of 6) ((1000, perms_of 2) ∷ []) (perms_of 4) [] (Some (perms_of 6)) (perms_of 4)) is Process
    ∷ counted_with (acl (perms_of 6) [] (perms_of 4) ((50, perms_of 0) ∷ []) (Some (perms_of 4)) (perms_of 4)) is Process
    ∷ counted_with (acl (perms_of 6) ((1001, perms_of 0) ∷ []) (perms_of 4) ((50, perms_of 4) ∷ []) (Some (perms_of 4)) (perms_of 4)) is User
    ∷ [])
unfolding all_runs acl_value_bytes
lists_that_name_users_and_groups = refl

-- user 1000 asks for something of a directory of root with this mode
abbrev counted_in : ℕ → Operation → WhoCounts
counted_in mode operation =
    counted_from new fresh (kernel 0 2 init ∷ root 1 2 (MkDir (codes "d") mode 0) ∷ [])
    (asks (node 1 2) 1000 100 None 3 operation)

-- Who looks up and lists counts as who reads does; who changes something always counts; and for what asks no permission nobody does.
pub requests_of_a_directory : EachIs (
    counted_in 0o711 (Lookup (codes "f")) is User
    ∷ counted_in 0o710 (Lookup (codes "f")) is Process
    ∷ counted_in 0o755 OpenDir is User
    ∷ counted_in 0o711 OpenDir is Process
    ∷ counted_in 0o755 (AskAccess 5) is User
    ∷ counted_in 0o755 (AskAccess 7) is Process
    ∷ counted_in 0o777 (Unlink (codes "f")) is Process
    ∷ counted_in 0o777 (set_mode 0o40700) is Process
    ∷ counted_in 0o700 GetAttr is Nobody
    ∷ counted_in 0o700 (GetXAttr access_name 0) is Nobody
    ∷ [])
unfolding all_runs
requests_of_a_directory = refl

-- what is told then: who may read by being others is told a handle, whatever groups it has; who may read by a group only in that
-- group, and not where its groups aren't known
pub groups_of_who_opens : AreHeard (
    kernel 0 2 init hears begun
    ∷ root 1 2 (Create (codes "f") (flags 0o102) 0o100644 0) hears created (node 1 2) (status 2 File 0o644 1 0 0 0) 2 1
    ∷ user (node 1 2) 3 reading hears opened 2
    ∷ asks (node 1 2) 1000 100 (Some (7 ∷ 0 ∷ [])) 3 reading hears opened 3
    ∷ root (node 1 2) 4 (set_mode 0o100640) hears shown (status 2 File 0o640 1 0 0 0) 2 2 4
    ∷ asks (node 1 2) 1000 100 None 5 reading hears Error 13
    ∷ user (node 1 2) 5 reading hears Error 13
    ∷ asks (node 1 2) 1000 100 (Some (7 ∷ 0 ∷ [])) 5 reading hears opened 4
    ∷ [])
unfolding all_runs
groups_of_who_opens = refl
