-- Which refusal comes first where several hold, and how far each call gets, computed.
use Rattle.std.specs.Prelude.{◌≡◌, ◌^◌, true, false, List, [], ◌∷◌, ◌++◌, codes, replicate, None, Some, pos, negsuc}
use Rattle.std.proofs.Common.{refl}
use Rattle.posix_acl.specs.Entries.{perms_of}
use Rattle.posix_acl.specs.AccessList.{minimal}
use Rattle.fs_cred.specs.declared.errno.Errno.TheVariants.{EPERM, ENOENT, ESRCH, EBADF, EBUSY, EEXIST, ENOTDIR, EISDIR, EINVAL, EMFILE, EFBIG, ENAMETOOLONG, ENOTEMPTY}
use Rattle.fs_cred.specs.declared.refusal.Need.{Need}
use Rattle.fs_cred.specs.declared.refusal.Need.TheVariants.{Perm, Search, Own, Remove}
use Rattle.fs_cred.specs.declared.rule.Rule.TheVariants.{Owner, Other, NotOwner, Sticky}
use Rattle.fs_cred.specs.Verdicts.{verdict}
use Rattle.fs_model.specs.declared.call.Whence.TheVariants.{Set, Cur, End}
use Rattle.fs_model.specs.declared.call.AclType.TheVariants.{Access as AccessAcl, Default as DefaultAcl}
use Rattle.fs_model.specs.declared.call.Call.TheVariants.{Open, Read, Write, Lseek, Close, Truncate, Ftruncate, Chmod, GetAcl, SetAcl, Readdir, Mkdir, Rmdir, Link, Symlink, Readlink, Unlink, Rename, Chdir}
use Rattle.fs_model.specs.declared.reply.Reply.TheVariants.{Done, Fd, Wrote, At, Acl, Names, Target}
use Rattle.fs_model.specs.declared.event.Event.{Event}
use Rattle.fs_model.specs.declared.event.Event.TheVariants.{Call as Calls, Fsync}
use Rattle.fs_model.specs.Trails.{trail_of}
use Rattle.fs_model.specs.Walks.{first_refusal, found_of}
use Rattle.fs_model.specs.Rows.{row_of}
use Rattle.fs_model.specs.Steps.{firm_refusal, other_refusal, after}
use Rattle.fs_model.proofs.Machine.{fresh, replies, then_replies, user, to_read, to_write, to_read_write, denied, failed, last_two}
use Rattle.fs_model.proofs.RowsOfFiles.{times}

-- to add or remove a name
abbrev to_change : Need
to_change = Perm (perms_of 3)

-- the process, then the arguments, then the path, then the descriptors, then what is found
pub open_in_order : then_replies (
    Calls 2 (Open (codes "/w/f") to_write 0o600)
    ∷ Calls 9 (Open [] (record to_read { create = true; directory = true }) 0o10000)
    ∷ Calls 2 (Open [] (record to_read { create = true; directory = true }) 0)
    ∷ Calls 2 (Open [] to_read 0o10000)
    ∷ Calls 2 (Open (97 ∷ 0 ∷ replicate 1100 97) to_read 0)
    ∷ Calls 2 (Open (replicate 1024 47) to_read 0)
    ∷ Calls 2 (Open (replicate 1023 47) to_read 0)
    ∷ Calls 2 (Open (codes "/no/no/") to_write 0)
    ∷ Calls 2 (Open (codes "/w/f") (record to_write { excl = true; directory = false }) 0)
    ∷ Calls 2 (Open (codes "/w/no") to_read 0)
    ∷ Calls 2 (Open (codes "/w") (record to_read { directory = true }) 0)
    ∷ Calls 2 (Open (codes "/w/f") (record to_read { directory = true }) 0)
    ∷ Calls 2 (Open (codes "/w") (record to_write { create = false }) 0)
    ∷ Calls 2 (Open (codes "/w") (record to_read { create = true }) 0)
    ∷ Calls 3 (Open (codes "/w/f") to_read 0)
    ∷ Calls 3 (Open (codes "/w/f") to_read_write 0o666)
    ∷ Calls 3 (Open (codes "/no") to_write 0o644)
    ∷ []) ≡
    Fd 0 ∷ failed ESRCH ∷ failed EINVAL ∷ failed EINVAL ∷ failed EINVAL ∷ failed ENAMETOOLONG ∷ Fd 1 ∷ failed EISDIR ∷ failed EEXIST ∷ failed ENOENT
    ∷ Fd 2 ∷ failed ENOTDIR ∷ failed EISDIR ∷ failed EISDIR ∷ denied 1 2 (Perm (perms_of 4)) Other ∷ denied 1 2 (Perm (perms_of 6)) Other
    ∷ denied 1 0 to_change Other ∷ []
unfolding verdict trail_of first_refusal found_of row_of firm_refusal other_refusal after
open_in_order = refl

pub open_without_a_descriptor : last_two (replies fresh (
    user 0 0 [] ∷ times 32 (Calls 1 (Open (codes "/") to_read 0)) ++ Calls 1 (Open (codes "/no/") to_write 0) ∷ Calls 1 (Open (codes "/no/no") to_read 0) ∷ [])) ≡
    failed EISDIR ∷ failed EMFILE ∷ []
unfolding verdict trail_of first_refusal found_of row_of firm_refusal other_refusal after
open_without_a_descriptor = refl

pub mkdir_in_order : then_replies (
    Calls 1 (Mkdir (codes "/d") 0o755) ∷ Calls 2 (Open (codes "/w/f") to_write 0o600)
    ∷ Calls 2 (Mkdir [] 0o10000)
    ∷ Calls 2 (Mkdir (codes "/") 0o755)
    ∷ Calls 2 (Mkdir (codes "/d/.") 0o755)
    ∷ Calls 2 (Mkdir (codes "/d/no/..") 0o755)
    ∷ Calls 2 (Mkdir (codes "/w/f/no") 0o755)
    ∷ Calls 2 (Mkdir (codes "/w/f") 0o755)
    ∷ Calls 2 (Mkdir (codes "/d/no") 0o755)
    ∷ Calls 2 (Mkdir (codes "/w/m/") 0o755)
    ∷ []) ≡
    Done ∷ Fd 0 ∷ failed EINVAL ∷ failed EEXIST ∷ failed EEXIST ∷ failed ENOENT ∷ failed ENOTDIR ∷ failed EEXIST ∷ denied 1 1 to_change Other ∷ Done ∷ []
unfolding verdict trail_of first_refusal found_of row_of firm_refusal other_refusal after
mkdir_in_order = refl

-- a directory /d of user 0, and of user 1000 a file /w/f and a directory /w/m
abbrev some_objects : List Event
some_objects = Calls 1 (Mkdir (codes "/d") 0o755) ∷ Calls 2 (Open (codes "/w/f") to_write 0o600) ∷ Calls 2 (Mkdir (codes "/w/m") 0o755) ∷ []

pub rmdir_in_order : then_replies (some_objects ++
    Calls 2 (Rmdir (codes "//")) ∷ Calls 2 (Rmdir (codes "/d/.")) ∷ Calls 2 (Rmdir (codes "/d/..")) ∷ Calls 2 (Rmdir (codes "/d/no"))
    ∷ Calls 3 (Rmdir (codes "/w/f/")) ∷ Calls 2 (Rmdir (codes "/d")) ∷ Calls 3 (Rmdir (codes "/w/f")) ∷ Calls 2 (Rmdir (codes "/w/f"))
    ∷ Calls 2 (Chdir (codes "/w/m")) ∷ Calls 2 (Mkdir (codes "n") 0o755) ∷ Calls 2 (Rmdir (codes "/w/m")) ∷ Calls 2 (Chdir (codes "/")) ∷ Calls 2 (Rmdir (codes "/w/m"))
    ∷ Calls 2 (Rmdir (codes "/w/m/n/")) ∷ Calls 2 (Rmdir (codes "/w/m")) ∷ []) ≡
    Done ∷ Fd 0 ∷ Done
    ∷ failed EBUSY ∷ failed EINVAL ∷ failed ENOTEMPTY ∷ failed ENOENT ∷ failed ENOTDIR ∷ denied 1 0 to_change Other ∷ denied 1 1 Remove Sticky ∷ failed ENOTDIR
    ∷ Done ∷ Done ∷ failed EBUSY ∷ Done ∷ failed ENOTEMPTY ∷ Done ∷ Done ∷ []
unfolding verdict trail_of first_refusal found_of row_of firm_refusal other_refusal after
rmdir_in_order = refl

pub unlink_in_order : then_replies (some_objects ++
    Calls 2 (Unlink (codes "/w/m/..")) ∷ Calls 2 (Unlink (codes "/w/no")) ∷ Calls 3 (Unlink (codes "/w/f/")) ∷ Calls 2 (Unlink (codes "/d"))
    ∷ Calls 3 (Unlink (codes "/w/m")) ∷ Calls 2 (Unlink (codes "/w/m")) ∷ Calls 2 (Unlink (codes "/w/f")) ∷ []) ≡
    Done ∷ Fd 0 ∷ Done
    ∷ failed EISDIR ∷ failed ENOENT ∷ failed ENOTDIR ∷ denied 1 0 to_change Other ∷ denied 1 1 Remove Sticky ∷ failed EISDIR ∷ Done ∷ []
unfolding verdict trail_of first_refusal found_of row_of firm_refusal other_refusal after
unlink_in_order = refl

-- both walks come before what is asked of either's find
pub link_in_order : then_replies (some_objects ++
    Calls 1 (Mkdir (codes "/s") 0o700)
    ∷ Calls 2 (Link (codes "/w/.") (codes "/s/no/no")) ∷ Calls 2 (Link (codes "/w/no/no") (codes "/s/no/no")) ∷ Calls 2 (Link (codes "/w/.") (codes "/w/f"))
    ∷ Calls 2 (Link (codes "/w/no") (codes "/w/f")) ∷ Calls 2 (Link (codes "/w/f/") (codes "/w/f")) ∷ Calls 2 (Link (codes "/w/m/") (codes "/w/f"))
    ∷ Calls 2 (Link (codes "/w/f") (codes "/w/m")) ∷ Calls 2 (Link (codes "/w/f") (codes "/")) ∷ Calls 2 (Link (codes "/w/f") (codes "/d/no/"))
    ∷ Calls 2 (Link (codes "/w/f") (codes "/d/no")) ∷ Calls 3 (Link (codes "/w/f") (codes "/w/g")) ∷ []) ≡
    Done ∷ Fd 0 ∷ Done ∷ Done
    ∷ denied 2 1 Search Other ∷ failed ENOENT ∷ failed EPERM ∷ failed ENOENT ∷ failed ENOTDIR ∷ failed EPERM ∷ failed EEXIST ∷ failed EEXIST ∷ failed ENOENT
    ∷ denied 2 1 to_change Other ∷ Done ∷ []
unfolding verdict trail_of first_refusal found_of row_of firm_refusal other_refusal after
link_in_order = refl

pub symlink_in_order : then_replies (some_objects ++
    Calls 2 (Symlink [] []) ∷ Calls 2 (Symlink (97 ∷ 0 ∷ replicate 600 97) []) ∷ Calls 2 (Symlink (replicate 513 97) []) ∷ Calls 2 (Symlink (codes "t") [])
    ∷ Calls 2 (Symlink (codes "t") (codes "/d/")) ∷ Calls 2 (Symlink (codes "t") (codes "/d/no/")) ∷ Calls 2 (Symlink (codes "t") (codes "/d/no"))
    ∷ Calls 2 (Symlink (replicate 512 97) (codes "/w/l")) ∷ Calls 2 (Readlink (codes "/w/l")) ∷ Calls 2 (Readlink (codes "/w/f")) ∷ Calls 2 (Readlink (codes "/w/no")) ∷ []) ≡
    Done ∷ Fd 0 ∷ Done
    ∷ failed ENOENT ∷ failed EINVAL ∷ failed ENAMETOOLONG ∷ failed ENOENT ∷ failed EEXIST ∷ failed ENOENT ∷ denied 1 1 to_change Other
    ∷ Done ∷ Target (replicate 512 97) ∷ failed EINVAL ∷ failed ENOENT ∷ []
unfolding verdict trail_of first_refusal found_of row_of firm_refusal other_refusal after
symlink_in_order = refl

pub rename_in_order : then_replies (some_objects ++
    Calls 2 (Rename (codes "/w/.") (codes "/")) ∷ Calls 2 (Rename (codes "/") (codes "/w/..")) ∷ Calls 2 (Rename (codes "/") (codes "/w/no")) ∷ Calls 2 (Rename (codes "/w/no") (codes "/"))
    ∷ Calls 2 (Rename (codes "/d/no") (codes "/w/f/")) ∷ Calls 2 (Rename (codes "/w/f") (codes "/d/no/")) ∷ Calls 3 (Rename (codes "/w/m") (codes "/w/f/"))
    ∷ Calls 2 (Rename (codes "/d") (codes "/d")) ∷ Calls 2 (Rename (codes "/w/f") (codes "/d/no")) ∷ Calls 2 (Rename (codes "/d") (codes "/w/no"))
    ∷ Calls 3 (Rename (codes "/w/f") (codes "/w/m")) ∷ Calls 2 (Rename (codes "/w/f") (codes "/w/m")) ∷ Calls 2 (Rename (codes "/w/m") (codes "/w/f"))
    ∷ Calls 2 (Rename (codes "/w/m") (codes "/w/m/n")) ∷ Calls 2 (Rename (codes "/w/m/") (codes "/w/n/")) ∷ []) ≡
    Done ∷ Fd 0 ∷ Done
    ∷ failed EINVAL ∷ failed EINVAL ∷ failed EBUSY ∷ failed EBUSY ∷ failed ENOENT ∷ failed ENOTDIR ∷ failed ENOTDIR
    ∷ Done ∷ denied 2 1 to_change Other ∷ denied 1 0 to_change Other ∷ denied 1 1 Remove Sticky ∷ failed EISDIR ∷ failed ENOTDIR ∷ failed EINVAL ∷ Done ∷ []
unfolding verdict trail_of first_refusal found_of row_of firm_refusal other_refusal after
rename_in_order = refl

-- a directory that gets another parent has to be writable, and one that keeps it hasn't; an open file may be replaced
pub a_directory_is_moved : then_replies (
    Calls 2 (Mkdir (codes "/w/m") 0o555) ∷ Calls 2 (Mkdir (codes "/w/n") 0o755) ∷ Calls 2 (Rename (codes "/w/m") (codes "/w/n/m")) ∷ Calls 2 (Rename (codes "/w/m") (codes "/w/o"))
    ∷ Calls 2 (Chmod (codes "/w/o") 0o755) ∷ Calls 2 (Rename (codes "/w/o") (codes "/w/n/o")) ∷ Calls 2 (Open (codes "/w/n/o/..") to_read 0) ∷ Calls 2 (Readdir 0)
    ∷ Calls 2 (Open (codes "/w/f") to_write 0o644) ∷ Calls 2 (Open (codes "/w/g") to_write 0o644) ∷ Calls 2 (Rename (codes "/w/f") (codes "/w/g")) ∷ Calls 2 (Write 2 (codes "x")) ∷ []) ≡
    Done ∷ Done ∷ denied 1 2 (Perm (perms_of 2)) Owner ∷ Done ∷ Done ∷ Done ∷ Fd 0 ∷ Names ((codes ".", 4) ∷ (codes "..", 2) ∷ (codes "o", 3) ∷ [])
    ∷ Fd 1 ∷ Fd 2 ∷ Done ∷ Wrote 1 ∷ []
unfolding verdict trail_of first_refusal found_of row_of firm_refusal other_refusal after
a_directory_is_moved = refl

pub attributes_in_order : then_replies (some_objects ++
    Calls 2 (Truncate (codes "/w/m") 71681) ∷ Calls 3 (Truncate (codes "/w/f") 71681) ∷ Calls 2 (Truncate (codes "/w/f") 71681) ∷ Calls 2 (Truncate (codes "/w/f") 71680)
    ∷ Calls 3 (Chmod [] 0o10000) ∷ Calls 3 (Chmod (codes "/w/no") 0o644) ∷ Calls 3 (Chmod (codes "/w/f") 0o644)
    ∷ Calls 3 (SetAcl [] AccessAcl None) ∷ Calls 3 (SetAcl (codes "/w/f") DefaultAcl None) ∷ Calls 2 (SetAcl (codes "/w/f") DefaultAcl None)
    ∷ Calls 2 (SetAcl (codes "/w/m") DefaultAcl None) ∷ Calls 3 (GetAcl (codes "/w/f") DefaultAcl) ∷ Calls 3 (GetAcl (codes "/w/f") AccessAcl)
    ∷ Calls 1 (Chmod (codes "/d") 0o700) ∷ Calls 2 (Chdir (codes "/w/f")) ∷ Calls 2 (Chdir (codes "/d")) ∷ Calls 2 (Chdir (codes "/d/.")) ∷ []) ≡
    Done ∷ Fd 0 ∷ Done
    ∷ failed EISDIR ∷ denied 1 2 (Perm (perms_of 2)) Other ∷ failed EFBIG ∷ Done ∷ failed EINVAL ∷ failed ENOENT ∷ denied 1 2 Own NotOwner
    ∷ failed EINVAL ∷ denied 1 2 Own NotOwner ∷ failed ENOTDIR ∷ Done ∷ Acl None ∷ Acl (Some (minimal 0o600))
    ∷ Done ∷ failed ENOTDIR ∷ denied 1 1 Search Other ∷ denied 1 1 Search Other ∷ []
unfolding verdict trail_of first_refusal found_of row_of firm_refusal other_refusal after
attributes_in_order = refl

pub descriptors_in_order : then_replies (some_objects ++
    Calls 2 (Open (codes "/w/m") to_read 0) ∷ Calls 2 (Open (codes "/w/f") to_read 0)
    ∷ Calls 2 (Read 0 1) ∷ Calls 2 (Read 7 1) ∷ Calls 2 (Read 1 1) ∷ Calls 2 (Write 1 []) ∷ Calls 2 (Write 0 [])
    ∷ Calls 2 (Lseek 0 Set (pos 71680)) ∷ Calls 2 (Write 0 []) ∷ Calls 2 (Write 0 (codes "x")) ∷ Calls 2 (Lseek 0 Cur (negsuc 71680)) ∷ Calls 2 (Lseek 0 Set (pos (2 ^ 63)))
    ∷ Calls 2 (Lseek 0 End (pos 5)) ∷ Calls 2 (Lseek 1 Set (negsuc 0)) ∷ Calls 2 (Lseek 7 Set (negsuc 0))
    ∷ Calls 2 (Ftruncate 2 71681) ∷ Calls 2 (Ftruncate 0 71681) ∷ Calls 2 (Readdir 0) ∷ Calls 2 (Readdir 2) ∷ Calls 2 (Readdir 1)
    ∷ Calls 2 (Close 7) ∷ Fsync 2 7 ∷ Fsync 9 7 ∷ Fsync 2 1 ∷ []) ≡
    Done ∷ Fd 0 ∷ Done ∷ Fd 1 ∷ Fd 2
    ∷ failed EBADF ∷ failed EBADF ∷ failed EISDIR ∷ failed EBADF ∷ Wrote 0
    ∷ At 71680 ∷ Wrote 0 ∷ failed EFBIG ∷ failed EINVAL ∷ failed EINVAL
    ∷ At 5 ∷ failed EISDIR ∷ failed EBADF
    ∷ failed EBADF ∷ failed EFBIG ∷ failed EBADF ∷ failed ENOTDIR ∷ Names ((codes ".", 5) ∷ (codes "..", 2) ∷ [])
    ∷ failed EBADF ∷ failed EBADF ∷ failed ESRCH ∷ Done ∷ []
unfolding verdict trail_of first_refusal found_of row_of firm_refusal other_refusal after
descriptors_in_order = refl
