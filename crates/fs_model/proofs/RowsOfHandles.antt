-- What actors open and do by handles, computed.
use Rattle.std.specs.Prelude.{◌≡◌, [], ◌∷◌, ◌++◌, codes, replicate}
use Rattle.std.proofs.Common.{refl}
use Rattle.posix_acl.specs.Entries.{perms_of}
use Rattle.fs_cred.specs.declared.errno.Errno.TheVariants.{ENOENT, EBADF, EBUSY, ENOTDIR, EISDIR, ENOSPC}
use Rattle.fs_cred.specs.declared.refusal.Need.TheVariants.{Perm}
use Rattle.fs_cred.specs.declared.rule.Rule.TheVariants.{Owner}
use Rattle.fs_cred.specs.Verdicts.{verdict}
use Rattle.fs_model.specs.declared.call.Call.TheVariants.{Open, Write, Close, Stat, Chmod, Mkdir, Symlink, Unlink, Rmdir, Rename}
use Rattle.fs_model.specs.declared.reply.Reply.TheVariants.{Done, Opened, Made, Data, Wrote, Names, Space}
use Rattle.fs_model.specs.declared.event.HandleCall.TheVariants.{Read as ReadBy, Write as WriteBy, Resize, Show, List as ListBy, Close as CloseBy}
use Rattle.fs_model.specs.declared.event.Event.TheVariants.{Call as Calls, CallBy, Statfs}
use Rattle.fs_model.specs.States.{State}
use Rattle.fs_model.specs.Trails.{trail_of}
use Rattle.fs_model.specs.Walks.{first_refusal, found_of}
use Rattle.fs_model.specs.Rows.{row_of}
use Rattle.fs_model.specs.HandleCalls.{handle_call_row}
use Rattle.fs_model.specs.Steps.{firm_refusal, other_refusal, after}
use Rattle.fs_model.proofs.Machine.{two_directories, they_come, fresh, replies, then_replies, to_read, to_write, to_read_write, denied, failed, shows_file}
use Rattle.fs_model.proofs.RowsOfActors.{at}

-- Permission was asked when it was opened: what is done then doesn't ask again. No offset is kept, and once closed it is none.
pub an_opened_handle_reads : then_replies (two_directories ++
    Calls 2 (Write 0 (codes "hello")) ∷ at 1000 100 5 5 (Open [] to_read 0) ∷ at 1000 100 5 5 (Chmod [] 0o000)
    ∷ CallBy 1 (ReadBy 0 100) ∷ CallBy 1 (ReadBy 3 100) ∷ CallBy 1 (ReadBy 3 1) ∷ CallBy 1 (ReadBy 5 1) ∷ CallBy 1 Show ∷ at 1000 100 5 5 (Open [] to_read 0)
    ∷ CallBy 1 CloseBy ∷ CallBy 1 (ReadBy 0 100) ∷ CallBy 1 CloseBy ∷ []) ≡
    they_come
    ++ Wrote 5 ∷ Opened 1 5 ∷ Done
    ∷ Data (codes "hello") ∷ Data (codes "lo") ∷ Data (codes "l") ∷ Data [] ∷ shows_file 5 0o000 1 1000 100 5 ∷ denied 1 0 (Perm (perms_of 4)) Owner
    ∷ Done ∷ failed EBADF ∷ failed EBADF ∷ []
unfolding verdict trail_of first_refusal found_of row_of handle_call_row firm_refusal other_refusal after
an_opened_handle_reads = refl

-- A file without a name lives while somebody has it by a handle, also after the process that had it open, and goes with the last.
pub a_nameless_file_goes_with_its_last_handle : then_replies (two_directories ++
    at 1000 100 5 5 (Open [] to_read 0) ∷ at 1000 100 5 5 (Open [] to_write 0) ∷ at 1000 100 3 3 (Unlink (codes "f")) ∷ Calls 2 (Close 0)
    ∷ CallBy 1 Show ∷ CallBy 1 CloseBy ∷ CallBy 2 (WriteBy 2 (codes "x")) ∷ at 1000 100 5 5 (Stat []) ∷ Statfs ∷ CallBy 2 CloseBy ∷ at 1000 100 5 5 (Stat []) ∷ Statfs ∷ []) ≡
    they_come
    ++ Opened 1 5 ∷ Opened 2 5 ∷ Done ∷ Done
    ∷ shows_file 5 0o644 0 1000 100 0 ∷ Done ∷ Wrote 1 ∷ shows_file 5 0o644 0 1000 100 3 ∷ Space 875 58 ∷ Done ∷ failed ENOENT ∷ Space 876 59 ∷ []
unfolding verdict trail_of first_refusal found_of row_of handle_call_row firm_refusal other_refusal after
a_nameless_file_goes_with_its_last_handle = refl

-- what a handle wasn't opened for it doesn't do, and one that nobody was told does nothing
pub what_a_handle_is_for : then_replies (two_directories ++
    at 1000 100 5 5 (Open [] to_read 0) ∷ at 1000 100 5 5 (Open [] to_write 0) ∷ at 1000 100 4 4 (Open [] to_read 0)
    ∷ CallBy 1 (WriteBy 0 (codes "x")) ∷ CallBy 1 (Resize 9) ∷ CallBy 2 (ReadBy 0 1) ∷ CallBy 2 ListBy ∷ CallBy 2 (Resize 9) ∷ CallBy 1 ListBy ∷ CallBy 3 (ReadBy 0 1)
    ∷ CallBy 9 Show ∷ CallBy 9 CloseBy ∷ Calls 2 (Close 3) ∷ []) ≡
    they_come
    ++ Opened 1 5 ∷ Opened 2 5 ∷ Opened 3 4
    ∷ failed EBADF ∷ failed EBADF ∷ failed EBADF ∷ failed EBADF ∷ Done ∷ failed ENOTDIR ∷ failed EISDIR
    ∷ failed EBADF ∷ failed EBADF ∷ failed EBADF ∷ []
unfolding verdict trail_of first_refusal found_of row_of handle_call_row firm_refusal other_refusal after
what_a_handle_is_for = refl

-- a directory that is listed by a handle is in use, for whoever takes its name
pub a_directory_that_is_listed : then_replies (two_directories ++
    at 1000 100 4 4 (Open [] to_read 0) ∷ CallBy 1 ListBy ∷ at 1000 100 2 2 (Rmdir (codes "b")) ∷ Calls 2 (Rmdir (codes "/w/b"))
    ∷ Calls 2 (Mkdir (codes "/w/c") 0o755) ∷ Calls 2 (Rename (codes "/w/c") (codes "/w/b")) ∷ CallBy 1 CloseBy ∷ at 1000 100 2 2 (Rmdir (codes "b")) ∷ []) ≡
    they_come
    ++ Opened 1 4 ∷ Names ((codes ".", 4) ∷ (codes "..", 2) ∷ []) ∷ failed EBUSY ∷ failed EBUSY
    ∷ Done ∷ failed EBUSY ∷ Done ∷ Done ∷ []
unfolding verdict trail_of first_refusal found_of row_of handle_call_row firm_refusal other_refusal after
a_directory_that_is_listed = refl

-- who makes something is told its number
pub what_is_made : then_replies (two_directories ++
    at 1000 100 4 4 (Open (codes "n") to_write 0o640) ∷ CallBy 1 (WriteBy 5 (codes "x")) ∷ CallBy 1 Show ∷ at 1000 100 4 4 (Mkdir (codes "d") 0o755)
    ∷ at 1000 100 4 4 (Symlink (codes "t") (codes "l")) ∷ []) ≡
    they_come
    ++ Opened 1 6 ∷ Wrote 1 ∷ shows_file 6 0o640 1 1000 100 6 ∷ Made 7 ∷ Made 8 ∷ []
unfolding verdict trail_of first_refusal found_of row_of handle_call_row firm_refusal other_refusal after
what_is_made = refl

-- one write puts at most 16384 bytes
pub a_long_write_by_a_handle : then_replies (two_directories ++
    at 1000 100 5 5 (Open [] to_write 0) ∷ CallBy 1 (WriteBy 0 (replicate 16385 120)) ∷ CallBy 1 Show ∷ []) ≡
    they_come ++ Opened 1 5 ∷ Wrote 16384 ∷ shows_file 5 0o644 1 1000 100 16384 ∷ []
unfolding verdict trail_of first_refusal found_of row_of handle_call_row firm_refusal other_refusal after
a_long_write_by_a_handle = refl

-- a disk with 41 data sectors
abbrev of_41_sectors : State
of_41_sectors = record fresh { room = record fresh.room { sectors = 41 }; free = 41 }

-- a write of more than 4096 bytes is refused where fewer than 40 are free, and one of so many is not
pub thirty_nine_free_sectors : replies of_41_sectors (
    at 0 0 1 1 (Open (codes "f") to_read_write 0o644) ∷ Statfs ∷ CallBy 1 (WriteBy 0 (replicate 4097 120)) ∷ Statfs
    ∷ CallBy 1 (Resize 512) ∷ Statfs ∷ CallBy 1 (WriteBy 512 (replicate 4097 120)) ∷ CallBy 1 (WriteBy 512 (replicate 4096 120)) ∷ Statfs ∷ []) ≡
    Opened 1 2 ∷ Space 40 61 ∷ Wrote 4097 ∷ Space 31 61 ∷ Done ∷ Space 39 61 ∷ failed ENOSPC ∷ Wrote 4096 ∷ Space 31 61 ∷ []
unfolding verdict trail_of first_refusal found_of row_of handle_call_row firm_refusal other_refusal after
thirty_nine_free_sectors = refl
