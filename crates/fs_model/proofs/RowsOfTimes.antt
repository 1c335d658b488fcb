-- Whose times move, and which, computed for each shape of a change; and what a stamp sets.
--     keeping        the state of a disk that keeps times, and was just made
--     times, are        a node's times are asked for; access, modification and change are these
use Rattle.std.specs.Prelude.{◌≡◌, ℕ, List, [], ◌∷◌, codes, true, None, Some}
use Rattle.std.proofs.Common.{refl}
use Rattle.fs_cred.specs.declared.errno.Errno.TheVariants.{ENOENT, EEXIST}
use Rattle.fs_cred.specs.Verdicts.{verdict}
use Rattle.fs_model.specs.declared.call.AclType.TheVariants.{Default as DefaultAcl}
use Rattle.fs_model.specs.declared.call.Call.TheVariants.{Open, Read, Write, Close, Stat, Truncate, Ftruncate, Chmod, Chown, SetAcl, Mkdir, Rmdir, Link, Symlink, Unlink, Rename}
use Rattle.fs_model.specs.declared.reply.Reply.{Reply}
use Rattle.fs_model.specs.declared.reply.Reply.TheVariants.{Done, Pid, Fd, Data, Wrote, Stamped}
use Rattle.fs_model.specs.declared.event.Event.{Event}
use Rattle.fs_model.specs.declared.event.Event.TheVariants.{Call as Calls, Stamp, Clock}
use Rattle.fs_model.specs.States.{State}
use Rattle.fs_model.specs.Stops.{stopped}
use Rattle.fs_model.specs.Trails.{trail_of}
use Rattle.fs_model.specs.Walks.{first_refusal, found_of}
use Rattle.fs_model.specs.Rows.{row_of}
use Rattle.fs_model.specs.Steps.{firm_refusal, other_refusal, after}
use Rattle.fs_model.proofs.Machine.{fresh, replies, state_of, user, to_read, to_read_write, shows_directory, failed}

abbrev keeping : State
keeping = record fresh { room = record fresh.room { keeps_times = true } }

abbrev times : ℕ → Event
times n = Stamp n None None None

abbrev are : ℕ → ℕ → ℕ → Reply
are access modification change = Stamped (record { atime = access; mtime = modification; ctime = change })

-- what is made has one time, and the directory in which it is made is modified then
pub made : replies keeping (
    Clock 10 ∷ user 0 0 [] ∷ Calls 1 (Mkdir (codes "/d") 0o755)
    ∷ Clock 11 ∷ Calls 1 (Open (codes "/d/f") to_read_write 0o644)
    ∷ Clock 12 ∷ Calls 1 (Symlink (codes "t") (codes "/l")) ∷ times 1 ∷ times 2 ∷ times 3 ∷ times 4 ∷ []) ≡
    Done ∷ Pid 1 ∷ Done ∷ Done ∷ Fd 0 ∷ Done ∷ Done ∷ are 0 12 12 ∷ are 10 11 11 ∷ are 11 11 11 ∷ are 12 12 12 ∷ []
unfolding verdict trail_of first_refusal found_of row_of firm_refusal other_refusal after
made = refl

-- a file is modified by a write, but for one of no bytes, and by each cut, also to the size that it has; no read moves any time
pub bytes_written : replies keeping (
    Clock 10 ∷ user 0 0 [] ∷ Calls 1 (Open (codes "/f") to_read_write 0o644)
    ∷ Clock 20 ∷ Calls 1 (Write 0 (codes "hello")) ∷ times 2
    ∷ Clock 30 ∷ Calls 1 (Write 0 []) ∷ Calls 1 (Open (codes "/f") to_read 0) ∷ Calls 1 (Read 1 9) ∷ times 2
    ∷ Clock 40 ∷ Calls 1 (Ftruncate 0 3) ∷ times 2
    ∷ Clock 50 ∷ Calls 1 (Truncate (codes "/f") 3) ∷ times 2
    ∷ Clock 60 ∷ Calls 1 (Open (codes "/f") (record to_read_write { trunc = true }) 0) ∷ times 2 ∷ times 1 ∷ []) ≡
    Done ∷ Pid 1 ∷ Fd 0
    ∷ Done ∷ Wrote 5 ∷ are 10 20 20
    ∷ Done ∷ Wrote 0 ∷ Fd 1 ∷ Data (codes "hello") ∷ are 10 20 20
    ∷ Done ∷ Done ∷ are 10 40 40
    ∷ Done ∷ Done ∷ are 10 50 50
    ∷ Done ∷ Fd 2 ∷ are 10 60 60 ∷ are 0 10 10 ∷ []
unfolding verdict trail_of first_refusal found_of row_of firm_refusal other_refusal after
bytes_written = refl

-- a mode, an owner and an ACL change a node and don't modify it
pub attributes_set : replies keeping (
    Clock 10 ∷ user 0 0 [] ∷ Calls 1 (Mkdir (codes "/d") 0o755)
    ∷ Clock 20 ∷ Calls 1 (Chmod (codes "/d") 0o700) ∷ times 2
    ∷ Clock 30 ∷ Calls 1 (Chown (codes "/d") (Some 5) None) ∷ times 2
    ∷ Clock 40 ∷ Calls 1 (SetAcl (codes "/d") DefaultAcl None) ∷ times 2
    ∷ Clock 50 ∷ Calls 1 (Stat (codes "/d")) ∷ Calls 1 (Mkdir (codes "/d") 0o755) ∷ times 2 ∷ times 1 ∷ []) ≡
    Done ∷ Pid 1 ∷ Done
    ∷ Done ∷ Done ∷ are 10 10 20
    ∷ Done ∷ Done ∷ are 10 10 30
    ∷ Done ∷ Done ∷ are 10 10 40
    ∷ Done ∷ shows_directory 2 0o700 5 0 0 ∷ failed EEXIST ∷ are 10 10 40 ∷ are 0 10 10 ∷ []
unfolding verdict trail_of first_refusal found_of row_of firm_refusal other_refusal after
attributes_set = refl

-- /f, which is open, gets a second name in /d
abbrev named_twice : List Event
named_twice =
    Clock 10 ∷ user 0 0 [] ∷ Calls 1 (Open (codes "/f") to_read_write 0o644) ∷ Calls 1 (Mkdir (codes "/d") 0o755)
    ∷ Clock 20 ∷ Calls 1 (Link (codes "/f") (codes "/d/g")) ∷ []

-- a name that is given or taken modifies its directory and changes what it is for, which has times as long as it is open
pub names_given_and_taken : replies (state_of keeping named_twice) (
    times 2 ∷ times 3 ∷ times 1
    ∷ Clock 30 ∷ Calls 1 (Unlink (codes "/f")) ∷ times 2 ∷ times 3 ∷ times 1
    ∷ Clock 40 ∷ Calls 1 (Unlink (codes "/d/g")) ∷ times 2 ∷ times 3 ∷ times 1
    ∷ Clock 50 ∷ Calls 1 (Close 0) ∷ times 2 ∷ times 3
    ∷ Clock 60 ∷ Calls 1 (Rmdir (codes "/d")) ∷ times 3 ∷ times 1 ∷ []) ≡
    are 10 10 20 ∷ are 10 20 20 ∷ are 0 10 10
    ∷ Done ∷ Done ∷ are 10 10 30 ∷ are 10 20 20 ∷ are 0 30 30
    ∷ Done ∷ Done ∷ are 10 10 40 ∷ are 10 40 40 ∷ are 0 30 30
    ∷ Done ∷ Done ∷ failed ENOENT ∷ are 10 40 40
    ∷ Done ∷ Done ∷ failed ENOENT ∷ are 0 60 60 ∷ []
unfolding verdict trail_of first_refusal found_of row_of firm_refusal other_refusal after
names_given_and_taken = refl

-- a rename modifies both directories, and changes what it moves and what it replaces; one onto the same file moves no time
pub renamed : replies (state_of keeping named_twice) (
    Clock 30 ∷ Calls 1 (Rename (codes "/d/g") (codes "/f")) ∷ times 2 ∷ times 3 ∷ times 1
    ∷ Clock 40 ∷ Calls 1 (Open (codes "/h") to_read_write 0o644) ∷ Calls 1 (Rename (codes "/d/g") (codes "/h")) ∷ times 2 ∷ times 4 ∷ times 3 ∷ times 1
    ∷ Clock 50 ∷ Calls 1 (Rename (codes "/h") (codes "/i")) ∷ times 2 ∷ times 4 ∷ times 3 ∷ times 1
    ∷ Clock 60 ∷ Calls 1 (Rename (codes "/i") (codes "/d/i")) ∷ times 2 ∷ times 3 ∷ times 1
    ∷ Clock 70 ∷ Calls 1 (Rename (codes "/d") (codes "/e")) ∷ times 2 ∷ times 3 ∷ times 1 ∷ []) ≡
    Done ∷ Done ∷ are 10 10 20 ∷ are 10 20 20 ∷ are 0 10 10
    ∷ Done ∷ Fd 1 ∷ Done ∷ are 10 10 40 ∷ are 40 40 40 ∷ are 10 40 40 ∷ are 0 40 40
    ∷ Done ∷ Done ∷ are 10 10 50 ∷ are 40 40 40 ∷ are 10 40 40 ∷ are 0 50 50
    ∷ Done ∷ Done ∷ are 10 10 60 ∷ are 10 60 60 ∷ are 0 60 60
    ∷ Done ∷ Done ∷ are 10 10 60 ∷ are 10 60 70 ∷ are 0 70 70 ∷ []
unfolding verdict trail_of first_refusal found_of row_of firm_refusal other_refusal after
renamed = refl

-- what was open as it was replaced is changed then
pub replaced : replies keeping (
    Clock 10 ∷ user 0 0 [] ∷ Calls 1 (Open (codes "/f") to_read_write 0o644) ∷ Calls 1 (Open (codes "/g") to_read_write 0o644)
    ∷ Clock 20 ∷ Calls 1 (Rename (codes "/f") (codes "/g")) ∷ times 2 ∷ times 3 ∷ Calls 1 (Close 1) ∷ times 3 ∷ []) ≡
    Done ∷ Pid 1 ∷ Fd 0 ∷ Fd 1
    ∷ Done ∷ Done ∷ are 10 10 20 ∷ are 10 10 20 ∷ Done ∷ failed ENOENT ∷ []
unfolding verdict trail_of first_refusal found_of row_of firm_refusal other_refusal after
replaced = refl

-- a stamp sets what it is given, and moves nothing else; a clock that goes back is taken as it comes
pub stamped : replies keeping (
    Clock 10 ∷ user 0 0 [] ∷ Stamp 1 (Some 5) None (Some 6) ∷ Stamp 1 None (Some 7) None ∷ times 1
    ∷ Calls 1 (Chmod (codes "/") 0o700) ∷ times 1 ∷ Clock 8 ∷ Calls 1 (Chmod (codes "/") 0o755) ∷ times 1 ∷ times 9 ∷ []) ≡
    Done ∷ Pid 1 ∷ are 5 0 6 ∷ are 5 7 6 ∷ are 5 7 6
    ∷ Done ∷ are 5 7 10 ∷ Done ∷ Done ∷ are 5 7 8 ∷ failed ENOENT ∷ []
unfolding verdict trail_of first_refusal found_of row_of firm_refusal other_refusal after
stamped = refl

-- after a stop the time isn't known until it is told
abbrev after_a_stop : State → State
after_a_stop s = stopped s s.tree s.free

pub stopped_clock : replies (after_a_stop (state_of keeping (Clock 10 ∷ user 0 0 [] ∷ Calls 1 (Mkdir (codes "/d") 0o755) ∷ []))) (
    times 2 ∷ user 0 0 [] ∷ Calls 1 (Chmod (codes "/d") 0o700) ∷ times 2 ∷ Clock 20 ∷ Calls 1 (Chmod (codes "/d") 0o755) ∷ times 2 ∷ []) ≡
    are 10 10 10 ∷ Pid 1 ∷ Done ∷ are 10 10 0 ∷ Done ∷ Done ∷ are 10 10 20 ∷ []
unfolding verdict trail_of first_refusal found_of row_of firm_refusal other_refusal after
stopped_clock = refl

-- a disk that keeps no times has none, whatever is told, made or set
pub none_kept : replies fresh (Clock 10 ∷ user 0 0 [] ∷ Calls 1 (Mkdir (codes "/d") 0o755) ∷ times 2 ∷ Stamp 2 (Some 5) (Some 5) (Some 5) ∷ times 1 ∷ []) ≡
    Done ∷ Pid 1 ∷ Done ∷ are 0 0 0 ∷ are 0 0 0 ∷ are 0 0 0 ∷ []
unfolding verdict trail_of first_refusal found_of row_of firm_refusal other_refusal after
none_kept = refl
