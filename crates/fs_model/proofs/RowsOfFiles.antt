-- What files hold and what descriptors do, computed.
use Rattle.std.specs.Prelude.{◌≡◌, ℕ, zero, suc, List, [], ◌∷◌, ◌++◌, codes, replicate, pos, true, false}
use Rattle.std.proofs.Common.{refl}
use Rattle.fs_cred.specs.declared.errno.Errno.TheVariants.{ENOENT, ESRCH, EBADF, EAGAIN, EISDIR, EMFILE, EFBIG}
use Rattle.fs_cred.specs.Verdicts.{verdict}
use Rattle.fs_model.specs.declared.call.Whence.TheVariants.{Set}
use Rattle.fs_model.specs.declared.call.Call.TheVariants.{Open, Read, Write, Lseek, Close, Fstat, Stat, Truncate, Ftruncate, Mkdir, Unlink}
use Rattle.fs_model.specs.declared.reply.Reply.TheVariants.{Done, Pid, Fd, Data, Wrote, At, Space}
use Rattle.fs_model.specs.declared.event.Event.{Event}
use Rattle.fs_model.specs.declared.event.Event.TheVariants.{Exit, Call as Calls, Fsync, Statfs}
use Rattle.fs_model.specs.Trails.{trail_of}
use Rattle.fs_model.specs.Walks.{first_refusal, found_of}
use Rattle.fs_model.specs.Rows.{row_of}
use Rattle.fs_model.specs.Steps.{firm_refusal, other_refusal, after}
use Rattle.fs_model.proofs.Machine.{fresh, replies, user, to_read, to_write, to_read_write, failed, shows_file, last_two}

pub a_file_in_a_directory : replies fresh (
    Statfs ∷ user 0 0 [] ∷ Calls 1 (Mkdir (codes "/d") 0o755) ∷ Calls 1 (Open (codes "/d/f") to_read_write 0o644)
    ∷ Calls 1 (Write 0 (codes "hello")) ∷ Calls 1 (Lseek 0 Set (pos 0)) ∷ Calls 1 (Read 0 100) ∷ Fsync 1 0 ∷ Statfs ∷ []) ≡
    Space 878 62 ∷ Pid 1 ∷ Done ∷ Fd 0 ∷ Wrote 5 ∷ At 0 ∷ Data (codes "hello") ∷ Done ∷ Space 875 60 ∷ []
unfolding verdict trail_of first_refusal found_of row_of firm_refusal other_refusal after
a_file_in_a_directory = refl

-- a file that is open lives on without its name
pub an_open_file_lives : replies fresh (
    user 0 0 [] ∷ Calls 1 (Open (codes "/f") to_read_write 0o644) ∷ Calls 1 (Write 0 (codes "hello")) ∷ Calls 1 (Unlink (codes "/f"))
    ∷ Calls 1 (Stat (codes "/f")) ∷ Calls 1 (Fstat 0) ∷ Statfs ∷ Calls 1 (Close 0) ∷ Statfs ∷ []) ≡
    Pid 1 ∷ Fd 0 ∷ Wrote 5 ∷ Done ∷ failed ENOENT ∷ shows_file 2 0o644 0 0 0 5 ∷ Space 877 61 ∷ Done ∷ Space 878 62 ∷ []
unfolding verdict trail_of first_refusal found_of row_of firm_refusal other_refusal after
an_open_file_lives = refl

pub holes_and_appends : replies fresh (
    user 0 0 [] ∷ Calls 1 (Open (codes "/h") to_read_write 0o644) ∷ Calls 1 (Lseek 0 Set (pos 3)) ∷ Calls 1 (Write 0 (codes "a")) ∷ Calls 1 (Lseek 0 Set (pos 0))
    ∷ Calls 1 (Read 0 9) ∷ Calls 1 (Open (codes "/h") (record to_write { append = true; create = false }) 0) ∷ Calls 1 (Write 1 (codes "b"))
    ∷ Calls 1 (Read 0 9) ∷ Calls 1 (Read 1 1) ∷ Calls 1 (Truncate (codes "/h") 2) ∷ Calls 1 (Ftruncate 0 3) ∷ Calls 1 (Lseek 0 Set (pos 0))
    ∷ Calls 1 (Read 0 9) ∷ Calls 1 (Fstat 0) ∷ []) ≡
    Pid 1 ∷ Fd 0 ∷ At 3 ∷ Wrote 1 ∷ At 0 ∷ Data (0 ∷ 0 ∷ 0 ∷ 97 ∷ []) ∷ Fd 1 ∷ Wrote 1 ∷ Data (codes "b") ∷ failed EBADF ∷ Done ∷ Done ∷ At 0
    ∷ Data (0 ∷ 0 ∷ 0 ∷ []) ∷ shows_file 2 0o644 1 0 0 3 ∷ []
unfolding verdict trail_of first_refusal found_of row_of firm_refusal other_refusal after
holes_and_appends = refl

abbrev pub times : ℕ → Event → List Event
times zero e = []
times (suc n) e = e ∷ times n e

pub thirty_two_descriptors : last_two (replies fresh (user 0 0 [] ∷ times 33 (Calls 1 (Open (codes "/") to_read 0)))) ≡ Fd 31 ∷ failed EMFILE ∷ []
unfolding verdict trail_of first_refusal found_of row_of firm_refusal other_refusal after
thirty_two_descriptors = refl

-- the least unused one is given
pub the_least_descriptor : last_two (replies fresh (
    user 0 0 [] ∷ times 32 (Calls 1 (Open (codes "/") to_read 0)) ++ Calls 1 (Close 3) ∷ Calls 1 (Open (codes "/") to_read 0) ∷ Calls 1 (Read 0 1) ∷ [])) ≡
    Fd 3 ∷ failed EISDIR ∷ []
unfolding verdict trail_of first_refusal found_of row_of firm_refusal other_refusal after
the_least_descriptor = refl

pub sixty_four_processes : last_two (replies fresh (times 65 (user 0 0 []))) ≡ Pid 64 ∷ failed EAGAIN ∷ []
unfolding verdict trail_of first_refusal found_of row_of firm_refusal other_refusal after
sixty_four_processes = refl

pub a_process_that_went : replies fresh (user 0 0 [] ∷ Exit 1 ∷ Calls 1 (Stat (codes "/")) ∷ []) ≡ Pid 1 ∷ Done ∷ failed ESRCH ∷ []
unfolding verdict trail_of first_refusal found_of row_of firm_refusal other_refusal after
a_process_that_went = refl

-- at the limit a write is cut, and past it refused
pub the_largest_file : last_two (replies fresh (
    user 0 0 [] ∷ Calls 1 (Open (codes "/h") to_read_write 0o644) ∷ Calls 1 (Lseek 0 Set (pos 71679)) ∷ Calls 1 (Write 0 (codes "xy"))
    ∷ Calls 1 (Write 0 (codes "y")) ∷ [])) ≡
    Wrote 1 ∷ failed EFBIG ∷ []
unfolding verdict trail_of first_refusal found_of row_of firm_refusal other_refusal after
the_largest_file = refl

-- one write puts at most 4096 bytes
pub a_long_write : last_two (replies fresh (
    user 0 0 [] ∷ Calls 1 (Open (codes "/r") to_read_write 0o644) ∷ Calls 1 (Write 0 (replicate 4097 120)) ∷ Calls 1 (Fstat 0) ∷ [])) ≡
    Wrote 4096 ∷ shows_file 2 0o644 1 0 0 4096 ∷ []
unfolding verdict trail_of first_refusal found_of row_of firm_refusal other_refusal after
a_long_write = refl
