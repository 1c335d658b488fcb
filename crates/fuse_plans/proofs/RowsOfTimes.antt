-- Times, where the disk keeps them and where it doesn't.
--     moving        requests that move times, and what the kernel hears of each, whoever keeps them
use Rattle.std.specs.Prelude.{◌≡◌, ℕ, true, false, List, [], ◌∷◌, map, codes, None, Some}
use Rattle.std.proofs.Common.{refl}
use Rattle.posix_acl.specs.AccessList.{minimal}
use Rattle.fs_cred.specs.declared.errno.Errno.TheVariants.{EIO}
use Rattle.fs_cred.specs.Credentials.{usual_credential}
use Rattle.fs_model.specs.declared.call.AclType.TheVariants.{Access as AccessAcl}
use Rattle.fs_model.specs.declared.call.Call.TheVariants.{Open, Lstat, GetAcl, Mkdir}
use Rattle.fs_model.specs.declared.event.Event.{Event}
use Rattle.fs_model.specs.declared.event.Event.TheVariants.{CallAt, CallBy, Stamp, Clock}
use Rattle.fs_model.specs.declared.event.HandleCall.TheVariants.{Write as WriteBy}
use Rattle.fs_model.specs.declared.reply.FileType.TheVariants.{File, Directory, Link as LinkType}
use Rattle.fs_model.specs.declared.reply.Reply.{Reply}
use Rattle.fs_model.specs.declared.reply.Reply.TheVariants.{Done, Opened, Made, Wrote, Shown, Acl}
use Rattle.fs_model.specs.declared.reply.Status.{Status}
use Rattle.fuse_protocol.specs.declared.operation.NewTime.TheVariants.{Now, At as AtTime}
use Rattle.fuse_protocol.specs.declared.operation.Operation.TheVariants.{Lookup, GetAttr, SymLink, MkDir, Unlink as UnlinkName, RmDir, Rename, Link as AddLink, Open as OpenFile, Read as ReadFile, Write as WriteFile, SetXAttr, Create}
use Rattle.fuse_protocol.specs.declared.reply.Time.{Time}
use Rattle.fuse_state.specs.Stamps.{stamp_of, time_of}
use Rattle.fuse_plans.specs.declared.mode.Mode.TheVariants.{Writes}
use Rattle.fuse_plans.specs.declared.reply.ReplyBody.TheVariants.{Found, Shown as ShownAs, Bytes, Wrote as WroteBytes}
use Rattle.fuse_plans.specs.AclPlans.{access_name}
use Rattle.fuse_plans.specs.Callers.{actor_at}
use Rattle.fuse_plans.specs.Flags.{opening}
use Rattle.fuse_plans.specs.Requests.{Request}
use Rattle.fuse_plans.proofs.Replays.{all_plans, all_runs, second, new, timekeeping, keeping, asks_with, kernel, root, init, set_mode, set_owner, set_times, set_size, flags, reading, writing, at, extent, failed, status, stamped, attributes, shown, found, made, created, opened, done, begun, node, ◌hears◌, AreHeardFrom, AreHeard, ◌gets◌, ◌through◌, ◌first◌, ◌then◌, ArePlayed, Heard, Told, Error}

-- ---- how they are counted

abbrev time : ℕ → ℕ → Time
time seconds nanoseconds = record { seconds = seconds; nanoseconds = nanoseconds }

-- when 1970 begins, a second before, and later
pub counts : map stamp_of (time 0 0 ∷ time 18446744073709551615 0 ∷ time 1700000000 500000000 ∷ []) ≡ 1 ∷ 1 ∷ 1700000000500000000 ∷ []
counts = refl

-- the last that can be counted, the next one, and the last of the seconds that aren't before 1970
pub counts_last : map stamp_of (time 18446744073 709551615 ∷ time 18446744073 709551616 ∷ time 9223372036854775807 999999999 ∷ [])
    ≡ 18446744073709551615 ∷ 18446744073709551615 ∷ 18446744073709551615 ∷ []
counts_last = refl

-- 0 is shown as the start
pub shows : map (time_of (second 1000000001)) (0 ∷ 1 ∷ 1700000000500000000 ∷ []) ≡ second 1000000001 ∷ time 0 1 ∷ time 1700000000 500000000 ∷ []
shows = refl

-- ---- what is asked

abbrev root_shown : Reply
root_shown = Shown (status 1 Directory 0o755 1 0 0 0)

abbrev file : Status
file = status 2 File 0o600 1 0 0 5

abbrev file_shown : Reply
file_shown = Shown file

-- whether the user alone counts, of which the root directory's list is asked, and then the name
abbrev looked_up : List (Event × Reply)
looked_up =
    at 0 0 1 (Lstat []) gets root_shown
    ∷ at 0 0 1 (GetAcl [] AccessAcl) gets Acl (Some (minimal 0o755))
    ∷ at 0 0 1 (Lstat (codes "a")) gets file_shown
    ∷ []

-- The disk has the times of what is shown; where it doesn't tell them, that is a fault.
pub times_asked : ArePlayed timekeeping (
    kernel 0 1000000002 init through [] hears begun
    ∷ root 1 1000000003 GetAttr
    first at 0 0 1 (Lstat []) gets root_shown
    then Stamp 1 None None None gets stamped 0 1700000000500000000 1
    hears Told (ShownAs (attributes (status 1 Directory 0o755 1 0 0 0) (second 1000000001) (time 1700000000 500000000) (time 0 1)))
    ∷ root 1 1000000004 GetAttr first at 0 0 1 (Lstat []) gets root_shown then Stamp 1 None None None gets failed EIO hears Error 5
    ∷ [])
unfolding all_plans
times_asked = refl

-- Of a disk that keeps none they aren't asked: the server has them.
pub times_kept : ArePlayed new (
    kernel 0 1000000002 init through [] hears begun
    ∷ root 1 1000000003 GetAttr first at 0 0 1 (Lstat []) gets root_shown hears shown (status 1 Directory 0o755 1 0 0 0) 1000000001 1000000001 1000000001
    ∷ [])
unfolding all_plans
times_kept = refl

-- A name is found, whose times the disk doesn't tell at first. Its mtime is set to a time that is given, and then both are to the
-- present one, though the machine can't be told the time.
pub times_set : ArePlayed timekeeping (
    kernel 0 1000000002 init through [] hears begun
    ∷ root 1 1000000003 (Lookup (codes "a")) through looked_up then Stamp 2 None None None gets failed EIO hears Error 5
    ∷ root 1 1000000005 (Lookup (codes "a")) through looked_up
    then Stamp 2 None None None gets stamped 7000000008 0 0
    hears Told (Found 2 0 (attributes file (time 7 8) (second 1000000001) (second 1000000001)))
    ∷ root 2 1000000006 (set_times None (Some (AtTime 1500000000 250000000)))
    first Clock 1000000006000000000 gets Done
    then at 0 0 2 (Lstat []) gets file_shown
    then Stamp 2 None (Some 1500000000250000000) (Some 1000000006000000000) gets stamped 7000000008 1500000000250000000 1000000006000000000
    then Stamp 2 None None None gets stamped 7000000008 1500000000250000000 1000000006000000000
    hears Told (ShownAs (attributes file (time 7 8) (time 1500000000 250000000) (second 1000000006)))
    ∷ root 2 1000000007 (set_times (Some Now) (Some Now))
    first Clock 1000000007000000000 gets failed EIO
    then at 0 0 2 (Lstat []) gets file_shown
    then Stamp 2 (Some 1000000007000000000) (Some 1000000007000000000) (Some 1000000007000000000) gets stamped 1000000007000000000 1000000007000000000 1000000007000000000
    then Stamp 2 None None None gets stamped 1000000007000000000 1000000007000000000 1000000007000000000
    hears shown file 1000000007 1000000007 1000000007
    ∷ [])
unfolding all_plans
times_set = refl

-- Where the disk keeps none, the server keeps what is set.
pub times_set_here : ArePlayed new (
    kernel 0 1000000002 init through [] hears begun
    ∷ root 1 1000000003 (Lookup (codes "a")) through looked_up hears made 2 file 1000000001
    ∷ root 2 1000000004 (set_times None (Some (AtTime 1500000000 250000000)))
    first at 0 0 2 (Lstat []) gets file_shown
    hears Told (ShownAs (attributes file (second 1000000001) (time 1500000000 250000000) (second 1000000004)))
    ∷ [])
unfolding all_plans
times_set_here = refl

-- The time is told before what says a change, also before an OPEN that takes the bytes; and not before another.
pub time_told : ArePlayed timekeeping (
    kernel 0 1000000002 init through [] hears begun
    ∷ root 1 1000000003 (MkDir (codes "d") 0o755 0o22)
    first Clock 1000000003000000000 gets Done
    then CallAt (actor_at (usual_credential 0 0 []) 0o22 1 1) (Mkdir (codes "d") 0o755) gets Made 4
    then at 0 0 4 (Lstat []) gets Shown (status 4 Directory 0o755 1 0 0 0)
    then Stamp 4 None None None gets stamped 1000000003000000000 1000000003000000000 1000000003000000000
    hears made (node 1 4) (status 4 Directory 0o755 1 0 0 0) 1000000003
    ∷ root 1 1000000004 (Lookup (codes "a")) through looked_up then Stamp 2 None None None gets stamped 5 6 7 hears Told (Found 2 0 (attributes file (time 0 5) (time 0 6) (time 0 7)))
    ∷ root 2 1000000005 writing first at 0 0 2 (Open [] (opening Writes false) 0) gets Opened 7 2 hears opened 7
    ∷ root 2 1000000006 (WriteFile 7 0 (codes "abc")) first Clock 1000000006000000000 gets Done then CallBy 7 (WriteBy 0 (codes "abc")) gets Wrote 3 hears Told (WroteBytes 3)
    ∷ root 2 1000000007 (OpenFile (flags 0o1001)) first Clock 1000000007000000000 gets Done then at 0 0 2 (Open [] (opening Writes true) 0) gets Opened 8 2 hears opened 8
    ∷ [])
unfolding all_plans
time_told = refl

-- ---- what moves them

-- The server may have the times, or the disk: the kernel hears the same.
abbrev moving : List (Request × Heard)
moving =
    kernel 0 1000000002 init hears begun
    ∷ root 1 1000000010 (MkDir (codes "d") 0o777 0) hears made (node 1 2) (status 2 Directory 0o777 1 0 0 0) 1000000010
    ∷ root (node 1 2) 1000000011 (Create (codes "f") (flags 0o102) 0o100644 0) hears created (node 1 3) (status 3 File 0o644 1 0 0 0) 1000000011 1
    ∷ root 1 1000000012 GetAttr hears shown (status 1 Directory 0o755 1 0 0 128) 1000000001 1000000010 1000000010
    ∷ root (node 1 2) 1000000012 GetAttr hears shown (status 2 Directory 0o777 1 0 0 128) 1000000010 1000000011 1000000011
    ∷ root (node 1 3) 1000000013 (WriteFile 1 0 (codes "abc")) hears Told (WroteBytes 3)
    ∷ root (node 1 3) 1000000014 (ReadFile (extent 1 0 4096)) hears Told (Bytes (codes "abc"))
    ∷ root (node 1 3) 1000000015 GetAttr hears shown (status 3 File 0o644 1 0 0 3) 1000000011 1000000013 1000000013
    ∷ root (node 1 3) 1000000016 (set_mode 0o100600) hears shown (status 3 File 0o600 1 0 0 3) 1000000011 1000000013 1000000016
    ∷ root (node 1 3) 1000000017 (set_owner 1000) hears shown (status 3 File 0o600 1 1000 0 3) 1000000011 1000000013 1000000017
    ∷ root (node 1 3) 1000000018 (set_size 3) hears shown (status 3 File 0o600 1 1000 0 3) 1000000011 1000000018 1000000018
    ∷ root 1 1000000019 (AddLink (node 1 3) (codes "g")) hears found (node 1 3) (status 3 File 0o600 2 1000 0 3) 1000000011 1000000018 1000000019
    ∷ root (node 1 2) 1000000020 (UnlinkName (codes "f")) hears done
    ∷ root (node 1 2) 1000000021 GetAttr hears shown (status 2 Directory 0o777 1 0 0 0) 1000000010 1000000020 1000000020
    ∷ root (node 1 3) 1000000021 GetAttr hears shown (status 3 File 0o600 1 1000 0 3) 1000000011 1000000018 1000000020
    ∷ root 1 1000000022 (Rename (codes "g") (node 1 2) (codes "h") 0) hears done
    ∷ root 1 1000000023 GetAttr hears shown (status 1 Directory 0o755 1 0 0 128) 1000000001 1000000022 1000000022
    ∷ root (node 1 2) 1000000023 GetAttr hears shown (status 2 Directory 0o777 1 0 0 128) 1000000010 1000000022 1000000022
    ∷ root (node 1 3) 1000000023 GetAttr hears shown (status 3 File 0o600 1 1000 0 3) 1000000011 1000000018 1000000022
    ∷ root (node 1 3) 1000000024 (set_times (Some (AtTime 5 0)) None) hears shown (status 3 File 0o600 1 1000 0 3) 5 1000000018 1000000024
    ∷ root (node 1 3) 1000000025 (set_times None (Some Now)) hears shown (status 3 File 0o600 1 1000 0 3) 5 1000000025 1000000025
    ∷ asks_with (Some (minimal 0o640)) (node 1 3) 0 0 (Some []) 1000000026 (SetXAttr access_name []) hears done
    ∷ root (node 1 3) 1000000027 reading hears opened 2
    ∷ root (node 1 3) 1000000027 GetAttr hears shown (status 3 File 0o640 1 1000 0 3) 5 1000000025 1000000026
    ∷ root (node 1 3) 1000000028 (OpenFile (flags 0o1001)) hears opened 3
    ∷ root (node 1 3) 1000000029 GetAttr hears shown (status 3 File 0o640 1 1000 0 0) 5 1000000028 1000000028
    ∷ root (node 1 2) 1000000030 (SymLink (codes "l") (codes "h")) hears made (node 1 4) (status 4 LinkType 0o777 1 0 0 1) 1000000030
    ∷ root (node 1 2) 1000000031 (UnlinkName (codes "l")) hears done
    ∷ root (node 1 2) 1000000032 (UnlinkName (codes "h")) hears done
    ∷ root (node 1 3) 1000000033 GetAttr hears shown (status 3 File 0o640 0 1000 0 0) 5 1000000028 1000000032
    ∷ root 1 1000000034 (RmDir (codes "d")) hears done
    ∷ root 1 1000000035 GetAttr hears shown (status 1 Directory 0o755 1 0 0 0) 1000000001 1000000034 1000000034
    ∷ []

-- the server has them
pub times_of_the_server : AreHeard moving
unfolding all_runs
times_of_the_server = refl

-- the disk has them
pub times_of_the_disk : AreHeardFrom timekeeping keeping moving
unfolding all_runs
times_of_the_disk = refl
