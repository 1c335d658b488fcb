-- What the machine's replies are in the results of the calls.
--     spawned, finished, unmounted        of spawn, of exit, enter, clock, fsync and sync, of unmount
--     counted, stamped_reply        of statfs, of stamp
use Rattle.std.specs.Prelude.{ℕ, Result, Ok, Err, Option, Some, None}
use Rattle.fs_cred.specs.declared.errno.Errno.{Errno}
use Rattle.fs_cred.specs.declared.refusal.Refusal.TheVariants.{Failed}
use Rattle.fs_model.specs.declared.reply.Reply.{Reply}
use Rattle.fs_model.specs.declared.reply.Reply.TheVariants.{Done, Pid, Space, Stamped, Refused}
use Rattle.fs_model.specs.declared.reply.Stamps.{Stamps}

abbrev pub spawned : Result ℕ Errno → Reply
spawned (Ok pid) = Pid pid
spawned (Err e) = Refused (Failed e)

abbrev pub finished : Result (Unit {0}) Errno → Reply
finished (Ok done) = Done
finished (Err e) = Refused (Failed e)

-- how many data sectors and inodes are free
abbrev pub counted : Result (ℕ × ℕ) Errno → Reply
counted (Ok free) = Space free.0 free.1
counted (Err e) = Refused (Failed e)

-- the times of an inode
abbrev pub stamped_reply : Result Stamps Errno → Reply
stamped_reply (Ok stamps) = Stamped stamps
stamped_reply (Err e) = Refused (Failed e)

-- an unmount is answered as a sync is
abbrev pub unmounted : Option Errno → Reply
unmounted None = Done
unmounted (Some e) = Refused (Failed e)
