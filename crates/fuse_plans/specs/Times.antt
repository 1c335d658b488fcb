-- Plans of times: the machine has them where its disk keeps them, and else the server.
--     tell_time        the present time, for what is changed from now on
--     told_stamps        the times that the machine has for an object
--     times_in        those that are shown
use Rattle.std.specs.Prelude.{ℕ, Bool, true, false, Option, None, Some}
use Rattle.fs_model.specs.declared.event.Event.TheVariants.{Stamp, Clock}
use Rattle.fs_model.specs.declared.reply.Stamps.{Stamps}
use Rattle.fuse_protocol.specs.declared.reply.Time.{Time}
use Rattle.fuse_state.specs.Servers.{Server, times_of}
use Rattle.fuse_state.specs.Stamps.{stamp_of, times_shown}
use Rattle.fuse_state.specs.declared.times.Times.{Times}
use Rattle.fuse_plans.specs.Works.{Work, give, kept, ◌>>=◌, ◌>>◌, ask, replied_stamps}

abbrev pub disk_keeps_times : Work Bool
disk_keeps_times = kept (λ s. s.settings.keeps_times)

-- whatever is replied: a machine that can't be told the time changes nothing
abbrev pub tell_time_if : Bool → Time → Work (Unit {0})
tell_time_if false now = give tt
tell_time_if true now = do
  ask (Clock (stamp_of now))
  give tt

unfoldable pub tell_time : Time → Work (Unit {0})
tell_time now = do
  keeps ← disk_keeps_times
  tell_time_if keeps now

abbrev pub told_stamps_if : Bool → ℕ → Work (Option Stamps)
told_stamps_if false n = give None
told_stamps_if true n = do
  reply ← ask (Stamp n None None None)
  stamps ← replied_stamps reply
  give (Some stamps)

-- where it has any
unfoldable pub told_stamps : ℕ → Work (Option Stamps)
told_stamps n = do
  keeps ← disk_keeps_times
  told_stamps_if keeps n

abbrev pub times_in : Server → ℕ → Option Stamps → Times
times_in s n None = times_of s n
times_in s n (Some stamps) = times_shown s.settings.start stamps
