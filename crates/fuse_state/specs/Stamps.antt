-- Times as the machine counts them: in nanoseconds since 1970, 0 where one isn't known.
--     stamp_of        a time, or the nearest one that can be counted
--     time_of, times_shown        the time that is shown
use Rattle.std.specs.Prelude.{ℕ, ◌+◌, ◌*◌, ◌-◌, ◌/◌, ◌%◌, ◌^◌, ◌==◌, nat_le, min, max, if◌then◌else◌}
use Rattle.fs_model.specs.declared.reply.Stamps.{Stamps}
use Rattle.fuse_protocol.specs.declared.reply.Time.{Time}
use Rattle.fuse_state.specs.declared.times.Times.{Times}

-- nanoseconds in a second
abbrev pub second : ℕ
second = 1000000000

-- Seconds from 2 ^ 63 on are those before 1970, as the kernel counts them. The first nanosecond of 1970 is the least that is known.
abbrev pub stamp_of : Time → ℕ
stamp_of time = if nat_le (2 ^ 63) time.seconds then 1 else max 1 (min (2 ^ 64 - 1) (time.seconds * second + time.nanoseconds))

-- where it isn't known, when the server began
abbrev pub time_of : Time → ℕ → Time
time_of start stamp = if stamp == 0 then start else record { seconds = stamp / second; nanoseconds = stamp % second }

abbrev pub times_shown : Time → Stamps → Times
times_shown start stamps =
    record { atime = time_of start stamps.atime; mtime = time_of start stamps.mtime; ctime = time_of start stamps.ctime }
