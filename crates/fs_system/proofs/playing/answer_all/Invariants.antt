use Rattle.std.proofs.Common.{◌≡◌, ◌≤◌, length, take, vec_len, vec_capacity}
use Rattle.fs_system.specs.Playing.{Plays, MayMount}
use Rattle.fs_system.proofs.playing.answer_all.Given as goal

abbrev pub invariant-loop-event : goal.invariant-loop-event
invariant-loop-event g l = record {
  answers : Plays g.D.Disk.state l.fn.served (take l.event-index l.events) l.replies.items l.served;
  may : MayMount g.D.Disk.state l.served;
  len : vec_len l.replies ≡ l.event-index;
  room : length l.events ≤ vec_capacity l.replies;
}
