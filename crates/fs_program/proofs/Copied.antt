-- What is asked of a file system for a copy is a history of it.
use Rattle.std.specs.Prelude.{◌≡◌, List, [], ◌∷◌, map, Result, Ok}
use Rattle.sector_disk.specs.Disk.{DiskState}
use Rattle.fs_model.specs.States.{State}
use Rattle.fs_model.specs.declared.event.Event.TheVariants.{Sync}
use Rattle.fs_model.specs.declared.event.EventReply.TheVariants.{Reply as Replies}
use Rattle.fs_model.specs.declared.reply.Reply.{Reply}
use Rattle.fs_system.specs.Doing.{HappensLast}
use Rattle.fs_system.specs.Histories.{History}
use Rattle.fs_system.specs.Mounts.{Mounts}
use Rattle.fs_system.specs.Playing.{Plays}
use Rattle.fs_system.specs.Seen.{System, disk_in, IsIn}
use Rattle.fs_system.proofs.Played.{plays_nothing, plays_joined}
use Rattle.fs_fuse.specs.Performing.{ServesOne}
use Rattle.host_trees.specs.Copies.{Asked, Copies, ServesAll, stays, goes}
use Rattle.host_trees.specs.declared.fault.Copied.{Copied}
use Rattle.host_trees.specs.declared.fault.CopyFault.{CopyFault}
use Rattle.host_trees.proofs.Asking.{copies_along}
use Rattle.fs_command.specs.declared.status.Status.{Status}
use Rattle.fs_program.specs.declared.failure.Failure.{Failure}
use Rattle.fs_program.proofs.Ends.{session}
use Rattle.fs_program.specs.Copying.{CopiesOn, MountedEnds, copy_end}

module _ {D : Type 0} (state : D → DiskState) where
  pub asked_plays : (old new : System D) (asked : List Asked) → ServesAll (ServesOne state) old asked new
      → Plays state (Ok old) (map (λ a. a.event) asked) (map (λ a. Replies a.reply) asked) (Ok new)
  asked_plays old new _ (stays _) = plays_nothing state (Ok old)
  asked_plays old new _ (goes _ mid _ asked rest serves on) =
      plays_joined state (Ok old) (Ok mid) (Ok new) (asked.event ∷ []) (map (λ a. a.event) rest)
      (Replies asked.reply ∷ []) (map (λ a. Replies a.reply) rest) serves (asked_plays mid new rest on)

  -- a disk that was mounted, copied to or from, and unmounted
  pub copies_on : (disk left : D) (first now : System D) (Are : List Asked → Type 0) (reply : Reply)
      → (m : (s : State) × IsIn state first s × Mounts (state disk) (disk_in state first.base) s)
      → Copies (ServesOne state) first now Are → HappensLast state now left Sync reply → CopiesOn state disk Are reply
  copies_on disk left first now Are reply m copies last =
      session state disk left first now (λ c d. History state c (map (λ a. a.event) copies.asked) (map (λ a. Replies a.reply) copies.asked) d) reply m
      (asked_plays first now copies.asked copies.goes) last (λ start end t u mounts runs unmounts. record {
        first = start;
        s = m.0;
        mounts = mounts;
        asked = copies.asked;
        last = end;
        t = t;
        history = runs;
        are = copies.are;
        left = left;
        u = u;
        unmounts = unmounts;
      })

-- a file system that was copied to or from, and unmounted
pub mounted_ends : {D : Type 0} {state : D → DiskState} {fs start last now : System D} {left : D} (Are : List Asked → Result Copied CopyFault → Type 0)
    (failure : CopyFault → Failure) (copied : Result Copied CopyFault) (reply : Reply) (result : Result Status Failure)
    → start ≡ fs → now ≡ last → Copies (ServesOne state) start last (λ asked. Are asked copied) → HappensLast state now left Sync reply
    → result ≡ copy_end failure copied reply → MountedEnds state Are failure fs result
mounted_ends {now = now} {left} Are failure copied reply result begun ended copies unmounts is_end = record {
  copied = copied;
  reply = reply;
  now = now;
  left = left;
  copies = copies_along begun ended copies;
  unmounts = unmounts;
  is_end = is_end;
}
