-- What a disk is asked is a history of its file system.
use Rattle.std.specs.Prelude.{◌≡◌, map, Result, Ok}
use Rattle.std.proofs.Common.{subst}
use Rattle.sector_disk.specs.Disk.{DiskState}
use Rattle.fs_model.specs.States.{State}
use Rattle.fs_model.specs.declared.event.EventReply.TheVariants.{Reply as Replies}
use Rattle.fs_system.specs.Histories.{Config, History, Up, Off}
use Rattle.fs_system.specs.Mounts.{Mounts}
use Rattle.fs_system.specs.Playing.{HasDisk, IsConfig}
use Rattle.fs_system.specs.Seen.{System, disk_in, IsIn}
use Rattle.fs_system.proofs.Played.{seen_in, the_disk}
use Rattle.fs_access.specs.Asking.{Query}
use Rattle.fs_access.specs.declared.fault.AccessFault.{AccessFault}
use Rattle.fs_access.specs.declared.question.Answer.{Answer}
use Rattle.fs_program.specs.Answering.{AnswersOn, AnswersSo}
use Rattle.fs_program.proofs.Copied.{asked_plays}

module _ {D : Type 0} (state : D → DiskState) where
  -- a disk that was mounted, and whose file system gave the answer
  pub answers_on : (disk : D) (first : System D) (q : Query) (found : Result Answer AccessFault)
      → (m : (s : State) × IsIn state first s × Mounts (state disk) (disk_in state first.base) s)
      → AnswersSo state first q found → AnswersOn state disk q found
  answers_on disk first q found m so = ends end.0 end.1 end.2
    where
      there : (d : D) × HasDisk first.base d
      there = the_disk state first m.0 m.1

      end : (d : Config D) × IsConfig state (Ok so.0) d
          × History state (Up m.0 there.0) (map (λ a. a.event) so.1.asked) (map (λ a. Replies a.reply) so.1.asked) d
      end = asked_plays state first so.0 so.1.asked so.1.goes (Up m.0 there.0) (there.1, m.1)

      ends : (d : Config D) → IsConfig state (Ok so.0) d
          → History state (Up m.0 there.0) (map (λ a. a.event) so.1.asked) (map (λ a. Replies a.reply) so.1.asked) d → AnswersOn state disk q found
      ends (Off d) is runs = absurd is
      ends (Up t d) is runs = record {
        first = there.0;
        s = m.0;
        mounts = seen_in state (λ x. Mounts (state disk) x m.0) first.base there.0 there.1 m.2;
        asked = so.1.asked;
        last = d;
        t = t;
        history = runs;
        are = so.1.are;
      }
