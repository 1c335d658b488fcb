-- What handles are for: laws over one step. Our own words.
--     OpenedIs        what is answered to an open is a new handle, with what it was opened for
--     HandlesStay        whoever does what, it stays so until it is closed
--     ClosedIsGone        and then it is none
use Rattle.std.specs.Prelude.{◌≡◌, ◌≢◌, ℕ, List, None, Some}
use Rattle.std.specs.Ordering.{nat_cmp}
use Rattle.fs_layout.specs.Maps.{get}
use Rattle.fs_model.specs.declared.call.Flags.{Flags}
use Rattle.fs_model.specs.declared.call.Call.TheVariants.{Open}
use Rattle.fs_model.specs.declared.event.HandleCall.TheVariants.{Close as CloseBy}
use Rattle.fs_model.specs.declared.event.Event.{Event}
use Rattle.fs_model.specs.declared.event.Event.TheVariants.{CallAt, CallBy}
use Rattle.fs_model.specs.declared.event.Actor.{Actor}
use Rattle.fs_model.specs.declared.reply.Reply.{Reply}
use Rattle.fs_model.specs.declared.reply.Reply.TheVariants.{Done, Opened}
use Rattle.fs_model.specs.Processes.{Descriptor}
use Rattle.fs_model.specs.States.{State, IsState}
use Rattle.fs_model.specs.Steps.{Step}

abbrev pub opened_for : Flags → ℕ → Descriptor
opened_for flags n = record { ino = n; offset = 0; read = flags.read; write = flags.write; append = flags.append }

pub record IsNewHandle (old new : State) (flags : Flags) (handle n : ℕ) : Type 0 where
  pub unused : get nat_cmp old.openings handle ≡ None
  pub opened : get nat_cmp new.openings handle ≡ Some (opened_for flags n)

-- An open is answered the number of the object, and a handle that nobody has.
abbrev pub OpenedIs : Type 0
OpenedIs =
    (old new : State) (v : Actor) (path : List ℕ) (flags : Flags) (mode handle n : ℕ)
    → Step old (CallAt v (Open path flags mode)) (Opened handle n) new → IsNewHandle old new flags handle n

-- What is open by a handle stays open by it, whatever happens but that it is closed.
abbrev pub HandlesStay : Type 0
HandlesStay =
    (old new : State) (e : Event) (reply : Reply) (handle : ℕ) (d : Descriptor) → IsState old → Step old e reply new → e ≢ CallBy handle CloseBy
    → get nat_cmp old.openings handle ≡ Some d → get nat_cmp new.openings handle ≡ Some d

-- Where it is closed, it is none any more.
abbrev pub ClosedIsGone : Type 0
ClosedIsGone =
    (old new : State) (handle : ℕ) → IsState old → Step old (CallBy handle CloseBy) Done new → get nat_cmp new.openings handle ≡ None
