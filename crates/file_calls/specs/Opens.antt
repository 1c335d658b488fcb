-- Where what is opened is put.
--     opened_so        what is opened
--     IsSlotFree, IsSlotChosen, IsSlotRefused        where there is room for it, once all is asked that needs no tree; or it is refused
--     MayFillSlot, IsSlotFilled        it is put there
use Rattle.std.specs.Prelude.{◌≡◌, ℕ, ◌<◌, List, None, Some, Ok}
use Rattle.std.specs.Ordering.{nat_cmp}
use Rattle.fs_layout.specs.Maps.{get, with_entry}
use Rattle.fs_model.specs.declared.call.Flags.{Flags}
use Rattle.fs_model.specs.declared.reply.Reply.{Reply}
use Rattle.fs_model.specs.declared.reply.Reply.TheVariants.{Fd, Opened}
use Rattle.fs_cred.specs.declared.errno.Errno.TheVariants.{ENOMEM}
use Rattle.fs_cred.specs.declared.refusal.Refusal.{Refusal}
use Rattle.fs_cred.specs.declared.refusal.Refusal.TheVariants.{Failed}
use Rattle.fs_model.specs.declared.call.Call.TheVariants.{Open}
use Rattle.fs_model.specs.Demands.{first_of}
use Rattle.fs_model.specs.States.{State}
use Rattle.fs_model.specs.Steps.{firm_refusal}
use Rattle.fs_model.specs.Processes.{ProcessTable, Descriptor, with_descriptor}
use Rattle.open_files.specs.Tables.{IsUnused, with_changed, slot_in}
use Rattle.call_parts.specs.BothTables.{Tables, both}
use Rattle.call_parts.specs.Callers.{Who, ByProcess, ByActor, event}
use Rattle.file_calls.specs.declared.opening.Slot.{Slot}
use Rattle.file_calls.specs.declared.opening.Slot.TheVariants as slots
use Rattle.file_calls.specs.Openings.{open_asked}

abbrev pub opened_so : ℕ → Flags → Descriptor
opened_so n f = record { ino = n; offset = 0; read = f.read; write = f.write; append = f.append }

-- the lowest unused descriptor of the process that opens, and of an actor a handle
abbrev pub IsSlotFree : Tables → Who → Slot → Type 0
IsSlotFree tables (ByProcess pid) (slots.Descriptor owner fd) = (owner ≡ pid) × (Ok fd ≡ slot_in tables.processes pid) × IsUnused tables.processes pid fd
IsSlotFree tables (ByProcess pid) slots.Handle = ⊥
IsSlotFree tables (ByActor actor) (slots.Descriptor owner fd) = ⊥
IsSlotFree tables (ByActor actor) slots.Handle = Unit {0}

-- all is asked that needs no tree, and refuses, or there is no memory for a handle
pub data IsSlotRefused (s : State) (who : Who) (path : List ℕ) (f : Flags) (mode : ℕ) (e : Refusal) : Type 0 where
  is_refused : firm_refusal s (event who (Open path f mode)) ≡ Some e → IsSlotRefused s who path f mode e
  has_no_memory : firm_refusal s (event who (Open path f mode)) ≡ None → e ≡ Failed ENOMEM → IsSlotRefused s who path f mode e

pub record IsSlotChosen (tables : Tables) (who : Who) (path : List ℕ) (f : Flags) (mode : ℕ) (slot : Slot) : Type 0 where
  pub asked : first_of (open_asked who f mode path) ≡ None
  pub free : IsSlotFree tables who slot

abbrev pub MayFillSlot : ProcessTable → ℕ → Slot → Type 0
MayFillSlot processes room (slots.Descriptor pid fd) = IsUnused processes pid fd
MayFillSlot processes room slots.Handle = 0 < room

abbrev pub IsSlotFilled : Tables → Slot → Descriptor → Tables → Reply → Type 0
IsSlotFilled tables (slots.Descriptor pid fd) d now reply =
    (now ≡ both (with_changed tables.processes pid (λ p. with_descriptor p fd d)) tables.openings) × (reply ≡ Fd fd)
IsSlotFilled tables slots.Handle d now reply =
    (handle : ℕ) × (get nat_cmp tables.openings handle ≡ None)
    × (now ≡ both tables.processes (with_entry nat_cmp tables.openings handle d)) × (reply ≡ Opened handle d.ino)
