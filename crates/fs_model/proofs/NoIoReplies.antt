-- What an event answers where nothing refuses it is never EIO.
use Rattle.std.specs.Prelude.{◌≡◌, ◌≢◌, ℕ, true, false, Option, None, Some}
use Rattle.std.proofs.Common.{refl, sym, ap, ◌∙◌}
use Rattle.std.specs.Ordering.{nat_cmp}
use Rattle.fs_cred.specs.declared.errno.Errno.TheVariants.{EIO}
use Rattle.fs_cred.specs.declared.refusal.Refusal.{Refusal}
use Rattle.fs_cred.specs.declared.refusal.Refusal.TheVariants.{Denied, Failed}
use Rattle.fs_layout.specs.Maps.{get}
use Rattle.fs_model.specs.declared.call.Call.{Call}
use Rattle.fs_model.specs.declared.event.Event.{Event}
use Rattle.fs_model.specs.declared.event.Event.TheVariants.{Spawn, Exit, Call as Calls, CallAt, CallBy, Stamp, Clock, Fsync, Sync, Statfs, Arm, Restart}
use Rattle.fs_model.specs.declared.reply.Reply.TheVariants.{Refused}
use Rattle.fs_model.specs.Demands.{Demand}
use Rattle.fs_model.specs.Processes.{Process}
use Rattle.fs_model.specs.Rows.{row_of}
use Rattle.fs_model.specs.States.{State}
use Rattle.fs_model.specs.Steps.{actor_scene, Choice, firm_refusal, other_refusal, after, after_call}
use Rattle.fs_model.specs.Stops.{is_io_error}
use Rattle.fs_model.proofs.NoIoDemands.{asks_eio}
use Rattle.fs_model.proofs.EachCall.{each_call}
use Rattle.fs_model.proofs.EachHandleCall.{each_handle_call}
use Rattle.fs_model.specs.Scenes.{Effect}
use Rattle.fs_model.specs.Actors.{actor_reply}
use Rattle.fs_model.specs.declared.call.Call.TheVariants.{Open as OpenCall, Mkdir, Symlink}
use Rattle.fs_model.proofs.NoIoErrors.{firm_spares, other_spares}

process_answers : (s : State) (pid : ℕ) (call : Call) (number : ℕ) (o : Option Process) → is_io_error (after_call s pid (row_of call) number o).reply ≡ false
process_answers s pid call number None = refl
process_answers s pid call number (Some p) = (each_call call).replies _ number

actor_answers : (call : Call) (handle n : ℕ) (e : Effect) → is_io_error e.reply ≡ false → is_io_error (actor_reply call handle n e) ≡ false
actor_answers (OpenCall path flags mode) handle n e spares = refl
actor_answers (Mkdir path mode) handle n e spares = refl
actor_answers (Symlink target path) handle n e spares = refl
actor_answers call handle n e spares = spares

pub event_answers : (s : State) (e : Event) (choice : Choice) → is_io_error (after s e choice).reply ≡ false
unfolding after
event_answers s (Calls pid call) choice = process_answers s pid call choice.ino (get nat_cmp s.processes pid)
event_answers s (CallAt v call) choice =
    actor_answers call choice.handle choice.ino _ ((each_call call).replies (actor_scene s v (row_of call)) choice.ino)
event_answers s (CallBy handle handle_call) choice = (each_handle_call handle_call).replies _ choice.ino
event_answers s (Fsync pid fd) choice = refl
event_answers s (Exit pid) choice = refl
event_answers s (Spawn cred) choice = refl
event_answers s (Stamp n atime mtime ctime) choice = refl
event_answers s (Clock time) choice = refl
event_answers s Sync choice = refl
event_answers s Statfs choice = refl
event_answers s (Arm k) choice = refl
event_answers s (Restart bytes arm) choice = refl

-- ---- what refuses

same_test : (r : Refusal) → is_io_error (Refused r) ≡ asks_eio (Some r)
same_test (Failed e) = refl
same_test (Denied denial) = refl

refusal_spares : (r : Refusal) (d : Demand) → asks_eio d ≡ false → d ≡ Some r → is_io_error (Refused r) ≡ false
refusal_spares r d spares is = same_test r ∙ sym (ap asks_eio is) ∙ spares

pub firm_spares_reply : (s : State) (e : Event) (r : Refusal) → firm_refusal s e ≡ Some r → is_io_error (Refused r) ≡ false
firm_spares_reply s e r is = refusal_spares r (firm_refusal s e) (firm_spares s e) is

pub other_spares_reply : (s : State) (e : Event) (r : Refusal) → other_refusal s e ≡ Some r → is_io_error (Refused r) ≡ false
other_spares_reply s e r is = refusal_spares r (other_refusal s e) (other_spares s e) is

-- ---- the law

pub effects_are_no_eio : (s : State) (e : Event) (choice : Choice) → (after s e choice).reply ≢ Refused (Failed EIO)
effects_are_no_eio s e choice same =
    let asks : is_io_error (after s e choice).reply ≡ true = ap is_io_error same in
    let c = sym (event_answers s e choice) in
    absurd (let both : false ≡ true = c ∙ asks in cc)
