-- What a call does that needs the table of processes alone.
--     IsSettled        nothing refuses the call, and these processes are left
--     Settles        the whole
use Rattle.std.specs.Prelude.{◌≡◌, ℕ, None, Some, Result, MatchResult, OnErr}
use Rattle.fs_cred.specs.declared.refusal.Refusal.{Refusal}
use Rattle.fs_model.specs.declared.call.Call.{Call}
use Rattle.fs_model.specs.declared.reply.Reply.{Reply}
use Rattle.fs_model.specs.declared.event.Event.TheVariants.{Call as Calls}
use Rattle.fs_model.specs.TreeChanges.{Same}
use Rattle.fs_model.specs.Processes.{ProcessTable}
use Rattle.fs_model.specs.States.{State}
use Rattle.fs_model.specs.Steps.{after, firm_refusal, other_refusal}
use Rattle.call_parts.specs.BothTables.{both}
use Rattle.call_parts.specs.Callers.{leaving}
use Rattle.call_parts.specs.Performing.{chosen}

-- Nothing refuses the call. It gives this reply and leaves these processes, and of the tree it changes nothing.
pub record IsSettled (s : State) (pid : ℕ) (call : Call) (now : ProcessTable) (reply : Reply) : Type 0 where
  pub early : firm_refusal s (Calls pid call) ≡ None
  pub late : other_refusal s (Calls pid call) ≡ None
  pub effect : after s (Calls pid call) (chosen 0 0 0) ≡ leaving s (both now s.openings) Same reply

-- A call of process pid, in every state that has this table. At `Err` the table is as it was.
pub record Settles (pid : ℕ) (call : Call) (before now : ProcessTable) (result : Result Reply Refusal) : Type 0 where
  pub table : OnErr result (now ≡ before)
  pub each : (s : State) → s.processes ≡ before
      → MatchResult result (λ reply. IsSettled s pid call now reply) (λ r. firm_refusal s (Calls pid call) ≡ Some r)
