-- What each call of a process leaves where nothing refuses.
use Rattle.std.specs.Prelude.{◌≡◌, ℕ, None, Some, IsFalse}
use Rattle.std.specs.Ordering.{nat_cmp}
use Rattle.fs_model.specs.declared.call.Call.{Call}
use Rattle.fs_layout.specs.Maps.{get, with_entry}
use Rattle.fs_model.specs.Processes.{Process}
use Rattle.fs_model.specs.TreeChanges.{changed}
use Rattle.fs_model.specs.States.{State, IsState}
use Rattle.fs_model.specs.Rows.{row_of}
use Rattle.fs_model.specs.Steps.{scene_of, early_refusal, late_refusal, HasNewNumber}
use Rattle.fs_model.specs.Ranges.{IsCall}
use Rattle.fs_model.proofs.StepsFit.{scene_is}
use Rattle.fs_model.proofs.StepsSwept.{MayBeLeft}
use Rattle.fs_model.proofs.StepsLeaves.{unrefused_call}
use Rattle.fs_model.proofs.EachCall.{each_call}

pub process_leaves : (s : State) (pid : ℕ) (p : Process) (call : Call) (new : ℕ) → IsState s → IsFalse s.halted → get nat_cmp s.processes pid ≡ Some p
    → IsCall call → early_refusal p (row_of call) ≡ None → late_refusal s p (row_of call) ≡ None
    → HasNewNumber s ((row_of call).effect (scene_of s p (row_of call)) new).change
    → MayBeLeft s.room (changed s.tree ((row_of call).effect (scene_of s p (row_of call)) new).change)
    (with_entry nat_cmp s.processes pid ((row_of call).effect (scene_of s p (row_of call)) new).process) s.openings
process_leaves s pid p call new is runs here fits early late fresh =
    let row = row_of call in
    let of = each_call call in
    of.leaves (scene_of s p row) (scene_is s pid p row is runs here) (Some pid) here new (unrefused_call s p call is fits (of.paths fits) early late) fresh
