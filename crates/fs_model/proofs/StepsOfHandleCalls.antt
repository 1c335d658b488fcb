-- What is done by a handle leaves what may be left.
use Rattle.std.specs.Prelude.{◌≡◌, ℕ, ◌^◌, ◌<◌, [], Option, None, Some, IsFalse}
use Rattle.std.proofs.Common.{refl, arith}
use Rattle.std.proofs.lemmas.List.Elements.{All-nil}
use Rattle.std.specs.Ordering.{nat_cmp}
use Rattle.fs_cred.specs.Credentials.{IsCredential, usual_credential}
use Rattle.fs_layout.specs.Maps.{get, IsMap}
use Rattle.fs_model.specs.declared.event.HandleCall.{HandleCall}
use Rattle.fs_model.specs.declared.event.HandleCall.TheVariants.{Read, Write, Close}
use Rattle.fs_model.specs.Processes.{Descriptor, Openings, process_holding}
use Rattle.fs_model.specs.TreeChanges.{changed}
use Rattle.fs_model.specs.States.{State, IsProcess, IsState}
use Rattle.fs_model.specs.Steps.{scene_of, early_refusal, late_refusal}
use Rattle.fs_model.specs.HandleCalls.{offset_of_call, doer_with, doer, handle_call_row, kept_by}
use Rattle.fs_model.specs.Ranges.{IsHandleCall}
use Rattle.fs_model.proofs.StepsDemands.{early_met, demands_met}
use Rattle.fs_model.proofs.StepsFit.{IsScene, scene_fits, openings_move, processes_move}
use Rattle.fs_model.proofs.StepsProcesses.{without-IsMap, in_without, new_process_fits, with_descriptor_fits}
use Rattle.fs_model.proofs.StepsSwept.{MayBeLeft, tree_may_be_left}
use Rattle.fs_model.proofs.EachHandleCall.{each_handle_call}

-- ---- who does it

nobody_is : IsCredential (usual_credential 65534 65534 [])
nobody_is = record { uid = omega arith; gid = omega arith; groups = All-nil _; few = omega arith; caps = omega arith }

offset_small : (handle_call : HandleCall) → IsHandleCall handle_call → offset_of_call handle_call < 2 ^ 64
offset_small (Read offset len) range = range.0
offset_small (Write offset bytes) range = range.0
offset_small handle_call range = omega arith

module _ (s : State) (is : IsState s) (runs : IsFalse s.halted) (handle : ℕ) (handle_call : HandleCall) (range : IsHandleCall handle_call) where
  holder_fits : IsProcess s.tree (process_holding [])
  holder_fits = new_process_fits s.room s.tree (usual_credential 65534 65534 []) is.tree nobody_is

  doer_fits : IsProcess s.tree (doer s.openings handle handle_call)
  doer_fits = go (get nat_cmp s.openings handle) refl (offset_of_call handle_call) (offset_small handle_call range)
    where
      go : (o : Option Descriptor) → get nat_cmp s.openings handle ≡ o → (offset : ℕ) → offset < 2 ^ 64 → IsProcess s.tree (doer_with offset o)
      go None at offset small = holder_fits
      go (Some d) at offset small =
          let x = (is.processes runs).each_opening handle d at in
          with_descriptor_fits s.tree (process_holding []) holder_fits 0 (record d { offset = offset })
          (record { below = omega arith; offset = small; node = x.node; is_there = x.is_there; no_link = x.no_link; no_writes = x.no_writes })

  pub doer_is : IsScene (scene_of s (doer s.openings handle handle_call) (handle_call_row handle_call))
  doer_is = scene_fits s (doer s.openings handle handle_call) (handle_call_row handle_call) is runs doer_fits

-- ---- what is open then

pub kept_is_map : (handle_call : HandleCall) (handle : ℕ) (openings : Openings) → IsMap nat_cmp openings → IsMap nat_cmp (kept_by handle_call handle openings)
kept_is_map Close handle openings is = without-IsMap openings handle is
kept_is_map handle_call handle openings is = is

in_kept : (handle_call : HandleCall) (handle : ℕ) (openings : Openings) (h : ℕ) (d : Descriptor) → IsMap nat_cmp openings
    → get nat_cmp (kept_by handle_call handle openings) h ≡ Some d → get nat_cmp openings h ≡ Some d
in_kept Close handle openings h d is at = in_without openings handle h d is at
in_kept handle_call handle openings h d is at = at

-- ---- what it leaves

pub handle_call_leaves : (s : State) → IsState s → IsFalse s.halted → (handle : ℕ) (handle_call : HandleCall) → IsHandleCall handle_call
    → early_refusal (doer s.openings handle handle_call) (handle_call_row handle_call) ≡ None → late_refusal s (doer s.openings handle handle_call) (handle_call_row handle_call) ≡ None → (new : ℕ)
    → MayBeLeft s.room (changed s.tree ((handle_call_row handle_call).effect (scene_of s (doer s.openings handle handle_call) (handle_call_row handle_call)) new).change) s.processes
    (kept_by handle_call handle s.openings)
handle_call_leaves s is runs handle handle_call range early late new =
    let row = handle_call_row handle_call in
    let p = doer s.openings handle handle_call in
    let u = changed s.tree (row.effect (scene_of s p row) new).change in
    let left = (each_handle_call handle_call).fits (scene_of s p row) (doer_is s is runs handle handle_call range) range (early_met p row early) (demands_met s p row late) new in
    tree_may_be_left s.room u s.processes (kept_by handle_call handle s.openings) left.tree is.pids is.few (processes_move s is runs u left.types)
    (kept_is_map handle_call handle s.openings is.handles)
    (λ h d at. openings_move s is runs u left.types h d (in_kept handle_call handle s.openings h d is.handles at))
