-- A file system that runs is in one state, and two that are alike to a process answer it alike.
use Rattle.fs_model.specs.Processes.{ProcessTable, Openings}
use Rattle.call_parts.specs.BothTables.{Tables}
use Rattle.std.specs.Prelude.{◌≡◌, ℕ, Bool, IsFalse}
use Rattle.std.proofs.Common.{sym, ap, ◌∙◌, subst}
use Rattle.sector_disk.specs.Disk.{DiskState}
use Rattle.fs_layout.specs.declared.geometry.Geometry.{Geometry}
use Rattle.fs_layout.specs.Bytes.{SectorMap}
use Rattle.sector_txn.specs.Stores.{present}
use Rattle.fs_model.specs.Trees.{Tree, Room, IsTree}
use Rattle.fs_model.specs.States.{State, IsState}
use Rattle.fs_model.specs.Stands.{room_of}
use Rattle.fs_model.proofs.OneTree.{held_once}
use Rattle.fs_model.proofs.ConfinedChoices.{steps_alike}
use Rattle.fs_model.proofs.ConfinedRuns.{stepped_cred}
use Rattle.fs_model.proofs.ConfinedStepsOf.{steps_are_by}
use Rattle.fs_model.specs.Confinement.{IsConfined}
use Rattle.call_parts.specs.Performing.{IsStateOf}
use Rattle.fs_system.specs.declared.base.Base.{Base}
use Rattle.fs_system.specs.declared.base.Base.TheVariants.{Running, Halted, Taken}
use Rattle.fs_system.specs.Seen.{IsOn, tables_on}
use Rattle.fs_system.specs.Confinement.{UnreadableBytesDoNotShow, IsInOneState}

-- ---- one state

same_state : (s t : State) → t.room ≡ s.room → t.tree ≡ s.tree → t.processes ≡ s.processes → t.openings ≡ s.openings → t.free ≡ s.free → t.now ≡ s.now → t.halted ≡ s.halted → t ≡ s
same_state s t room tree processes openings free now halted =
    ap (λ (x : Room). record t { room = x }) room
    ∙ ap (λ (x : Tree). record t { room = s.room; tree = x }) tree
    ∙ ap (λ (x : ProcessTable). record t { room = s.room; tree = s.tree; processes = x }) processes
    ∙ ap (λ (x : Openings). record t { room = s.room; tree = s.tree; processes = s.processes; openings = x }) openings
    ∙ ap (λ (x : ℕ). record t { room = s.room; tree = s.tree; processes = s.processes; openings = s.openings; free = x }) free
    ∙ ap (λ (x : ℕ). record t { room = s.room; tree = s.tree; processes = s.processes; openings = s.openings; free = s.free; now = x }) now
    ∙ ap (λ (x : Bool). record s { halted = x }) halted

-- a map, a table and a time are those of one state
state_of_once : (p : Geometry) (map : SectorMap) (tables : Tables) (s t : State) → IsStateOf p map tables s → IsStateOf p map tables t → t.now ≡ s.now → t ≡ s
state_of_once p map tables s t is js now =
    let first : IsTree (room_of p) t.tree = subst (λ r. IsTree r t.tree) js.same_room js.is_state.tree in
    let second : IsTree (room_of p) s.tree = subst (λ r. IsTree r s.tree) is.same_room is.is_state.tree in
    same_state s t (js.same_room ∙ sym is.same_room) (held_once p map t.tree s.tree js.holds is.holds first second)
    (ap (λ (x : Tables). x.processes) (js.same_tables ∙ sym is.same_tables)) (ap (λ (x : Tables). x.openings) (js.same_tables ∙ sym is.same_tables)) (js.free_is ∙ sym is.free_is) now (js.up ∙ sym is.up)

module _ {D : Type 0} (state : D → DiskState) (p : Geometry) (time : ℕ) (tables : Tables) where
  on_once : (b : Base D) (s t : State) → IsFalse s.halted → IsOn state p time tables b s → IsOn state p time tables b t → t ≡ s
  on_once Taken s t up is js = absurd is
  on_once (Running store) s t up is js = state_of_once p (present state store) tables s t is.0.state_of js.0.state_of (js.1 ∙ sym is.1)
  on_once (Halted broken) s t up is js = absurd cc

  on_is_state : (b : Base D) (s : State) → IsFalse s.halted → IsOn state p time tables b s → IsState s
  on_is_state Taken s up is = absurd is
  on_is_state (Running store) s up is = is.0.state_of.is_state
  on_is_state (Halted broken) s up is = absurd cc

pub one_state : {D : Type 0} (state : D → DiskState) → IsInOneState state
one_state state fs s t up is js = on_once state fs.geometry fs.time (tables_on fs) fs.base s t up is js

-- ---- two file systems

pub not_shown : {D E : Type 0} (state : D → DiskState) (other : E → DiskState) → UnreadableBytesDoNotShow state other
not_shown state other pid p s t old new old' new' e reply reply' on on' here plain of fits alike happens happens' served served' =
    let is = on_is_state state old.geometry old.time (tables_on old) old.base s alike.first_runs on in
    let js = on_is_state other old'.geometry old'.time (tables_on old') old'.base t alike.second_runs on' in
    let next = happens s on in
    let next' = happens' t on' in
    let x = steps_are_by s next.0 e reply next.2.serves served.memory served.disk in
    let y = steps_are_by t next'.0 e reply' next'.2.serves served'.memory served'.disk in
    record {
      first = next.0;
      second = next'.0;
      is_first = next.1;
      is_second = next'.1;
      alike = λ same.
          steps_alike pid p s t next.0 next'.0 x.0 y.0 reply reply' is js here plain alike same.numbers same.free e fits of x.1 y.1;
      confined = λ q there. subst IsConfined (sym (stepped_cred pid p q s here is e x.0 reply next.0 of x.1 there)) plain;
    }
