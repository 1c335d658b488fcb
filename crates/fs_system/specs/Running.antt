-- A store that goes on in a state.
--     IsRunning        a map is laid out so, and holds the state's tree
use Rattle.std.specs.Prelude.{ℕ}
use Rattle.fs_layout.specs.declared.geometry.Geometry.{Geometry}
use Rattle.fs_layout.specs.Bytes.{SectorMap}
use Rattle.fs_model.specs.States.{State}
use Rattle.call_parts.specs.Performing.{IsStateOf}
use Rattle.call_parts.specs.BothTables.{Tables}
use Rattle.fs_system.specs.Layouts.{IsDiskOf}

-- On a disk of so many sectors the map is laid out so, and holds the state's tree.
pub record IsRunning (size : ℕ) (p : Geometry) (map : SectorMap) (tables : Tables) (s : State) : Type 0 where
  pub disk_is : IsDiskOf size p map
  pub state_of : IsStateOf p map tables s
