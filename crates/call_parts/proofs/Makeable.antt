-- What a directory is asked before something is made in it, once that is met.
--     found_new        what was not found is a new name in a directory
--     has_few, may_make        there is room for it
use Rattle.call_parts.specs.BothTables.{Tables}
use Rattle.std.specs.Prelude.{Bool}
use Rattle.call_parts.specs.Callers.{Who, first_start}
use Rattle.call_parts.proofs.Starts.{path_fits}
use Rattle.std.specs.Prelude.{◌≡◌, ℕ, ◌<◌, ◌≤◌, ◌==◌, nat_lt, nat_le, false, List, length, None}
use Rattle.std.proofs.Common.{sym, subst, arith, ◌∙◌}
use Rattle.std.proofs.lemmas.Bool.Decides.{nat_tests}
use Rattle.fs_cred.specs.declared.errno.Errno.TheVariants.{ENOSPC}
use Rattle.fs_cred.specs.Credentials.{Credential}
use Rattle.fs_layout.specs.declared.geometry.Geometry.{Geometry}
use Rattle.fs_layout.specs.Bytes.{SectorMap, IsBytes}
use Rattle.fs_layout.specs.Directories.{IsName}
use Rattle.fs_layout.specs.Images.{free_sectors}
use Rattle.fs_layout.specs.Maps.{name_cmp, get}
use Rattle.fs_layout.specs.Version.{max_name, max_names}
use Rattle.fs_model.specs.declared.walk.Form.{Form}
use Rattle.fs_model.specs.declared.walk.Found.{Found}
use Rattle.fs_model.specs.Births.{the_node}
use Rattle.fs_model.specs.Demands.{refuse, first_of, permission_on, write_and_search}
use Rattle.fs_model.specs.Limits.{least_free}
use Rattle.fs_model.specs.Nodes.{Node, names_of_body}
use Rattle.fs_model.specs.Processes.{Process}
use Rattle.fs_model.specs.Stands.{room_of}
use Rattle.fs_model.specs.States.{State}
use Rattle.fs_model.specs.Steps.{found_by}
use Rattle.fs_model.specs.Trees.{Tree, free_inodes, IsDirectoryAt}
use Rattle.fs_model.proofs.FreeInodes.{free_are_clear}
use Rattle.fs_model.proofs.StepsDemands.{first_met, then_met, unrefused}
use Rattle.fs_model.proofs.StepsFound.{IsNameAt, IsWalked, is_walked}
use Rattle.path_walk.specs.HeldTrees.{HoldsTree}
use Rattle.call_parts.specs.Paths.{HasFound}
use Rattle.call_parts.specs.Performing.{IsStateOf}
use Rattle.call_parts.specs.Makings.{CanMake, make_asked}
use Rattle.call_parts.proofs.Shown.{the_node_is}

pub found_new : {p : Geometry} {map : SectorMap} {tables : Tables} {s : State} {who : Who} {q : Process} {links : Bool} {form : Form} {path : List ℕ} {f : Found}
    → IsStateOf p map tables s → HasFound s who q links form path f → IsBytes path → f.ino ≡ None → IsNameAt s.room s.tree f.dir_ino f.name None
found_new {p} {map} {tables} {s} {who} {q} {links} {form} {path} {f} at has bytes none =
    let walked : IsWalked s.room s.tree form (found_by s.room s.tree (first_start who q) (form, path)) =
    is_walked s.room at.is_state.room.name_limit s.tree at.is_state.tree q.cred (first_start who q) 1 (form, path) bytes (path_fits who path has.checked).no_zero has.unrefused in
    (subst (IsWalked s.room s.tree form) (sym has.is) walked).new none

pub has_few : (p : Geometry) (map : SectorMap) (t : Tree) (dir_ino : ℕ) (cred : Credential) (step : ℕ) → first_of (make_asked p map cred t dir_ino step) ≡ None
    → length (names_of_body (the_node t dir_ino).body) < max_names p.version
has_few p map t dir_ino cred step met =
    let names = length (names_of_body (the_node t dir_ino).body) in
    let space = then_met (permission_on cred t dir_ino write_and_search 1 step) _ met in
    let two = then_met (refuse ENOSPC (nat_lt (free_sectors p map) least_free)) _ space in
    let three = then_met (refuse ENOSPC (free_inodes (room_of p) t == 0)) _ two in
    let few : nat_le (max_names p.version) names ≡ false = unrefused ENOSPC (nat_le (max_names p.version) names) (first_met (refuse ENOSPC (nat_le (max_names p.version) names)) _ three) in
    grind (arith, nat_tests)

module _ {p : Geometry} {map : SectorMap} {t : Tree} {dir_ino : ℕ} (cred : Credential) (step : ℕ) (met : first_of (make_asked p map cred t dir_ino step) ≡ None) where
  pub may_make : HoldsTree p map t → (d : IsDirectoryAt t dir_ino) (name : List ℕ) → IsName name → length name ≤ max_name p.version → get name_cmp (names_of_body d.node.body) name ≡ None
      → CanMake p map t dir_ino name
  may_make h d name is_name short is_new =
      let space = then_met (permission_on cred t dir_ino write_and_search 1 step) _ met in
      let enough : nat_lt (free_sectors p map) least_free ≡ false =
      unrefused ENOSPC (nat_lt (free_sectors p map) least_free) (first_met (refuse ENOSPC (nat_lt (free_sectors p map) least_free)) _ space) in
      let two = then_met (refuse ENOSPC (nat_lt (free_sectors p map) least_free)) _ space in
      let some : (free_inodes (room_of p) t == 0) ≡ false =
      unrefused ENOSPC (free_inodes (room_of p) t == 0) (first_met (refuse ENOSPC (free_inodes (room_of p) t == 0)) _ two) in
      let counted = free_are_clear p map t h.holds h.tree in
      record {
        holds = h;
        directory = d;
        is_name = is_name;
        short = short;
        is_new = is_new;
        has_room = subst (λ (u : Node). length (names_of_body u.body) < max_names p.version) (the_node_is t dir_ino d.node d.is_there) (has_few p map t dir_ino cred step met);
        some = λ zero. let clear : free_inodes (room_of p) t ≡ 0 = counted ∙ zero in grind (arith, nat_tests);
        enough = grind (arith, nat_tests);
      }
