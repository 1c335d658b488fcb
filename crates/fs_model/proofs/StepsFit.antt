-- An effect that fits its scene: its tree is a tree in which each node is of the type that it was, and its process fits.
use Rattle.std.specs.Prelude.{◌≡◌, ℕ, ◌+◌, true, cond, List, [], ◌∷◌, length, Option, None, Some, is_some, unwrap_or, IsFalse}
use Rattle.std.proofs.Common.{refl, ap, arith, ◌∙◌}
use Rattle.std.specs.Ordering.{nat_cmp}
use Rattle.fs_model.specs.declared.reply.Reply.{Reply}
use Rattle.fs_layout.specs.Maps.{get, with_entry, IsMap}
use Rattle.fs_model.specs.Nodes.{Node}
use Rattle.fs_model.specs.Trees.{Tree, Room, node_at, with_node, IsTree}
use Rattle.fs_model.specs.Processes.{Process, ProcessTable, Descriptor}
use Rattle.fs_model.specs.Births.{the_node, no_node}
use Rattle.fs_model.specs.declared.touch.Touch.{Touch}
use Rattle.fs_model.specs.TreeChanges.{Same, Rewrite, changed}
use Rattle.fs_model.specs.States.{State, IsDescriptor, IsProcess, IsState}
use Rattle.fs_model.specs.Scenes.{Scene, Effect, Row}
use Rattle.fs_model.specs.declared.walk.Form.{Form}
use Rattle.fs_model.specs.Walks.{found_of}
use Rattle.fs_model.specs.Steps.{scene_of, found_by, first_found, second_found}
use Rattle.fs_model.proofs.Finds.{IsThere, finds_are_there}
use Rattle.fs_layout.proofs.MapLaws.{with_entry-IsMap, length-with_entry}
use Rattle.fs_model.proofs.StepsKinds.{KeepsTypes, types_stay, descriptor_moves, process_moves, MayReplace, replaced_is_tree, replaced_keeps_types}
use Rattle.fs_model.proofs.StepsProcesses.{in_with_entry}
use Rattle.fs_model.proofs.StepsSwept.{MayBeLeft, tree_may_be_left}

-- ---- scenes

-- the scene of a process in a state that runs: what was found is there
pub record IsScene (c : Scene) : Type 0 where
  pub state : IsState c.state
  pub running : IsFalse c.state.halted
  pub process : IsProcess c.state.tree c.process
  pub first : (n : ℕ) → c.first.ino ≡ Some n → IsThere c.state.tree n
  pub second : (n : ℕ) → c.second.ino ≡ Some n → IsThere c.state.tree n

-- what stands at a number where something does
pub node_is_there : (t : Tree) (n : ℕ) → IsThere t n → node_at t n ≡ Some (the_node t n)
node_is_there t n there = go (node_at t n) there
  where
    go : (o : Option Node) → is_some o ≡ true → o ≡ Some (unwrap_or o no_node)
    go None h = absurd cc
    go (Some node) h = refl

module _ (room : Room) (t : Tree) (is : IsTree room t) (cwd : ℕ) (there : IsThere t cwd) where
  found_is_there : (walk : Form × List ℕ) (n : ℕ) → (found_by room t cwd walk).ino ≡ Some n → IsThere t n
  unfolding found_of
  found_is_there walk n e = finds_are_there room t is cwd walk.0 walk.1 there n e

  pub first_is_there : (walks : List (Form × List ℕ)) (n : ℕ) → (first_found room t cwd walks).ino ≡ Some n → IsThere t n
  first_is_there [] n e = absurd cc
  first_is_there (walk ∷ walks) n e = found_is_there walk n e

  pub second_is_there : (walks : List (Form × List ℕ)) (n : ℕ) → (second_found room t cwd walks).ino ≡ Some n → IsThere t n
  second_is_there [] n e = absurd cc
  second_is_there (walk ∷ walks) n e = first_is_there walks n e

pub scene_fits : (s : State) (p : Process) (row : Row) → IsState s → IsFalse s.halted → IsProcess s.tree p → IsScene (scene_of s p row)
scene_fits s p row is runs fits =
    let there : IsThere s.tree p.cwd = ap is_some fits.cwd.is_there in
    record {
      state = is;
      running = runs;
      process = fits;
      first = λ n e. first_is_there s.room s.tree is.tree p.cwd there row.walks n e;
      second = λ n e. second_is_there s.room s.tree is.tree p.cwd there row.walks n e;
    }

pub scene_is : (s : State) (pid : ℕ) (p : Process) (row : Row) → IsState s → IsFalse s.halted → get nat_cmp s.processes pid ≡ Some p
    → IsScene (scene_of s p row)
scene_is s pid p row is runs here = scene_fits s p row is runs ((is.processes runs).each_process pid p here)

-- ---- effects

pub record EffectFits (s : State) (effect : Effect) : Type 0 where
  pub tree : IsTree s.room (changed s.tree effect.change)
  pub types : KeepsTypes s.tree (changed s.tree effect.change)
  pub process : IsProcess (changed s.tree effect.change) effect.process

-- the tree stays
pub no_change_fits : (s : State) (p : Process) (reply : Reply) → IsState s → IsProcess s.tree p
    → EffectFits s (record { change = Same; process = p; reply = reply })
no_change_fits s p reply is fits = record { tree = is.tree; types = types_stay s.tree; process = fits }

-- one node is rewritten
pub rewrite_fits : (s : State) (touch : Touch) (n : ℕ) (old new : Node) (p : Process) (reply : Reply) → IsState s → node_at s.tree n ≡ Some old
    → MayReplace s.room s.tree old new → IsProcess s.tree p → EffectFits s (record { change = Rewrite touch n new; process = p; reply = reply })
rewrite_fits s touch n old new p reply is was may fits =
    let types : KeepsTypes s.tree (with_node s.tree n new) = replaced_keeps_types s.tree n old new was may.same in
    record {
      tree = replaced_is_tree s.room s.tree n old new is.tree was may;
      types = types;
      process = process_moves s.tree (with_node s.tree n new) types p fits;
    }

-- a process is put where one was
pub length-replaced : {X : Type 0} (m : List (ℕ × X)) (k : ℕ) (x y : X) → IsMap nat_cmp m → get nat_cmp m k ≡ Some x
    → length (with_entry nat_cmp m k y) ≡ length m
length-replaced m k x y h here = length-with_entry m k y h ∙ ap (λ o. cond (is_some o) (length m) (length m + 1)) here

-- who calls: a process with a number, or nobody of the table
abbrev pub IsCaller : ProcessTable → Option ℕ → Process → Type 0
IsCaller processes None p = Unit {0}
IsCaller processes (Some pid) p = get nat_cmp processes pid ≡ Some p

-- the table with the caller as it is now
abbrev pub with_caller : ProcessTable → Option ℕ → Process → ProcessTable
with_caller processes None p = processes
with_caller processes (Some pid) p = with_entry nat_cmp processes pid p

-- who fitted the tree fits it then
module _ (s : State) (is : IsState s) (runs : IsFalse s.halted) (u : Tree) (types : KeepsTypes s.tree u) where
  pub processes_move : (pid : ℕ) (p : Process) → get nat_cmp s.processes pid ≡ Some p → IsProcess u p
  processes_move pid p at = process_moves s.tree u types p ((is.processes runs).each_process pid p at)

  pub openings_move : (handle : ℕ) (d : Descriptor) → get nat_cmp s.openings handle ≡ Some d → IsDescriptor u 0 d
  openings_move handle d at = descriptor_moves s.tree u types 0 d ((is.processes runs).each_opening handle d at)

pub effect_leaves : (s : State) (caller : Option ℕ) (p : Process) (effect : Effect) → IsState s → IsFalse s.halted → IsCaller s.processes caller p
    → EffectFits s effect → MayBeLeft s.room (changed s.tree effect.change) (with_caller s.processes caller effect.process) s.openings
effect_leaves s None p effect is runs here fits =
    tree_may_be_left s.room (changed s.tree effect.change) s.processes s.openings fits.tree is.pids is.few
    (processes_move s is runs (changed s.tree effect.change) fits.types) is.handles (openings_move s is runs (changed s.tree effect.change) fits.types)
effect_leaves s (Some pid) p effect is runs here fits =
    tree_may_be_left s.room (changed s.tree effect.change) (with_entry nat_cmp s.processes pid effect.process) s.openings fits.tree
    (with_entry-IsMap s.processes pid effect.process is.pids)
    (let same = length-replaced s.processes pid p effect.process is.pids here in let few = is.few in omega (arith, same, few))
    (in_with_entry (λ q r. IsProcess (changed s.tree effect.change) r) s.processes pid effect.process fits.process
    (processes_move s is runs (changed s.tree effect.change) fits.types)) is.handles (openings_move s is runs (changed s.tree effect.change) fits.types)
