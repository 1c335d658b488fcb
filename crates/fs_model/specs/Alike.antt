-- What a process may see of a state, and states that are alike to it: our own words for what permissions keep apart.
--     sees_into        the process may know a file's bytes
--     seen_by        a state with what the process can't know made zero
--     AreAlike        two states that are the same to the process
use Rattle.std.specs.Prelude.{◌≡◌, ℕ, ◌==◌, Bool, true, false, ◌&&◌, ◌||◌, length, map, replicate, if◌then◌else◌, Option, None, Some, IsFalse}
use Rattle.std.specs.List.{list_any}
use Rattle.std.specs.Ordering.{nat_cmp}
use Rattle.fs_cred.specs.declared.node.Node.{Node as AccessNode}
use Rattle.fs_cred.specs.Verdicts.{verdict}
use Rattle.fs_layout.specs.Maps.{get}
use Rattle.fs_model.specs.Nodes.{Node, Body, File, accessed}
use Rattle.fs_model.specs.Trees.{Tree}
use Rattle.fs_model.specs.Processes.{Process}
use Rattle.fs_model.specs.States.{State}
use Rattle.fs_model.specs.Demands.{perms}

abbrev pub may_read : Process → Option AccessNode → Bool
may_read p None = true
may_read p (Some node) = (verdict p.cred node (perms true false false)).yes

-- the process owns the node, by its user alone, or may read it, also by a capability, or has opened it for reading
abbrev pub sees_into : Process → ℕ → Node → Bool
sees_into p n node =
    node.owner == p.cred.uid
    || may_read p (accessed node)
    || list_any (λ d. d.1.ino == n && d.1.read) p.descriptors

-- a file's bytes, all of them made zero
abbrev pub blotted : Body → Body
blotted (File a bytes) = File a (replicate (length bytes) 0)
blotted b = b

-- the size, but no byte, of a file that the process can't see into
abbrev pub node_seen : Process → ℕ → Node → Node
node_seen p n node = if sees_into p n node then node else record node { body = blotted node.body }

abbrev pub tree_seen : Process → Tree → Tree
tree_seen p t = map (λ e. (e.0, node_seen p e.0 e.1)) t

abbrev pub seen_by : Option Process → State → State
seen_by None s = s
seen_by (Some p) s = record s { tree = tree_seen p s.tree }

-- to the process with this number the two states are alike
pub record AreAlike (pid : ℕ) (s t : State) : Type 0 where
  pub first_runs : IsFalse s.halted
  pub second_runs : IsFalse t.halted
  pub same : seen_by (get nat_cmp s.processes pid) s ≡ seen_by (get nat_cmp t.processes pid) t
