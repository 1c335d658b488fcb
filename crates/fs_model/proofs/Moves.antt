-- What a body asks of its tree, in another tree that has what it has; and what a node asks.
use Rattle.std.specs.Prelude.{ℕ, List, ◌^◌, ◌<◌, ◌≤◌, IsTrue}
use Rattle.fs_model.specs.declared.reply.Stamps.{Stamps}
use Rattle.fs_model.specs.Nodes.{Node, Body, File, Dir, Link, is_directory}
use Rattle.fs_model.specs.Trees.{Tree, Room, names_of, IsEntry, IsBody, IsUnderRoot, IsNode, AreStamps, NamesFit}
use Rattle.fs_model.proofs.Finds.{IsThere}

pub entry_moves : (room : Room) (t u : Tree) (name : List ℕ) (n : ℕ) → (IsThere t n → IsThere u n) → IsEntry room t name n → IsEntry room u name n
entry_moves room t u name n still is = record { is_name = is.is_name; short = is.short; bytes = is.bytes; leads = (is.leads.0, still is.leads.1) }

pub body_moves : (room : Room) (t u : Tree) (b : Body) → ((n : ℕ) → IsThere t n → IsThere u n) → IsBody room t b → IsBody room u b
body_moves room t u (File a bytes) still is = is
body_moves room t u (Dir a d) still is = (
  is.0,
  is.1,
  record {
    names = is.2.names;
    few = is.2.few;
    each = λ name n e. entry_moves room t u name n (still n) (is.2.each name n e);
  },
)
body_moves room t u (Link target) still is = is

-- what a node asks of the room alone
pub record FitsRoom (room : Room) (n user user_group : ℕ) (times : Stamps) : Type 0 where
  pub positive : 1 ≤ n
  pub below : n < room.inodes
  pub owner : user < 2 ^ 32
  pub group : user_group < 2 ^ 32
  pub stamps : AreStamps room.keeps_times times

pub fits_room : {room : Room} {t : Tree} {n : ℕ} {node : Node} → IsNode room t n node → FitsRoom room n node.owner node.group node.stamps
fits_room is = record { positive = is.positive; below = is.below; owner = is.owner; group = is.group; stamps = is.stamps }

-- and what it asks of its tree
pub node_from : (room : Room) (t : Tree) (n : ℕ) (node : Node) → FitsRoom room n node.owner node.group node.stamps → IsBody room t node.body
    → NamesFit room n node.body (names_of t n) → (IsTrue (is_directory node.body) → IsUnderRoot t n) → IsNode room t n node
node_from room t n node fits body names under_root = record {
  positive = fits.positive;
  below = fits.below;
  owner = fits.owner;
  group = fits.group;
  body = body;
  stamps = fits.stamps;
  names = names;
  under_root = under_root;
}
