-- What a lookup leads to, by cases.
use Rattle.std.specs.Prelude.{◌≡◌, ℕ, nat_lt, Bool, true, false, not, cond, List, length, Option, Some, None}
use Rattle.std.proofs.Common.{refl}
use Rattle.fs_cred.specs.declared.errno.Errno.TheVariants.{ENOTDIR, ENAMETOOLONG}
use Rattle.fs_model.specs.Nodes.{Node, is_directory, names_of_body}
use Rattle.fs_model.specs.Trails.{Outcome, Faulty, arrival, looked_up, named_inode}
use Rattle.fs_model.specs.Trees.{Tree, Room}

pub looked_up_is : (P : Outcome → Type 0) (room : Room) (t : Tree) (is_last follow : Bool) (dir_ino : ℕ) (name : List ℕ) (o : Option Node) → P (Faulty ENOTDIR)
    → P (Faulty ENAMETOOLONG) → ((node : Node) → o ≡ Some node → P (arrival t is_last follow (named_inode t dir_ino (names_of_body node.body) name)))
    → P (looked_up room t is_last follow dir_ino name o)
looked_up_is P room t is_last follow dir_ino name None none long there = none
looked_up_is P room t is_last follow dir_ino name (Some node) none long there = go (is_directory node.body) (nat_lt room.name_limit (length name))
  where
    go : (directory is_long : Bool)
        → P (cond (not directory) (Faulty ENOTDIR) (cond is_long (Faulty ENAMETOOLONG) (arrival t is_last follow (named_inode t dir_ino (names_of_body node.body) name))))
    go false is_long = none
    go true true = long
    go true false = there node refl
