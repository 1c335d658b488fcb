-- What calls change of the machine's tree: no more than is said of them.
--     Aspects, aspects_of, says_one        what an alteration is of, and what of several one is of
--     KeepsUnsaid        in a node all else stays
--     AltersOnly        a change of the tree is one of these
--     LeavesUnsaid        the tree after an event
--     StepsChangeWhatIsSaid
use Rattle.std.specs.Prelude.{◌≡◌, Bool, true, false, List, IsTrue, IsFalse}
use Rattle.std.specs.List.{list_any}
use Rattle.fs_model.specs.declared.call.AclType.TheVariants.{Access, Default}
use Rattle.fs_model.specs.declared.event.Event.{Event}
use Rattle.fs_model.specs.declared.reply.Reply.{Reply}
use Rattle.fs_model.specs.Births.{the_node}
use Rattle.fs_model.specs.Nodes.{Node, acl_in, bytes_in, default_in, names_of_body, shown_mode, target_in, type_of}
use Rattle.fs_model.specs.Processes.{users}
use Rattle.fs_model.specs.States.{State}
use Rattle.fs_model.specs.Steps.{Step}
use Rattle.fs_model.specs.TreeChanges.{Change, Same, Rewrite, Make, AddName, TakeName, MoveName, changed, swept, touches, touched}
use Rattle.fs_model.specs.Trees.{Tree}
use Rattle.fuse_plans.specs.Alterations.{Alteration, resizes, resizes_open, writes_open, writes_some, sets_mode, sets_owner, sets_group, sets_times, sets_list, adds_name, links_name, takes_name, moves_name, alterations_in}

-- ---- of what an alteration is

-- parts of a node, and names in a directory
pub record Aspects : Type 0 where
  pub bytes : Bool
  -- and the list that decides on access
  pub mode : Bool
  pub default : Bool
  pub owner : Bool
  pub group : Bool
  pub times : Bool
  -- a new object gets a name, and one that has a name one more
  pub added : Bool
  pub linked : Bool
  pub taken : Bool
  pub moved : Bool

abbrev pub no_aspect : Aspects
no_aspect = record {
  bytes = false;
  mode = false;
  default = false;
  owner = false;
  group = false;
  times = false;
  added = false;
  linked = false;
  taken = false;
  moved = false;
}

abbrev pub aspects_of : Alteration → Aspects
aspects_of (resizes size) = record no_aspect { bytes = true }
aspects_of (resizes_open handle size) = record no_aspect { bytes = true }
aspects_of (writes_open handle) = record no_aspect { bytes = true }
aspects_of writes_some = record no_aspect { bytes = true }
aspects_of sets_mode = record no_aspect { mode = true }
aspects_of sets_owner = record no_aspect { owner = true }
aspects_of sets_group = record no_aspect { group = true }
aspects_of sets_times = record no_aspect { times = true }
aspects_of (sets_list Access) = record no_aspect { mode = true }
aspects_of (sets_list Default) = record no_aspect { default = true }
aspects_of (adds_name path) = record no_aspect { added = true }
aspects_of (links_name path) = record no_aspect { linked = true }
aspects_of (takes_name path) = record no_aspect { taken = true }
aspects_of (moves_name old new) = record no_aspect { moved = true }

-- one of them is of this
abbrev pub says_one : (Aspects → Bool) → List Alteration → Bool
says_one is_of alterations = list_any (λ a. is_of (aspects_of a)) alterations

-- ---- trees

-- The node that is rewritten keeps what isn't said, and its kind, its names and its target.
pub record KeepsUnsaid (alterations : List Alteration) (old new : Node) : Type 0 where
  pub bytes : IsFalse (says_one (λ x. x.bytes) alterations) → bytes_in new.body ≡ bytes_in old.body
  pub mode : IsFalse (says_one (λ x. x.mode) alterations) → shown_mode new.body ≡ shown_mode old.body
  pub access : IsFalse (says_one (λ x. x.mode) alterations) → acl_in new.body ≡ acl_in old.body
  pub default : IsFalse (says_one (λ x. x.default) alterations) → default_in new.body ≡ default_in old.body
  pub owner : IsFalse (says_one (λ x. x.owner) alterations) → new.owner ≡ old.owner
  pub group : IsFalse (says_one (λ x. x.group) alterations) → new.group ≡ old.group
  pub times : IsFalse (says_one (λ x. x.times) alterations) → new.stamps ≡ old.stamps
  pub kind : type_of new.body ≡ type_of old.body
  pub names : names_of_body new.body ≡ names_of_body old.body
  pub target : target_in new.body ≡ target_in old.body

abbrev pub AltersOnly : List Alteration → Tree → Change → Type 0
AltersOnly alterations t Same = Unit {0}
AltersOnly alterations t (Rewrite touch n node) = KeepsUnsaid alterations (the_node t n) node
AltersOnly alterations t (Make directory name n node) = IsTrue (says_one (λ x. x.added) alterations)
AltersOnly alterations t (AddName directory name n) = IsTrue (says_one (λ x. x.linked) alterations)
AltersOnly alterations t (TakeName directory name) = IsTrue (says_one (λ x. x.taken) alterations)
AltersOnly alterations t (MoveName directory name to_directory to_name) = IsTrue (says_one (λ x. x.moved) alterations)

-- The tree stays; or such a change is made of it, and then what has no name and isn't open any more is gone, and the times have
-- moved that the change moves.
pub data LeavesUnsaid (alterations : List Alteration) (old new : State) : Type 0 where
  stays : new.tree ≡ old.tree → LeavesUnsaid alterations old new
  alters : (change : Change) → AltersOnly alterations old.tree change
      → new.tree ≡ touched old.now (touches old.room old.tree change) (swept (changed old.tree change) (users new.processes new.openings))
      → LeavesUnsaid alterations old new

-- Each step of the machine, whatever it replies.
abbrev pub StepsChangeWhatIsSaid : Type 0
StepsChangeWhatIsSaid = (old new : State) (e : Event) (reply : Reply) → Step old e reply new → LeavesUnsaid (alterations_in e) old new
