-- The trail of a pathname, whoever asks: path_resolution(7), and POSIX.1-2017, 4.13 (Pathname Resolution).
--     Lookup, Trail        one name that is looked up in one directory; all lookups, and what was found last
--     looked_up        what one lookup leads to
--     trail_of        the trail of a pathname from a current directory
use Rattle.std.specs.Prelude.{ℕ, zero, suc, ◌==◌, nat_lt, Bool, true, false, not, ◌&&◌, ◌||◌, List, [], ◌∷◌, ◌++◌, length, if◌then◌else◌, Option, None, Some}
use Rattle.fs_cred.specs.declared.errno.Errno.{Errno}
use Rattle.fs_cred.specs.declared.errno.Errno.TheVariants.{ENOENT, ENOTDIR, ENAMETOOLONG, ELOOP}
use Rattle.fs_model.specs.declared.walk.Form.{Form}
use Rattle.fs_model.specs.declared.walk.Form.TheVariants.{Follow, NoFollow, Parent}
use Rattle.fs_model.specs.Limits.{links_limit}
use Rattle.fs_layout.specs.Maps.{name_cmp, get}
use Rattle.fs_model.specs.Nodes.{Node, Body, Link, is_directory, names_of_body}
use Rattle.fs_model.specs.Trees.{Tree, Room, node_at, parent}
use Rattle.fs_model.specs.Parts.{Parts, parts_of, start_of, is_empty}

-- whether a final link is followed
abbrev pub follows_last : Form → Parts → Bool
follows_last Follow parts = true
follows_last NoFollow parts = parts.slash_at_end
follows_last Parent parts = false

-- the name, the directory in which it is looked up, and what is wrong with that
pub record Lookup : Type 0 where
  pub dir_ino : ℕ
  pub name : List ℕ
  pub fault : Option Errno

-- all lookups, what the last one found, and whether the trail ends in a slash
pub record Trail : Type 0 where
  pub lookups : List Lookup
  pub found : Option ℕ
  pub slash : Bool

-- what one lookup leads to; Through is a link to be followed, with its target
pub data Outcome : Type 0 where
  Faulty : Errno → Outcome
  Absent : Outcome
  Reaches : ℕ → Outcome
  Through : List ℕ → Outcome

abbrev pub reached_body : Bool → ℕ → Body → Outcome
reached_body true n (Link target) = Through target
reached_body _ n _ = Reaches n

abbrev pub reached : Bool → ℕ → Option Node → Outcome
reached follow n None = Reaches n
reached follow n (Some node) = reached_body follow n node.body

abbrev pub is_dot : List ℕ → Bool
is_dot (b ∷ []) = b == 46
is_dot _ = false

abbrev pub is_dot_dot : List ℕ → Bool
is_dot_dot (b ∷ c ∷ []) = b == 46 && c == 46
is_dot_dot _ = false

-- what a name leads to in a directory with these names: `.` to itself and `..` to its parent
abbrev pub named_inode : Tree → ℕ → List (List ℕ × ℕ) → List ℕ → Option ℕ
named_inode t dir_ino names name =
    if is_dot name then Some dir_ino else (if is_dot_dot name then Some (parent t dir_ino) else get name_cmp names name)

-- a name that isn't there is ENOENT where more names follow; a link is followed there in any case
abbrev pub arrival : Tree → Bool → Bool → Option ℕ → Outcome
arrival t is_last follow None = if is_last then Absent else Faulty ENOENT
arrival t is_last follow (Some n) = reached (follow || not is_last) n (node_at t n)

-- one name, looked up in a node: first the node has to be a directory, then the name short enough for the disk
abbrev pub looked_up : Room → Tree → Bool → Bool → ℕ → List ℕ → Option Node → Outcome
looked_up room t is_last follow dir_ino name None = Faulty ENOTDIR
looked_up room t is_last follow dir_ino name (Some node) =
    if not (is_directory node.body) then Faulty ENOTDIR
    else (if nat_lt room.name_limit (length name) then Faulty ENAMETOOLONG
    else arrival t is_last follow (named_inode t dir_ino (names_of_body node.body) name))

abbrev pub after_lookup : ℕ → List ℕ → Trail → Trail
after_lookup dir_ino name trail =
    record trail { lookups = record { dir_ino = dir_ino; name = name; fault = None } ∷ trail.lookups }

-- a lookup with a fault, or without a find, is the last
abbrev pub ends_at : ℕ → List ℕ → Option Errno → Bool → Trail
ends_at dir_ino name fault slash =
    record { lookups = record { dir_ino = dir_ino; name = name; fault = fault } ∷ []; found = None; slash = slash }

-- how a trail goes on: from a directory, through the names that remain, with or without a slash at its end
abbrev pub GoesOn : Type 0
GoesOn = ℕ → List (List ℕ) → Bool → Trail

-- the names of a link's target come before those that remain, from the root or from the directory that has the link
abbrev pub through : GoesOn → ℕ → List ℕ → List (List ℕ) → Bool → Parts → Trail
through go_on dir_ino name names slash target =
    after_lookup dir_ino name
    (go_on (start_of target dir_ino) (target.names ++ names) (slash || (is_empty names && target.slash_at_end)))

-- where no more links may be followed: ELOOP
abbrev pub through_if : Option GoesOn → ℕ → List ℕ → List (List ℕ) → Bool → List ℕ → Trail
through_if None dir_ino name names slash target = ends_at dir_ino name (Some ELOOP) slash
through_if (Some go_on) dir_ino name names slash target = through go_on dir_ino name names slash (parts_of target)

-- how a trail goes on after a lookup: by `rest` from what was found, or behind a link
abbrev pub onward : Option GoesOn → (ℕ → Trail) → ℕ → List ℕ → List (List ℕ) → Bool → Outcome → Trail
onward behind_link rest dir_ino name names slash (Faulty e) = ends_at dir_ino name (Some e) slash
onward behind_link rest dir_ino name names slash Absent = ends_at dir_ino name None slash
onward behind_link rest dir_ino name names slash (Reaches n) = after_lookup dir_ino name (rest n)
onward behind_link rest dir_ino name names slash (Through target) = through_if behind_link dir_ino name names slash target

module _ (room : Room) (t : Tree) (follow : Bool) where
  -- each name in turn. `behind_link` goes on behind a link, if one more may be followed
  abbrev pub lookups_from : Option GoesOn → GoesOn
  lookups_from behind_link dir_ino [] slash = record { lookups = []; found = Some dir_ino; slash = slash }
  lookups_from behind_link dir_ino (name ∷ names) slash =
      onward behind_link (λ n. lookups_from behind_link n names slash) dir_ino name names slash
      (looked_up room t (is_empty names) follow dir_ino name (node_at t dir_ino))

  -- a trail on which so many links may be followed
  abbrev pub trail_with : ℕ → GoesOn
  trail_with zero = lookups_from None
  trail_with (suc links) = lookups_from (Some (trail_with links))

abbrev pub trail_of_parts : Room → Tree → ℕ → Form → Parts → Trail
trail_of_parts room t cwd form parts =
    trail_with room t (follows_last form parts) links_limit (start_of parts cwd) parts.names parts.slash_at_end

unfoldable pub trail_of : Room → Tree → ℕ → Form → List ℕ → Trail
trail_of room t cwd form path = trail_of_parts room t cwd form (parts_of path)
