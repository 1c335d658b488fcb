-- What rename asks, in parts.
--     BothThere        what both paths lead to is there
--     ends_asked, slash_asked, names_asked        asked of both names
--     inode_there, other_kind, directory_kind        what stands at a number, and whether it is a directory
--     kinds_asked        asked of the kinds of both
--     slash_told, replacing_asked        the same of the inodes
use Rattle.std.specs.Prelude.{ℕ, Bool, false, not, ◌&&◌, ◌||◌, List, [], ◌∷◌, Option, None, Some}
use Rattle.fs_cred.specs.declared.errno.Errno.TheVariants.{EBUSY, EINVAL, EISDIR, ENOTDIR}
use Rattle.fs_layout.specs.declared.inode.Inode.{Inode}
use Rattle.fs_layout.specs.declared.inode.Kind.{Kind}
use Rattle.fs_layout.specs.declared.geometry.Geometry.{Geometry}
use Rattle.fs_layout.specs.Bytes.{SectorMap}
use Rattle.fs_layout.specs.Images.{inode_at}
use Rattle.fs_model.specs.declared.walk.Found.{Found}
use Rattle.fs_model.specs.Births.{the_node}
use Rattle.fs_model.specs.Demands.{Demand, refuse}
use Rattle.fs_model.specs.Nodes.{is_directory}
use Rattle.fs_model.specs.Rules.{is_directory_kind}
use Rattle.fs_model.specs.Scenes.{is_found, found_ino, ends_top, ends_dot, ends_dot_dot, must_be_there}
use Rattle.fs_model.specs.Trees.{Tree}
use Rattle.call_parts.specs.Telling.{FoundThere}

pub record BothThere (f g : Found) (t : Tree) : Type 0 where
  pub first : FoundThere f t
  pub second : FoundThere g t

-- both paths end in names
abbrev pub ends_asked : Found → Found → List Demand
ends_asked f g = refuse EINVAL (ends_dot f || ends_dot_dot f || ends_dot g || ends_dot_dot g) ∷ refuse EBUSY (ends_top f || ends_top g) ∷ []

-- what was found is there, and is no directory
abbrev pub is_other : Tree → Found → Bool
is_other t f = is_found f && not (is_directory (the_node t (found_ino f)).body)

-- a slash at the end asks for a directory
abbrev pub slash_asked : Tree → Found → Found → Demand
slash_asked t f g = refuse ENOTDIR ((is_other t f && (f.slash || g.slash)) || (is_other t g && g.slash))

-- a directory replaces a directory, and nothing else does
abbrev pub kinds_asked : Tree → Found → Found → List Demand
kinds_asked t f g =
    refuse EISDIR (is_other t f && (is_found g && is_directory (the_node t (found_ino g)).body))
    ∷ refuse ENOTDIR ((is_found f && is_directory (the_node t (found_ino f)).body) && is_other t g)
    ∷ []

-- what stands at a number, with its inode
abbrev pub inode_there : Geometry → SectorMap → Option ℕ → Option (ℕ × Inode)
inode_there p map None = None
inode_there p map (Some n) = Some (n, inode_at p map n)

-- what was found is there, and no directory
abbrev pub other_kind : Option (ℕ × Inode) → Bool
other_kind None = false
other_kind (Some x) = not (is_directory_kind x.1.kind)

-- what was found is there, and a directory
abbrev pub directory_kind : Option (ℕ × Inode) → Bool
directory_kind None = false
directory_kind (Some x) = is_directory_kind x.1.kind

-- slash_asked and kinds_asked, as the inodes say it
abbrev pub slash_told : Found → Found → Kind → Option (ℕ × Inode) → Demand
slash_told f g kind replaced = refuse ENOTDIR ((not (is_directory_kind kind) && (f.slash || g.slash)) || (other_kind replaced && g.slash))

abbrev pub replacing_asked : Kind → Option (ℕ × Inode) → List Demand
replacing_asked kind replaced =
    refuse EISDIR (not (is_directory_kind kind) && directory_kind replaced) ∷ refuse ENOTDIR (is_directory_kind kind && other_kind replaced) ∷ []

-- all that is asked of both names
abbrev pub names_asked : Tree → Found → Found → List Demand
names_asked t f g =
    refuse EINVAL (ends_dot f || ends_dot_dot f || ends_dot g || ends_dot_dot g)
    ∷ refuse EBUSY (ends_top f || ends_top g)
    ∷ must_be_there f
    ∷ slash_asked t f g
    ∷ []
