-- What an actor's call finds by a path that is followed is no link, but where the call acts on the link at which it starts.
use Rattle.std.specs.Prelude.{◌≡◌, ℕ, zero, suc, ◌==◌, nat_lt, Bool, true, false, not, cond, List, [], ◌∷◌, length, Option, None, Some}
use Rattle.std.proofs.Common.{refl, sym, ap, ◌∙◌, subst}
use Rattle.std.specs.List.{filter, onto_first, slice_split}
use Rattle.fs_cred.specs.declared.errno.Errno.TheVariants.{ENOTDIR, ENAMETOOLONG}
use Rattle.fs_model.specs.declared.walk.Form.TheVariants.{Follow}
use Rattle.fs_model.specs.Limits.{root, links_limit}
use Rattle.fs_model.specs.Nodes.{Node, Body, File, Dir, Link, is_link, is_directory, names_of_body}
use Rattle.fs_model.specs.Trees.{Tree, Room, node_at, IsTree}
use Rattle.fs_model.specs.Parts.{slash, is_empty, components_of, begins_with_slash, parts_of}
use Rattle.fs_model.specs.Trails.{GoesOn, Faulty, named_inode, arrival, looked_up, onward, lookups_from, trail_with, trail_of}
use Rattle.fs_model.specs.Walks.{found_of}
use Rattle.fs_model.specs.Rows.{row_of}
use Rattle.fs_model.specs.Actors.{is_link_node}
use Rattle.fs_model.specs.Steps.{first_found, other_refusal}
use Rattle.fs_model.specs.ActorLaws.{ActorsFollow}
use Rattle.fs_model.proofs.Followed.{NoLink, directory_no_link, followed_from}
use Rattle.fs_model.proofs.StepsOfActors.{start_is_no_link}

-- ---- a path that isn't empty, nor absolute, has a name

has_name : (path : List ℕ) → is_empty path ≡ false → begins_with_slash path ≡ false → is_empty (components_of path) ≡ false
has_name [] some relative = absurd cc
has_name (b ∷ path) some relative =
    ap (λ slashed. is_empty (filter (λ piece. not (is_empty piece)) (cond slashed ([] ∷ slice_split (λ b. b == slash) path) (onto_first b (slice_split (λ b. b == slash) path))))) relative
    ∙ go (slice_split (λ b. b == slash) path)
  where
    go : (pieces : List (List ℕ)) → is_empty (filter (λ piece. not (is_empty piece)) (onto_first b pieces)) ≡ false
    go [] = refl
    go (piece ∷ pieces) = refl

-- ---- from a link no name leads on

link_no_directory : (b : Body) → is_link b ≡ true → is_directory b ≡ false
link_no_directory (File a bytes) h = absurd cc
link_no_directory (Dir a d) h = absurd cc
link_no_directory (Link target) h = refl

module _ (room : Room) (t : Tree) (follow : Bool) where
  lookup_fails : (is_last : Bool) (n : ℕ) (name : List ℕ) (o : Option Node) → is_link_node o ≡ true → looked_up room t is_last follow n name o ≡ Faulty ENOTDIR
  lookup_fails is_last n name None h = absurd cc
  lookup_fails is_last n name (Some node) h =
      ap (λ d. cond (not d) (Faulty ENOTDIR) (cond (nat_lt room.name_limit (length name)) (Faulty ENAMETOOLONG) (arrival t is_last follow (named_inode t n (names_of_body node.body) name))))
      (link_no_directory node.body h)

  names_find_nothing : (behind : Option GoesOn) (start : ℕ) (names : List (List ℕ)) (slash : Bool) → is_link_node (node_at t start) ≡ true → is_empty names ≡ false
      → (lookups_from room t follow behind start names slash).found ≡ None
  names_find_nothing behind start [] slash link some = absurd cc
  names_find_nothing behind start (name ∷ names) slash link some =
      ap (λ o. (onward behind (λ n. lookups_from room t follow behind n names slash) start name names slash o).found)
      (lookup_fails (is_empty names) start name (node_at t start) link)

  links_find_nothing : (links start : ℕ) (names : List (List ℕ)) (slash : Bool) → is_link_node (node_at t start) ≡ true → is_empty names ≡ false
      → (trail_with room t follow links start names slash).found ≡ None
  links_find_nothing zero start names slash link some = names_find_nothing None start names slash link some
  links_find_nothing (suc links) start names slash link some = names_find_nothing (Some (trail_with room t follow links)) start names slash link some

-- ---- a path from any object

no_link_at : (t : Tree) (n : ℕ) → is_link_node (node_at t n) ≡ false → NoLink t n
no_link_at t n none node at = ap is_link_node (sym at) ∙ none

module _ (room : Room) (t : Tree) (is : IsTree room t) (start : ℕ) (path : List ℕ) (n : ℕ) (found : (trail_of room t start Follow path).found ≡ Some n) where
  found_nothing : begins_with_slash path ≡ false → is_link_node (node_at t start) ≡ true → is_empty path ≡ false → (trail_of room t start Follow path).found ≡ None
  unfolding trail_of
  found_nothing relative link some =
      ap (λ b. (trail_with room t true links_limit (cond b root start) (parts_of path).names (parts_of path).slash_at_end).found) relative
      ∙ links_find_nothing room t true links_limit start (parts_of path).names (parts_of path).slash_at_end link (has_name path some relative)

  -- where the start is a link the path isn't empty
  pub from_object : (is_link_node (node_at t start) ≡ true → is_empty path ≡ false) → NoLink t n
  from_object some = go (begins_with_slash path) refl (is_link_node (node_at t start)) refl
    where
      go : (absolute : Bool) → begins_with_slash path ≡ absolute → (link : Bool) → is_link_node (node_at t start) ≡ link → NoLink t n
      go true a link l = followed_from room t is start path (subst (λ b. NoLink t (cond b root start)) (sym a) (directory_no_link t root is.root_is_there)) n found
      go false a false l = followed_from room t is start path (subst (λ b. NoLink t (cond b root start)) (sym a) (no_link_at t start l)) n found
      go false a true l = absurd (let none = found_nothing a l (some l) in let both : None ≡ Some n = sym none ∙ found in cc)

-- ---- an actor's call

pub actors_follow : ActorsFollow
unfolding other_refusal found_of
actors_follow s v call path walks n node is followed other met found at =
    from_object s.room s.tree is.tree v.start path n
    (ap (λ ws. (first_found s.room s.tree v.start ws).ino) (sym followed) ∙ found)
    (λ link. start_is_no_link s v call (row_of call) met path walks followed other link) node at
