-- What a trail finds that follows a link at its end is no link.
use Rattle.std.specs.Prelude.{◌≡◌, ℕ, Bool, true, false, cond, List, Option, None, Some}
use Rattle.std.proofs.Common.{refl, sym, ap, ◌∙◌}
use Rattle.fs_model.specs.Limits.{root, links_limit}
use Rattle.fs_model.specs.Nodes.{Node, Body, File, Dir, Link, is_directory, is_link, names_of_body}
use Rattle.fs_model.specs.Trees.{Tree, Room, node_at, IsTree, IsDirectoryAt}
use Rattle.fs_model.specs.Parts.{Parts, parts_of, start_of}
use Rattle.fs_model.specs.declared.walk.Form.TheVariants.{Follow}
use Rattle.fs_model.specs.Trails.{Outcome, Reaches, reached, reached_body, named_inode, arrival, looked_up, trail_of}
use Rattle.fs_model.proofs.LookedUp.{looked_up_is}
use Rattle.fs_model.proofs.TrailFinds.{finds_such}

-- no link stands at n
abbrev pub NoLink : Tree → ℕ → Type 0
NoLink t n = (node : Node) → node_at t n ≡ Some node → is_link node.body ≡ false

pub directory_no_link : (t : Tree) (n : ℕ) → IsDirectoryAt t n → NoLink t n
directory_no_link t n d node at =
    let same : d.node ≡ node = (let e : Some d.node ≡ Some node = sym d.is_there ∙ at in cc) in
    ap (λ (m : Node). is_link m.body) (sym same) ∙ go d.node.body d.directory
  where
    go : (b : Body) → is_directory b ≡ true → is_link b ≡ false
    go (File a bytes) e = refl
    go (Dir a dir_ino) e = refl
    go (Link target) e = absurd (cc)

module _ (room : Room) (t : Tree) (is : IsTree room t) where
  start_no_link : (parts : Parts) (dir_ino : ℕ) → NoLink t dir_ino → NoLink t (start_of parts dir_ino)
  start_no_link parts dir_ino none = go parts.absolute
    where
      go : (b : Bool) → NoLink t (cond b root dir_ino)
      go true = directory_no_link t root is.root_is_there
      go false = none

  abbrev Reached : Outcome → Type 0
  Reached (Reaches n) = NoLink t n
  Reached _ = Unit {0}

  node_reached : (n : ℕ) (o : Option Node) → node_at t n ≡ o → Reached (reached true n o)
  node_reached n None at = λ node there. absurd (let e : None ≡ Some node = sym at ∙ there in cc)
  node_reached n (Some m) at = go m.body refl
    where
      plain : (b : Body) → m.body ≡ b → is_link b ≡ false → NoLink t n
      plain b e none node there =
          let same : m ≡ node = (let f : Some m ≡ Some node = sym at ∙ there in cc) in
          ap (λ (k : Node). is_link k.body) (sym same) ∙ ap is_link e ∙ none

      go : (b : Body) → m.body ≡ b → Reached (reached_body true n b)
      go (File a bytes) e = plain (File a bytes) e refl
      go (Dir a d) e = plain (Dir a d) e refl
      go (Link target) e = tt

  arrival_reached : (is_last : Bool) (o : Option ℕ) → Reached (arrival t is_last true o)
  arrival_reached true None = tt
  arrival_reached false None = tt
  arrival_reached is_last (Some n) = node_reached n (node_at t n) refl

  lookup_reached : (is_last : Bool) (dir_ino : ℕ) (name : List ℕ) (o : Option Node) → Reached (looked_up room t is_last true dir_ino name o)
  lookup_reached is_last dir_ino name o =
      looked_up_is Reached room t is_last true dir_ino name o tt tt (λ node e. arrival_reached is_last (named_inode t dir_ino (names_of_body node.body) name))

  pub followed_from : (cwd : ℕ) (path : List ℕ) → NoLink t (start_of (parts_of path) cwd) → (n : ℕ) → (trail_of room t cwd Follow path).found ≡ Some n → NoLink t n
  unfolding trail_of
  followed_from cwd path none =
      let parts = parts_of path in
      finds_such room t (NoLink t) start_no_link true (λ is_last dir_ino name at. lookup_reached is_last dir_ino name (node_at t dir_ino)) links_limit
      (start_of parts cwd) parts.names parts.slash_at_end none

  pub followed_no_link : (cwd : ℕ) (path : List ℕ) → IsDirectoryAt t cwd → (n : ℕ) → (trail_of room t cwd Follow path).found ≡ Some n → NoLink t n
  followed_no_link cwd path d = followed_from cwd path (start_no_link (parts_of path) cwd (directory_no_link t cwd d))
