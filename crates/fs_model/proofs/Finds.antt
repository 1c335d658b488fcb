-- What a trail finds is in the tree.
use Rattle.std.specs.Prelude.{◌≡◌, ◌≢◌, ℕ, nat_lt, Bool, true, false, not, ◌||◌, cond, List, [], ◌∷◌, Option, None, Some, is_some, IsTrue}
use Rattle.std.proofs.Common.{refl, ap, ◌∙◌, subst, inl, inr}
use Rattle.std.proofs.lemmas.Bool.{cases_eq}
use Rattle.std.specs.Ordering.{nat_cmp}
use Rattle.fs_model.specs.Limits.{root, links_limit}
use Rattle.fs_layout.specs.Maps.{get, name_cmp, IsMap}
use Rattle.fs_model.specs.Nodes.{Node, Body, File, Dir, Link, names_of_body}
use Rattle.fs_model.specs.Trees.{Tree, Room, node_at, names_for, parent, IsTree, IsBody}
use Rattle.fs_model.specs.Parts.{Parts, parts_of, start_of}
use Rattle.fs_model.specs.declared.walk.Form.{Form}
use Rattle.fs_model.specs.Trails.{Outcome, Reaches, reached, reached_body, named_inode, arrival, looked_up, is_dot, is_dot_dot, trail_of, follows_last}
use Rattle.fs_layout.proofs.FirstEntries.{at_same, at_other, right}
use Rattle.fs_model.proofs.LookedUp.{looked_up_is}
use Rattle.fs_model.proofs.TrailFinds.{finds_such}

abbrev pub IsThere : Tree → ℕ → Type 0
IsThere t n = IsTrue (is_some (node_at t n))

-- the directory that names something is there, unless it is the root for want of one
named_by : (t : Tree) (d : ℕ) → IsMap nat_cmp t → (parent t d ≢ root) → IsThere t (parent t d)
named_by [] d m ne = absurd (ne refl)
named_by (e ∷ t) d m ne = go (nat_lt 0 (names_for d e.1.body)) ne (λ k. named_by t d (right _ _ m) k)
  where
    go : (b : Bool) → cond b e.0 (parent t d) ≢ root → (parent t d ≢ root → IsThere t (parent t d)) → IsThere (e ∷ t) (cond b e.0 (parent t d))
    go true ne rest = ap is_some (at_same e t)
    go false ne rest =
        let below = rest ne in
        elim (cases_eq (parent t d) e.0) [
          | inl same ↦ ap (λ k. is_some (node_at (e ∷ t) k)) same ∙ ap is_some (at_same e t)
          | inr other ↦ ap is_some (at_other e t (parent t d) other) ∙ below
        ]

module _ (room : Room) (t : Tree) (is : IsTree room t) where
  root_there : IsThere t root
  root_there = ap is_some is.root_is_there.is_there

  parent_there : (d : ℕ) → IsThere t (parent t d)
  parent_there d = elim (cases_eq (parent t d) root) [
    | inl e ↦ ap (λ k. is_some (node_at t k)) e ∙ root_there
    | inr ne ↦ named_by t d is.numbers ne
  ]

  pub start_there : (parts : Parts) (dir_ino : ℕ) → IsThere t dir_ino → IsThere t (start_of parts dir_ino)
  start_there parts dir_ino there = go parts.absolute
    where
      go : (b : Bool) → IsThere t (cond b root dir_ino)
      go true = root_there
      go false = there

  -- a name in a directory leads to something
  entry_there : (b : Body) (name : List ℕ) (n : ℕ) → IsBody room t b → get name_cmp (names_of_body b) name ≡ Some n → IsThere t n
  entry_there (File a bytes) name n h e = absurd cc
  entry_there (Dir a d) name n h e = (h.2.each name n e).leads.1
  entry_there (Link target) name n h e = absurd cc

  pub number_there : (dir_ino : ℕ) (node : Node) (name : List ℕ) (n : ℕ) → node_at t dir_ino ≡ Some node
      → named_inode t dir_ino (names_of_body node.body) name ≡ Some n → IsThere t n
  number_there dir_ino node name n at e = go (is_dot name) (is_dot_dot name) e
    where
      go : (dot dots : Bool) → cond dot (Some dir_ino) (cond dots (Some (parent t dir_ino)) (get name_cmp (names_of_body node.body) name)) ≡ Some n → IsThere t n
      go true dots f = let same : dir_ino ≡ n = cc in subst (IsThere t) same (ap is_some at)
      go false true f = let same : parent t dir_ino ≡ n = cc in subst (IsThere t) same (parent_there dir_ino)
      go false false f = entry_there node.body name n (is.each dir_ino node at).body f

  -- what is reached is there
  abbrev pub Reached : Outcome → Type 0
  Reached (Reaches n) = IsThere t n
  Reached _ = Unit {0}

  body_reached : (follow : Bool) (n : ℕ) (b : Body) → IsThere t n → Reached (reached_body follow n b)
  body_reached true n (File a bytes) there = there
  body_reached true n (Dir a d) there = there
  body_reached true n (Link target) there = tt
  body_reached false n (File a bytes) there = there
  body_reached false n (Dir a d) there = there
  body_reached false n (Link target) there = there

  node_reached : (follow : Bool) (n : ℕ) (o : Option Node) → IsThere t n → Reached (reached follow n o)
  node_reached follow n None there = there
  node_reached follow n (Some node) there = body_reached follow n node.body there

  arrival_reached : (is_last follow : Bool) (o : Option ℕ) → ((n : ℕ) → o ≡ Some n → IsThere t n) → Reached (arrival t is_last follow o)
  arrival_reached true follow None h = tt
  arrival_reached false follow None h = tt
  arrival_reached is_last follow (Some n) h = node_reached (follow || not is_last) n (node_at t n) (h n refl)

  pub lookup_reached : (is_last follow : Bool) (dir_ino : ℕ) (name : List ℕ) (o : Option Node) → node_at t dir_ino ≡ o
      → Reached (looked_up room t is_last follow dir_ino name o)
  lookup_reached is_last follow dir_ino name o at = looked_up_is Reached room t is_last follow dir_ino name o tt tt (λ node e.
      arrival_reached is_last follow (named_inode t dir_ino (names_of_body node.body) name) (λ n f. number_there dir_ino node name n (at ∙ e) f))

  -- what the trail found is there
  pub finds_are_there : (cwd : ℕ) (form : Form) (path : List ℕ) → IsThere t cwd → (n : ℕ) → (trail_of room t cwd form path).found ≡ Some n → IsThere t n
  unfolding trail_of
  finds_are_there cwd form path there =
      let parts = parts_of path in
      let follow = follows_last form parts in
      finds_such room t (IsThere t) start_there follow (λ is_last dir_ino name at. lookup_reached is_last follow dir_ino name (node_at t dir_ino) refl) links_limit
      (start_of parts cwd) parts.names parts.slash_at_end (start_there parts cwd there)
