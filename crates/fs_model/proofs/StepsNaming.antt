-- A directory with other names in it.
use Rattle.std.specs.Prelude.{◌≡◌, ◌≢◌, ℕ, ◌+◌, ◌≤◌, cond, List, length, Some, is_some, IsTrue}
use Rattle.std.proofs.Common.{refl, sym, ap, subst, arith, ◌∙◌, inl, inr}
use Rattle.std.proofs.lemmas.Bool.{cases_eq}
use Rattle.std.specs.Ordering.{nat_cmp}
use Rattle.fs_layout.specs.Maps.{get, name_cmp, IsMap}
use Rattle.fs_model.specs.Nodes.{Node, Body, File, Dir, Link, is_directory, names_of_body, with_names, type_of}
use Rattle.fs_model.specs.Trees.{Tree, Room, node_at, with_node, names_for, names_of, IsEntry, IsBody}
use Rattle.fs_layout.proofs.FirstEntries.{ties, apart}
use Rattle.fs_model.proofs.Finds.{IsThere}
use Rattle.fs_layout.proofs.MapLaws.{get-with_entry, sum-with_entry, summand}
use Rattle.fs_layout.proofs.NameMaps.{Names, leading}
use Rattle.fs_model.proofs.StepsKinds.{KeepsTypes, replaced_keeps_types}
use Rattle.fs_model.proofs.StepsParents.{names_or, names_at}

abbrev pub renamed_node : Node → Names → Node
renamed_node node names = record node { body = with_names names node.body }

abbrev pub renamed : Tree → ℕ → Node → Names → Tree
renamed t dir_ino node names = with_node t dir_ino (renamed_node node names)

pub type_with_names : (names : Names) (b : Body) → type_of (with_names names b) ≡ type_of b
type_with_names names (File a s) = refl
type_with_names names (Dir a d) = refl
type_with_names names (Link target) = refl

pub names_with_names : (names : Names) (b : Body) → IsTrue (is_directory b) → names_of_body (with_names names b) ≡ names
names_with_names names (File a s) d = absurd cc
names_with_names names (Dir a dir_ino) d = refl
names_with_names names (Link target) d = absurd cc

-- ---- what stands where

module _ (t : Tree) (k : ℕ) (node : Node) where
  pub at_it : node_at (with_node t k node) k ≡ Some node
  at_it = get-with_entry t k node k ∙ ap (λ b. cond b (Some node) (node_at t k)) (ties k k refl)

  pub at_others : (m : ℕ) → m ≢ k → node_at (with_node t k node) m ≡ node_at t m
  at_others m ne = get-with_entry t k node m ∙ ap (λ b. cond b (Some node) (node_at t m)) (apart m k ne)

  pub still_there : (m : ℕ) → IsThere t m → IsThere (with_node t k node) m
  still_there m there = elim (cases_eq m k) [
    | inl e ↦ ap (λ q. is_some (node_at (with_node t k node) q)) e ∙ ap is_some at_it
    | inr ne ↦ ap is_some (at_others m ne) ∙ there
  ]

module _ (t : Tree) (dir_ino : ℕ) (node : Node) (names : Names) (directory : IsTrue (is_directory node.body)) where
  pub names_there : names_at (renamed t dir_ino node names) dir_ino ≡ names
  names_there = ap names_or (at_it t dir_ino (renamed_node node names)) ∙ names_with_names names node.body directory

  pub names_elsewhere : (k : ℕ) → k ≢ dir_ino → names_at (renamed t dir_ino node names) k ≡ names_at t k
  names_elsewhere k ne = ap names_or (at_others t dir_ino (renamed_node node names) k ne)

  -- a node that those of a directory led to, which has other names now
  pub leading_stays : (was : Tree) (x k : ℕ) → k ≡ dir_ino → node_at was dir_ino ≡ Some node → (1 ≤ leading x (names_of_body node.body) → 1 ≤ leading x names)
      → 1 ≤ leading x (names_at was k) → 1 ≤ leading x (names_at (renamed t dir_ino node names) k)
  leading_stays was x k e stands more some =
      let before : leading x (names_at was k) ≡ leading x (names_of_body node.body) = ap (leading x) (ap (names_at was) e ∙ ap names_or stands) in
      let after : leading x (names_at (renamed t dir_ino node names) k) ≡ leading x names = ap (leading x) (ap (names_at (renamed t dir_ino node names)) e ∙ names_there) in
      subst (λ q. 1 ≤ q) (sym after) (more (subst (λ q. 1 ≤ q) before some))

  -- how many names lead to a node
  pub names_of-renamed : IsMap nat_cmp t → node_at t dir_ino ≡ Some node → (x : ℕ)
      → names_of (renamed t dir_ino node names) x + leading x (names_of_body node.body) ≡ names_of t x + leading x names
  names_of-renamed m at x =
      let f : ℕ × Node → ℕ = λ e. names_for x e.1.body in
      let new : f (dir_ino, renamed_node node names) ≡ leading x names = ap (leading x) (names_with_names names node.body directory) in
      let old : summand f dir_ino (get nat_cmp t dir_ino) ≡ leading x (names_of_body node.body) = ap (summand f dir_ino) at in
      omega (arith, sum-with_entry f t dir_ino (renamed_node node names) m, new, old)

pub renamed_keeps_types : (t : Tree) (dir_ino : ℕ) (node : Node) (names : Names) → node_at t dir_ino ≡ Some node
    → KeepsTypes t (renamed t dir_ino node names)
renamed_keeps_types t dir_ino node names at =
    replaced_keeps_types t dir_ino node (renamed_node node names) at (type_with_names names node.body)

pub types_compose : (t u v : Tree) → KeepsTypes t u → KeepsTypes u v → KeepsTypes t v
types_compose t u v first second n node at =
    let a = first n node at in
    let b = second n a.node a.is_there in
    record { node = b.node; is_there = b.is_there; same = b.same ∙ a.same }

-- ---- a node, whoever names it

-- what a directory may have for names
pub record AreNames (room : Room) (u : Tree) (names : Names) : Type 0 where
  pub rising : IsMap name_cmp names
  pub few : length names ≤ room.entries_limit
  pub each : (name : List ℕ) (n : ℕ) → get name_cmp names name ≡ Some n → IsEntry room u name n

pub body_renamed : (room : Room) (t u : Tree) (b : Body) (names : Names) → IsTrue (is_directory b) → AreNames room u names → IsBody room t b
    → IsBody room u (with_names names b)
body_renamed room t u (File a s) names d are is = absurd cc
body_renamed room t u (Dir a dir_ino) names d are is = (is.0, is.1, record { names = are.rising; few = are.few; each = are.each })
body_renamed room t u (Link target) names d are is = absurd cc

-- the names of a directory in a tree
pub are_names : (room : Room) (t : Tree) (b : Body) → IsBody room t b → AreNames room t (names_of_body b)
are_names room t (File a s) is = record { rising = refl; few = omega arith; each = λ name n e. absurd cc }
are_names room t (Dir a d) is = record { rising = is.2.names; few = is.2.few; each = is.2.each }
are_names room t (Link target) is = record { rising = refl; few = omega arith; each = λ name n e. absurd cc }
