-- What a call finds and asks depends on no byte of a file.
use Rattle.std.specs.Prelude.{◌≡◌, ℕ, zero, suc, ◌==◌, ◌||◌, ◌+◌, Bool, true, false, not, ◌&&◌, cond, List, [], ◌∷◌, length, replicate, Option, None, Some, unwrap_or, count_by}
use Rattle.std.proofs.Common.{refl, sym, ap, ◌∙◌}
use Rattle.std.specs.Option.{option_map}
use Rattle.std.proofs.lemmas.List.{length-replicate}
use Rattle.std.proofs.lemmas.List.Sums.{sum_by-cons}
use Rattle.fs_cred.specs.Credentials.{Credential}
use Rattle.fs_model.specs.Nodes.{Node, Body, File, bytes_in, shown_mode, shown_size, type_of, acl_in, default_in}
use Rattle.fs_model.specs.Trees.{Tree, Room, node_at, names_of, names_for, parent, is_within}
use Rattle.fs_model.specs.Processes.{Process}
use Rattle.fs_model.specs.Limits.{root}
use Rattle.fs_model.specs.Births.{the_node, no_node}
use Rattle.fs_model.specs.States.{State}
use Rattle.fs_model.specs.Alike.{blotted, node_seen, tree_seen, seen_by, sees_into, AreAlike}
use Rattle.fs_model.specs.declared.walk.Form.{Form}
use Rattle.fs_model.specs.Walks.{found_of, first_refusal}
use Rattle.fs_model.specs.Parts.{parts_of, start_of}
use Rattle.fs_model.specs.Scenes.{Scene, Row}
use Rattle.fs_model.specs.declared.event.Actor.{Actor}
use Rattle.fs_model.specs.Actors.{judged_as, start_of_walk}
use Rattle.fs_model.specs.Steps.{walk_refusals, found_by, first_found, second_found, scene_from, scene_of, actor_scene, trail_in}
use Rattle.fs_model.proofs.Veils.{same-blotted, parent-veil, veiled, veil, names_in-blotted, node_at-veil, trail_of-veil, first_refusal-veil}

-- ---- states

abbrev pub veiled_state : State → State
veiled_state s = record s { tree = veil s.tree }

abbrev pub veiled_scene : Scene → Scene
veiled_scene c = record c { state = veiled_state c.state }

pub twice-blotted : (b : Body) → blotted (blotted b) ≡ blotted b
twice-blotted = same-blotted blotted (λ a bytes. ap (λ n. File a (replicate n 0)) (length-replicate (length bytes) 0))

pub veiled-seen : (p : Process) (n : ℕ) (node : Node) → veiled (node_seen p n node) ≡ veiled node
veiled-seen p n node = go (sees_into p n node)
  where
    go : (b : Bool) → veiled (cond b node (veiled node)) ≡ veiled node
    go true = refl
    go false = ap (λ b. record node { body = b }) (twice-blotted node.body)

pub veil-seen : (p : Process) (t : Tree) → veil (tree_seen p t) ≡ veil t
veil-seen p [] = refl
veil-seen p (e ∷ t) = ap (λ x. (e.0, x) ∷ veil (tree_seen p t)) (veiled-seen p e.0 e.1) ∙ ap (λ u. (e.0, veiled e.1) ∷ u) (veil-seen p t)

pub veiled_state-seen : (o : Option Process) (s : State) → veiled_state (seen_by o s) ≡ veiled_state s
veiled_state-seen None s = refl
veiled_state-seen (Some p) s = ap (λ t. record s { tree = t }) (veil-seen p s.tree)

-- alike states are the same but for bytes
pub same_veil : (pid : ℕ) (s t : State) → AreAlike pid s t → veiled_state s ≡ veiled_state t
same_veil pid s t is = sym (veiled_state-seen _ s) ∙ ap veiled_state is.same ∙ veiled_state-seen _ t

-- ---- walks

pub found_by-veil : (room : Room) (t : Tree) (cwd : ℕ) (walk : Form × List ℕ) → found_by room (veil t) cwd walk ≡ found_by room t cwd walk
found_by-veil room t cwd walk = ap (λ trail. found_of trail (start_of (parts_of walk.1) cwd)) (trail_of-veil room t cwd walk.0 walk.1)

pub first_found-veil : (room : Room) (t : Tree) (cwd : ℕ) (walks : List (Form × List ℕ)) → first_found room (veil t) cwd walks ≡ first_found room t cwd walks
first_found-veil room t cwd [] = refl
first_found-veil room t cwd (walk ∷ walks) = found_by-veil room t cwd walk

pub second_found-veil : (room : Room) (t : Tree) (cwd : ℕ) (walks : List (Form × List ℕ)) → second_found room (veil t) cwd walks ≡ second_found room t cwd walks
second_found-veil room t cwd [] = refl
second_found-veil room t cwd (walk ∷ walks) = first_found-veil room t cwd walks

pub walk_refusals-veil : (room : Room) (t : Tree) (cred : Credential) (starts : ℕ → ℕ) (k : ℕ) (walks : List (Form × List ℕ))
    → walk_refusals room (veil t) cred starts k walks ≡ walk_refusals room t cred starts k walks
walk_refusals-veil room t cred starts k [] = refl
walk_refusals-veil room t cred starts k (walk ∷ walks) =
    ap (λ trail. first_refusal (veil t) cred k walk.0 trail ∷ walk_refusals room (veil t) cred starts (k + 1) walks) (trail_of-veil room t (starts k) walk.0 walk.1)
    ∙ ap (λ d. d ∷ walk_refusals room (veil t) cred starts (k + 1) walks) (first_refusal-veil t cred k walk.0 (trail_in room t (starts k) walk))
    ∙ ap (λ ds. first_refusal t cred k walk.0 (trail_in room t (starts k) walk) ∷ ds) (walk_refusals-veil room t cred starts (k + 1) walks)

-- the scene of a call
pub scene_from-veil : (s : State) (p : Process) (starts : ℕ → ℕ) (row : Row) → scene_from (veiled_state s) p starts row ≡ veiled_scene (scene_from s p starts row)
scene_from-veil s p starts row =
    ap (λ f. record { state = veiled_state s; process = p; first = f; second = second_found s.room (veil s.tree) (starts 2) row.walks }) (first_found-veil s.room s.tree (starts 1) row.walks)
    ∙ ap (λ f. record { state = veiled_state s; process = p; first = first_found s.room s.tree (starts 1) row.walks; second = f }) (second_found-veil s.room s.tree (starts 2) row.walks)

pub scene_of-veil : (s : State) (p : Process) (row : Row) → scene_of (veiled_state s) p row ≡ veiled_scene (scene_of s p row)
scene_of-veil s p row = scene_from-veil s p (λ _. p.cwd) row

pub actor_scene-veil : (s : State) (v : Actor) (row : Row) → actor_scene (veiled_state s) v row ≡ veiled_scene (actor_scene s v row)
actor_scene-veil s v row = scene_from-veil s (judged_as v) (start_of_walk v) row

-- ---- what is shown of a node

pub the_node-veil : (t : Tree) (n : ℕ) → the_node (veil t) n ≡ veiled (the_node t n)
the_node-veil t n = ap (λ o. unwrap_or o no_node) (node_at-veil t n) ∙ go (node_at t n)
  where
    go : (o : Option Node) → unwrap_or (option_map veiled o) no_node ≡ veiled (unwrap_or o no_node)
    go None = refl
    go (Some node) = refl

pub names_of-veil : (t : Tree) (n : ℕ) → names_of (veil t) n ≡ names_of t n
names_of-veil [] n = refl
names_of-veil (e ∷ t) n =
    let f : ℕ × Node → ℕ = λ e. names_for n e.1.body in
    sum_by-cons f (e.0, veiled e.1) (veil t)
    ∙ ap (λ ns. count_by (λ q. q.1 == n) ns + names_of (veil t) n) (names_in-blotted e.1.body)
    ∙ ap (λ k. names_for n e.1.body + k) (names_of-veil t n)
    ∙ sym (sum_by-cons f e t)

pub type_of-blotted : (b : Body) → type_of (blotted b) ≡ type_of b
type_of-blotted = same-blotted type_of (λ a bytes. refl)

pub shown_mode-blotted : (b : Body) → shown_mode (blotted b) ≡ shown_mode b
shown_mode-blotted = same-blotted shown_mode (λ a bytes. refl)

pub shown_size-blotted : (b : Body) → shown_size (blotted b) ≡ shown_size b
shown_size-blotted = same-blotted shown_size (λ a bytes. length-replicate (length bytes) 0)

pub size-blotted : (b : Body) → length (bytes_in (blotted b)) ≡ length (bytes_in b)
size-blotted = same-blotted (λ (b : Body). length (bytes_in b)) (λ a bytes. length-replicate (length bytes) 0)

pub acl_in-blotted : (b : Body) → acl_in (blotted b) ≡ acl_in b
acl_in-blotted = same-blotted acl_in (λ a bytes. refl)

pub default_in-blotted : (b : Body) → default_in (blotted b) ≡ default_in b
default_in-blotted = same-blotted default_in (λ a bytes. refl)

pub is_within-veil : (far : ℕ) (t : Tree) (m d : ℕ) → is_within far (veil t) m d ≡ is_within far t m d
is_within-veil zero t m d = refl
is_within-veil (suc far) t m d =
    ap (λ n. d == m || (not (d == root) && is_within far (veil t) m n)) (parent-veil t d)
    ∙ ap (λ b. d == m || (not (d == root) && b)) (is_within-veil far t m (parent t d))

pub length-veil : (t : Tree) → length (veil t) ≡ length t
length-veil [] = refl
length-veil (e ∷ t) = ap suc (length-veil t)
