-- What depends on no byte of a file: a tree with all bytes made zero has the same walks and demands.
use Rattle.std.specs.Prelude.{◌≡◌, ℕ, zero, suc, ◌+◌, ◌==◌, nat_lt, Bool, true, false, not, ◌||◌, ◌&&◌, cond, List, [], ◌∷◌, ◌++◌, length, map, Option, None, Some, is_some, if◌then◌else◌, count_by}
use Rattle.std.proofs.Common.{refl, ap, ◌∙◌}
use Rattle.std.specs.Option.{option_map}
use Rattle.std.specs.Ordering.{nat_cmp, eq_by_cmp}
use Rattle.fs_layout.specs.Maps.{get, name_cmp}
use Rattle.fs_model.specs.Nodes.{Node, Body, File, Dir, Link, directory_in, is_directory, is_link, names_of_body, target_in, accessed_body, accessed}
use Rattle.fs_model.specs.Trees.{Tree, Room, node_at, names_for, parent}
use Rattle.fs_model.specs.Alike.{blotted}
use Rattle.fs_model.specs.Limits.{links_limit}
use Rattle.fs_model.specs.Parts.{parts_of, start_of, is_empty}
use Rattle.fs_cred.specs.declared.errno.Errno.TheVariants.{ENOTDIR, ENAMETOOLONG}
use Rattle.fs_cred.specs.Credentials.{Credential}
use Rattle.fs_model.specs.Demands.{refuse, or_else, failed_with, accessed_at, permission_of, permission_on, search_of, search_on}
use Rattle.fs_model.specs.Walks.{least_refusal, first_refusal, lookup_refusal, slash_refusal, is_nondirectory, is_nondirectory_node, is_parent_form}
use Rattle.posix_acl.specs.AccessList.{AccessList}
use Rattle.posix_acl.specs.declared.entry.Perms.{Perms}
use Rattle.std.specs.Prelude.{option_and_then}
use Rattle.fs_model.specs.Trails.{Lookup, follows_last}
use Rattle.fs_model.specs.declared.walk.Form.{Form}
use Rattle.fs_model.specs.Trails.{is_dot, is_dot_dot, Trail, GoesOn, Outcome, Faulty, Absent, Reaches, Through, looked_up, arrival, named_inode, reached, reached_body, onward, through_if, after_lookup, lookups_from, trail_with, trail_of}

-- all bytes of a file made zero, and of each file
abbrev pub veiled : Node → Node
veiled node = record node { body = blotted node.body }

abbrev pub veil : Tree → Tree
veil t = map (λ e. (e.0, veiled e.1)) t

-- ---- bodies

-- what says nothing of a file's bytes is the same of a body with bytes made zero
pub same-blotted : {X : Type 0} (f : Body → X) → ((a : AccessList) (bytes : List ℕ) → f (blotted (File a bytes)) ≡ f (File a bytes)) → (b : Body) → f (blotted b) ≡ f b
same-blotted f file (File a bytes) = file a bytes
same-blotted f file (Dir a d) = refl
same-blotted f file (Link target) = refl

pub names_in-blotted : (b : Body) → names_of_body (blotted b) ≡ names_of_body b
names_in-blotted = same-blotted names_of_body (λ a bytes. refl)

pub directory_in-blotted : (b : Body) → directory_in (blotted b) ≡ directory_in b
directory_in-blotted = same-blotted directory_in (λ a bytes. refl)

pub is_link-blotted : (b : Body) → is_link (blotted b) ≡ is_link b
is_link-blotted = same-blotted is_link (λ a bytes. refl)

pub target_in-blotted : (b : Body) → target_in (blotted b) ≡ target_in b
target_in-blotted = same-blotted target_in (λ a bytes. refl)

pub accessed-blotted : (u g : ℕ) (b : Body) → accessed_body u g (blotted b) ≡ accessed_body u g b
accessed-blotted u g = same-blotted (accessed_body u g) (λ a bytes. refl)

-- ---- nodes of a tree

pub node_at-veil : (t : Tree) (n : ℕ) → node_at (veil t) n ≡ option_map veiled (node_at t n)
node_at-veil [] n = refl
node_at-veil (e ∷ t) n = go (eq_by_cmp nat_cmp n e.0) (node_at-veil t n)
  where
    go : (b : Bool) → node_at (veil t) n ≡ option_map veiled (node_at t n)
        → cond b (Some (veiled e.1)) (node_at (veil t) n) ≡ option_map veiled (cond b (Some e.1) (node_at t n))
    go true h = refl
    go false h = h

pub parent-veil : (t : Tree) (d : ℕ) → parent (veil t) d ≡ parent t d
parent-veil [] d = refl
parent-veil (e ∷ t) d =
    ap (λ ns. if nat_lt 0 (count_by (λ q. q.1 == d) ns) then e.0 else parent (veil t) d) (names_in-blotted e.1.body)
    ∙ ap (λ p. if nat_lt 0 (names_for d e.1.body) then e.0 else p) (parent-veil t d)

-- ---- trails

named_inode-veil : (t : Tree) (dir_ino : ℕ) (names : List (List ℕ × ℕ)) (name : List ℕ) → named_inode (veil t) dir_ino names name ≡ named_inode t dir_ino names name
named_inode-veil t dir_ino names name =
    ap (λ p. if is_dot name then Some dir_ino else (if is_dot_dot name then Some p else get name_cmp names name)) (parent-veil t dir_ino)

reached-veiled : (follow : Bool) (n : ℕ) (o : Option Node) → reached follow n (option_map veiled o) ≡ reached follow n o
reached-veiled follow n None = refl
reached-veiled follow n (Some node) = go follow node.body
  where
    go : (f : Bool) (b : Body) → reached_body f n (blotted b) ≡ reached_body f n b
    go true (File a bytes) = refl
    go true (Dir a d) = refl
    go true (Link target) = refl
    go false (File a bytes) = refl
    go false (Dir a d) = refl
    go false (Link target) = refl

arrival-veil : (t : Tree) (is_last follow : Bool) (o : Option ℕ) → arrival (veil t) is_last follow o ≡ arrival t is_last follow o
arrival-veil t is_last follow None = refl
arrival-veil t is_last follow (Some n) =
    ap (reached (follow || not is_last) n) (node_at-veil t n) ∙ reached-veiled (follow || not is_last) n (node_at t n)

looked_up-veiled : (room : Room) (t : Tree) (is_last follow : Bool) (dir_ino : ℕ) (name : List ℕ) (o : Option Node)
    → looked_up room (veil t) is_last follow dir_ino name (option_map veiled o) ≡ looked_up room t is_last follow dir_ino name o
looked_up-veiled room t is_last follow dir_ino name None = refl
looked_up-veiled room t is_last follow dir_ino name (Some node) =
    ap (λ o. look (is_some o) (arrival (veil t) is_last follow (named_inode (veil t) dir_ino (names_of_body (blotted node.body)) name))) (directory_in-blotted node.body)
    ∙ ap (λ ns. look (is_directory node.body) (arrival (veil t) is_last follow (named_inode (veil t) dir_ino ns name))) (names_in-blotted node.body)
    ∙ ap (λ o. look (is_directory node.body) (arrival (veil t) is_last follow o)) (named_inode-veil t dir_ino (names_of_body node.body) name)
    ∙ ap (look (is_directory node.body)) (arrival-veil t is_last follow (named_inode t dir_ino (names_of_body node.body) name))
  where
    look : Bool → Outcome → Outcome
    look b o = if not b then Faulty ENOTDIR else (if nat_lt room.name_limit (length name) then Faulty ENAMETOOLONG else o)

pub looked_up-veil : (room : Room) (t : Tree) (is_last follow : Bool) (dir_ino : ℕ) (name : List ℕ)
    → looked_up room (veil t) is_last follow dir_ino name (node_at (veil t) dir_ino) ≡ looked_up room t is_last follow dir_ino name (node_at t dir_ino)
looked_up-veil room t is_last follow dir_ino name =
    ap (looked_up room (veil t) is_last follow dir_ino name) (node_at-veil t dir_ino) ∙ looked_up-veiled room t is_last follow dir_ino name (node_at t dir_ino)

-- what goes on behind a link is the same from everywhere
abbrev pub SameBehind : Option GoesOn → Option GoesOn → Type 0
SameBehind None None = Unit {0}
SameBehind (Some g) (Some h) = (dir_ino : ℕ) (names : List (List ℕ)) (slash : Bool) → g dir_ino names slash ≡ h dir_ino names slash
SameBehind _ _ = ⊥

through-same : (g h : Option GoesOn) → SameBehind g h → (dir_ino : ℕ) (name : List ℕ) (names : List (List ℕ)) (slash : Bool) (target : List ℕ)
    → through_if g dir_ino name names slash target ≡ through_if h dir_ino name names slash target
through-same None None same dir_ino name names slash target = refl
through-same (Some g) (Some h) same dir_ino name names slash target =
    let parts = parts_of target in
    ap (after_lookup dir_ino name) (same (start_of parts dir_ino) (parts.names ++ names) (slash || (is_empty names && parts.slash_at_end)))
through-same None (Some h) same dir_ino name names slash target = absurd same
through-same (Some g) None same dir_ino name names slash target = absurd same

onward-same : (g h : Option GoesOn) → SameBehind g h → (rest rest' : ℕ → Trail) → ((n : ℕ) → rest n ≡ rest' n)
    → (dir_ino : ℕ) (name : List ℕ) (names : List (List ℕ)) (slash : Bool) (o : Outcome)
    → onward g rest dir_ino name names slash o ≡ onward h rest' dir_ino name names slash o
onward-same g h same rest rest' on dir_ino name names slash (Faulty e) = refl
onward-same g h same rest rest' on dir_ino name names slash Absent = refl
onward-same g h same rest rest' on dir_ino name names slash (Reaches n) = ap (after_lookup dir_ino name) (on n)
onward-same g h same rest rest' on dir_ino name names slash (Through target) = through-same g h same dir_ino name names slash target

lookups_from-veil : (room : Room) (t : Tree) (follow : Bool) (g h : Option GoesOn) → SameBehind g h → (names : List (List ℕ)) (dir_ino : ℕ) (slash : Bool)
    → lookups_from room (veil t) follow g dir_ino names slash ≡ lookups_from room t follow h dir_ino names slash
lookups_from-veil room t follow g h same [] dir_ino slash = refl
lookups_from-veil room t follow g h same (name ∷ names) dir_ino slash =
    ap (onward g (λ n. lookups_from room (veil t) follow g n names slash) dir_ino name names slash) (looked_up-veil room t (is_empty names) follow dir_ino name)
    ∙ onward-same g h same (λ n. lookups_from room (veil t) follow g n names slash) (λ n. lookups_from room t follow h n names slash)
    (λ n. lookups_from-veil room t follow g h same names n slash) dir_ino name names slash
    (looked_up room t (is_empty names) follow dir_ino name (node_at t dir_ino))

trail_with-veil : (room : Room) (t : Tree) (follow : Bool) (links dir_ino : ℕ) (names : List (List ℕ)) (slash : Bool)
    → trail_with room (veil t) follow links dir_ino names slash ≡ trail_with room t follow links dir_ino names slash
trail_with-veil room t follow zero dir_ino names slash = lookups_from-veil room t follow None None tt names dir_ino slash
trail_with-veil room t follow (suc links) dir_ino names slash =
    lookups_from-veil room t follow (Some (trail_with room (veil t) follow links)) (Some (trail_with room t follow links))
    (λ dir_ino names slash. trail_with-veil room t follow links dir_ino names slash) names dir_ino slash

pub trail_of-veil : (room : Room) (t : Tree) (cwd : ℕ) (form : Form) (path : List ℕ) → trail_of room (veil t) cwd form path ≡ trail_of room t cwd form path
unfolding trail_of
trail_of-veil room t cwd form path =
    let parts = parts_of path in
    trail_with-veil room t (follows_last form parts) links_limit (start_of parts cwd) parts.names parts.slash_at_end

-- ---- demands on what stands at a number

pub accessed_at-veil : (t : Tree) (n : ℕ) → accessed_at (veil t) n ≡ accessed_at t n
accessed_at-veil t n = ap (option_and_then accessed) (node_at-veil t n) ∙ go (node_at t n)
  where
    go : (o : Option Node) → option_and_then accessed (option_map veiled o) ≡ option_and_then accessed o
    go None = refl
    go (Some node) = accessed-blotted node.owner node.group node.body

pub permission_on-veil : (cred : Credential) (t : Tree) (n : ℕ) (want : Perms) (walk step : ℕ)
    → permission_on cred (veil t) n want walk step ≡ permission_on cred t n want walk step
permission_on-veil cred t n want walk step = ap (permission_of cred want walk step) (accessed_at-veil t n)

pub search_on-veil : (cred : Credential) (t : Tree) (n walk step : ℕ) → search_on cred (veil t) n walk step ≡ search_on cred t n walk step
search_on-veil cred t n walk step = ap (search_of cred walk step) (accessed_at-veil t n)

-- ---- walks

least_refusal-veil : (cred : Credential) (t : Tree) (walk k : ℕ) (lookups : List Lookup)
    → least_refusal cred (veil t) walk k lookups ≡ least_refusal cred t walk k lookups
least_refusal-veil cred t walk k [] = refl
least_refusal-veil cred t walk k (l ∷ lookups) =
    ap (λ d. or_else (or_else d (failed_with l.fault)) (least_refusal cred (veil t) walk (k + 1) lookups)) (search_on-veil cred t l.dir_ino walk k)
    ∙ ap (or_else (lookup_refusal cred t walk k l)) (least_refusal-veil cred t walk (k + 1) lookups)

pub is_nondirectory-veil : (t : Tree) (o : Option ℕ) → is_nondirectory (veil t) o ≡ is_nondirectory t o
is_nondirectory-veil t None = refl
is_nondirectory-veil t (Some n) = ap is_nondirectory_node (node_at-veil t n) ∙ go (node_at t n)
  where
    go : (o : Option Node) → is_nondirectory_node (option_map veiled o) ≡ is_nondirectory_node o
    go None = refl
    go (Some node) = ap (λ o. not (is_some o)) (directory_in-blotted node.body)

pub first_refusal-veil : (t : Tree) (cred : Credential) (walk : ℕ) (form : Form) (trail : Trail)
    → first_refusal (veil t) cred walk form trail ≡ first_refusal t cred walk form trail
unfolding first_refusal
first_refusal-veil t cred walk form trail =
    ap (λ d. or_else d (slash_refusal (veil t) form trail)) (least_refusal-veil cred t walk 0 trail.lookups)
    ∙ ap (λ b. or_else (least_refusal cred t walk 0 trail.lookups) (refuse ENOTDIR (not (is_parent_form form) && trail.slash && b)))
    (is_nondirectory-veil t trail.found)
