-- What a process sees of a tree, and of the tree after a change.
use Rattle.std.specs.Prelude.{◌≡◌, ℕ, ◌==◌, Bool, true, false, not, ◌||◌, ◌&&◌, cond, [], ◌∷◌, map, Option, None, Some, unwrap_or}
use Rattle.std.proofs.Common.{refl, sym, ap, ◌∙◌}
use Rattle.std.specs.Option.{option_map}
use Rattle.std.specs.List.{filter, list_any}
use Rattle.std.specs.declared.cmp.Ordering.{Ordering}
use Rattle.std.specs.declared.cmp.Ordering.TheVariants.{Less, Equal, Greater}
use Rattle.std.specs.Ordering.{nat_cmp, is_eq}
use Rattle.std.specs.FinMap.Entries.{by_order}
use Rattle.fs_model.specs.Nodes.{Node, Body, File, Dir, Link}
use Rattle.fs_model.specs.Trees.{Tree, node_at, with_node, names_of}
use Rattle.fs_model.specs.Processes.{Process, ProcessTable}
use Rattle.fs_model.specs.Births.{the_node, no_node}
use Rattle.fs_model.specs.TreeChanges.{swept, lives_nameless}
use Rattle.fs_model.specs.Alike.{blotted, may_read, node_seen, tree_seen, sees_into}
use Rattle.fs_layout.proofs.FirstEntries.{tied}
use Rattle.fs_model.proofs.Veils.{veiled, accessed-blotted}
use Rattle.fs_model.proofs.VeiledScenes.{twice-blotted, veil-seen, names_of-veil}

-- ---- sweeping

filter-map : (f : ℕ × Node → ℕ × Node) (keeps keeps' : ℕ × Node → Bool) → ((e : ℕ × Node) → keeps' (f e) ≡ keeps e)
    → (t : Tree) → filter keeps' (map f t) ≡ map f (filter keeps t)
filter-map f keeps keeps' same [] = refl
filter-map f keeps keeps' same (e ∷ t) =
    ap (λ b. cond b (f e ∷ filter keeps' (map f t)) (filter keeps' (map f t))) (same e) ∙ go (keeps e) (filter-map f keeps keeps' same t)
  where
    go : (b : Bool) → filter keeps' (map f t) ≡ map f (filter keeps t)
        → cond b (f e ∷ filter keeps' (map f t)) (filter keeps' (map f t)) ≡ map f (cond b (e ∷ filter keeps t) (filter keeps t))
    go true h = ap (λ u. f e ∷ u) h
    go false h = h

names_of-seen : (p : Process) (t : Tree) (n : ℕ) → names_of (tree_seen p t) n ≡ names_of t n
names_of-seen p t n = sym (names_of-veil (tree_seen p t) n) ∙ ap (λ u. names_of u n) (veil-seen p t) ∙ names_of-veil t n

lives-seen : (p : Process) (processes : ProcessTable) (n : ℕ) (node : Node) → lives_nameless processes n (node_seen p n node).body ≡ lives_nameless processes n node.body
lives-seen p processes n node = go (sees_into p n node) node.body
  where
    go : (b : Bool) (body : Body) → lives_nameless processes n (cond b (record node { body = body }) (record node { body = blotted body })).body ≡ lives_nameless processes n body
    go true body = refl
    go false (File a bytes) = refl
    go false (Dir a d) = refl
    go false (Link target) = refl

pub swept-seen : (p : Process) (t : Tree) (processes : ProcessTable) → swept (tree_seen p t) processes ≡ tree_seen p (swept t processes)
swept-seen p t processes =
    filter-map (λ e. (e.0, node_seen p e.0 e.1))
    (λ e. not (names_of t e.0 == 0) || lives_nameless processes e.0 e.1.body)
    (λ e. not (names_of (tree_seen p t) e.0 == 0) || lives_nameless processes e.0 e.1.body)
    (λ e. ap (λ k. not (k == 0) || lives_nameless processes e.0 (node_seen p e.0 e.1).body) (names_of-seen p t e.0)
    ∙ ap (λ b. not (names_of t e.0 == 0) || b) (lives-seen p processes e.0 e.1)) t

-- ---- nodes

pub sees-veiled : (p : Process) (n : ℕ) (node : Node) → sees_into p n (veiled node) ≡ sees_into p n node
sees-veiled p n node =
    ap (λ o. node.owner == p.cred.uid || may_read p o || list_any (λ d. d.1.ino == n && d.1.read) p.descriptors)
    (accessed-blotted node.owner node.group node.body)

-- a process that sees no more of a node than another
pub node_seen-less : (p q : Process) (n : ℕ) (node : Node) → (sees_into q n node ≡ true → sees_into p n node ≡ true)
    → node_seen q n (node_seen p n node) ≡ node_seen q n node
node_seen-less p q n node less = go (sees_into p n node) refl
  where
    blind : (b : Bool) → sees_into q n node ≡ b → sees_into p n node ≡ false → cond b (veiled node) (veiled (veiled node)) ≡ cond b node (veiled node)
    blind true e f = let h = less e in absurd cc
    blind false e f = ap (λ b. record node { body = b }) (twice-blotted node.body)

    go : (b : Bool) → sees_into p n node ≡ b → node_seen q n (cond b node (veiled node)) ≡ node_seen q n node
    go true e = refl
    go false e = ap (λ b. cond b (veiled node) (veiled (veiled node))) (sees-veiled q n node) ∙ blind (sees_into q n node) refl e

abbrev pub SeesNoMore : Process → Process → Tree → Type 0
SeesNoMore p q [] = Unit {0}
SeesNoMore p q (e ∷ t) = (sees_into q e.0 e.1 ≡ true → sees_into p e.0 e.1 ≡ true) × SeesNoMore p q t

pub sees_no_more : (p q : Process) → ((n : ℕ) (node : Node) → sees_into q n node ≡ true → sees_into p n node ≡ true) → (t : Tree) → SeesNoMore p q t
sees_no_more p q less [] = tt
sees_no_more p q less (e ∷ t) = (less e.0 e.1, sees_no_more p q less t)

pub tree_seen-less : (p q : Process) (t : Tree) → SeesNoMore p q t → tree_seen q (tree_seen p t) ≡ tree_seen q t
tree_seen-less p q [] less = refl
tree_seen-less p q (e ∷ t) less =
    ap (λ x. (e.0, x) ∷ tree_seen q (tree_seen p t)) (node_seen-less p q e.0 e.1 less.0)
    ∙ ap (λ u. (e.0, node_seen q e.0 e.1) ∷ u) (tree_seen-less p q t less.1)

pub node_at-seen : (p : Process) (t : Tree) (n : ℕ) → node_at (tree_seen p t) n ≡ option_map (node_seen p n) (node_at t n)
node_at-seen p [] n = refl
node_at-seen p (e ∷ t) n = go (is_eq (nat_cmp n e.0)) refl (node_at-seen p t n)
  where
    go : (b : Bool) → is_eq (nat_cmp n e.0) ≡ b → node_at (tree_seen p t) n ≡ option_map (node_seen p n) (node_at t n)
        → cond b (Some (node_seen p e.0 e.1)) (node_at (tree_seen p t) n) ≡ option_map (node_seen p n) (cond b (Some e.1) (node_at t n))
    go true k h = ap (λ m. Some (node_seen p m e.1)) (sym (tied n e.0 k))
    go false k h = h

pub the_node-seen : (p : Process) (t : Tree) (n : ℕ) → the_node (tree_seen p t) n ≡ node_seen p n (the_node t n)
the_node-seen p t n = ap (λ o. unwrap_or o no_node) (node_at-seen p t n) ∙ go (node_at t n)
  where
    bare : (b : Bool) → no_node ≡ cond b no_node (veiled no_node)
    bare true = refl
    bare false = refl

    go : (o : Option Node) → unwrap_or (option_map (node_seen p n) o) no_node ≡ node_seen p n (unwrap_or o no_node)
    go None = bare (sees_into p n no_node)
    go (Some node) = refl

pub with_node-seen : (p : Process) (t : Tree) (n : ℕ) (x : Node) → tree_seen p (with_node t n x) ≡ with_node (tree_seen p t) n (node_seen p n x)
with_node-seen p [] n x = refl
with_node-seen p (e ∷ t) n x = go (nat_cmp n e.0) refl (with_node-seen p t n x)
  where
    go : (o : Ordering) → nat_cmp n e.0 ≡ o → tree_seen p (with_node t n x) ≡ with_node (tree_seen p t) n (node_seen p n x)
        → tree_seen p (by_order o ((n, x) ∷ e ∷ t) ((e.0, x) ∷ t) (e ∷ with_node t n x))
        ≡ by_order o ((n, node_seen p n x) ∷ tree_seen p (e ∷ t)) ((e.0, node_seen p n x) ∷ tree_seen p t) ((e.0, node_seen p e.0 e.1) ∷ with_node (tree_seen p t) n (node_seen p n x))
    go Less c h = refl
    go Equal c h = ap (λ m. (e.0, node_seen p m x) ∷ tree_seen p t) (sym (tied n e.0 (ap is_eq c)))
    go Greater c h = ap (λ u. (e.0, node_seen p e.0 e.1) ∷ u) h
