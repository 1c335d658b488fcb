-- What a sweep leaves to those who use a tree: the processes that fit the tree fit it, swept, and the state is a state.
use Rattle.std.specs.Prelude.{◌≡◌, ◌≢◌, ℕ, ◌≤◌, ◌<◌, ◌^◌, ◌==◌, Bool, true, false, not, ◌||◌, cond, List, [], ◌∷◌, length, Option, Some, IsTrue, IsFalse}
use Rattle.std.proofs.Common.{refl, sym, ap, arith, ◌∙◌, inl, inr}
use Rattle.std.proofs.lemmas.Bool.{cases_eq, or_left, or_right}
use Rattle.std.proofs.lemmas.Bool.Decides.{nat_tests}
use Rattle.std.specs.List.{list_any}
use Rattle.std.specs.Ordering.{nat_cmp}
use Rattle.fs_model.specs.Limits.{root, processes_limit}
use Rattle.fs_layout.specs.Maps.{get, IsMap}
use Rattle.fs_model.specs.Nodes.{Node, Body, File, Dir, Link, is_directory, is_link, names_of_body}
use Rattle.fs_model.specs.Trees.{Tree, Room, node_at, names_of, NamesFit, IsTree, IsDirectoryAt}
use Rattle.fs_model.specs.Processes.{ProcessTable, Process, Descriptor, Openings, users, is_open, is_in_use}
use Rattle.fs_model.specs.TreeChanges.{swept, lives_nameless}
use Rattle.fs_model.specs.States.{State, IsRoom, MayBeFree, IsDescriptor, IsProcess, FitsTree, IsState}
use Rattle.fs_layout.proofs.FirstEntries.{in_rest}
use Rattle.fs_model.proofs.Swept.{kept, get-filter, names_of-filter, stays, MayBeSwept, at-swept, kept_from, swept_is_tree}

-- what a step leaves before what nobody can reach leaves the tree: a directory in use stays
pub record MayBeLeft (room : Room) (u : Tree) (processes : ProcessTable) (openings : Openings) : Type 0 where
  pub tree : MayBeSwept room u (users processes openings)
  pub pids : IsMap nat_cmp processes
  pub few : length processes ≤ processes_limit
  pub each_process : (pid : ℕ) (p : Process) → get nat_cmp processes pid ≡ Some p → IsProcess u p
  pub handles : IsMap nat_cmp openings
  pub each_opening : (handle : ℕ) (d : Descriptor) → get nat_cmp openings handle ≡ Some d → IsDescriptor u 0 d
  pub used : (n : ℕ) (node : Node) → node_at u n ≡ Some node → IsTrue (is_directory node.body) → IsTrue (is_in_use (users processes openings) n)
      → stays u (users processes openings) (n, node) ≡ true

-- ---- tests on maps

-- what holds of an entry holds of some
any_entry : {X : Type 0} (f : ℕ × X → Bool) (m : List (ℕ × X)) (k : ℕ) (x : X) → get nat_cmp m k ≡ Some x → f (k, x) ≡ true
    → list_any f m ≡ true
any_entry f [] k x e t = absurd cc
any_entry f (e ∷ m) k x g t = elim (in_rest e m k x g) [
  | inl w ↦
      let same : f (k, x) ≡ f e = ap (λ q. f (q, x)) w.0 ∙ ap (λ v. f (e.0, v)) w.1 in
      or_left (f e) (list_any f m) (sym same ∙ t)
  | inr w ↦ or_right (f e) (list_any f m) (any_entry f m k x w t)
]

same_is : (n : ℕ) → (n == n) ≡ true
same_is n = grind (arith, nat_tests)

-- ---- what is open or in use

open_by : (processes : ProcessTable) (openings : Openings) (pid : ℕ) (p : Process) (fd : ℕ) (d : Descriptor) → get nat_cmp processes pid ≡ Some p
    → get nat_cmp p.descriptors fd ≡ Some d → is_open (users processes openings) d.ino ≡ true
open_by processes openings pid p fd d here there =
    or_right (list_any (λ e. e.1.ino == d.ino) openings) (is_open processes d.ino)
    (any_entry (λ q. list_any (λ e. e.1.ino == d.ino) q.1.descriptors) processes pid p here
    (any_entry (λ e. e.1.ino == d.ino) p.descriptors fd d there (same_is d.ino)))

open_by_handle : (processes : ProcessTable) (openings : Openings) (handle : ℕ) (d : Descriptor) → get nat_cmp openings handle ≡ Some d
    → is_open (users processes openings) d.ino ≡ true
open_by_handle processes openings handle d there =
    or_left (list_any (λ e. e.1.ino == d.ino) openings) (is_open processes d.ino) (any_entry (λ e. e.1.ino == d.ino) openings handle d there (same_is d.ino))

used_if_open : (processes : ProcessTable) (n : ℕ) → is_open processes n ≡ true → is_in_use processes n ≡ true
used_if_open processes n h = or_right (n == root || list_any (λ q. q.1.cwd == n) processes) (is_open processes n) h

used_by : (processes : ProcessTable) (openings : Openings) (pid : ℕ) (p : Process) → get nat_cmp processes pid ≡ Some p
    → is_in_use (users processes openings) p.cwd ≡ true
used_by processes openings pid p here =
    let all = users processes openings in
    or_left (p.cwd == root || list_any (λ q. q.1.cwd == p.cwd) all) (is_open all p.cwd)
    (or_right (p.cwd == root) (list_any (λ q. q.1.cwd == p.cwd) all)
    (or_right (root == p.cwd) (list_any (λ q. q.1.cwd == p.cwd) processes) (any_entry (λ q. q.1.cwd == p.cwd) processes pid p here (same_is p.cwd))))

-- ---- the swept tree

module _ (room : Room) (u : Tree) (processes : ProcessTable) (openings : Openings) (h : MayBeLeft room u processes openings) where
  abbrev all : ProcessTable
  all = users processes openings

  stays_there : (n : ℕ) (node : Node) → node_at u n ≡ Some node → stays u all (n, node) ≡ true → node_at (swept u all) n ≡ Some node
  stays_there = at-swept room u all h.tree

  was_there : (n : ℕ) (node : Node) (o : Option Node) → node_at u n ≡ o → kept (stays u all) n o ≡ Some node
      → stays u all (n, node) ≡ true
  was_there n node o e k = (kept_from room u all h.tree n node o e k).1

  directory_stays : (n : ℕ) → IsDirectoryAt u n → IsTrue (is_in_use all n) → IsDirectoryAt (swept u all) n
  directory_stays n d used = record {
    node = d.node;
    is_there = stays_there n d.node d.is_there (h.used n d.node d.is_there d.directory used);
    directory = d.directory;
  }

  -- a file that is open lives; a directory that is open is in use
  open_stays : (n : ℕ) (node : Node) (b : Body) → node.body ≡ b → node_at u n ≡ Some node → is_open all n ≡ true → IsFalse (is_link b)
      → stays u all (n, node) ≡ true
  open_stays n node (File a bytes) is at opened no_link =
      or_right (not (names_of u n == 0)) (lives_nameless all n node.body) (ap (lives_nameless all n) is ∙ opened)
  open_stays n node (Dir a d) is at opened no_link = h.used n node at (ap is_directory is) (used_if_open all n opened)
  open_stays n node (Link target) is at opened no_link = absurd cc

  descriptor_stays : (fd : ℕ) (d : Descriptor) → IsDescriptor u fd d → is_open all d.ino ≡ true → IsDescriptor (swept u all) fd d
  descriptor_stays fd d x opened = record {
    below = x.below;
    offset = x.offset;
    node = x.node;
    is_there = stays_there d.ino x.node x.is_there (open_stays d.ino x.node x.node.body refl x.is_there opened x.no_link);
    no_link = x.no_link;
    no_writes = x.no_writes;
  }

  process_stays : (pid : ℕ) (p : Process) → get nat_cmp processes pid ≡ Some p → IsProcess (swept u all) p
  process_stays pid p here =
      let x = h.each_process pid p here in
      record {
        cred = x.cred;
        umask = x.umask;
        cwd = directory_stays p.cwd x.cwd (used_by processes openings pid p here);
        descriptors = x.descriptors;
        each = λ fd d there. descriptor_stays fd d (x.each fd d there) (open_by processes openings pid p fd d here there);
      }

  nameless_lives : (n : ℕ) (b : Body) (names : ℕ) → names ≡ 0 → n ≢ root → (not (names == 0) || lives_nameless all n b) ≡ true
      → IsTrue (is_open all n)
  nameless_lives n b names none ne k =
      let zero : (names == 0) ≡ true = grind (arith, nat_tests) in
      let other : (n == root) ≡ false = grind (arith, nat_tests) in
      let lives : lives_nameless all n b ≡ true = sym (ap (λ z. not z || lives_nameless all n b) zero) ∙ k in
      go b other lives
    where
      go : (b : Body) → (n == root) ≡ false → lives_nameless all n b ≡ true → IsTrue (is_open all n)
      go (File a bytes) other lives = lives
      go (Dir a d) other lives = absurd cc
      go (Link target) other lives = absurd cc

  swept_fits : FitsTree (swept u all) processes openings
  swept_fits = record {
    each_process = process_stays;
    each_opening = λ handle d there. descriptor_stays 0 d (h.each_opening handle d there) (open_by_handle processes openings handle d there);
    nameless = λ n node at none ne.
        let stood = was_there n node (node_at u n) refl (sym (get-filter (stays u all) u h.tree.numbers n) ∙ at) in
        let names : names_of u n ≡ 0 = sym (names_of-filter (stays u all) u h.tree.numbers h.tree.gone n) ∙ none in
        nameless_lives n node.body (names_of u n) names ne stood;
  }

-- the state that is left
pub left_is_state : (s : State) (u : Tree) (processes : ProcessTable) (openings : Openings) (free : ℕ) → IsRoom s.room → s.now < 2 ^ 64
    → MayBeLeft s.room u processes openings → MayBeFree s.room (swept u (users processes openings)) free
    → IsState (record s { tree = swept u (users processes openings); processes = processes; openings = openings; free = free })
left_is_state s u processes openings free room small h may = record {
  room = room;
  tree = swept_is_tree s.room u (users processes openings) h.tree;
  pids = h.pids;
  few = h.few;
  handles = h.handles;
  free = may;
  now = small;
  processes = λ runs. swept_fits s.room u processes openings h;
}

-- ---- where the tree is one before the sweep

-- a directory has a name, or is the root
directory_lives : (room : Room) (processes : ProcessTable) (n : ℕ) (b : Body) (names : ℕ) → NamesFit room n b names → IsTrue (is_directory b)
    → (not (names == 0) || lives_nameless processes n b) ≡ true
directory_lives room processes n (File a bytes) names fits d = absurd cc
directory_lives room processes n (Link target) names fits d = absurd cc
directory_lives room processes n (Dir a dir_ino) names fits d = elim (cases_eq n root) [
  | inl e ↦ or_right (not (names == 0)) (n == root) (let k : (n == root) ≡ true = grind (arith, nat_tests) in k)
  | inr ne ↦
      let other : (n == root) ≡ false = grind (arith, nat_tests) in
      let one : names ≡ 1 = fits ∙ ap (λ q. cond q 0 1) other in
      let some : (names == 0) ≡ false = grind (arith, nat_tests) in
      ap (λ z. not z || n == root) some
]

-- what goes has no names in it
goes_empty : (room : Room) (processes : ProcessTable) (n : ℕ) (b : Body) (names : ℕ) → NamesFit room n b names → (not (names == 0) || lives_nameless processes n b) ≡ false
    → names_of_body b ≡ []
goes_empty room processes n (File a bytes) names fits gone = refl
goes_empty room processes n (Link target) names fits gone = refl
goes_empty room processes n (Dir a d) names fits gone =
    absurd (let lives : (not (names == 0) || n == root) ≡ true = directory_lives room processes n (Dir a d) names fits refl in cc)

pub tree_may_be_swept : (room : Room) (t : Tree) (processes : ProcessTable) → IsTree room t → MayBeSwept room t processes
tree_may_be_swept room t processes is = record {
  numbers = is.numbers;
  root_is_there = is.root_is_there;
  each = λ n node e _. is.each n node e;
  gone = λ n node e k. goes_empty room processes n node.body (names_of t n) (is.each n node e).names k;
}

pub tree_may_be_left : (room : Room) (u : Tree) (processes : ProcessTable) (openings : Openings) → IsTree room u → IsMap nat_cmp processes
    → length processes ≤ processes_limit → ((pid : ℕ) (p : Process) → get nat_cmp processes pid ≡ Some p → IsProcess u p)
    → IsMap nat_cmp openings → ((handle : ℕ) (d : Descriptor) → get nat_cmp openings handle ≡ Some d → IsDescriptor u 0 d)
    → MayBeLeft room u processes openings
tree_may_be_left room u processes openings is pids few each_process handles each_opening = record {
  tree = tree_may_be_swept room u (users processes openings) is;
  pids = pids;
  few = few;
  each_process = each_process;
  handles = handles;
  each_opening = each_opening;
  used = λ n node at d _. directory_lives room (users processes openings) n node.body (names_of u n) (is.each n node at).names d;
}
