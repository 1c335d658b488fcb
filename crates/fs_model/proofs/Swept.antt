-- What a sweep drops leaves a tree a tree, if no directory that is dropped has names.
use Rattle.std.specs.Prelude.{◌≡◌, ℕ, ◌<◌, ◌≤◌, ◌==◌, nat_lt, Bool, true, false, not, ◌&&◌, ◌||◌, cond, List, [], ◌∷◌, Option, Some, None, is_some, sum_by, count_by, IsTrue, if◌then◌else◌}
use Rattle.std.proofs.Common.{refl, sym, ap, arith, ◌∙◌, subst, inl, inr}
use Rattle.std.proofs.lemmas.Bool.Decides.{nat_tests}
use Rattle.std.proofs.lemmas.List.Sums.{sum_by-cons}
use Rattle.std.specs.List.{filter}
use Rattle.std.specs.Ordering.{nat_cmp, is_eq, eq_by_cmp}
use Rattle.std.specs.FinMap.{is_sorted}
use Rattle.std.specs.FinMap.Entries.{below_all}
use Rattle.fs_model.specs.Limits.{root}
use Rattle.fs_layout.specs.Maps.{get, name_cmp, IsMap}
use Rattle.fs_model.specs.Nodes.{Node, Body, File, Dir, Link, names_of_body, is_directory}
use Rattle.fs_model.specs.Trees.{Tree, Room, node_at, names_for, names_of, parent, NamesFit, IsNode, IsTree, IsBody, IsDirectoryAt}
use Rattle.fs_model.specs.Processes.{ProcessTable}
use Rattle.fs_model.specs.TreeChanges.{swept, pruned, lives_nameless}
use Rattle.fs_layout.proofs.FirstEntries.{above, left, right, tied, at_other, at_same, in_rest}
use Rattle.fs_model.proofs.Moves.{fits_room, node_from}
use Rattle.fs_model.proofs.Rewrites.{under}

module _ {X : Type 0} (keeps : ℕ × X → Bool) where
  abbrev pub kept : ℕ → Option X → Option X
  kept n None = None
  kept n (Some x) = cond (keeps (n, x)) (Some x) None

  -- behind a key that rises, nothing stands at it
  absent_behind : (e : ℕ × X) (t : List (ℕ × X)) → IsMap nat_cmp (e ∷ t) → (n : ℕ) → n ≡ e.0 → (r : Option X) → get nat_cmp t n ≡ r → r ≡ None
  absent_behind e t m n here None r = refl
  absent_behind e t m n here (Some x) r = absurd (let low : e.0 < n = above e.0 t (left _ _ m) n x r in omega arith)

  pub get-filter : (t : List (ℕ × X)) → IsMap nat_cmp t → (n : ℕ) → get nat_cmp (filter keeps t) n ≡ kept n (get nat_cmp t n)
  get-filter [] m n = refl
  get-filter (e ∷ t) m n = go (is_eq (nat_cmp n e.0)) refl (keeps e) refl (get-filter t (right _ _ m) n)
    where
      go : (b : Bool) → is_eq (nat_cmp n e.0) ≡ b → (k : Bool) → keeps e ≡ k → get nat_cmp (filter keeps t) n ≡ kept n (get nat_cmp t n)
          → get nat_cmp (cond k (e ∷ filter keeps t) (filter keeps t)) n ≡ kept n (cond b (Some e.1) (get nat_cmp t n))
      go true c true k ih =
          ap (λ b. cond b (Some e.1) (get nat_cmp (filter keeps t) n)) c
          ∙ ap (λ b. cond b (Some e.1) None) (sym (ap (λ q. keeps (q, e.1)) (tied n e.0 c) ∙ k))
      go true c false k ih =
          ih ∙ ap (kept n) (absent_behind e t m n (tied n e.0 c) _ refl)
          ∙ ap (λ b. cond b (Some e.1) None) (sym (ap (λ q. keeps (q, e.1)) (tied n e.0 c) ∙ k))
      go false c true k ih = ap (λ b. cond b (Some e.1) (get nat_cmp (filter keeps t) n)) c ∙ ih
      go false c false k ih = ih

  below-filter : (x : ℕ) (t : List (ℕ × X)) → below_all nat_cmp x t ≡ true → below_all nat_cmp x (filter keeps t) ≡ true
  below-filter x [] h = refl
  below-filter x (e ∷ t) h = go (keeps e) (below-filter x t (right _ _ h))
    where
      go : (k : Bool) → below_all nat_cmp x (filter keeps t) ≡ true → below_all nat_cmp x (cond k (e ∷ filter keeps t) (filter keeps t)) ≡ true
      go true ih = ap (λ b. b && below_all nat_cmp x (filter keeps t)) (left _ _ h) ∙ ih
      go false ih = ih

  pub filter-IsMap : (t : List (ℕ × X)) → IsMap nat_cmp t → IsMap nat_cmp (filter keeps t)
  filter-IsMap [] m = refl
  filter-IsMap (e ∷ t) m = go (keeps e) (filter-IsMap t (right _ _ m))
    where
      go : (k : Bool) → IsMap nat_cmp (filter keeps t) → IsMap nat_cmp (cond k (e ∷ filter keeps t) (filter keeps t))
      go true ih = ap (λ b. b && is_sorted nat_cmp (filter keeps t)) (below-filter e.0 t (left _ _ m)) ∙ ih
      go false ih = ih

  -- what holds at each key of a map, told at its first entry and of the rest
  pub at_first : (P : ℕ → X → Type 0) (e : ℕ × X) (t : List (ℕ × X)) → ((n : ℕ) (x : X) → get nat_cmp (e ∷ t) n ≡ Some x → P n x) → P e.0 e.1
  at_first P e t h = h e.0 e.1 (at_same e t)

  pub at_rest : (P : ℕ → X → Type 0) (e : ℕ × X) (t : List (ℕ × X)) → IsMap nat_cmp (e ∷ t) → ((n : ℕ) (x : X) → get nat_cmp (e ∷ t) n ≡ Some x → P n x)
      → (n : ℕ) (x : X) → get nat_cmp t n ≡ Some x → P n x
  at_rest P e t m h n x g = h n x (at_other e t n (λ same. (let low : e.0 < n = above e.0 t (left _ _ m) n x g in omega arith)) ∙ g)

  -- what is dropped counts nothing
  pub sum-filter : (f : ℕ × X → ℕ) (t : List (ℕ × X)) → IsMap nat_cmp t → ((n : ℕ) (x : X) → get nat_cmp t n ≡ Some x → keeps (n, x) ≡ false → f (n, x) ≡ 0)
      → sum_by f (filter keeps t) ≡ sum_by f t
  sum-filter f [] m none = refl
  sum-filter f (e ∷ t) m none =
      go (keeps e) refl (sum-filter f t (right _ _ m) (at_rest (λ n x. keeps (n, x) ≡ false → f (n, x) ≡ 0) e t m none))
    where
      go : (k : Bool) → keeps e ≡ k → sum_by f (filter keeps t) ≡ sum_by f t → sum_by f (cond k (e ∷ filter keeps t) (filter keeps t)) ≡ sum_by f (e ∷ t)
      go true k ih = omega (arith, sum_by-cons f e t, sum_by-cons f e (filter keeps t), ih)
      go false k ih = let zero_here : f e ≡ 0 = at_first (λ n x. keeps (n, x) ≡ false → f (n, x) ≡ 0) e t none k in omega (arith, sum_by-cons f e t, ih, zero_here)

-- trees whose dropped objects have no names in them
module _ (keeps : ℕ × Node → Bool) (t : Tree) where
  abbrev pub DropsNoNames : Tree → Type 0
  DropsNoNames u = (n : ℕ) (node : Node) → node_at u n ≡ Some node → keeps (n, node) ≡ false → names_of_body node.body ≡ []

  pub names_of-filter : IsMap nat_cmp t → DropsNoNames t → (d : ℕ) → names_of (filter keeps t) d ≡ names_of t d
  names_of-filter m none d =
      sum-filter keeps (λ e. names_for d e.1.body) t m (λ n node e k. ap (λ ns. count_by (λ q. q.1 == d) ns) (none n node e k))

pub parent-filter : (keeps : ℕ × Node → Bool) (t : Tree) → IsMap nat_cmp t → DropsNoNames keeps t t → (d : ℕ) → parent (filter keeps t) d ≡ parent t d
parent-filter keeps [] m none d = refl
parent-filter keeps (e ∷ t) m none d =
    go (keeps e) refl (parent-filter keeps t (right _ _ m) (at_rest keeps (λ n node. keeps (n, node) ≡ false → names_of_body node.body ≡ []) e t m none) d)
  where
    go : (k : Bool) → keeps e ≡ k → parent (filter keeps t) d ≡ parent t d → parent (cond k (e ∷ filter keeps t) (filter keeps t)) d ≡ parent (e ∷ t) d
    go true k ih = ap (λ p. if nat_lt 0 (names_for d e.1.body) then e.0 else p) ih
    go false k ih =
        let empty : names_of_body e.1.body ≡ [] = at_first keeps (λ n node. keeps (n, node) ≡ false → names_of_body node.body ≡ []) e t none k in
        ih ∙ ap (λ ns. if nat_lt 0 (count_by (λ q. q.1 == d) ns) then e.0 else parent t d) (sym empty)

-- a name counts
counted : (ns : List (List ℕ × ℕ)) (name : List ℕ) (n : ℕ) → get name_cmp ns name ≡ Some n → 1 ≤ count_by (λ e. e.1 == n) ns
counted [] name n h = absurd (cc)
counted (e ∷ ns) name n h = go (eq_by_cmp name_cmp name e.0) refl h (λ r. counted ns name n r)
  where
    go : (b : Bool) → eq_by_cmp name_cmp name e.0 ≡ b → cond b (Some e.1) (get name_cmp ns name) ≡ Some n → (get name_cmp ns name ≡ Some n → 1 ≤ count_by (λ e. e.1 == n) ns)
        → 1 ≤ count_by (λ e. e.1 == n) (e ∷ ns)
    go true c r ih =
        let same : e.1 ≡ n = cc in
        let is : (e.1 == n) ≡ true = grind (arith, nat_tests) in
        let one : cond {A = ℕ} (e.1 == n) 1 0 ≡ 1 = ap (λ b. cond {A = ℕ} b 1 0) is in
        omega (arith, sum_by-cons (λ q. cond (q.1 == n) 1 0) e ns, one)
    go false c r ih = omega (arith, sum_by-cons (λ q. cond (q.1 == n) 1 0) e ns, ih r)

-- the names in one directory are among all
among : (t : Tree) (d : ℕ) (node : Node) (n : ℕ) → node_at t d ≡ Some node → names_for n node.body ≤ names_of t n
among [] d node n h = absurd (cc)
among (e ∷ t) d node n h =
    elim (in_rest e t d node h) [
      | inl w ↦ (let same : names_for n node.body ≡ names_for n e.1.body = ap (λ v. names_for n v.body) w.1 in omega (arith, sum_by-cons (λ q. names_for n q.1.body) e t, same))
      | inr w ↦ omega (arith, sum_by-cons (λ q. names_for n q.1.body) e t, among t d node n w)
    ]

-- what a directory names has a name
pub named_once : (t : Tree) (d : ℕ) (node : Node) (name : List ℕ) (n : ℕ) → node_at t d ≡ Some node → get name_cmp (names_of_body node.body) name ≡ Some n
    → 1 ≤ names_of t n
named_once t d node name n at here =
    let one : 1 ≤ names_for n node.body = counted (names_of_body node.body) name n here in
    let all : names_for n node.body ≤ names_of t n = among t d node n at in
    omega (arith, one, all)

-- what a sweep keeps
abbrev pub stays : Tree → ProcessTable → ℕ × Node → Bool
stays t processes e = not (names_of t e.0 == 0) || lives_nameless processes e.0 e.1.body

-- all that a sweep asks of a tree: what stays is right, and what goes has no names in it
pub record MayBeSwept (room : Room) (t : Tree) (processes : ProcessTable) : Type 0 where
  pub numbers : IsMap nat_cmp t
  pub root_is_there : IsDirectoryAt t root
  pub each : (n : ℕ) (node : Node) → node_at t n ≡ Some node → stays t processes (n, node) ≡ true → IsNode room t n node
  pub gone : DropsNoNames (stays t processes) t t

module _ (room : Room) (t : Tree) (processes : ProcessTable) (h : MayBeSwept room t processes) where
  pub at-swept : (n : ℕ) (node : Node) → node_at t n ≡ Some node → stays t processes (n, node) ≡ true → node_at (swept t processes) n ≡ Some node
  at-swept n node e k = get-filter (stays t processes) t h.numbers n ∙ ap (kept (stays t processes) n) e ∙ ap (λ b. cond b (Some node) None) k

  pub named_stays : (n : ℕ) (node : Node) → 1 ≤ names_of t n → stays t processes (n, node) ≡ true
  named_stays n node some = let b : (names_of t n == 0) ≡ false = grind (arith, nat_tests) in ap (λ b. not b || lives_nameless processes n node.body) b

  there : (o : Option Node) → is_some o ≡ true → (node : Node) × (o ≡ Some node)
  there None e = absurd (cc)
  there (Some node) e = (node, refl)

  still_there : (n : ℕ) → is_some (node_at t n) ≡ true → 1 ≤ names_of t n → is_some (node_at (swept t processes) n) ≡ true
  still_there n e some = let found = there (node_at t n) e in ap is_some (at-swept n found.0 found.1 (named_stays n found.0 some))

  body-swept : (d : ℕ) (node : Node) → node_at t d ≡ Some node → (b : Body) → node.body ≡ b → IsBody room t b → IsBody room (swept t processes) b
  body-swept d node e (File a bytes) is w = w
  body-swept d node e (Dir a dir_ino) is w = (
    w.0,
    w.1,
    record {
      names = w.2.names;
      few = w.2.few;
      each = λ name n g.
          let old = w.2.each name n g in
          let here : 1 ≤ names_for n (Dir a dir_ino) = counted dir_ino.names name n g in
          let all : names_for n node.body ≤ names_of t n = among t d node n e in
          let same : names_for n node.body ≡ names_for n (Dir a dir_ino) = ap (names_for n) is in
          let some : 1 ≤ names_of t n = omega arith in
          record { is_name = old.is_name; short = old.short; bytes = old.bytes; leads = (old.leads.0, still_there n old.leads.1 some) };
    },
  )
  body-swept d node e (Link target) is w = w

  root_stays : (b : Body) → IsTrue (is_directory b) → (names_of t root == 0) ≡ true → lives_nameless processes root b ≡ true
  root_stays (File a bytes) d z = absurd (cc)
  root_stays (Dir a dir_ino) d z = refl
  root_stays (Link target) d z = absurd (cc)

  stays-root : stays t processes (root, h.root_is_there.node) ≡ true
  stays-root = go (names_of t root == 0) refl
    where
      go : (b : Bool) → (names_of t root == 0) ≡ b → (not b || lives_nameless processes root h.root_is_there.node.body) ≡ true
      go true z = root_stays h.root_is_there.node.body h.root_is_there.directory z
      go false z = refl

  pub kept_from : (n : ℕ) (node : Node) (o : Option Node) → node_at t n ≡ o → kept (stays t processes) n o ≡ Some node → (o ≡ Some node) × (stays t processes (n, node) ≡ true)
  kept_from n node None e k = absurd (cc)
  kept_from n node (Some v) e k = go (stays t processes (n, v)) refl k
    where
      go : (b : Bool) → stays t processes (n, v) ≡ b → cond b (Some v) None ≡ Some node → (Some v ≡ Some node) × (stays t processes (n, node) ≡ true)
      go true s i = (i, (let same : v ≡ node = cc in ap (λ w. stays t processes (n, w)) (sym same) ∙ s))
      go false s i = absurd (cc)

  pub swept_is_tree : IsTree room (swept t processes)
  swept_is_tree = record {
    numbers = filter-IsMap (stays t processes) t h.numbers;
    root_is_there = record {
      node = h.root_is_there.node;
      is_there = at-swept root h.root_is_there.node h.root_is_there.is_there stays-root;
      directory = h.root_is_there.directory;
    };
    each = λ n node e.
        let was = kept_from n node (node_at t n) refl (sym (get-filter (stays t processes) t h.numbers n) ∙ e) in
        let old = h.each n node was.0 was.1 in
        node_from room (swept t processes) n node (fits_room old) (body-swept n node was.0 node.body refl old.body)
        (subst (NamesFit room n node.body) (sym (names_of-filter (stays t processes) t h.numbers h.gone n)) old.names)
        (λ d. under t (swept t processes) (parent-filter (stays t processes) t h.numbers h.gone) (old.under_root d));
  }

-- nothing that is nameless in a tree, but for the root, has names in it
nameless : (room : Room) (processes : ProcessTable) (n : ℕ) (b : Body) (names : ℕ) → NamesFit room n b names
    → (not (names == 0) || lives_nameless processes n b) ≡ false → names_of_body b ≡ []
nameless room processes n (File a bytes) names fits gone = refl
nameless room processes n (Link target) names fits gone = refl
nameless room processes n (Dir a d) names fits gone = go (n == root) refl fits gone
  where
    go : (b : Bool) → (n == root) ≡ b → names ≡ (if b then 0 else 1) → (not (names == 0) || b) ≡ false → d.names ≡ []
    go true e f g = absurd (let z : (names == 0) ≡ true = grind (arith, nat_tests) in let no : (not (names == 0) || true) ≡ true = ap (λ z. not z || true) z in cc)
    go false e f g = absurd (let z : (names == 0) ≡ false = grind (arith, nat_tests) in let no : (not (names == 0) || false) ≡ true = ap (λ z. not z || false) z in cc)

-- a sweep of a tree, whoever has what open, leaves a tree
pub sweep_keeps : (room : Room) (t : Tree) (processes : ProcessTable) → IsTree room t → IsTree room (swept t processes)
sweep_keeps room t processes h =
    swept_is_tree room t processes (record {
      numbers = h.numbers;
      root_is_there = h.root_is_there;
      each = λ n node e _. h.each n node e;
      gone = λ n node e k. nameless room processes n node.body (names_of t n) (h.each n node e).names k;
    })

-- a tree without its nameless files is a tree
pub pruned_is_tree : (room : Room) (t : Tree) → IsTree room t → IsTree room (pruned t)
pruned_is_tree room t h = sweep_keeps room t [] h

filter_again : (f g : ℕ × Node → Bool) → ((e : ℕ × Node) → f e ≡ g e) → (t : Tree) → filter f (filter g t) ≡ filter g t
filter_again f g same [] = refl
filter_again f g same (e ∷ t) = go (g e) refl (filter_again f g same t)
  where
    go : (b : Bool) → g e ≡ b → filter f (filter g t) ≡ filter g t → filter f (cond b (e ∷ filter g t) (filter g t)) ≡ cond b (e ∷ filter g t) (filter g t)
    go true k ih = ap (λ b. cond b (e ∷ filter f (filter g t)) (filter f (filter g t))) (same e ∙ k) ∙ ap (λ r. e ∷ r) ih
    go false k ih = ih

-- without its nameless files a tree has none
pub pruned_twice : (room : Room) (t : Tree) → IsTree room t → pruned (pruned t) ≡ pruned t
pruned_twice room t h =
    let gone : DropsNoNames (stays t []) t t = λ n node e k. nameless room [] n node.body (names_of t n) (h.each n node e).names k in
    filter_again (stays (pruned t) []) (stays t [])
    (λ e. ap (λ k. not (k == 0) || lives_nameless [] e.0 e.1.body) (names_of-filter (stays t []) t h.numbers gone e.0)) t
