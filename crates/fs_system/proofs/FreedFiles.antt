-- A tree that loses its files without names one after another.
--     pruned_of_swept        whatever a sweep leaves, without its nameless files it is the same
--     named_first, named_all        before the first number, and after the last
--     IsFreed, freed        the tree after one number
use Rattle.std.specs.Prelude.{◌≡◌, ◌≢◌, ℕ, zero, suc, ◌+◌, ◌<◌, ◌≤◌, ◌==◌, Bool, true, false, not, ◌||◌, cond, List, [], ◌∷◌, if◌then◌else◌, Option, None, Some}
use Rattle.std.proofs.Common.{refl, sym, ap, subst, arith, ◌∙◌, inl, inr}
use Rattle.std.proofs.lemmas.Bool.{cases_eq, eq-eqb, ne_eqb, or_right}
use Rattle.std.specs.List.{filter, list_any}
use Rattle.posix_acl.specs.AccessList.{AccessList}
use Rattle.fs_layout.specs.declared.inode.Inode.{Inode}
use Rattle.fs_layout.specs.declared.geometry.Geometry.{Geometry}
use Rattle.fs_layout.specs.Bytes.{SectorMap}
use Rattle.fs_layout.specs.Images.{inode_at}
use Rattle.fs_layout.specs.Inode.{free_inode}
use Rattle.sector_txn.specs.Sectors.{TxnState, IsUnchanged}
use Rattle.fs_cred.specs.Credentials.{usual_credential}
use Rattle.fs_model.specs.TreeChanges.{pruned, swept, lives_nameless}
use Rattle.fs_model.specs.Limits.{root}
use Rattle.fs_model.specs.Nodes.{Node, Body, File, Dir, Link}
use Rattle.fs_model.specs.Processes.{Descriptor, ProcessTable, new_process, is_open}
use Rattle.fs_model.specs.Stands.{HoldsPlaced, HoldsAll, placed, room_of}
use Rattle.fs_model.specs.StoredNodes.{names_field}
use Rattle.fs_model.specs.Trees.{Tree, Room, node_at, names_of, parent, NamesFit, IsTree}
use Rattle.fs_model.proofs.OneNode.{body_not_free}
use Rattle.fs_model.proofs.PlacedClosings.{close_drop_held}
use Rattle.fs_model.proofs.PlacedNodes.{same_placed, placed_from, placed_none, placed_stays}
use Rattle.fs_model.proofs.StepsSwept.{tree_may_be_swept}
use Rattle.fs_model.proofs.Swept.{DropsNoNames, stays, kept_from, get-filter, names_of-filter, sweep_keeps}
use Rattle.fs_model.proofs.Unchanged.{fitting_stays, root_directory, open_stays}
use Rattle.path_walk.specs.HeldTrees.{HoldsTree}
use Rattle.path_walk.proofs.HeldNodes.{held_node}
use Rattle.path_walk.proofs.Kept.{kept}
use Rattle.call_parts.specs.Dropping.{LeavesInode, stays_open, has_name, was_free, goes}
use Rattle.fs_system.specs.Sweeping.{IsNamedBelow}

-- ---- without nameless files

-- what passes one filter passes the other
filter_within : (f g h : ℕ × Node → Bool) → ((e : ℕ × Node) → f e ≡ h e) → ((e : ℕ × Node) → h e ≡ true → g e ≡ true) → (t : Tree) → filter f (filter g t) ≡ filter h t
filter_within f g h same within [] = refl
filter_within f g h same within (e ∷ t) = go (g e) refl (h e) refl (filter_within f g h same within t)
  where
    go : (b : Bool) → g e ≡ b → (c : Bool) → h e ≡ c → filter f (filter g t) ≡ filter h t
        → filter f (cond b (e ∷ filter g t) (filter g t)) ≡ cond c (e ∷ filter h t) (filter h t)
    go true k true l ih = ap (λ b. cond b (e ∷ filter f (filter g t)) (filter f (filter g t))) (same e ∙ l) ∙ ap (λ r. e ∷ r) ih
    go true k false l ih = ap (λ b. cond b (e ∷ filter f (filter g t)) (filter f (filter g t))) (same e ∙ l) ∙ ih
    go false k true l ih = absurd (let both : false ≡ true = sym k ∙ within e l in cc)
    go false k false l ih = ih

-- what lives without a name where nothing is open lives whatever is open
lives_still : (processes : ProcessTable) (n : ℕ) (b : Body) (named : Bool) → (named || lives_nameless [] n b) ≡ true → (named || lives_nameless processes n b) ≡ true
lives_still processes n b true stay = refl
lives_still processes n (File a bytes) false stay = absurd cc
lives_still processes n (Dir a d) false stay = stay
lives_still processes n (Link target) false stay = stay

pub pruned_of_swept : (room : Room) (t : Tree) (processes : ProcessTable) → IsTree room t → pruned (swept t processes) ≡ pruned t
pruned_of_swept room t processes is =
    filter_within (stays (swept t processes) []) (stays t processes) (stays t [])
    (λ e. ap (λ k. not (k == 0) || lives_nameless [] e.0 e.1.body)
    (names_of-filter (stays t processes) t is.numbers (tree_may_be_swept room t processes is).gone e.0))
    (λ e stay. lives_still processes e.0 e.1.body (not (names_of t e.0 == 0)) stay) t

-- ---- the first number and the last

pub named_first : (room : Room) (t : Tree) → IsTree room t → IsNamedBelow 2 t
named_first room t is n node at none ne = let positive = (is.each n node at).positive in omega (arith, positive, ne)

pub named_all : (room : Room) (t : Tree) (k : ℕ) → IsTree room t → room.inodes ≤ k → IsNamedBelow k t → pruned t ≡ t
named_all room t k is all named = open_stays room t [] [] [] is (record {
  each_process = λ pid q there. absurd cc;
  each_opening = λ handle d there. absurd cc;
  nameless = λ n node at none ne.
      let low = (is.each n node at).below in
      let high = named n node at none ne in
      absurd (omega (arith, low, high, all));
}) (λ n still. still)

-- ---- a table in which all is open but for one number

abbrev file_of : ℕ → ℕ × Descriptor
file_of m = (m, record { ino = m; offset = 0; read = false; write = false; append = false })

-- the numbers below k, without n
files_but : ℕ → ℕ → List (ℕ × Descriptor)
files_but zero n = []
files_but (suc k) n = if k == n then files_but k n else file_of k ∷ files_but k n

abbrev has : ℕ → List (ℕ × Descriptor) → Bool
has m ds = list_any (λ d. d.1.ino == m) ds

has_others : (k n m : ℕ) → m < k → m ≢ n → has m (files_but k n) ≡ true
unfolding files_but
has_others zero n m low ne = absurd (omega (arith, low))
has_others (suc k) n m low ne = elim (cases_eq k m) [
  | inl e ↦
      ap (λ b. has m (cond b (files_but k n) (file_of k ∷ files_but k n))) (ne_eqb k n (λ same. ne (sym e ∙ same)))
      ∙ ap (λ b. b || has m (files_but k n)) (eq-eqb k m e)
  | inr other ↦ go (k == n) (has_others k n m (omega (arith, low, other)) ne)
]
  where
    go : (b : Bool) → has m (files_but k n) ≡ true → has m (cond b (files_but k n) (file_of k ∷ files_but k n)) ≡ true
    go true ih = ih
    go false ih = or_right (k == m) (has m (files_but k n)) ih

has_not : (k n : ℕ) → has n (files_but k n) ≡ false
unfolding files_but
has_not zero n = refl
has_not (suc k) n = go (k == n) refl (has_not k n)
  where
    go : (b : Bool) → (k == n) ≡ b → has n (files_but k n) ≡ false → has n (cond b (files_but k n) (file_of k ∷ files_but k n)) ≡ false
    go true e ih = ih
    go false e ih = ap (λ b. b || has n (files_but k n)) e ∙ ih

-- one process has them open
abbrev table_of : List (ℕ × Descriptor) → ProcessTable
table_of ds = (1, record (new_process (usual_credential 0 0 [])) { descriptors = ds }) ∷ []

-- the numbers below k without n, and with it
abbrev all_but : ℕ → ℕ → ProcessTable
all_but k n = table_of (files_but k n)

abbrev all_with : ℕ → ℕ → ProcessTable
all_with k n = table_of (file_of n ∷ files_but k n)

-- ---- one file goes

module _ (room : Room) (t : Tree) (is : IsTree room t) (n : ℕ) where
  abbrev now : ProcessTable
  now = all_but room.inodes n

  abbrev was : ProcessTable
  was = all_with room.inodes n

  closed : is_open now n ≡ false
  closed = ap (λ b. b || false) (has_not room.inodes n)

  others : (m : ℕ) → m ≢ n → is_open now m ≡ is_open was m
  others m ne = sym (ap (λ b. (b || has m (files_but room.inodes n)) || false) (ne_eqb n m (λ e. ne (sym e))))

  opened : (m : ℕ) → m < room.inodes → is_open was m ≡ true
  opened m low = elim (cases_eq n m) [
    | inl e ↦ ap (λ b. (b || has m (files_but room.inodes n)) || false) (eq-eqb n m e)
    | inr ne ↦ ap (λ b. b || false) (or_right (n == m) (has m (files_but room.inodes n)) (has_others room.inodes n m low (λ e. ne (sym e))))
  ]

  stood : (m : ℕ) (node : Node) → node_at t m ≡ Some node → stays t was (m, node) ≡ true
  stood m node at =
      let fits = is.each m node at in
      fitting_stays room was m node.body (names_of t m) fits.names (λ none ne. opened m fits.below) (root_directory room t m node is at)

  was_held : (p : Geometry) (map : SectorMap) → HoldsAll p map (placed t) → HoldsAll p map (placed (swept t was))
  was_held p map held = same_placed p map (placed t) (placed (swept t was)) held (λ m. go m (node_at t m) refl)
    where
      gone : DropsNoNames (stays t was) t t
      gone = (tree_may_be_swept room t was is).gone

      go : (m : ℕ) (o : Option Node) → node_at t m ≡ o → placed (swept t was) m ≡ placed t m
      go m None e = placed_none t was is.numbers gone m e ∙ sym (placed_from t m None (names_of t m) (parent t m) e refl refl)
      go m (Some node) e =
          placed_stays t was is.numbers gone m node e (stood m node e)
          ∙ sym (placed_from t m (Some node) (names_of t m) (parent t m) e refl refl)

  away : (node : Node) (a : AccessList) (bytes : List ℕ) → node.body ≡ File a bytes → names_of t n ≡ 0 → stays t now (n, node) ≡ false
  away node a bytes file none =
      ap (λ z. not z || lives_nameless now n node.body) (eq-eqb (names_of t n) 0 none) ∙ ap (lives_nameless now n) file ∙ closed

  -- what is left has names up to this number
  named_then : ((node : Node) → node_at t n ≡ Some node → stays t now (n, node) ≡ false) → IsNamedBelow n t → IsNamedBelow (n + 1) (swept t now)
  named_then leaves named m node at none ne =
      let may = tree_may_be_swept room t now is in
      let found = kept_from room t now may m node (node_at t m) refl (sym (get-filter (stays t now) t is.numbers m) ∙ at) in
      let names : names_of t m ≡ 0 = sym (names_of-filter (stays t now) t is.numbers may.gone m) ∙ none in
      let high : n ≤ m = named m node found.0 names ne in
      elim (cases_eq m n) [
        | inl e ↦ absurd (let there : node_at t n ≡ Some node = ap (node_at t) (sym e) ∙ found.0 in
            let gone : stays t now (m, node) ≡ false = ap (λ k. stays t now (k, node)) e ∙ leaves node there in
            let both : false ≡ true = sym gone ∙ found.1 in cc)
        | inr other ↦ omega (arith, high, other)
      ]

-- ---- one number

-- The new map holds what is left of the tree, in which what stands up to this number has names if what stands below had.
pub record IsFreed (p : Geometry) (n : ℕ) (map : SectorMap) (t : Tree) : Type 0 where
  pub tree : Tree
  pub holds : HoldsTree p map tree
  pub same : pruned tree ≡ pruned t
  pub named : IsNamedBelow n t → IsNamedBelow (n + 1) tree

module _ (p : Geometry) (n : ℕ) (old new : TxnState) (t : Tree) (h : HoldsTree p old.sectors t) (below : n < p.inodes) where
  -- nothing changes, where it isn't a file without a name
  unchanged : IsUnchanged old new → ((node : Node) → node_at t n ≡ Some node → names_of t n ≡ 0 → n ≢ root → ⊥) → IsFreed p n new.sectors t
  unchanged same but = record {
    tree = t;
    holds = kept (λ (m : SectorMap). HoldsTree p m t) same h;
    same = refl;
    named = λ named m node at none ne.
        let high : n ≤ m = named m node at none ne in
        elim (cases_eq m n) [
          | inl e ↦ absurd (but node (ap (node_at t) (sym e) ∙ at) (ap (names_of t) (sym e) ∙ none) (λ r. ne (e ∙ r)))
          | inr other ↦ omega (arith, high, other)
        ];
  }

  none_here : node_at t n ≡ None → (node : Node) → node_at t n ≡ Some node → names_of t n ≡ 0 → n ≢ root → ⊥
  none_here e node at none ne = absurd (let both : None ≡ Some node = sym e ∙ at in cc)

  some_here : (x : Node) → node_at t n ≡ Some x → (names_of t n ≡ 0 → n ≢ root → ⊥) → (node : Node) → node_at t n ≡ Some node → names_of t n ≡ 0 → n ≢ root → ⊥
  some_here x e but node at none ne = but none ne

  nothing : node_at t n ≡ None → LeavesInode p n false old new → IsFreed p n new.sectors t
  nothing e (stays_open opened same) = absurd cc
  nothing e (has_name some same) = unchanged same (none_here e)
  nothing e (was_free free same) = unchanged same (none_here e)
  nothing e (goes shut none used drops) =
      let free : inode_at p old.sectors n ≡ free_inode =
      subst (HoldsPlaced p old.sectors n) (placed_from t n None (names_of t n) (parent t n) e refl refl) (h.holds.nodes n below) in
      absurd (used (ap (λ (v : Inode). v.kind) free))

  module _ (node : Node) (at : node_at t n ≡ Some node) where
    count : (b : Body) → node.body ≡ b → (inode_at p old.sectors n).names ≡ names_field b (names_of t n)
    count b e = (held_node h n node at).names ∙ ap (λ x. names_field x (names_of t n)) e

    fits : (b : Body) → node.body ≡ b → NamesFit (room_of p) n b (names_of t n)
    fits b e = subst (λ x. NamesFit (room_of p) n x (names_of t n)) e (h.tree.each n node at).names

    something : (b : Body) → node.body ≡ b → LeavesInode p n false old new → IsFreed p n new.sectors t
    something b e (stays_open opened same) = absurd cc
    something b e (was_free free same) = absurd (body_not_free p.version old.sectors (inode_at p old.sectors n) node.body (held_node h n node at).body free)
    something (File a bytes) e (has_name some same) = unchanged same (some_here node at (λ none ne. some (count (File a bytes) e ∙ none)))
    something (File a bytes) e (goes shut none used drops) =
        let no_names : names_of t n ≡ 0 = sym (count (File a bytes) e) ∙ none in
        let left : stays t (all_but p.inodes n) (n, node) ≡ false = away (room_of p) t h.tree n node a bytes e no_names in
        record {
          tree = swept t (all_but p.inodes n);
          holds = record {
            holds = close_drop_held (room_of p) t h.tree (all_with p.inodes n) (all_but p.inodes n) n (others (room_of p) t h.tree n) node at (stood (room_of p) t h.tree n n node at) p old.sectors
                (was_held (room_of p) t h.tree n p old.sectors h.holds) new.sectors left below drops.touches.inode drops.clear drops.free;
            tree = sweep_keeps (room_of p) t (all_but p.inodes n) h.tree;
          };
          same = pruned_of_swept (room_of p) t (all_but p.inodes n) h.tree;
          named = named_then (room_of p) t h.tree n
              (λ x there. (let one : node ≡ x = (let two : Some node ≡ Some x = sym at ∙ there in cc) in subst (λ y. stays t (all_but p.inodes n) (n, y) ≡ false) one left));
        }
    something (Dir a d) e (has_name some same) =
        unchanged same (some_here node at (λ none ne.
        let one : names_of t n ≡ 1 = fits (Dir a d) e ∙ ap (λ q. cond q 0 1) (ne_eqb n root ne) in omega (arith, one, none)))
    something (Dir a d) e (goes shut none used drops) = absurd (let one : 1 ≡ 0 = sym (count (Dir a d) e) ∙ none in cc)
    something (Link target) e (has_name some same) =
        unchanged same (some_here node at (λ none ne. let least = (fits (Link target) e).0 in omega (arith, least, none)))
    something (Link target) e (goes shut none used drops) =
        absurd (let least = (fits (Link target) e).0 in let no_names : names_of t n ≡ 0 = sym (count (Link target) e) ∙ none in omega (arith, least, no_names))

  pub freed : LeavesInode p n false old new → IsFreed p n new.sectors t
  freed leaves = go (node_at t n) refl
    where
      go : (o : Option Node) → node_at t n ≡ o → IsFreed p n new.sectors t
      go None e = nothing e leaves
      go (Some node) e = something node e node.body refl leaves
