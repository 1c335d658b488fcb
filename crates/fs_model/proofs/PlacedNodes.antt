-- What an image holds, and what a tree places, where single nodes change.
--     same_placed, placing, one_placed, one_replaced, one_dropped, restated        what is held, number by number
--     placed_from        what a tree places, put together from its parts
--     placed_none, placed_stays, placed_goes        what a swept tree places
--     stays_if, placed_again, nothing_goes        where the sweep drops nothing
use Rattle.std.specs.Prelude.{◌≡◌, ◌≢◌, ℕ, ◌<◌, ◌≤◌, nat_eq, nat_le, ◌==◌, true, false, not, ◌||◌, cond, if◌then◌else◌, Option, None, Some, is_some, IsTrue, IsFalse}
use Rattle.std.proofs.Common.{refl, sym, ap, arith, ◌∙◌, subst, inl, inr}
use Rattle.std.proofs.lemmas.Bool.{cases_eq, cond-true, cond-false, eq-eqb, ne_eqb}
use Rattle.std.proofs.lemmas.Bool.Decides.{nat_tests}
use Rattle.std.specs.Option.{option_map}
use Rattle.std.specs.Ordering.{nat_cmp}
use Rattle.fs_layout.specs.declared.geometry.Geometry.{Geometry}
use Rattle.fs_layout.specs.Bytes.{SectorMap}
use Rattle.fs_layout.specs.Inode.{free_inode}
use Rattle.fs_layout.specs.Images.{bit, inode_at}
use Rattle.fs_layout.specs.InodeChanges.{ChangesInode}
use Rattle.fs_layout.specs.Maps.{IsMap}
use Rattle.fs_model.specs.Nodes.{Node, type_of}
use Rattle.fs_model.specs.Trees.{Tree, Room, node_at, names_of, parent, NamesFit, IsTree}
use Rattle.fs_model.specs.Processes.{ProcessTable, users, is_open}
use Rattle.fs_model.specs.Births.{the_node}
use Rattle.fs_model.specs.TreeChanges.{swept, lives_nameless}
use Rattle.fs_model.specs.States.{State, IsState, FitsTree}
use Rattle.fs_model.specs.StoredNodes.{Placed, HoldsNode}
use Rattle.fs_model.specs.Stands.{HoldsPlaced, HoldsAll, placed, room_of}
use Rattle.fs_model.proofs.Finds.{IsThere}
use Rattle.fs_model.proofs.Frame.{one_node_changes}
use Rattle.fs_model.proofs.StepsFit.{node_is_there}
use Rattle.fs_model.proofs.StepsKinds.{KeepsTypes, descriptor_moves, process_moves, same_directory, same_fit}
use Rattle.fs_model.proofs.Swept.{kept, get-filter, names_of-filter, parent-filter, DropsNoNames, stays}
use Rattle.fs_model.proofs.Unchanged.{fitting_stays, root_directory, open_stays}

-- ---- number by number

-- what is to be held stays
pub same_placed : (p : Geometry) (image : SectorMap) (what next : ℕ → Option Placed) → HoldsAll p image what → ((n : ℕ) → next n ≡ what n)
    → HoldsAll p image next
same_placed p image what next h same = record {
  consistent = h.consistent;
  nodes = λ n lt. subst (HoldsPlaced p image n) (sym (same n)) (h.nodes n lt);
  inode_bits = λ n few. h.inode_bits n few ∙ ap (λ o. nat_eq n 0 || nat_le p.inodes n || is_some o) (sym (same n));
}

-- one thing at n, and else what there was
abbrev pub placing : ℕ → Option Placed → (ℕ → Option Placed) → ℕ → Option Placed
placing n o what m = if nat_eq m n then o else what m

pub placing_here : (n : ℕ) (o : Option Placed) (what : ℕ → Option Placed) → placing n o what n ≡ o
placing_here n o what = cond-true (nat_eq n n) o (what n) (eq-eqb n n refl)

pub placing_other : (n : ℕ) (o : Option Placed) (what : ℕ → Option Placed) (m : ℕ) → m ≢ n → placing n o what m ≡ what m
placing_other n o what m ne = cond-false (nat_eq m n) o (what m) (ne_eqb m n ne)

-- what differs at one number alone, and at two
pub placed_once : (what next : ℕ → Option Placed) (a : ℕ) (x : Option Placed) → next a ≡ x → ((m : ℕ) → m ≢ a → next m ≡ what m)
    → (m : ℕ) → next m ≡ placing a x what m
placed_once what next a x here others m = elim (cases_eq m a) [
  | inl e ↦ subst (λ k. next k ≡ placing a x what k) (sym e) (here ∙ sym (placing_here a x what))
  | inr ne ↦ others m ne ∙ sym (placing_other a x what m ne)
]

pub placed_twice : (what next : ℕ → Option Placed) (a b : ℕ) (x y : Option Placed) → next a ≡ x → next b ≡ y
    → ((m : ℕ) → m ≢ a → m ≢ b → next m ≡ what m) → (m : ℕ) → next m ≡ placing b y (placing a x what) m
placed_twice what next a b x y at_a at_b others = placed_once (placing a x what) next b y at_b (λ m ne. elim (cases_eq m a) [
  | inl e ↦ ap next e ∙ at_a ∙ sym (ap (placing a x what) e ∙ placing_here a x what)
  | inr other ↦ others m other ne ∙ sym (placing_other a x what m other)
])

module _ (p : Geometry) (n : ℕ) (old new : SectorMap) (what : ℕ → Option Placed) (h : HoldsAll p old what) (below : n < p.inodes) (changes : ChangesInode p n old new) where
  -- inode n holds this then
  pub one_placed : (o : Option Placed) → HoldsPlaced p new n o → bit new p.inode_bitmap n ≡ (nat_eq n 0 || nat_le p.inodes n || is_some o)
      → HoldsAll p new (placing n o what)
  one_placed o here marked =
      one_node_changes p n old new what (placing n o what) h changes (record {
        below = below;
        here = subst (HoldsPlaced p new n) (sym (placing_here n o what)) here;
        marked = marked ∙ ap (λ q. nat_eq n 0 || nat_le p.inodes n || is_some q) (sym (placing_here n o what));
        others = placing_other n o what;
      })

  -- where it held a node before
  pub one_replaced : (x y : Placed) → what n ≡ Some x → HoldsNode p.version new (inode_at p new n) y → bit new p.inode_bitmap n ≡ bit old p.inode_bitmap n
      → HoldsAll p new (placing n (Some y) what)
  one_replaced x y was here same =
      one_placed (Some y) here
      (same ∙ h.inode_bits n (let bits = h.consistent.geometry.inode_bits in omega (arith, below, bits)) ∙ ap (λ q. nat_eq n 0 || nat_le p.inodes n || is_some q) was)

  -- where it holds none
  pub one_dropped : 1 ≤ n → inode_at p new n ≡ free_inode → bit new p.inode_bitmap n ≡ false → HoldsAll p new (placing n None what)
  one_dropped some free clear =
      let low = below in
      let positive : nat_eq n 0 ≡ false = grind (arith, nat_tests) in
      let inside : nat_le p.inodes n ≡ false = grind (arith, nat_tests) in
      one_placed None free (clear ∙ sym (ap (λ b. b || nat_le p.inodes n || false) positive ∙ ap (λ b. b || false) inside))

module _ (p : Geometry) (image : SectorMap) (what : ℕ → Option Placed) (h : HoldsAll p image what) (n : ℕ) where
  pub held_at : n < p.inodes → (x : Placed) → what n ≡ Some x → HoldsNode p.version image (inode_at p image n) x
  held_at below x was = subst (HoldsPlaced p image n) was (h.nodes n below)

  -- nothing changes, and inode n holds another node as well
  pub restated : (x y : Placed) → what n ≡ Some x → HoldsNode p.version image (inode_at p image n) y → HoldsAll p image (placing n (Some y) what)
  restated x y was here = record {
    consistent = h.consistent;
    nodes = λ m lt. elim (cases_eq m n) [
      | inl e ↦ subst (λ k. HoldsPlaced p image k (placing n (Some y) what k)) (sym e) (subst (HoldsPlaced p image n) (sym (placing_here n (Some y) what)) here)
      | inr ne ↦ subst (HoldsPlaced p image m) (sym (placing_other n (Some y) what m ne)) (h.nodes m lt)
    ];
    inode_bits = λ m few. elim (cases_eq m n) [
      | inl e ↦ h.inode_bits m few ∙ ap (λ q. nat_eq m 0 || nat_le p.inodes m || is_some q) (ap what e ∙ was)
          ∙ ap (λ q. nat_eq m 0 || nat_le p.inodes m || is_some q) (sym (ap (placing n (Some y) what) e ∙ placing_here n (Some y) what))
      | inr ne ↦ h.inode_bits m few ∙ ap (λ q. nat_eq m 0 || nat_le p.inodes m || is_some q) (sym (placing_other n (Some y) what m ne))
    ];
  }

-- ---- what a tree places

-- put together from its parts
pub placed_from : (t : Tree) (n : ℕ) (o : Option Node) (names up : ℕ) → node_at t n ≡ o → names_of t n ≡ names → parent t n ≡ up
    → placed t n ≡ option_map (λ node. record { node = node; names = names; parent = up }) o
placed_from t n o names up at count above =
    ap (λ q. option_map (λ node. record { node = node; names = names_of t n; parent = parent t n }) q) at
    ∙ ap (λ k. option_map (λ node. record { node = node; names = k; parent = parent t n }) o) count
    ∙ ap (λ k. option_map (λ node. record { node = node; names = names; parent = k }) o) above

pub below_inodes : (s : State) (p : Geometry) → s.room ≡ room_of p → (n : ℕ) → n < s.room.inodes → n < p.inodes
below_inodes s p room n lt = let e = ap (λ (q : Room). q.inodes) room in omega (arith, lt, e)

pub node_below : (s : State) (p : Geometry) → IsState s → s.room ≡ room_of p → (n : ℕ) (node : Node) → node_at s.tree n ≡ Some node → n < p.inodes
node_below s p is room n node at = below_inodes s p room n (is.tree.each n node at).below

-- ---- a sweep

module _ (u : Tree) (processes : ProcessTable) (numbers : IsMap nat_cmp u) (gone : DropsNoNames (stays u processes) u u) (n : ℕ) where
  placed_swept : (o : Option Node) → node_at u n ≡ o
      → placed (swept u processes) n ≡ option_map (λ node. record { node = node; names = names_of u n; parent = parent u n }) (kept (stays u processes) n o)
  placed_swept o at =
      placed_from (swept u processes) n (kept (stays u processes) n o) (names_of u n) (parent u n)
      (get-filter (stays u processes) u numbers n ∙ ap (kept (stays u processes) n) at)
      (names_of-filter (stays u processes) u numbers gone n) (parent-filter (stays u processes) u numbers gone n)

  pub placed_none : node_at u n ≡ None → placed (swept u processes) n ≡ None
  placed_none at = placed_swept None at

  module _ (node : Node) (at : node_at u n ≡ Some node) where
    pub placed_stays : stays u processes (n, node) ≡ true → placed (swept u processes) n ≡ Some (record { node = node; names = names_of u n; parent = parent u n })
    placed_stays stay =
        placed_swept (Some node) at
        ∙ ap (λ b. option_map (λ node. record { node = node; names = names_of u n; parent = parent u n }) (cond b (Some node) None)) stay

    pub placed_goes : stays u processes (n, node) ≡ false → placed (swept u processes) n ≡ None
    placed_goes goes =
        placed_swept (Some node) at
        ∙ ap (λ b. option_map (λ node. record { node = node; names = names_of u n; parent = parent u n }) (cond b (Some node) None)) goes

-- ---- where what is open stays open

module _ (s : State) (is : IsState s) (up : IsFalse s.halted) (processes : ProcessTable) (still : (n : ℕ) → IsTrue (is_open (users s.processes s.openings) n) → IsTrue (is_open processes n)) (u : Tree) where
  -- a node that is of the type that it was, with as many names
  pub stays_if : (n : ℕ) (node old : Node) → node_at s.tree n ≡ Some old → type_of node.body ≡ type_of old.body → names_of u n ≡ names_of s.tree n
      → stays u processes (n, node) ≡ true
  stays_if n node old was type names =
      let fits = is.processes up in
      let fit : NamesFit s.room n node.body (names_of s.tree n) = same_fit s.room n (names_of s.tree n) node.body old.body type (is.tree.each n old was).names in
      ap (λ k. not (k == 0) || lives_nameless processes n node.body) names
      ∙ fitting_stays s.room processes n node.body (names_of s.tree n) fit (λ none ne. still n (fits.nameless n old was none ne))
      (λ e. same_directory node.body old.body type ∙ root_directory s.room s.tree n old is.tree was e)

  -- and all of it is as it was
  pub placed_again : IsMap nat_cmp u → DropsNoNames (stays u processes) u u → (n : ℕ) → node_at u n ≡ node_at s.tree n → names_of u n ≡ names_of s.tree n
      → parent u n ≡ parent s.tree n → placed (swept u processes) n ≡ placed s.tree n
  placed_again numbers gone n at names above = go (node_at s.tree n) refl
    where
      go : (o : Option Node) → node_at s.tree n ≡ o → placed (swept u processes) n ≡ placed s.tree n
      go None e = placed_none u processes numbers gone n (at ∙ e) ∙ sym (placed_from s.tree n None (names_of u n) (parent u n) e (sym names) (sym above))
      go (Some node) e =
          placed_stays u processes numbers gone n node (at ∙ e) (stays_if n node node e refl names)
          ∙ sym (placed_from s.tree n (Some node) (names_of u n) (parent u n) e (sym names) (sym above))

  -- Each node is of the type that it was, and none has lost its last name.
  pub nothing_goes : IsTree s.room u → KeepsTypes s.tree u → ((n : ℕ) → IsThere u n → names_of u n ≡ 0 → IsThere s.tree n × (names_of s.tree n ≡ 0))
      → swept u processes ≡ u
  nothing_goes tree types nameless =
      let fits = is.processes up in
      let fits_then : FitsTree u s.processes s.openings = record {
        each_process = λ pid q there. process_moves s.tree u types q (fits.each_process pid q there);
        each_opening = λ handle d there. descriptor_moves s.tree u types 0 d (fits.each_opening handle d there);
        nameless = λ n node at none ne.
            let was = nameless n (ap is_some at) none in
            fits.nameless n (the_node s.tree n) (node_is_there s.tree n was.0) was.1 ne;
      } in
      open_stays s.room u s.processes s.openings processes tree fits_then still
