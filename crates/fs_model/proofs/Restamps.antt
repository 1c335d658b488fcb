-- A tree in which nodes have other times: all else of it is as it was.
--     node_at-restamped, names_of-restamped, parent-restamped, sectors-restamped, stood, stands        what is seen of it
--     touched_is_tree, touched_is_state, free-touched, there-touched, seen-touched        where the times of several nodes move
--     touched-append        some, and then others
--     none_touched, untouched_stays, none_moves, absent_stays        where no time moves
use Rattle.std.specs.Prelude.{◌≡◌, ℕ, ◌+◌, ◌-◌, ◌^◌, ◌<◌, ◌≤◌, ◌==◌, ◌≢◌, nat_lt, Bool, true, false, ◌&&◌, cond, if◌then◌else◌, List, [], ◌∷◌, ◌++◌, Option, None, Some, is_some, sum_by, IsTrue}
use Rattle.std.proofs.Common.{refl, sym, ap, ◌∙◌, subst}
use Rattle.std.specs.Option.{option_map}
use Rattle.std.specs.Ordering.{nat_cmp, is_eq, is_lt}
use Rattle.std.specs.FinMap.{is_sorted}
use Rattle.std.specs.FinMap.Entries.{below_all}
use Rattle.std.proofs.lemmas.List.Sums.{sum_by-cons}
use Rattle.fs_layout.specs.Maps.{IsMap}
use Rattle.std.proofs.lemmas.Bool.{ne_eqb}
use Rattle.fs_layout.proofs.FirstEntries.{tied, ties}
use Rattle.fs_model.specs.declared.reply.Stamps.{Stamps}
use Rattle.fs_model.specs.Limits.{root}
use Rattle.fs_model.specs.Nodes.{Node, sectors_of}
use Rattle.fs_model.specs.Trees.{Tree, Room, node_at, names_for, names_of, parent, sectors_needed, AreStamps, NamesFit, IsNode, IsTree}
use Rattle.fs_model.specs.Processes.{ProcessTable, Openings, Process}
use Rattle.fs_model.specs.declared.touch.Touch.{Touch}
use Rattle.fs_model.specs.declared.touch.Touch.TheVariants.{Untouched, Changed, Modified, Born}
use Rattle.fs_model.specs.TreeChanges.{Change, Same, Rewrite, Make, AddName, TakeName, MoveName, touch_at, touch_one, touched, touches, touches_of, restamp, restamped}
use Rattle.fs_model.specs.States.{State, MayBeFree, FitsTree, IsState}
use Rattle.fs_model.specs.Alike.{node_seen, tree_seen, sees_into, blotted}
use Rattle.fs_model.proofs.Moves.{body_moves}
use Rattle.fs_model.proofs.Rewrites.{under}
use Rattle.fs_model.proofs.StepsKinds.{KeepsTypes, descriptor_moves, process_moves}

-- ---- times

pub touch_fits : (keeps : Bool) (now : ℕ) (touch : Touch) (x : Stamps) → IsTrue keeps → now < 2 ^ 64 → AreStamps keeps x → AreStamps keeps (touch_at now touch x)
touch_fits keeps now Untouched x on small h = h
touch_fits keeps now Changed x on small h = record { atime = h.atime; mtime = h.mtime; ctime = small; none = λ off. absurd cc }
touch_fits keeps now Modified x on small h = record { atime = h.atime; mtime = small; ctime = small; none = λ off. absurd cc }
touch_fits keeps now Born x on small h = record { atime = small; mtime = small; ctime = small; none = λ off. absurd cc }

-- ---- all else

module _ (f : ℕ → Stamps → Stamps) where
  pub node_at-restamped : (t : Tree) (n : ℕ) → node_at (restamped f t) n ≡ option_map (restamp f n) (node_at t n)
  node_at-restamped [] n = refl
  node_at-restamped (e ∷ t) n = go (is_eq (nat_cmp n e.0)) refl (node_at-restamped t n)
    where
      go : (b : Bool) → is_eq (nat_cmp n e.0) ≡ b → node_at (restamped f t) n ≡ option_map (restamp f n) (node_at t n)
          → cond b (Some (restamp f e.0 e.1)) (node_at (restamped f t) n) ≡ option_map (restamp f n) (cond b (Some e.1) (node_at t n))
      go true k h = ap (λ m. Some (restamp f m e.1)) (sym (tied n e.0 k))
      go false k h = h

  sum-restamped : (g : ℕ × Node → ℕ) → ((e : ℕ × Node) → g (e.0, restamp f e.0 e.1) ≡ g e) → (t : Tree) → sum_by g (restamped f t) ≡ sum_by g t
  sum-restamped g same [] = refl
  sum-restamped g same (e ∷ t) =
      sum_by-cons g (e.0, restamp f e.0 e.1) (restamped f t)
      ∙ ap (λ k. k + sum_by g (restamped f t)) (same e)
      ∙ ap (λ k. g e + k) (sum-restamped g same t)
      ∙ sym (sum_by-cons g e t)

  pub names_of-restamped : (t : Tree) (n : ℕ) → names_of (restamped f t) n ≡ names_of t n
  names_of-restamped t n = sum-restamped (λ e. names_for n e.1.body) (λ e. refl) t

  pub sectors-restamped : (room : Room) (t : Tree) → sectors_needed room (restamped f t) ≡ sectors_needed room t
  sectors-restamped room t = sum-restamped (λ e. sectors_of room.slot_size e.1.body) (λ e. refl) t

  pub parent-restamped : (t : Tree) (d : ℕ) → parent (restamped f t) d ≡ parent t d
  parent-restamped [] d = refl
  parent-restamped (e ∷ t) d = ap (λ p. if nat_lt 0 (names_for d e.1.body) then e.0 else p) (parent-restamped t d)

  below-restamped : (x : ℕ) (t : Tree) → below_all nat_cmp x (restamped f t) ≡ below_all nat_cmp x t
  below-restamped x [] = refl
  below-restamped x (e ∷ t) = ap (λ b. is_lt (nat_cmp x e.0) && b) (below-restamped x t)

  sorted-restamped : (t : Tree) → is_sorted nat_cmp (restamped f t) ≡ is_sorted nat_cmp t
  sorted-restamped [] = refl
  sorted-restamped (e ∷ t) =
      ap (λ b. b && is_sorted nat_cmp (restamped f t)) (below-restamped e.0 t) ∙ ap (λ b. below_all nat_cmp e.0 t && b) (sorted-restamped t)

  pub restamped-IsMap : (t : Tree) → IsMap nat_cmp t → IsMap nat_cmp (restamped f t)
  restamped-IsMap t m = sorted-restamped t ∙ m

  pub there-restamped : (t : Tree) (n : ℕ) → is_some (node_at (restamped f t) n) ≡ is_some (node_at t n)
  there-restamped t n = ap is_some (node_at-restamped t n) ∙ go (node_at t n)
    where
      go : (o : Option Node) → is_some (option_map (restamp f n) o) ≡ is_some o
      go None = refl
      go (Some node) = refl

  -- what stands in it, and what stood there
  pub record Stood (t : Tree) (n : ℕ) (node : Node) : Type 0 where
    pub old : Node
    pub was : node_at t n ≡ Some old
    pub is : restamp f n old ≡ node

  pub stood : (t : Tree) (n : ℕ) (node : Node) → node_at (restamped f t) n ≡ Some node → Stood t n node
  stood t n node at = go (node_at t n) refl (sym (node_at-restamped t n) ∙ at)
    where
      go : (o : Option Node) → node_at t n ≡ o → option_map (restamp f n) o ≡ Some node → Stood t n node
      go None e k = absurd cc
      go (Some old) e k = record { old = old; was = e; is = (let same : restamp f n old ≡ node = cc in same) }

  pub stands : (t : Tree) (n : ℕ) (node : Node) → node_at t n ≡ Some node → node_at (restamped f t) n ≡ Some (restamp f n node)
  stands t n node at = node_at-restamped t n ∙ ap (option_map (restamp f n)) at

  pub restamped_keeps_types : (t : Tree) → KeepsTypes t (restamped f t)
  restamped_keeps_types t n node at = record { node = restamp f n node; is_there = stands t n node at; same = refl }

  module _ (room : Room) (t : Tree) (is : IsTree room t) (fit : (n : ℕ) (x : Stamps) → AreStamps room.keeps_times x → AreStamps room.keeps_times (f n x)) where
    node_is : (n : ℕ) (node : Node) → IsNode room t n node → IsNode room (restamped f t) n (restamp f n node)
    node_is n node was = record {
      positive = was.positive;
      below = was.below;
      owner = was.owner;
      group = was.group;
      body = body_moves room t (restamped f t) node.body (λ q there. there-restamped t q ∙ there) was.body;
      stamps = fit n node.stamps was.stamps;
      names = subst (NamesFit room n node.body) (sym (names_of-restamped t n)) was.names;
      under_root = λ d. under t (restamped f t) (parent-restamped t) (was.under_root d);
    }

    pub restamped_is_tree : IsTree room (restamped f t)
    restamped_is_tree = record {
      numbers = restamped-IsMap t is.numbers;
      root_is_there = record {
        node = restamp f root is.root_is_there.node;
        is_there = stands t root is.root_is_there.node is.root_is_there.is_there;
        directory = is.root_is_there.directory;
      };
      each = λ n node at. let s = stood t n node at in subst (IsNode room (restamped f t) n) s.is (node_is n s.old (is.each n s.old s.was));
    }

  pub restamped_fits : (t : Tree) (processes : ProcessTable) (openings : Openings) → FitsTree t processes openings → FitsTree (restamped f t) processes openings
  restamped_fits t processes openings fits = record {
    each_process = λ pid p here. process_moves t (restamped f t) (restamped_keeps_types t) p (fits.each_process pid p here);
    each_opening = λ handle d here. descriptor_moves t (restamped f t) (restamped_keeps_types t) 0 d (fits.each_opening handle d here);
    nameless = λ n node at none ne. let s = stood t n node at in fits.nameless n s.old s.was (sym (names_of-restamped t n) ∙ none) ne;
  }

  pub free-restamped : (room : Room) (t : Tree) (free : ℕ) → MayBeFree room (restamped f t) free → MayBeFree room t free
  free-restamped room t free may = record { least = subst (λ k. room.sectors - k ≤ free) (sectors-restamped room t) may.least; most = may.most }

  restamped_free : (room : Room) (t : Tree) (free : ℕ) → MayBeFree room t free → MayBeFree room (restamped f t) free
  restamped_free room t free may = record { least = subst (λ k. room.sectors - k ≤ free) (sym (sectors-restamped room t)) may.least; most = may.most }

  -- ---- what a process sees of it

  node_seen-restamped : (p : Process) (n : ℕ) (node : Node) → node_seen p n (restamp f n node) ≡ restamp f n (node_seen p n node)
  node_seen-restamped p n node = go (sees_into p n node)
    where
      go : (b : Bool) → cond b (restamp f n node) (record (restamp f n node) { body = blotted node.body }) ≡ restamp f n (cond b node (record node { body = blotted node.body }))
      go true = refl
      go false = refl

  pub seen-restamped : (p : Process) (t : Tree) → tree_seen p (restamped f t) ≡ restamped f (tree_seen p t)
  seen-restamped p [] = refl
  seen-restamped p (e ∷ t) = ap (λ x. (e.0, x) ∷ tree_seen p (restamped f t)) (node_seen-restamped p e.0 e.1) ∙ ap (λ u. (e.0, restamp f e.0 (node_seen p e.0 e.1)) ∷ u) (seen-restamped p t)

-- ---- a state

restamped_is_state : (s : State) (f : ℕ → Stamps → Stamps)
    → ((n : ℕ) (x : Stamps) → AreStamps s.room.keeps_times x → AreStamps s.room.keeps_times (f n x))
    → IsState s → IsState (record s { tree = restamped f s.tree })
restamped_is_state s f fit is = record {
  room = is.room;
  tree = restamped_is_tree f s.room s.tree is.tree fit;
  pids = is.pids;
  few = is.few;
  handles = is.handles;
  free = restamped_free f s.room s.tree s.free is.free;
  now = is.now;
  processes = λ runs. restamped_fits f s.tree s.processes s.openings (is.processes runs);
}

-- ---- touches

touch_one_fits : (keeps : Bool) (now : ℕ) (e : ℕ × Touch) (n : ℕ) (x : Stamps) → IsTrue keeps → now < 2 ^ 64 → AreStamps keeps x
    → AreStamps keeps (touch_one now e n x)
touch_one_fits keeps now e n x on small h = go (n == e.0)
  where
    go : (b : Bool) → AreStamps keeps (cond b (touch_at now e.1 x) x)
    go true = touch_fits keeps now e.1 x on small h
    go false = h

pub touched_is_tree : (room : Room) (t : Tree) (now : ℕ) (es : List (ℕ × Touch)) → IsTrue room.keeps_times → now < 2 ^ 64 → IsTree room t
    → IsTree room (touched now es t)
touched_is_tree room t now [] keeps small is = is
touched_is_tree room t now (e ∷ es) keeps small is =
    touched_is_tree room (restamped (touch_one now e) t) now es keeps small
    (restamped_is_tree (touch_one now e) room t is (λ n x. touch_one_fits room.keeps_times now e n x keeps small))

pub touched_is_state : (s : State) (now : ℕ) (es : List (ℕ × Touch)) → IsTrue s.room.keeps_times → now < 2 ^ 64 → IsState s
    → IsState (record s { tree = touched now es s.tree })
touched_is_state s now [] keeps small is = is
touched_is_state s now (e ∷ es) keeps small is =
    touched_is_state (record s { tree = restamped (touch_one now e) s.tree }) now es keeps small
    (restamped_is_state s (touch_one now e) (λ n x. touch_one_fits s.room.keeps_times now e n x keeps small) is)

pub free-touched : (now : ℕ) (es : List (ℕ × Touch)) (room : Room) (t : Tree) (free : ℕ) → MayBeFree room (touched now es t) free → MayBeFree room t free
free-touched now [] room t free may = may
free-touched now (e ∷ es) room t free may =
    free-restamped (touch_one now e) room t free (free-touched now es room (restamped (touch_one now e) t) free may)

pub there-touched : (now : ℕ) (es : List (ℕ × Touch)) (t : Tree) (n : ℕ) → is_some (node_at (touched now es t) n) ≡ is_some (node_at t n)
there-touched now [] t n = refl
there-touched now (e ∷ es) t n = there-touched now es (restamped (touch_one now e) t) n ∙ there-restamped (touch_one now e) t n

pub seen-touched : (p : Process) (now : ℕ) (es : List (ℕ × Touch)) (t : Tree) → tree_seen p (touched now es t) ≡ touched now es (tree_seen p t)
seen-touched p now [] t = refl
seen-touched p now (e ∷ es) t =
    seen-touched p now es (restamped (touch_one now e) t) ∙ ap (touched now es) (seen-restamped (touch_one now e) p t)

-- one after another
pub touched-append : (now : ℕ) (first later : List (ℕ × Touch)) (t : Tree) → touched now (first ++ later) t ≡ touched now later (touched now first t)
touched-append now [] later t = refl
touched-append now (e ∷ es) later t = touched-append now es later (restamped (touch_one now e) t)

-- a disk that keeps no times has none touched
pub none_touched : (room : Room) (t : Tree) (change : Change) → room.keeps_times ≡ false → touches room t change ≡ []
none_touched room t Same none = refl
none_touched room t (Rewrite touch n node) none = ap (λ b. if b then touches_of t (Rewrite touch n node) else []) none
none_touched room t (Make dir_ino name n node) none = ap (λ b. if b then touches_of t (Make dir_ino name n node) else []) none
none_touched room t (AddName dir_ino name n) none = ap (λ b. if b then touches_of t (AddName dir_ino name n) else []) none
none_touched room t (TakeName dir_ino name) none = ap (λ b. if b then touches_of t (TakeName dir_ino name) else []) none
none_touched room t (MoveName dir_ino name to_dir_ino to_name) none =
    ap (λ b. if b then touches_of t (MoveName dir_ino name to_dir_ino to_name) else []) none

-- where nothing moves, or nothing stands, the tree stays
pub untouched_stays : (now n : ℕ) (t : Tree) → restamped (touch_one now (n, Untouched)) t ≡ t
untouched_stays now n [] = refl
untouched_stays now n (e ∷ t) =
    ap (λ x. (e.0, record e.1 { stamps = x }) ∷ restamped (touch_one now (n, Untouched)) t) (go (e.0 == n)) ∙ ap (λ u. e ∷ u) (untouched_stays now n t)
  where
    go : (b : Bool) → cond b e.1.stamps e.1.stamps ≡ e.1.stamps
    go true = refl
    go false = refl

-- of a node that is rewritten with the times that it is to have no time moves
pub none_moves : (room : Room) (t : Tree) (now n : ℕ) (node : Node) (u : Tree) → touched now (touches room t (Rewrite Untouched n node)) u ≡ u
none_moves room t now n node u = go room.keeps_times
  where
    go : (b : Bool) → touched now (cond b ((n, Untouched) ∷ []) []) u ≡ u
    go true = untouched_stays now n u
    go false = refl

pub absent_stays : (now : ℕ) (touch : ℕ × Touch) (t : Tree) → node_at t touch.0 ≡ None → restamped (touch_one now touch) t ≡ t
absent_stays now touch [] none = refl
absent_stays now touch (e ∷ t) none = go (is_eq (nat_cmp touch.0 e.0)) refl none (λ h. absent_stays now touch t h)
  where
    go : (b : Bool) → is_eq (nat_cmp touch.0 e.0) ≡ b → cond b (Some e.1) (node_at t touch.0) ≡ None
        → (node_at t touch.0 ≡ None → restamped (touch_one now touch) t ≡ t) → restamped (touch_one now touch) (e ∷ t) ≡ e ∷ t
    go true k h rest = absurd cc
    go false k h rest =
        let apart : e.0 ≢ touch.0 = λ same. (let tie : is_eq (nat_cmp touch.0 e.0) ≡ true = ties touch.0 e.0 (sym same) in let c : true ≡ false = sym tie ∙ k in cc) in
        ap (λ b. (e.0, record e.1 { stamps = cond b (touch_at now touch.1 e.1.stamps) e.1.stamps }) ∷ restamped (touch_one now touch) t) (ne_eqb e.0 touch.0 apart)
        ∙ ap (λ u. e ∷ u) (rest h)
