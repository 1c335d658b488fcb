-- An inode that a descriptor is for no longer.
--     dropped_after        it is gone, since an earlier moment
--     left_sound, left_super        the map is sound, and sector 0 the same
--     node_stood, left_node        what stands stays in the tree, or goes
--     open_besides        what a process has open without the descriptor
--     closed_holds        the map holds the tree after a close
use Rattle.std.specs.Prelude.{◌≡◌, ◌≢◌, ℕ, ◌==◌, Bool, true, false, not, ◌||◌, List, Some, IsTrue, IsFalse, ◌⊎◌}
use Rattle.std.proofs.Common.{refl, sym, ap, subst, ◌∙◌, inl, inr}
use Rattle.std.proofs.lemmas.Bool.{ne_eqb, eq-eqb}
use Rattle.std.specs.List.{list_any}
use Rattle.std.specs.Ordering.{nat_cmp}
use Rattle.fs_layout.specs.declared.geometry.Geometry.{Geometry}
use Rattle.fs_layout.specs.Bytes.{SectorMap}
use Rattle.fs_layout.specs.Images.{inode_at}
use Rattle.fs_layout.specs.Maps.{get, IsMap}
use Rattle.sector_txn.specs.Sectors.{TxnState, IsUnchanged}
use Rattle.bit_alloc.specs.declared.bitmap.Bitmap.TheVariants.{Inodes}
use Rattle.bit_alloc.specs.Bitmaps.{IsNumber}
use Rattle.bit_alloc.specs.Inodes.{IsSound}
use Rattle.fs_model.specs.TreeChanges.{swept, lives_nameless}
use Rattle.fs_model.specs.Nodes.{Node, Body, File, Dir, Link, is_link}
use Rattle.fs_model.specs.Processes.{Descriptor, Process, ProcessTable, Openings, process_holding, users, is_open}
use Rattle.call_parts.specs.BothTables.{Tables, tables_in, users_of}
use Rattle.call_parts.specs.declared.reaching.OpenAt.{OpenAt}
use Rattle.call_parts.specs.declared.reaching.OpenAt.TheVariants as places
use Rattle.fs_model.specs.Stands.{HoldsAll, placed}
use Rattle.fs_model.specs.States.{State, FitsTree}
use Rattle.fs_model.specs.StoredNodes.{HoldsNode, names_field}
use Rattle.fs_model.specs.Trees.{Tree, Room, node_at, names_of, parent, IsTree}
use Rattle.fs_model.proofs.OneNode.{body_not_free}
use Rattle.fs_model.proofs.PlacedClosings.{close_held, close_drop_held}
use Rattle.fs_model.proofs.Swept.{stays}
use Rattle.fs_model.proofs.Unchanged.{fitting_stays, root_directory, nothing_to_drop}
use Rattle.open_files.specs.Tables.{without_descriptor}
use Rattle.open_files.proofs.Slots.{any_with_entry}
use Rattle.call_parts.specs.Performing.{IsStateOf}
use Rattle.call_parts.proofs.Calling.{state_tree, same_process}
use Rattle.path_walk.proofs.HeldNodes.{held_node}
use Rattle.path_walk.proofs.Kept.{kept, sound_kept}
use Rattle.call_parts.specs.Dropping.{Drops, LeavesInode, stays_open, has_name, was_free, goes}
use Rattle.call_parts.specs.Reaching.{IsOpened, closed_in}
use Rattle.call_parts.proofs.ByDescriptor.{open_fits, open_below, entry_again, handle_entry, has_open, still_open, changed_there}
use Rattle.call_parts.proofs.Removed.{touches_after}

-- ---- of the map

pub dropped_after : {p : Geometry} {n : ℕ} {old mid new : TxnState} → IsUnchanged old mid → Drops p n mid new → Drops p n old new
dropped_after {p} {n} {old} {mid} {new} same drops = record {
  sound = drops.sound;
  touches = touches_after same drops.touches;
  free = drops.free;
  clear = drops.clear;
}

pub left_super : {p : Geometry} {n : ℕ} {opened : Bool} {old new : TxnState} → LeavesInode p n opened old new → new.sectors 0 ≡ old.sectors 0
left_super (stays_open o same) = same.sectors 0
left_super (has_name o same) = same.sectors 0
left_super (was_free o same) = same.sectors 0
left_super (goes closed none used drops) = drops.touches.super

pub left_sound : {p : Geometry} {n : ℕ} {opened : Bool} {old new : TxnState} → IsSound p old → LeavesInode p n opened old new → IsSound p new
left_sound sound (stays_open o same) = sound_kept same sound
left_sound sound (has_name o same) = sound_kept same sound
left_sound sound (was_free o same) = sound_kept same sound
left_sound sound (goes closed none used drops) = drops.sound

-- ---- of the tree

or_true : (b : Bool) → (b || true) ≡ true
or_true true = refl
or_true false = refl

-- what stands in a tree with these users stays where it stays open
pub node_stood : (room : Room) (t : Tree) (processes : ProcessTable) (openings : Openings) (now : ProcessTable) → IsTree room t → FitsTree t processes openings → (n : ℕ) (node : Node) → node_at t n ≡ Some node
    → (IsTrue (is_open (users processes openings) n) → IsTrue (is_open now n)) → stays t now (n, node) ≡ true
node_stood room t processes openings now is fits n node at still =
    fitting_stays room now n node.body (names_of t n) (is.each n node at).names (λ none ne. still (fits.nameless n node at none ne))
    (root_directory room t n node is at)

-- A node stays, or goes, as its inode says.
pub left_node : {p : Geometry} {n : ℕ} {old new : TxnState} (t : Tree) (was now : ProcessTable) (node : Node) (up : ℕ)
    → HoldsNode p.version old.sectors (inode_at p old.sectors n) (record { node = node; names = names_of t n; parent = up })
    → IsFalse (is_link node.body) → stays t was (n, node) ≡ true → LeavesInode p n (is_open now n) old new
    → ((stays t now (n, node) ≡ true) × IsUnchanged old new) ⊎ ((stays t now (n, node) ≡ false) × Drops p n old new)
left_node {p} {n} {old} {new} t was now node up held no_link stood leaves = go node.body refl leaves
  where
    of_others : lives_nameless now n node.body ≡ lives_nameless was n node.body → stays t now (n, node) ≡ true
    of_others same = ap (λ b. not (names_of t n == 0) || b) same ∙ stood

    go : (b : Body) → node.body ≡ b → LeavesInode p n (is_open now n) old new
        → ((stays t now (n, node) ≡ true) × IsUnchanged old new) ⊎ ((stays t now (n, node) ≡ false) × Drops p n old new)
    go (File a bytes) e (stays_open opened same) =
        inl (ap (λ b. not (names_of t n == 0) || lives_nameless now n b) e ∙ ap (λ b. not (names_of t n == 0) || b) opened ∙ or_true (not (names_of t n == 0)), same)
    go (File a bytes) e (has_name some same) =
        let count : (inode_at p old.sectors n).names ≡ names_of t n = held.names ∙ ap (λ b. names_field b (names_of t n)) e in
        inl (ap (λ b. not b || lives_nameless now n node.body) (ne_eqb (names_of t n) 0 (λ none. some (count ∙ none))), same)
    go (File a bytes) e (was_free free same) = absurd (body_not_free p.version old.sectors (inode_at p old.sectors n) node.body held.body free)
    go (File a bytes) e (goes closed none used drops) =
        let count : (inode_at p old.sectors n).names ≡ names_of t n = held.names ∙ ap (λ b. names_field b (names_of t n)) e in
        inr (ap (λ b. not b || lives_nameless now n node.body) (eq-eqb (names_of t n) 0 (sym count ∙ none)) ∙ ap (lives_nameless now n) e ∙ closed, drops)
    go (Dir a d) e (stays_open opened same) = inl (of_others (ap (lives_nameless now n) e ∙ sym (ap (lives_nameless was n) e)), same)
    go (Dir a d) e (has_name some same) = inl (of_others (ap (lives_nameless now n) e ∙ sym (ap (lives_nameless was n) e)), same)
    go (Dir a d) e (was_free free same) = absurd (body_not_free p.version old.sectors (inode_at p old.sectors n) node.body held.body free)
    go (Dir a d) e (goes closed none used drops) =
        let one : (inode_at p old.sectors n).names ≡ 1 = held.names ∙ ap (λ b. names_field b (names_of t n)) e in
        absurd (let both : 1 ≡ 0 = sym one ∙ none in cc)
    go (Link target) e leaves = absurd (let both : false ≡ true = sym no_link ∙ ap is_link e in cc)

-- ---- of the table

-- what was open at another descriptor is open without this one
pub open_besides : (q : Process) (fd : ℕ) (d : Descriptor) → IsMap nat_cmp q.descriptors → get nat_cmp q.descriptors fd ≡ Some d → (m : ℕ) → m ≢ d.ino
    → has_open m (without_descriptor q fd) ≡ has_open m q
open_besides q fd d rising at m ne =
    let other : (d.ino == m) ≡ false = ne_eqb d.ino m (λ e. ne (sym e)) in
    sym (ap (λ (l : List (ℕ × Descriptor)). list_any (λ (e : ℕ × Descriptor). e.1.ino == m) l) (sym (entry_again q.descriptors fd d rising at))
    ∙ any_with_entry (λ (x : Descriptor). x.ino == m) q.descriptors fd d rising
    ∙ ap (λ b. b || has_open m (without_descriptor q fd)) other)

-- ---- close

pub closed_number : {p : Geometry} {map : SectorMap} {before : Tables} {place : OpenAt} {d : Descriptor} (o : IsOpened before place d) (s : State) → IsStateOf p map before s → IsNumber p Inodes d.ino
closed_number {d = d} o s at = let x = open_fits o s at in ((at.is_state.tree.each d.ino x.node x.is_there).positive, open_below o s at)

-- what is closed by a descriptor, or by a handle, is all that may be open no more
others_open : {p : Geometry} {map : SectorMap} {before : Tables} (place : OpenAt) (d : Descriptor) (o : IsOpened before place d) (s : State) → IsStateOf p map before s → (m : ℕ) → m ≢ d.ino
    → is_open (users_of (closed_in before place)) m ≡ is_open (users_of (tables_in s)) m
others_open {before = before} (places.Descriptor pid fd) d o s at m ne =
    let rising : IsMap nat_cmp before.processes = subst (λ (x : Tables). IsMap nat_cmp x.processes) at.same_tables at.is_state.pids in
    let fits = (at.is_state.processes at.up).each_process pid o.process (same_process at pid o.process o.there) in
    ap (λ b. has_open m (process_holding before.openings) || b)
    (ap (λ (x : ProcessTable). is_open x m) (changed_there before.processes pid o.process (λ q. without_descriptor q fd) o.there)
    ∙ still_open before.processes pid o.process (without_descriptor o.process fd) rising o.there m (open_besides o.process fd d fits.descriptors o.at m ne))
    ∙ ap (λ (x : Tables). is_open (users_of x) m) (sym at.same_tables)
others_open {before = before} (places.Handle handle offset) d o s at m ne =
    let e = handle_entry before.openings handle offset o.process d o.there o.at in
    let rising : IsMap nat_cmp before.openings = subst (λ (x : Tables). IsMap nat_cmp x.openings) at.same_tables at.is_state.handles in
    let other : m ≢ e.0.ino = λ same. ne (same ∙ ap (λ (x : Descriptor). x.ino) e.2) in
    ap (λ b. b || is_open before.processes m) (open_besides (process_holding before.openings) handle e.0 rising e.1 m other)
    ∙ ap (λ (x : Tables). is_open (users_of x) m) (sym at.same_tables)

pub closed_holds : {p : Geometry} {old new : TxnState} {before : Tables} {place : OpenAt} {d : Descriptor} (o : IsOpened before place d)
    → (s : State) → IsStateOf p old.sectors before s
    → LeavesInode p d.ino (is_open (users_of (closed_in before place)) d.ino) old new → HoldsAll p new.sectors (placed (swept s.tree (users_of (closed_in before place))))
closed_holds {p} {old} {new} {before} {place} {d} o s at leaves =
    let now = users_of (closed_in before place) in
    let was = users_of (tables_in s) in
    let x = open_fits o s at in
    let fits = at.is_state.processes at.up in
    let others = others_open place d o s at in
    let stood = node_stood s.room s.tree s.processes s.openings was at.is_state.tree fits d.ino x.node x.is_there (λ still. still) in
    let held : HoldsAll p old.sectors (placed (swept s.tree was)) =
    subst (λ (t : Tree). HoldsAll p old.sectors (placed t)) (sym (nothing_to_drop s.room s.tree s.processes s.openings at.is_state.tree fits)) at.holds in
    elim (left_node s.tree was now x.node (parent s.tree d.ino) (held_node (state_tree at) d.ino x.node x.is_there) x.no_link stood leaves) [
      | inl stay ↦
          kept (λ (m : SectorMap). HoldsAll p m (placed (swept s.tree now))) stay.1
          (close_held s.room s.tree at.is_state.tree was now d.ino others x.node x.is_there stood p old.sectors held stay.0)
      | inr gone ↦
          close_drop_held s.room s.tree at.is_state.tree was now d.ino others x.node x.is_there stood p old.sectors held new.sectors gone.0
          (open_below o s at) gone.1.touches.inode gone.1.clear gone.1.free
    ]
