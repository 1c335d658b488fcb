-- A name that is taken from its directory, and what it led to.
--     named_there, is_number, target_held, target_named        what stands before
--     target_same        what it leads to stands as before, once the name is gone from the directory
--     field_named, field_is        the count of names that an inode stores
--     left_counts, left_held, left_drops        what is left of a node that loses a name
--     taken_holds        the map holds the tree without the name
--     may_remove        the name that was found may be removed
use Rattle.std.specs.Prelude.{◌≡◌, ◌≢◌, ℕ, ◌-◌, ◌==◌, ◌<◌, ◌≤◌, Bool, true, false, not, ◌||◌, List, None, Some, IsTrue, IsFalse}
use Rattle.std.proofs.Common.{refl, sym, ap, subst, arith, ◌∙◌}
use Rattle.std.proofs.lemmas.Bool.{ne_eqb}
use Rattle.fs_layout.specs.declared.inode.Inode.{Inode}
use Rattle.fs_layout.specs.declared.inode.Kind.{Kind}
use Rattle.fs_layout.specs.declared.inode.Kind.TheVariants as kinds
use Rattle.fs_layout.specs.declared.geometry.Geometry.{Geometry}
use Rattle.fs_layout.specs.declared.version.Version.{Version}
use Rattle.fs_layout.specs.Bytes.{SectorMap}
use Rattle.fs_layout.specs.Directories.{HasNames}
use Rattle.fs_layout.specs.Images.{inode_at}
use Rattle.fs_layout.specs.Maps.{name_cmp, without}
use Rattle.fs_layout.proofs.NameMaps.{once_same}
use Rattle.fs_layout.proofs.Saves.{inode_kept}
use Rattle.sector_txn.specs.Sectors.{TxnState}
use Rattle.bit_alloc.specs.declared.bitmap.Bitmap.TheVariants.{Inodes}
use Rattle.bit_alloc.specs.Bitmaps.{IsNumber}
use Rattle.fs_model.specs.declared.walk.Found.{Found}
use Rattle.fs_model.specs.TreeChanges.{TakeName, changed, swept, lives_nameless}
use Rattle.fs_model.specs.Limits.{root}
use Rattle.fs_model.specs.Nodes.{Node, Body, File, Dir, Link, is_directory, names_of_body}
use Rattle.fs_model.specs.Processes.{ProcessTable, is_open}
use Rattle.call_parts.specs.BothTables.{Tables, users_of, tables_in}
use Rattle.fs_model.specs.Stands.{HoldsAll, placed}
use Rattle.fs_model.specs.States.{State}
use Rattle.fs_model.specs.StoredNodes.{Placed, HoldsBody, HoldsNode, names_field}
use Rattle.fs_model.specs.Trees.{names_of, parent, IsDirectoryAt}
use Rattle.fs_model.proofs.PlacedChanges.{take_held, drop_held}
use Rattle.fs_model.proofs.PlacedNames.{taken_apart}
use Rattle.fs_model.proofs.PlacedNodes.{placed_from, placing, placing_other, one_replaced, held_at, node_below}
use Rattle.fs_model.proofs.StepsNaming.{renamed_node, are_names}
use Rattle.fs_model.proofs.StepsParents.{names_or, directory_named}
use Rattle.fs_model.proofs.StepsTaking.{TakesName, takes_loses}
use Rattle.call_parts.specs.Performing.{IsStateOf, MayPerform}
use Rattle.call_parts.proofs.Calling.{state_tree}
use Rattle.call_parts.proofs.HeldChanges.{names_held, counted_held}
use Rattle.path_walk.proofs.HeldNodes.{held_node, held_names}
use Rattle.call_parts.specs.Dropping.{Drops, Counts, RemovesName}
use Rattle.call_parts.specs.NewNodes.{HasName}
use Rattle.name_calls.specs.Dropping.{MayRemove, LosesName, stays_with}
use Rattle.name_calls.specs.Removing.{MayGo}
use Rattle.name_calls.proofs.Droppings.{removable}

-- ---- whether it stays, as its inode says it

pub field_named : (b : Body) (names : ℕ) → 1 ≤ names → 1 ≤ names_field b names
field_named (File a bytes) names some = some
field_named (Dir a d) names some = omega arith
field_named (Link target) names some = some

-- what is no directory stores its count of names
pub field_is : (b : Body) (names : ℕ) → IsFalse (is_directory b) → names_field b names ≡ names
field_is (File a bytes) names other = refl
field_is (Dir a d) names other = absurd (cc)
field_is (Link target) names other = refl

stays_says : (version : Version) (image : SectorMap) (v : Inode) (b : Body) (names n : ℕ) (users : ProcessTable) (opened : Bool) → HoldsBody version image v b → v.names ≡ names_field b names
    → (IsTrue (is_directory b) → names ≡ 1) → (n == root) ≡ false → opened ≡ is_open users n
    → stays_with v.kind (v.names - 1) opened ≡ (not (names - 1 == 0) || lives_nameless users n b)
stays_says version image v (File a bytes) names n users opened h are one other is =
    ap (λ (k : Kind). stays_with k (v.names - 1) opened) h.kind ∙ ap (λ m. stays_with kinds.File (m - 1) opened) are
    ∙ ap (λ o. not (names - 1 == 0) || o) is
stays_says version image v (Dir a d) names n users opened h are one other is =
    ap (λ (k : Kind). stays_with k (v.names - 1) opened) h.names.kind ∙ ap (λ m. stays_with kinds.Directory (m - 1) opened) are
    ∙ sym (ap (λ m. not (m - 1 == 0) || n == root) (one refl) ∙ other)
stays_says version image v (Link target) names n users opened h are one other is =
    ap (λ (k : Kind). stays_with k (v.names - 1) opened) h.kind ∙ ap (λ m. stays_with kinds.Link (m - 1) opened) are
    ∙ sym (ap (λ o. not (names - 1 == 0) || o) other)

-- an inode of this node loses a name
module _ {p : Geometry} {n : ℕ} (users : ProcessTable) {mid new : TxnState} {node : Node} {names up : ℕ}
    (held : HoldsNode p.version mid.sectors (inode_at p mid.sectors n) (record { node = node; names = names; parent = up })) (one : IsTrue (is_directory node.body) → names ≡ 1)
    (other : (n == root) ≡ false) (opened : Bool) (is : opened ≡ is_open users n) (loses : LosesName p n opened mid new) where
  abbrev v : Inode
  v = inode_at p mid.sectors n

  stays_is : stays_with v.kind (v.names - 1) opened ≡ (not (names - 1 == 0) || lives_nameless users n node.body)
  stays_is = stays_says p.version mid.sectors v node.body names n users opened held.body held.names one other is

  -- no directory stays
  no_directory : (not (names - 1 == 0) || lives_nameless users n node.body) ≡ true → is_directory node.body ≡ false
  no_directory stay = go node.body refl
    where
      go : (b : Body) → node.body ≡ b → is_directory b ≡ false
      go (File a bytes) e = refl
      go (Link target) e = refl
      go (Dir a d) e =
          let single = one (ap is_directory e) in
          let goes : (not (names - 1 == 0) || lives_nameless users n node.body) ≡ false =
          ap (λ k. not (k - 1 == 0) || lives_nameless users n node.body) single ∙ ap (lives_nameless users n) e ∙ other in
          absurd (let both : true ≡ false = sym stay ∙ goes in cc)

  pub left_counts : (not (names - 1 == 0) || lives_nameless users n node.body) ≡ true → Counts p n (v.names - 1) mid new
  left_counts stay = loses.stays (stays_is ∙ stay)

  pub left_held : (not (names - 1 == 0) || lives_nameless users n node.body) ≡ true → (above : ℕ)
      → HoldsNode p.version new.sectors (inode_at p new.sectors n) (record { node = node; names = names - 1; parent = above })
  left_held stay above =
      let counts = left_counts stay in
      let file = no_directory stay in
      counted_held mid.sectors new.sectors v (inode_at p new.sectors n) (record { node = node; names = names; parent = up }) held (names - 1) above file
      (counts.saved ∙ ap (λ (k : ℕ). record v { names = k - 1 }) (held.names ∙ field_is node.body names file)) counts.bytes counts.acls

  pub left_drops : (not (names - 1 == 0) || lives_nameless users n node.body) ≡ false → Drops p n mid new
  left_drops goes = loses.goes (stays_is ∙ goes)

module _ {p : Geometry} (old : TxnState) {tables : Tables} {s : State} (at : IsStateOf p old.sectors tables s) {dir_ino : ℕ} {name : List ℕ} {n : ℕ} (may : MayGo s dir_ino name n) where
  abbrev directory : Node
  directory = may.directory.node

  -- ---- what stands before

  is_target : IsDirectoryAt s.tree n → IsTrue (is_directory may.target.body)
  is_target d =
      let stands = d.is_there in
      let there = may.there in
      let same : d.node ≡ may.target = cc in
      ap (λ (u : Node). is_directory u.body) (sym same) ∙ d.directory

  takes : TakesName s.tree (users_of (tables_in s)) dir_ino directory name n
  takes = record {
    stands = may.directory.is_there;
    is_dir = may.directory.directory;
    leads = may.leads;
    empty = λ d. ap names_or may.there ∙ may.empty (is_target d);
    unused = λ d. may.unused (is_target d);
  }

  still : (k : ℕ) → IsTrue (is_open (users_of (tables_in s)) k) → IsTrue (is_open (users_of tables) k)
  still k is = subst (λ (d : Tables). IsTrue (is_open (users_of d) k)) at.same_tables is

  pub dir_below : dir_ino < p.inodes
  dir_below = node_below s p at.is_state at.same_room dir_ino directory may.directory.is_there

  pub is_number : IsNumber p Inodes n
  is_number = ((at.is_state.tree.each n may.target may.there).positive, node_below s p at.is_state at.same_room n may.target may.there)

  apart : n ≢ dir_ino
  apart = taken_apart s at.is_state at.up (users_of tables) still dir_ino directory name n takes

  dir_held : HoldsNode p.version old.sectors (inode_at p old.sectors dir_ino) (record { node = directory; names = names_of s.tree dir_ino; parent = parent s.tree dir_ino })
  dir_held = held_node (state_tree at) dir_ino directory may.directory.is_there

  dir_names : HasNames p.version old.sectors (inode_at p old.sectors dir_ino) (names_of_body directory.body)
  dir_names = held_names (state_tree at) dir_ino may.directory

  -- the directory has the name
  pub named_there : HasName p old.sectors dir_ino name
  named_there = (names_of_body directory.body, dir_names, λ none. let both : None ≡ Some n = sym none ∙ may.leads in cc)

  not_root : n ≢ root
  not_root = ((are_names s.room s.tree directory.body (at.is_state.tree.each dir_ino directory may.directory.is_there).body).each name n may.leads).leads.0

  other : (n == root) ≡ false
  other = ne_eqb n root not_root

  one_name : IsTrue (is_directory may.target.body) → names_of s.tree n ≡ 1
  one_name d = directory_named s.room s.tree at.is_state.tree n (record { node = may.target; is_there = may.there; directory = d }) not_root

  some_name : 1 ≤ names_of s.tree n
  some_name =
      let all = (takes_loses s.room s.tree (users_of (tables_in s)) dir_ino directory name n at.is_state.tree takes).counts n in
      let one = once_same n n refl in
      omega (arith, all, one)

  -- ---- the name is gone from the directory

  module _ {mid : TxnState} (removes : RemovesName p dir_ino name old mid) where
    abbrev fewer : Placed
    fewer = record { node = renamed_node directory (without name_cmp (names_of_body directory.body) name); names = names_of s.tree dir_ino; parent = parent s.tree dir_ino }

    here : HoldsNode p.version mid.sectors (inode_at p mid.sectors dir_ino) fewer
    here =
        names_held old.sectors mid.sectors (inode_at p old.sectors dir_ino) (inode_at p mid.sectors dir_ino)
        (record { node = directory; names = names_of s.tree dir_ino; parent = parent s.tree dir_ino }) dir_held (without name_cmp (names_of_body directory.body) name)
        may.directory.directory removes.names.kept removes.names.acls (removes.names.named (names_of_body directory.body) dir_names)

    -- what it led to stands as before
    pub target_same : inode_at p mid.sectors n ≡ inode_at p old.sectors n
    target_same = inode_kept p n old.sectors mid.sectors (removes.touches.inode.table n is_number.1 apart)

    pub target_held : HoldsNode p.version mid.sectors (inode_at p mid.sectors n) (record { node = may.target; names = names_of s.tree n; parent = parent s.tree n })
    target_held =
        held_at p mid.sectors (placing dir_ino (Some fewer) (placed s.tree))
        (one_replaced p dir_ino old.sectors mid.sectors (placed s.tree) at.holds dir_below removes.touches.inode _ _
        (placed_from s.tree dir_ino (Some directory) _ _ may.directory.is_there refl refl) here removes.names.used)
        n is_number.1 (record { node = may.target; names = names_of s.tree n; parent = parent s.tree n })
        (placing_other dir_ino (Some fewer) (placed s.tree) n apart ∙ placed_from s.tree n (Some may.target) _ _ may.there refl refl)

    pub target_named : 1 ≤ (inode_at p mid.sectors n).names
    target_named = subst (λ (k : ℕ). 1 ≤ k) (sym target_held.names) (field_named may.target.body (names_of s.tree n) some_name)

    -- ---- and it loses the name

    module _ {new : TxnState} (opened : Bool) (is : opened ≡ is_open (users_of tables) n) (loses : LosesName p n opened mid new) where
      pub taken_holds : HoldsAll p new.sectors (placed (swept (changed s.tree (TakeName dir_ino name)) (users_of tables)))
      taken_holds = go (not (names_of s.tree n - 1 == 0) || lives_nameless (users_of tables) n may.target.body) refl
        where
          go : (b : Bool) → (not (names_of s.tree n - 1 == 0) || lives_nameless (users_of tables) n may.target.body) ≡ b
              → HoldsAll p new.sectors (placed (swept (changed s.tree (TakeName dir_ino name)) (users_of tables)))
          go true stay =
              let counts = left_counts (users_of tables) target_held one_name other opened is loses stay in
              take_held s at.is_state at.up (users_of tables) still p old.sectors at.holds at.same_room mid.sectors new.sectors dir_ino directory name n may.target takes may.there
              removes.touches.inode removes.names.used here counts.touches.inode stay counts.used
              (left_held (users_of tables) target_held one_name other opened is loses stay (parent (changed s.tree (TakeName dir_ino name)) n))
          go false goes =
              let drops = left_drops (users_of tables) target_held one_name other opened is loses goes in
              drop_held s at.is_state at.up (users_of tables) still p old.sectors at.holds at.same_room mid.sectors new.sectors dir_ino directory name n may.target takes may.there
              removes.touches.inode removes.names.used here drops.touches.inode goes drops.clear drops.free

-- the name that was found may be removed
pub may_remove : {p : Geometry} {old : TxnState} {tables : Tables} (f : Found) {n : ℕ} (ready : MayPerform p old tables) → MayGo ready.state f.dir_ino f.name n → MayRemove p f old
may_remove {old = old} f ready may = removable f ready (dir_below old ready.is_state may) (named_there old ready.is_state may)
