-- A name that goes to another place, and what that leaves.
--     parented_fits        another parent fits an inode
--     there_is, nothing_there, is_nothing, is_something        what is replaced
--     few_renamed, touched_below        whose times move
--     dir_below, moved_below, moved_used, named_first, named_here, leads_first, may_lead        what stands before each part
--     entry_super, moved_same        the names have changed, and what was moved stands as before
--     lead_below, lead_room, lead_named        what stands before a name leads elsewhere
--     follow_super, moved_none        its parent, too; the whole where nothing was replaced
--     replaced_number, replaced_same, replaced_used, replaced_named, replaced_holds        what was replaced; the whole
--     may_remove_first        the first name may be removed
use Rattle.std.specs.Prelude.{◌≡◌, ◌≢◌, ◌⊎◌, ℕ, ◌+◌, ◌-◌, ◌==◌, ◌<◌, ◌≤◌, ◌^◌, Bool, true, false, not, ◌||◌, List, length, Option, None, Some, is_some, IsTrue, IsFalse}
use Rattle.std.proofs.Common.{refl, sym, ap, subst, arith, inl, inr, ◌∙◌}
use Rattle.std.proofs.lemmas.Bool.{ne_eqb}
use Rattle.fs_layout.specs.declared.inode.Inode.{Inode}
use Rattle.fs_layout.specs.declared.inode.Kind.{Kind}
use Rattle.fs_layout.specs.declared.inode.Kind.TheVariants as kinds
use Rattle.fs_layout.specs.declared.geometry.Geometry.{Geometry}
use Rattle.fs_layout.specs.Bytes.{SectorMap}
use Rattle.fs_layout.specs.Directories.{HasNames}
use Rattle.fs_layout.specs.Images.{free_sectors, inode_at}
use Rattle.fs_layout.specs.Inode.{FitsInode}
use Rattle.fs_layout.specs.Maps.{name_cmp, get, with_entry, without}
use Rattle.fs_layout.proofs.NameMaps.{once_same, lost_of}
use Rattle.fs_layout.proofs.Saves.{inode_kept}
use Rattle.sector_txn.specs.Sectors.{TxnState}
use Rattle.bit_alloc.specs.declared.bitmap.Bitmap.TheVariants.{Inodes}
use Rattle.bit_alloc.specs.Bitmaps.{IsNumber}
use Rattle.fs_model.specs.declared.walk.Found.{Found}
use Rattle.fs_model.specs.TreeChanges.{MoveName, changed, changed_at, swept, lives_nameless}
use Rattle.fs_model.specs.Limits.{root}
use Rattle.fs_model.specs.Nodes.{Node, is_directory, names_of_body}
use Rattle.fs_model.specs.Processes.{is_open}
use Rattle.call_parts.specs.BothTables.{Tables, users_of, tables_in}
use Rattle.fs_model.specs.Rules.{is_directory_kind}
use Rattle.fs_model.specs.Stands.{HoldsAll, placed}
use Rattle.fs_model.specs.States.{State}
use Rattle.fs_model.specs.StoredNodes.{Placed, HoldsNode}
use Rattle.fs_model.specs.Trees.{Room, names_of, parent, IsEntry}
use Rattle.fs_model.proofs.OneNode.{body_not_free}
use Rattle.fs_model.proofs.PlacedMoves.{middle, begun, arrived, apart_to, apart_from, begun_n, middle_held, begun_held, begun_here, parent_held, no_parent_held, move_held, m_not_from, m_not_to, arrived_m, move_take_held, move_drop_held}
use Rattle.fs_model.proofs.PlacedNodes.{held_at, node_below}
use Rattle.fs_model.proofs.StepsMoving.{MovesName, Between, moves_loses}
use Rattle.fs_model.proofs.StepsNaming.{renamed_node, renamed, are_names}
use Rattle.fs_model.proofs.StepsParents.{names_or, directory_named}
use Rattle.fs_model.proofs.StepsUp.{is_outside}
use Rattle.call_parts.specs.Performing.{IsStateOf, MayPerform}
use Rattle.call_parts.proofs.Calling.{state_tree}
use Rattle.call_parts.proofs.HeldChanges.{names_held, moved_held}
use Rattle.path_walk.proofs.HeldNodes.{Stands, stands, held_node, held_names, held_kind, names_say, number_below}
use Rattle.name_calls.specs.Dropping.{MayRemove, LosesName}
use Rattle.call_parts.proofs.Removed.{attributes_fit}
use Rattle.call_parts.specs.Given.{ChangesNames}
use Rattle.call_parts.specs.Times.{AreBelow}
use Rattle.name_calls.specs.Moving.{MayMove, MayLead, MovesEntry, within, across, ParentFollows, goes, stays, renamed_touches}
use Rattle.call_parts.specs.NewNodes.{HasName, MayBeNamed}
use Rattle.name_calls.specs.Renaming.{inode_there}
use Rattle.name_calls.proofs.Droppings.{removable}
use Rattle.name_calls.proofs.Takings.{field_named, left_counts, left_held, left_drops}

-- ---- another parent

pub parented_fits : (v : Inode) (parent : ℕ) → FitsInode v → v.kind ≢ kinds.Free → parent < 2 ^ 32 → FitsInode (record v { parent = parent })
parented_fits v parent fits used few = attributes_fit v v.uid v.gid v.names parent fits used fits.uid fits.gid fits.names few

other_kind_is : (k : Kind) → k ≢ kinds.Directory → is_directory_kind k ≡ false
other_kind_is kinds.Free ne = refl
other_kind_is kinds.File ne = refl
other_kind_is kinds.Directory ne = absurd (ne refl)
other_kind_is kinds.Link ne = refl

pub follow_super : {p : Geometry} {n dir_ino to_dir_ino : ℕ} {old new : SectorMap} → ParentFollows p n dir_ino to_dir_ino old new → new 0 ≡ old 0
follow_super (goes ne kind gets) = gets.super
follow_super (stays why same) = ap (λ (m : SectorMap). m 0) same

-- ---- what is replaced

pub there_is : (p : Geometry) (map : SectorMap) (o : Option ℕ) (m : ℕ) (v : Inode) → Some (m, v) ≡ inode_there p map o → (o ≡ Some m) × (v ≡ inode_at p map m)
there_is p map None m v e = absurd (cc)
there_is p map (Some k) m v e =
    let both : (m, v) ≡ (k, inode_at p map k) = cc in
    let same : m ≡ k = ap (λ (x : ℕ × Inode). x.0) both in
    (ap (λ (j : ℕ). Some j) (sym same), ap (λ (x : ℕ × Inode). x.1) both ∙ ap (inode_at p map) (sym same))

pub nothing_there : (p : Geometry) (map : SectorMap) (o : Option ℕ) (there : Option (ℕ × Inode)) → there ≡ inode_there p map o
    → ((x : ℕ × Inode) → there ≡ Some x → ⊥) → o ≡ None
nothing_there p map None there is none = refl
nothing_there p map (Some m) there is none = absurd (none (m, inode_at p map m) is)

-- as a test for None says it
pub is_nothing : (o : Option ℕ) (b : Bool) → is_some o ≡ not b → b ≡ true → o ≡ None
is_nothing None b is set = refl
is_nothing (Some m) b is set = absurd (let both : true ≡ false = is ∙ ap not set in cc)

pub is_something : (o : Option ℕ) (b : Bool) → is_some o ≡ not b → b ≡ false → o ≢ None
is_something None b is clear none = let both : false ≡ true = is ∙ ap not clear in cc
is_something (Some m) b is clear none = cc

-- ---- where a name may lead elsewhere

module _ (p : Geometry) (map : SectorMap) (dir_ino : ℕ) (name : List ℕ) where
  pub lead_below : (o : Option ℕ) → MayLead p map dir_ino name o → dir_ino < p.inodes
  lead_below None may = may.below
  lead_below (Some m) may = may.0

  pub lead_room : (o : Option ℕ) → o ≡ None → MayLead p map dir_ino name o → MayBeNamed p map dir_ino name
  lead_room None none may = may
  lead_room (Some m) none may = absurd (cc)

  pub lead_named : (o : Option ℕ) → o ≢ None → MayLead p map dir_ino name o → HasName p map dir_ino name
  lead_named None some may = absurd (some refl)
  lead_named (Some m) some may = may.1

-- four at most
pub few_renamed : (dir_ino to_dir_ino n : ℕ) (o : Option ℕ) → length (renamed_touches dir_ino to_dir_ino n o) + 11 ≤ 47
few_renamed dir_ino to_dir_ino n None = omega arith
few_renamed dir_ino to_dir_ino n (Some m) = omega arith

-- ---- a name that may move

module _ {p : Geometry} (old : TxnState) {tables : Tables} {s : State} (at : IsStateOf p old.sectors tables s) {dir_ino : ℕ} {name : List ℕ} {n to_dir_ino : ℕ} {to_name : List ℕ}
    {o : Option ℕ} (may : MayMove p old.sectors s dir_ino name n to_dir_ino to_name o) where
  abbrev directory : Node
  directory = may.directory.node

  abbrev to_directory : Node
  to_directory = may.to_directory.node

  still : (k : ℕ) → IsTrue (is_open (users_of (tables_in s)) k) → IsTrue (is_open (users_of tables) k)
  still k is = subst (λ (d : Tables). IsTrue (is_open (users_of d) k)) at.same_tables is

  moves : MovesName s.room s.tree (users_of (tables_in s)) dir_ino directory name n to_dir_ino to_directory to_name o
  moves = record {
    stands = may.directory.is_there;
    is_dir = may.directory.directory;
    leads = may.leads;
    to_stands = may.to_directory.is_there;
    is_to_dir = may.to_directory.directory;
    to_leads = may.to_leads;
    is_name = may.is_name;
    short = subst (λ (r : Room). length to_name ≤ r.name_limit) (sym at.same_room) may.short;
    bytes = may.bytes;
    other = may.other;
    has_room = λ none ne. subst (λ (r : Room). length (names_of_body to_directory.body) < r.entries_limit) (sym at.same_room) (may.has_room none ne).0;
    empty = λ m led d. ap names_or d.is_there ∙ may.empty m led d;
    unused = may.unused;
    outside = λ d. is_outside s.room s.tree n to_dir_ino at.is_state.tree may.to_directory (may.outside d);
  }

  target : Stands s.tree n
  target =
      stands s.tree n
      ((are_names s.room s.tree directory.body (at.is_state.tree.each dir_ino directory may.directory.is_there).body).each name n may.leads).leads.1

  abbrev is_dir : Placed
  is_dir = record { node = directory; names = names_of s.tree dir_ino; parent = parent s.tree dir_ino }

  abbrev is_target : Placed
  is_target = record { node = target.node; names = names_of s.tree n; parent = parent s.tree n }

  abbrev between : Between s.room s.tree (renamed s.tree dir_ino directory (without name_cmp (names_of_body directory.body) name)) to_dir_ino to_name o
  between = middle s at.is_state at.up (users_of tables) still dir_ino directory name n to_dir_ino to_directory to_name o moves target.node target.at

  abbrev fewer : List (List ℕ × ℕ)
  fewer = without name_cmp (names_of_body directory.body) name

  abbrev then_begun : ℕ → Option Placed
  then_begun = begun s at.is_state at.up (users_of tables) still dir_ino directory name n to_dir_ino to_directory to_name o moves target.node target.at

  abbrev then_arrived : ℕ → Option Placed
  then_arrived = arrived s at.is_state at.up (users_of tables) still dir_ino directory name n to_dir_ino to_directory to_name o moves target.node target.at

  pub dir_below : dir_ino < p.inodes
  dir_below = node_below s p at.is_state at.same_room dir_ino directory may.directory.is_there

  pub to_below : to_dir_ino < p.inodes
  to_below = node_below s p at.is_state at.same_room to_dir_ino to_directory may.to_directory.is_there

  pub moved_below : n < p.inodes
  moved_below = node_below s p at.is_state at.same_room n target.node target.at

  -- and so are those of all whose times move
  pub touched_below : AreBelow p.inodes (renamed_touches dir_ino to_dir_ino n o)
  touched_below = (dir_below, (to_below, (moved_below, go o refl)))
    where
      go : (x : Option ℕ) → o ≡ x → AreBelow p.inodes (changed_at x)
      go None e = tt
      go (Some m) e =
          let entry = (are_names s.room s.tree to_directory.body (at.is_state.tree.each to_dir_ino to_directory may.to_directory.is_there).body).each to_name m (may.to_leads ∙ e) in
          (number_below (state_tree at) m entry.leads.1, tt)

  dir_held : HoldsNode p.version old.sectors (inode_at p old.sectors dir_ino) is_dir
  dir_held = held_node (state_tree at) dir_ino directory may.directory.is_there

  pub moved_used : (inode_at p old.sectors n).kind ≢ kinds.Free
  moved_used e = body_not_free p.version old.sectors (inode_at p old.sectors n) target.node.body (held_node (state_tree at) n target.node target.at).body e

  dir_names : HasNames p.version old.sectors (inode_at p old.sectors dir_ino) (names_of_body directory.body)
  dir_names = held_names (state_tree at) dir_ino may.directory

  has_first : get name_cmp (names_of_body directory.body) name ≢ None
  has_first none = let both : None ≡ Some n = sym none ∙ may.leads in cc

  -- the directory has the name
  pub named_first : HasName p old.sectors dir_ino name
  named_first = (names_of_body directory.body, dir_names, has_first)

  -- and not the other one, where nothing is to be replaced in it
  pub named_here : dir_ino ≡ to_dir_ino → o ≡ None
      → (names : List (List ℕ × ℕ)) × HasNames p.version old.sectors (inode_at p old.sectors dir_ino) names × (get name_cmp names name ≢ None) × (get name_cmp names to_name ≡ None)
  named_here one none =
      let stands = may.directory.is_there in
      let also = may.to_directory.is_there in
      let same : directory ≡ to_directory = cc in (
        names_of_body directory.body,
        dir_names,
        has_first,
        ap (λ (u : Node). get name_cmp (names_of_body u.body) to_name) same ∙ may.to_leads ∙ none,
      )

  pub leads_first : HasNames p.version old.sectors (inode_at p old.sectors dir_ino) (names_of_body directory.body) × (get name_cmp (names_of_body directory.body) name ≡ Some n)
  leads_first = (dir_names, may.leads)

  -- ---- the name is gone from the directory

  module _ {mid : SectorMap} (removes : ChangesNames p dir_ino (λ names. without name_cmp names name) old.sectors mid) where
    here : HoldsNode p.version mid (inode_at p mid dir_ino) (record is_dir { node = renamed_node directory fewer })
    here =
        names_held old.sectors mid (inode_at p old.sectors dir_ino) (inode_at p mid dir_ino) is_dir dir_held fewer may.directory.directory
        removes.kept removes.acls (removes.named (names_of_body directory.body) dir_names)

    to_held : HoldsNode p.version mid (inode_at p mid to_dir_ino) (record { node = between.node; names = names_of s.tree to_dir_ino; parent = parent s.tree to_dir_ino })
    to_held =
        middle_held s at.is_state at.up (users_of tables) still dir_ino directory name n to_dir_ino to_directory to_name o moves target.node target.at p at.same_room
        old.sectors mid at.holds removes.change removes.used here

    to_names : HasNames p.version mid (inode_at p mid to_dir_ino) (names_of_body between.node.body)
    to_names = names_say p.version mid (inode_at p mid to_dir_ino) between.node.body between.directory to_held.body

    -- the other name may lead to what it led to
    pub may_lead : free_sectors p old.sectors ≤ free_sectors p mid + 0 → (o ≡ None → dir_ino ≢ to_dir_ino) → MayLead p mid to_dir_ino to_name o
    may_lead left differ = go o refl
      where
        go : (q : Option ℕ) → o ≡ q → MayLead p mid to_dir_ino to_name q
        go None e =
            let few = between.short e in
            let room = may.has_room e (differ e) in
            let enough = room.1 in
            record {
              below = to_below;
              is_name = may.is_name;
              short = may.short;
              names = names_of_body between.node.body;
              are = to_names;
              is_new = between.leads ∙ e;
              few = let free = subst (λ (r : Room). length (names_of_body between.node.body) + 1 ≤ r.entries_limit) at.same_room few in omega (arith, free);
              enough = omega (arith, enough, left);
            }
        go (Some m) e =
            (to_below, (names_of_body between.node.body, to_names, λ none. let both : None ≡ Some m = sym none ∙ between.leads ∙ e in cc))

  -- ---- both directories have their names

  entry_held : (new : SectorMap) → MovesEntry p dir_ino name n to_dir_ino to_name o old.sectors new → HoldsAll p new then_begun
  entry_held new (within one none c) =
      begun_here s at.is_state at.up (users_of tables) still dir_ino directory name n to_dir_ino to_directory to_name o moves target.node target.at p at.same_room
      old.sectors new at.holds one c.change c.used
      (names_held old.sectors new (inode_at p old.sectors dir_ino) (inode_at p new dir_ino) is_dir dir_held (with_entry name_cmp fewer to_name n) may.directory.directory
      c.kept c.acls (c.named (names_of_body directory.body) dir_names))
  entry_held new (across mid removes leads) =
      begun_held s at.is_state at.up (users_of tables) still dir_ino directory name n to_dir_ino to_directory to_name o moves target.node target.at p at.same_room
      old.sectors mid at.holds removes.change removes.used (here removes) new leads.change leads.used
      (names_held mid new (inode_at p mid to_dir_ino) (inode_at p new to_dir_ino) _ (to_held removes) (with_entry name_cmp (names_of_body between.node.body) to_name n)
      between.directory leads.kept leads.acls (leads.named (names_of_body between.node.body) (to_names removes)))

  pub entry_super : {new : SectorMap} → MovesEntry p dir_ino name n to_dir_ino to_name o old.sectors new → new 0 ≡ old.sectors 0
  entry_super (within one none c) = c.super
  entry_super (across mid removes leads) = leads.super ∙ removes.super

  -- no other inode changes
  entry_same : {new : SectorMap} → MovesEntry p dir_ino name n to_dir_ino to_name o old.sectors new → (x : ℕ) → x < p.inodes → x ≢ dir_ino → x ≢ to_dir_ino
      → inode_at p new x ≡ inode_at p old.sectors x
  entry_same {new} (within one none c) x below from to = inode_kept p x old.sectors new (c.change.table x below from)
  entry_same {new} (across mid removes leads) x below from to =
      inode_kept p x mid new (leads.change.table x below to) ∙ inode_kept p x old.sectors mid (removes.change.table x below from)

  module _ {mid : SectorMap} (entry : MovesEntry p dir_ino name n to_dir_ino to_name o old.sectors mid) where
    -- what was moved stands as before
    pub moved_same : inode_at p mid n ≡ inode_at p old.sectors n
    moved_same =
        entry_same entry n moved_below
        (apart_from s at.is_state at.up (users_of tables) still dir_ino directory name n to_dir_ino to_directory to_name o moves target.node target.at)
        (apart_to s at.is_state at.up (users_of tables) still dir_ino directory name n to_dir_ino to_directory to_name o moves target.node target.at)

    target_held : HoldsNode p.version mid (inode_at p mid n) is_target
    target_held =
        held_at p mid then_begun (entry_held mid entry) n moved_below is_target
        (begun_n s at.is_state at.up (users_of tables) still dir_ino directory name n to_dir_ino to_directory to_name o moves target.node target.at p at.same_room)

    target_kind : is_directory_kind (inode_at p mid n).kind ≡ is_directory target.node.body
    target_kind = ap (λ (v : Inode). is_directory_kind v.kind) moved_same ∙ held_kind (state_tree at) n target.node target.at

    -- ---- and what was moved has its parent

    module _ {now : SectorMap} (follows : ParentFollows p n dir_ino to_dir_ino mid now) where
      followed : HoldsAll p now then_arrived
      followed = go follows
        where
          go : ParentFollows p n dir_ino to_dir_ino mid now → HoldsAll p now then_arrived
          go (goes ne kind gets) =
              let is : IsTrue (is_directory target.node.body) = sym target_kind ∙ ap is_directory_kind kind in
              parent_held s at.is_state at.up (users_of tables) still dir_ino directory name n to_dir_ino to_directory to_name o moves target.node target.at p at.same_room
              mid now (entry_held mid entry) is gets.change gets.used
              (moved_held mid now (inode_at p mid n) (inode_at p now n) is_target target_held to_dir_ino is gets.saved gets.bytes gets.acls)
          go (stays why same) =
              let none : IsFalse (is_directory target.node.body) ⊎ (dir_ino ≡ to_dir_ino) = elim why [
                | inl ne ↦ inl (sym target_kind ∙ other_kind_is (inode_at p mid n).kind ne)
                | inr one ↦ inr one
              ] in
              subst (λ (m : SectorMap). HoldsAll p m then_arrived) (sym same)
              (no_parent_held s at.is_state at.up (users_of tables) still dir_ino directory name n to_dir_ino to_directory to_name o moves target.node target.at p at.same_room
              mid (entry_held mid entry) none)

      follow_same : (x : ℕ) → x < p.inodes → x ≢ n → inode_at p now x ≡ inode_at p mid x
      follow_same x below other = go follows
        where
          go : ParentFollows p n dir_ino to_dir_ino mid now → inode_at p now x ≡ inode_at p mid x
          go (goes ne kind gets) = inode_kept p x mid now (gets.change.table x below other)
          go (stays why same) = ap (λ (m : SectorMap). inode_at p m x) same

      -- nothing was replaced
      pub moved_none : o ≡ None → HoldsAll p now (placed (swept (changed s.tree (MoveName dir_ino name to_dir_ino to_name)) (users_of tables)))
      moved_none =
          move_held s at.is_state at.up (users_of tables) still dir_ino directory name n to_dir_ino to_directory to_name o moves target.node target.at p at.same_room now followed

      -- ---- what was replaced

      module _ {m : ℕ} (led : o ≡ Some m) where
        entry_is : IsEntry s.room s.tree to_name m
        entry_is =
            (are_names s.room s.tree to_directory.body (at.is_state.tree.each to_dir_ino to_directory may.to_directory.is_there).body).each to_name m
            (may.to_leads ∙ led)

        replaced : Stands s.tree m
        replaced = stands s.tree m entry_is.leads.1

        abbrev is_replaced : Placed
        is_replaced = record { node = replaced.node; names = names_of s.tree m; parent = parent s.tree m }

        pub replaced_number : IsNumber p Inodes m
        replaced_number = ((at.is_state.tree.each m replaced.node replaced.at).positive, node_below s p at.is_state at.same_room m replaced.node replaced.at)

        -- the inode of what is replaced stands as before
        pub replaced_same : inode_at p now m ≡ inode_at p old.sectors m
        replaced_same =
            follow_same m replaced_number.1 (may.other m led)
            ∙ entry_same entry m replaced_number.1
            (m_not_from s at.is_state at.up (users_of tables) still dir_ino directory name n to_dir_ino to_directory to_name o moves target.node target.at p at.same_room m led replaced.node replaced.at)
            (m_not_to s at.is_state at.up (users_of tables) still dir_ino directory name n to_dir_ino to_directory to_name o moves target.node target.at p at.same_room m led replaced.node replaced.at)

        was_held : HoldsNode p.version old.sectors (inode_at p old.sectors m) is_replaced
        was_held = held_node (state_tree at) m replaced.node replaced.at

        pub replaced_used : (inode_at p old.sectors m).kind ≢ kinds.Free
        replaced_used e = body_not_free p.version old.sectors (inode_at p old.sectors m) replaced.node.body was_held.body e

        some_name : 1 ≤ names_of s.tree m
        some_name =
            let all = (moves_loses s.room s.tree (users_of (tables_in s)) dir_ino directory name n to_dir_ino to_directory to_name o at.is_state.tree moves).counts m in
            let one : lost_of o m ≡ 1 = ap (λ q. lost_of q m) led ∙ once_same m m refl in
            omega (arith, all, one)

        pub replaced_named : 1 ≤ (inode_at p old.sectors m).names
        replaced_named = subst (λ (k : ℕ). 1 ≤ k) (sym was_held.names) (field_named replaced.node.body (names_of s.tree m) some_name)

        other : (m == root) ≡ false
        other = ne_eqb m root entry_is.leads.0

        one_name : IsTrue (is_directory replaced.node.body) → names_of s.tree m ≡ 1
        one_name d =
            directory_named s.room s.tree at.is_state.tree m (record { node = replaced.node; is_there = replaced.at; directory = d }) entry_is.leads.0

        replaced_held : HoldsNode p.version now (inode_at p now m) is_replaced
        replaced_held =
            held_at p now then_arrived followed m replaced_number.1 is_replaced
            (arrived_m s at.is_state at.up (users_of tables) still dir_ino directory name n to_dir_ino to_directory to_name o moves target.node target.at p at.same_room m led replaced.node replaced.at)

  -- ---- and what was replaced loses its name

  module _ {mid : SectorMap} (entry : MovesEntry p dir_ino name n to_dir_ino to_name o old.sectors mid) {now : TxnState} (follows : ParentFollows p n dir_ino to_dir_ino mid now.sectors) {m : ℕ}
      (led : o ≡ Some m) {new : TxnState} (opened : Bool) (is : opened ≡ is_open (users_of tables) m) (loses : LosesName p m opened now new) where
    abbrev node : Node
    node = (replaced entry follows led).node

    pub replaced_holds : HoldsAll p new.sectors (placed (swept (changed s.tree (MoveName dir_ino name to_dir_ino to_name)) (users_of tables)))
    replaced_holds = go (not (names_of s.tree m - 1 == 0) || lives_nameless (users_of tables) m node.body) refl
      where
        go : (b : Bool) → (not (names_of s.tree m - 1 == 0) || lives_nameless (users_of tables) m node.body) ≡ b
            → HoldsAll p new.sectors (placed (swept (changed s.tree (MoveName dir_ino name to_dir_ino to_name)) (users_of tables)))
        go true stay =
            let counts = left_counts (users_of tables) (replaced_held entry follows led) (one_name entry follows led) (other entry follows led) opened is loses stay in
            move_take_held s at.is_state at.up (users_of tables) still dir_ino directory name n to_dir_ino to_directory to_name o moves target.node target.at p at.same_room
            m led node (replaced entry follows led).at now.sectors new.sectors (followed entry follows) counts.touches.inode stay counts.used
            (left_held (users_of tables) (replaced_held entry follows led) (one_name entry follows led) (other entry follows led) opened is loses stay
            (parent (changed s.tree (MoveName dir_ino name to_dir_ino to_name)) m))
        go false gone =
            let drops = left_drops (users_of tables) (replaced_held entry follows led) (one_name entry follows led) (other entry follows led) opened is loses gone in
            move_drop_held s at.is_state at.up (users_of tables) still dir_ino directory name n to_dir_ino to_directory to_name o moves target.node target.at p at.same_room
            m led node (replaced entry follows led).at now.sectors new.sectors (followed entry follows) drops.touches.inode gone drops.clear drops.free

-- the first name may be removed
pub may_remove_first : {p : Geometry} {old : TxnState} {tables : Tables} (f g : Found) {n : ℕ} (ready : MayPerform p old tables)
    → MayMove p old.sectors ready.state f.dir_ino f.name n g.dir_ino g.name g.ino → MayRemove p f old
may_remove_first {old = old} f g ready may = removable f ready (dir_below old ready.is_state may) (named_first old ready.is_state may)
