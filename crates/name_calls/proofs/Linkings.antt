-- One more name for what is no directory.
--     link_by_two        the row of link
--     IsLinkable, link_told        where all that is asked is met
--     name_at        the directory in which the name is new
--     link_may, few_names        the name may be given
--     target_below, linked_below, dir_same, dir_room, link_holds        the count of names, the directory, and both
--     link_changed        the name was given
use Rattle.call_parts.specs.BothTables.{Tables, users_of}
use Rattle.std.specs.Prelude.{true}
use Rattle.call_parts.specs.Callers.{Who}
use Rattle.call_parts.proofs.Starts.{may_make}
use Rattle.std.specs.Prelude.{◌≡◌, ◌≢◌, ℕ, ◌+◌, ◌-◌, ◌<◌, ◌≤◌, nat_lt, nat_le, true, false, List, [], ◌∷◌, ◌++◌, length, None, Some, IsTrue, Ok}
use Rattle.std.proofs.Common.{refl, sym, ap, subst, arith, ◌∙◌}
use Rattle.std.proofs.lemmas.Bool.Decides.{nat_tests}
use Rattle.fs_cred.specs.declared.errno.Errno.TheVariants.{ENOSPC}
use Rattle.fs_layout.specs.declared.inode.Inode.{Inode}
use Rattle.fs_layout.specs.declared.inode.Kind.TheVariants as kinds
use Rattle.fs_layout.specs.declared.geometry.Geometry.{Geometry}
use Rattle.fs_layout.specs.Bytes.{SectorMap}
use Rattle.fs_layout.specs.Directories.{HasNames}
use Rattle.fs_layout.specs.Images.{inode_at}
use Rattle.fs_layout.specs.Maps.{name_cmp, with_entry}
use Rattle.fs_layout.specs.Version.{max_inode_names}
use Rattle.fs_layout.proofs.Saves.{inode_kept}
use Rattle.sector_txn.specs.Sectors.{TxnState, IsUnchanged}
use Rattle.fs_model.specs.declared.call.Call.TheVariants.{Link}
use Rattle.fs_model.specs.declared.reply.Reply.TheVariants.{Done}
use Rattle.fs_model.specs.declared.walk.Found.{Found}
use Rattle.fs_model.specs.Births.{the_node}
use Rattle.fs_model.specs.declared.touch.Touch.TheVariants.{Changed, Modified}
use Rattle.fs_model.specs.TreeChanges.{AddName, changed, touches_of, swept}
use Rattle.fs_model.specs.Demands.{Demand, refuse, first_of, permission_on, write_and_search}
use Rattle.fs_model.specs.Limits.{least_free}
use Rattle.fs_model.specs.NameCalls.{link_demands, link_count_demand, link_effect}
use Rattle.fs_model.specs.Nodes.{Node, is_directory, names_of_body}
use Rattle.fs_model.specs.Processes.{Process, is_open}
use Rattle.fs_model.specs.Rows.{row_of}
use Rattle.fs_model.specs.Scenes.{found_ino}
use Rattle.fs_model.specs.Stands.{HoldsAll, placed}
use Rattle.fs_model.specs.States.{State}
use Rattle.fs_model.specs.StoredNodes.{Placed, HoldsNode}
use Rattle.fs_model.specs.Trees.{Room, names_of, parent, IsDirectoryAt}
use Rattle.fs_model.proofs.OneNode.{body_not_free}
use Rattle.fs_model.proofs.PlacedChanges.{add_held}
use Rattle.fs_model.proofs.PlacedNodes.{placed_from, placing, placing_other, one_replaced, held_at, node_below}
use Rattle.fs_model.proofs.StepsAdding.{GivesName}
use Rattle.fs_model.proofs.StepsDemands.{first_met, then_met, unrefused, link_count_met}
use Rattle.fs_model.proofs.StepsFound.{IsNameAt}
use Rattle.path_walk.specs.Answers.{refused_or}
use Rattle.call_parts.specs.Times.{AreBelow}
use Rattle.call_parts.specs.Performing.{IsStateOf}
use Rattle.call_parts.proofs.Calling.{state_tree, state_kept, first_of-append, met_ok}
use Rattle.call_parts.proofs.HeldChanges.{names_held, counted_held}
use Rattle.path_walk.proofs.HeldNodes.{held_node, names_say}
use Rattle.path_walk.proofs.Kept.{kept}
use Rattle.call_parts.proofs.Changed.{IsChange}
use Rattle.call_parts.proofs.Shown.{the_node_is}
use Rattle.call_parts.specs.Dropping.{Counts}
use Rattle.call_parts.specs.Altering.{HoldsChange}
use Rattle.name_calls.specs.Linking.{source_asked, MayLink, MayLinkAt}
use Rattle.call_parts.specs.NewNodes.{MayBeNamed, NamesInode, link_name_asked}
use Rattle.call_parts.specs.TwoPaths.{scene_with, FindsBoth}
use Rattle.name_calls.proofs.BornLinks.{is_link_name}
use Rattle.call_parts.specs.Reaching.{WalksBoth, IsInodeFound}
use Rattle.call_parts.proofs.FoundBoth.{second_walked}
use Rattle.name_calls.proofs.LinkAsked.{source_inode, source_node, source_kind, source_names}
use Rattle.name_calls.proofs.Takings.{field_is}

-- ---- the row

pub link_by_two : {who : Who} → (old new : List ℕ) → WalksBoth who (Link old new) true old new link_demands link_effect
unfolding row_of
link_by_two {who} old new = record { row = refl; asks = refl; opens = refl; may = may_make who _ refl refl }

-- ---- all is met

pub record IsLinkable (p : Geometry) (map : SectorMap) (s : State) (q : Process) (f g : Found) (n : ℕ) (v d : Inode) : Type 0 where
  pub met : first_of (link_demands (scene_with s q f g)) ≡ None
  pub source_met : first_of (source_asked s.tree f) ≡ None
  pub name_met : first_of (link_name_asked g) ≡ None
  pub inode : IsInodeFound p map f n v
  pub directory : d ≡ inode_at p map g.dir_ino

-- what is asked of the directory of the second path
abbrev place_demands : State → Process → Found → Found → List Demand
place_demands s q f g =
    permission_on q.cred s.tree g.dir_ino write_and_search 2 (g.step - 1)
    ∷ link_count_demand s.room.names_limit (names_of s.tree (found_ino f))
    ∷ refuse ENOSPC (nat_lt s.free least_free)
    ∷ refuse ENOSPC (nat_le s.room.entries_limit (length (names_of_body (the_node s.tree g.dir_ino).body)))
    ∷ []

parts : (s : State) (q : Process) (f g : Found) → first_of (link_demands (scene_with s q f g)) ≡ None
    → (first_of (source_asked s.tree f) ≡ None) × (first_of (link_name_asked g) ≡ None) × (first_of (place_demands s q f g) ≡ None)
parts s q f g met =
    let one = sym (first_of-append (source_asked s.tree f) (link_name_asked g ++ place_demands s q f g)) ∙ met in
    let rest = then_met (first_of (source_asked s.tree f)) (first_of (link_name_asked g ++ place_demands s q f g)) one in
    let two = sym (first_of-append (link_name_asked g) (place_demands s q f g)) ∙ rest in (
      first_met (first_of (source_asked s.tree f)) (first_of (link_name_asked g ++ place_demands s q f g)) one,
      first_met (first_of (link_name_asked g)) (first_of (place_demands s q f g)) two,
      then_met (first_of (link_name_asked g)) (first_of (place_demands s q f g)) two,
    )

module _ {p : Geometry} {map : SectorMap} {q : Process} {f g : Found} (s : State) {n : ℕ} {v d : Inode} where
  pub link_told : refused_or {A = ℕ × Inode × Inode} (first_of (link_demands (scene_with s q f g)))
      (Ok (found_ino f, inode_at p map (found_ino f), inode_at p map g.dir_ino)) ≡ Ok (n, v, d) → IsLinkable p map s q f g n v d
  link_told is =
      let both = met_ok {A = ℕ × Inode × Inode} (first_of (link_demands (scene_with s q f g)))
      (found_ino f, inode_at p map (found_ino f), inode_at p map g.dir_ino) (n, v, d) is in
      let all = parts s q f g both.0 in
      let k = source_inode s.tree f p map {n = n} {v = v}
      (ap (λ (o : Demand). refused_or {A = ℕ × Inode} o (Ok (found_ino f, inode_at p map (found_ino f)))) all.0
      ∙ ap (λ (x : ℕ × Inode × Inode). Ok (x.0, x.1)) both.1) in
      record {
        met = both.0;
        source_met = all.0;
        name_met = all.1;
        inode = k.1;
        directory = sym (ap (λ (x : ℕ × Inode × Inode). x.2) both.1);
      }

module _ {p : Geometry} {map : SectorMap} {tables : Tables} {q : Process} {f g : Found} {s : State} (i : FindsBoth p map tables q f g s) where
  -- the name is new in a directory
  pub name_at : first_of (link_name_asked g) ≡ None → IsNameAt s.room s.tree g.dir_ino g.name None
  name_at met = (second_walked i).new (is_link_name g (ap (λ (o : Demand). refused_or {A = Unit {0}} o (Ok tt)) met)).1

  pub name_dir : first_of (link_name_asked g) ≡ None → IsDirectoryAt s.tree g.dir_ino
  name_dir met = let x = name_at met in record { node = x.node; is_there = x.stands; directory = x.directory }

  module _ {n : ℕ} {v d : Inode} (l : IsLinkable p map s q f g n v d) where
    last_met : first_of (place_demands s q f g) ≡ None
    last_met = (parts s q f g l.met).2

    few_are : names_of s.tree n < max_inode_names p.version
    few_are =
        let two = then_met (permission_on q.cred s.tree g.dir_ino write_and_search 2 (g.step - 1)) _ last_met in
        let many : nat_le s.room.names_limit (names_of s.tree (found_ino f)) ≡ false =
        link_count_met s.room.names_limit (names_of s.tree (found_ino f)) (first_met (link_count_demand s.room.names_limit (names_of s.tree (found_ino f))) _ two) in
        let few : names_of s.tree (found_ino f) < s.room.names_limit = grind (arith, nat_tests) in
        subst (λ (r : Room). names_of s.tree n < r.names_limit) i.is_state.same_room
        (subst (λ (m : ℕ). names_of s.tree m < s.room.names_limit) l.inode.number few)

    pub few_names : v.names < max_inode_names p.version
    few_names = subst (λ (m : ℕ). m < max_inode_names p.version) (sym (source_names i l.source_met l.name_met l.inode)) few_are

    pub link_may : MayLink p map s.tree g.dir_ino g.name n
    unfolding name_at name_dir
    link_may =
        let x = name_at l.name_met in
        let node = source_node i l.source_met l.name_met l.inode in
        let two = then_met (permission_on q.cred s.tree g.dir_ino write_and_search 2 (g.step - 1)) _ last_met in
        let three = then_met (link_count_demand s.room.names_limit (names_of s.tree (found_ino f))) _ two in
        let low : nat_lt s.free least_free ≡ false = unrefused ENOSPC (nat_lt s.free least_free) (first_met (refuse ENOSPC (nat_lt s.free least_free)) _ three) in
        let four = then_met (refuse ENOSPC (nat_lt s.free least_free)) _ three in
        let full : nat_le s.room.entries_limit (length (names_of_body (the_node s.tree g.dir_ino).body)) ≡ false =
        unrefused ENOSPC (nat_le s.room.entries_limit (length (names_of_body (the_node s.tree g.dir_ino).body)))
        (first_met (refuse ENOSPC (nat_le s.room.entries_limit (length (names_of_body (the_node s.tree g.dir_ino).body)))) None four) in
        let some : length (names_of_body (the_node s.tree g.dir_ino).body) < s.room.entries_limit = grind (arith, nat_tests) in
        let enough : least_free ≤ s.free = grind (arith, nat_tests) in
        record {
          directory = name_dir l.name_met;
          is_name = x.is_name;
          short = subst (λ (r : Room). length g.name ≤ r.name_limit) i.is_state.same_room x.short;
          bytes = x.bytes;
          is_new = x.leads;
          has_room = subst (λ (r : Room). length (names_of_body x.node.body) < r.entries_limit) i.is_state.same_room
              (subst (λ (u : Node). length (names_of_body u.body) < s.room.entries_limit) (the_node_is s.tree g.dir_ino x.node x.stands) some);
          enough = subst (λ (k : ℕ). least_free ≤ k) i.is_state.free_is enough;
          target = node.node;
          there = node.at;
          no_directory = source_kind i l.source_met l.name_met l.inode;
          few = few_are;
        }

-- ---- the name is given

module _ {p : Geometry} (old : TxnState) {tables : Tables} {s : State} (at : IsStateOf p old.sectors tables s) {dir_ino : ℕ} {name : List ℕ} {n : ℕ}
    (may : MayLink p old.sectors s.tree dir_ino name n) where
  abbrev directory : Node
  directory = may.directory.node

  abbrev is_target : Placed
  is_target = record { node = may.target; names = names_of s.tree n; parent = parent s.tree n }

  abbrev is_dir : Placed
  is_dir = record { node = directory; names = names_of s.tree dir_ino; parent = parent s.tree dir_ino }

  pub target_below : n < p.inodes
  target_below = node_below s p at.is_state at.same_room n may.target may.there

  dir_below : dir_ino < p.inodes
  dir_below = node_below s p at.is_state at.same_room dir_ino directory may.directory.is_there

  -- the numbers of both whose times move
  pub linked_below : AreBelow p.inodes ((dir_ino, Modified) ∷ (n, Changed) ∷ [])
  linked_below = (dir_below, (target_below, tt))

  apart : dir_ino ≢ n
  apart e =
      let stands = may.directory.is_there in
      let there = may.there in
      let same : directory ≡ may.target = cc in
      let both : true ≡ false = sym may.directory.directory ∙ ap (λ (u : Node). is_directory u.body) same ∙ may.no_directory in
      cc

  target_held : HoldsNode p.version old.sectors (inode_at p old.sectors n) is_target
  target_held = held_node (state_tree at) n may.target may.there

  pub target_used : (inode_at p old.sectors n).kind ≢ kinds.Free
  target_used e = body_not_free p.version old.sectors (inode_at p old.sectors n) may.target.body target_held.body e

  gives : GivesName s.room s.tree dir_ino directory name n may.target
  gives = record {
    takes = record {
      stands = may.directory.is_there;
      is_dir = may.directory.directory;
      is_new = may.is_new;
      has_room = subst (λ (r : Room). length (names_of_body directory.body) < r.entries_limit) (sym at.same_room) may.has_room;
      is_name = may.is_name;
      short = subst (λ (r : Room). length name ≤ r.name_limit) (sym at.same_room) may.short;
      bytes = may.bytes;
    };
    there = may.there;
    no_directory = may.no_directory;
    few = subst (λ (r : Room). names_of s.tree n < r.names_limit) (sym at.same_room) may.few;
  }

  module _ {names : ℕ} (more : names ≡ (inode_at p old.sectors n).names + 1) {mid : TxnState} (counts : Counts p n names old mid) where
    abbrev v : Inode
    v = inode_at p old.sectors n

    count_is : names ≡ names_of s.tree n + 1
    count_is = more ∙ ap (λ (k : ℕ). k + 1) (target_held.names ∙ field_is may.target.body (names_of s.tree n) may.no_directory)

    counted : (up : ℕ) → HoldsNode p.version mid.sectors (inode_at p mid.sectors n) (record { node = may.target; names = names_of s.tree n + 1; parent = up })
    counted up =
        counted_held old.sectors mid.sectors v (inode_at p mid.sectors n) is_target target_held (names_of s.tree n + 1) up may.no_directory
        (counts.saved ∙ ap (λ (k : ℕ). record v { names = k }) count_is) counts.bytes counts.acls

    -- the directory stands as before
    pub dir_same : inode_at p mid.sectors dir_ino ≡ inode_at p old.sectors dir_ino
    dir_same = inode_kept p dir_ino old.sectors mid.sectors (counts.touches.inode.table dir_ino dir_below apart)

    dir_held : HoldsNode p.version mid.sectors (inode_at p mid.sectors dir_ino) is_dir
    dir_held =
        held_at p mid.sectors (placing n (Some (record { node = may.target; names = names_of s.tree n + 1; parent = 0 })) (placed s.tree))
        (one_replaced p n old.sectors mid.sectors (placed s.tree) at.holds target_below counts.touches.inode _ _
        (placed_from s.tree n (Some may.target) _ _ may.there refl refl) (counted 0) counts.used)
        dir_ino dir_below is_dir
        (placing_other n (Some (record { node = may.target; names = names_of s.tree n + 1; parent = 0 })) (placed s.tree) dir_ino apart
        ∙ placed_from s.tree dir_ino (Some directory) _ _ may.directory.is_there refl refl)

    dir_names : HasNames p.version mid.sectors (inode_at p mid.sectors dir_ino) (names_of_body directory.body)
    dir_names = names_say p.version mid.sectors (inode_at p mid.sectors dir_ino) directory.body may.directory.directory dir_held.body

    pub dir_room : MayBeNamed p mid.sectors dir_ino name
    dir_room =
        let left = counts.touches.free in
        let enough = may.enough in
        record {
          below = dir_below;
          is_name = may.is_name;
          short = may.short;
          names = names_of_body directory.body;
          are = dir_names;
          is_new = may.is_new;
          few = may.has_room;
          enough = omega (arith, enough, left);
        }

    module _ (new : SectorMap) (named : NamesInode p dir_ino name n mid.sectors new) where
      pub link_holds : HoldsAll p new (placed (swept (changed s.tree (AddName dir_ino name n)) (users_of tables)))
      link_holds =
          add_held s at.is_state at.up (users_of tables) (λ k is. subst (λ (d : Tables). IsTrue (is_open (users_of d) k)) at.same_tables is) p old.sectors at.holds at.same_room
          mid.sectors new dir_ino directory name n may.target gives counts.touches.inode counts.used (counted (parent (changed s.tree (AddName dir_ino name n)) n))
          named.change named.used
          (names_held mid.sectors new (inode_at p mid.sectors dir_ino) (inode_at p new dir_ino) is_dir dir_held (with_entry name_cmp (names_of_body directory.body) name n)
          may.directory.directory named.kept named.acls (named.named (names_of_body directory.body) dir_names))

-- ---- the step

link_changes : {p : Geometry} {new : SectorMap} {tables : Tables} (s : State) (q : Process) (f g : Found) (n : ℕ) → found_ino f ≡ n
    → first_of (link_demands (scene_with s q f g)) ≡ None → HoldsAll p new (placed (swept (changed s.tree (AddName g.dir_ino g.name n)) (users_of tables)))
    → IsChange p new tables s q (link_demands (scene_with s q f g)) (λ k. link_effect (scene_with s q f g)) Done ((g.dir_ino, Modified) ∷ (n, Changed) ∷ [])
link_changes {p} {new} {tables} s q f g n is met holds = record {
  met = met;
  number = 0;
  change = AddName g.dir_ino g.name (found_ino f);
  is = refl;
  new_number = tt;
  times = ap (λ (k : ℕ). touches_of s.tree (AddName g.dir_ino g.name k)) is;
  holds = subst (λ (k : ℕ). HoldsAll p new (placed (swept (changed s.tree (AddName g.dir_ino g.name k)) (users_of tables)))) (sym is) holds;
}

-- since before all was asked
pub link_changed : {p : Geometry} {mid last : TxnState} {new : SectorMap} {tables : Tables} {q : Process} {f g : Found} {s : State} {n : ℕ} {v d : Inode} → IsUnchanged mid last
    → HoldsChange p tables (MayLinkAt p last.sectors g n) (AddName g.dir_ino g.name n) last.sectors new → FindsBoth p mid.sectors tables q f g s
    → IsLinkable p mid.sectors s q f g n v d
    → IsChange p new tables s q (link_demands (scene_with s q f g)) (λ k. link_effect (scene_with s q f g)) Done ((g.dir_ino, Modified) ∷ (n, Changed) ∷ [])
link_changed {p} {mid} {last} {new} {tables} {q} {f} {g} {s} {n} same added finds told =
    link_changes s q f g n told.inode.number told.met
    (added.holds s (state_kept same finds.is_state) (kept (λ (m : SectorMap). MayLinkAt p m g n s) same (link_may finds told)))
