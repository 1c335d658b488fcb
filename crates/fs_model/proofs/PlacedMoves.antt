-- What MoveName places, and what an image holds after it: the name is taken, given to the other directory, then a moved
-- directory gets its parent, and what was replaced loses its name.
--     begun_held, begun_here        both directories have their names: two, or one
--     parent_held, no_parent_held        a directory gets its parent; nothing else does
--     move_held, move_take_held, move_drop_held        nothing was replaced; what was replaced stays, or goes
use Rattle.std.specs.Prelude.{◌≡◌, ◌≢◌, ℕ, ◌-◌, ◌<◌, ◌≤◌, ◌==◌, Bool, true, false, not, ◌||◌, List, Option, None, Some, IsTrue, IsFalse, ◌⊎◌}
use Rattle.std.proofs.Common.{refl, sym, ap, arith, ◌∙◌, subst, inl, inr}
use Rattle.std.proofs.lemmas.Bool.{cases_eq}
use Rattle.fs_layout.specs.declared.inode.Inode.{Inode}
use Rattle.fs_layout.specs.declared.version.Version.{Version}
use Rattle.fs_layout.specs.declared.geometry.Geometry.{Geometry}
use Rattle.fs_layout.specs.Bytes.{SectorMap}
use Rattle.fs_layout.specs.InodeChanges.{ChangesInode}
use Rattle.fs_layout.specs.Inode.{free_inode}
use Rattle.fs_layout.specs.Images.{bit, inode_at}
use Rattle.fs_layout.specs.Maps.{name_cmp, with_entry, without}
use Rattle.fs_layout.proofs.NameMaps.{Names, leading, once_same, once_other, lost_of, leading_if}
use Rattle.fs_model.specs.Limits.{root}
use Rattle.fs_model.specs.Nodes.{Node, Body, File, Dir, Link, is_directory, names_of_body, with_names}
use Rattle.fs_model.specs.Trees.{Tree, node_at, names_of, parent, IsUnderRoot, is_root, is_in, IsDirectoryAt}
use Rattle.fs_model.specs.Processes.{ProcessTable, users, is_open}
use Rattle.fs_model.specs.TreeChanges.{MoveName, changed, swept, lives_nameless}
use Rattle.fs_model.specs.States.{State, IsState}
use Rattle.fs_model.specs.StoredNodes.{Placed, HoldsNode, parent_field}
use Rattle.fs_model.specs.Stands.{HoldsAll, placed, room_of}
use Rattle.fs_model.proofs.NodesHeld.{node_held}
use Rattle.fs_model.proofs.PlacedNodes.{same_placed, placing, placing_here, placing_other, placed_once, one_replaced, one_dropped, restated, held_at, placed_from, placed_stays, placed_goes, stays_if, placed_again, node_below}
use Rattle.fs_model.proofs.Rewrites.{parent-with_node}
use Rattle.fs_model.proofs.StepsLosing.{LosesNames, gone_empty}
use Rattle.fs_model.proofs.StepsMoving.{MovesName, Between, between, moved, moved_is, moved_parent, moves_loses, were, v_numbers, fewer, set, dir_kept, to_dir_kept, n_kept}
use Rattle.fs_model.proofs.StepsNaming.{renamed_node, renamed, at_it, at_others, names_with_names, type_with_names}
use Rattle.fs_model.proofs.StepsParents.{names_or, names_at, parent_is, directory_named, under_root}
use Rattle.fs_model.proofs.StepsUp.{outside_differs}
use Rattle.fs_model.proofs.Swept.{DropsNoNames, stays}

-- only the root is its own parent
self_is_root : (t : Tree) {d : ℕ} → IsUnderRoot t d → (k : ℕ) → d ≡ k → parent t k ≡ k → k ≡ root
self_is_root t is_root k e above = sym e
self_is_root t (is_in d below) k e above = self_is_root t below k (ap (parent t) e ∙ above) above

-- the names that a directory got last
renamed_twice : (node : Node) (first then : Names) → renamed_node (renamed_node node first) then ≡ renamed_node node then
renamed_twice node first then = ap (λ (b : Body). record node { body = b }) (go node.body)
  where
    go : (b : Body) → with_names then (with_names first b) ≡ with_names then b
    go (File a bytes) = refl
    go (Dir a d) = refl
    go (Link target) = refl

as_node : (o : Option Placed) (x y : Node) (names up : ℕ) → o ≡ Some (record { node = x; names = names; parent = up }) → x ≡ y
    → o ≡ Some (record { node = y; names = names; parent = up })
as_node o x y names up is same = is ∙ ap (λ q. Some (record { node = q; names = names; parent = up })) same

-- where what is no directory is named isn't stored
pub named_anywhere : (version : Version) (image : SectorMap) (v : Inode) (x : Placed) (up : ℕ) → IsFalse (is_directory x.node.body) → HoldsNode version image v x → HoldsNode version image v (record x { parent = up })
named_anywhere version image v x up other h =
    node_held version image v (record x { parent = up }) h.owner h.group h.mode h.names (h.parent ∙ go x.node.body other) h.stamps h.body
  where
    go : (b : Body) → IsFalse (is_directory b) → parent_field b x.parent ≡ parent_field b up
    go (File a bytes) other = refl
    go (Dir a d) other = absurd cc
    go (Link target) other = refl

module _ (s : State) (is : IsState s) (up : IsFalse s.halted) (processes : ProcessTable) (still : (n : ℕ) → IsTrue (is_open (users s.processes s.openings) n) → IsTrue (is_open processes n))
    (dir_ino : ℕ) (directory : Node) (name : List ℕ) (n : ℕ) (to_dir_ino : ℕ) (to_directory : Node) (to_name : List ℕ) (o : Option ℕ)
    (moves : MovesName s.room s.tree (users s.processes s.openings) dir_ino directory name n to_dir_ino to_directory to_name o) (target : Node) (at : node_at s.tree n ≡ Some target) where
  abbrev pub less : Names
  less = without name_cmp (names_of_body directory.body) name

  abbrev v : Tree
  v = renamed s.tree dir_ino directory (without name_cmp (names_of_body directory.body) name)

  -- the directory to which the name goes, once it was taken
  abbrev pub middle : Between s.room s.tree (renamed s.tree dir_ino directory (without name_cmp (names_of_body directory.body) name)) to_dir_ino to_name o
  middle = between s.room s.tree (users s.processes s.openings) dir_ino directory name n to_dir_ino to_directory to_name o is.tree moves

  abbrev pub more : Names
  more = with_entry name_cmp (names_of_body middle.node.body) to_name n

  abbrev pub u : Tree
  u = moved s.room s.tree (users s.processes s.openings) dir_ino directory name n to_dir_ino to_directory to_name o is.tree moves

  loses : LosesNames s.room s.tree u (users s.processes s.openings) (lost_of o)
  loses = moves_loses s.room s.tree (users s.processes s.openings) dir_ino directory name n to_dir_ino to_directory to_name o is.tree moves

  gone : DropsNoNames (stays u processes) u u
  gone = gone_empty s.room s.tree u (users s.processes s.openings) (lost_of o) is.tree loses processes

  -- ---- numbers that differ

  n_not_root : n ≢ root
  n_not_root = ((were s.room s.tree (users s.processes s.openings) dir_ino directory name n to_dir_ino to_directory to_name o is.tree moves).each name n moves.leads).leads.0

  pub apart_to : n ≢ to_dir_ino
  apart_to e =
      let d : IsDirectoryAt s.tree n = record { node = to_directory; is_there = ap (node_at s.tree) e ∙ moves.to_stands; directory = moves.is_to_dir } in
      outside_differs s.tree n to_dir_ino (moves.outside d) (sym e)

  -- a directory is named where the name was
  parent_was : IsDirectoryAt s.tree n → parent s.tree n ≡ dir_ino
  parent_was d =
      let one = directory_named s.room s.tree is.tree n d n_not_root in
      let some : 1 ≤ leading n (names_of_body directory.body) = leading_if (names_of_body directory.body) name n (were s.room s.tree (users s.processes s.openings) dir_ino directory name n to_dir_ino to_directory to_name o is.tree moves).rising moves.leads in
      let names : names_at s.tree dir_ino ≡ names_of_body directory.body = ap names_or moves.stands in
      parent_is s.tree dir_ino n (subst (λ q. 1 ≤ leading n q) (sym names) some) (omega (arith, one))

  pub apart_from : n ≢ dir_ino
  apart_from e =
      let d : IsDirectoryAt s.tree n = record { node = directory; is_there = ap (node_at s.tree) e ∙ moves.stands; directory = moves.is_dir } in
      n_not_root (self_is_root s.tree (under_root s.room s.tree is.tree n d) n refl (parent_was d ∙ sym e))

  -- ---- what is placed

  names_same : (x : ℕ) → lost_of o x ≡ 0 → names_of u x ≡ names_of s.tree x
  names_same x none = let all = loses.counts x in omega (arith, all, none)

  parent_same : (x : ℕ) → x ≢ n → lost_of o x ≡ 0 → parent u x ≡ parent s.tree x
  parent_same x other none =
      let once = once_other n x (λ e. other (sym e)) in
      let first = fewer s.room s.tree (users s.processes s.openings) dir_ino directory name n to_dir_ino to_directory to_name o is.tree moves x in
      let second = set s.room s.tree (users s.processes s.openings) dir_ino directory name n to_dir_ino to_directory to_name o is.tree moves x in
      let now : leading x (names_of_body (renamed_node directory less).body) ≡ leading x less = ap (leading x) (names_with_names less directory.body moves.is_dir) in
      let was : leading x (names_or (node_at s.tree dir_ino)) ≡ leading x (names_of_body directory.body) = ap (λ q. leading x (names_or q)) moves.stands in
      let last : leading x (names_of_body (renamed_node middle.node more).body) ≡ leading x more = ap (leading x) (names_with_names more middle.node.body middle.directory) in
      let mid : leading x (names_or (node_at v to_dir_ino)) ≡ leading x (names_of_body middle.node.body) = ap (λ q. leading x (names_or q)) middle.here in
      parent-with_node v to_dir_ino (renamed_node middle.node more) (v_numbers s.room s.tree (users s.processes s.openings) dir_ino directory name n to_dir_ino to_directory to_name o is.tree moves) x (omega (arith, second, once, none, last, mid))
      ∙ parent-with_node s.tree dir_ino (renamed_node directory less) is.tree.numbers x (omega (arith, first, once, now, was))

  at_elsewhere : (x : ℕ) → x ≢ dir_ino → x ≢ to_dir_ino → node_at u x ≡ node_at s.tree x
  at_elsewhere x from to = at_others v to_dir_ino (renamed_node middle.node more) x to ∙ at_others s.tree dir_ino (renamed_node directory less) x from

  -- the directory to which it went
  moved_to : placed (swept u processes) to_dir_ino ≡ Some (record { node = renamed_node middle.node more; names = names_of s.tree to_dir_ino; parent = parent s.tree to_dir_ino })
  moved_to =
      let none = to_dir_kept s.room s.tree (users s.processes s.openings) dir_ino directory name n to_dir_ino to_directory to_name o is.tree moves o refl in
      let other : to_dir_ino ≢ n = λ e. apart_to (sym e) in
      placed_stays u processes loses.numbers gone to_dir_ino (renamed_node middle.node more) (at_it v to_dir_ino (renamed_node middle.node more))
      (stays_if s is up processes still u to_dir_ino (renamed_node middle.node more) middle.stood.old middle.stood.was (type_with_names more middle.node.body ∙ middle.stood.same) (names_same to_dir_ino none))
      ∙ ap (λ k. Some (record { node = renamed_node middle.node more; names = k; parent = parent u to_dir_ino })) (names_same to_dir_ino none)
      ∙ ap (λ k. Some (record { node = renamed_node middle.node more; names = names_of s.tree to_dir_ino; parent = k })) (parent_same to_dir_ino other none)

  -- another one from which it went
  moved_from : dir_ino ≢ to_dir_ino → placed (swept u processes) dir_ino ≡ Some (record { node = renamed_node directory less; names = names_of s.tree dir_ino; parent = parent s.tree dir_ino })
  moved_from differ =
      let none = dir_kept s.room s.tree (users s.processes s.openings) dir_ino directory name n to_dir_ino to_directory to_name o is.tree moves o refl in
      let other : dir_ino ≢ n = λ e. apart_from (sym e) in
      placed_stays u processes loses.numbers gone dir_ino (renamed_node directory less) (at_others v to_dir_ino (renamed_node middle.node more) dir_ino differ ∙ at_it s.tree dir_ino (renamed_node directory less))
      (stays_if s is up processes still u dir_ino (renamed_node directory less) directory moves.stands (type_with_names less directory.body) (names_same dir_ino none))
      ∙ ap (λ k. Some (record { node = renamed_node directory less; names = k; parent = parent u dir_ino })) (names_same dir_ino none)
      ∙ ap (λ k. Some (record { node = renamed_node directory less; names = names_of s.tree dir_ino; parent = k })) (parent_same dir_ino other none)

  -- what was moved
  moved_node : placed (swept u processes) n ≡ Some (record { node = target; names = names_of s.tree n; parent = parent u n })
  moved_node =
      let none = n_kept s.room s.tree (users s.processes s.openings) dir_ino directory name n to_dir_ino to_directory to_name o is.tree moves o refl in
      placed_stays u processes loses.numbers gone n target (at_elsewhere n apart_from apart_to ∙ at) (stays_if s is up processes still u n target target at refl (names_same n none))
      ∙ ap (λ k. Some (record { node = target; names = k; parent = parent u n })) (names_same n none)

  -- both directories, and what was moved
  abbrev pub taken : ℕ → Option Placed
  taken = placing dir_ino (Some (record { node = renamed_node directory less; names = names_of s.tree dir_ino; parent = parent s.tree dir_ino })) (placed s.tree)

  abbrev pub begun : ℕ → Option Placed
  begun = placing to_dir_ino (Some (record { node = renamed_node middle.node more; names = names_of s.tree to_dir_ino; parent = parent s.tree to_dir_ino })) taken

  abbrev pub arrived : ℕ → Option Placed
  arrived = placing n (Some (record { node = target; names = names_of s.tree n; parent = parent u n })) begun

  as_begun : (x : ℕ) → x ≢ n → lost_of o x ≡ 0 → placed (swept u processes) x ≡ begun x
  as_begun x other none = elim (cases_eq x to_dir_ino) [
    | inl e ↦ ap (placed (swept u processes)) e ∙ moved_to ∙ sym (ap begun e ∙ placing_here to_dir_ino _ taken)
    | inr ne ↦ elim (cases_eq x dir_ino) [
      | inl e ↦ ap (placed (swept u processes)) e ∙ moved_from (λ same. ne (e ∙ same)) ∙ sym (ap taken e ∙ placing_here dir_ino _ (placed s.tree)) ∙ sym (placing_other to_dir_ino _ taken x ne)
      | inr differs ↦
          placed_again s is up processes still u loses.numbers gone x (at_elsewhere x differs ne) (names_same x none) (parent_same x other none)
          ∙ sym (placing_other dir_ino _ (placed s.tree) x differs) ∙ sym (placing_other to_dir_ino _ taken x ne)
    ]
  ]

  as_arrived : (x : ℕ) → lost_of o x ≡ 0 → placed (swept u processes) x ≡ arrived x
  as_arrived x none = elim (cases_eq x n) [
    | inl e ↦ ap (placed (swept u processes)) e ∙ moved_node ∙ sym (ap arrived e ∙ placing_here n _ begun)
    | inr ne ↦ as_begun x ne none ∙ sym (placing_other n _ begun x ne)
  ]

  -- ---- the image

  module _ (p : Geometry) (room : s.room ≡ room_of p) where
    module _ (old mid : SectorMap) (held : HoldsAll p old (placed s.tree)) (first : ChangesInode p dir_ino old mid) (used : bit mid p.inode_bitmap dir_ino ≡ bit old p.inode_bitmap dir_ino)
        (here : HoldsNode p.version mid (inode_at p mid dir_ino) (record { node = renamed_node directory less; names = names_of s.tree dir_ino; parent = parent s.tree dir_ino })) where
      taken_held : HoldsAll p mid taken
      taken_held =
          one_replaced p dir_ino old mid (placed s.tree) held (node_below s p is room dir_ino directory moves.stands) first _ _
          (placed_from s.tree dir_ino (Some directory) _ _ moves.stands refl refl) here used

      middle_is : taken to_dir_ino ≡ Some (record { node = middle.node; names = names_of s.tree to_dir_ino; parent = parent s.tree to_dir_ino })
      middle_is = elim (cases_eq to_dir_ino dir_ino) [
        | inl e ↦
            let stands : node_at v to_dir_ino ≡ Some (renamed_node directory less) = ap (node_at v) e ∙ at_it s.tree dir_ino (renamed_node directory less) in
            let also = middle.here in
            let same : renamed_node directory less ≡ middle.node = cc in
            as_node (taken to_dir_ino) (renamed_node directory less) middle.node (names_of s.tree to_dir_ino) (parent s.tree to_dir_ino)
            (ap taken e ∙ placing_here dir_ino _ (placed s.tree) ∙ ap (λ k. Some (record { node = renamed_node directory less; names = names_of s.tree k; parent = parent s.tree k })) (sym e)) same
        | inr ne ↦
            let stands : node_at v to_dir_ino ≡ Some to_directory = at_others s.tree dir_ino (renamed_node directory less) to_dir_ino ne ∙ moves.to_stands in
            let also = middle.here in
            let same : to_directory ≡ middle.node = cc in
            as_node (taken to_dir_ino) to_directory middle.node (names_of s.tree to_dir_ino) (parent s.tree to_dir_ino)
            (placing_other dir_ino _ (placed s.tree) to_dir_ino ne ∙ placed_from s.tree to_dir_ino (Some to_directory) _ _ moves.to_stands refl refl) same
      ]

      to_below : to_dir_ino < p.inodes
      to_below = node_below s p is room to_dir_ino to_directory moves.to_stands

      -- the directory to which the name goes, before it has it
      pub middle_held : HoldsNode p.version mid (inode_at p mid to_dir_ino) (record { node = middle.node; names = names_of s.tree to_dir_ino; parent = parent s.tree to_dir_ino })
      middle_held = held_at p mid taken taken_held to_dir_ino to_below _ middle_is

      -- the name was taken, and given
      pub begun_held : (new : SectorMap) → ChangesInode p to_dir_ino mid new → bit new p.inode_bitmap to_dir_ino ≡ bit mid p.inode_bitmap to_dir_ino
          → HoldsNode p.version new (inode_at p new to_dir_ino) (record { node = renamed_node middle.node more; names = names_of s.tree to_dir_ino; parent = parent s.tree to_dir_ino })
          → HoldsAll p new begun
      begun_held new second same now = one_replaced p to_dir_ino mid new taken taken_held to_below second _ _ middle_is now same

    -- one directory gave up the name and got it, at once
    pub begun_here : (old new : SectorMap) → HoldsAll p old (placed s.tree) → dir_ino ≡ to_dir_ino → ChangesInode p dir_ino old new → bit new p.inode_bitmap dir_ino ≡ bit old p.inode_bitmap dir_ino
        → HoldsNode p.version new (inode_at p new dir_ino) (record { node = renamed_node directory (with_entry name_cmp less to_name n); names = names_of s.tree dir_ino; parent = parent s.tree dir_ino })
        → HoldsAll p new begun
    begun_here old new held one changes same here =
        same_placed p new (placing dir_ino (Some now) (placed s.tree)) begun
        (one_replaced p dir_ino old new (placed s.tree) held (node_below s p is room dir_ino directory moves.stands) changes _ now
        (placed_from s.tree dir_ino (Some directory) _ _ moves.stands refl refl) here same) as_one
      where
        now : Placed
        now = record { node = renamed_node directory (with_entry name_cmp less to_name n); names = names_of s.tree dir_ino; parent = parent s.tree dir_ino }

        middle_less : middle.node ≡ renamed_node directory less
        middle_less =
            let stands : node_at v to_dir_ino ≡ Some (renamed_node directory less) = ap (node_at v) (sym one) ∙ at_it s.tree dir_ino (renamed_node directory less) in
            let also = middle.here in
            cc

        last : renamed_node middle.node more ≡ renamed_node directory (with_entry name_cmp less to_name n)
        last =
            let names : names_of_body middle.node.body ≡ less = ap (λ (q : Node). names_of_body q.body) middle_less ∙ names_with_names less directory.body moves.is_dir in
            ap (λ (q : Node). renamed_node q more) middle_less ∙ renamed_twice directory less more
            ∙ ap (λ (q : Names). renamed_node directory (with_entry name_cmp q to_name n)) names

        at_one : begun to_dir_ino ≡ Some now
        at_one =
            as_node (begun to_dir_ino) (renamed_node middle.node more) (renamed_node directory (with_entry name_cmp less to_name n)) (names_of s.tree dir_ino) (parent s.tree dir_ino)
            (placing_here to_dir_ino _ taken
            ∙ ap (λ k. Some (record { node = renamed_node middle.node more; names = names_of s.tree k; parent = parent s.tree k })) (sym one)) last

        as_one : (x : ℕ) → begun x ≡ placing dir_ino (Some now) (placed s.tree) x
        as_one x = elim (cases_eq x dir_ino) [
          | inl e ↦ ap begun (e ∙ one) ∙ at_one ∙ sym (ap (placing dir_ino (Some now) (placed s.tree)) e ∙ placing_here dir_ino (Some now) (placed s.tree))
          | inr ne ↦ placing_other to_dir_ino _ taken x (λ e. ne (e ∙ sym one)) ∙ placing_other dir_ino _ (placed s.tree) x ne ∙ sym (placing_other dir_ino (Some now) (placed s.tree) x ne)
        ]

    pub begun_n : begun n ≡ Some (record { node = target; names = names_of s.tree n; parent = parent s.tree n })
    begun_n = placing_other to_dir_ino _ taken n apart_to ∙ placing_other dir_ino _ (placed s.tree) n apart_from ∙ placed_from s.tree n (Some target) _ _ at refl refl

    pub n_below : n < p.inodes
    n_below = node_below s p is room n target at

    parent_then : IsTrue (is_directory target.body) → parent u n ≡ to_dir_ino
    parent_then d = moved_parent s.room s.tree (users s.processes s.openings) dir_ino directory name n to_dir_ino to_directory to_name o is.tree moves (record { node = target; is_there = at; directory = d }) n_not_root

    -- a directory has its new parent
    pub parent_held : (mid new : SectorMap) → HoldsAll p mid begun → IsTrue (is_directory target.body) → ChangesInode p n mid new → bit new p.inode_bitmap n ≡ bit mid p.inode_bitmap n
        → HoldsNode p.version new (inode_at p new n) (record { node = target; names = names_of s.tree n; parent = to_dir_ino }) → HoldsAll p new arrived
    parent_held mid new held d changes same here =
        one_replaced p n mid new begun held n_below changes _ _ begun_n
        (subst (λ k. HoldsNode p.version new (inode_at p new n) (record { node = target; names = names_of s.tree n; parent = k })) (sym (parent_then d)) here) same

    -- what is no directory, or stays in its directory, has none to get
    pub no_parent_held : (image : SectorMap) → HoldsAll p image begun → IsFalse (is_directory target.body) ⊎ (dir_ino ≡ to_dir_ino) → HoldsAll p image arrived
    no_parent_held image held why = restated p image begun held n _ _ begun_n (go (is_directory target.body) refl)
      where
        was : HoldsNode p.version image (inode_at p image n) (record { node = target; names = names_of s.tree n; parent = parent s.tree n })
        was = held_at p image begun held n n_below _ begun_n

        go : (b : Bool) → is_directory target.body ≡ b → HoldsNode p.version image (inode_at p image n) (record { node = target; names = names_of s.tree n; parent = parent u n })
        go false e = named_anywhere p.version image (inode_at p image n) _ (parent u n) e was
        go true e =
            let same : dir_ino ≡ to_dir_ino = elim why [ inl other ↦ absurd cc | inr same ↦ same ] in
            let stays_there : parent s.tree n ≡ parent u n = parent_was (record { node = target; is_there = at; directory = e }) ∙ same ∙ sym (parent_then e) in
            subst (λ k. HoldsNode p.version image (inode_at p image n) (record { node = target; names = names_of s.tree n; parent = k })) stays_there was

    moved_then : (image : SectorMap) → HoldsAll p image (placed (swept u processes)) → HoldsAll p image (placed (swept (changed s.tree (MoveName dir_ino name to_dir_ino to_name)) processes))
    moved_then image h = subst (λ w. HoldsAll p image (placed (swept w processes))) (sym (moved_is s.room s.tree (users s.processes s.openings) dir_ino directory name n to_dir_ino to_directory to_name o is.tree moves)) h

    -- nothing was replaced
    pub move_held : (image : SectorMap) → HoldsAll p image arrived → o ≡ None → HoldsAll p image (placed (swept (changed s.tree (MoveName dir_ino name to_dir_ino to_name)) processes))
    move_held image held none =
        moved_then image (same_placed p image arrived (placed (swept u processes)) held (λ x. as_arrived x (ap (λ q. lost_of q x) none)))

    module _ (m : ℕ) (led : o ≡ Some m) (replaced : Node) (at_m : node_at s.tree m ≡ Some replaced) where
      lost_one : lost_of o m ≡ 1
      lost_one = ap (λ q. lost_of q m) led ∙ once_same m m refl

      pub m_not_from : m ≢ dir_ino
      m_not_from e = let none : lost_of o m ≡ 0 = ap (lost_of o) e ∙ dir_kept s.room s.tree (users s.processes s.openings) dir_ino directory name n to_dir_ino to_directory to_name o is.tree moves o refl in let one = lost_one in omega (arith, none, one)

      pub m_not_to : m ≢ to_dir_ino
      m_not_to e = let none : lost_of o m ≡ 0 = ap (lost_of o) e ∙ to_dir_kept s.room s.tree (users s.processes s.openings) dir_ino directory name n to_dir_ino to_directory to_name o is.tree moves o refl in let one = lost_one in omega (arith, none, one)

      names_less : names_of u m ≡ names_of s.tree m - 1
      names_less = let all = loses.counts m in let one = lost_one in omega (arith, all, one)

      pub arrived_m : arrived m ≡ Some (record { node = replaced; names = names_of s.tree m; parent = parent s.tree m })
      arrived_m =
          placing_other n _ begun m (moves.other m led) ∙ placing_other to_dir_ino _ taken m m_not_to ∙ placing_other dir_ino _ (placed s.tree) m m_not_from
          ∙ placed_from s.tree m (Some replaced) _ _ at_m refl refl

      m_below : m < p.inodes
      m_below = node_below s p is room m replaced at_m

      at_then : node_at u m ≡ Some replaced
      at_then = at_elsewhere m m_not_from m_not_to ∙ at_m

      module _ (mid new : SectorMap) (held : HoldsAll p mid arrived) (changes : ChangesInode p m mid new) where
        replaced_then : (q : Option Placed) → placed (swept u processes) m ≡ q → HoldsAll p new (placing m q arrived)
            → HoldsAll p new (placed (swept (changed s.tree (MoveName dir_ino name to_dir_ino to_name)) processes))
        replaced_then q is_q h =
            moved_then new
            (same_placed p new (placing m q arrived) (placed (swept u processes)) h
            (placed_once arrived (placed (swept u processes)) m q is_q (λ x ne. as_arrived x (ap (λ z. lost_of z x) led ∙ once_other m x (λ e. ne (sym e))))))

        -- what was replaced stays
        pub move_take_held : (not (names_of s.tree m - 1 == 0) || lives_nameless processes m replaced.body) ≡ true → bit new p.inode_bitmap m ≡ bit mid p.inode_bitmap m
            → HoldsNode p.version new (inode_at p new m) (record { node = replaced; names = names_of s.tree m - 1; parent = parent (changed s.tree (MoveName dir_ino name to_dir_ino to_name)) m })
            → HoldsAll p new (placed (swept (changed s.tree (MoveName dir_ino name to_dir_ino to_name)) processes))
        move_take_held stay same here =
            replaced_then _
            (placed_stays u processes loses.numbers gone m replaced at_then (ap (λ k. not (k == 0) || lives_nameless processes m replaced.body) names_less ∙ stay)
            ∙ ap (λ k. Some (record { node = replaced; names = k; parent = parent u m })) names_less)
            (one_replaced p m mid new arrived held m_below changes _ _ arrived_m
            (subst (λ w. HoldsNode p.version new (inode_at p new m) (record { node = replaced; names = names_of s.tree m - 1; parent = parent w m })) (moved_is s.room s.tree (users s.processes s.openings) dir_ino directory name n to_dir_ino to_directory to_name o is.tree moves) here) same)

        -- the node that is replaced goes
        pub move_drop_held : (not (names_of s.tree m - 1 == 0) || lives_nameless processes m replaced.body) ≡ false → bit new p.inode_bitmap m ≡ false
            → inode_at p new m ≡ free_inode → HoldsAll p new (placed (swept (changed s.tree (MoveName dir_ino name to_dir_ino to_name)) processes))
        move_drop_held goes clear free =
            replaced_then None
            (placed_goes u processes loses.numbers gone m replaced at_then (ap (λ k. not (k == 0) || lives_nameless processes m replaced.body) names_less ∙ goes))
            (one_dropped p m mid new arrived held m_below changes (is.tree.each m replaced at_m).positive free clear)
