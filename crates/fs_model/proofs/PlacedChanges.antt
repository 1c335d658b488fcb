-- What an image holds after a call that changed its tree so: what the changed tree places.
--     MakesNode        what making a node asks
--     same_held, rewrite_held, make_held, add_held, take_held, drop_held        after each change
use Rattle.std.specs.Prelude.{◌≡◌, ◌≢◌, ℕ, ◌+◌, ◌-◌, ◌<◌, ◌≤◌, nat_eq, nat_le, ◌==◌, true, false, not, ◌||◌, List, Option, None, Some, IsTrue, IsFalse}
use Rattle.std.proofs.Common.{refl, sym, ap, ◌∙◌, subst}
use Rattle.std.proofs.lemmas.Bool.{or_right}
use Rattle.fs_layout.specs.declared.geometry.Geometry.{Geometry}
use Rattle.fs_layout.specs.Bytes.{SectorMap}
use Rattle.fs_layout.specs.InodeChanges.{ChangesInode}
use Rattle.fs_layout.specs.Inode.{free_inode}
use Rattle.fs_layout.specs.Images.{bit, inode_at}
use Rattle.fs_layout.specs.Maps.{name_cmp, with_entry, without}
use Rattle.fs_layout.proofs.NameMaps.{leading}
use Rattle.fs_model.specs.Nodes.{Node, names_of_body}
use Rattle.fs_model.specs.Trees.{Tree, node_at, with_node, names_of, parent}
use Rattle.fs_model.specs.Processes.{ProcessTable, users, is_open}
use Rattle.fs_model.specs.declared.touch.Touch.{Touch}
use Rattle.fs_model.specs.TreeChanges.{Same, Rewrite, Make, AddName, TakeName, changed, swept, lives_nameless, with_names_at}
use Rattle.fs_model.specs.States.{State, IsState}
use Rattle.fs_model.specs.StoredNodes.{Placed, HoldsNode}
use Rattle.fs_model.specs.Stands.{HoldsAll, placed, room_of}
use Rattle.fs_model.proofs.Frame.{placed_elsewhere}
use Rattle.fs_model.proofs.PlacedNames.{added_dir, added_node, added_others, added_nameless, taken_dir, taken_others, taken_stays, taken_goes, taken_apart}
use Rattle.fs_model.proofs.PlacedNodes.{same_placed, placing, placing_other, placed_once, placed_twice, one_placed, one_replaced, one_dropped, placed_from, nothing_goes, below_inodes, node_below}
use Rattle.fs_model.proofs.Rewrites.{names_of-rewritten, parent-rewritten, parent-with_node, there-rewritten}
use Rattle.fs_model.proofs.StepsAdding.{TakesNewName, AddsName, GivesName, gives_name, added_keeps_types, added_is_tree, dir_apart, stands_then, new_parent}
use Rattle.fs_model.proofs.StepsKinds.{MayReplace, replaced_is_tree, replaced_keeps_types}
use Rattle.fs_model.proofs.StepsMaking.{IsNewborn, makes_name, nothing_leads}
use Rattle.fs_model.proofs.StepsNaming.{renamed_node, renamed, at_it}
use Rattle.fs_model.proofs.StepsOfMaking.{named_is}
use Rattle.fs_model.proofs.StepsParents.{names_or}
use Rattle.fs_model.proofs.StepsTaking.{TakesName}
use Rattle.fs_model.proofs.Unchanged.{open_stays}

-- ---- what making a node asks

pub record MakesNode (s : State) (dir_ino : ℕ) (directory : Node) (name : List ℕ) (n : ℕ) (now : Node) : Type 0 where
  pub takes : TakesNewName s.room s.tree dir_ino directory name
  pub positive : 1 ≤ n
  pub below : n < s.room.inodes
  pub unused : node_at s.tree n ≡ None
  pub newborn : IsNewborn s.room s.tree now

-- ---- the image after the call

module _ (s : State) (is : IsState s) (up : IsFalse s.halted) (processes : ProcessTable) (still : (n : ℕ) → IsTrue (is_open (users s.processes s.openings) n) → IsTrue (is_open processes n))
    (p : Geometry) (old : SectorMap) (held : HoldsAll p old (placed s.tree)) (room : s.room ≡ room_of p) where
  -- nothing changed
  pub same_held : HoldsAll p old (placed (swept (changed s.tree Same) processes))
  same_held = subst (λ u. HoldsAll p old (placed u)) (sym (open_stays s.room s.tree s.processes s.openings processes is.tree (is.processes up) still)) held

  module _ (new : SectorMap) (touch : Touch) (n : ℕ) (was now : Node) (at : node_at s.tree n ≡ Some was) (may : MayReplace s.room s.tree was now) (changes : ChangesInode p n old new)
      (used : bit new p.inode_bitmap n ≡ bit old p.inode_bitmap n)
      (here : HoldsNode p.version new (inode_at p new n) (record { node = now; names = names_of s.tree n; parent = parent s.tree n })) where
    names_stay : (x : ℕ) → names_of (with_node s.tree n now) x ≡ names_of s.tree x
    names_stay x = names_of-rewritten s.tree n was now is.tree.numbers at may.names x

    rewrite_stays : swept (changed s.tree (Rewrite touch n now)) processes ≡ with_node s.tree n now
    rewrite_stays =
        nothing_goes s is up processes still (with_node s.tree n now) (replaced_is_tree s.room s.tree n was now is.tree at may) (replaced_keeps_types s.tree n was now at may.same)
        (λ x there none. (sym (there-rewritten s.tree n was now is.tree.numbers at may.names x) ∙ there, sym (names_stay x) ∙ none))

    -- the node at n was rewritten
    pub rewrite_held : HoldsAll p new (placed (swept (changed s.tree (Rewrite touch n now)) processes))
    rewrite_held =
        let there : placed (with_node s.tree n now) n ≡ Some (record { node = now; names = names_of s.tree n; parent = parent s.tree n }) =
        placed_from (with_node s.tree n now) n (Some now) _ _ (at_it s.tree n now) (names_stay n) (parent-rewritten s.tree n was now is.tree.numbers at may.names n) in
        subst (λ u. HoldsAll p new (placed u)) (sym rewrite_stays)
        (same_placed p new (placing n (Some (record { node = now; names = names_of s.tree n; parent = parent s.tree n })) (placed s.tree)) (placed (with_node s.tree n now))
        (one_replaced p n old new (placed s.tree) held (node_below s p is room n was at) changes _ _ (placed_from s.tree n (Some was) _ _ at refl refl) here used)
        (placed_once (placed s.tree) (placed (with_node s.tree n now)) n _ there (placed_elsewhere s.tree n was now is.tree.numbers at may.names)))

  module _ (mid new : SectorMap) (dir_ino : ℕ) (directory : Node) (name : List ℕ) (n : ℕ) (now : Node) (makes : MakesNode s dir_ino directory name n now)
      (first : ChangesInode p n old mid) (taken : IsTrue (bit mid p.inode_bitmap n)) (born : HoldsNode p.version mid (inode_at p mid n) (record { node = now; names = 1; parent = dir_ino }))
      (second : ChangesInode p dir_ino mid new) (used : bit new p.inode_bitmap dir_ino ≡ bit mid p.inode_bitmap dir_ino)
      (here : HoldsNode p.version new (inode_at p new dir_ino) (record { node = renamed_node directory (with_entry name_cmp (names_of_body directory.body) name n); names = names_of s.tree dir_ino; parent = parent s.tree dir_ino })) where
    abbrev w : Tree
    w = with_node s.tree n now

    abbrev made : Tree
    made = renamed (with_node s.tree n now) dir_ino directory (with_entry name_cmp (names_of_body directory.body) name n)

    adds : AddsName s.room s.tree w dir_ino directory name n now
    adds =
        makes_name s.room is.room.some_names s.tree dir_ino directory name n now is.tree makes.takes makes.positive makes.below makes.unused makes.newborn

    parents : (x : ℕ) → parent w x ≡ parent s.tree x
    parents x =
        parent-with_node s.tree n now is.tree.numbers x (ap (leading x) makes.newborn.no_names ∙ sym (ap (λ o. leading x (names_or o)) makes.unused))

    apart : dir_ino ≢ n
    apart = dir_apart s.room s.tree w dir_ino directory name n now is.tree adds

    tree_is : changed s.tree (Make dir_ino name n now) ≡ made
    tree_is = named_is w dir_ino directory name n (stands_then s.room s.tree w dir_ino directory name n now is.tree adds)

    make_stays : swept (changed s.tree (Make dir_ino name n now)) processes ≡ made
    make_stays =
        ap (λ u. swept u processes) tree_is
        ∙ nothing_goes s is up processes still made (added_is_tree s.room s.tree w dir_ino directory name n now is.tree adds) (added_keeps_types s.room s.tree w dir_ino directory name n now is.tree adds)
        (added_nameless s.room s.tree w dir_ino directory name n now is.tree adds parents)

    node_now : placed made n ≡ Some (record { node = now; names = 1; parent = dir_ino })
    node_now =
        let none = nothing_leads s.room s.tree n is.tree makes.unused in
        added_node s.room s.tree w dir_ino directory name n now is.tree adds parents
        ∙ ap (λ k. Some (record { node = now; names = k + 1; parent = parent made n })) none
        ∙ ap (λ k. Some (record { node = now; names = 1; parent = k })) (new_parent s.room s.tree w dir_ino directory name n now is.tree adds none)

    held_then : HoldsAll p mid (placing n (Some (record { node = now; names = 1; parent = dir_ino })) (placed s.tree))
    held_then =
        one_placed p n old mid (placed s.tree) held (below_inodes s p room n makes.below) first (Some (record { node = now; names = 1; parent = dir_ino })) born
        (taken ∙ sym (or_right (nat_eq n 0 || nat_le p.inodes n) true refl))

    -- a node was made, and named
    pub make_held : HoldsAll p new (placed (swept (changed s.tree (Make dir_ino name n now)) processes))
    make_held =
        subst (λ u. HoldsAll p new (placed u)) (sym make_stays)
        (same_placed p new _ (placed made)
        (one_replaced p dir_ino mid new (placing n (Some (record { node = now; names = 1; parent = dir_ino })) (placed s.tree)) held_then (node_below s p is room dir_ino directory makes.takes.stands) second _ _
        (placing_other n _ (placed s.tree) dir_ino apart ∙ placed_from s.tree dir_ino (Some directory) _ _ makes.takes.stands refl refl) here used)
        (placed_twice (placed s.tree) (placed made) n dir_ino _ _ node_now (added_dir s.room s.tree w dir_ino directory name n now is.tree adds parents)
        (added_others s.room s.tree w dir_ino directory name n now is.tree adds parents)))

  module _ (mid new : SectorMap) (dir_ino : ℕ) (directory : Node) (name : List ℕ) (n : ℕ) (target : Node)
      (gives : GivesName s.room s.tree dir_ino directory name n target)
      (first : ChangesInode p n old mid) (taken : bit mid p.inode_bitmap n ≡ bit old p.inode_bitmap n)
      (counted : HoldsNode p.version mid (inode_at p mid n) (record { node = target; names = names_of s.tree n + 1; parent = parent (changed s.tree (AddName dir_ino name n)) n }))
      (second : ChangesInode p dir_ino mid new) (used : bit new p.inode_bitmap dir_ino ≡ bit mid p.inode_bitmap dir_ino)
      (here : HoldsNode p.version new (inode_at p new dir_ino) (record { node = renamed_node directory (with_entry name_cmp (names_of_body directory.body) name n); names = names_of s.tree dir_ino; parent = parent s.tree dir_ino })) where
    given : AddsName s.room s.tree s.tree dir_ino directory name n target
    given = gives_name s.room s.tree dir_ino directory name n target is.tree gives

    abbrev linked : Tree
    linked = renamed s.tree dir_ino directory (with_entry name_cmp (names_of_body directory.body) name n)

    linked_is : changed s.tree (AddName dir_ino name n) ≡ linked
    linked_is = named_is s.tree dir_ino directory name n gives.takes.stands

    add_stays : swept (changed s.tree (AddName dir_ino name n)) processes ≡ linked
    add_stays =
        ap (λ u. swept u processes) linked_is
        ∙ nothing_goes s is up processes still linked (added_is_tree s.room s.tree s.tree dir_ino directory name n target is.tree given) (added_keeps_types s.room s.tree s.tree dir_ino directory name n target is.tree given)
        (added_nameless s.room s.tree s.tree dir_ino directory name n target is.tree given (λ x. refl))

    counted_then : HoldsNode p.version mid (inode_at p mid n) (record { node = target; names = names_of s.tree n + 1; parent = parent linked n })
    counted_then = subst (λ u. HoldsNode p.version mid (inode_at p mid n) (record { node = target; names = names_of s.tree n + 1; parent = parent u n })) linked_is counted

    -- what is no directory was named once more
    pub add_held : HoldsAll p new (placed (swept (changed s.tree (AddName dir_ino name n)) processes))
    add_held =
        subst (λ u. HoldsAll p new (placed u)) (sym add_stays)
        (same_placed p new _ (placed linked)
        (one_replaced p dir_ino mid new _
        (one_replaced p n old mid (placed s.tree) held (node_below s p is room n target gives.there) first _ _ (placed_from s.tree n (Some target) _ _ gives.there refl refl) counted_then taken)
        (node_below s p is room dir_ino directory gives.takes.stands) second _ _
        (placing_other n _ (placed s.tree) dir_ino (dir_apart s.room s.tree s.tree dir_ino directory name n target is.tree given) ∙ placed_from s.tree dir_ino (Some directory) _ _ gives.takes.stands refl refl) here used)
        (placed_twice (placed s.tree) (placed linked) n dir_ino _ _ (added_node s.room s.tree s.tree dir_ino directory name n target is.tree given (λ x. refl))
        (added_dir s.room s.tree s.tree dir_ino directory name n target is.tree given (λ x. refl))
        (added_others s.room s.tree s.tree dir_ino directory name n target is.tree given (λ x. refl))))

  module _ (mid new : SectorMap) (dir_ino : ℕ) (directory : Node) (name : List ℕ) (m : ℕ) (target : Node) (takes : TakesName s.tree (users s.processes s.openings) dir_ino directory name m)
      (at : node_at s.tree m ≡ Some target) (first : ChangesInode p dir_ino old mid) (used : bit mid p.inode_bitmap dir_ino ≡ bit old p.inode_bitmap dir_ino)
      (here : HoldsNode p.version mid (inode_at p mid dir_ino) (record { node = renamed_node directory (without name_cmp (names_of_body directory.body) name); names = names_of s.tree dir_ino; parent = parent s.tree dir_ino }))
      (second : ChangesInode p m mid new) where
    abbrev taken_tree : Tree
    taken_tree = renamed s.tree dir_ino directory (without name_cmp (names_of_body directory.body) name)

    taken_is : changed s.tree (TakeName dir_ino name) ≡ taken_tree
    taken_is = ap (with_names_at s.tree dir_ino (λ names. without name_cmp names name)) takes.stands

    abbrev between : ℕ → Option Placed
    between = placing dir_ino (Some (record { node = renamed_node directory (without name_cmp (names_of_body directory.body) name); names = names_of s.tree dir_ino; parent = parent s.tree dir_ino })) (placed s.tree)

    between_held : HoldsAll p mid between
    between_held =
        one_replaced p dir_ino old mid (placed s.tree) held (node_below s p is room dir_ino directory takes.stands) first _ _
        (placed_from s.tree dir_ino (Some directory) _ _ takes.stands refl refl) here used

    below : m < p.inodes
    below = node_below s p is room m target at

    taken_then : (o : Option Placed) → placed (swept taken_tree processes) m ≡ o → HoldsAll p new (placing m o between)
        → HoldsAll p new (placed (swept (changed s.tree (TakeName dir_ino name)) processes))
    taken_then o is_o all =
        subst (λ u. HoldsAll p new (placed (swept u processes))) (sym taken_is)
        (same_placed p new (placing m o between) (placed (swept taken_tree processes)) all
        (placed_twice (placed s.tree) (placed (swept taken_tree processes)) dir_ino m _ o (taken_dir s is up processes still dir_ino directory name m takes) is_o
        (taken_others s is up processes still dir_ino directory name m takes)))

    -- a name was taken from what stays
    pub take_held : (not (names_of s.tree m - 1 == 0) || lives_nameless processes m target.body) ≡ true → bit new p.inode_bitmap m ≡ bit mid p.inode_bitmap m
        → HoldsNode p.version new (inode_at p new m) (record { node = target; names = names_of s.tree m - 1; parent = parent (changed s.tree (TakeName dir_ino name)) m })
        → HoldsAll p new (placed (swept (changed s.tree (TakeName dir_ino name)) processes))
    take_held stay marked counted =
        taken_then _ (taken_stays s is up processes still dir_ino directory name m takes target at stay)
        (one_replaced p m mid new between between_held below second _ _
        (placing_other dir_ino _ (placed s.tree) m (taken_apart s is up processes still dir_ino directory name m takes) ∙ placed_from s.tree m (Some target) _ _ at refl refl)
        (subst (λ u. HoldsNode p.version new (inode_at p new m) (record { node = target; names = names_of s.tree m - 1; parent = parent u m })) taken_is counted) marked)

    -- the last name was taken
    pub drop_held : (not (names_of s.tree m - 1 == 0) || lives_nameless processes m target.body) ≡ false → bit new p.inode_bitmap m ≡ false
        → inode_at p new m ≡ free_inode → HoldsAll p new (placed (swept (changed s.tree (TakeName dir_ino name)) processes))
    drop_held goes clear free =
        taken_then None (taken_goes s is up processes still dir_ino directory name m takes target at goes)
        (one_dropped p m mid new between between_held below second (is.tree.each m target at).positive free clear)
