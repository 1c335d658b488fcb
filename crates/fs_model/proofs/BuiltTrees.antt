-- Where the rules hold there is a tree that the image holds.
use Rattle.fs_model.proofs.StoredStamps.{stamps_fit}
use Rattle.std.specs.Prelude.{◌≡◌, ◌≢◌, ℕ, zero, suc, ◌/◌, ◌%◌, ◌<◌, ◌≤◌, ◌^◌, ◌==◌, ◌||◌, nat_lt, nat_le, nat_eq, not, Bool, true, false, cond, List, length, get_or, Option, Some, None, is_some, IsTrue, ◌⊎◌}
use Rattle.std.proofs.Common.{refl, sym, ap, arith, ◌∙◌, subst, inl, inr}
use Rattle.std.specs.Option.{option_map}
use Rattle.std.proofs.lemmas.Bool.{cases_eq, cases_lt}
use Rattle.std.proofs.lemmas.Bool.Decides.{nat_tests}
use Rattle.std.proofs.lemmas.List.{get_or_default}
use Rattle.fs_layout.specs.declared.inode.Kind.{Kind}
use Rattle.fs_layout.specs.declared.inode.Kind.TheVariants as kinds
use Rattle.fs_layout.specs.declared.geometry.Geometry.{Geometry}
use Rattle.fs_layout.specs.Bytes.{SectorMap, IsSector, IsBytes, u16_of}
use Rattle.fs_layout.specs.Inode.{inode_fits, FitsInode}
use Rattle.fs_layout.specs.Version.{max_name, keeps_times}
use Rattle.fs_layout.specs.Geometry.{IsGeometry}
use Rattle.fs_layout.specs.Images.{inode_map_bits, bit, HasWholeTables, stored, inode_at, pointer, Owns, byte_in, byte_at, Holds}
use Rattle.fs_layout.specs.Ownership.{IsConsistent}
use Rattle.fs_model.specs.Limits.{root}
use Rattle.fs_layout.specs.Maps.{name_cmp, get, IsMap}
use Rattle.fs_model.specs.Nodes.{Node, Body, File, Dir, Link, Directory}
use Rattle.fs_model.specs.Trees.{Tree, node_at, names_of, parent, IsEntry, IsDirectory, IsTarget, IsBody, NamesFit, IsUnderRoot, is_root, is_in, IsNode, IsTree, AreStamps}
use Rattle.fs_layout.specs.Directories.{names_of_slots, slot_at, slot_count, NamedInode, IsName}
use Rattle.fs_model.specs.StoredNodes.{Placed, HoldsBody, HoldsDirectory, HoldsLink, names_field, parent_field}
use Rattle.fs_model.specs.Stands.{HoldsPlaced, HoldsAll, placed, room_of}
use Rattle.fs_model.proofs.StepsParents.{parent_is}
use Rattle.fs_model.specs.Rules.{ImageRule, InodeBits, Inodes, InData, OwnedOnce, BlockBits, LaidOut, Acls, Slots, NamesApart, Names, Parents, Ways, ObeysEach, IsLaidOut, HasAcls, IsGoodInode, HasNameCount, GoesUp, at_root, above, namings, namings_in, is_directory_kind}
use Rattle.fs_model.proofs.ListedMaps.{listed, listed-IsMap, get-listed, get-past}
use Rattle.fs_layout.proofs.SlotNames.{names-IsMap, length-names, named_by}
use Rattle.fs_model.specs.Summaries.{is_used}
use Rattle.fs_model.proofs.KindFields.{kind_field, inode_fits_at}
use Rattle.fs_model.proofs.Marks.{marks}
use Rattle.fs_layout.proofs.ImageSlots.{length-slots_of, slot_there, HasWholeBlocks}
use Rattle.fs_model.proofs.StoredTrees.{StoresAt, Stores, unnamed, names_there, names_are_slots, used_is, directory_there, directory_stored, below_if, stored_at, directory_slots, no_namings, is_directory_kind-true}
use Rattle.fs_model.proofs.BuiltNodes.{file_node, link_node, directory_node, whole_blocks, link_fits}

-- what is owned by an inode of kind k, if it is free
module _ (p : Geometry) (m : SectorMap) (geometry : IsGeometry p) (sectors : (s : ℕ) → s < p.sectors → IsSector (m s)) (rules : (r : ImageRule) → ObeysEach p m r) where
  tables : HasWholeTables p m
  tables s ge lt = let room = geometry.data_sectors in sectors s (omega (arith, lt, room))

  good : (n : ℕ) → n < p.inodes → IsGoodInode p m n
  good n lt = rules Inodes n lt

  fits : (n : ℕ) → n < p.inodes → FitsInode (inode_at p m n)
  fits n lt = inode_fits_at p m n geometry tables lt (good n lt).is

  whole : (n : ℕ) → n < p.inodes → (s : ℕ) → Owns m (inode_at p m n) s → IsSector (m s)
  whole n lt s o = sectors s (rules InData n lt s o).1

  blocks : (n : ℕ) → n < p.inodes → HasWholeBlocks m (inode_at p m n)
  blocks n lt = whole_blocks m (inode_at p m n) (whole n lt)

  out : (n : ℕ) → n < p.inodes → IsLaidOut m (inode_at p m n)
  out n lt = rules LaidOut n lt

  acls : (n : ℕ) → n < p.inodes → HasAcls m (inode_at p m n)
  acls n lt = rules Acls n lt

  abbrev Picked : ℕ → Type 0
  Picked n = (o : Option Node) × StoresAt p.version m (inode_at p m n) o

  pick : (n : ℕ) → n < p.inodes → Picked n
  pick n lt = go (inode_at p m n).kind refl
    where
      numbers : IsTrue (inode_fits (inode_at p m n))
      numbers = (fits n lt).valid.numbers

      go : (k : Kind) → (inode_at p m n).kind ≡ k → Picked n
      go kinds.Free e = (None, (fits n lt).valid.free e)
      go kinds.File e = let x = file_node m (inode_at p m n) (whole n lt) p.version numbers (out n lt) (acls n lt) e in (Some x.0, x.1)
      go kinds.Directory e =
          let x = directory_node m (inode_at p m n) (whole n lt) p.version numbers (out n lt) (acls n lt) e
          (λ k below. (rules Slots n lt e k below).is) (rules NamesApart n lt e) (good n lt).allowed in
          (Some x.0, x.1)
      go kinds.Link e = let x = link_node m (inode_at p m n) (whole n lt) p.version numbers (out n lt) (acls n lt) e in (Some x.0, x.1)

  choose : (n : ℕ) → (n < p.inodes) ⊎ (p.inodes ≤ n) → Option Node
  choose n (inl lt) = (pick n lt).0
  choose n (inr ge) = None

  chosen : (n : ℕ) → (c : (n < p.inodes) ⊎ (p.inodes ≤ n)) → n < p.inodes → StoresAt p.version m (inode_at p m n) (choose n c)
  unfolding choose
  chosen n (inl lt) below = (pick n lt).1
  chosen n (inr ge) below = absurd (omega (arith, ge, below))

  what : ℕ → Option Node
  what n = choose n (cases_lt n p.inodes)

  -- the tree of what the inodes hold
  pub tree : Tree
  tree = listed what 0 p.inodes

  at : (n : ℕ) → n < p.inodes → node_at tree n ≡ what n
  unfolding tree
  at n lt = get-listed what 0 p.inodes n (omega arith) (omega (arith, lt))

  pub stores : Stores p m tree
  unfolding tree what
  stores = record {
    numbers = listed-IsMap what 0 p.inodes;
    past = λ n ge. get-past what 0 p.inodes n (omega (arith, ge));
    blocks = blocks;
    nodes = λ n lt. subst (StoresAt p.version m (inode_at p m n)) (sym (at n lt)) (chosen n (cases_lt n p.inodes) lt);
  }

  -- ---- parents

  names_counted : (n : ℕ) → names_of tree n ≡ namings p m n
  names_counted n = names_are_slots p m tree stores n

  names_rule : (n : ℕ) → n < p.inodes → HasNameCount p.version (inode_at p m n).kind n (inode_at p m n).names (names_of tree n)
  names_rule n lt = subst (HasNameCount p.version (inode_at p m n).kind n (inode_at p m n).names) (sym (names_counted n)) (rules Names n lt)

  directory_names : (n : ℕ) → n < p.inodes → (inode_at p m n).kind ≡ kinds.Directory → ((inode_at p m n).names ≡ 1) × (names_of tree n ≡ (cond (n == root) 0 1))
  directory_names n lt kind = subst (λ k. HasNameCount p.version k n (inode_at p m n).names (names_of tree n)) kind (names_rule n lt)

  at_most_one : (b : Bool) → cond b 0 1 ≤ 1
  at_most_one true = omega arith
  at_most_one false = omega arith

  parent_field_is : (n : ℕ) → n < p.inodes → (inode_at p m n).kind ≡ kinds.Directory → (inode_at p m n).parent ≡ parent tree n
  parent_field_is n lt kind = elim (cases_eq n root) [
    | inl e ↦
        let top : (n == root) ≡ true = grind (arith, nat_tests) in
        let none : names_of tree n ≡ 0 = (directory_names n lt kind).1 ∙ ap (λ b. cond b 0 1) top in
        (rules Parents n lt).top e ∙ sym (unnamed tree n none)
    | inr ne ↦
        let v = (inode_at p m n) in
        let named = (rules Parents n lt).named kind ne in
        let here = names_there p m tree stores v.parent n named.0 in
        let one = (directory_names n lt kind).1 in
        let few = at_most_one (n == root) in
        let more = named.1 in
        sym (parent_is tree v.parent n (omega (arith, here, more)) (omega (arith, one, few)))
  ]

  is_directory_named : (n x : ℕ) → 1 ≤ namings_in p.version m (inode_at p m n) x → (inode_at p m n).kind ≡ kinds.Directory
  is_directory_named n x some = go (is_directory_kind (inode_at p m n).kind) refl
    where
      go : (b : Bool) → is_directory_kind (inode_at p m n).kind ≡ b → (inode_at p m n).kind ≡ kinds.Directory
      go true e = is_directory_kind-true (inode_at p m n).kind e
      go false e = absurd (let none = no_namings p.version m (inode_at p m n) x e in omega (arith, none, some))

  reaches : {d : ℕ} → GoesUp p m d → d < p.inodes → (inode_at p m d).kind ≡ kinds.Directory → IsUnderRoot tree d
  reaches at_root lt kind = is_root
  reaches (above d up) lt kind = elim (cases_eq d root) [
    | inl e ↦ subst (IsUnderRoot tree) (sym e) is_root
    | inr ne ↦
        let named = (rules Parents d lt).named kind ne in
        let rest = reaches up named.0 (is_directory_named (inode_at p m d).parent d named.1) in
        is_in d (subst (IsUnderRoot tree) (parent_field_is d lt kind) rest)
  ]

  -- ---- nodes

  byte_small : (n : ℕ) → n < p.inodes → (i : ℕ) → byte_at m (inode_at p m n) i < 256
  unfolding byte_at
  byte_small n lt i = go (pointer m (inode_at p m n) (i / 512)) refl
    where
      go : (s : ℕ) → pointer m (inode_at p m n) (i / 512) ≡ s → byte_in m s (i % 512) < 256
      go zero e = omega arith
      go (suc s) e =
          let sector = blocks n lt (i / 512) (λ z. let c : suc s ≡ 0 = sym e ∙ z in omega (arith, c)) in
          (subst (λ k. IsSector (m k)) e sector).bytes (i % 512)

  held_bytes : (n : ℕ) → n < p.inodes → (bytes : List ℕ) → Holds m (inode_at p m n) bytes → IsBytes bytes
  held_bytes n lt bytes h i = let small = byte_small n lt i in let e = h.byte i in omega (arith, small, e)

  target_is : (n : ℕ) → n < p.inodes → (target : List ℕ) → HoldsLink m (inode_at p m n) target → IsTarget target
  target_is n lt target h =
      let size = h.holds.size in
      let numbers = link_fits (inode_at p m n) h.kind (fits n lt).valid.numbers in
      record {
        some = omega (arith, size, numbers.1);
        short = omega (arith, size, numbers.2);
        bytes = held_bytes n lt target h.holds;
        no_zero = λ i d below e.
            (out n lt).target h.kind i (omega (arith, below, size)) (h.holds.byte i ∙ get_or_default target i 0 d below ∙ e);
      }

  entry_is : (n : ℕ) → n < p.inodes → {a : _} {d : _} → (h : HoldsDirectory p.version m (inode_at p m n) a d) → (name : List ℕ) (x : ℕ)
      → get name_cmp (names_of_slots h.names.slots) name ≡ Some x → IsEntry (room_of p) tree name x
  entry_is n lt h name x e =
      let none = slot_at p.version m (inode_at p m n) 0 in
      let r = named_by h.names.slots none name x e in
      let same = directory_slots p.version m (inode_at p m n) (blocks n lt) h in
      let fit = h.names.each r.at none r.below in
      let below : r.at < slot_count p.version (inode_at p m n) = (let l = r.below in let c = ap length same in omega (arith, l, c, length-slots_of p.version m (inode_at p m n))) in
      let slot = rules Slots n lt h.names.kind r.at below in
      let here : slot_at p.version m (inode_at p m n) r.at ≡ get_or h.names.slots r.at none = sym (slot_there p.version m (inode_at p m n) r.at none below) ∙ ap (λ (q : List NamedInode). get_or q r.at none) (sym same) in
      let number : (slot_at p.version m (inode_at p m n) r.at).ino ≡ x = ap (λ (s : NamedInode). s.ino) here ∙ r.inode_is in
      let used : is_used (inode_at p m x).kind ≡ true = (
      subst (λ q. is_used (inode_at p m q).kind ≡ true) number (used_if (inode_at p m (slot_at p.version m (inode_at p m n) r.at).ino).kind slot.used)) in
      let few : x < p.inodes = subst (λ q. q < p.inodes) number slot.below in
      record {
        is_name = subst IsName r.name_is fit.name;
        short = subst (λ q. length q ≤ max_name p.version) r.name_is fit.short;
        bytes = subst IsBytes r.name_is fit.bytes;
        leads = ((λ z. slot.not_root (number ∙ z)), used_is p m tree stores x few ∙ used);
      }
    where
      used_if : (k : Kind) → k ≢ kinds.Free → is_used k ≡ true
      used_if kinds.Free ne = absurd (ne refl)
      used_if kinds.File ne = refl
      used_if kinds.Directory ne = refl
      used_if kinds.Link ne = refl

  directory_is : (n : ℕ) → n < p.inodes → {a : _} {d : Directory} → (h : HoldsDirectory p.version m (inode_at p m n) a d) → IsDirectory (room_of p) tree d
  directory_is n lt {d = d} h =
      let count = ap length h.names.are in
      let most = h.names.few in
      record {
        names = subst (IsMap name_cmp) (sym h.names.are) (names-IsMap h.names.slots);
        few = omega (arith, most, count, length-names h.names.slots h.names.apart);
        each = λ name x e. entry_is n lt h name x (ap (λ q. get name_cmp q name) (sym h.names.are) ∙ e);
      }

  body_is : (n : ℕ) → n < p.inodes → (b : Body) → HoldsBody p.version m (inode_at p m n) b → IsBody (room_of p) tree b
  body_is n lt (File a bytes) h =
      let size = h.holds.size in
      let few = (good n lt).allowed.size h.kind in
      (h.acl, omega (arith, size, few), held_bytes n lt bytes h.holds)
  body_is n lt (Dir a d) h = (h.acl, h.default, directory_is n lt h)
  body_is n lt (Link target) h = target_is n lt target h

  names_fit : (n : ℕ) → n < p.inodes → (b : Body) → HoldsBody p.version m (inode_at p m n) b → NamesFit (room_of p) n b (names_of tree n)
  names_fit n lt (File a bytes) h = (subst (λ k. HasNameCount p.version k n (inode_at p m n).names (names_of tree n)) h.kind (names_rule n lt)).1
  names_fit n lt (Dir a d) h = (subst (λ k. HasNameCount p.version k n (inode_at p m n).names (names_of tree n)) h.names.kind (names_rule n lt)).1
  names_fit n lt (Link target) h = let x = subst (λ k. HasNameCount p.version k n (inode_at p m n).names (names_of tree n)) h.kind (names_rule n lt) in (x.1, x.2)

  names_said : (n : ℕ) → n < p.inodes → (b : Body) → HoldsBody p.version m (inode_at p m n) b → (inode_at p m n).names ≡ names_field b (names_of tree n)
  names_said n lt (File a bytes) h = (subst (λ k. HasNameCount p.version k n (inode_at p m n).names (names_of tree n)) h.kind (names_rule n lt)).0
  names_said n lt (Dir a d) h = (subst (λ k. HasNameCount p.version k n (inode_at p m n).names (names_of tree n)) h.names.kind (names_rule n lt)).0
  names_said n lt (Link target) h = (subst (λ k. HasNameCount p.version k n (inode_at p m n).names (names_of tree n)) h.kind (names_rule n lt)).0

  parent_said : (n : ℕ) → n < p.inodes → (b : Body) → HoldsBody p.version m (inode_at p m n) b → (inode_at p m n).parent ≡ parent_field b (parent tree n)
  parent_said n lt (File a bytes) h = (rules Parents n lt).none (λ e. let c : kinds.File ≡ kinds.Directory = sym h.kind ∙ e in cc)
  parent_said n lt (Dir a d) h = parent_field_is n lt h.names.kind
  parent_said n lt (Link target) h = (rules Parents n lt).none (λ e. let c : kinds.Link ≡ kinds.Directory = sym h.kind ∙ e in cc)

  node_held : (n : ℕ) → n < p.inodes → (o : Option Node) → StoresAt p.version m (inode_at p m n) o
      → HoldsPlaced p m n (option_map (λ node. record { node = node; names = names_of tree n; parent = parent tree n }) o)
  node_held n lt None h = h
  node_held n lt (Some node) h = record {
    owner = h.owner;
    group = h.group;
    mode = h.mode;
    stamps = h.stamps;
    names = names_said n lt node.body h.body;
    parent = parent_said n lt node.body h.body;
    body = h.body;
  }

  positive_if : (n : ℕ) (node : Node) → n < p.inodes → node_at tree n ≡ Some node → 1 ≤ n
  positive_if zero node lt e = absurd (
      let used : is_used (inode_at p m 0).kind ≡ true = sym (used_is p m tree stores 0 lt) ∙ ap is_some e in
      let free : is_used (inode_at p m 0).kind ≡ false = ap is_used ((good 0 lt).none refl) in
      let c : true ≡ false = sym used ∙ free in cc)
  positive_if (suc n) node lt e = omega arith

  node_is : (n : ℕ) (node : Node) → node_at tree n ≡ Some node → IsNode (room_of p) tree n node
  node_is n node e =
      let lt = below_if p m tree stores n node e in
      let held = stored_at p m tree stores n node lt e in
      let uid = (fits n lt).uid in
      let gid = (fits n lt).gid in
      record {
        positive = positive_if n node lt e;
        below = lt;
        owner = subst (λ x. x < 2 ^ 32) held.owner uid;
        group = subst (λ x. x < 2 ^ 32) held.group gid;
        body = body_is n lt node.body held.body;
        stamps = subst (AreStamps (keeps_times p.version)) held.stamps (stamps_fit (keeps_times p.version) (inode_at p m n) (fits n lt) (good n lt).allowed.stamps);
        names = names_fit n lt node.body held.body;
        under_root = λ d.
            let kind = (directory_stored p m tree stores n (record { node = node; is_there = e; directory = d })).1 in
            reaches (rules Ways n lt kind) lt kind;
      }

  pub tree_is : IsTree (room_of p) tree
  tree_is =
      let many = geometry.least_inodes in
      let lt : root < p.inodes = omega (arith, many) in
      record {
        numbers = stores.numbers;
        root_is_there = directory_there p m tree stores root lt ((good root lt).top refl);
        each = node_is;
      }

  -- ---- the whole image

  pub consistent : IsConsistent p m
  consistent = record {
    geometry = geometry;
    sectors = tables;
    owned_sectors = λ n s lt o. whole n lt s o;
    valid = λ n lt. (good n lt).is;
    in_data = λ n s lt o. rules InData n lt s o;
    sole = λ n k s a b x y. rules OwnedOnce s n k a b x y;
    block_bits = λ s lt. rules BlockBits s lt;
  }

  placed_some : (n : ℕ) → is_some (placed tree n) ≡ is_some (node_at tree n)
  placed_some n = go (node_at tree n)
    where
      put : Node → Placed
      put node = record { node = node; names = names_of tree n; parent = parent tree n }

      go : (o : Option Node) → is_some (option_map put o) ≡ is_some o
      go None = refl
      go (Some node) = refl

  inode_bit : (n : ℕ) → n < inode_map_bits p → bit m p.inode_bitmap n ≡ (nat_eq n 0 || nat_le p.inodes n || is_some (placed tree n))
  inode_bit n small = elim (cases_lt n p.inodes) [
    | inl lt ↦
        let used : is_some (placed tree n) ≡ not (nat_eq (u16_of (stored p m n) 0) 0) =
        placed_some n ∙ used_is p m tree stores n lt ∙ sym (kind_field (stored p m n) (inode_at p m n) (good n lt).is) in
        rules InodeBits n small
        ∙ marks n (nat_le p.inodes n) (not (nat_eq (u16_of (stored p m n) 0) 0))
        (λ e. kind_field (stored p m n) (inode_at p m n) (good n lt).is ∙ ap is_used ((good n lt).top e))
        ∙ ap (λ c. nat_eq n 0 || nat_le p.inodes n || c) (sym used)
    | inr ge ↦
        let past : nat_le p.inodes n ≡ true = grind (arith, nat_tests) in
        rules InodeBits n small ∙ ap (λ b. nat_lt n 2 || b || not (nat_eq (u16_of (stored p m n) 0) 0)) past
        ∙ either (nat_lt n 2) (not (nat_eq (u16_of (stored p m n) 0) 0)) ∙ sym (either (nat_eq n 0) (is_some (placed tree n)))
        ∙ ap (λ b. nat_eq n 0 || b || is_some (placed tree n)) (sym past)
  ]
    where
      either : (a c : Bool) → (a || true || c) ≡ true
      either true c = refl
      either false c = refl

  pub held_all : HoldsAll p m (placed tree)
  held_all = record {
    consistent = consistent;
    nodes = λ n lt. node_held n lt (node_at tree n) (stores.nodes n lt);
    inode_bits = inode_bit;
  }
