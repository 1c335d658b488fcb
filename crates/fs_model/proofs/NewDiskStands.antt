-- A new disk stands for the tree of an empty root.
use Rattle.fs_model.specs.Nodes.{no_stamps, Node, Dir}
use Rattle.fs_model.proofs.StoredStamps.{no_stamps_fit, root_stamps}
use Rattle.std.specs.Prelude.{◌≡◌, ◌≢◌, ℕ, ◌^◌, ◌-◌, ◌<◌, ◌≤◌, nat_eq, nat_le, ◌||◌, Bool, true, false, cond, [], None, Some, is_some, Ok}
use Rattle.std.proofs.Common.{refl, sym, ap, arith, ◌∙◌, subst, inl, inr}
use Rattle.std.proofs.lemmas.Bool.{cases_eq, ne_eqb}
use Rattle.std.proofs.lemmas.List.Elements.{All-nil}
use Rattle.std.specs.Ordering.{nat_cmp, is_eq}
use Rattle.posix_acl.specs.AccessList.{minimal}
use Rattle.posix_acl.proofs.Laws.{minimal_valid}
use Rattle.fs_layout.specs.declared.geometry.Geometry.{Geometry}
use Rattle.fs_layout.specs.Bytes.{SectorMap}
use Rattle.fs_layout.specs.Inode.{FitsInode, free_inode, inode_of}
use Rattle.fs_layout.specs.declared.version.Version.{Version}
use Rattle.fs_layout.specs.declared.version.Version.TheVariants.{One, Two, Three}
use Rattle.fs_layout.specs.Geometry.{IsGeometry, geometry_in, new_header, super_for}
use Rattle.fs_layout.specs.Superblock.{numbers_end}
use Rattle.std.specs.Option.{option_map}
use Rattle.fs_layout.specs.Images.{IsData, bit, inode_at, stored, free_sectors}
use Rattle.fs_layout.specs.Ownership.{IsConsistent}
use Rattle.fs_layout.specs.Recovered.{recovered}
use Rattle.fs_layout.proofs.Bits.{has_bit, set_or_clear, free_sectors_all}
use Rattle.fs_layout.proofs.Free.{HasNoSector, owns_nothing, holds_nothing, free_has_no_sector, free_fits, consistent_without_owners}
use Rattle.fs_layout.proofs.UsedInodes.{made_fits}
use Rattle.fs_layout.proofs.Places.{numbers_most, geometry_is_laid_out, is_a_geometry}
use Rattle.fs_layout.proofs.RecoveryLaw.{idle_commit, recovered-idle}
use Rattle.fs_layout.proofs.Saves.{inode_there, valid_there}
use Rattle.fs_model.specs.Limits.{root}
use Rattle.fs_model.specs.Trees.{Room, node_at, names_of, parent, IsNode, IsTree, is_root}
use Rattle.fs_layout.specs.Directories.{names_of_slots, FitsSlot}
use Rattle.fs_model.specs.StoredNodes.{Placed, HoldsNode}
use Rattle.fs_model.specs.Stands.{HoldsPlaced, HoldsAll, placed, room_of, Stands}
use Rattle.fs_model.specs.NewDisk.{empty_tree, root_inode, IsNewImage}
use Rattle.fs_model.proofs.NodesHeld.{node_held}
use Rattle.fs_layout.proofs.FirstEntries.{apart, tied}

-- ---- the root's inode

root_fits : FitsInode root_inode
root_fits = made_fits (λ e. cc) refl (omega arith) (omega arith) (omega arith) (omega arith)

root_has_no_sector : HasNoSector root_inode
root_has_no_sector = record { acl = refl; default_acl = refl; direct = free_has_no_sector.direct; indirect = free_has_no_sector.indirect }

-- ---- the tree

root_alone : (n : ℕ) (node : Node) → node_at empty_tree n ≡ Some node → n ≡ root
root_alone n node e = go (is_eq (nat_cmp n root)) refl
  where
    go : (b : Bool) → is_eq (nat_cmp n root) ≡ b → n ≡ root
    go true t = tied n root t
    go false f = absurd (let none : node_at empty_tree n ≡ None = ap (λ b. cond b (node_at empty_tree root) None) f in cc)

elsewhere : (n : ℕ) → n ≢ root → node_at empty_tree n ≡ None
elsewhere n ne = ap (λ b. cond b (node_at empty_tree root) None) (apart n root ne)

abbrev put : ℕ → Node → Placed
put n node = record { node = node; names = names_of empty_tree n; parent = parent empty_tree n }

none_placed : (n : ℕ) → n ≢ root → placed empty_tree n ≡ None
none_placed n ne = ap (option_map (put n)) (elsewhere n ne)

abbrev root_node : Node
root_node = record { owner = 0; group = 0; body = Dir (minimal 0o755) (record { names = []; default = None; set_group_id = false; sticky = false }); stamps = no_stamps }

root_is_node : (room : Room) → 16 ≤ room.inodes → IsNode room empty_tree root root_node
root_is_node room many = record {
  positive = omega arith;
  below = omega (arith, many);
  owner = omega arith;
  group = omega arith;
  stamps = no_stamps_fit room.keeps_times;
  body = (minimal_valid 0o755, tt, record { names = refl; few = omega arith; each = λ name n e. absurd cc });
  names = refl;
  under_root = λ d. is_root;
}

empty_is_tree : (room : Room) → 16 ≤ room.inodes → IsTree room empty_tree
empty_is_tree room many = record {
  numbers = refl;
  root_is_there = record { node = root_node; is_there = refl; directory = refl };
  each = λ n node e.
      let at : n ≡ root = root_alone n node e in
      let same : root_node ≡ node = (let there : Some root_node ≡ Some node = ap (node_at empty_tree) (sym at) ∙ e in cc) in
      subst (λ v. IsNode room empty_tree n v) same (subst (λ k. IsNode room empty_tree k root_node) (sym at) (root_is_node room many));
}

-- ---- the image

-- where a superblock has no number of header sectors, a new disk has none of them
without_header : (version : Version) (sectors inodes : ℕ) → numbers_end version ≡ 16 → new_header version sectors inodes ≡ 0
without_header One sectors inodes e = refl
without_header Two sectors inodes e = refl
without_header Three sectors inodes e = absurd (omega (arith, e))

module _ (p : Geometry) (image : SectorMap) (h : IsNewImage p image) where
  geometry : IsGeometry p
  geometry = is_a_geometry p.version (new_header p.version p.sectors p.inodes) p.sectors p.inodes h.has_geometry

  few : root < p.inodes
  few = let many = geometry.least_inodes in omega (arith, many)

  the_root : inode_at p image root ≡ root_inode
  the_root = inode_there p image root root_inode root_fits h.root_is

  the_others : (n : ℕ) → n < p.inodes → n ≢ root → inode_at p image n ≡ free_inode
  the_others n lt ne = inode_there p image n free_inode free_fits (h.free n lt ne)

  valid : (n : ℕ) → n < p.inodes → inode_of (stored p image n) ≡ Ok (inode_at p image n)
  valid n lt = elim (cases_eq n root) [
    | inl e ↦ subst (λ k. inode_of (stored p image k) ≡ Ok (inode_at p image k)) (sym e) (valid_there p image root root_inode root_fits h.root_is)
    | inr ne ↦ valid_there p image n free_inode free_fits (h.free n lt ne)
  ]

  no_sector : (n : ℕ) → n < p.inodes → HasNoSector (inode_at p image n)
  no_sector n lt = elim (cases_eq n root) [
    | inl e ↦ subst (λ k. HasNoSector (inode_at p image k)) (sym e) (subst HasNoSector (sym the_root) root_has_no_sector)
    | inr ne ↦ subst HasNoSector (sym (the_others n lt ne)) free_has_no_sector
  ]

  consistent : IsConsistent p image
  consistent = consistent_without_owners p image geometry h.tables valid (λ n s lt o. owns_nothing image (inode_at p image n) s (no_sector n lt) o) h.block_bits

  root_held : HoldsNode p.version image root_inode (record { node = root_node; names = 0; parent = root })
  unfolding names_of_slots
  root_held = node_held p.version image root_inode _ refl refl refl refl refl root_stamps (record {
    names = record {
      kind = refl;
      slots = [];
      are = refl;
      apart = λ i j d lt within. absurd (omega (arith, within));
      each = All-nil (FitsSlot p.version);
      few = omega arith;
      holds = holds_nothing image root_inode root_has_no_sector refl;
      whole = λ k lt none. absurd (omega (arith, lt));
    };
    acl = minimal_valid 0o755;
    default = tt;
    has_acl = refl;
    has_default = refl;
  })

  marked : (n : ℕ) → nat_eq n root ≡ is_some (placed empty_tree n)
  marked n = elim (cases_eq n root) [
    | inl e ↦ ap (λ k. nat_eq k root) e ∙ sym (ap (λ k. is_some (placed empty_tree k)) e)
    | inr ne ↦ ne_eqb n root ne ∙ sym (ap is_some (none_placed n ne))
  ]

  held : HoldsAll p image (placed empty_tree)
  held = record {
    consistent = consistent;
    nodes = λ n lt. elim (cases_eq n root) [
      | inl e ↦ subst (λ k. HoldsPlaced p image k (placed empty_tree k)) (sym e)
          (subst (λ v. HoldsNode p.version image v (record { node = root_node; names = 0; parent = root })) (sym the_root) root_held)
      | inr ne ↦ subst (HoldsPlaced p image n) (sym (none_placed n ne)) (the_others n lt ne)
    ];
    inode_bits = λ n lt. h.inode_bits n lt ∙ ap (λ b. nat_eq n 0 || nat_le p.inodes n || b) (marked n);
  }

  clear : (s : ℕ) → IsData p s → bit image p.block_bitmap s ≡ false
  clear s at = elim (set_or_clear (bit image p.block_bitmap s)) [
    | inl set ↦ elim ((h.block_bits s (has_bit geometry s at.1)).0 set) [
      | inl low ↦ absurd (let from = at.0 in omega (arith, from, low))
      | inr past ↦ absurd (let to = at.1 in omega (arith, to, past))
    ]
    | inr none ↦ none
  ]

  small : p.sectors < 2 ^ 32
  small = let most = numbers_most geometry in omega (arith, most.0)

  inodes_small : p.inodes < 2 ^ 32
  inodes_small = let most = numbers_most geometry in omega (arith, most.1)

  idle : recovered p.sectors image ≡ image
  idle = λ i s. recovered-idle p.sectors image s small h.commit i

  header_is : p.header ≡ new_header p.version p.sectors p.inodes
  header_is = ap (λ (q : Geometry). q.header) (geometry_is_laid_out p.sectors p.inodes h.has_geometry)

  -- the superblock says how many header sectors the disk has
  own_geometry : geometry_in p.version p.header p.sectors p.inodes ≡ Some p
  own_geometry = ap (λ (n : ℕ). geometry_in p.version n p.sectors p.inodes) header_is ∙ h.has_geometry

  pub new_disk_stands : Stands p.sectors image (room_of p) empty_tree (p.sectors - p.first_data)
  new_disk_stands = record {
    super = super_for p;
    geometry = p;
    super_is = h.super;
    super_fits = record {
      sectors = small;
      inodes = inodes_small;
      header = let few = geometry.header in omega (arith, few);
      no_header = λ e. header_is ∙ without_header p.version p.sectors p.inodes e;
    };
    same_size = refl;
    has_geometry = own_geometry;
    commit_is = record { targets = []; is = idle_commit p.sectors image h.commit };
    room_is = refl;
    holds = subst (λ m. HoldsAll p m (placed empty_tree)) (sym idle) held;
    tree_is = empty_is_tree (room_of p) geometry.least_inodes;
    free_is = sym (free_sectors_all p image clear) ∙ ap (free_sectors p) (sym idle);
  }
