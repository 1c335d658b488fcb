-- The sectors that inodes own are at most those that their tree needs, so the count of free sectors is within the machine's bounds.
use Rattle.std.specs.Prelude.{◌≡◌, ◌≢◌, ℕ, zero, suc, ◌-◌, ◌*◌, ◌<◌, ◌≤◌, Bool, true, false, not, List, [], ◌∷◌, ◌++◌, length, if◌then◌else◌, Option, None, Some, is_some, MatchOption, ◌⊎◌}
use Rattle.std.proofs.Common.{refl, sym, ap, arith, ◌∙◌, subst, inl, inr}
use Rattle.std.specs.Option.{option_map}
use Rattle.std.specs.List.{range_with_len}
use Rattle.std.proofs.lemmas.Bool.{cases_eq, cases_lt}
use Rattle.std.proofs.lemmas.List.{length-append}
use Rattle.std.proofs.lemmas.List.Sums.{sum_by-cons, count_by-le-length}
use Rattle.std.proofs.lemmas.List.FromFn.{length-range_with_len}
use Rattle.posix_acl.specs.AccessList.{AccessList, is_extended}
use Rattle.fs_layout.specs.declared.inode.Inode.{Inode}
use Rattle.fs_layout.specs.declared.version.Version.{Version}
use Rattle.fs_layout.specs.declared.geometry.Geometry.{Geometry}
use Rattle.fs_layout.specs.Bytes.{SectorMap}
use Rattle.fs_layout.specs.Version.{slot_size}
use Rattle.fs_layout.specs.Inode.{free_inode}
use Rattle.fs_layout.specs.Ownership.{IsOwned}
use Rattle.fs_layout.specs.Images.{IsData, bit, number_on, first_block, pointer, Part, AccessAcl, DefaultAcl, OnLevel, part, Owns, Holds, inode_at, free_sectors}
use Rattle.fs_layout.specs.Recovered.{recovered}
use Rattle.fs_layout.proofs.Bits.{has_bit, set_or_clear}
use Rattle.fs_layout.proofs.Free.{HasNoSector, owns_nothing, free_has_no_sector}
use Rattle.fs_layout.proofs.ImageSlots.{length-slots}
use Rattle.fs_layout.proofs.Pointers.{no_number_on}
use Rattle.fs_layout.proofs.SlotNames.{length-names}
use Rattle.fs_model.specs.Limits.{target_limit}
use Rattle.fs_model.specs.Nodes.{Node, Body, File, Dir, Link, target_in, numbers_for, sectors_for, sectors_of}
use Rattle.fs_model.specs.Trees.{Tree, Room, node_at, names_of, parent, sectors_needed, IsBody, IsTree}
use Rattle.fs_model.specs.States.{MayBeFree}
use Rattle.fs_layout.specs.Directories.{slots_bytes}
use Rattle.fs_layout.specs.AclSector.{HoldsAcl, kept_acl}
use Rattle.fs_model.specs.StoredNodes.{HoldsBody, HoldsNode}
use Rattle.fs_model.specs.Stands.{HoldsAll, placed, Stands}
use Rattle.fs_model.proofs.Counting.{Names, in_first, in_second, passes_or_named}
use Rattle.fs_layout.proofs.FirstEntries.{in_rest}

-- ---- the sectors of one inode

only : Bool → ℕ → List ℕ
only b s = if b then s ∷ [] else []

length-only : (b : Bool) (s : ℕ) → length (only b s) ≡ (if b then 1 else 0)
unfolding only
length-only true s = refl
length-only false s = refl

in_only : (b : Bool) (s : ℕ) → b ≡ true → Names (only b s) s
unfolding only
in_only true s e = inl refl
in_only false s e = absurd cc

abbrev numbers : SectorMap → Inode → ℕ → ℕ → List ℕ
numbers image v level zero = []
numbers image v level (suc n) = number_on image v level n ∷ numbers image v level n

length-numbers : (image : SectorMap) (v : Inode) (level n : ℕ) → length (numbers image v level n) ≡ n
length-numbers image v level zero = refl
length-numbers image v level (suc n) = ap (λ k. suc k) (length-numbers image v level n)

in_numbers : (image : SectorMap) (v : Inode) (level n i : ℕ) → i < n → Names (numbers image v level n) (number_on image v level i)
in_numbers image v level zero i lt = absurd (omega arith)
in_numbers image v level (suc n) i lt = elim (cases_eq i n) [
  | inl e ↦ inl (ap (number_on image v level) e)
  | inr ne ↦ inr (in_numbers image v level n i (omega arith))
]

-- of so many bytes: the blocks, the sectors of pointers to them, and those to these
module _ (image : SectorMap) (v : Inode) (size : ℕ) where
  needed : ℕ → List ℕ
  needed level = numbers image v level (numbers_for level size)

  content : List ℕ
  content = needed 0 ++ (needed 1 ++ (needed 2 ++ needed 3))

  length-content : length content ≡ sectors_for size
  unfolding content needed
  length-content =
      let a = length-append (needed 0) (needed 1 ++ (needed 2 ++ needed 3)) in
      let b = length-append (needed 1) (needed 2 ++ needed 3) in
      let c = length-append (needed 2) (needed 3) in
      let n0 = length-numbers image v 0 (numbers_for 0 size) in
      let n1 = length-numbers image v 1 (numbers_for 1 size) in
      let n2 = length-numbers image v 2 (numbers_for 2 size) in
      let n3 = length-numbers image v 3 (numbers_for 3 size) in
      omega (arith, a, b, c, n0, n1, n2, n3)

abbrev taken : ℕ → SectorMap → Inode → Body → List ℕ
taken slot image v (File a bytes) = content image v (length bytes) ++ only (is_extended a) v.acl
taken slot image v (Dir a d) = (content image v (slot * length d.names) ++ only (is_extended a) v.acl) ++ only (is_some d.default) v.default_acl
taken slot image v (Link target) = pointer image v 0 ∷ []

length-taken : (slot : ℕ) (image : SectorMap) (v : Inode) (b : Body) → length (taken slot image v b) ≡ sectors_of slot b
length-taken slot image v (File a bytes) =
    let x = length-append (content image v (length bytes)) (only (is_extended a) v.acl) in
    let y = length-content image v (length bytes) in
    let z = length-only (is_extended a) v.acl in
    omega (arith, x, y, z)
length-taken slot image v (Dir a d) =
    let w = length-append (content image v (slot * length d.names) ++ only (is_extended a) v.acl) (only (is_some d.default) v.default_acl) in
    let x = length-append (content image v (slot * length d.names)) (only (is_extended a) v.acl) in
    let y = length-content image v (slot * length d.names) in
    let z = length-only (is_extended a) v.acl in
    let q = length-only (is_some d.default) v.default_acl in
    omega (arith, w, x, y, z, q)
length-taken slot image v (Link target) = refl

-- ---- each sector that an inode owns is one of these

-- a number by which a block below the size is found
in_content : (image : SectorMap) (v : Inode) (size level i : ℕ) → 512 * first_block level i < size → number_on image v level i ≢ 0
    → Names (content image v size) (number_on image v level i)
unfolding content needed
in_content image v size zero i lt some =
    in_first (needed image v size 0) _ (number_on image v 0 i) (in_numbers image v 0 (numbers_for 0 size) i (omega (arith, lt)))
in_content image v size (suc zero) i lt some =
    in_second (needed image v size 0) _ (number_on image v 1 i)
    (in_first (needed image v size 1) _ (number_on image v 1 i) (in_numbers image v 1 (numbers_for 1 size) i (omega (arith, lt))))
in_content image v size (suc (suc zero)) i lt some =
    in_second (needed image v size 0) _ (number_on image v 2 i)
    (in_second (needed image v size 1) _ (number_on image v 2 i)
    (in_first (needed image v size 2) _ (number_on image v 2 i) (in_numbers image v 2 (numbers_for 2 size) i (omega (arith, lt)))))
in_content image v size (suc (suc (suc zero))) i lt some =
    in_second (needed image v size 0) _ (number_on image v 3 i)
    (in_second (needed image v size 1) _ (number_on image v 3 i)
    (in_second (needed image v size 2) (needed image v size 3) (number_on image v 3 i) (in_numbers image v 3 (numbers_for 3 size) i (omega (arith, lt)))))
in_content image v size (suc (suc (suc (suc level)))) i lt some = absurd (some (no_number_on image v level i))

acl_is_extended : (image : SectorMap) (s : ℕ) (a : AccessList) → HoldsAcl image s (kept_acl a) → s ≢ 0 → is_extended a ≡ true
acl_is_extended image s a h some = go (is_extended a) refl h
  where
    go : (b : Bool) → is_extended a ≡ b → HoldsAcl image s (if b then Some a else None) → is_extended a ≡ true
    go true e x = e
    go false e x = absurd (some x)

default_is_there : (image : SectorMap) (s : ℕ) (default : Option AccessList) → HoldsAcl image s default → s ≢ 0 → is_some default ≡ true
default_is_there image s None h some = absurd (some h)
default_is_there image s (Some a) h some = refl

-- ---- what an inode owns

module _ (image : SectorMap) (v : Inode) where
  -- of a file or a directory of so many bytes
  in_bytes : (size : ℕ) (bytes : List ℕ) → Holds image v bytes → length bytes ≡ size → (level i : ℕ) → number_on image v level i ≢ 0
      → Names (content image v size) (number_on image v level i)
  in_bytes size bytes h len level i some = elim (cases_lt (512 * first_block level i) size) [
    | inl lt ↦ in_content image v size level i lt some
    | inr ge ↦ absurd (some (h.trim level i (let same = h.size in omega (arith, same, len, ge))))
  ]

  -- of a link block 0
  in_link : (bytes : List ℕ) → Holds image v bytes → length bytes ≤ 512 → (level i : ℕ) → number_on image v level i ≢ 0
      → Names (pointer image v 0 ∷ []) (number_on image v level i)
  in_link bytes h short zero k some = elim (cases_eq k 0) [
    | inl e ↦ inl (ap (pointer image v) e)
    | inr ne ↦ absurd (some (h.trim 0 k (let size = h.size in omega (arith, size, short, ne))))
  ]
  in_link bytes h short (suc zero) i some = absurd (some (h.trim 1 i (let size = h.size in omega (arith, size, short))))
  in_link bytes h short (suc (suc zero)) i some = absurd (some (h.trim 2 i (let size = h.size in omega (arith, size, short))))
  in_link bytes h short (suc (suc (suc zero))) i some = absurd (some (h.trim 3 i (let size = h.size in omega (arith, size, short))))
  in_link bytes h short (suc (suc (suc (suc level)))) i some = absurd (some (no_number_on image v level i))

  part_taken : (version : Version) (b : Body) → HoldsBody version image v b → length (target_in b) ≤ target_limit → (at : Part)
      → part image v at ≢ 0 → Names (taken (slot_size version) image v b) (part image v at)
  unfolding part
  part_taken version (File a bytes) h short AccessAcl some =
      in_second (content image v (length bytes)) (only (is_extended a) v.acl) v.acl (in_only (is_extended a) v.acl (acl_is_extended image v.acl a h.has_acl some))
  part_taken version (File a bytes) h short DefaultAcl some = absurd (some h.no_default)
  part_taken version (File a bytes) h short (OnLevel level i) some =
      in_first (content image v (length bytes)) (only (is_extended a) v.acl) (number_on image v level i) (in_bytes (length bytes) bytes h.holds refl level i some)
  part_taken version (Dir a d) h short at some = in_directory at some
    where
      len : length (slots_bytes version h.names.slots) ≡ slot_size version * length d.names
      len = let n = h.names in length-slots version n.slots n.each ∙ ap (λ k. slot_size version * k) (sym (ap length n.are ∙ length-names n.slots n.apart))

      bytes : List ℕ
      bytes = content image v (slot_size version * length d.names)

      in_directory : (at : Part) → part image v at ≢ 0 → Names (taken (slot_size version) image v (Dir a d)) (part image v at)
      in_directory AccessAcl some =
          in_first (bytes ++ only (is_extended a) v.acl) (only (is_some d.default) v.default_acl) v.acl
          (in_second bytes (only (is_extended a) v.acl) v.acl (in_only (is_extended a) v.acl (acl_is_extended image v.acl a h.has_acl some)))
      in_directory DefaultAcl some =
          in_second (bytes ++ only (is_extended a) v.acl) (only (is_some d.default) v.default_acl) v.default_acl
          (in_only (is_some d.default) v.default_acl (default_is_there image v.default_acl d.default h.has_default some))
      in_directory (OnLevel level i) some =
          in_first (bytes ++ only (is_extended a) v.acl) (only (is_some d.default) v.default_acl) (number_on image v level i)
          (in_first bytes (only (is_extended a) v.acl) (number_on image v level i)
          (in_bytes (slot_size version * length d.names) (slots_bytes version h.names.slots) h.names.holds len level i some))
  part_taken version (Link target) h short AccessAcl some = absurd (some h.no_acl)
  part_taken version (Link target) h short DefaultAcl some = absurd (some h.no_default)
  part_taken version (Link target) h short (OnLevel level i) some = in_link target h.holds short level i some

  owned_is_taken : (version : Version) (b : Body) (s : ℕ) → HoldsBody version image v b → length (target_in b) ≤ target_limit
      → Owns image v s → Names (taken (slot_size version) image v b) s
  owned_is_taken version b s h short o =
      subst (Names (taken (slot_size version) image v b)) o.is (part_taken version b h short o.at (λ none. o.some (sym o.is ∙ none)))

-- ---- what all inodes own

module _ (p : Geometry) (image : SectorMap) where
  abbrev all_taken : Tree → List ℕ
  all_taken [] = []
  all_taken (e ∷ t) = taken (slot_size p.version) image (inode_at p image e.0) e.1.body ++ all_taken t

  length-all_taken : (room : Room) → room.slot_size ≡ slot_size p.version → (t : Tree) → length (all_taken t) ≡ sectors_needed room t
  length-all_taken room same [] = refl
  length-all_taken room same (e ∷ t) =
      let whole = length-append (taken (slot_size p.version) image (inode_at p image e.0) e.1.body) (all_taken t) in
      let here = length-taken (slot_size p.version) image (inode_at p image e.0) e.1.body in
      let size : sectors_of room.slot_size e.1.body ≡ sectors_of (slot_size p.version) e.1.body = ap (λ k. sectors_of k e.1.body) same in
      let rest = length-all_taken room same t in
      omega (arith, whole, here, size, rest, sum_by-cons (λ (e : ℕ × Node). sectors_of room.slot_size e.1.body) e t)

  in_all : (t : Tree) (n s : ℕ) (node : Node) → node_at t n ≡ Some node
      → Names (taken (slot_size p.version) image (inode_at p image n) node.body) s → Names (all_taken t) s
  in_all [] n s node there i = absurd cc
  in_all (e ∷ t) n s node there i = elim (in_rest e t n node there) [
    | inl here ↦
        in_first (taken (slot_size p.version) image (inode_at p image e.0) e.1.body) (all_taken t) s
        (subst (λ m. Names (taken (slot_size p.version) image (inode_at p image e.0) m.body) s) here.1 (subst (λ k. Names (taken (slot_size p.version) image (inode_at p image k) node.body) s) here.0 i))
    | inr rest ↦ in_second (taken (slot_size p.version) image (inode_at p image e.0) e.1.body) (all_taken t) s (in_all t n s node rest i)
  ]

  short_target : (room : Room) (t : Tree) (b : Body) → IsBody room t b → length (target_in b) ≤ target_limit
  short_target room t (File a bytes) h = omega arith
  short_target room t (Dir a d) h = omega arith
  short_target room t (Link target) h = h.short

  -- each sector that an inode owns is needed
  owned_is_needed : (room : Room) (t : Tree) → IsTree room t → HoldsAll p image (placed t) → (s : ℕ) → IsOwned p image s → Names (all_taken t) s
  owned_is_needed room t is h s o = go (node_at t o.by) refl (h.nodes o.by o.below)
    where
      go : (x : Option Node) → node_at t o.by ≡ x
          → MatchOption (option_map (λ node. record { node = node; names = names_of t o.by; parent = parent t o.by }) x) (inode_at p image o.by ≡ free_inode) (λ z. HoldsNode p.version image (inode_at p image o.by) z)
          → Names (all_taken t) s
      go None e free = absurd (owns_nothing image (inode_at p image o.by) s (subst HasNoSector (sym free) free_has_no_sector) o.is)
      go (Some node) e held =
          in_all t o.by s node e (owned_is_taken image (inode_at p image o.by) p.version node.body s held.body (short_target room t node.body (is.each o.by node e).body) o.is)

  free_or_needed : (room : Room) (t : Tree) → IsTree room t → HoldsAll p image (placed t) → (s : ℕ) → IsData p s
      → (not (bit image p.block_bitmap s) ≡ true) ⊎ Names (all_taken t) s
  free_or_needed room t is h s at = elim (set_or_clear (bit image p.block_bitmap s)) [
    | inr clear ↦ inl (ap not clear)
    | inl set ↦ elim ((h.consistent.block_bits s (has_bit h.consistent.geometry s at.1)).0 set) [
      | inl low ↦ absurd (let from = at.0 in omega (arith, from, low))
      | inr (inl past) ↦ absurd (let to = at.1 in omega (arith, to, past))
      | inr (inr o) ↦ inr (owned_is_needed room t is h s o)
    ]
  ]

  pub count_may_be_free : (room : Room) (t : Tree) → room.sectors ≡ p.sectors - p.first_data → room.slot_size ≡ slot_size p.version
      → IsTree room t → HoldsAll p image (placed t)
      → MayBeFree room t (free_sectors p image)
  count_may_be_free room t size slots is h =
      let all : ℕ = p.sectors - p.first_data in
      let free : ℕ → Bool = λ s. not (bit image p.block_bitmap s) in
      let enough = passes_or_named (all_taken t) free p.first_data all (λ s from to. free_or_needed room t is h s (from, omega (arith, to))) in
      let need = length-all_taken room slots t in
      let few = count_by-le-length free (range_with_len p.first_data all) in
      let len = length-range_with_len p.first_data all in
      record { least = omega (arith, enough, need, size); most = omega (arith, few, len, size) }

-- Where an image stands for a tree, the count of free sectors is within the machine's bounds.
pub free_within_bounds : (sectors : ℕ) (image : SectorMap) (room : Room) (t : Tree) (free : ℕ) → Stands sectors image room t free → MayBeFree room t free
free_within_bounds sectors image room t free h =
    let now : SectorMap = recovered sectors image in
    let size : room.sectors ≡ h.geometry.sectors - h.geometry.first_data = ap (λ r. r.sectors) h.room_is in
    subst (MayBeFree room t) (sym h.free_is) (count_may_be_free h.geometry now room t size (ap (λ r. r.slot_size) h.room_is) h.tree_is h.holds)
