-- Objects as an image holds them, their bytes written out.
use Rattle.fs_model.specs.StoredStamps.{stamps_in}
use Rattle.std.specs.Prelude.{◌≡◌, ◌≢◌, ℕ, zero, suc, ◌-◌, ◌/◌, ◌%◌, ◌<◌, ◌≤◌, ◌^◌, nat_eq, true, cond, List, [], ◌∷◌, ◌++◌, ◌*◌, length, get_or, codes, None, Some, All}
use Rattle.std.proofs.Common.{refl, sym, ap, arith, ◌∙◌, inl, inr}
use Rattle.std.proofs.lemmas.Bool.{cases_lt}
use Rattle.std.proofs.lemmas.List.Elements.{All-nil, All-cons}
use Rattle.std.proofs.lemmas.List.Kept.{AllPairs-cons}
use Rattle.std.proofs.lemmas.List.{get_or_past, get_or_append_left, get_or-append_right}
use Rattle.posix_acl.specs.Entries.{perms_of}
use Rattle.posix_acl.specs.AccessList.{AccessList, IsAcl, minimal}
use Rattle.posix_acl.proofs.Laws.{minimal_valid}
use Rattle.fs_layout.specs.declared.inode.Kind.TheVariants as kinds
use Rattle.fs_layout.specs.declared.inode.Inode.{Inode}
use Rattle.fs_layout.specs.declared.version.Version.TheVariants.{One}
use Rattle.fs_layout.specs.Bytes.{IsBytes, SectorMap, le16, le32, zeros}
use Rattle.fs_layout.specs.Inode.{free_inode}
use Rattle.fs_layout.specs.AclSector.{entries_bytes, acl_content}
use Rattle.fs_layout.specs.Images.{pointer, byte_in, byte_at, Holds, HasNoHole}
use Rattle.fs_layout.proofs.Pointers.{pointer_direct, pointer_without, trims_direct}
use Rattle.fs_layout.proofs.SplicedBytes.{get_or-zeros}
use Rattle.fs_model.specs.Nodes.{File, Dir, Link, Directory, no_stamps}
use Rattle.fs_layout.specs.Directories.{HaveDistinctNames, slots_bytes, names_of_slots, NamedInode, FitsSlot}
use Rattle.fs_model.specs.StoredNodes.{HoldsNode}
use Rattle.fs_model.proofs.NodesHeld.{node_held}

-- the inode has one block, with these bytes and zeros behind them
record HasOneBlock (image : SectorMap) (v : Inode) (s : ℕ) (bytes : List ℕ) : Type 0 where
  direct : v.direct ≡ s ∷ zeros 11
  indirect : v.indirect ≡ zeros 3
  some : s ≢ 0
  content : image s ≡ bytes ++ zeros (512 - length bytes)
  size : v.size ≡ length bytes
  full : 0 < length bytes
  room : length bytes ≤ 512

one_block : (image : SectorMap) (v : Inode) (s : ℕ) (bytes : List ℕ) → v.direct ≡ s ∷ zeros 11 → v.indirect ≡ zeros 3 → s ≢ 0
    → image s ≡ bytes ++ zeros (512 - length bytes) → v.size ≡ length bytes → 0 < length bytes → length bytes ≤ 512
    → HasOneBlock image v s bytes
one_block image v s bytes direct indirect some content size full room =
    record { direct = direct; indirect = indirect; some = some; content = content; size = size; full = full; room = room }

module _ (image : SectorMap) (v : Inode) (s : ℕ) (bytes : List ℕ) (h : HasOneBlock image v s bytes) where
  first : pointer image v 0 ≡ s
  first = pointer_direct image v 0 (omega arith) ∙ ap (λ d. get_or d 0 0) h.direct

  none_named : (level : ℕ) → get_or v.indirect level 0 ≡ 0
  none_named level = ap (λ xs. get_or xs level 0) h.indirect ∙ get_or-zeros 3 level

  others : (k : ℕ) → pointer image v (suc k) ≡ 0
  others k = elim (cases_lt (suc k) 12) [
    | inl lt ↦ pointer_direct image v (suc k) lt ∙ ap (λ d. get_or d (suc k) 0) h.direct ∙ get_or-zeros 11 k
    | inr ge ↦ pointer_without image v (suc k) ge none_named
  ]

  in_sector : (t i : ℕ) (x : List ℕ) → t ≢ 0 → image t ≡ x → byte_in image t i ≡ get_or x i 0
  in_sector zero i x some e = absurd (some refl)
  in_sector (suc t) i x some e = ap (λ r. get_or r i 0) e

  behind : (n i : ℕ) → get_or (bytes ++ zeros n) i 0 ≡ get_or bytes i 0
  behind n i = elim (cases_lt i (length bytes)) [
    | inl lt ↦ get_or_append_left bytes (zeros n) 0 i lt
    | inr ge ↦ get_or-append_right bytes (zeros n) (length bytes) i 0 refl ge ∙ get_or-zeros n (i - length bytes) ∙ sym (get_or_past bytes i 0 ge)
  ]

  byte : (i : ℕ) → byte_at image v i ≡ get_or bytes i 0
  unfolding byte_at
  byte i = elim (cases_lt i 512) [
    | inl lt ↦
        let block : i / 512 ≡ 0 = omega arith in
        let at : i % 512 ≡ i = omega arith in
        ap (λ k. byte_in image (pointer image v k) (i % 512)) block ∙ ap (λ t. byte_in image t (i % 512)) first
        ∙ in_sector s (i % 512) (bytes ++ zeros (512 - length bytes)) h.some h.content ∙ ap (λ j. get_or (bytes ++ zeros (512 - length bytes)) j 0) at
        ∙ behind (512 - length bytes) i
    | inr ge ↦
        let block : i / 512 ≡ suc (i / 512 - 1) = omega arith in
        let past = get_or_past bytes i 0 (let room = h.room in omega (arith, ge, room)) in
        ap (λ k. byte_in image (pointer image v k) (i % 512)) block ∙ ap (λ t. byte_in image t (i % 512)) (others (i / 512 - 1)) ∙ sym past
  ]

  one_block_holds : Holds image v bytes
  one_block_holds = record {
    size = h.size;
    byte = byte;
    trim = trims_direct image v trim none_named;
  }
    where
      trim : (k : ℕ) → v.size ≤ 512 * k → pointer image v k ≡ 0
      trim zero le = absurd (let full = h.full in let size = h.size in omega (arith, le, full, size))
      trim (suc k) le = others k

  one_block_is_whole : HasNoHole image v
  one_block_is_whole zero lt none = h.some (sym first ∙ none)
  one_block_is_whole (suc k) lt none = absurd (let room = h.room in let size = h.size in omega (arith, lt, room, size))

-- ---- an image with the sectors of three inodes

file_block : List ℕ
file_block = codes "hello" ++ zeros 507

-- u::rw-, u:7:r--, g::r--, m::r--, o::---
acl_sector : List ℕ
acl_sector =
    5 ∷ 0 ∷ 0 ∷ 0 ∷ 0 ∷ 0 ∷ 0 ∷ 0
    ∷ 1 ∷ 0 ∷ 6 ∷ 0 ∷ 0 ∷ 0 ∷ 0 ∷ 0
    ∷ 2 ∷ 0 ∷ 4 ∷ 0 ∷ 7 ∷ 0 ∷ 0 ∷ 0
    ∷ 4 ∷ 0 ∷ 4 ∷ 0 ∷ 0 ∷ 0 ∷ 0 ∷ 0
    ∷ 16 ∷ 0 ∷ 4 ∷ 0 ∷ 0 ∷ 0 ∷ 0 ∷ 0
    ∷ 32 ∷ 0 ∷ 0 ∷ 0 ∷ 0 ∷ 0 ∷ 0 ∷ 0
    ∷ zeros 464

-- inode 3 is named b, and inode 2 is named a
slots_block : List ℕ
slots_block =
    (3 ∷ 0 ∷ 0 ∷ 0 ∷ 1 ∷ 0 ∷ 0 ∷ 0 ∷ 98 ∷ zeros 119)
    ++ ((2 ∷ 0 ∷ 0 ∷ 0 ∷ 1 ∷ 0 ∷ 0 ∷ 0 ∷ 97 ∷ zeros 119)
    ++ zeros 256)

target_block : List ℕ
target_block = codes "a" ++ zeros 511

image : SectorMap
image s = cond (nat_eq s 147) file_block (cond (nat_eq s 148) acl_sector (cond (nat_eq s 149) slots_block (cond (nat_eq s 150) target_block [])))

with_block : ℕ → Inode → Inode
with_block s v = record v { direct = s ∷ zeros 11 }

acl : AccessList
acl = record { owner = perms_of 6; users = (7, perms_of 4) ∷ []; group = perms_of 4; groups = []; mask = Some (perms_of 4); other = perms_of 0 }

acl_is_valid : IsAcl acl
unfolding acl
acl_is_valid = record {
  users = (tt, tt);
  user_ids = (omega arith, tt);
  groups = tt;
  group_ids = tt;
  masked = λ lt. refl;
  few = omega arith;
}

file_inode : Inode
file_inode = with_block 147 (record free_inode { kind = kinds.File; mode = 0o640; uid = 1000; gid = 100; names = 1; size = 5; acl = 148 })

directory_inode : Inode
directory_inode = with_block 149 (record free_inode { kind = kinds.Directory; mode = 0o3755; names = 1; parent = 1; size = 256 })

link_inode : Inode
link_inode = with_block 150 (record free_inode { kind = kinds.Link; mode = 0o777; names = 2; size = 1 })

a_file_with_an_acl : HoldsNode One image file_inode (record { node = record { owner = 1000; group = 100; body = File acl (codes "hello"); stamps = no_stamps }; names = 1; parent = 1 })
unfolding stamps_in file_inode with_block acl image acl_sector file_block acl_content entries_bytes le16 le32 zeros
a_file_with_an_acl = node_held One image file_inode _ refl refl refl refl refl refl (record {
  kind = refl;
  holds = one_block_holds image file_inode 147 (codes "hello")
      (one_block image file_inode 147 (codes "hello") refl refl (λ e. omega (arith, e)) refl refl (omega arith) (omega arith));
  acl = acl_is_valid;
  has_acl = (λ e. omega (arith, e), refl);
  no_default = refl;
})

-- ---- a directory: the slots stand in any order, and the names in theirs

abbrev slot_b : NamedInode
slot_b = record { ino = 3; name = codes "b" }

abbrev slot_a : NamedInode
slot_a = record { ino = 2; name = codes "a" }

abbrev slots : List NamedInode
slots = slot_b ∷ slot_a ∷ []

letters_differ : codes "b" ≢ codes "a"
letters_differ e = let first = ap (λ s. get_or s 0 0) e in omega (arith, first)

abbrev DifferInName : NamedInode → NamedInode → Type 0
DifferInName x y = x.name ≢ y.name

slots_are_apart : HaveDistinctNames slots
slots_are_apart =
    AllPairs-cons DifferInName slot_b (slot_a ∷ []) (All-cons (DifferInName slot_b) slot_a [] letters_differ (All-nil (DifferInName slot_b)))
    (AllPairs-cons DifferInName slot_a [] (All-nil (DifferInName slot_a)) (λ i j d lt within. absurd (omega (arith, within))))

abbrev IsPlain : ℕ → Type 0
IsPlain b = (b ≢ 0) × (b ≢ 47)

letter_fits : (n b : ℕ) → n < 2 ^ 32 → b < 256 → b ≢ 0 → b ≢ 47 → b ≢ 46 → FitsSlot One (record { ino = n; name = b ∷ [] })
letter_fits n b fits byte none slash dot = record {
  ino = fits;
  name = record {
    not_empty = omega arith;
    short = omega arith;
    bytes = All-cons IsPlain b [] (none, slash) (All-nil IsPlain);
    not_dot = λ e. dot (ap (λ s. get_or s 0 0) e);
    not_dot_dot = λ e. let len = ap length e in absurd (omega (arith, len));
  };
  short = omega arith;
  bytes = one_byte;
}
  where
    one_byte : IsBytes (b ∷ [])
    one_byte zero = byte
    one_byte (suc i) = let e = get_or_past (b ∷ []) (suc i) 0 (omega arith) in omega (arith, e)

slots_fit : All (FitsSlot One) slots
slots_fit =
    All-cons (FitsSlot One) slot_b (slot_a ∷ []) (letter_fits 3 98 (omega arith) (omega arith) (λ e. omega (arith, e)) (λ e. omega (arith, e)) (λ e. omega (arith, e)))
    (All-cons (FitsSlot One) slot_a [] (letter_fits 2 97 (omega arith) (omega arith) (λ e. omega (arith, e)) (λ e. omega (arith, e)) (λ e. omega (arith, e))) (All-nil (FitsSlot One)))

directory_has_a_block : HasOneBlock image directory_inode 149 (slots_bytes One slots)
unfolding directory_inode with_block image slots_block le32 zeros
directory_has_a_block = one_block image directory_inode 149 (slots_bytes One slots) refl refl (λ e. omega (arith, e)) refl refl (omega arith) (omega arith)

abbrev two_names : Directory
two_names = record { names = (codes "a", 2) ∷ (codes "b", 3) ∷ []; default = None; set_group_id = true; sticky = true }

a_directory_with_two_names : HoldsNode One image directory_inode (record { node = record { owner = 0; group = 0; body = Dir (minimal 0o755) two_names; stamps = no_stamps }; names = 1; parent = 1 })
unfolding stamps_in directory_inode with_block names_of_slots zeros
a_directory_with_two_names = node_held One image directory_inode _ refl refl refl refl refl refl (record {
  names = record {
    kind = refl;
    slots = slots;
    are = refl;
    apart = slots_are_apart;
    each = slots_fit;
    few = omega arith;
    holds = one_block_holds image directory_inode 149 (slots_bytes One slots) directory_has_a_block;
    whole = one_block_is_whole image directory_inode 149 (slots_bytes One slots) directory_has_a_block;
  };
  acl = minimal_valid 0o755;
  default = tt;
  has_acl = refl;
  has_default = refl;
})

-- ---- a link

link_has_a_block : HasOneBlock image link_inode 150 (codes "a")
unfolding link_inode with_block image target_block zeros
link_has_a_block = one_block image link_inode 150 (codes "a") refl refl (λ e. omega (arith, e)) refl refl (omega arith) (omega arith)

a_link_with_two_names : HoldsNode One image link_inode (record { node = record { owner = 0; group = 0; body = Link (codes "a"); stamps = no_stamps }; names = 2; parent = 1 })
unfolding stamps_in link_inode with_block zeros
a_link_with_two_names = node_held One image link_inode _ refl refl refl refl refl refl (record {
  kind = refl;
  holds = one_block_holds image link_inode 150 (codes "a") link_has_a_block;
  whole = one_block_is_whole image link_inode 150 (codes "a") link_has_a_block;
  no_acl = refl;
  no_default = refl;
})

-- ---- times

times_of_an_inode : stamps_in (record free_inode { mtime = 2; ctime = 3; atime = 1 }) ≡ record { atime = 1; mtime = 2; ctime = 3 }
unfolding stamps_in
times_of_an_inode = refl
