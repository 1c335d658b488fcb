-- A directory whose slots change, and its names then.
use Rattle.std.specs.Prelude.{◌≡◌, ◌≢◌, ℕ, ◌+◌, ◌-◌, ◌*◌, ◌/◌, ◌%◌, ◌^◌, ◌<◌, ◌≤◌, List, [], ◌∷◌, ◌++◌, length, take, drop, set, get_or, Option, None, Some, All}
use Rattle.std.proofs.Common.{true, false, Result, Ok, Err, refl, sym, ap, subst, arith, ◌∙◌}
use Rattle.std.proofs.lemmas.List.{append-nil, drop_all, length-append, length-set, set-get_or}
use Rattle.fs_layout.specs.declared.inode.TheConstants.{MAX_DIRECTORY_SIZE}
use Rattle.fs_layout.specs.declared.inode.Inode.{Inode}
use Rattle.fs_layout.specs.declared.inode.Kind.{Kind}
use Rattle.fs_layout.specs.declared.inode.Kind.TheVariants as kinds
use Rattle.fs_layout.specs.declared.geometry.Geometry.{Geometry}
use Rattle.fs_layout.specs.declared.slot.TheConstants.{SLOT_SIZE}
use Rattle.fs_layout.specs.declared.version.Version.{Version}
use Rattle.fs_layout.specs.Version.{max_name, max_names, slot_size, max_directory_size}
use Rattle.fs_layout.specs.Bytes.{SectorMap, IsBytes, splice, window, resized, overwritten}
use Rattle.fs_layout.specs.Images.{pointer, inode_at, Holds, HasNoHole}
use Rattle.fs_layout.specs.Maps.{name_cmp, get, with_entry, without, IsMap}
use Rattle.fs_layout.specs.Directories.{NamedInode, IsName, FitsSlot, slot_bytes, slots_bytes, names_of_slots, HaveDistinctNames, HasNames}
use Rattle.fs_layout.proofs.ImageSlots.{length-slots}
use Rattle.fs_layout.proofs.ReadNames.{are_names_of}
use Rattle.fs_layout.proofs.SlotLaw.{length-slot_bytes}
use Rattle.fs_layout.proofs.SlotNames.{length-names}
use Rattle.fs_layout.proofs.SlotSizes.{slots_most, directory_most}
use Rattle.sector_disk.specs.Disk.{DiskState, HasFailed}
use Rattle.sector_disk.proofs.Moments.{failed_later}
use Rattle.sector_txn.specs.Sectors.{TxnState, SameStore, IsUnchanged}
use Rattle.sector_txn.proofs.TransactionRuns.{changes_nothing, changes_weaker}
use Rattle.bit_alloc.specs.Faults.{HasCauseOf}
use Rattle.bit_alloc.specs.Inodes.{IsSound}
use Rattle.bit_alloc.proofs.Passing.{through_try}
use Rattle.bit_alloc.specs.Room.{bitmaps}
use Rattle.bit_alloc.proofs.Transactions.{map_unchanged}
use Rattle.block_map.specs.Blocks.{IsWithin, IsReadOf}
use Rattle.block_map.specs.Contents.{AllowsSize, ChangesContent}
use Rattle.block_map.specs.Steps.{IsStepSector}
use Rattle.block_map.proofs.AddedPointers.{alters_nothing}
use Rattle.block_map.proofs.Overwriting.{used_may_change, changed_unsaved}
use Rattle.block_map.proofs.Wrote.{may_within}
use Rattle.dir_core.specs.declared.names.FoundSlot.{FoundSlot}
use Rattle.dir_core.specs.Slots.{HasSlots, IsFoundIn}
use Rattle.std.specs.Prelude.{is_some, IsErr, IsErrAnd, IfErr}
use Rattle.std.proofs.lemmas.Bool.{true≢false}
use Rattle.block_map.specs.declared.fault.MapFault.{MapFault}
use Rattle.block_map.specs.declared.fault.MapFault.TheVariants as map
use Rattle.dir_core.specs.declared.fault.DirFault.{DirFault}
use Rattle.dir_core.specs.declared.fault.DirFault.TheVariants as faults
use Rattle.dir_core.specs.Faults.{as_dir_fault}
use Rattle.std.specs.List.{swap_remove}
use Rattle.dir_core.proofs.Found.{found_is_entry}
use Rattle.dir_core.proofs.NamesAfter.{apart_added, names_added, fits_added, fits_set, apart_moved, fits_moved, length-moved, names_moved, no_such_name, IsNameOfOne, its_own_name, apart_set, names_set, without_and_with}
use Rattle.dir_core.proofs.SlotPlaces.{slot_among, slot_start, one_less, slot_in_one_block, place_for_one, no_place}
use Rattle.dir_core.proofs.SlotBytes.{bytes_added, bytes_replaced, bytes_of_slot, bytes_cut}
use Rattle.dir_core.proofs.Taking.{size_of_slots}

-- ---- slots and names
pub slots_there : {version : Version} {image : SectorMap} {v : Inode} {names : List (List ℕ × ℕ)} → (h : HasNames version image v names) → HasSlots version image v h.slots
slots_there h = record { kind = h.kind; apart = h.apart; each = h.each; few = h.few; holds = h.holds; whole = h.whole }

pub slots_after_reads : {version : Version} {old mid : TxnState} {v : Inode} {slots : List NamedInode} → IsUnchanged old mid → HasSlots version old.sectors v slots
    → HasSlots version mid.sectors v slots
slots_after_reads {version} {v = v} {slots} same h = subst (λ (image : SectorMap). HasSlots version image v slots) (map_unchanged same) h

-- ---- a directory among the inodes
pub allows : (k : Kind) (m : ℕ) → k ≡ kinds.Directory → m ≤ MAX_DIRECTORY_SIZE → m % SLOT_SIZE ≡ 0 → AllowsSize k m
allows k m e few whole = subst (λ (kind : Kind). AllowsSize kind m) (sym e) (few, whole)

pub no_free : (k : Kind) → k ≡ kinds.Directory → k ≢ kinds.Free
no_free k e f = let same : kinds.Directory ≡ kinds.Free = sym e ∙ f in cc

module _ {p : Geometry} {n : ℕ} {txn : TxnState} {v : Inode} (sound : IsSound p txn) (lt : n < p.inodes) (is : v ≡ inode_at p txn.sectors n) (kind : v.kind ≡ kinds.Directory) where
  -- a directory can be read
  pub directory_within : IsWithin txn.header txn.disk.size txn.sectors v
  directory_within = may_within (used_may_change sound lt is (no_free v.kind kind))

  -- nothing changes
  pub same_content : ChangesContent p n 0 1 txn txn v v
  same_content =
      changed_unsaved sound lt (sym is) (alters_nothing (used_may_change sound lt is (no_free v.kind kind)))
      (changes_weaker {Q = IsStepSector p} (λ t r. r) (omega arith) (changes_nothing {R = IsStepSector p} (bitmaps p))) (omega arith)

-- ---- a slot within the directory
module _ {version : Version} {image : SectorMap} {v : Inode} {slots : List NamedInode} (h : HasSlots version image v slots) (slot : ℕ) (lt : slot < length slots) where
  pub slot_inside : {at : ℕ} → at ≡ slot * slot_size version → at + slot_size version ≤ v.size
  slot_inside is = let among = slot_among version slot (length slots) lt in omega (arith, is, slot_start version slot, among, size_of_slots h)

  pub slot_has_block : {at : ℕ} → at ≡ slot * slot_size version → pointer image v (at / 512) ≢ 0
  slot_has_block {at} is = h.whole (at / 512) (omega (arith, slot_inside is))

  pub slot_within_block : {at : ℕ} → at ≡ slot * slot_size version → at % 512 + slot_size version ≤ 512
  slot_within_block {at} is = slot_in_one_block version slot at (is ∙ slot_start version slot)

  -- another one is written there
  pub slot_written : {new : SectorMap} {at : ℕ} {bytes : List ℕ} {x : NamedInode} → FitsSlot version x → at ≡ slot * slot_size version → bytes ≡ slot_bytes version x
      → ((held : List ℕ) → Holds image v held → Holds new v (splice held at bytes)) → Holds new v (slots_bytes version (set slots slot x))
  slot_written {new} {at} {bytes} {x} fit there is write =
      let here : at ≡ slot_size version * slot = there ∙ slot_start version slot in
      let e : splice (slots_bytes version slots) at bytes ≡ slots_bytes version (set slots slot x) =
      ap (λ (k : ℕ). splice (slots_bytes version slots) k bytes) here ∙ ap (splice (slots_bytes version slots) (slot_size version * slot)) is
      ∙ bytes_replaced version slots slot x h.each fit lt in
      subst (λ (r : List ℕ). Holds new v r) e (write (slots_bytes version slots) h.holds)

-- a directory is within the limit
pub directory_limit : {version : Version} {image : SectorMap} {v : Inode} {slots : List NamedInode} → HasSlots version image v slots
    → v.size ≤ max_directory_size version
directory_limit {version} {v = v} {slots} h =
    let most = slots_most version (length slots) h.few in
    subst (λ (k : ℕ). k ≤ max_directory_size version) (sym (size_of_slots h)) most

-- and so is each of its slots
module _ {version : Version} {image : SectorMap} {v : Inode} {slots : List NamedInode} {size : ℕ} (h : HasSlots version image v slots) (slot : ℕ) (within : slot < length slots)
    (is : size ≡ slot_size version) where
  at_slot : slot * size ≡ slot * slot_size version
  at_slot = ap (λ (w : ℕ). slot * w) is

  pub slot_below : slot * size ≤ MAX_DIRECTORY_SIZE
  slot_below =
      let inside = slot_inside h slot within at_slot in
      let limit = directory_limit h in
      let most = directory_most version in
      omega (arith, inside, limit, most)

  -- so many bytes as it has stand in the directory, within one block
  pub slot_placed : {len : ℕ} → len ≡ slot_size version → (slot * size + len ≤ v.size) × ((slot * size) % 512 + len ≤ 512)
  slot_placed wide =
      let inside = slot_inside h slot within at_slot in
      let one = slot_within_block h slot within at_slot in
      (omega (arith, inside, wide), omega (arith, one, wide))

-- the bytes that are written, where as many are as a slot has
pub written : (version : Version) (x : NamedInode) (n : ℕ) (block : List ℕ) → n ≡ slot_size version → take (slot_size version) block ≡ slot_bytes version x
    → take n block ≡ slot_bytes version x
written version x n block e is = ap (λ (k : ℕ). take k block) e ∙ is

pub length-written : (version : Version) (x : NamedInode) (n : ℕ) (block : List ℕ) → n ≡ slot_size version → take (slot_size version) block ≡ slot_bytes version x
    → length x.name ≤ max_name version → length (take n block) ≡ slot_size version
length-written version x n block e is short = ap length (written version x n block e is) ∙ length-slot_bytes version x short

-- ---- the last slot
-- it moves into its own place
pub moves_itself : (slots : List NamedInode) (slot : ℕ) (d : NamedInode) → slot ≡ length slots - 1 → set slots slot (get_or slots (length slots - 1) d) ≡ slots
moves_itself slots slot d e = ap (λ (k : ℕ). set slots k (get_or slots (length slots - 1) d)) e ∙ set-get_or slots (length slots - 1) d

-- the bytes of the last slot are read
pub last_read : {version : Version} {image : SectorMap} {v : Inode} {slots : List NamedInode} {offset count : ℕ} {old new : List ℕ} → HasSlots version image v slots
    → 0 < length slots → offset ≡ v.size - slot_size version → length old ≡ slot_size version → IsReadOf (slots_bytes version slots) offset old new count
    → (d : NamedInode) → new ≡ slot_bytes version (get_or slots (length slots - 1) d)
last_read {version} {v = v} {slots} {offset} {count} {old} {new} h some at long read d =
    let size : v.size ≡ slot_size version * length slots = size_of_slots h in
    let all : length (slots_bytes version slots) ≡ slot_size version * length slots = length-slots version slots h.each in
    let last : offset ≡ slot_size version * (length slots - 1) =
    at ∙ ap (λ (k : ℕ). k - slot_size version) size ∙ one_less version (length slots) in
    let room = slot_among version 0 (length slots) some in
    let whole : count ≡ slot_size version = let l = read.len in omega (arith, l, long, all, at, size, room) in
    read.content
    ∙ ap (λ (k : ℕ). window (slots_bytes version slots) offset k ++ drop k old) whole
    ∙ ap (λ (r : List ℕ). window (slots_bytes version slots) offset (slot_size version) ++ r) (drop_all (slot_size version) old (omega (arith, long)))
    ∙ append-nil (window (slots_bytes version slots) offset (slot_size version))
    ∙ ap (λ (k : ℕ). window (slots_bytes version slots) k (slot_size version)) last
    ∙ bytes_of_slot version slots (length slots - 1) d h.each (omega (arith, some))

-- ---- what is found
module _ (slots : List NamedInode) (name : List ℕ) (apart : HaveDistinctNames slots) where
  -- a name that is found is there
  pub found_there : (found : Option FoundSlot) → IsFoundIn slots name found → is_some found ≡ true → get name_cmp (names_of_slots slots) name ≢ None
  found_there None is e none = absurd (true≢false (sym e))
  found_there (Some f) is e none = some_none (found_is_entry slots name (Some f) apart is ∙ none)
    where
      some_none : Some f.ino ≡ None → ⊥
      some_none k = cc

  -- one that is not found is not
  pub not_there : (found : Option FoundSlot) → IsFoundIn slots name found → is_some found ≡ false → get name_cmp (names_of_slots slots) name ≡ None
  not_there None is e = sym (found_is_entry slots name None apart is)
  not_there (Some f) is e = absurd (true≢false e)

-- the name that is found is one
pub found_name : {version : Version} (slots : List NamedInode) (name : List ℕ) (f : FoundSlot) → All (FitsSlot version) slots → IsFoundIn slots name (Some f)
    → IsName name × (length name ≤ max_name version)
found_name {version} slots name f fits at =
    let x : NamedInode = record { ino = f.ino; name = name } in
    let fit = fits f.slot x at.0 in
    subst (λ (q : List ℕ). IsName q × (length q ≤ max_name version)) (ap (λ (y : NamedInode). y.name) (at.1 x)) (fit.name, fit.short)

-- the names of the directory say it
pub said_by_names : {version : Version} {image : SectorMap} {v : Inode} {names : List (List ℕ × ℕ)} (name : List ℕ) → (h : HasNames version image v names)
    → get name_cmp (names_of_slots h.slots) name ≡ None → get name_cmp names name ≡ None
said_by_names name h none = ap (λ (m : List (List ℕ × ℕ)). get name_cmp m name) h.are ∙ none

pub said_by_slots : {version : Version} {image : SectorMap} {v : Inode} {names : List (List ℕ × ℕ)} (name : List ℕ) → (h : HasNames version image v names)
    → get name_cmp names name ≡ None → get name_cmp (names_of_slots h.slots) name ≡ None
said_by_slots name h none = ap (λ (m : List (List ℕ × ℕ)). get name_cmp m name) (sym h.are) ∙ none

-- what they lead to is found
pub leads_to_found : {version : Version} {image : SectorMap} {v : Inode} {names : List (List ℕ × ℕ)} {to : ℕ} (h : HasNames version image v names) (name : List ℕ) (f : FoundSlot)
    → IsFoundIn h.slots name (Some f) → get name_cmp names name ≡ Some to → f.ino ≡ to
leads_to_found {to = to} h name f is leads =
    let entry = found_is_entry h.slots name (Some f) h.apart is in
    one_number (entry ∙ ap (λ (m : List (List ℕ × ℕ)). get name_cmp m name) (sym h.are) ∙ leads)
  where
    one_number : Some f.ino ≡ Some to → f.ino ≡ to
    one_number k = cc

-- ---- faults passed on
pub passed_on : (W : DirFault → Type 0) (r : Result (Unit {0}) DirFault) (f : MapFault) → IsErr r → IsErrAnd r (λ e. e ≡ as_dir_fault f)
    → (f ≡ map.Full → W faults.Full) → (f ≡ map.TooBig → W faults.Full) → W faults.DiskFault → IfErr r W
passed_on W (Ok u) f err is full big device = cc
passed_on W (Err e) map.Full err is full big device = subst W (sym is) (full refl)
passed_on W (Err e) map.TooBig err is full big device = subst W (sym is) (big refl)
passed_on W (Err e) map.DiskFault err is full big device = subst W (sym is) device

-- the cause of a fault of what an inode holds
was_of_disk : (f : MapFault) → as_dir_fault f ≡ faults.DiskFault → f ≡ map.DiskFault
was_of_disk map.Full is = cc
was_of_disk map.TooBig is = cc
was_of_disk map.DiskFault is = refl

pub map_cause_on : {T U : Type 0} {f : MapFault} {old mid : TxnState} {new : DiskState} → SameStore old mid → HasCauseOf {T = T} map.DiskFault mid.disk new (Err f)
    → (r : Result U DirFault) → IsErr r × IsErrAnd r (λ e. e ≡ as_dir_fault f) → HasCauseOf faults.DiskFault old.disk new r
map_cause_on {f = f} {old} {mid} {new} first cause r passed = record {
  later = let a = first.reads.failures in let b = cause.later in omega (arith, a, b);
  failed = through_try (λ e. e ≡ faults.DiskFault → HasFailed old.disk new) r (as_dir_fault f) passed
      (λ is. failed_later old.disk mid.disk new first.reads.failures (cause.failed (was_of_disk f is)));
}

pub ok_is_no_fault : {f : MapFault} {u : Unit {0}} → Ok u ≡ Err f → ⊥
ok_is_no_fault e = cc

-- ---- names with one more
-- the slot of a name
abbrev pub added : List ℕ → ℕ → NamedInode
added name to = record { ino = to; name = name }

module _ {version : Version} {image : SectorMap} {v : Inode} {names : List (List ℕ × ℕ)} (h : HasNames version image v names) (name : List ℕ) (to : ℕ)
    (is_name : IsName name) (short : length name ≤ max_name version) (bytes : IsBytes name) (small : to < 2 ^ 32) (none : get name_cmp (names_of_slots h.slots) name ≡ None)
    (few : length h.slots < max_names version) where
  pub names_with : {new : SectorMap} {w : Inode} → w.kind ≡ v.kind → Holds new w (overwritten (slots_bytes version h.slots) v.size (slot_bytes version (added name to)))
      → HasNoHole new w
      → HasNames version new w (with_entry name_cmp names name to)
  names_with {new} {w} kind holds whole = record {
    kind = kind ∙ h.kind;
    slots = h.slots ++ added name to ∷ [];
    are = ap (λ (m : List (List ℕ × ℕ)). with_entry name_cmp m name to) h.are ∙ sym (names_added h.slots (added name to) h.apart none);
    apart = apart_added h.slots (added name to) h.apart none;
    each = fits_added h.slots (added name to) h.each (record { ino = small; name = is_name; short = short; bytes = bytes });
    few = omega (arith, few, length-append h.slots (added name to ∷ []));
    holds = subst (λ (r : List ℕ). Holds new w r) (bytes_added version h.slots (added name to) v.size h.holds.size) holds;
    whole = whole;
  }

-- where there is place for one more there are fewer than can be
pub slots_few : {version : Version} {image : SectorMap} {v : Inode} {slots : List NamedInode} → HasSlots version image v slots → v.size < max_directory_size version
    → (v.size + slot_size version ≤ max_directory_size version) × (length slots < max_names version)
slots_few {version} {v = v} {slots} h less = place_for_one version (length slots) v.size (size_of_slots h) less

pub names_few : {version : Version} {image : SectorMap} {v : Inode} {names : List (List ℕ × ℕ)} → HasNames version image v names → v.size < max_directory_size version
    → length names < max_names version
names_few h less =
    let count = ap length h.are ∙ length-names h.slots h.apart in
    let few = slots_few (slots_there h) less in
    omega (arith, count, few.1)

-- where there is no place for one more there are as many as can be
pub names_full : {version : Version} {image : SectorMap} {v : Inode} {names : List (List ℕ × ℕ)} → HasNames version image v names → max_directory_size version ≤ v.size
    → length names ≡ max_names version
names_full {version} {v = v} h full =
    let count = ap length h.are ∙ length-names h.slots h.apart in
    let many = no_place version (length h.slots) v.size (size_of_slots (slots_there h)) full in
    let few = h.few in
    omega (arith, count, many, few)

-- ---- names with one less
module _ {version : Version} {image : SectorMap} {v : Inode} {names : List (List ℕ × ℕ)} (h : HasNames version image v names) (slot : ℕ) (x : NamedInode)
    (lt : slot < length h.slots) (is : get_or h.slots slot x ≡ x) where
  pub names_without : {new : SectorMap} {w : Inode} → w.kind ≡ v.kind → Holds new w (resized (slots_bytes version (set h.slots slot (get_or h.slots (length h.slots - 1) x))) (v.size - slot_size version))
      → HasNoHole new w
      → HasNames version new w (without name_cmp names x.name)
  names_without {new} {w} kind holds whole =
      let last : NamedInode = get_or h.slots (length h.slots - 1) x in
      let moved : List NamedInode = set h.slots slot last in
      let cut : v.size - slot_size version ≡ slot_size version * (length h.slots - 1) =
      ap (λ (k : ℕ). k - slot_size version) (size_of_slots (slots_there h)) ∙ one_less version (length h.slots) in
      let fits : All (FitsSlot version) moved = fits_set h.slots slot last lt h.each (h.each (length h.slots - 1) x (omega (arith, lt))) in
      let e : resized (slots_bytes version moved) (v.size - slot_size version) ≡ slots_bytes version (swap_remove h.slots slot x) =
      ap (resized (slots_bytes version moved)) cut ∙ bytes_cut version moved (length h.slots - 1) fits (omega (arith, length-set h.slots slot last)) in
      record {
        kind = kind ∙ h.kind;
        slots = swap_remove h.slots slot x;
        are = ap (λ (m : List (List ℕ × ℕ)). without name_cmp m x.name) h.are ∙ sym (names_moved h.slots slot x lt h.apart is);
        apart = apart_moved h.slots slot x lt h.apart;
        each = fits_moved h.slots slot x lt h.each;
        few = let some = h.few in omega (arith, some, length-moved h.slots slot x lt);
        holds = subst (λ (r : List ℕ). Holds new w r) e holds;
        whole = whole;
      }

-- ---- another slot in the place of one
module _ {version : Version} {image : SectorMap} {v : Inode} {names : List (List ℕ × ℕ)} (h : HasNames version image v names) (slot : ℕ) (x y : NamedInode)
    (lt : slot < length h.slots) (is : get_or h.slots slot x ≡ x) where
  changed_slots : IsNameOfOne h.slots slot y.name → {new : SectorMap} → HasSlots version new v (set h.slots slot y)
      → HasNames version new v (with_entry name_cmp (without name_cmp names x.name) y.name y.ino)
  changed_slots alone {new} now = record {
    kind = now.kind;
    slots = set h.slots slot y;
    are =
        ap (λ (m : List (List ℕ × ℕ)). with_entry name_cmp (without name_cmp m x.name) y.name y.ino) h.are
        ∙ sym (names_set h.slots slot x y lt is alone h.apart);
    apart = now.apart;
    each = now.each;
    few = now.few;
    holds = now.holds;
    whole = now.whole;
  }

  -- the name of the slot leads to another inode
  own_name : y.name ≡ x.name → IsNameOfOne h.slots slot y.name
  own_name same = subst (IsNameOfOne h.slots slot) (sym same) (its_own_name h.slots slot x h.apart lt is)

  pub apart_led : y.name ≡ x.name → HaveDistinctNames (set h.slots slot y)
  apart_led same = apart_set h.slots slot x y lt is (own_name same) h.apart

  pub names_led : y.name ≡ x.name → {new : SectorMap} → HasSlots version new v (set h.slots slot y) → HasNames version new v (with_entry name_cmp names x.name y.ino)
  names_led same {new} now =
      let map_is : IsMap name_cmp names = subst (IsMap name_cmp) (sym h.are) (are_names_of h.slots h.apart).map_is in
      subst (λ (m : List (List ℕ × ℕ)). HasNames version new v m)
      (ap (λ (q : List ℕ). with_entry name_cmp (without name_cmp names x.name) q y.ino) same ∙ without_and_with names x.name y.ino map_is)
      (changed_slots (own_name same) now)

  -- a new name leads to the same inode
  new_name : get name_cmp names y.name ≡ None → IsNameOfOne h.slots slot y.name
  new_name none k d less ne = no_such_name h.slots y.name h.apart (said_by_slots y.name h none) k d less

  pub apart_renamed : get name_cmp names y.name ≡ None → HaveDistinctNames (set h.slots slot y)
  apart_renamed none = apart_set h.slots slot x y lt is (new_name none) h.apart

  pub names_renamed : get name_cmp names y.name ≡ None → {new : SectorMap} → HasSlots version new v (set h.slots slot y)
      → HasNames version new v (with_entry name_cmp (without name_cmp names x.name) y.name y.ino)
  names_renamed none {new} now = changed_slots (new_name none) now
