-- Bytes are written, one block after the other.
use Rattle.std.proofs.Common.{◌≡◌, ◌≢◌, ℕ, zero, suc, ◌+◌, ◌-◌, ◌*◌, ◌/◌, ◌≤◌, ◌<◌, ◌⊎◌, List, [], ◌∷◌, ◌++◌, length, take, drop, refl, sym, ap, subst, ◌∙◌, arith, inl, inr}
use Rattle.std.specs.Prelude.{nat_eq, if◌then◌else◌}
use Rattle.std.proofs.lemmas.Bool.{cases_lt, cases_eq, lt-ltb}
use Rattle.std.proofs.lemmas.List.{length-take-le, length-drop, take_all}
use Rattle.std.proofs.Math.Seq.{take-add}
use Rattle.fs_layout.specs.declared.inode.TheConstants.{DIRECT_BLOCKS}
use Rattle.fs_layout.specs.declared.inode.Inode.{Inode}
use Rattle.fs_layout.specs.declared.geometry.Geometry.{Geometry}
use Rattle.fs_layout.specs.Bytes.{SectorMap, splice}
use Rattle.fs_layout.specs.Images.{holder, number_on, pointer, Holds, free_sectors}
use Rattle.fs_layout.specs.InodeChanges.{ChangesBlocks}
use Rattle.fs_layout.proofs.Writes.{splice_next, nothing_put}
use Rattle.sector_txn.specs.Sectors.{TxnState, SameStore, IsUnchanged, PutsOnly, lacking}
use Rattle.sector_txn.proofs.TransactionRuns.{changes_nothing, changes_joined, changes_read, store_joined}
use Rattle.bit_alloc.specs.Inodes.{KeepsAcls}
use Rattle.bit_alloc.specs.Room.{bitmaps, HasSpare}
use Rattle.block_map.specs.Steps.{MayChange, IsStepSector, HasRoomFor, Alters, hole, holes, lacks_pointers, pointers_of, pointers_to, pointer_sectors, AddsPointers, WritesBlock, WritesRun, WritesBlocks, blocks_to, taken_by}
use Rattle.block_map.proofs.Adding.{pointers_are_numbers}
use Rattle.block_map.proofs.Alterings.{alters_joined, may_after}
use Rattle.block_map.proofs.AddedPointers.{alters_nothing}
use Rattle.block_map.proofs.Counts.{lacks_more, lacks_further, lacks_same, taken_is}
use Rattle.block_map.proofs.Givings.{may_unchanged}
use Rattle.block_map.proofs.Runs.{same_map}
use Rattle.block_map.proofs.Rooms.{changes_counted, lacking-append, lacks_among, puts_among, puts_before}
use Rattle.block_map.proofs.Writings.{hole_is_one, pointers_are}

-- the blocks from `first` up to k are written; `ns` are their sectors of pointers
pub record IsWritten (p : Geometry) (ns : List ℕ) (offset first k : ℕ) (x : List ℕ) (old new : TxnState) (v w : Inode) : Type 0 where
  pub may : MayChange p new w
  pub alters : Alters p old new v w
  pub size : w.size ≡ v.size
  pub pointers : (i : ℕ) → number_on new.sectors w 1 i ≡ number_on old.sectors v 1 i
  pub puts : PutsOnly (IsStepSector p) (ns ++ bitmaps p) (k - first) old new
  pub held : (bytes : List ℕ) → Holds old.sectors v bytes → Holds new.sectors w (splice bytes offset (take (512 * k - offset) x))
  pub here : (j : ℕ) → first ≤ j → j < k → pointer new.sectors w j ≢ 0
  pub others : (j : ℕ) → (j < first) ⊎ (k ≤ j) → pointer new.sectors w j ≡ pointer old.sectors v j
  pub free : free_sectors p old.sectors ≤ free_sectors p new.sectors + holes old.sectors v first (k - first)

-- none of them is
pub none_written : {p : Geometry} {offset first : ℕ} {x : List ℕ} {txn : TxnState} {v : Inode} (ns : List ℕ) → MayChange p txn v → 512 * first ≤ offset
    → IsWritten p ns offset first first x txn txn v v
none_written {p} {offset} {first} {x} {txn} {v} ns may before =
    let none : first - first ≡ 0 = omega arith in
    record {
      may = may;
      alters = alters_nothing may;
      size = refl;
      pointers = λ i. refl;
      puts = subst (λ (m : ℕ). PutsOnly (IsStepSector p) (ns ++ bitmaps p) m txn txn) (sym none) (changes_nothing (ns ++ bitmaps p));
      held = λ bytes h.
          let zero : 512 * first - offset ≡ 0 = omega (arith, before) in
          subst (λ (r : List ℕ). Holds txn.sectors v r) (nothing_put bytes offset ∙ ap (λ (n : ℕ). splice bytes offset (take n x)) (sym zero)) h;
      here = λ j low high. absurd (omega (arith, low, high));
      others = λ j out. refl;
      free = omega arith;
    }

-- the store below stays, where sectors of pointers were added before and some are read behind it
pub store_so_far : {p : Geometry} {ns : List ℕ} {offset first k : ℕ} {x : List ℕ} {start old mid now : TxnState} {u v : Inode} → SameStore start old
    → IsWritten p ns offset first k x old mid u v → IsUnchanged mid now → SameStore start now
store_so_far added so_far same = store_joined (store_joined added so_far.puts.store) same.store

-- reads change nothing of it
pub written_then : {p : Geometry} {ns : List ℕ} {offset first k : ℕ} {x : List ℕ} {old mid now : TxnState} {u v w : Inode} → IsWritten p ns offset first k x old mid u v → IsUnchanged mid now → w ≡ v
    → IsWritten p ns offset first k x old now u w
written_then {p} {ns} {offset} {first} {k} {x} {old} {mid} {now} {u} {v} {w} so_far same is =
    subst (λ (i : Inode). IsWritten p ns offset first k x old now u i) (sym is)
    (record {
      may = may;
      alters = record {
        blocks = shift (λ m. ChangesBlocks p u v old.sectors m) alters.blocks;
        fields = alters.fields;
        acls = shift (λ m. KeepsAcls old.sectors m u v) alters.acls;
        bitmaps = may.bitmaps;
        fits = alters.fits;
      };
      size = so_far.size;
      pointers = λ i. shift (λ m. number_on m v 1 i ≡ number_on old.sectors u 1 i) (so_far.pointers i);
      puts = changes_read so_far.puts same;
      held = λ bytes h. shift (λ m. Holds m v (splice bytes offset (take (512 * k - offset) x))) (so_far.held bytes h);
      here = λ j low high. shift (λ m. pointer m v j ≢ 0) (so_far.here j low high);
      others = λ j out. shift (λ m. pointer m v j ≡ pointer old.sectors u j) (so_far.others j out);
      free = shift (λ m. free_sectors p old.sectors ≤ free_sectors p m + holes old.sectors u first (k - first)) so_far.free;
    })
  where
    alters : Alters p old mid u v
    alters = so_far.alters

    may : MayChange p now v
    may = may_unchanged so_far.may same

    shift : (P : SectorMap → Type 0) → P mid.sectors → P now.sectors
    shift P = subst P (sym (same_map mid.sectors now.sectors same.sectors))

-- what is written up to a block, and a piece behind it
joined_piece : (bytes x piece : List ℕ) (offset k m start done len : ℕ) → start ≡ offset + done → done ≡ 512 * k - offset → done ≤ length x
    → piece ≡ take len (drop done x) → ((length x ≤ 512 * m - offset) × (done + len ≡ length x)) ⊎ (done + len ≡ 512 * m - offset)
    → offset + length x ≤ length bytes
    → splice (splice bytes offset (take (512 * k - offset) x)) start piece ≡ splice bytes offset (take (512 * m - offset) x)
joined_piece bytes x piece offset k m start done len next is few e ends room =
    let width : length (take done x) ≡ done = length-take-le done x few in
    ap (λ (d : ℕ). splice (splice bytes offset (take d x)) start piece) (sym is)
    ∙ splice_next bytes (take done x) piece offset start (omega (arith, width, few, room)) (omega (arith, next, width))
    ∙ ap (splice bytes offset) (ap (λ (r : List ℕ). take done x ++ r) e ∙ sym (take-add done len x) ∙ to_end)
  where
    to_end : take (done + len) x ≡ take (512 * m - offset) x
    to_end = elim ends [
      | inl all ↦ take_all (done + len) x (omega (arith, all.1)) ∙ sym (take_all (512 * m - offset) x all.0)
      | inr same ↦ ap (λ (n : ℕ). take n x) same
    ]

-- how long a part of the bytes is
pub part_long : (x : List ℕ) (done len : ℕ) → done + len ≤ length x → length (take (done + len - done) (drop done x)) ≡ len
part_long x done len fits =
    let rest = length-drop done x in
    let wide = length-take-le (done + len - done) (drop done x) (omega (arith, rest, fits)) in omega (arith, wide)

-- where a run of whole blocks stands among the bytes, and among the blocks up to `end`
pub record IsRunOf (x : List ℕ) (offset k done run end : ℕ) : Type 0 where
  pub begins : 512 * k ≡ offset + done
  pub within : k + run ≤ end
  pub fits : done + 512 * run ≤ length x
  pub long : length (take (done + 512 * run - done) (drop done x)) ≡ 512 * run
  pub count : length (take (done + 512 * run - done) (drop done x)) / 512 ≡ run

-- at most so many blocks are whole there, if one begins there
pub run_of : (x : List ℕ) (offset k done run end : ℕ) {at most : ℕ} → 0 < run → run ≤ most → (0 < most → at ≡ 0) → 512 * most ≤ length x - done → at ≡ offset - 512 * k
    → done ≡ 512 * k - offset → end ≡ blocks_to (offset + length x) → k < end → IsRunOf x offset k done run end
run_of x offset k done run end some few first whole at_is done_is end_is below =
    let here = first (omega (arith, some, few)) in
    let rest = length-drop done x in
    let wide = length-take-le (done + 512 * run - done) (drop done x) (omega (arith, rest, few, whole)) in
    record {
      begins = omega (arith, here, at_is, done_is);
      within = omega (arith, here, at_is, done_is, some, few, whole, end_is);
      fits = omega (arith, some, few, whole);
      long = omega (arith, wide);
      count = omega (arith, wide);
    }

-- ---- the sector of pointers of a block is one of those of the blocks that are written
near_pointers : (image : SectorMap) (v : Inode) (k : ℕ) → k < DIRECT_BLOCKS → pointers_to image v k ≡ []
near_pointers image v k lt = rw (lt-ltb k DIRECT_BLOCKS lt) refl

module _ (image now : SectorMap) (v w : Inode) (first end k : ℕ) (low : first ≤ k) (high : k < end)
    (same : (i : ℕ) → number_on now w 1 i ≡ number_on image v 1 i) where
  far_pointers : DIRECT_BLOCKS ≤ k → pointers_to now w k ≡ number_on image v 1 (holder DIRECT_BLOCKS k) ∷ []
  far_pointers ge = pointers_are now w k ge ∙ ap (λ (s : ℕ). s ∷ []) (same (holder DIRECT_BLOCKS k))

  pub puts_shared : {R : ℕ → Type 0} (bits : List ℕ) {more : ℕ} {old new : TxnState} → PutsOnly R (pointers_to now w k ++ bits) more old new
      → PutsOnly R (pointers_of image v first end ++ bits) more old new
  puts_shared {R} bits {more} {old} {new} puts = elim (cases_lt k DIRECT_BLOCKS) [
    | inl lt ↦
        puts_before (subst (λ (ns : List ℕ). PutsOnly R (ns ++ bits) more old new) (near_pointers now w k lt) puts) (pointers_of image v first end)
    | inr ge ↦
        subst (λ (ns : List ℕ). PutsOnly R (ns ++ bits) more old new) (sym (pointers_are_numbers image v first end (omega (arith, ge, high))))
        (puts_among image v 1 (holder DIRECT_BLOCKS first) (holder DIRECT_BLOCKS (end - 1) + 1 - holder DIRECT_BLOCKS first) (holder DIRECT_BLOCKS k) (omega (arith, low)) (omega (arith, low, high))
        (subst (λ (ns : List ℕ). PutsOnly R (ns ++ bits) more old new) (far_pointers ge) puts))
  ]

  -- and needs no more room
  pub lacks_shared : (txn : TxnState) (bits : List ℕ) → lacking txn (pointers_to now w k ++ bits) ≤ lacking txn (pointers_of image v first end ++ bits)
  lacks_shared txn bits = elim (cases_lt k DIRECT_BLOCKS) [
    | inl lt ↦
        let e = ap (λ (ns : List ℕ). lacking txn (ns ++ bits)) (near_pointers now w k lt) in
        let a = lacking-append txn (pointers_of image v first end) bits in
        omega (arith, e, a)
    | inr ge ↦
        let e = ap (λ (ns : List ℕ). lacking txn (ns ++ bits)) (far_pointers ge) in
        let f = ap (λ (ns : List ℕ). lacking txn (ns ++ bits)) (pointers_are_numbers image v first end (omega (arith, ge, high))) in
        let a = lacks_among txn image v 1 (holder DIRECT_BLOCKS first) (holder DIRECT_BLOCKS (end - 1) + 1 - holder DIRECT_BLOCKS first) (holder DIRECT_BLOCKS k)
        (omega (arith, low)) (omega (arith, low, high)) bits in
        omega (arith, e, f, a)
  ]

-- one block more is written
pub more_written : {p : Geometry} {offset first k at end : ℕ} {x piece : List ℕ} {old mid new : TxnState} {u v w : Inode} → (done len : ℕ)
    → IsWritten p (pointers_of old.sectors u first end) offset first k x old mid u v → WritesBlock p k at piece mid new v w
    → first ≤ k → k < end → 512 * k + at ≡ offset + done → done ≡ 512 * k - offset → piece ≡ take len (drop done x)
    → done + len ≤ length x → ((length x ≤ 512 * (k + 1) - offset) × (done + len ≡ length x)) ⊎ (done + len ≡ 512 * (k + 1) - offset)
    → offset + length x ≤ u.size
    → IsWritten p (pointers_of old.sectors u first end) offset first (k + 1) x old new u w
more_written {p} {offset} {first} {k} {at} {end} {x} {piece} {old} {mid} {new} {u} {v} {w} done len so_far step from below next is piece_is few ends room =
    let one : k + 1 - first ≡ k - first + 1 = omega (arith, from) in
    let ns : List ℕ = pointers_of old.sectors u first end in
    let untouched : pointer mid.sectors v k ≡ pointer old.sectors u k = so_far.others k (inr (omega arith)) in
    record {
      may = may_after so_far.may step.alters;
      alters = alters_joined so_far.alters step.alters;
      size = step.size ∙ so_far.size;
      pointers = λ i. step.pointers i ∙ so_far.pointers i;
      puts = subst (λ (m : ℕ). PutsOnly (IsStepSector p) (ns ++ bitmaps p) m old new) (sym one)
          (changes_joined so_far.puts (puts_shared old.sectors mid.sectors u v first end k from below so_far.pointers (bitmaps p) step.puts));
      held = λ bytes h.
          subst (λ (r : List ℕ). Holds new.sectors w r) (joined_piece bytes x piece offset k (k + 1) (512 * k + at) done len next is (omega (arith, few)) piece_is ends (let z = h.size in omega (arith, z, room)))
          (step.held (splice bytes offset (take (512 * k - offset) x)) (so_far.held bytes h));
      here = λ j low high. elim (cases_eq j k) [
        | inl e ↦ subst (λ (i : ℕ). pointer new.sectors w i ≢ 0) (sym e) step.here
        | inr ne ↦ λ e. so_far.here j low (omega (arith, high, ne)) (sym (step.others j ne) ∙ e)
      ];
      others = λ j out. step.others j (apart j out) ∙ so_far.others j (wider j out);
      free =
          let f = step.free in
          let g = so_far.free in
          let same : hole mid.sectors v k ≡ hole old.sectors u k = ap (λ (s : ℕ). if nat_eq s 0 then 1 else 0) untouched in
          let more = lacks_more old.sectors u 0 first (k - first) in
          let there : first + (k - first) ≡ k = omega (arith, from) in
          let last : hole old.sectors u (first + (k - first)) ≡ hole old.sectors u k = ap (hole old.sectors u) there in
          let count : holes old.sectors u first (k + 1 - first) ≡ holes old.sectors u first (k - first + 1) = ap (holes old.sectors u first) one in
          omega (arith, f, g, same, more, last, count);
    }
  where
    apart : (j : ℕ) → (j < first) ⊎ (k + 1 ≤ j) → j ≢ k
    apart j out e = elim out [ inl low ↦ omega (arith, low, from, e) | inr high ↦ omega (arith, high, e) ]

    wider : (j : ℕ) → (j < first) ⊎ (k + 1 ≤ j) → (j < first) ⊎ (k ≤ j)
    wider j out = elim out [ inl low ↦ inl low | inr high ↦ inr (omega (arith, high)) ]

-- so many holes
holes_all : (image : SectorMap) (v : Inode) (first n count : ℕ) → ((j : ℕ) → first + n ≤ j → j < first + n + count → pointer image v j ≡ 0)
    → holes image v first (n + count) ≡ holes image v first n + count
holes_all image v first n zero none =
    let same : n + 0 ≡ n = omega arith in
    let e = ap (holes image v first) same in omega (arith, e)
holes_all image v first n (suc count) none =
    let rest = holes_all image v first n count (λ j low high. none j low (omega (arith, high))) in
    let more = lacks_more image v 0 first (n + count) in
    let one = hole_is_one image v (first + (n + count)) (none (first + (n + count)) (omega arith) (omega arith)) in
    let next : n + count + 1 ≡ n + suc count = omega arith in
    let e = ap (holes image v first) next in omega (arith, rest, more, one, e)

-- a run more is written
pub run_more : {p : Geometry} {offset first k count end : ℕ} {x piece : List ℕ} {old mid new : TxnState} {u v w : Inode} → (done : ℕ)
    → IsWritten p (pointers_of old.sectors u first end) offset first k x old mid u v → WritesRun p k count piece mid new v w
    → first ≤ k → 0 < count → k + count ≤ end → 512 * k ≡ offset + done → done ≡ 512 * k - offset → piece ≡ take (512 * count) (drop done x)
    → done + 512 * count ≤ length x → ((j : ℕ) → k ≤ j → j < k + count → pointer mid.sectors v j ≡ 0) → offset + length x ≤ u.size
    → IsWritten p (pointers_of old.sectors u first end) offset first (k + count) x old new u w
run_more {p} {offset} {first} {k} {count} {end} {x} {piece} {old} {mid} {new} {u} {v} {w} done so_far step from some below next is piece_is few none room =
    let all : k + count - first ≡ k - first + count = omega (arith, from) in
    let ns : List ℕ = pointers_of old.sectors u first end in
    record {
      may = may_after so_far.may step.alters;
      alters = alters_joined so_far.alters step.alters;
      size = step.size ∙ so_far.size;
      pointers = λ i. step.pointers i ∙ so_far.pointers i;
      puts = subst (λ (m : ℕ). PutsOnly (IsStepSector p) (ns ++ bitmaps p) m old new) (sym all)
          (changes_joined so_far.puts (puts_shared old.sectors mid.sectors u v first end k from (omega (arith, below, some)) so_far.pointers (bitmaps p) step.puts));
      held = λ bytes h.
          subst (λ (r : List ℕ). Holds new.sectors w r)
          (joined_piece bytes x piece offset k (k + count) (512 * k) done (512 * count) next is (omega (arith, few)) piece_is (inr (omega (arith, is, next))) (let z = h.size in omega (arith, z, room)))
          (step.held (splice bytes offset (take (512 * k - offset) x)) (so_far.held bytes h));
      here = λ j low high. elim (cases_lt j k) [
        | inl before ↦ λ e. so_far.here j low before (sym (step.others j (inl before)) ∙ e)
        | inr within ↦ step.here j within high
      ];
      others = λ j out. step.others j (apart j out) ∙ so_far.others j (wider j out);
      free =
          let f = step.free in
          let g = so_far.free in
          let there : first + (k - first) ≡ k = omega (arith, from) in
          let holes_there = holes_all old.sectors u first (k - first) count
          (λ j low high. sym (so_far.others j (inr (omega (arith, low, there)))) ∙ none j (omega (arith, low, there)) (omega (arith, high, there))) in
          let e : holes old.sectors u first (k + count - first) ≡ holes old.sectors u first (k - first + count) = ap (holes old.sectors u first) all in
          omega (arith, f, g, holes_there, e);
    }
  where
    apart : (j : ℕ) → (j < first) ⊎ (k + count ≤ j) → (j < k) ⊎ (k + count ≤ j)
    apart j out = elim out [ inl low ↦ inl (omega (arith, low, from)) | inr high ↦ inr high ]

    wider : (j : ℕ) → (j < first) ⊎ (k + count ≤ j) → (j < first) ⊎ (k ≤ j)
    wider j out = elim out [ inl low ↦ inl low | inr high ↦ inr (omega (arith, high)) ]

-- ---- all blocks
module _ {p : Geometry} (offset : ℕ) {end : ℕ} (x : List ℕ) {old mid : TxnState} {u v : Inode} (added : AddsPointers p (offset / 512) end old mid u v)
    (is : end ≡ blocks_to (offset + length x)) where
  abbrev first : ℕ
  first = offset / 512

  same_holes : (n : ℕ) → holes mid.sectors v first n ≡ holes old.sectors u first n
  same_holes n = lacks_same old.sectors mid.sectors u v 0 added.same first n

  count : taken_by old.sectors u offset (length x) ≡ holes old.sectors u first (end - first) + lacks_pointers old.sectors u first end
  count =
      taken_is old.sectors u offset (length x)
      ∙ ap (λ (e : ℕ). holes old.sectors u (offset / 512) (e - offset / 512) + lacks_pointers old.sectors u (offset / 512) e) (sym is)

  -- all are written
  pub all_written : {new : TxnState} {w : Inode} → IsWritten p (pointers_of mid.sectors v (offset / 512) end) offset (offset / 512) end x mid new v w → offset / 512 ≤ end
      → WritesBlocks p offset x old new u w
  all_written {new} {w} done from =
      let all : take (512 * end - offset) x ≡ x = take_all (512 * end - offset) x (omega (arith, is)) in
      let most : blocks_to (offset + length x) - offset / 512 + pointer_sectors (offset / 512) (blocks_to (offset + length x)) ≡ end - first + pointer_sectors first end =
      ap (λ (e : ℕ). e - offset / 512 + pointer_sectors (offset / 512) e) (sym is) in
      record {
        alters = alters_joined added.alters done.alters;
        puts = changes_counted added.puts done.puts
            (let one = added.room in
            let two = done.puts.room in
            let less = lacking-append new (pointers_of mid.sectors v first end) (bitmaps p) in
            omega (arith, one, two, less, most));
        size = done.size ∙ added.size;
        held = λ bytes h. subst (λ (r : List ℕ). Holds new.sectors w (splice bytes offset r)) all (done.held bytes (added.held bytes h));
        hole = λ k none. elim (cases_lt k first) [
          | inl low ↦ (sym (done.others k (inl low) ∙ added.same k) ∙ none, inl (omega (arith, low)))
          | inr ge ↦ elim (cases_lt k end) [
            | inl high ↦ absurd (done.here k ge high none)
            | inr past ↦ (sym (done.others k (inr past) ∙ added.same k) ∙ none, inr (omega (arith, is, past)))
          ]
        ];
        free = let one = added.free in let two = done.free in let same = same_holes (end - first) in omega (arith, one, two, same, count);
      }

  module _ {k : ℕ} {now : TxnState} {w : Inode} (so_far : IsWritten p (pointers_of mid.sectors v (offset / 512) end) offset (offset / 512) k x mid now v w)
      (from : offset / 512 ≤ k) (below : k < end) where
    -- where no sector is left for a block, fewer were free than the bytes take
    pub block_lacks : pointer now.sectors w k ≡ 0 → free_sectors p now.sectors ≡ 0 → free_sectors p old.sectors < taken_by old.sectors u offset (length x)
    block_lacks none full =
        let untouched : pointer old.sectors u k ≡ 0 = sym (so_far.others k (inr (omega arith)) ∙ added.same k) ∙ none in
        let more = lacks_more old.sectors u 0 first (k - first) in
        let there : first + (k - first) ≡ k = omega (arith, from) in
        let one : hole old.sectors u (first + (k - first)) ≡ 1 = ap (hole old.sectors u) there ∙ hole_is_one old.sectors u k untouched in
        let rest = lacks_further old.sectors u 0 first (k - first + 1) (end - first) (omega (arith, from, below)) in
        let f = added.free in
        let g = so_far.free in
        let same = same_holes (k - first) in
        omega (arith, f, g, full, same, count, more, one, rest)

    -- and where too few are left for a run
    pub run_lacks : (run : ℕ) → k + run ≤ end → ((j : ℕ) → k ≤ j → j < k + run → pointer now.sectors w j ≡ 0) → free_sectors p now.sectors < run
        → free_sectors p old.sectors < taken_by old.sectors u offset (length x)
    run_lacks run within none few =
        let there : first + (k - first) ≡ k = omega (arith, from) in
        let lacking = holes_all old.sectors u first (k - first) run
        (λ j low high.
        sym (so_far.others j (inr (omega (arith, low, there))) ∙ added.same j) ∙ none j (omega (arith, low, there)) (omega (arith, high, there))) in
        let rest = lacks_further old.sectors u 0 first (k - first + run) (end - first) (omega (arith, from, within)) in
        let f = added.free in
        let g = so_far.free in
        let same = same_holes (k - first) in
        omega (arith, f, g, few, same, count, lacking, rest)

    -- there is room for so many blocks more
    pub room_for_blocks : (more : ℕ) → k + more ≤ end
        → HasSpare p (blocks_to (offset + length x) - offset / 512 + pointer_sectors (offset / 512) (blocks_to (offset + length x))) old
        → HasRoomFor p (pointers_to now.sectors w k) more now
    room_for_blocks more within spare =
        let one = added.room in
        let two = so_far.puts.room in
        let shared = lacks_shared mid.sectors now.sectors v w first end k from below so_far.pointers now (bitmaps p) in
        let most : blocks_to (offset + length x) - offset / 512 + pointer_sectors (offset / 512) (blocks_to (offset + length x)) ≡ end - first + pointer_sectors first end =
        ap (λ (e : ℕ). e - offset / 512 + pointer_sectors (offset / 512) e) (sym is) in
        omega (arith, one, two, shared, most, from, within, spare)

-- and so where none is left for the pointers
pub pointers_lack : (p : Geometry) (offset end : ℕ) (x : List ℕ) (old : TxnState) (v : Inode) → end ≡ blocks_to (offset + length x)
    → free_sectors p old.sectors < lacks_pointers old.sectors v (offset / 512) end → free_sectors p old.sectors < taken_by old.sectors v offset (length x)
pointers_lack p offset end x old v is few =
    let count = taken_is old.sectors v offset (length x)
    ∙ ap (λ (e : ℕ). holes old.sectors v (offset / 512) (e - offset / 512) + lacks_pointers old.sectors v (offset / 512) e) (sym is) in
    omega (arith, count, few)
