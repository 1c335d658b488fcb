-- What an inode holds is cut, or made longer.
use Rattle.std.proofs.Common.{◌≡◌, ◌≢◌, ℕ, ◌+◌, ◌-◌, ◌*◌, ◌/◌, ◌%◌, ◌<◌, ◌≤◌, List, ◌++◌, length, take, replicate, get_or, refl, sym, ap, subst, ◌∙◌, arith, inl, inr, ◌⊎◌}
use Rattle.std.proofs.lemmas.Bool.{cases_lt}
use Rattle.std.proofs.lemmas.List.{ext_get_or, take_all, append-nil, get_or_past, length-take, length-take-le, get_or-take}
use Rattle.fs_layout.specs.declared.inode.TheConstants.{MAX_FILE_SIZE}
use Rattle.fs_layout.specs.declared.inode.Inode.{Inode}
use Rattle.fs_layout.specs.declared.inode.Kind.{Kind}
use Rattle.fs_layout.specs.declared.geometry.Geometry.{Geometry}
use Rattle.fs_layout.specs.Bytes.{SectorMap, splice, zeros, resized}
use Rattle.fs_layout.specs.Images.{pointer, Owns, Holds, byte_in, byte_at, free_sectors}
use Rattle.fs_layout.specs.InodeChanges.{Puts}
use Rattle.fs_layout.proofs.Blocks.{fields_change}
use Rattle.fs_layout.proofs.Parts.{KeepsPointers, pointer_same, byte_in_kept, owns_block}
use Rattle.fs_layout.proofs.Held.{held_hole}
use Rattle.fs_layout.proofs.Sectors.{IsBytes-zeros}
use Rattle.fs_layout.proofs.Writes.{length-zeros}
use Rattle.fs_layout.proofs.SplicedBytes.{get_or-zeros, length-splice, get_or-splice_before, get_or-splice_inside}
use Rattle.sector_txn.specs.Sectors.{TxnState, IsUnchanged, PutsOnly}
use Rattle.sector_txn.proofs.TransactionRuns.{changes_joined, changes_nothing, changes_weaker}
use Rattle.bit_alloc.specs.Room.{bitmaps}
use Rattle.bit_alloc.proofs.Transactions.{unchanged_nothing, puts_after}
use Rattle.block_map.specs.Contents.{AllowsSize}
use Rattle.block_map.specs.Drops.{DropsBlocks, cut_by}
use Rattle.block_map.specs.Sizes.{HasZeroTail, ClearsTail, Resizes}
use Rattle.block_map.specs.Steps.{MayChange, IsStepSector, Alters, WritesBlock}
use Rattle.block_map.proofs.Alterings.{alters_joined, may_after, fields_same, acls_kept, altered_after}
use Rattle.block_map.proofs.Sizing.{sized, sized_holds, sized_number, sized_pointer}
use Rattle.block_map.proofs.Runs.{same_map}
use Rattle.block_map.proofs.Writings.{free_after_put, there_kept, writes_block_there}
use Rattle.block_map.proofs.Wrote.{free_same}

-- besides the block that is cut
at_least_none : (more : ℕ) → 0 ≤ 1 + more
at_least_none more = omega arith

at_least_one : (more : ℕ) → 1 ≤ 1 + more
at_least_one more = omega arith

-- ---- a longer one
pub grows : {p : Geometry} {old : TxnState} {v : Inode} (m : ℕ) → MayChange p old v → AllowsSize v.kind m → m ≤ MAX_FILE_SIZE → v.size ≤ m
    → Resizes p m old old v (record v { size = m })
unfolding zeros
grows {p} {old} {v} m may allowed few le = record {
  alters = sized m may unchanged_nothing allowed few;
  puts = changes_weaker {Q = IsStepSector p} (λ t r. r) (at_least_none (cut_by ((m + 511) / 512))) (changes_nothing {R = IsStepSector p} (bitmaps p));
  held = λ bytes h.
      let z = h.size in
      subst (λ (r : List ℕ). Holds old.sectors (record v { size = m }) (r ++ replicate (m - length bytes) 0)) (sym (take_all m bytes (omega (arith, z, le))))
      (sized_holds {old = old} {mid = old} m unchanged_nothing le bytes h);
  whole = λ none less k lt e. none k (omega (arith, lt, less)) (sym (sized_pointer old.sectors v m k) ∙ e);
  free = omega arith;
}

-- ---- the end of the last block
-- nothing of it is to be cleared
pub tail_kept : {p : Geometry} {m : ℕ} {old : TxnState} {v : Inode} → MayChange p old v
    → ((bytes : List ℕ) → Holds old.sectors v bytes → (i : ℕ) → m ≤ i → i < 512 * ((m + 511) / 512) → get_or bytes i 0 ≡ 0) → ClearsTail p m old old v
tail_kept {p} {m} {old} {v} may none = record {
  alters = record { blocks = fields_change may.bitmaps.geometry may.bitmaps.tables may.apart refl refl refl; fields = fields_same; acls = acls_kept refl refl (λ some. refl) (λ some. refl); bitmaps = may.bitmaps; fits = may.fits };
  puts = changes_weaker {Q = IsStepSector p} (λ t r. r) (omega arith) (changes_nothing {R = IsStepSector p} (bitmaps p));
  pointers = λ k. refl;
  held = λ bytes h. (bytes, h, record { before = λ i lt. refl; after = none bytes h; len = refl });
  free = omega arith;
}

-- a block begins there
pub at_a_block : (m i : ℕ) → m % 512 ≡ 0 → m ≤ i → i < 512 * ((m + 511) / 512) → ⊥
at_a_block m i e ge lt = omega (arith, e, ge, lt)

-- the last block is a hole
pub hole_is_clear : {image : SectorMap} {v : Inode} {bytes : List ℕ} (m : ℕ) → Holds image v bytes → pointer image v (m / 512) ≡ 0 → (i : ℕ) → m ≤ i
    → i < 512 * ((m + 511) / 512) → get_or bytes i 0 ≡ 0
hole_is_clear {bytes = bytes} m h none i ge lt = held_hole h (m / 512) none i (omega (arith, ge, lt)) ∙ get_or-zeros 512 (i % 512)

-- zeros are written there, up to the old size at least
pub spliced_is_cleared : (bytes : List ℕ) (m len : ℕ) → m + len ≤ length bytes → (len ≡ 512 - m % 512) ⊎ (m + len ≡ length bytes)
    → HasZeroTail m bytes (splice bytes m (zeros len))
spliced_is_cleared bytes m len fits way =
    let z : length (zeros len) ≡ len = length-zeros len in
    let whole : length (splice bytes m (zeros len)) ≡ length bytes = length-splice bytes (zeros len) m (omega (arith, z, fits)) in
    record {
      len = whole;
      before = λ i lt. get_or-splice_before bytes (zeros len) m i (omega (arith, fits)) lt;
      after = λ i ge lt. elim (cases_lt i (m + len)) [
        | inl inside ↦ get_or-splice_inside bytes (zeros len) m i (omega (arith, fits)) ge (omega (arith, z, inside)) ∙ get_or-zeros len (i - m)
        | inr past ↦ elim way [
          | inl all ↦ absurd (omega (arith, all, past, lt, ge))
          | inr end ↦ get_or_past (splice bytes m (zeros len)) i 0 (omega (arith, whole, past, end))
        ]
      ];
    }

pub some_zeros : (n len : ℕ) → len ≤ n → take len (replicate n 0) ≡ zeros len
unfolding zeros
some_zeros n len le =
    let z : length (zeros n) ≡ n = length-zeros n in
    let a : length (take len (zeros n)) ≡ len = length-take-le len (zeros n) (omega (arith, z, le)) in
    ext_get_or 0 (take len (zeros n)) (zeros len) (a ∙ sym (length-zeros len)) (λ i lt.
    get_or-take len (zeros n) i 0 (omega (arith, a, lt)) ∙ get_or-zeros n i ∙ sym (get_or-zeros len i))

pub tail_written : {p : Geometry} {m len s : ℕ} {x : List ℕ} {old new : TxnState} {v : Inode} → MayChange p old v → pointer old.sectors v (m / 512) ≡ s → s ≢ 0
    → Puts s (splice (old.sectors s) (m % 512) x) old.sectors new.sectors → x ≡ zeros len → PutsOnly (IsStepSector p) (bitmaps p) 1 old new
    → m + len ≤ v.size → m % 512 + len ≤ 512 → (len ≡ 512 - m % 512) ⊎ (m + len ≡ v.size) → ClearsTail p m old new v
tail_written {p} {m} {len} {s} {x} {old} {new} {v} may is some written e puts fits room way =
    let put : Puts s (splice (old.sectors s) (m % 512) (zeros len)) old.sectors new.sectors =
    subst (λ (y : List ℕ). Puts s (splice (old.sectors s) (m % 512) y) old.sectors new.sectors) e written in
    let z : length (zeros len) ≡ len = length-zeros len in
    let at : 512 * (m / 512) + m % 512 ≡ m = omega arith in
    let block : WritesBlock p (m / 512) (m % 512) (zeros len) old new v v =
    writes_block_there new (m / 512) (m % 512) (zeros len) may is some put (omega (arith, z, room)) (IsBytes-zeros len) puts (omega (arith, z, fits)) in
    let kept : KeepsPointers old.sectors new.sectors v = there_kept new (m / 512) (m % 512) (zeros len) may is some put in
    let free : free_sectors p new.sectors ≡ free_sectors p old.sectors =
    free_after_put may.bitmaps.geometry (may.apart.each s (subst (Owns old.sectors v) is (owns_block old.sectors v (m / 512) (λ f. some (sym is ∙ f))))).0 put in
    record {
      alters = block.alters;
      puts = puts;
      pointers = pointer_same old.sectors new.sectors v kept;
      held = λ bytes h.
          let y = h.size in (
            splice bytes m (zeros len),
            subst (λ (k : ℕ). Holds new.sectors v (splice bytes k (zeros len))) at (block.held bytes h),
            spliced_is_cleared bytes m len (omega (arith, fits, y)) (elim way [ inl f ↦ inl f | inr f ↦ inr (omega (arith, f, y)) ]),
          );
      free = omega (arith, free);
    }

-- ---- a cut
past_cut : (bytes : List ℕ) (m i : ℕ) → m ≤ i → get_or (take m bytes) i 0 ≡ 0
past_cut bytes m i ge = let e = length-take m bytes in get_or_past (take m bytes) i 0 (omega (arith, e, ge))

cut_byte : {p : Geometry} {m : ℕ} {mid new : TxnState} {v w : Inode} {bytes then : List ℕ} → DropsBlocks p ((m + 511) / 512) mid new v w → Holds mid.sectors v then
    → HasZeroTail m bytes then → (i : ℕ) → byte_at new.sectors w i ≡ get_or (take m bytes) i 0
unfolding byte_at
cut_byte {p} {m} {mid} {new} {v} {w} {bytes} {then} d h c i = elim (cases_lt (i / 512) ((m + 511) / 512)) [
  | inl lt ↦
      ap (λ (s : ℕ). byte_in new.sectors s (i % 512)) (d.kept 0 (i / 512) lt)
      ∙ byte_in_kept mid.sectors new.sectors (pointer mid.sectors v (i / 512)) (i % 512) (d.content (i / 512) lt)
      ∙ h.byte i
      ∙ elim (cases_lt i m) [
        | inl before ↦ c.before i before ∙ sym (get_or-take m bytes i 0 before)
        | inr ge ↦ c.after i ge (omega (arith, lt)) ∙ sym (past_cut bytes m i ge)
      ]
  | inr ge ↦ ap (λ (s : ℕ). byte_in new.sectors s (i % 512)) (d.dropped 0 (i / 512) ge) ∙ sym (past_cut bytes m i (omega (arith, ge)))
]

sized_byte : (image : SectorMap) (w : Inode) (m i : ℕ) → byte_at image (record w { size = m }) i ≡ byte_at image w i
unfolding byte_at
sized_byte image w m i = ap (λ (s : ℕ). byte_in image s (i % 512)) (sized_pointer image w m (i / 512))

pub cuts_held : {p : Geometry} {m : ℕ} {mid new : TxnState} {v w : Inode} {bytes then : List ℕ} → DropsBlocks p ((m + 511) / 512) mid new v w → Holds mid.sectors v then
    → HasZeroTail m bytes then → m ≤ length bytes → Holds new.sectors (record w { size = m }) (take m bytes)
cuts_held {p} {m} {mid} {new} {v} {w} {bytes} {then} d h c le = record {
  size = sym (length-take-le m bytes le);
  byte = λ i. sized_byte new.sectors w m i ∙ cut_byte d h c i;
  trim = λ level i past. sized_number new.sectors w m level i ∙ d.dropped level i (omega (arith, past));
}

cut_is_resized : (bytes : List ℕ) (m : ℕ) → m ≤ length bytes → take m bytes ≡ resized bytes m
cut_is_resized bytes m le =
    let none : m - length bytes ≡ 0 = omega (arith, le) in
    sym (ap (λ (k : ℕ). take m bytes ++ replicate k 0) none ∙ append-nil (take m bytes))

pub resizes : {p : Geometry} {m : ℕ} {old start mid new : TxnState} {u v w : Inode} → MayChange p old v → AllowsSize v.kind m → m ≤ v.size → v.size ≤ MAX_FILE_SIZE
    → IsUnchanged old start → u ≡ v → ClearsTail p m start mid u → DropsBlocks p ((m + 511) / 512) mid new u w → Resizes p m old new v (record w { size = m })
resizes {p} {m} {old} {start} {mid} {new} {u} {v} {w} may allowed le small same e clear_u drop_u =
    let t : ClearsTail p m start mid v = subst (λ (i : Inode). ClearsTail p m start mid i) e clear_u in
    let d : DropsBlocks p ((m + 511) / 512) mid new v w = subst (λ (i : Inode). DropsBlocks p ((m + 511) / 512) mid new i w) e drop_u in
    let map : start.sectors ≡ old.sectors = same_map old.sectors start.sectors same.sectors in
    let steps : Alters p old new v w = alters_joined (altered_after same t.alters) d.alters in
    record {
      alters = alters_joined steps (sized m (may_after may steps) unchanged_nothing (subst (λ (k : Kind). AllowsSize k m) (sym steps.fields.kind) allowed) (omega (arith, le, small)));
      puts = puts_after same (changes_joined t.puts d.puts);
      held = λ bytes h.
          let z = h.size in
          let there = t.held bytes (subst (λ (image : SectorMap). Holds image v bytes) (sym map) h) in
          subst (λ (r : List ℕ). Holds new.sectors (record w { size = m }) r) (cut_is_resized bytes m (omega (arith, z, le)))
          (cuts_held d there.1 there.2 (omega (arith, z, le)));
      whole = λ none less k lt f.
          none k (omega (arith, lt, less))
          (ap (λ (image : SectorMap). pointer image v k) (sym map) ∙ sym (t.pointers k) ∙ sym (d.kept 0 k (omega (arith, lt))) ∙ sym (sized_pointer new.sectors w m k) ∙ f);
      free = let a = t.free in let b = d.free in let c = free_same p old start same in omega (arith, a, b, c);
    }

-- within the last block
tail_byte : {image : SectorMap} {v : Inode} {m : ℕ} {bytes then : List ℕ} → Holds image v then → HasZeroTail m bytes then → v.size ≤ 512 * ((m + 511) / 512)
    → (i : ℕ) → byte_at image v i ≡ get_or (take m bytes) i 0
tail_byte {m = m} {bytes} {then} h c last i =
    h.byte i
    ∙ elim (cases_lt i m) [
      | inl before ↦ c.before i before ∙ sym (get_or-take m bytes i 0 before)
      | inr ge ↦ elim (cases_lt i (512 * ((m + 511) / 512))) [
        | inl within ↦ c.after i ge within ∙ sym (past_cut bytes m i ge)
        | inr past ↦ get_or_past then i 0 (let z = h.size in omega (arith, z, last, past)) ∙ sym (past_cut bytes m i ge)
      ]
    ]

tail_held : {image : SectorMap} {v : Inode} {m : ℕ} {bytes then : List ℕ} → Holds image v then → HasZeroTail m bytes then → v.size ≤ 512 * ((m + 511) / 512)
    → m ≤ length bytes → Holds image (record v { size = m }) (take m bytes)
tail_held {image} {v} {m} {bytes} {then} h c last le = record {
  size = sym (length-take-le m bytes le);
  byte = λ i. sized_byte image v m i ∙ tail_byte h c last i;
  trim = λ level i past. sized_number image v m level i ∙ h.trim level i (omega (arith, past, last));
}

pub resizes_last : {p : Geometry} {m : ℕ} {old start new : TxnState} {u v : Inode} → MayChange p old v → AllowsSize v.kind m → m ≤ v.size → v.size ≤ MAX_FILE_SIZE
    → IsUnchanged old start → u ≡ v → ClearsTail p m start new u → v.size ≤ 512 * ((m + 511) / 512) → Resizes p m old new v (record v { size = m })
resizes_last {p} {m} {old} {start} {new} {u} {v} may allowed le small same e clear_u last =
    let t : ClearsTail p m start new v = subst (λ (i : Inode). ClearsTail p m start new i) e clear_u in
    let map : start.sectors ≡ old.sectors = same_map old.sectors start.sectors same.sectors in
    let steps : Alters p old new v v = altered_after same t.alters in
    record {
      alters = alters_joined steps (sized m (may_after may steps) unchanged_nothing allowed (omega (arith, le, small)));
      puts = changes_weaker {Q = IsStepSector p} (λ n r. r) (at_least_one (cut_by ((m + 511) / 512))) (puts_after same t.puts);
      held = λ bytes h.
          let z = h.size in
          let there = t.held bytes (subst (λ (image : SectorMap). Holds image v bytes) (sym map) h) in
          subst (λ (r : List ℕ). Holds new.sectors (record v { size = m }) r) (cut_is_resized bytes m (omega (arith, z, le)))
          (tail_held there.1 there.2 last (omega (arith, z, le)));
      whole = λ none less k lt f.
          none k (omega (arith, lt, less))
          (ap (λ (image : SectorMap). pointer image v k) (sym map) ∙ sym (t.pointers k) ∙ sym (sized_pointer new.sectors v m k) ∙ f);
      free = let a = t.free in let c = free_same p old start same in omega (arith, a, c);
    }
