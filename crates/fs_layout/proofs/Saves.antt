-- An inode is written into the table, alone or after what it owns changed.
use Rattle.std.proofs.Common.{◌≡◌, ◌≢◌, ℕ, ◌+◌, ◌*◌, ◌/◌, ◌%◌, ◌<◌, ◌≤◌, List, length, Ok, sym, ap, subst, ◌∙◌, arith, inl, inr, ◌⊎◌}
use Rattle.std.proofs.lemmas.Bool.{cases_eq, cases_lt}
use Rattle.fs_layout.specs.declared.inode.TheConstants.{INODE_SIZE}
use Rattle.fs_layout.specs.declared.inode.Inode.{Inode}
use Rattle.fs_layout.specs.declared.geometry.Geometry.{Geometry}
use Rattle.fs_layout.specs.Bytes.{SectorMap, IsSector, splice, window}
use Rattle.fs_layout.specs.Inode.{inode_bytes, inode_of, FitsInode}
use Rattle.fs_layout.specs.Geometry.{IsGeometry}
use Rattle.fs_layout.specs.Images.{HasWholeTables, inode_map_bits, map_bits, bit, free_sectors, stored, inode_at, inode_or_free}
use Rattle.fs_layout.specs.InodeChanges.{Keeps, Puts, IsInodeMap, IsOwnedApart, ChangesOwned, ChangesBlocks, Saves, ChangesInode}
use Rattle.fs_layout.proofs.Places.{after_map, before_data}
use Rattle.fs_layout.proofs.InodeLaw.{inode_again}
use Rattle.fs_layout.proofs.Splices.{window_same, window_other}
use Rattle.fs_layout.proofs.Writes.{length-inode_bytes}
use Rattle.fs_layout.proofs.Sectors.{IsBytes-inode_bytes, IsSector-splice}
use Rattle.fs_layout.proofs.Parts.{owns_still, owned_before}
use Rattle.fs_layout.proofs.Bits.{has_bit, bit_kept, inode_bit_kept, in_block_map, free_sectors_kept}
use Rattle.fs_layout.proofs.Composes.{apart_after}

-- ---- where an inode stands
-- in the table
pub in_table : (p : Geometry) (n : ℕ) → IsGeometry p → n < p.inodes → (p.table ≤ p.table + n / 4) × (p.table + n / 4 < p.first_data)
in_table p n geometry lt = let a = before_data geometry in let b = geometry.slots in (omega arith, omega (arith, a, b))

-- an inode's bytes depend on its sector alone
pub stored_kept : (p : Geometry) (n : ℕ) (old new : SectorMap) → new (p.table + n / 4) ≡ old (p.table + n / 4) → stored p new n ≡ stored p old n
unfolding stored
stored_kept p n old new e = ap (λ (s : List ℕ). window s (INODE_SIZE * (n % 4)) INODE_SIZE) e

-- an inode depends on its bytes alone
pub inode_kept : (p : Geometry) (n : ℕ) (old new : SectorMap) → stored p new n ≡ stored p old n → inode_at p new n ≡ inode_at p old n
unfolding inode_at
inode_kept p n old new e = ap (λ (b : List ℕ). inode_or_free (inode_of b)) e

-- and so does what reading it gives
pub valid_kept : (p : Geometry) (n : ℕ) (old new : SectorMap) → stored p new n ≡ stored p old n → inode_of (stored p old n) ≡ Ok (inode_at p old n)
    → inode_of (stored p new n) ≡ Ok (inode_at p new n)
unfolding inode_at
valid_kept p n old new e h = subst (λ (b : List ℕ). inode_of b ≡ Ok (inode_or_free (inode_of b))) (sym e) h

-- where an inode's bytes stand, the inode is read
pub inode_there : (p : Geometry) (image : SectorMap) (n : ℕ) (v : Inode) → FitsInode v → stored p image n ≡ inode_bytes v → inode_at p image n ≡ v
unfolding inode_at
inode_there p image n v fits e = ap inode_or_free (ap inode_of e ∙ inode_again v fits)

-- and it is valid
pub valid_there : (p : Geometry) (image : SectorMap) (n : ℕ) (v : Inode) → FitsInode v → stored p image n ≡ inode_bytes v
    → inode_of (stored p image n) ≡ Ok (inode_at p image n)
valid_there p image n v fits e = ap inode_of e ∙ inode_again v fits ∙ ap (λ (u : Inode). Ok u) (sym (inode_there p image n v fits e))

-- ---- a save
-- a sector of the table is written, with the inode in it
pub put_saves : {p : Geometry} {n : ℕ} {v : Inode} {old new : SectorMap}
    → Puts (p.table + n / 4) (splice (old (p.table + n / 4)) (INODE_SIZE * (n % 4)) (inode_bytes v)) old new → Saves p n v old new
put_saves put = record { here = put.here; others = put.others }

-- two inodes of one sector stand beside one another
far : (m n : ℕ) → m / 4 ≡ n / 4 → m ≢ n → n % 4 ≤ m % 4 → INODE_SIZE * (n % 4) + INODE_SIZE ≤ INODE_SIZE * (m % 4)
far m n e ne ge = omega arith

beside : (m n : ℕ) → m / 4 ≡ n / 4 → m ≢ n → (INODE_SIZE * (m % 4) + INODE_SIZE ≤ INODE_SIZE * (n % 4)) ⊎ (INODE_SIZE * (n % 4) + INODE_SIZE ≤ INODE_SIZE * (m % 4))
beside m n e ne = elim (cases_lt (m % 4) (n % 4)) [ inl lt ↦ inl (omega arith) | inr ge ↦ inr (far m n e ne ge) ]

module _ {p : Geometry} {n : ℕ} {w : Inode} {old new : SectorMap}
    (geometry : IsGeometry p) (lt : n < p.inodes) (fits : FitsInode w) (tables : HasWholeTables p old) (saves : Saves p n w old new) where
  table_sector : IsSector (old (p.table + n / 4))
  table_sector = let i = in_table p n geometry lt in tables (p.table + n / 4) (let a = after_map geometry in omega (arith, a)) i.1

  -- the inode's bytes are those that were written
  pub stored_saved : stored p new n ≡ inode_bytes w
  unfolding stored
  stored_saved =
      let len : length (old (p.table + n / 4)) ≡ 512 = table_sector.len in
      ap (λ (b : List ℕ). window b (INODE_SIZE * (n % 4)) INODE_SIZE) saves.here
      ∙ window_same (old (p.table + n / 4)) (inode_bytes w) (INODE_SIZE * (n % 4)) INODE_SIZE (length-inode_bytes w fits.direct_len fits.indirect_len) (omega (arith, len))

  -- the bytes of each other inode are the same
  pub stored_other : (m : ℕ) → m ≢ n → stored p new m ≡ stored p old m
  unfolding stored
  stored_other m ne =
      let len : length (old (p.table + n / 4)) ≡ 512 = table_sector.len in
      elim (cases_eq (m / 4) (n / 4)) [
        | inr other ↦ ap (λ (b : List ℕ). window b (INODE_SIZE * (m % 4)) INODE_SIZE) (saves.others (p.table + m / 4) (λ e. other (omega (arith, e))))
        | inl e ↦
            let k : p.table + m / 4 ≡ p.table + n / 4 = ap (λ (q : ℕ). p.table + q) e in
            ap (λ (q : ℕ). window (new q) (INODE_SIZE * (m % 4)) INODE_SIZE) k
            ∙ ap (λ (b : List ℕ). window b (INODE_SIZE * (m % 4)) INODE_SIZE) saves.here
            ∙ window_other (old (p.table + n / 4)) (inode_bytes w) (INODE_SIZE * (n % 4)) (INODE_SIZE * (m % 4)) INODE_SIZE INODE_SIZE (length-inode_bytes w fits.direct_len fits.indirect_len)
            (omega (arith, len)) (omega (arith, len)) (beside m n e ne)
            ∙ ap (λ (q : ℕ). window (old q) (INODE_SIZE * (m % 4)) INODE_SIZE) (sym k)
      ]

  -- the inode is the one that was written
  pub inode_saved : inode_at p new n ≡ w
  inode_saved = inode_there p new n w fits stored_saved

  -- and it is valid
  pub valid_saved : inode_of (stored p new n) ≡ Ok (inode_at p new n)
  valid_saved = valid_there p new n w fits stored_saved

  -- the tables are whole again
  pub tables_saved : HasWholeTables p new
  tables_saved s past low = elim (cases_eq s (p.table + n / 4)) [
    | inr ne ↦ subst IsSector (sym (saves.others s ne)) (tables s past low)
    | inl e ↦
        let len : length (inode_bytes w) ≡ INODE_SIZE = length-inode_bytes w fits.direct_len fits.indirect_len in
        subst (λ (t : ℕ). IsSector (new t)) (sym e)
        (subst IsSector (sym saves.here) (IsSector-splice (old (p.table + n / 4)) (inode_bytes w) (INODE_SIZE * (n % 4)) table_sector (IsBytes-inode_bytes w) (omega (arith, len))))
  ]

  -- data sectors are the same
  pub data_saved : (s : ℕ) → p.first_data ≤ s → new s ≡ old s
  data_saved s ge = saves.others s (λ e. let i = in_table p n geometry lt in omega (arith, i, e, ge))

  -- and so are the bitmaps, and all below them
  pub below_saved : (s : ℕ) → s < p.table → new s ≡ old s
  below_saved s low = saves.others s (λ e. omega (arith, e, low))

-- ---- a save after changes of what the inode owns
-- the inode n was v and is w, and all else about it is as in mid
pub record IsSaved (p : Geometry) (n : ℕ) (w : Inode) (old mid new : SectorMap) : Type 0 where
  pub changes : ChangesInode p n old new
  pub is : inode_at p new n ≡ w
  -- what w holds in mid it holds in new
  pub keeps : Keeps mid new w
  pub inode_bits : (m : ℕ) → m < inode_map_bits p → bit new p.inode_bitmap m ≡ bit old p.inode_bitmap m
  pub free : free_sectors p new ≡ free_sectors p mid

-- the facts on owned sectors move along an equation of the inodes
pub owned_at : {p : Geometry} {u v w x : Inode} {old new : SectorMap} → u ≡ v → w ≡ x → ChangesOwned p u w old new → ChangesOwned p v x old new
owned_at {p} {u} {v} {w} {x} {old} {new} e f c = subst (λ (k : Inode). ChangesOwned p v k old new) f (subst (λ (k : Inode). ChangesOwned p k w old new) e c)

-- what the inode owns in new is what it owns in mid, and the bitmaps and the data are the same
pub owned_on : {p : Geometry} {v w : Inode} {old mid new : SectorMap} → IsGeometry p → IsOwnedApart p old v → ChangesOwned p v w old mid
    → HasWholeTables p new
    → ((s : ℕ) → p.first_data ≤ s → new s ≡ mid s) → ((s : ℕ) → s < map_bits p → bit new p.block_bitmap s ≡ bit mid p.block_bitmap s)
    → ChangesOwned p v w old new
owned_on {p} {v} {w} {old} {mid} {new} geometry apart c tables same bits =
    let keeps : Keeps mid new w = λ s o. same s ((apart_after geometry apart c).each s o).0 in
    record {
      sectors = tables;
      whole = λ s o. let was = owned_before keeps o in subst IsSector (sym (keeps s was)) (c.whole s was);
      others = λ s ge lt used ban. same s ge ∙ c.others s ge lt used ban;
      fresh = λ s o. c.fresh s (owned_before keeps o);
      once = λ s a b. c.once s (owned_before keeps a) (owned_before keeps b);
      taken = λ s fits o. bits s fits ∙ c.taken s fits (owned_before keeps o);
      released = λ s fits t e. c.released s fits t (sym (bits s fits) ∙ e);
      gained = λ s fits t e. owns_still keeps (c.gained s fits (sym (bits s fits) ∙ t) e);
      stayed = λ s fits t o. owns_still keeps (c.stayed s fits (sym (bits s fits) ∙ t) o);
    }

-- an inode's sectors change, and it is saved: one inode changes
pub saved : {p : Geometry} {n : ℕ} {v w : Inode} {old mid new : SectorMap} → IsGeometry p → n < p.inodes → inode_at p old n ≡ v
    → IsOwnedApart p old v → FitsInode w
    → ChangesBlocks p v w old mid → Saves p n w mid new → IsSaved p n w old mid new
saved {p} {n} {v} {w} {old} {mid} {new} geometry lt at apart fits x y =
    let tables : HasWholeTables p mid = x.owned.sectors in
    let now : inode_at p new n ≡ w = inode_saved geometry lt fits tables y in
    let same : (s : ℕ) → p.first_data ≤ s → new s ≡ mid s = data_saved geometry lt fits tables y in
    let below : (s : ℕ) → s < p.table → new s ≡ mid s = below_saved geometry lt fits tables y in
    let bits : (s : ℕ) → s < map_bits p → bit new p.block_bitmap s ≡ bit mid p.block_bitmap s =
    λ s low. bit_kept mid new p.block_bitmap s (below (p.block_bitmap + s / 4096) (in_block_map p s low).1) in
    let after : IsOwnedApart p mid w = apart_after geometry apart x.owned in
    let inode_map : (s : ℕ) → IsInodeMap p s → new s ≡ old s = λ s i.
    let past = i.1 in let m = after_map geometry in let t = before_data geometry in
    below s (omega (arith, past, m)) ∙ x.low s (omega (arith, past, m, t)) (λ b. let from = b.0 in omega (arith, past, from)) in
    record {
      changes = record {
        owned = owned_at (sym at) (sym now) (owned_on geometry apart x.owned (tables_saved geometry lt fits tables y) same bits);
        valid = valid_saved geometry lt fits tables y;
        table = λ m less ne. stored_other geometry lt fits tables y m ne
            ∙ stored_kept p m old mid (let i = in_table p m geometry less in x.low (p.table + m / 4) i.1 (λ b. let k = b.1 in omega (arith, k)));
        inode_bits = λ m few ne. inode_bit_kept p old new m few inode_map;
      };
      is = now;
      keeps = λ s o. same s (after.each s o).0;
      inode_bits = λ m few. inode_bit_kept p old new m few inode_map;
      free = free_sectors_kept p mid new (λ s d. bits s (has_bit geometry s d.1));
    }
