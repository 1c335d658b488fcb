-- What runs of reads and puts leave of a transaction, of its bitmaps, and of its room.
use Rattle.std.proofs.Common.{◌≡◌, ℕ, refl, sym, subst, ◌∙◌, arith, inl, inr, ⊎_elim, List, ap}
use Rattle.fs_layout.specs.Header.{log_end}
use Rattle.fs_layout.specs.declared.geometry.Geometry.{Geometry}
use Rattle.sector_txn.specs.Sectors.{TxnState, IsUnchanged, PutsOnly}
use Rattle.sector_txn.proofs.TransactionRuns.{store_same, store_joined, lacking_less}
use Rattle.bit_alloc.specs.Bitmaps.{HasRestSet, HasBitmaps}
use Rattle.bit_alloc.specs.Room.{bitmaps, HasSpare}
use Rattle.fs_layout.specs.Images.{HasWholeTables}

-- ---- where nothing is put
-- before the first call
pub unchanged_nothing : {txn : TxnState} → IsUnchanged txn txn
unchanged_nothing = record { store = store_same; sectors = λ n. refl; delta = λ n. refl; room = refl }

-- one run after another
pub unchanged_joined : {old mid new : TxnState} → IsUnchanged old mid → IsUnchanged mid new → IsUnchanged old new
unchanged_joined first then = record {
  store = store_joined first.store then.store;
  sectors = λ n. then.sectors n ∙ first.sectors n;
  delta = λ n. then.delta n ∙ first.delta n;
  room = then.room ∙ first.room;
}

-- the map is the same
pub map_unchanged : {old new : TxnState} → IsUnchanged old new → old.sectors ≡ new.sectors
map_unchanged same = λ i n. sym (same.sectors n) i

-- the bitmaps are
pub bitmaps_unchanged : (p : Geometry) (old new : TxnState) → HasBitmaps p old → IsUnchanged old new → HasBitmaps p new
bitmaps_unchanged p old new has same = record {
  geometry = has.geometry;
  disk = omega (arith, has.disk, same.store.reads.narrowed.size);
  header = omega (arith, has.header, ap log_end same.store.header);
  tables = subst (HasWholeTables p) (map_unchanged same) has.tables;
  rest = subst (HasRestSet p) (map_unchanged same) has.rest;
}

-- and the room
pub spare_unchanged : (p : Geometry) (k : ℕ) (old new : TxnState) → HasSpare p k old → IsUnchanged old new → HasSpare p k new
spare_unchanged p k old new spare same = omega (arith, spare, same.room, lacking_less old new (λ m has. same.delta m ∙ has) (bitmaps p))

-- puts that follow
pub puts_after : {R : ℕ → Type 0} {shared : List ℕ} {more : ℕ} {old mid new : TxnState} → IsUnchanged old mid → PutsOnly R shared more mid new → PutsOnly R shared more old new
puts_after {R} {shared} {more} {old} {mid} {new} same puts = record {
  store = store_joined same.store puts.store;
  others = λ n out. puts.others n out ∙ same.sectors n;
  delta = λ n has. ⊎_elim (λ was. inl (sym (same.delta n) ∙ was)) (λ here. inr here) (puts.delta n has);
  kept = λ n has. puts.kept n (same.delta n ∙ has);
  room = omega (arith, puts.room, same.room, lacking_less old mid (λ m has. same.delta m ∙ has) shared);
}
