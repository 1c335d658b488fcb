-- The map of a disk that stands for a tree is sound.
use Rattle.std.proofs.Common.{◌≡◌, ℕ, ◌<◌, ◌≤◌, length, Bool, true, false, ◌||◌, nat_eq, refl, sym, ap, subst, ◌∙◌, arith, inl, inr, ◌⊎◌, IsTrue}
use Rattle.std.specs.Prelude.{nat_le, Option, None, Some, is_some}
use Rattle.std.proofs.lemmas.Bool.{eq-eqb, le-leb, or_parts}
use Rattle.sector_disk.specs.Disk.{DiskState, sector}
use Rattle.fs_layout.specs.declared.geometry.Geometry.{Geometry}
use Rattle.fs_layout.specs.Bytes.{SectorMap}
use Rattle.fs_layout.specs.Header.{header_of, log_end}
use Rattle.fs_layout.specs.Geometry.{geometry_in}
use Rattle.fs_layout.specs.Inode.{free_inode}
use Rattle.fs_layout.specs.Images.{bit, inode_at, inode_map_bits}
use Rattle.fs_layout.specs.Ownership.{IsConsistent, Agrees}
use Rattle.fs_layout.specs.Recovered.{recovered}
use Rattle.fs_layout.proofs.Agree.{same_agrees, agree_consistent, agree_inode, agree_inode_bit, agree_block_bit}
use Rattle.fs_layout.proofs.Places.{geometry_is_laid_out, after_map}
use Rattle.fs_layout.proofs.RecoveryLaw.{log_there}
use Rattle.fs_layout.proofs.Bits.{inode_has_bit}
use Rattle.redo_journal.specs.Meaning.{SameMap, data_of}
use Rattle.redo_journal.proofs.Meaning.{data_super}
use Rattle.sector_txn.specs.Sectors.{TxnState}
use Rattle.bit_alloc.specs.Inodes.{IsSound}
use Rattle.bit_alloc.specs.declared.bitmap.Bitmap.TheVariants.{Inodes, Blocks}
use Rattle.bit_alloc.specs.Bitmaps.{HasRestSet, HasBitmaps}
use Rattle.bit_alloc.proofs.Soundness.{sound_from}
use Rattle.inode_table.specs.Inodes.{ClearAreFree}
use Rattle.fs_model.specs.StoredNodes.{Placed}
use Rattle.fs_model.specs.Stands.{HoldsAll, HoldsPlaced, placed}
use Rattle.fs_model.specs.Trees.{Tree, Room}
use Rattle.fs_images.specs.Standing.{StandsFor}
use Rattle.fs_system.specs.Sound.{IsSoundDisk}

-- ---- a map that holds nodes
module _ (p : Geometry) (image : SectorMap) (what : ℕ → Option Placed) (holds : HoldsAll p image what) where
  pub outside_set : (n : ℕ) → n < inode_map_bits p → (n ≡ 0) ⊎ (p.inodes ≤ n) → IsTrue (bit image p.inode_bitmap n)
  outside_set n low (inl none) = holds.inode_bits n low ∙ ap (λ b. b || nat_le p.inodes n || is_some (what n)) (eq-eqb n 0 none)
  outside_set n low (inr past) = holds.inode_bits n low ∙ either (nat_eq n 0) (nat_le p.inodes n) (is_some (what n)) (le-leb p.inodes n past)
    where
      either : (a b c : Bool) → b ≡ true → (a || b || c) ≡ true
      either true b c e = cc
      either false b c e = cc

  -- as a transaction that has put nothing shows it
  pub held_rest : (disk : DiskState) → p.sectors ≤ disk.size → HasRestSet p image
  held_rest disk size =
      let txn : TxnState = record { sectors = image; before = image; has_put = λ n. false; room = 64; header = 0; disk = disk } in
      (sound_from p txn holds.consistent size (let from = (after_map holds.consistent.geometry).0 in omega (arith, from)) outside_set).bitmaps.rest

  free_where_none : (n : ℕ) (o : Option Placed) → is_some o ≡ false → HoldsPlaced p image n o → inode_at p image n ≡ free_inode
  free_where_none n None none is = is
  free_where_none n (Some x) none is = absurd cc

  pub held_clear : ClearAreFree p image
  held_clear n low clear =
      let none = (or_parts (nat_eq n 0 || nat_le p.inodes n) (is_some (what n)) (sym (holds.inode_bits n (inode_has_bit holds.consistent.geometry n low)) ∙ clear)).1 in
      free_where_none n (what n) none (holds.nodes n low)

-- a disk that stands for a tree, whose size is the length of its image
pub standing_is_sound : (room : Room) (t : Tree) (free : ℕ) (disk : DiskState) → length disk.seen ≡ disk.size
    → (stands : StandsFor room disk.seen t free) → IsSoundDisk stands.geometry disk
standing_is_sound room t free disk len stands =
    let laid = geometry_is_laid_out (length disk.seen) stands.super.inodes stands.has_geometry in
    let sectors : length disk.seen ≡ stands.geometry.sectors = sym (ap (λ (q : Geometry). q.sectors) laid) in
    let inodes : stands.super.inodes ≡ stands.geometry.inodes = sym (ap (λ (q : Geometry). q.inodes) laid) in
    let holds : HoldsAll stands.geometry (data_of disk) (placed t) =
    subst (λ k. HoldsAll stands.geometry (recovered k (sector disk.seen)) (placed t)) len stands.holds in
    let size : stands.geometry.sectors ≤ disk.size = omega (arith, sectors, len) in
    record {
      has_geometry =
          ap (λ v. geometry_in v stands.geometry.header stands.geometry.sectors stands.geometry.inodes) (ap (λ (q : Geometry). q.version) laid)
          ∙ ap (λ h. geometry_in stands.super.version h stands.geometry.sectors stands.geometry.inodes) (ap (λ (q : Geometry). q.header) laid)
          ∙ ap (λ k. geometry_in stands.super.version stands.super.header k stands.geometry.inodes) (sym sectors)
          ∙ ap (geometry_in stands.super.version stands.super.header (length disk.seen)) (sym inodes)
          ∙ stands.has_geometry;
      sectors = size;
      log =
          let ends = log_there stands.super (data_of disk 0) (length disk.seen) stands.super_fits (data_super disk ∙ stands.super_is) stands.has_geometry in
          omega (arith, ends);
      consistent = holds.consistent;
      rest = held_rest stands.geometry (data_of disk) (placed t) holds disk size;
      clear = held_clear stands.geometry (data_of disk) (placed t) holds;
    }

-- ---- maps that agree from the bitmaps on
module _ (p : Geometry) (old new : SectorMap) (consistent : IsConsistent p old) (log : log_end (header_of (old 0)) ≤ p.inode_bitmap) (same : SameMap new old) where
  agrees : Agrees p old new
  agrees = same_agrees consistent.geometry (λ s past low. same s (inr (omega (arith, log, past))))

  pub consistent_same : IsConsistent p new
  consistent_same = agree_consistent consistent agrees

  pub rest_same : HasRestSet p old → HasRestSet p new
  rest_same rest Inodes n low ban = agree_inode_bit consistent agrees n low ∙ rest Inodes n low ban
  rest_same rest Blocks n low ban = agree_block_bit consistent agrees n low ∙ rest Blocks n low ban

  pub clear_same : ClearAreFree p old → ClearAreFree p new
  clear_same clear n low none =
      agree_inode consistent agrees n low ∙ clear n low (sym (agree_inode_bit consistent agrees n (inode_has_bit consistent.geometry n low)) ∙ none)

-- a transaction that shows a sound disk
pub shown_is_sound : (p : Geometry) (disk : DiskState) (txn : TxnState) → IsSoundDisk p disk → SameMap txn.sectors (data_of disk) → disk.size ≤ txn.disk.size
    → txn.header ≡ header_of (txn.sectors 0) → IsSound p txn × ClearAreFree p txn.sectors
shown_is_sound p disk txn sound same size header =
    let consistent = consistent_same p (data_of disk) txn.sectors sound.consistent sound.log same in
    let bitmaps : HasBitmaps p txn = record {
      geometry = consistent.geometry;
      disk = omega (arith, sound.sectors, size);
      header = omega (arith, ap log_end (header ∙ ap header_of (same 0 (inl refl))), sound.log);
      tables = consistent.sectors;
      rest = rest_same p (data_of disk) txn.sectors sound.consistent sound.log same sound.rest;
    } in
    (record { consistent = consistent; bitmaps = bitmaps }, clear_same p (data_of disk) txn.sectors sound.consistent sound.log same sound.clear)
