-- What an image stands for rests on what it reads as after recovery: superblock, tables and used data sectors. So it rests
-- on the superblock, the commit sector with its log, and the sectors from the bitmaps on.
use Rattle.std.specs.Prelude.{◌≡◌, ℕ, ◌<◌, ◌≤◌}
use Rattle.std.proofs.Common.{sym, ap, subst, arith, ◌∙◌}
use Rattle.fs_layout.specs.Bytes.{SectorMap}
use Rattle.fs_layout.specs.Header.{header_of, log_end}
use Rattle.fs_layout.specs.Recovered.{recovered}
use Rattle.fs_layout.proofs.Agree.{same_agrees, agree_free_sectors}
use Rattle.fs_layout.proofs.Places.{geometry_is_laid_out, is_a_geometry}
use Rattle.fs_layout.proofs.RecoveryLaw.{log_there, recovered-alike, recovered-super, valid_alike}
use Rattle.fs_model.specs.Trees.{Tree, Room}
use Rattle.fs_model.specs.Stands.{placed, Stands}
use Rattle.fs_model.specs.Laws.{ReadsAlike, SaysSame}
use Rattle.fs_model.proofs.Frame.{agreed}

pub standing_rests_on_reading : (sectors : ℕ) (old new : SectorMap) (room : Room) (t : Tree) (free : ℕ) → (stands : Stands sectors old room t free)
    → ReadsAlike sectors stands.geometry old new → Stands sectors new room t free
standing_rests_on_reading sectors old new room t free x alike = record {
  super = x.super;
  geometry = x.geometry;
  super_is = sym (recovered-super sectors new) ∙ alike.super ∙ recovered-super sectors old ∙ x.super_is;
  super_fits = x.super_fits;
  same_size = x.same_size;
  has_geometry = x.has_geometry;
  commit_is = alike.commit;
  room_is = x.room_is;
  holds = agreed x.geometry (recovered sectors old) (recovered sectors new) (placed t) x.holds alike.rest;
  tree_is = x.tree_is;
  free_is = x.free_is ∙ sym (agree_free_sectors x.holds.consistent alike.rest);
}

pub standing_rests : (sectors : ℕ) (old new : SectorMap) (room : Room) (t : Tree) (free : ℕ) → SaysSame sectors old new
    → Stands sectors old room t free → Stands sectors new room t free
standing_rests sectors old new room t free same x =
    let p = x.geometry in
    let size : p.sectors ≡ sectors = ap (λ q. q.sectors) (geometry_is_laid_out sectors x.super.inodes x.has_geometry) in
    let geometry = is_a_geometry _ _ sectors x.super.inodes x.has_geometry in
    let log : log_end (header_of (old 0)) ≡ p.inode_bitmap = log_there x.super (old 0) sectors x.super_fits x.super_is x.has_geometry in
    let each : (s : ℕ) → p.inode_bitmap ≤ s → s < p.sectors → recovered sectors new s ≡ recovered sectors old s =
    λ s past low.
    recovered-alike sectors old new s (ap header_of same.super) same.commit same.header same.log
    (same.others s (subst (λ n. n ≤ s) (sym log) past) (omega (arith, low, size))) in
    standing_rests_on_reading sectors old new room t free x (record {
      commit = valid_alike sectors old new (ap header_of same.super) same.commit same.header x.commit_is;
      super = recovered-super sectors new ∙ same.super ∙ sym (recovered-super sectors old);
      rest = same_agrees geometry each;
    })
