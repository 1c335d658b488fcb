use Rattle.std.proofs.Common.{◌≤◌, ℕ, List, length, take, ap, subst, arith}
use Rattle.std.specs.Prelude.{replicate, Err}
use Rattle.std.proofs.lemmas.List.{length-take, length-replicate}
use Rattle.fs_layout.specs.declared.inode.Inode.{Inode}
use Rattle.fs_layout.specs.Images.{Owns}
use Rattle.fs_layout.proofs.Consistent.{owned_is_apart}
use Rattle.fs_layout.proofs.Places.{after_map, before_data}
use Rattle.block_map.proofs.Joins.{sound_after_reads}
use Rattle.block_map.proofs.Wrote.{put_few}
use Rattle.storage_tests.proofs.tests.blocks.perform.Goals as goal

pub read_at-requires : goal.read_at-requires
read_at-requires g c =
    let sound = c.in_ok-inode.ensures.sound in
    let mid = g.S.Sectors.state c.load_file.new.s in
    record {
      within = λ s o.
          let d = (owned_is_apart sound.consistent c.args.ino c.requires.below).each s (subst (λ (u : Inode). Owns mid.sectors u s) c.in_ok-inode.ensures.found o) in
          let m = after_map sound.bitmaps.geometry in
          let b = before_data sound.bitmaps.geometry in
          let k = sound.bitmaps.disk in
          (omega (arith, d.0, m, b), omega (arith, d.1, k));
    }

pub returns-in_ok-read_at-in-Read : goal.returns-in_ok-read_at-in-Read
returns-in_ok-read_at-in-Read g c = record { sound = sound_after_reads c.in_ok-inode.ensures.sound c.in_ok-read_at-in-Read.ensures.same }

pub write_at-requires-clause-spare : goal.write_at-requires-clause-spare
write_at-requires-clause-spare g c =
    let bytes : List ℕ = take c.in-Write.len (replicate 4096 7) in
    let few : length bytes ≤ 4096 = omega (arith, length-take {A = ℕ} c.in-Write.len (replicate 4096 7), length-replicate {A = ℕ} 4096 7) in
    omega (arith, put_few c.in-Write.offset (length bytes) few, c.in_ok-inode.ensures.spare)

pub overwrite_direct-requires-clause-spare : goal.overwrite_direct-requires-clause-spare
overwrite_direct-requires-clause-spare g c = omega (arith, c.in_ok-inode.ensures.spare)

pub set_size-requires-clause-spare : goal.set_size-requires-clause-spare
set_size-requires-clause-spare g c = omega (arith, c.in_ok-inode.ensures.spare)

pub release_all-requires-clause-spare : goal.release_all-requires-clause-spare
release_all-requires-clause-spare g c = omega (arith, c.in_ok-inode.ensures.spare)

pub returns-in-Err-TooBig : goal.returns-in-Err-TooBig
returns-in-Err-TooBig g c =
    let e = c.in-Err-TooBig.ensures in
    record { sound = sound_after_reads c.in_ok-inode.ensures.sound (e.untouched (e.too_big.0 (ap (λ x. Err x) c.in-Err-TooBig.field-0-is))) }

pub returns-in-Err-TooBig-set_size : goal.returns-in-Err-TooBig-set_size
returns-in-Err-TooBig-set_size g c =
    let e = c.in-Err-TooBig-set_size.ensures in
    record { sound = sound_after_reads c.in_ok-inode.ensures.sound (e.untouched (e.too_big.0 (ap (λ x. Err x) c.in-Err-TooBig-set_size.field-0-is))) }

pub returns-else-free-wanted : goal.returns-else-free-wanted
returns-else-free-wanted g c = record { sound = sound_after_reads c.in_ok-inode.ensures.sound c.in_ok-free-in-HasFree.ensures.same }
