use Rattle.std.proofs.Common.{rules, ◌≡◌, ◌≢◌, refl, sym, ap, ◌∙◌}
use Rattle.fs_layout.specs.declared.inode.Inode.{Inode}
use Rattle.fs_layout.specs.declared.inode.Kind.TheVariants as kinds
use Rattle.fs_layout.specs.Bytes.{SectorMap}
use Rattle.fs_layout.specs.Images.{inode_at}
use Rattle.sector_txn.proofs.TransactionRuns.{store_joined}
use Rattle.bit_alloc.proofs.Transactions.{puts_after, spare_unchanged}
use Rattle.fs_model.specs.Stands.{HoldsAll, placed}
use Rattle.fs_model.specs.StoredStamps.{stamps_in}
use Rattle.fs_model.specs.TreeChanges.{touch_at, touch_one, restamped}
use Rattle.path_walk.proofs.Kept.{kept, sound_kept}
use Rattle.call_parts.specs.Times.{with_times, SavesTimes}
use Rattle.call_parts.proofs.Alterings.{fails}
use Rattle.call_parts.proofs.Removed.{taken_none}
use Rattle.call_parts.proofs.TouchedTrees.{free_held, used_held_after, times_fit_then}
use Rattle.call_parts.proofs.changing.touch_inode.Goals as goal

pub load_with_content-requires : goal.load_with_content-requires
load_with_content-requires g c = record { sound = c.requires.ready.sound; below = c.requires.below }

pub returns-in_default : goal.returns-in_default
returns-in_default g c = let e = c.in_default.ensures in fails e.same.store (refl, e.cause.fault)

pub returns-then-eq : goal.returns-then-eq
returns-then-eq g c =
    let is_free : c.in-Ok.inode.kind ≡ kinds.Free = search rules in
    let same = c.in-Ok.ensures.same in
    record {
      store = same.store;
      sound = sound_kept same c.requires.ready.sound;
      taken = taken_none c.args.geometry 1 same;
      made = record {
        super = same.sectors 0;
        held = λ t held.
            kept (λ (m : SectorMap). HoldsAll c.args.geometry m (placed (restamped (touch_one c.args.now (c.args.ino, c.args.touch)) t))) same
            (free_held c.args.geometry c.args.now c.args.ino c.args.touch t (g.S.Sectors.state c.args.s.now).sectors held c.requires.below
            (sym (ap (λ (v : Inode). v.kind) c.in-Ok.ensures.found) ∙ is_free));
      };
      fault = tt;
    }

pub save_times-requires-clause-sound : goal.save_times-requires-clause-sound
save_times-requires-clause-sound g c = sound_kept c.in-Ok.ensures.same c.requires.ready.sound

pub save_times-requires-clause-fits : goal.save_times-requires-clause-fits
save_times-requires-clause-fits g c =
    let used : c.in-Ok.inode.kind ≢ kinds.Free = search rules in
    times_fit_then c.args.now c.args.touch c.in-Ok.inode c.with_touch-touched.result c.with_touch-touched.ensures c.ranges.now.fits c.in-Ok.ensures.fits used

pub save_times-requires-clause-spare : goal.save_times-requires-clause-spare
save_times-requires-clause-spare g c =
    spare_unchanged c.args.geometry 1 (g.S.Sectors.state c.args.s.now) (g.S.Sectors.state c.load_with_content.new.s) c.requires.ready.spare c.in-Ok.ensures.same

pub returns : goal.returns
returns g c =
    let used : c.in-Ok.inode.kind ≢ kinds.Free = search rules in
    let same = c.in-Ok.ensures.same in
    let e = c.save_times.ensures in
    let mid = g.S.Sectors.state c.load_with_content.new.s in
    let found : c.in-Ok.inode ≡ inode_at c.args.geometry mid.sectors c.args.ino = kept (λ (m : SectorMap). c.in-Ok.inode ≡ inode_at c.args.geometry m c.args.ino) same c.in-Ok.ensures.found in
    let saves : SavesTimes c.args.geometry c.args.now c.args.ino c.args.touch mid (g.S.Sectors.state c.save_times.new.s) = record {
      sound = e.sound;
      touches = e.touches;
      saved = e.saved ∙ c.with_touch-touched.ensures ∙ ap (λ (v : Inode). with_times v (touch_at c.args.now c.args.touch (stamps_in v))) found;
      bytes = e.bytes;
      acls = e.acls;
      used = e.used;
    } in
    record {
      store = store_joined same.store e.store;
      sound = e.sound;
      taken = (puts_after same e.touches.puts).room;
      made = record {
        super = e.touches.super ∙ same.sectors 0;
        held = λ t held.
            used_held_after c.args.geometry c.args.now c.args.ino c.args.touch t same held c.requires.below (λ free. used (ap (λ (v : Inode). v.kind) found ∙ free)) saves;
      };
      fault = tt;
    }
