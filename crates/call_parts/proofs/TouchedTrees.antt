-- The image, after times have moved.
--     below_at        one of several inode numbers
--     times_differ, times_fit_then        an inode with times that have moved may be saved
--     free_held, used_held        after those of one inode have
--     HasTouched, touching_begun, touching_on, touching_done        after those of several have, one after another
--     untouched        a disk that keeps no times
use Rattle.std.specs.Prelude.{◌≡◌, ◌≢◌, ℕ, zero, suc, ◌+◌, ◌<◌, ◌^◌, Bool, true, false, List, [], ◌∷◌, length, get_or, take, Option, None, Some, if◌then◌else◌}
use Rattle.std.proofs.Common.{refl, sym, ap, arith, ◌∙◌, subst}
use Rattle.std.proofs.lemmas.List.{take_more}
use Rattle.std.proofs.Math.Seq.{take-length}
use Rattle.std.specs.Option.{option_map}
use Rattle.fs_layout.specs.declared.geometry.Geometry.{Geometry}
use Rattle.fs_layout.specs.declared.inode.Inode.{Inode}
use Rattle.fs_layout.specs.declared.inode.Kind.TheVariants as kinds
use Rattle.fs_layout.specs.Bytes.{SectorMap}
use Rattle.fs_layout.specs.Images.{inode_at}
use Rattle.fs_layout.specs.Inode.{FitsInode, inode_fits}
use Rattle.fs_layout.specs.Version.{keeps_times}
use Rattle.fs_layout.proofs.UsedInodes.{FitsTimes, used_fits, blocks_fit}
use Rattle.sector_txn.specs.Sectors.{TxnState, SameStore, IsUnchanged}
use Rattle.sector_txn.proofs.TransactionRuns.{store_joined}
use Rattle.bit_alloc.specs.Inodes.{IsSound}
use Rattle.bit_alloc.specs.Room.{TakesSpare}
use Rattle.bit_alloc.proofs.Transactions.{unchanged_nothing}
use Rattle.inode_table.specs.Inodes.{DiffersInAttributes}
use Rattle.fs_model.specs.declared.reply.Stamps.{Stamps}
use Rattle.fs_model.specs.declared.touch.Touch.{Touch}
use Rattle.fs_model.specs.declared.touch.Touch.TheVariants.{Untouched, Changed, Modified, Born}
use Rattle.fs_model.specs.Nodes.{Node}
use Rattle.fs_model.specs.Stands.{HoldsPlaced, HoldsAll, placed}
use Rattle.fs_model.specs.StoredNodes.{Placed}
use Rattle.fs_model.specs.StoredStamps.{stamps_in}
use Rattle.fs_model.specs.Trees.{Tree, node_at, names_of, parent}
use Rattle.fs_model.specs.TreeChanges.{touch_at, touch_one, touched, restamped}
use Rattle.fs_model.proofs.OneNode.{body_not_free}
use Rattle.fs_model.proofs.PlacedStamps.{touched_held}
use Rattle.fs_model.proofs.Restamps.{absent_stays, touched-append}
use Rattle.path_walk.proofs.Kept.{kept}
use Rattle.call_parts.specs.Times.{with_times, SavesTimes, AreBelow, MovesTimes}
use Rattle.call_parts.proofs.HeldChanges.{times_held}

-- one of several
pub below_at : {inodes : ℕ} (touches : List (ℕ × Touch)) (k : ℕ) (d : ℕ × Touch) → AreBelow inodes touches → k < length touches → (get_or touches k d).0 < inodes
below_at [] k d below lt = absurd (omega (arith, lt))
below_at (e ∷ es) zero d below lt = below.0
below_at (e ∷ es) (suc k) d below lt = below_at es k d below.1 (omega (arith, lt))

-- ---- one inode is saved

pub times_differ : (old v w : Inode) (x : Stamps) → v ≡ old → w ≡ with_times v x → DiffersInAttributes old w
times_differ old v w x same is = subst (λ (u : Inode). DiffersInAttributes old u) (sym (is ∙ ap (λ (u : Inode). with_times u x) same)) refl

moved_fit : (time : ℕ) (touch : Touch) (v : Inode) → time < 2 ^ 64 → FitsInode v
    → FitsTimes (touch_at time touch (stamps_in v)).mtime (touch_at time touch (stamps_in v)).ctime (touch_at time touch (stamps_in v)).atime
unfolding stamps_in
moved_fit time Untouched v small fits = record { mtime_small = fits.mtime; ctime_small = fits.ctime; atime_small = fits.atime }
moved_fit time Changed v small fits = record { mtime_small = fits.mtime; ctime_small = small; atime_small = fits.atime }
moved_fit time Modified v small fits = record { mtime_small = small; ctime_small = small; atime_small = fits.atime }
moved_fit time Born v small fits = record { mtime_small = small; ctime_small = small; atime_small = small }

pub times_fit_then : (time : ℕ) (touch : Touch) (v w : Inode) → w ≡ with_times v (touch_at time touch (stamps_in v)) → time < 2 ^ 64 → FitsInode v → v.kind ≢ kinds.Free → FitsInode w
unfolding inode_fits
times_fit_then time touch v w is small fits used = subst FitsInode (sym is) last
  where
    last : FitsInode (with_times v (touch_at time touch (stamps_in v)))
    last =
        used_fits used fits.valid.numbers fits.mode fits.uid fits.gid fits.names fits.size fits.parent fits.acl fits.default_acl (blocks_fit fits)
        (moved_fit time touch v small fits)

-- ---- the times of one inode move

module _ (p : Geometry) (time n : ℕ) (touch : Touch) (t : Tree) where
  abbrev put : Node → Placed
  put node = record { node = node; names = names_of t n; parent = parent t n }

  held_at : (map : SectorMap) → HoldsAll p map (placed t) → n < p.inodes → (o : Option Node) → node_at t n ≡ o → HoldsPlaced p map n (option_map put o)
  held_at map held below o e = subst (λ (q : Option Node). HoldsPlaced p map n (option_map put q)) e (held.nodes n below)

  -- nothing stands at a free inode
  pub free_held : (map : SectorMap) → HoldsAll p map (placed t) → n < p.inodes → (inode_at p map n).kind ≡ kinds.Free
      → HoldsAll p map (placed (restamped (touch_one time (n, touch)) t))
  free_held map held below free = go (node_at t n) refl
    where
      go : (o : Option Node) → node_at t n ≡ o → HoldsAll p map (placed (restamped (touch_one time (n, touch)) t))
      go None e = subst (λ (u : Tree). HoldsAll p map (placed u)) (sym (absent_stays time (n, touch) t e)) held
      go (Some node) e = absurd (body_not_free p.version map (inode_at p map n) node.body (held_at map held below (Some node) e).body free)

  -- another is saved with its times
  pub used_held : {old new : TxnState} → HoldsAll p old.sectors (placed t) → n < p.inodes → (inode_at p old.sectors n).kind ≢ kinds.Free → SavesTimes p time n touch old new
      → HoldsAll p new.sectors (placed (restamped (touch_one time (n, touch)) t))
  used_held {old} {new} held below used saves = go (node_at t n) refl
    where
      go : (o : Option Node) → node_at t n ≡ o → HoldsAll p new.sectors (placed (restamped (touch_one time (n, touch)) t))
      go None e = absurd (used (ap (λ (v : Inode). v.kind) (held_at old.sectors held below None e)))
      go (Some node) e =
          touched_held time n touch t node e p old.sectors new.sectors held below saves.touches.inode saves.used
          (times_held old.sectors new.sectors (inode_at p old.sectors n) (inode_at p new.sectors n) (put node) (held_at old.sectors held below (Some node) e)
          time touch saves.saved saves.bytes saves.acls)

  -- since before it was read
  pub used_held_after : {old mid new : TxnState} → IsUnchanged old mid → HoldsAll p old.sectors (placed t) → n < p.inodes → (inode_at p mid.sectors n).kind ≢ kinds.Free
      → SavesTimes p time n touch mid new → HoldsAll p new.sectors (placed (restamped (touch_one time (n, touch)) t))
  used_held_after {old} {mid} {new} same held below used saves =
      used_held {old = mid} {new = new} (kept (λ (m : SectorMap). HoldsAll p m (placed t)) same held) below used saves

-- ---- several, one after another

-- after the first k of them
pub record HasTouched (p : Geometry) (time k : ℕ) (touches : List (ℕ × Touch)) (old new : TxnState) : Type 0 where
  pub store : SameStore old new
  pub super : new.sectors 0 ≡ old.sectors 0
  pub sound : IsSound p new
  pub taken : TakesSpare p k old new
  pub held : (t : Tree) → HoldsAll p old.sectors (placed t) → HoldsAll p new.sectors (placed (touched time (take k touches) t))

pub touching_begun : {p : Geometry} {time : ℕ} {touches : List (ℕ × Touch)} {txn : TxnState} → IsSound p txn → HasTouched p time 0 touches txn txn
touching_begun sound = record {
  store = unchanged_nothing.store;
  super = refl;
  sound = sound;
  taken = omega arith;
  held = λ t held. held;
}

pub touching_on : {p : Geometry} {time k : ℕ} {touches : List (ℕ × Touch)} {old mid new : TxnState} (d : ℕ × Touch) → k < length touches → HasTouched p time k touches old mid
    → SameStore mid new → new.sectors 0 ≡ mid.sectors 0 → IsSound p new → TakesSpare p 1 mid new
    → ((t : Tree) → HoldsAll p mid.sectors (placed t) → HoldsAll p new.sectors (placed (restamped (touch_one time (get_or touches k d)) t)))
    → HasTouched p time (k + 1) touches old new
touching_on {p} {time} {k} {touches} {old} {mid} {new} d lt h store super sound taken held = record {
  store = store_joined h.store store;
  super = super ∙ h.super;
  sound = sound;
  taken = (let a = h.taken in let b = taken in omega (arith, a, b));
  held = λ t first.
      subst (λ (u : Tree). HoldsAll p new.sectors (placed u))
      (sym (ap (λ es. touched time es t) (take_more touches k d lt) ∙ touched-append time (take k touches) (get_or touches k d ∷ []) t))
      (held (touched time (take k touches) t) (h.held t first));
}

-- on a disk that keeps them
pub touching_done : {p : Geometry} {time k : ℕ} {touches : List (ℕ × Touch)} {old new : TxnState} → keeps_times p.version ≡ true → k ≡ length touches → HasTouched p time k touches old new
    → MovesTimes p time touches old new
touching_done {p} {time} {k} {touches} {old} {new} keeps all h = record {
  store = h.store;
  super = h.super;
  held = λ t held.
      subst (λ (es : List (ℕ × Touch)). HoldsAll p new.sectors (placed (touched time es t)))
      (ap (λ j. take j touches) all ∙ take-length touches ∙ ap (λ (b : Bool). if b then touches else []) (sym keeps)) (h.held t held);
}

-- and on one that keeps none
pub untouched : {p : Geometry} {time : ℕ} {touches : List (ℕ × Touch)} {txn : TxnState} → keeps_times p.version ≡ false → MovesTimes p time touches txn txn
untouched {p} {time} {touches} {txn} keeps = record {
  store = unchanged_nothing.store;
  super = refl;
  held = λ t held. subst (λ (es : List (ℕ × Touch)). HoldsAll p txn.sectors (placed (touched time es t))) (ap (λ (b : Bool). if b then touches else []) (sym keeps)) held;
}
