-- A name that goes from its directory, and what has a name less.
--     touches_after, names_changed        a change of one inode, since before a read
--     taken_after, taken_none, taken_joined        how many sectors were put
--     name_removed, not_removed        what dir_core promises of a name that goes
--     attributes_fit, counted_fits        other attributes fit an inode
use Rattle.std.specs.Prelude.{◌≡◌, ◌≢◌, ℕ, ◌+◌, ◌<◌, ◌≤◌, List, None, ◌^◌}
use Rattle.std.proofs.Common.{refl, sym, arith, subst, ◌∙◌}
use Rattle.sector_disk.specs.Disk.{DiskState, HasFailed}
use Rattle.sector_disk.proofs.Moments.{failed_later}
use Rattle.fs_layout.specs.declared.inode.Inode.{Inode}
use Rattle.fs_layout.specs.declared.inode.Kind.TheVariants as kinds
use Rattle.fs_layout.specs.declared.geometry.Geometry.{Geometry}
use Rattle.fs_layout.specs.Bytes.{SectorMap}
use Rattle.fs_layout.specs.InodeChanges.{ChangesInode}
use Rattle.fs_layout.specs.Directories.{HasNames}
use Rattle.fs_layout.specs.Images.{bit, free_sectors, inode_at}
use Rattle.fs_layout.specs.Inode.{FitsInode, inode_fits}
use Rattle.fs_layout.specs.Maps.{name_cmp, get, without}
use Rattle.fs_layout.proofs.UsedInodes.{used_fits, blocks_fit, times_fit}
use Rattle.sector_txn.specs.Sectors.{TxnState, IsUnchanged}
use Rattle.bit_alloc.specs.Inodes.{Touches, KeepsFields, KeepsAcls}
use Rattle.sector_txn.proofs.TransactionRuns.{lacking_less}
use Rattle.bit_alloc.specs.Room.{bitmaps, TakesSpare}
use Rattle.bit_alloc.proofs.Transactions.{puts_after}
use Rattle.block_map.specs.Contents.{ChangesContent}
use Rattle.dir_core.specs.declared.fault.DirFault.{DirFault}
use Rattle.dir_core.specs.declared.fault.DirFault.TheVariants as faults
use Rattle.dir_core.specs.Faults.{WhyNotChanged}
use Rattle.path_walk.proofs.Kept.{kept, kept_back}
use Rattle.call_parts.specs.Dropping.{RemovesName}
use Rattle.call_parts.specs.Given.{ChangesNames}
use Rattle.call_parts.specs.NewNodes.{HasName}
use Rattle.path_walk.specs.Answers.{FailsToRead}
use Rattle.fs_cred.specs.declared.errno.Errno.TheVariants.{EIO}
use Rattle.fs_cred.specs.declared.refusal.Refusal.TheVariants.{Failed}

-- ---- since before a read

pub touches_after : {p : Geometry} {n taken more : ℕ} {old mid new : TxnState} → IsUnchanged old mid → Touches p n taken more mid new → Touches p n taken more old new
touches_after {p} {n} {taken} {more} {old} {mid} {new} same touches = record {
  puts = puts_after same touches.puts;
  super = touches.super ∙ same.sectors 0;
  inode = kept_back (λ (m : SectorMap). ChangesInode p n m new.sectors) same touches.inode;
  free = kept_back (λ (m : SectorMap). free_sectors p m ≤ free_sectors p new.sectors + taken) same touches.free;
}

pub names_changed : {p : Geometry} {dir_ino taken more : ℕ} {f : List (List ℕ × ℕ) → List (List ℕ × ℕ)} {old mid new : TxnState} {v w : Inode} → IsUnchanged old mid
    → v ≡ inode_at p old.sectors dir_ino → ChangesContent p dir_ino taken more mid new v w
    → ((names : List (List ℕ × ℕ)) → HasNames p.version mid.sectors v names → HasNames p.version new.sectors w (f names))
    → ChangesNames p dir_ino f old.sectors new.sectors
names_changed {p} {dir_ino} {taken} {more} {f} {old} {mid} {new} {v} {w} same is c says = record {
  super = c.touches.super ∙ same.sectors 0;
  change = kept_back (λ (m : SectorMap). ChangesInode p dir_ino m new.sectors) same c.touches.inode;
  used = kept_back (λ (m : SectorMap). bit new.sectors p.inode_bitmap dir_ino ≡ bit m p.inode_bitmap dir_ino) same c.used;
  kept = subst (λ (u : Inode). KeepsFields u (inode_at p new.sectors dir_ino)) is (subst (KeepsFields v) (sym c.now) c.fields);
  acls = kept_back (λ (m : SectorMap). KeepsAcls m new.sectors (inode_at p old.sectors dir_ino) (inode_at p new.sectors dir_ino)) same
      (subst (λ (u : Inode). KeepsAcls mid.sectors new.sectors u (inode_at p new.sectors dir_ino)) is (subst (KeepsAcls mid.sectors new.sectors v) (sym c.now) c.acls));
  named = λ names has.
      subst (λ (u : Inode). HasNames p.version new.sectors u (f names)) (sym c.now)
      (says names (kept (λ (m : SectorMap). HasNames p.version m v names) same (subst (λ (u : Inode). HasNames p.version old.sectors u names) (sym is) has)));
}

-- what was put, since before a read
pub taken_after : (p : Geometry) (more : ℕ) {old mid : TxnState} (new : TxnState) → IsUnchanged old mid → TakesSpare p more mid new → TakesSpare p more old new
taken_after p more {old} {mid} new same taken =
    let room = same.room in
    let lacks = lacking_less old mid (λ k has. same.delta k ∙ has) (bitmaps p) in
    omega (arith, taken, room, lacks)

-- reads put nothing
pub taken_none : (p : Geometry) (more : ℕ) {old new : TxnState} → IsUnchanged old new → TakesSpare p more old new
taken_none p more {old} {new} same =
    let room = same.room in
    let lacks = lacking_less old new (λ k has. same.delta k ∙ has) (bitmaps p) in
    omega (arith, room, lacks)

-- by one call after another
pub taken_joined : (p : Geometry) (first then more : ℕ) (old mid new : TxnState) → first + then ≤ more → TakesSpare p first old mid → TakesSpare p then mid new
    → TakesSpare p more old new
taken_joined p first then more old mid new fits one two = omega (arith, fits, one, two)

-- ---- the name goes from its directory

pub name_removed : {p : Geometry} {dir_ino : ℕ} {name : List ℕ} {old mid new : TxnState} {v w : Inode} → IsUnchanged old mid → v ≡ inode_at p old.sectors dir_ino
    → ChangesContent p dir_ino 0 5 mid new v w
    → ((names : List (List ℕ × ℕ)) → HasNames p.version mid.sectors v names → (get name_cmp names name ≢ None) × HasNames p.version new.sectors w (without name_cmp names name))
    → RemovesName p dir_ino name old new
name_removed same is c says = record {
  sound = c.sound;
  touches = touches_after same c.touches;
  names = names_changed same is c (λ names has. (says names has).1);
}

-- a change of a name that is there fails only where the disk does
pub not_removed : (names : List (List ℕ × ℕ)) (name : List ℕ) (old new : DiskState) (e : DirFault) → get name_cmp names name ≢ None → WhyNotChanged names name e
    → (e ≡ faults.DiskFault → HasFailed old new) → HasFailed old new
not_removed names name old new faults.Exists there why failed = absurd why
not_removed names name old new faults.Full there why failed = absurd why
not_removed names name old new faults.Absent there why failed = absurd (there why)
not_removed names name old new faults.DiskFault there why failed = failed refl
not_removed names name old new faults.OutOfMemory there why failed = absurd why

-- since before the directory was read
pub fails_to_change : (p : Geometry) (dir_ino : ℕ) (name : List ℕ) {old mid : TxnState} {v : Inode} (new : DiskState) (e : DirFault) → HasName p old.sectors dir_ino name → IsUnchanged old mid
    → v ≡ inode_at p old.sectors dir_ino → ((names : List (List ℕ × ℕ)) → HasNames p.version mid.sectors v names → WhyNotChanged names name e)
    → (e ≡ faults.DiskFault → HasFailed mid.disk new) → FailsToRead old.disk new (Failed EIO)
fails_to_change p dir_ino name {old} {mid} {v} new e named same is why failed = (
  refl,
  failed_later old.disk mid.disk new same.store.reads.failures
      (not_removed named.0 name mid.disk new e named.2
      (why named.0 (kept (λ (m : SectorMap). HasNames p.version m v named.0) same (subst (λ (u : Inode). HasNames p.version old.sectors u named.0) (sym is) named.1))) failed),
)

-- ---- other attributes

pub attributes_fit : (v : Inode) (uid gid names parent : ℕ) → FitsInode v → v.kind ≢ kinds.Free → uid < 2 ^ 32 → gid < 2 ^ 32 → names < 2 ^ 32 → parent < 2 ^ 32
    → FitsInode (record v { uid = uid; gid = gid; names = names; parent = parent })
unfolding inode_fits
attributes_fit v uid gid names parent fits used owner group count up =
    used_fits used fits.valid.numbers fits.mode owner group count fits.size up fits.acl fits.default_acl (blocks_fit fits) (times_fit fits)

pub counted_fits : (v : Inode) (names : ℕ) → FitsInode v → v.kind ≢ kinds.Free → names < 2 ^ 32 → FitsInode (record v { names = names })
counted_fits v names fits used few = attributes_fit v v.uid v.gid names v.parent fits used fits.uid fits.gid few fits.parent
