-- How jobs end, from what their parts say.
use Rattle.std.proofs.Common.{◌≡◌, ◌≤◌, arith, inl, inr, ℕ, List, None, Some, Option, Result, Ok, Err, refl, sym, ap, subst}
use Rattle.std.specs.Prelude.{OnOk, IsTrue, is_ok, if◌then◌else◌}
use Rattle.std.specs.Io.KnownBytes.{Appends}
use Rattle.sector_disk.specs.Disk.{DiskState}
use Rattle.fs_layout.specs.declared.geometry.Geometry.{Geometry}
use Rattle.fs_layout.specs.declared.version.Version.{Version}
use Rattle.fs_layout.specs.Geometry.{IsGeometry, laid_out, new_header, the_geometry}
use Rattle.fs_layout.proofs.Places.{geometry_is_laid_out, is_a_geometry, numbers_most}
use Rattle.fs_model.specs.States.{State}
use Rattle.fs_model.specs.declared.event.Event.TheVariants.{Sync}
use Rattle.fs_model.specs.declared.reply.Reply.{Reply}
use Rattle.fs_system.specs.Doing.{Does, HappensLast}
use Rattle.fs_images.specs.Making.{IsNewLayout, mkfs_refusal}
use Rattle.fs_system.specs.Playing.{HasDisk, IsConfig}
use Rattle.fs_system.specs.Histories.{Config, Up, Off}
use Rattle.fs_system.specs.Mounts.{Mounts}
use Rattle.fs_system.specs.Seen.{System, disk_in, IsIn}
use Rattle.fs_images.proofs.MakingRefusals.{geometry_or_too_small}
use Rattle.fs_system.proofs.Played.{seen_in, the_disk}
use Rattle.fs_shell.specs.Runs.{Ran}
use Rattle.fs_shell.specs.declared.answer.Count.{Count}
use Rattle.fs_shell.specs.Watching.{FailsWhere}
use Rattle.fs_shell.specs.declared.fault.RunFault.{RunFault}
use Rattle.fs_shell.specs.declared.fault.RunFault.TheVariants.{ReadFault, WriteFault}
use Rattle.fs_program.specs.Jobs.{RunsOn}
use Rattle.fs_program.specs.Tellings.{Tells}
use Rattle.fs_program.specs.Streams.{Reading, Writing}
use Rattle.fs_command.specs.declared.status.Status.{Status}
use Rattle.fs_command.specs.declared.status.Status.TheVariants.{Failed}

-- a line that was to be printed
pub tells : {E : Type 0} (w : Writing) (line : List ℕ) (outcome : Result (Unit {0}) E) (status told : Status)
    → OnOk outcome (Appends w.before w.after line) → told ≡ (if is_ok outcome then status else Failed) → Tells w line status (Ok told)
tells w line (Ok done) status told wrote is = inl (wrote, ap Ok is)
tells w line (Err e) status told wrote is = inr (ap Ok is)

-- ---- a layout

-- none is known where there is none
pub no_layout : (layout : Option Geometry) → ((geometry : Geometry) → layout ≡ Some geometry → ⊥) → layout ≡ None
no_layout None none = refl
no_layout (Some geometry) none = absurd (none geometry refl)

-- no disk has more sectors than the most of all versions
pub sectors_most : {geometry : Geometry} → IsNewLayout geometry → geometry.sectors ≤ 16777217
sectors_most {geometry} has =
    let most = (numbers_most (is_a_geometry geometry.version (new_header geometry.version geometry.sectors geometry.inodes) geometry.sectors geometry.inodes has)).0 in
    omega (arith, most)

-- a disk of so many sectors has it
pub placed : {geometry : Geometry} {size : ℕ} → IsNewLayout geometry → size ≡ geometry.sectors
    → the_geometry geometry.version size geometry.inodes ≡ Some geometry
placed {geometry} {size} has same = rw same has

-- where there is one, mkfs refuses nothing
pub refuses_nothing : (version : Version) (sectors inodes : ℕ) (geometry : Geometry) → the_geometry version sectors inodes ≡ Some geometry
    → mkfs_refusal version sectors inodes ≡ None
refuses_nothing version sectors inodes geometry has =
    let is : IsGeometry (laid_out version sectors inodes) =
    subst IsGeometry (geometry_is_laid_out sectors inodes has) (is_a_geometry version (new_header version sectors inodes) sectors inodes has) in
    (geometry_or_too_small version sectors inodes (record {
      size = record { least = is.least_sectors; most = is.most_sectors };
      least = is.least_inodes;
      most = is.most_inodes;
    }) (Some geometry) (sym has)).0

-- ---- runs

-- a disk was mounted, something ran on its file system, and that was unmounted: what holds of such states, from the first to the last
pub session : {D P : Type 0} (state : D → DiskState) (disk left : D) (first now : System D) (Runs : Config D → Config D → Type 0) (reply : Reply)
    → (m : (s : State) × IsIn state first s × Mounts (state disk) (disk_in state first.base) s)
    → ((c : Config D) → IsConfig state (Ok first) c → (d : Config D) × IsConfig state (Ok now) d × Runs c d)
    → HappensLast state now left Sync reply
    → ((start end : D) (t u : State) → Mounts (state disk) (state start) m.0 → Runs (Up m.0 start) (Up t end)
    → Does (state end) (state left) t Sync reply u → P) → P
session {D} {P} state disk left first now Runs reply m run last holds = ends end.0 end.1 end.2
  where
    there : (d : D) × HasDisk first.base d
    there = the_disk state first m.0 m.1

    end : (d : Config D) × IsConfig state (Ok now) d × Runs (Up m.0 there.0) d
    end = run (Up m.0 there.0) (there.1, m.1)

    ends : (d : Config D) → IsConfig state (Ok now) d → Runs (Up m.0 there.0) d → P
    ends (Off d) is runs = absurd is
    ends (Up t d) is runs =
        let done = last t is.1 in
        holds there.0 d t done.0 (seen_in state (λ x. Mounts (state disk) x m.0) first.base there.0 there.1 m.2) runs
        (seen_in state (λ x. Does x (state left) t Sync reply done.0) now.base d is.0 done.1)

-- a disk that was mounted, run on and unmounted
pub runs_on : {D : Type 0} (state : D → DiskState) (disk left : D) (first now : System D) (r : Reading) (w : Writing)
    (ran : Result Count RunFault) (reply : Reply)
    → (m : (s : State) × IsIn state first s × Mounts (state disk) (disk_in state first.base) s)
    → ((c : Config D) → IsConfig state (Ok first) c → (d : Config D) × IsConfig state (Ok now) d × Ran state r.input w.before w.after c d ran)
    → FailsWhere r.had_failed r.has_failed (ran ≡ Err ReadFault) → FailsWhere w.had_failed w.has_failed (ran ≡ Err WriteFault)
    → OnOk ran (IsTrue w.is_flushed) → HappensLast state now left Sync reply → RunsOn state disk r w ran reply
runs_on state disk left first now r w ran reply m run reads writes flushed last =
    session state disk left first now (λ c d. Ran state r.input w.before w.after c d ran) reply m run last (λ start end t u mounts runs unmounts. record {
      first = start;
      s = m.0;
      mounts = mounts;
      last = end;
      t = t;
      runs = runs;
      read_fault = reads;
      write_fault = writes;
      flushed = flushed;
      left = left;
      u = u;
      unmounts = unmounts;
    })
