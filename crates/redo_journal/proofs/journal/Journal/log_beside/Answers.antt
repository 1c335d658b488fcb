use Rattle.std.proofs.Common.{◌≡◌, ℕ, List, length, arith, sym, subst}
use Rattle.std.specs.Prelude.{Contains}
use Rattle.sector_disk.specs.Disk.{DiskState, LeavesOnly, sector}
use Rattle.sector_disk.proofs.Moments.{weaker}
use Rattle.redo_journal.specs.Batch.{Entry, targets}
use Rattle.redo_journal.specs.Meaning.{IsSpare, LeavesMapBut, LeavesSameMap, MeansUsed, data_of}
use Rattle.redo_journal.specs.States.{IsBeside, IsReady}
use Rattle.redo_journal.proofs.Entries.{length-targets}
use Rattle.redo_journal.proofs.Meaning.{header_sealed, super_on_disk, valid_with}
use Rattle.redo_journal.proofs.Used.{but_means}
use Rattle.redo_journal.proofs.journal.Journal.log_beside.Goals as goal

-- where only free sectors read otherwise, each image means what the disk shows
means : {D : Type 0} (state : D → DiskState) (sectors : List ℕ) (inside old new : D) → inside ≡ old → IsReady (state inside)
    → ((n : ℕ) → Contains sectors n → IsSpare (data_of (state old)) n) → LeavesMapBut (Contains sectors) (state inside) (state new)
    → LeavesOnly (state old) (state new) (MeansUsed (state old).size (state old).seen)
means state sectors inside old new is ready spare run =
    let disk = state inside in
    let here = subst (λ d. (n : ℕ) → Contains sectors n → IsSpare (data_of (state d)) n) (sym is) spare in
    subst (λ d. LeavesOnly (state d) (state new) (MeansUsed (state d).size (state d).seen)) is
    (weaker (λ image reads. but_means disk (valid_with disk.size (sector disk.seen) ready.sectors ready.is.commit) here reads) run)

-- where none does, each reads as before
reads : {D : Type 0} (state : D → DiskState) (placed : List Entry) (inside old new : D) → inside ≡ old → LeavesMapBut (Contains (targets placed)) (state inside) (state new)
    → length placed ≡ 0 → LeavesSameMap (state old) (state new)
reads state placed inside old new is run none =
    subst (λ d. LeavesSameMap (state d) (state new)) is
    (weaker (λ image but. record {
      whole = but.whole;
      commit = but.commit;
      reads = λ n part. but.reads n part (λ among. let lt = among.1 in omega (arith, lt, none, length-targets placed));
    }) run)

pub log_beside-requires-clause-beside : goal.log_beside-requires-clause-beside
log_beside-requires-clause-beside g c = subst (λ d. IsBeside (targets c.args.placed.now.entries) (g.D.Disk.state d)) (sym c.self.view_is) c.requires.beside

pub invariant_of-result : goal.invariant_of-result
invariant_of-result g c =
    let old = g.D.Disk.state c.self.inside.disk in
    let placed = c.args.placed.now.entries in (
      header_sealed placed old (g.D.Disk.state c.log_beside.new.disk) c.self.inside.header (super_on_disk placed _ _ (data_of old) c.requires.places) c.in-Ok.ensures.placed c.self.invariant.1,
      c.in-Ok.ensures.next,
    )

pub returns-in-Ok-clause-any_moment : goal.returns-in-Ok-clause-any_moment
returns-in-Ok-clause-any_moment g c =
    means g.D.Disk.state (targets c.args.placed.now.entries) c.self.inside.disk c.args.self c.log_beside.new.disk c.self.view_is c.self.invariant.0 c.requires.spare c.log_beside.ensures.any_moment

pub returns-in-Err-clause-any_moment : goal.returns-in-Err-clause-any_moment
returns-in-Err-clause-any_moment g c =
    means g.D.Disk.state (targets c.args.placed.now.entries) c.self.inside.disk c.args.self c.log_beside.new.disk c.self.view_is c.self.invariant.0 c.requires.spare c.log_beside.ensures.any_moment

pub returns-in-Ok-clause-none_placed : goal.returns-in-Ok-clause-none_placed
returns-in-Ok-clause-none_placed g c = reads g.D.Disk.state c.args.placed.now.entries c.self.inside.disk c.args.self c.log_beside.new.disk c.self.view_is c.log_beside.ensures.any_moment

pub returns-in-Err-clause-none_placed : goal.returns-in-Err-clause-none_placed
returns-in-Err-clause-none_placed g c = reads g.D.Disk.state c.args.placed.now.entries c.self.inside.disk c.args.self c.log_beside.new.disk c.self.view_is c.log_beside.ensures.any_moment
