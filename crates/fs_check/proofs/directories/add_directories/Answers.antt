use Rattle.std.proofs.Common.{◌≡◌, ◌+◌, arith, refl, subst, sym, ap, ◌∙◌, inl, inr}
use Rattle.std.proofs.lemmas.Bool.{cases_lt}
use Rattle.fs_layout.specs.declared.inode.Inode.{Inode}
use Rattle.fs_layout.specs.declared.inode.Kind.TheVariants.{Free, Directory}
use Rattle.fs_model.specs.Rules.{Obeys, Slots}
use Rattle.sector_disk.proofs.Moments.{reads_joined}
use Rattle.fs_check.specs.Checks.{meaning}
use Rattle.fs_check.specs.Naming.{IsNaming}
use Rattle.fs_check.proofs.Carrying.{meaning_same, opened_still, tested_still, read_error}
use Rattle.fs_check.proofs.Tables.{more_good}
use Rattle.fs_check.proofs.Tests.{few_inodes, free_behind, refuses}
use Rattle.fs_check.proofs.Tallies.{whole_naming}
use Rattle.fs_check.proofs.directories.add_directories.Goals as goal

pub add_directory-requires-clause-names : goal.add_directory-requires-clause-names
add_directory-requires-clause-names g c =
    subst (λ m. IsNaming c.args.opened.now.geometry m c.loop-dir_ino.dir_ino c.loop-dir_ino.names.counts.items c.loop-dir_ino.names.directories.items c.loop-dir_ino.names.repeated)
    (sym (meaning_same c.loop-dir_ino.invariant.reads)) c.loop-dir_ino.invariant.naming

pub loop-dir_ino-preserved : goal.loop-dir_ino-preserved
loop-dir_ino-preserved g c =
    let s0 = g.D.Disk.state c.args.disk.now in
    let p = c.args.opened.now.geometry in
    let d = c.loop-dir_ino.dir_ino in
    let new = c.add_directory.new.names in
    let same = meaning_same c.loop-dir_ino.invariant.reads in
    let is = c.if-not-branch.false in
    record {
      reads = reads_joined c.loop-dir_ino.invariant.reads c.in_ok-add_directory.ensures.passed.reads;
      good = more_good (Obeys p (meaning s0) Slots) d c.loop-dir_ino.invariant.good (subst (λ m. Obeys p m Slots d) same (c.in_ok-add_directory.ensures.test.0 is));
      naming = subst (λ m. IsNaming p m (d + 1) new.counts.items new.directories.items new.repeated) same (c.in_ok-add_directory.ensures.names is);
    }

pub returns-then-not-branch-clause-passed : goal.returns-then-not-branch-clause-passed
returns-then-not-branch-clause-passed g c =
    let added = c.in_ok-add_directory.ensures in
    record {
      reads = reads_joined c.loop-dir_ino.invariant.reads added.passed.reads;
      reason = (
        refl,
        record {
          fails = λ h.
              refuses (Obeys c.args.opened.now.geometry (meaning (g.D.Disk.state c.loop-dir_ino.disk)) Slots c.loop-dir_ino.dir_ino) c.in_ok-add_directory.field-0 c.if-not-branch.true added.test
              (subst (λ m. Obeys c.args.opened.now.geometry m Slots c.loop-dir_ino.dir_ino) (sym (meaning_same c.loop-dir_ino.invariant.reads)) h);
          least = c.loop-dir_ino.invariant.good;
        },
      );
    }

pub returns-clause-each : goal.returns-clause-each
returns-clause-each g c = λ n lt is.
    let m = meaning (g.D.Disk.state c.args.disk.now) in
    elim (cases_lt n c.loop-dir_ino.dir_ino) [
      | inl low ↦ c.loop-dir_ino.invariant.good n low lt is
      | inr ge ↦
          let past = c.loop-dir_ino-test.false in
          let free = free_behind c.args.opened.now.geometry m c.args.inodes.now n c.requires.inodes.table (omega (arith, ge, past)) lt in
          absurd (let e : Free ≡ Directory = sym (ap (λ (v : Inode). v.kind) free) ∙ is in cc)
    ]

pub returns-clause-names : goal.returns-clause-names
returns-clause-names g c =
    let p = c.args.opened.now.geometry in
    let m = meaning (g.D.Disk.state c.args.disk.now) in
    whole_naming p m c.args.inodes.now c.requires.inodes.table c.loop-dir_ino.dir_ino c.loop-dir_ino.names.counts.items c.loop-dir_ino.names.directories.items c.loop-dir_ino.names.repeated
    c.loop-dir_ino-test.false (omega (arith, c.loop-dir_ino.auto.dir_ino-end, c.requires.inodes.table.len)) c.loop-dir_ino.invariant.naming

pub overflow_cast-dir_ino-end : goal.overflow_cast-dir_ino-end
overflow_cast-dir_ino-end g c =
    let few = few_inodes _ _ c.args.opened.now.geometry _ c.args.inodes.now c.requires.opened.geometry c.requires.inodes.table in
    omega (arith, few)

pub add_directory-requires-clause-opened : goal.add_directory-requires-clause-opened
add_directory-requires-clause-opened g c = opened_still c.loop-dir_ino.invariant.reads c.requires.opened

pub add_directory-requires-clause-inodes : goal.add_directory-requires-clause-inodes
add_directory-requires-clause-inodes g c = tested_still c.loop-dir_ino.invariant.reads c.requires.inodes

pub returns-in_err-add_directory-clause-passed : goal.returns-in_err-add_directory-clause-passed
returns-in_err-add_directory-clause-passed g c = read_error c.loop-dir_ino.invariant.reads c.from_residual.result c.from_residual.ensures.1 c.in_err-add_directory.ensures.passed

pub returns-clause-passed : goal.returns-clause-passed
returns-clause-passed g c = record { reads = c.loop-dir_ino.invariant.reads; reason = tt }
