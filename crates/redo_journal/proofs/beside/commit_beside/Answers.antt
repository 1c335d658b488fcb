use Rattle.std.proofs.Common.{◌∙◌, ℕ, List, inl}
use Rattle.std.specs.Prelude.{Contains}
use Rattle.std.proofs.lemmas.Result.{IfOk-weaker}
use Rattle.sector_disk.proofs.Moments.{weaker}
use Rattle.sector_disk.specs.Disk.{DiskState}
use Rattle.redo_journal.specs.Batch.{Entry, IsOnDisk, targets, with_batch}
use Rattle.redo_journal.specs.Meaning.{HasValidCommit, IsSpare, SameMap, data_of, disk_of}
use Rattle.redo_journal.specs.States.{header_at}
use Rattle.redo_journal.proofs.Meaning.{same_chain, same_map}
use Rattle.redo_journal.proofs.Used.{both_installed, both_left, both_same, logged_installed, logged_left}
use Rattle.redo_journal.proofs.Causes.{cause_at_err, cause_then, told_at_err, told_then}
use Rattle.redo_journal.proofs.beside.commit_beside.Goals as goal

-- once the second batch is sealed, what is read is both over what was
sealed_same : (placed entries : List Entry) (before logged sealed : DiskState) → HasValidCommit before.size before.seen → IsOnDisk (header_at before.seen) before.size placed
    → IsOnDisk (header_at before.seen) before.size entries → ((n : ℕ) → Contains (targets placed) n → IsSpare (data_of before) n) → SameMap (data_of logged) (with_batch placed (data_of before))
    → SameMap (data_of sealed) (with_batch entries (data_of logged)) → SameMap (data_of sealed) (with_batch entries (with_batch placed (data_of before)))
sealed_same placed entries before logged sealed valid places on_disk spare first second =
    same_chain (data_of sealed) (with_batch entries (data_of logged)) (with_batch entries (with_batch placed (data_of before))) second
    (both_same placed entries _ before valid places on_disk spare logged first)

pub returns-in-Ok-seal-clause-images : goal.returns-in-Ok-seal-clause-images
returns-in-Ok-seal-clause-images g c =
    let before = g.D.Disk.state c.args.journal in
    let valid = (c.tell_ready.ensures before.seen (g.met.D.Disk.seen_is_image c.args.journal)).commit in
    let logged = g.D.Disk.state c.in-Ok.logged in
    let sealed = g.D.Disk.state c.in-Ok-seal.sealed in
    let placed = c.args.placed.now.entries in
    let entries = c.args.batch.now.entries in
    let first = c.in-Ok.ensures in
    let second = c.in-Ok-seal.ensures in
    both_installed placed entries _ before valid c.requires.places c.requires.on_disk c.requires.spare sealed (g.D.Disk.state (disk_of c.install.result)) (second.size ∙ first.size)
    (sealed_same placed entries before logged sealed valid c.requires.places c.requires.on_disk c.requires.spare first.placed second.changed)
    (both_left placed entries _ before valid c.requires.places c.requires.on_disk c.requires.spare logged sealed first.size first.placed first.any_moment second.any_moment)
    c.install.ensures.any_moment

pub returns-in-Ok-seal-clause-changed : goal.returns-in-Ok-seal-clause-changed
returns-in-Ok-seal-clause-changed g c =
    let before = g.D.Disk.state c.args.journal in
    let sealed = g.D.Disk.state c.in-Ok-seal.sealed in
    let same =
    sealed_same c.args.placed.now.entries c.args.batch.now.entries before (g.D.Disk.state c.in-Ok.logged) sealed (c.tell_ready.ensures before.seen (g.met.D.Disk.seen_is_image c.args.journal)).commit
    c.requires.places c.requires.on_disk c.requires.spare c.in-Ok.ensures.placed c.in-Ok-seal.ensures.changed in
    IfOk-weaker c.install.result _ _ (λ after is. same_chain (data_of (g.D.Disk.state after)) (data_of sealed) _ is same) c.install.ensures.same

pub returns-in-Ok-seal-clause-none_placed : goal.returns-in-Ok-seal-clause-none_placed
returns-in-Ok-seal-clause-none_placed g c = λ none.
    let state = g.D.Disk.state in
    let first = c.in-Ok.ensures in
    let second = c.in-Ok-seal.ensures in
    let kept = first.none_placed none in
    logged_installed c.args.batch.now.entries _ (state c.args.journal) (state c.in-Ok.logged) (state c.in-Ok-seal.sealed) c.requires.on_disk first.size
    (same_map (state c.args.journal) (state c.in-Ok.logged) (g.met.D.Disk.counts_now c.in-Ok.logged) (g.met.D.Disk.seen_is_image c.in-Ok.logged) first.size kept) kept second.any_moment
    (state (disk_of c.install.result)) second.size second.changed c.install.ensures.any_moment

pub seal-requires : goal.seal-requires
seal-requires g c = c.in-Ok.ensures.logged

pub install-requires : goal.install-requires
install-requires g c = c.in-Ok-seal.ensures.sealed

pub returns-in-Ok-seal-clause-stands : goal.returns-in-Ok-seal-clause-stands
returns-in-Ok-seal-clause-stands g c = c.install.ensures.stands c.requires.some

pub returns-in-Ok-seal-clause-cause : goal.returns-in-Ok-seal-clause-cause
returns-in-Ok-seal-clause-cause g c = cause_then c.in-Ok.ensures.cause (cause_then c.in-Ok-seal.ensures.cause c.install.ensures.cause)

pub returns-in-Ok-seal-clause-told : goal.returns-in-Ok-seal-clause-told
returns-in-Ok-seal-clause-told g c = told_then c.in-Ok.ensures.told (told_then c.in-Ok-seal.ensures.told c.install.ensures.told)

pub returns-in-Err : goal.returns-in-Err
returns-in-Err g c =
    let failed = c.in-Err.ensures in
    record { changed = tt; images = weaker (λ image means. inl means) failed.any_moment; none_placed = λ none. weaker (λ image reads. inl reads) (failed.none_placed none); stands = tt; size = failed.size; cause = cause_at_err failed.cause; told = told_at_err failed.told }

pub log_beside-requires : goal.log_beside-requires
log_beside-requires g c =
    let has = c.requires in
    record { some = has.some; on_disk = has.on_disk; few = has.few; places = has.places; spare = has.spare; beside = has.beside }

pub returns-in-Err-seal : goal.returns-in-Err-seal
returns-in-Err-seal g c =
    let before = g.D.Disk.state c.args.journal in
    let seen = g.met.D.Disk.seen_is_image c.args.journal in
    let logged = c.in-Ok.ensures in
    let failed = c.in-Err-seal.ensures in
    record {
      changed = tt;
      images =
          both_left c.args.placed.now.entries c.args.batch.now.entries _ before (c.tell_ready.ensures before.seen seen).commit c.requires.places c.requires.on_disk c.requires.spare
          (g.D.Disk.state c.in-Ok.logged) (g.D.Disk.state c.in-Err-seal.broken) logged.size logged.placed logged.any_moment failed.any_moment;
      none_placed = λ none.
          let kept = logged.none_placed none in
          logged_left c.args.batch.now.entries _ before (g.D.Disk.state c.in-Ok.logged) (g.D.Disk.state c.in-Err-seal.broken) c.requires.on_disk logged.size
          (same_map before (g.D.Disk.state c.in-Ok.logged) (g.met.D.Disk.counts_now c.in-Ok.logged) (g.met.D.Disk.seen_is_image c.in-Ok.logged) logged.size kept) kept failed.any_moment;
      stands = tt;
      size = failed.size ∙ logged.size;
      cause = cause_then logged.cause (cause_at_err failed.cause);
      told = told_then logged.told (told_at_err failed.told);
    }
