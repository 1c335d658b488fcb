use Rattle.std.proofs.Common.{◌∙◌, ap, sym, inl, inr, subst}
use Rattle.sector_disk.specs.Disk.{Image}
use Rattle.redo_journal.specs.States.{header_at}
use Rattle.redo_journal.specs.Meaning.{IsMapped, data_of}
use Rattle.sector_txn.proofs.Commits.{still_part, still_last}
use Rattle.sector_txn.proofs.cached.CachedJournal.read_new.Goals as goal

pub invariant_of-self-2 : goal.invariant_of-self-2
invariant_of-self-2 g c =
    let old = g.D.Disk.state c.self.inside.journal in
    let new = g.D.Disk.state c.read.new.self in (
      λ pair has part.
          let before = data_of old in
          let same = c.read.ensures.same pair.0 in
          let here = subst (λ (l : Image). IsMapped (header_at l) pair.0) c.read.ensures.unchanged.narrowed.seen part in
          elim (c.put.ensures pair has) [
            | inl was ↦ c.self.invariant.0 pair was here ∙ sym same
            | inr is ↦ ap (λ p. p.1) is ∙ c.in_ok-read.ensures.content ∙ ap before (sym (ap (λ p. p.0) is)) ∙ sym same
          ],
      still_last old new _ _ c.read.ensures.unchanged c.self.invariant.1,
    )

pub invariant_of-self : goal.invariant_of-self
invariant_of-self g c =
    let old = g.D.Disk.state c.self.inside.journal in
    let new = g.D.Disk.state c.read.new.self in
    (still_part old new c.self.inside.clean c.read.ensures.unchanged c.self.invariant.0, still_last old new _ _ c.read.ensures.unchanged c.self.invariant.1)
