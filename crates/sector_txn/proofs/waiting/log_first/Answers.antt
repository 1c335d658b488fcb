use Rattle.std.proofs.Common.{◌∙◌, ℕ, List, ap, arith, get_or, sym, slice_index_or}
use Rattle.std.proofs.lemmas.Bool.{true≢false}
use Rattle.fs_layout.proofs.RecoveryLaw.{contains_at}
use Rattle.redo_journal.specs.Batch.{targets}
use Rattle.redo_journal.proofs.Entries.{length-targets}
use Rattle.sector_txn.proofs.Delta.{has_in_targets}
use Rattle.sector_txn.proofs.waiting.log_first.Goals as goal

pub unreachable-requires : goal.unreachable-requires
unreachable-requires c =
    let placed = c.args.placed.now.entries in
    let n = slice_index_or c.sectors.result.now 0 0 in
    let among = contains_at (targets placed) 0 n (omega (arith, c.requires.some, length-targets placed)) (ap (λ (l : List ℕ). get_or l 0 0) (sym c.sectors.ensures.sectors)) in
    true≢false (sym ((has_in_targets placed n).0 among) ∙ c.in-None.ensures.none)
