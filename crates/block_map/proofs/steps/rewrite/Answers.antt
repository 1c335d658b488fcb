use Rattle.std.proofs.Common.{List, ℕ, [], refl, subst, ◌∙◌, arith}
use Rattle.fs_layout.specs.InodeChanges.{Puts}
use Rattle.sector_txn.proofs.TransactionRuns.{changes_nothing, changes_put, store_joined}
use Rattle.block_map.proofs.Rewritten.{rewritten, written_whole}
use Rattle.bit_alloc.proofs.Passing.{no_fault}
use Rattle.block_map.proofs.steps.rewrite.Goals as goal

pub returns-in-Some-clause-written : goal.returns-in-Some-clause-written
returns-in-Some-clause-written g c =
    let old = (g.S.Sectors.state c.args.s.now).sectors in
    let new = (g.S.Sectors.state c.put.new.self).sectors in
    let chunk = c.in-Some.ensures.cases in
    let e = chunk.same ∙ written_whole (old c.args.number) c.args.at c.args.bytes.now c.requires.whole.len chunk.long (omega (arith, chunk.long, c.requires.fits)) in
    subst (λ (x : List ℕ). Puts c.args.number x old new) e c.put.ensures.sectors

pub returns-clause-written : goal.returns-clause-written
returns-clause-written g c =
    rewritten c.args.at c.in_ok-get.ensures.content c.in_ok-get.ensures.same.sectors c.copy_from_slice.ensures.after (omega arith) c.put-2.ensures.sectors

pub returns-in-Some-clause-puts : goal.returns-in-Some-clause-puts
returns-in-Some-clause-puts g c = changes_put (changes_nothing []) c.put.ensures refl

pub returns-clause-store : goal.returns-clause-store
returns-clause-store g c = store_joined c.in_ok-get.ensures.same.store c.put-2.ensures.store

pub returns-clause-cause : goal.returns-clause-cause
returns-clause-cause g c = no_fault (store_joined c.in_ok-get.ensures.same.store c.put-2.ensures.store)
