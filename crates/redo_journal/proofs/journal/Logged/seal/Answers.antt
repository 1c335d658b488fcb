use Rattle.std.proofs.Common.{subst, ap, sym, ◌∙◌}
use Rattle.redo_journal.specs.Batch.{with_batch}
use Rattle.redo_journal.specs.Meaning.{SameMap, data_of, LeavesAllOrNone, EachReadsAs}
use Rattle.redo_journal.proofs.Meaning.{batch_super, header_sealed}
use Rattle.redo_journal.proofs.Causes.{cause_as, cause_at_err, cause_at_ok, told_as, told_at_err, told_at_ok}
use Rattle.std.specs.Prelude.{Ok}
use Rattle.redo_journal.specs.States.{IsLogged}
use Rattle.std.proofs.lemmas.Bool.{true≢false}
use Rattle.redo_journal.proofs.journal.Logged.seal.Goals as goal

pub invariant_of-result : goal.invariant_of-result
invariant_of-result g c =
    let old = g.D.Disk.state c.self.inside.disk in
    let new = g.D.Disk.state c.seal_batch.new.disk in (
      header_sealed c.args.batch.now.entries old new _ (batch_super c.args.batch.now.entries _ _ (data_of old) c.requires.valid)
          (c.in-Ok.ensures.lasting new.seen (g.met.D.Disk.seen_is_image c.seal_batch.new.disk)).reads c.self.invariant.0,
      c.in-Ok.ensures.next,
    )

pub returns-in-Ok-clause-changed : goal.returns-in-Ok-clause-changed
returns-in-Ok-clause-changed g c =
    let old = g.D.Disk.state c.self.inside.disk in
    let new = g.D.Disk.state c.seal_batch.new.disk in
    let after = with_batch c.args.batch.now.entries (data_of old) in
    let here : SameMap (data_of new) after = (c.in-Ok.ensures.lasting new.seen (g.met.D.Disk.seen_is_image c.seal_batch.new.disk)).reads in
    subst (λ d. SameMap (data_of new) (with_batch c.args.batch.now.entries (data_of (g.D.Disk.state d)))) c.self.view_is
    here

pub seal_batch-requires-clause-logged : goal.seal_batch-requires-clause-logged
seal_batch-requires-clause-logged g c = subst (λ d. IsLogged c.args.batch.now.entries (g.D.Disk.state d)) (sym c.self.view_is) c.requires

pub seal_batch-requires-clause-header : goal.seal_batch-requires-clause-header
seal_batch-requires-clause-header g c = c.self.invariant.0

pub seal_batch-requires-clause-next : goal.seal_batch-requires-clause-next
seal_batch-requires-clause-next g c = c.self.invariant.1

pub returns-in-Ok-clause-any_moment : goal.returns-in-Ok-clause-any_moment
returns-in-Ok-clause-any_moment g c = subst (λ d. LeavesAllOrNone c.args.batch.now.entries (g.D.Disk.state d) (g.D.Disk.state c.seal_batch.new.disk)) c.self.view_is c.seal_batch.ensures.any_moment

pub returns-in-Ok-clause-lasting : goal.returns-in-Ok-clause-lasting
returns-in-Ok-clause-lasting g c = subst (λ d. EachReadsAs (with_batch c.args.batch.now.entries (data_of (g.D.Disk.state d))) (g.D.Disk.state c.seal_batch.new.disk)) c.self.view_is c.in-Ok.ensures.lasting

pub returns-in-Ok-clause-empty : goal.returns-in-Ok-clause-empty
returns-in-Ok-clause-empty g c = λ none j. Ok (((c.seal_batch.ensures.empty none).1 ∙ c.self.view_is) j)

pub returns-in-Ok-clause-cause : goal.returns-in-Ok-clause-cause
returns-in-Ok-clause-cause g c = cause_as g.D.Disk.state c.self.view_is (cause_at_ok c.in-Ok.ensures.cause)

pub returns-in-Ok-clause-told : goal.returns-in-Ok-clause-told
returns-in-Ok-clause-told g c = told_as g.D.Disk.state c.self.view_is (told_at_ok c.in-Ok.ensures.told)

pub returns-in-Err : goal.returns-in-Err
returns-in-Err g c =
    let state = g.D.Disk.state in
    let new = state c.seal_batch.new.disk in
    record { sealed = tt; changed = tt; any_moment = subst (λ d. LeavesAllOrNone c.args.batch.now.entries (state d) new) c.self.view_is c.seal_batch.ensures.any_moment; lasting = tt; empty = λ none. absurd (true≢false (sym (c.in-Err.ensures.empty none).0)); size = c.seal_batch.ensures.size ∙ ap (λ d. (state d).size) c.self.view_is; cause = cause_as state c.self.view_is (cause_at_err c.in-Err.ensures.cause); told = told_as state c.self.view_is (told_at_err c.in-Err.ensures.told) }
