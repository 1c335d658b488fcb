use Rattle.fs_model.specs.Processes.{ProcessTable}
use Rattle.call_parts.specs.BothTables.{both}
use Rattle.std.specs.Prelude.{Result}
use Rattle.std.proofs.Common.{sym, ap, subst}
use Rattle.fs_cred.specs.declared.refusal.Refusal.{Refusal}
use Rattle.fs_model.specs.declared.call.Call.TheVariants.{Chdir}
use Rattle.fs_model.specs.declared.reply.Reply.{Reply}
use Rattle.path_walk.proofs.Kept.{is_err}
use Rattle.call_parts.specs.declared.reaching.Caller.{Caller}
use Rattle.call_parts.specs.Callers.{ByProcess, ByCaller}
use Rattle.call_parts.specs.Performing.{Performs}
use Rattle.name_calls.proofs.making.chdir.Goals as goal

pub directory_at-requires : goal.directory_at-requires
directory_at-requires g c = record { ready = rw c.caller-caller.ensures c.requires.ready; runs = ap (λ (k : Caller). k.by) c.caller-caller.ensures }

pub returns-in_err-ino-clause-performs : goal.returns-in_err-ino-clause-performs
returns-in_err-ino-clause-performs g c =
    let r = c.from_residual.ensures in
    let old = g.S.Sectors.state c.args.s.now in
    let new = g.S.Sectors.state c.directory_at.new.s in
    let refused = rw c.caller-caller.ensures at c.in_err-ino.ensures.refused in
    subst (λ (x : Result Reply Refusal). Performs c.args.site.geometry c.args.site.time (ByCaller (ByProcess c.args.pid) (Chdir c.args.path.now)) old new (both c.args.procs.now c.args.openings.now.0) (both c.args.procs.now c.args.openings.now.0) x)
    (sym (is_err c.from_residual.result c.in_err-ino.field-0.0 r.0 r.1)) refused

pub stand_at-requires : goal.stand_at-requires
stand_at-requires g c = record { found = rw c.caller-caller.ensures at c.in_ok-ino.ensures.there }

pub returns-clause-performs : goal.returns-clause-performs
returns-clause-performs g c =
    let entered = rw c.caller-caller.ensures at c.in_ok-ino.ensures.entered in
    entered (both c.stand_at.new.self c.args.openings.now.0) (ap (λ (m : ProcessTable). both m c.args.openings.now.0) c.stand_at.ensures.set)
