use Rattle.std.proofs.Common.{not, sym, ap, ◌∙◌}
use Rattle.fs_cred.specs.declared.refusal.Refusal.TheVariants.{Failed}
use Rattle.path_walk.proofs.Kept.{failed_with}
use Rattle.call_parts.specs.BothTables.{both}
use Rattle.call_parts.proofs.ByDescriptor.{opened, closed_open, unfit_open, fit_open}
use Rattle.call_parts.proofs.reaching.find_open.Goals as goal

pub returns-in_err-descriptor-clause-refused : goal.returns-in_err-descriptor-clause-refused
returns-in_err-descriptor-clause-refused c =
    let r = c.from_residual.ensures in
    failed_with c.from_residual.result (Failed c.in_err-descriptor.field-0.0) _ r.0 r.1
    (λ s same. closed_open s c.args.place c.args.purpose same c.in_err-descriptor.field-0.0 (sym c.in_err-descriptor.ensures))

pub returns-then-not-is_open_for-clause-refused : goal.returns-then-not-is_open_for-clause-refused
returns-then-not-is_open_for-clause-refused c = λ s same.
    unfit_open s c.args.place c.args.purpose same (opened (both c.args.procs.now c.args.openings.now.0) c.args.place c.in_ok-descriptor.descriptor (sym c.in_ok-descriptor.ensures))
    (ap not (sym c.is_open_for.ensures ∙ c.if-not-is_open_for.true))

pub returns-clause-is_open : goal.returns-clause-is_open
returns-clause-is_open c =
    fit_open c.args.purpose (opened (both c.args.procs.now c.args.openings.now.0) c.args.place c.in_ok-descriptor.descriptor (sym c.in_ok-descriptor.ensures))
    (ap not (sym c.is_open_for.ensures ∙ c.if-not-is_open_for.false))
