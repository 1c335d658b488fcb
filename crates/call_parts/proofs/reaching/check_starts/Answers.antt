use Rattle.std.proofs.Common.{sym, ap, refl, ◌∙◌, inl}
use Rattle.path_walk.proofs.Kept.{answered_err}
use Rattle.call_parts.specs.Callers.{who_of, starts_asked}
use Rattle.fs_model.specs.Demands.{first_of}
use Rattle.call_parts.specs.Telling.{checked}
use Rattle.call_parts.proofs.Finding.{starts_by_types}
use Rattle.call_parts.proofs.reaching.check_starts.Goals as goal

pub returns-in_err-check_types-clause-each : goal.returns-in_err-check_types-clause-each
returns-in_err-check_types-clause-each g c = λ t h.
    let found = c.in_ok-first.ensures.found t h in
    let r = c.from_residual-in_err-check_types.ensures in
    let is = starts_by_types c.args.links c.in_ok-first.first c.in_ok-first.second t (ap who_of c.in-Actor.is) c.bytes.ensures.all c.is_empty-is_empty.ensures
    refl refl found.0 found.1 in
    answered_err (g.S.Sectors.state c.args.s.now).disk (g.S.Sectors.state c.types_at.new.s).disk (checked (first_of (starts_asked t (who_of c.args.by) c.args.links c.args.path.now)))
    c.from_residual-in_err-check_types.result c.in_err-check_types.field-0.0 r.0 r.1 (inl (sym is ∙ sym c.in_err-check_types.ensures))

pub returns-clause-each : goal.returns-clause-each
returns-clause-each g c = λ t h.
    let found = c.in_ok-first.ensures.found t h in
    let is = starts_by_types c.args.links c.in_ok-first.first c.in_ok-first.second t (ap who_of c.in-Actor.is) c.bytes.ensures.all c.is_empty-is_empty.ensures
    refl refl found.0 found.1 in
    sym is ∙ sym c.in_ok-check_types.ensures
