use Rattle.std.proofs.Common.{not, Some, sym, ap, ◌∙◌, subst}
use Rattle.std.proofs.lemmas.Option.{none-some, same_Some, MatchOption-from_none}
use Rattle.posix_acl.specs.Entries.{entry}
use Rattle.posix_acl.specs.Text.{IsNameOf}
use Rattle.posix_acl.proofs.Ids.{named_alike}
use Rattle.posix_acl.proofs.OneReading.{fields_same}
use Rattle.posix_acl.proofs.reading.read_fields.Goals as goal

pub returns-in_err-tag-clause-found : goal.returns-in_err-tag-clause-found
returns-in_err-tag-clause-found c = MatchOption-from_none c.from_residual.result _ c.from_residual.ensures

pub returns-in_err-tag-clause-only : goal.returns-in_err-tag-clause-only
returns-in_err-tag-clause-only c = λ e are.
    let named = named_alike e.tag e.id c.args.name.now are.name_is ∙ ap not (sym c.is_empty.ensures) in
    absurd (none-some e.tag (c.in_err-tag.ensures.only e.tag are.word_is named))

pub returns-in_err-id-clause-found : goal.returns-in_err-id-clause-found
returns-in_err-id-clause-found c =
    MatchOption-from_none c.from_residual-in_err-id.result _ c.from_residual-in_err-id.ensures

pub returns-in_err-id-clause-only : goal.returns-in_err-id-clause-only
returns-in_err-id-clause-only c = λ e are.
    let named = named_alike e.tag e.id c.args.name.now are.name_is ∙ ap not (sym c.is_empty.ensures) in
    let tags = same_Some c.in_ok-tag.tag e.tag (c.in_ok-tag.ensures.only e.tag are.word_is named) in
    absurd (none-some e.id
    (c.in_err-id.ensures.only e.id (subst (λ t. IsNameOf t e.id c.args.name.now) (sym tags) are.name_is)))

pub returns-in_err-perms-clause-found : goal.returns-in_err-perms-clause-found
returns-in_err-perms-clause-found c =
    MatchOption-from_none c.from_residual-in_err-perms.result _ c.from_residual-in_err-perms.ensures

pub returns-in_err-perms-clause-only : goal.returns-in_err-perms-clause-only
returns-in_err-perms-clause-only c =
    λ e are. absurd (none-some e.perms (c.in_err-perms.ensures.only e.perms are.perms_are))

pub returns-clause-found : goal.returns-clause-found
returns-clause-found c =
    let word_is = c.in_ok-tag.ensures.found.0 in
    record { word_is = word_is; name_is = c.in_ok-id.ensures.found; perms_are = c.in_ok-perms.ensures.found }

pub returns-clause-only : goal.returns-clause-only
returns-clause-only c = λ e are.
    ap Some (fields_same c.args.word.now c.args.name.now c.args.letters.now
    (entry c.in_ok-tag.tag c.in_ok-id.id c.in_ok-perms.perms) e
    (returns-clause-found c) are)
