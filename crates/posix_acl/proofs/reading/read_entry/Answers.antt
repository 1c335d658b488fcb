use Rattle.std.proofs.Common.{◌≡◌, ℕ, List, [], ◌∷◌, Some, sym, ap, ◌∙◌, subst}
use Rattle.std.specs.List.{slice_split}
use Rattle.std.proofs.lemmas.Bool.{false≢true}
use Rattle.std.proofs.lemmas.Option.{none-some, same_Some, MatchOption-from_none, IfSome_then}
use Rattle.posix_acl.specs.Text.{is_colon, may_lack_name, AreEntryFields}
use Rattle.posix_acl.proofs.Cuts.{too_many}
use Rattle.posix_acl.proofs.OneReading.{entry_same}
use Rattle.posix_acl.proofs.reading.read_entry.Goals as goal

two_fields : (text word rest : List ℕ) → slice_split is_colon text ≡ word ∷ slice_split is_colon rest
    → slice_split is_colon rest ≡ rest ∷ []
    → slice_split is_colon text ≡ word ∷ rest ∷ []
two_fields text word rest first last = first ∙ ap (λ fs. word ∷ fs) last

three_fields : (text word rest name letters : List ℕ)
    → slice_split is_colon text ≡ word ∷ slice_split is_colon rest
    → slice_split is_colon rest ≡ name ∷ slice_split is_colon letters
    → slice_split is_colon letters ≡ letters ∷ []
    → slice_split is_colon text ≡ word ∷ name ∷ letters ∷ []
three_fields text word rest name letters first second last =
    first ∙ ap (λ fs. word ∷ fs) (two_fields rest name letters second last)

pub returns-in_err-word-clause-found : goal.returns-in_err-word-clause-found
returns-in_err-word-clause-found c = MatchOption-from_none c.from_residual.result _ c.from_residual.ensures

pub returns-in_err-word-clause-only : goal.returns-in_err-word-clause-only
returns-in_err-word-clause-only c =
    λ e is. absurd (subst (λ fs. AreEntryFields fs e) c.in_err-word.ensures.none is)

pub returns-in-Some-cut_at_colon-clause-only : goal.returns-in-Some-cut_at_colon-clause-only
returns-in-Some-cut_at_colon-clause-only c = λ e is.
    let word = c.in_ok-word.word.now in
    let name = c.in-Some.name.now in
    let cut = c.in-Some-cut_at_colon.field-0 in
    let fields : slice_split is_colon c.args.text.now ≡ word ∷ name ∷ cut.0.now ∷ slice_split is_colon cut.1.now =
    c.in_ok-word.ensures.found
    ∙ ap (λ fs. word ∷ fs) (c.in-Some.ensures.found ∙ ap (λ fs. name ∷ fs) c.in-Some-cut_at_colon.ensures.found) in
    absurd (too_many is_colon word name cut.0.now cut.1.now e (subst (λ fs. AreEntryFields fs e) fields is))

pub returns-in-None-cut_at_colon-clause-found : goal.returns-in-None-cut_at_colon-clause-found
returns-in-None-cut_at_colon-clause-found c =
    let fields =
    three_fields c.args.text.now c.in_ok-word.word.now c.in_ok-word.rest.now c.in-Some.name.now
    c.in-Some.letters.now c.in_ok-word.ensures.found c.in-Some.ensures.found
    c.in-None-cut_at_colon.ensures.none in
    IfSome_then c.read_fields.result c.read_fields.ensures.found
    (λ e are. subst (λ fs. AreEntryFields fs e) (sym fields) are)

pub returns-in-None-cut_at_colon-clause-only : goal.returns-in-None-cut_at_colon-clause-only
returns-in-None-cut_at_colon-clause-only c = λ e is.
    let fields =
    three_fields c.args.text.now c.in_ok-word.word.now c.in_ok-word.rest.now c.in-Some.name.now
    c.in-Some.letters.now c.in_ok-word.ensures.found c.in-Some.ensures.found
    c.in-None-cut_at_colon.ensures.none in
    c.read_fields.ensures.only e (subst (λ fs. AreEntryFields fs e) fields is)

pub returns-in-Some-read_fields-clause-found : goal.returns-in-Some-read_fields-clause-found
returns-in-Some-read_fields-clause-found c =
    let rest = c.in_ok-word.rest.now in
    let none = c.in-None.ensures.none in
    let fields = two_fields c.args.text.now c.in_ok-word.word.now rest c.in_ok-word.ensures.found none in
    let has_none = sym c.may_lack_name.ensures ∙ c.if-may_lack_name.true in
    subst (λ fs. AreEntryFields fs c.in-Some-read_fields.entry) (sym fields)
    (has_none, c.in-Some-read_fields.ensures.found)

pub returns-in-Some-read_fields-clause-only : goal.returns-in-Some-read_fields-clause-only
returns-in-Some-read_fields-clause-only c = λ e is.
    let found = returns-in-Some-read_fields-clause-found c in
    ap Some (entry_same (slice_split is_colon c.args.text.now) c.in-Some-read_fields.entry e found is)

pub returns-in_default-clause-only : goal.returns-in_default-clause-only
returns-in_default-clause-only c = λ e is.
    let rest = c.in_ok-word.rest.now in
    let none = c.in-None.ensures.none in
    let fields = two_fields c.args.text.now c.in_ok-word.word.now rest c.in_ok-word.ensures.found none in
    let are = subst (λ fs. AreEntryFields fs e) fields is in
    let same = same_Some c.in-Some-read_fields.entry e (c.in-Some-read_fields.ensures.only e are.1) in
    let lacks = c.may_lack_name.ensures ∙ ap (λ x. may_lack_name x.tag) same ∙ are.0 in
    absurd (false≢true (sym c.if-may_lack_name.false ∙ lacks))

pub returns-in_default-2-clause-only : goal.returns-in_default-2-clause-only
returns-in_default-2-clause-only c = λ e is.
    let rest = c.in_ok-word.rest.now in
    let none = c.in-None.ensures.none in
    let fields = two_fields c.args.text.now c.in_ok-word.word.now rest c.in_ok-word.ensures.found none in
    let are = subst (λ fs. AreEntryFields fs e) fields is in
    absurd (none-some e (sym c.in_default.is ∙ c.read_fields-in-None.ensures.only e are.1))
