use Rattle.std.proofs.Common.{◌≡◌, true, false, sym, ap, ◌∙◌, subst, length, refl, append-nil, ◌≢◌, get_or, rules, tests, ◌++◌, ◌∷◌, []}
use Rattle.std.specs.List.{slice_split}
use Rattle.std.proofs.lemmas.Iterator.Consumers.{YieldsList-turn, YieldsList-end}
use Rattle.std.proofs.lemmas.Iterator.Splits.{YieldsList-from_slice_split}
use Rattle.std.proofs.lemmas.Result.{IfOk-from_err}
use Rattle.posix_acl.specs.declared.fault.AclFault.TheVariants.{OutOfMemory, BadText}
use Rattle.posix_acl.proofs.Memory.{out_of_memory}
use Rattle.posix_acl.specs.Text.{IsNoText, line_pieces, is_comma, is_empty_piece, without_blanks, kept_pieces, IsEntryText, AreEntryTexts, AppendsEntries}
use Rattle.posix_acl.proofs.Pieces.{bad_piece, empty_piece, one_piece}
use Rattle.posix_acl.proofs.reading.read_line.Goals as goal

pub loop-piece-init : goal.loop-piece-init
loop-piece-init c = ([], tt, sym (append-nil c.args.entries.now.items))

pub returns-in_default-clause-bad : goal.returns-in_default-clause-bad
returns-in_default-clause-bad c = λ _ es are.
    let turn = YieldsList-turn (YieldsList-from_slice_split _ is_comma c.uncommented-line.result.now (cc) (cc) (cc) (λ x r q k. search (rules, tests)))
    c.loop-piece.yielded _ c.loop-piece.yielded_by _ _ c.in-Some.piece c.in-Some.is c.next.ensures.steps in
    let piece = get_or (slice_split is_comma c.uncommented-line.result.now) (length c.loop-piece.yielded) c.in-Some.piece.now in
    let trimmed_is : c.trimmed-piece.result.now ≡ without_blanks piece = c.trimmed-piece.ensures ∙ ap without_blanks turn.1 in
    let flag : c.is_empty.result ≡ false = search rules in
    bad_piece (slice_split is_comma c.uncommented-line.result.now) (length c.loop-piece.yielded) c.in-Some.piece.now turn.0
    (ap is_empty_piece (sym trimmed_is) ∙ sym c.is_empty.ensures ∙ flag)
    (λ e is. c.in_default.not-Some e (c.read_entry.ensures.only e (subst (λ t. IsEntryText t e) (sym trimmed_is) is)))
    es (subst (λ l. AreEntryTexts (kept_pieces (slice_split is_comma l)) es) (sym c.uncommented-line.ensures) are)

pub loop-piece-preserved-in-Continue-1 : goal.loop-piece-preserved-in-Continue-1
loop-piece-preserved-in-Continue-1 c =
    let flag : c.is_empty.result ≡ false = search rules in
    let there : is_empty_piece (without_blanks c.in-Some.piece.now) ≡ false = ap is_empty_piece (sym c.trimmed-piece.ensures) ∙ sym c.is_empty.ensures ∙ flag in
    let is : IsEntryText (without_blanks c.in-Some.piece.now) c.in-Some-read_entry.entry =
    subst (λ t. IsEntryText t c.in-Some-read_entry.entry) c.trimmed-piece.ensures c.in-Some-read_entry.ensures.found in
    let pushed : c.push.new.self.items ≡ c.loop-piece.entries.items ++ c.in-Some-read_entry.entry ∷ [] = c.in_ok-push.ensures.items in
    rw pushed (one_piece c.args.entries.now.items c.loop-piece.entries.items c.loop-piece.yielded c.in-Some.piece c.in-Some-read_entry.entry there is c.loop-piece.invariant)

pub loop-piece-preserved : goal.loop-piece-preserved
loop-piece-preserved c =
    let flag : c.is_empty.result ≡ true = search rules in
    let gone : is_empty_piece (without_blanks c.in-Some.piece.now) ≡ true = ap is_empty_piece (sym c.trimmed-piece.ensures) ∙ sym c.is_empty.ensures ∙ flag in
    empty_piece c.args.entries.now.items c.loop-piece.entries.items c.loop-piece.yielded c.in-Some.piece gone c.loop-piece.invariant

pub returns-clause-found : goal.returns-clause-found
returns-clause-found c =
    let end = YieldsList-end (YieldsList-from_slice_split _ is_comma c.uncommented-line.result.now (cc) (cc) (cc) (λ x r q k. search (rules, tests)))
    c.loop-piece.yielded _ c.loop-piece.yielded_by _ _ c.in-None.is c.next.ensures.steps in
    subst (λ ps. AppendsEntries c.args.entries.now.items c.loop-piece.entries.items ps)
    (ap kept_pieces end.0 ∙ ap (λ l. kept_pieces (slice_split is_comma l)) c.uncommented-line.ensures) c.loop-piece.invariant

pub returns-in_err-push-clause-found : goal.returns-in_err-push-clause-found
returns-in_err-push-clause-found c = IfOk-from_err c.from_residual.result _ c.from_residual.ensures.0

pub returns-in_err-push-clause-bad : goal.returns-in_err-push-clause-bad
returns-in_err-push-clause-bad c =
    out_of_memory c.from_residual.result (λ fault. fault ≡ BadText → IsNoText (line_pieces c.args.line.now))
    (λ same. absurd (cc)) c.from_residual.ensures.1

pub returns-in_err-push-clause-err : goal.returns-in_err-push-clause-err
returns-in_err-push-clause-err c =
    out_of_memory c.from_residual.result (λ fault. fault ≢ OutOfMemory → fault ≡ BadText)
    (λ other. absurd (other refl)) c.from_residual.ensures.1
