use Rattle.std.proofs.Common.{◌≡◌, Some, None, sym, ◌∙◌, subst}
use Rattle.std.specs.List.Sorted.{IsPermutation}
use Rattle.posix_acl.specs.Entries.{plain_entries}
use Rattle.posix_acl.specs.Faults.{first_fault}
use Rattle.posix_acl.specs.Stored.{IsCanonical}
use Rattle.posix_acl.proofs.Laws.{one_made}
use Rattle.posix_acl.proofs.Sections.{valid_from}
use Rattle.posix_acl.proofs.Shuffled.{first_fault-IsPermutation, still_plain}
use Rattle.posix_acl.proofs.acl.Acl.from_entries.Goals as goal

pub invariant_of-result : goal.invariant_of-result
invariant_of-result c =
    let sorted = c.in_ok-entries.ensures in
    let found : first_fault c.in_ok-entries.entries.items ≡ None = cc in
    valid_from c.in_ok-entries.entries.items sorted.order sorted.fit (still_plain c.args.entries.now c.in_ok-entries.entries.items sorted.same) found

pub returns-in-Some-clause-err : goal.returns-in-Some-clause-err
returns-in-Some-clause-err c = λ _.
    let found : first_fault c.in_ok-entries.entries.items ≡ Some c.in-Some.fault = cc in
    sym (first_fault-IsPermutation _ _ c.in_ok-entries.ensures.same) ∙ found

pub returns-in-None-clause-made : goal.returns-in-None-clause-made
returns-in-None-clause-made c =
    let canonical : IsCanonical c.in_ok-entries.entries.items = invariant_of-result c in
    record {
      valid = canonical.valid;
      same = subst (λ es. IsPermutation (plain_entries c.args.entries.now) es) canonical.canonical c.in_ok-entries.ensures.same;
    }

pub returns-in-None-clause-ok : goal.returns-in-None-clause-ok
returns-in-None-clause-ok c =
    let found : first_fault c.in_ok-entries.entries.items ≡ None = cc in
    sym (first_fault-IsPermutation _ _ c.in_ok-entries.ensures.same) ∙ found

pub returns-in-None-clause-only : goal.returns-in-None-clause-only
returns-in-None-clause-only c = λ a made. one_made c.args.entries.now a _ made (returns-in-None-clause-made c)
