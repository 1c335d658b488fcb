use Rattle.std.proofs.Common.{◌≡◌, sym, ap, ◌∙◌, subst}
use Rattle.std.specs.List.Sorted.{IsPermutation}
use Rattle.std.proofs.lemmas.List.Sorted.{IsPermutation-refl}
use Rattle.posix_acl.specs.AccessList.{IsAcl, entries_of}
use Rattle.posix_acl.specs.Entries.{plain_entries}
use Rattle.posix_acl.specs.Faults.{first_fault}
use Rattle.posix_acl.proofs.Laws.{one_made, one_of_numbers, own_plain}
use Rattle.posix_acl.proofs.NoFault.{no_fault_in}
use Rattle.posix_acl.proofs.acl.Acl.entries.Goals as goal

valid : (c : goal.After-deref) → IsAcl c.args.self.now
valid c = subst IsAcl c.self.view_is c.self.invariant.valid

own : (c : goal.After-deref) → c.deref.result.now ≡ entries_of c.args.self.now
own c = c.deref.ensures.value ∙ c.self.invariant.canonical ∙ ap entries_of c.self.view_is

pub returns-clause-plain : goal.returns-clause-plain
returns-clause-plain c = rw (own c) (own_plain c.args.self.now (valid c))

pub returns-clause-faultless : goal.returns-clause-faultless
returns-clause-faultless c = ap first_fault (own c) ∙ no_fault_in c.args.self.now (valid c)

pub returns-clause-only : goal.returns-clause-only
returns-clause-only c = λ a made.
    let same : plain_entries c.deref.result.now ≡ entries_of c.args.self.now = ap plain_entries (own c) ∙ own_plain c.args.self.now (valid c) in
    one_made c.deref.result.now a c.args.self.now made
    (record { valid = valid c; same = subst (λ es. IsPermutation es (entries_of c.args.self.now)) (sym same) (IsPermutation-refl (entries_of c.args.self.now)) })

pub returns-clause-numbers : goal.returns-clause-numbers
returns-clause-numbers c = λ a same. one_of_numbers a c.args.self.now same
