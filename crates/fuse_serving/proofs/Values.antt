-- What a value of an attribute says, and what it doesn't.
use Rattle.std.proofs.Common.{◌≡◌, ◌≢◌, ℕ, List, [], length, Option, Some, None, sym, ap, subst, ◌∙◌, arith}
use Rattle.posix_acl.specs.declared.entry.Entry.{Entry}
use Rattle.posix_acl.specs.declared.fault.AclFault.{AclFault}
use Rattle.posix_acl.specs.AccessList.{AccessList}
use Rattle.posix_acl.specs.Entries.{plain_entries}
use Rattle.posix_acl.specs.Faults.{IsListOf, first_fault}
use Rattle.posix_acl.proofs.Laws.{entries_same}
use Rattle.posix_acl.proofs.NoFault.{no_fault_in}
use Rattle.posix_acl.proofs.Shuffled.{first_fault-IsPermutation}
use Rattle.fuse_protocol.specs.AclValues.{IsAclValue, first_numbers}

-- a value says its entries alone
pub one_reading : (value : List ℕ) (es fs : List Entry) → IsAclValue value es → IsAclValue value fs → es ≡ fs
one_reading value es fs e f =
    let len : length es ≡ length fs = omega (arith, e.size, f.size) in
    entries_same es fs (e.entries ∙ ap (first_numbers value) len ∙ sym f.entries)

none_is_some : (found : Option AclFault) (fault : AclFault) → found ≡ None → found ≡ Some fault → ⊥
none_is_some found fault none some = absurd (let both : None ≡ Some fault = sym none ∙ some in cc)

-- faulty entries make no list
pub no_list : (es : List Entry) (fault : AclFault) (a : AccessList) → first_fault (plain_entries es) ≡ Some fault → IsListOf es a → ⊥
no_list es fault a faulty is =
    none_is_some (first_fault (plain_entries es)) fault (sym (first_fault-IsPermutation _ _ is.same) ∙ no_fault_in a is.valid) faulty

pub says_nothing : (value : List ℕ) (fs : List Entry) (fault : AclFault) → IsAclValue value fs → fs ≢ [] → first_fault (plain_entries fs) ≡ Some fault
    → (es : List Entry) → IsAclValue value es → (es ≢ []) × ((a : AccessList) → IsListOf es a → ⊥)
says_nothing value fs fault f some faulty es e =
    let same : fs ≡ es = one_reading value fs es f e in
    subst (λ (xs : List Entry). (xs ≢ []) × ((a : AccessList) → IsListOf xs a → ⊥)) same (some, λ a is. no_list fs fault a faulty is)
