use Rattle.std.proofs.Common.{◌≡◌, ℕ, Bool, true, false, List, Some, refl, sym, ap, ◌∙◌}
use Rattle.std.proofs.lemmas.Bool.{false≢true}
use Rattle.posix_acl.specs.declared.entry.Tag.{Tag}
use Rattle.posix_acl.specs.declared.entry.Tag.TheVariants.{UserObj, User, GroupObj, Group, Mask, Other}
use Rattle.posix_acl.specs.Entries.{is_named}
use Rattle.posix_acl.specs.Text.{IsWordOf}
use Rattle.posix_acl.proofs.OneReading.{tag_same}
use Rattle.posix_acl.proofs.reading.read_tag.Goals as goal

same_tag : (wanted tag : Tag) (word : List ℕ) (named : Bool)
    → IsWordOf wanted word × (is_named wanted ≡ named) → IsWordOf tag word → is_named tag ≡ named
    → Some wanted ≡ Some tag
same_tag wanted tag word named found is same =
    ap Some (tag_same wanted tag word found.0 is (found.1 ∙ sym same))

pub returns-then-named-clause-found : goal.returns-then-named-clause-found
returns-then-named-clause-found c = (c.if-is_either.ensures.0 refl, sym c.if-named.true)

pub returns-then-named-clause-only : goal.returns-then-named-clause-only
returns-then-named-clause-only c =
    λ tag. same_tag User tag c.args.word.now c.args.named (returns-then-named-clause-found c)

pub returns-else-named-clause-found : goal.returns-else-named-clause-found
returns-else-named-clause-found c = (c.if-is_either.ensures.0 refl, sym c.if-named.false)

pub returns-else-named-clause-only : goal.returns-else-named-clause-only
returns-else-named-clause-only c =
    λ tag. same_tag UserObj tag c.args.word.now c.args.named (returns-else-named-clause-found c)

pub returns-then-named-2-clause-found : goal.returns-then-named-2-clause-found
returns-then-named-2-clause-found c = (c.if-is_either-2.ensures.0 refl, sym c.if-named-2.true)

pub returns-then-named-2-clause-only : goal.returns-then-named-2-clause-only
returns-then-named-2-clause-only c =
    λ tag. same_tag Group tag c.args.word.now c.args.named (returns-then-named-2-clause-found c)

pub returns-else-named-2-clause-found : goal.returns-else-named-2-clause-found
returns-else-named-2-clause-found c = (c.if-is_either-2.ensures.0 refl, sym c.if-named-2.false)

pub returns-else-named-2-clause-only : goal.returns-else-named-2-clause-only
returns-else-named-2-clause-only c =
    λ tag. same_tag GroupObj tag c.args.word.now c.args.named (returns-else-named-2-clause-found c)

not_named : (word : List ℕ) → (IsWordOf User word → false ≡ true) → (IsWordOf Group word → false ≡ true)
    → (tag : Tag) → IsWordOf tag word → is_named tag ≡ true → ⊥
not_named word user group User is named = false≢true (user is)
not_named word user group Group is named = false≢true (group is)
not_named word user group tag is named = false≢true named

pub returns-then-named-3-clause-only : goal.returns-then-named-3-clause-only
returns-then-named-3-clause-only c = λ tag is named.
    absurd (not_named c.args.word.now c.if-is_either.ensures.1 c.if-is_either-2.ensures.1 tag is
    (named ∙ c.if-named-3.true))

pub returns-then-is_either-3-clause-only : goal.returns-then-is_either-3-clause-only
returns-then-is_either-3-clause-only c =
    λ tag. same_tag Mask tag c.args.word.now c.args.named
    (c.if-is_either-3.ensures.0 refl, sym c.if-named-3.false)

pub returns-then-is_either-4-clause-only : goal.returns-then-is_either-4-clause-only
returns-then-is_either-4-clause-only c =
    λ tag. same_tag Other tag c.args.word.now c.args.named
    (c.if-is_either-4.ensures.0 refl, sym c.if-named-3.false)

not_unnamed : (word : List ℕ) → (IsWordOf UserObj word → false ≡ true)
    → (IsWordOf GroupObj word → false ≡ true) → (IsWordOf Mask word → false ≡ true)
    → (IsWordOf Other word → false ≡ true) → (tag : Tag) → IsWordOf tag word → is_named tag ≡ false → ⊥
not_unnamed word user group mask other UserObj is named = false≢true (user is)
not_unnamed word user group mask other User is named = false≢true (user is)
not_unnamed word user group mask other GroupObj is named = false≢true (group is)
not_unnamed word user group mask other Group is named = false≢true (group is)
not_unnamed word user group mask other Mask is named = false≢true (mask is)
not_unnamed word user group mask other Other is named = false≢true (other is)

pub returns-else-is_either-4-clause-only : goal.returns-else-is_either-4-clause-only
returns-else-is_either-4-clause-only c = λ tag is named.
    absurd (not_unnamed c.args.word.now c.if-is_either.ensures.1 c.if-is_either-2.ensures.1
    c.if-is_either-3.ensures.1 c.if-is_either-4.ensures.1 tag is
    (named ∙ c.if-named-3.false))
