use Rattle.fs_check.proofs.SectorAcls.{none_there}
use Rattle.std.proofs.Common.{◌≡◌, ◌<◌, ◌+◌, ℕ, List, [], ◌∷◌, ◌++◌, length, get_or, take, map, refl, sym, ap, arith, ◌∙◌}
use Rattle.std.proofs.lemmas.Bool.{false≢true}
use Rattle.std.proofs.lemmas.List.{map-append, take_more, take_all}
use Rattle.posix_acl.specs.declared.entry.Entry.{Entry}
use Rattle.posix_acl.specs.declared.entry.EntryNumbers.{EntryNumbers}
use Rattle.posix_acl.specs.Entries.{numbers_of}
use Rattle.fs_check.proofs.acls.fill_entries.Goals as goal

pub returns-in_default-clause-none : goal.returns-in_default-clause-none
returns-in_default-clause-none c = λ f.
    none_there c.args.numbers.now c.loop-one.one-index _ c.from_numbers.result c.loop-one-test.true c.from_numbers.ensures.only c.in_default.is

no_numbers : (es : List Entry) → length es ≡ 0 → map numbers_of es ≡ []
no_numbers [] none = refl
no_numbers (e ∷ es) some = absurd (omega (arith, some))

one_more : (es fs : List Entry) (e : Entry) (ns : List EntryNumbers) (i : ℕ) (d : EntryNumbers)
    → fs ≡ es ++ e ∷ [] → i < length ns → map numbers_of es ≡ take i ns → numbers_of e ≡ get_or ns i d
    → map numbers_of fs ≡ take (i + 1) ns
one_more es fs e ns i d is lt so_far here =
    ap (map numbers_of) is ∙ map-append numbers_of es (e ∷ [])
    ∙ ap (λ (l : List EntryNumbers). l ++ numbers_of e ∷ []) so_far
    ∙ ap (λ (n : EntryNumbers). take i ns ++ n ∷ []) here ∙ sym (take_more ns i d lt)

pub loop-one-init : goal.loop-one-init
loop-one-init c = no_numbers c.args.entries.now.items c.requires.none

pub loop-one-preserved : goal.loop-one-preserved
loop-one-preserved c =
    one_more c.loop-one.entries.items c.push_reserved.new.self.items c.in-Some.entry c.args.numbers.now
    c.loop-one.one-index _
    c.push_reserved.ensures.items c.loop-one-test.true c.loop-one.invariant c.in-Some.ensures.found

pub returns : goal.returns
returns c = record {
  all = λ t. c.loop-one.invariant ∙ take_all c.loop-one.one-index c.args.numbers.now c.loop-one-test.false;
  none = λ f. absurd (false≢true (sym f));
}
