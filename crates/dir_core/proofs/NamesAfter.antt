-- The names of slots, where one is added, replaced or removed.
use Rattle.std.specs.Prelude.{◌≡◌, ◌≢◌, ℕ, ◌-◌, ◌<◌, List, [], ◌∷◌, ◌++◌, length, set, get_or, Bool, true, false, Option, None, Some, All, Contains}
use Rattle.std.proofs.Common.{refl, sym, ap, subst, arith, ◌∙◌, inl, inr, ◌⊎◌}
use Rattle.std.specs.List.{swap_remove}
use Rattle.std.specs.List.Sorted.{IsPermutation}
use Rattle.std.specs.Ordering.{eq_by_cmp, is_eq}
use Rattle.std.specs.Cmp.{tied_itself}
use Rattle.std.proofs.lemmas.Cmp.{nat_list_cmp_total}
use Rattle.std.proofs.lemmas.Bool.{cases_eq, cases_lt, true≢false}
use Rattle.std.proofs.lemmas.List.Elements.{All-push}
use Rattle.std.proofs.lemmas.List.{length-take, length-set, get_or-take, get_or-set_same, get_or-set_other, get_or_default}
use Rattle.std.proofs.lemmas.List.Kept.{AllPairs-cons}
use Rattle.std.proofs.lemmas.List.Quantifiers.{all_pairs_push}
use Rattle.std.proofs.lemmas.List.Sorted.{IsPermutation-to_front, IsPermutation-swap_remove, IsPermutation-sym, Contains-permutation}
use Rattle.fs_layout.specs.declared.version.Version.{Version}
use Rattle.fs_layout.specs.Maps.{name_cmp, get, with_entry, without, IsMap}
use Rattle.fs_layout.specs.Directories.{NamedInode, FitsSlot, HaveDistinctNames, names_of_slots}
use Rattle.fs_layout.proofs.MapEntries.{names_have_entries}
use Rattle.fs_layout.proofs.NameMaps.{tied_names}
use Rattle.fs_layout.proofs.ReadNames.{are_names_of}
use Rattle.fs_layout.proofs.SlotNames.{slot_leads}

-- ---- two maps of names
abbrev Names : Type 0
Names = List (List ℕ × ℕ)

-- what each has the other has
same_there : (m n : Names) (q : List ℕ) → ((x : ℕ) → get name_cmp m q ≡ Some x → get name_cmp n q ≡ Some x) → ((x : ℕ) → get name_cmp n q ≡ Some x → get name_cmp m q ≡ Some x)
    → get name_cmp m q ≡ get name_cmp n q
same_there m n q there back = go (get name_cmp m q) (get name_cmp n q) refl refl
  where
    go : (a b : Option ℕ) → get name_cmp m q ≡ a → get name_cmp n q ≡ b → get name_cmp m q ≡ get name_cmp n q
    go (Some x) b e f = e ∙ sym (there x e)
    go None (Some x) e f = back x f ∙ sym f
    go None None e f = e ∙ sym f

-- two names are one or two
pub cases_name : (a b : List ℕ) → (a ≡ b) ⊎ (a ≢ b)
cases_name a b = go (eq_by_cmp name_cmp a b) refl
  where
    itself : eq_by_cmp name_cmp a a ≡ true
    itself = ap is_eq (tied_itself nat_list_cmp_total a)

    go : (t : Bool) → eq_by_cmp name_cmp a b ≡ t → (a ≡ b) ⊎ (a ≢ b)
    go true e = inl (tied_names a b e)
    go false e = inr (λ same. true≢false (sym itself ∙ ap (eq_by_cmp name_cmp a) same ∙ e))

-- ---- in any order
pub names_in_any_order : (xs ys : List NamedInode) → IsPermutation xs ys → HaveDistinctNames xs → HaveDistinctNames ys → names_of_slots xs ≡ names_of_slots ys
names_in_any_order xs ys order apart_x apart_y =
    let x = are_names_of xs apart_x in
    let y = are_names_of ys apart_y in
    names_have_entries.one (names_of_slots xs) (names_of_slots ys) x.map_is y.map_is (λ q.
    same_there (names_of_slots xs) (names_of_slots ys) q
    (λ n e. (y.each q n).1 (Contains-permutation xs ys (record { ino = n; name = q }) order ((x.each q n).0 e)))
    (λ n e. (x.each q n).1 (Contains-permutation ys xs (record { ino = n; name = q }) (IsPermutation-sym xs ys order) ((y.each q n).0 e))))

-- ---- a name that no slot has
pub no_such_name : (slots : List NamedInode) (name : List ℕ) → HaveDistinctNames slots → get name_cmp (names_of_slots slots) name ≡ None
    → (k : ℕ) (d : NamedInode) → k < length slots → (get_or slots k d).name ≢ name
no_such_name slots name apart none k d lt e = some_none (sym (slot_leads slots d k apart lt) ∙ ap (get name_cmp (names_of_slots slots)) e ∙ none)
  where
    some_none : {n : ℕ} → Some n ≡ None → ⊥
    some_none f = cc

-- and one that a slot has
pub slot_name_leads : (slots : List NamedInode) (k : ℕ) (x : NamedInode) → HaveDistinctNames slots → k < length slots → get_or slots k x ≡ x
    → get name_cmp (names_of_slots slots) x.name ≡ Some x.ino
slot_name_leads slots k x apart lt is =
    ap (λ (y : NamedInode). get name_cmp (names_of_slots slots) y.name) (sym is) ∙ slot_leads slots x k apart lt ∙ ap (λ (y : NamedInode). Some y.ino) is

-- a name that no slot has leads nowhere
pub unnamed : (slots : List NamedInode) (name : List ℕ) → HaveDistinctNames slots → ((k : ℕ) (d : NamedInode) → k < length slots → (get_or slots k d).name ≢ name)
    → get name_cmp (names_of_slots slots) name ≡ None
unnamed slots name apart other = go (get name_cmp (names_of_slots slots) name) refl
  where
    go : (o : Option ℕ) → get name_cmp (names_of_slots slots) name ≡ o → o ≡ None
    go None e = refl
    go (Some n) e =
        let found = ((are_names_of slots apart).each name n).0 e in
        absurd (other found.0 (record { ino = n; name = name }) found.1 (ap (λ (y : NamedInode). y.name) found.2))

-- an entry that is set and removed
with_and_without : (m : Names) (name : List ℕ) (n : ℕ) → IsMap name_cmp m → get name_cmp m name ≡ None → m ≡ without name_cmp (with_entry name_cmp m name n) name
with_and_without m name n is none =
    let l = names_have_entries in
    l.one m (without name_cmp (with_entry name_cmp m name n) name) is (l.without_is (with_entry name_cmp m name n) name (l.with_is m name n is)) (λ q.
    elim (cases_name q name) [
      | inl e ↦ ap (get name_cmp m) e ∙ none ∙ sym (l.gone (with_entry name_cmp m name n) name) ∙ ap (get name_cmp (without name_cmp (with_entry name_cmp m name n) name)) (sym e)
      | inr ne ↦ sym (l.left (with_entry name_cmp m name n) name q ne ∙ l.others m name q n ne)
    ])

-- and one that is removed and set
pub without_and_with : (m : Names) (name : List ℕ) (n : ℕ) → IsMap name_cmp m → with_entry name_cmp (without name_cmp m name) name n ≡ with_entry name_cmp m name n
without_and_with m name n is =
    let l = names_have_entries in
    let rest : Names = without name_cmp m name in
    l.one (with_entry name_cmp rest name n) (with_entry name_cmp m name n) (l.with_is rest name n (l.without_is m name is)) (l.with_is m name n is) (λ q.
    elim (cases_name q name) [
      | inl e ↦
          ap (get name_cmp (with_entry name_cmp rest name n)) e ∙ l.here rest name n ∙ sym (l.here m name n) ∙ ap (get name_cmp (with_entry name_cmp m name n)) (sym e)
      | inr ne ↦ l.others rest name q n ne ∙ l.left m name q ne ∙ sym (l.others m name q n ne)
    ])

-- ---- one more
pub apart_added : (slots : List NamedInode) (x : NamedInode) → HaveDistinctNames slots → get name_cmp (names_of_slots slots) x.name ≡ None → HaveDistinctNames (slots ++ x ∷ [])
apart_added slots x apart none = all_pairs_push (λ a b. a.name ≢ b.name) slots x apart (λ k d lt. no_such_name slots x.name apart none k d lt)

pub apart_first : (slots : List NamedInode) (x : NamedInode) → HaveDistinctNames slots → ((k : ℕ) (d : NamedInode) → k < length slots → (get_or slots k d).name ≢ x.name)
    → HaveDistinctNames (x ∷ slots)
apart_first slots x apart other = AllPairs-cons (λ a b. a.name ≢ b.name) x slots (λ k d lt e. other k d lt (sym e)) apart

pub names_added : (slots : List NamedInode) (x : NamedInode) → HaveDistinctNames slots → get name_cmp (names_of_slots slots) x.name ≡ None
    → names_of_slots (slots ++ x ∷ []) ≡ with_entry name_cmp (names_of_slots slots) x.name x.ino
unfolding names_of_slots
names_added slots x apart none =
    names_in_any_order (slots ++ x ∷ []) (x ∷ slots) (IsPermutation-to_front slots x) (apart_added slots x apart none) (apart_first slots x apart (no_such_name slots x.name apart none))

pub fits_added : {version : Version} (slots : List NamedInode) (x : NamedInode) → All (FitsSlot version) slots → FitsSlot version x → All (FitsSlot version) (slots ++ x ∷ [])
fits_added {version} slots x fits fit = All-push (FitsSlot version) slots x fits fit

pub fits_set : {version : Version} (slots : List NamedInode) (i : ℕ) (x : NamedInode) → i < length slots → All (FitsSlot version) slots → FitsSlot version x
    → All (FitsSlot version) (set slots i x)
fits_set {version} slots i x lt fits fit k d small =
    let less : k < length slots = omega (arith, small, length-set slots i x) in
    elim (cases_eq k i) [
      | inl e ↦ subst (FitsSlot version) (sym (ap (λ (j : ℕ). get_or (set slots i x) j d) e ∙ get_or-set_same slots i x d lt)) fit
      | inr ne ↦ subst (FitsSlot version) (sym (get_or-set_other slots i k x d ne)) (fits k d less)
    ]

-- ---- one less
module _ (slots : List NamedInode) (i : ℕ) (x : NamedInode) (lt : i < length slots) where
  abbrev last : NamedInode
  last = get_or slots (length slots - 1) x

  abbrev moved : List NamedInode
  moved = swap_remove slots i x

  pub length-moved : length moved ≡ length slots - 1
  length-moved = omega (arith, length-take (length slots - 1) (set slots i last), length-set slots i last)

  -- the last slot stands in the place of the one that is removed, and each other one where it stood
  moved_here : (k : ℕ) (d : NamedInode) → k < length slots - 1 → k ≡ i → get_or moved k d ≡ get_or slots (length slots - 1) d
  moved_here k d less e =
      get_or-take (length slots - 1) (set slots i last) k d less
      ∙ ap (λ (j : ℕ). get_or (set slots i last) j d) e
      ∙ get_or-set_same slots i last d lt
      ∙ get_or_default slots (length slots - 1) x d (omega (arith, lt))

  moved_there : (k : ℕ) (d : NamedInode) → k < length slots - 1 → k ≢ i → get_or moved k d ≡ get_or slots k d
  moved_there k d less ne = get_or-take (length slots - 1) (set slots i last) k d less ∙ get_or-set_other slots i k last d ne

  -- none has the name of the one that is removed
  other_names : HaveDistinctNames slots → (k : ℕ) (d : NamedInode) → k < length moved → (get_or moved k d).name ≢ (get_or slots i d).name
  other_names apart k d small e =
      let less : k < length slots - 1 = omega (arith, small, length-moved) in
      elim (cases_eq k i) [
        | inl here ↦ apart i (length slots - 1) d (omega (arith, here, less)) (omega (arith, lt)) (sym (ap (λ (y : NamedInode). y.name) (sym (moved_here k d less here)) ∙ e))
        | inr ne ↦
            let was : (get_or slots k d).name ≡ (get_or slots i d).name = ap (λ (y : NamedInode). y.name) (sym (moved_there k d less ne)) ∙ e in
            elim (cases_lt k i) [
              | inl before ↦ apart k i d before lt was
              | inr past ↦ apart i k d (omega (arith, past, ne)) (omega (arith, less)) (sym was)
            ]
      ]

  pub apart_moved : HaveDistinctNames slots → HaveDistinctNames moved
  apart_moved apart j k d before small e =
      let less : k < length slots - 1 = omega (arith, small, length-moved) in
      elim (cases_eq j i) [
        | inl here ↦
            apart k (length slots - 1) d less (omega (arith, lt))
            (ap (λ (y : NamedInode). y.name) (sym (moved_there k d less (omega (arith, here, before)))) ∙ sym e
            ∙ ap (λ (y : NamedInode). y.name) (moved_here j d (omega (arith, before, less)) here))
        | inr j_ne ↦
            let first : (get_or slots j d).name ≡ (get_or moved k d).name = ap (λ (y : NamedInode). y.name) (sym (moved_there j d (omega (arith, before, less)) j_ne)) ∙ e in
            elim (cases_eq k i) [
              | inl here ↦ apart j (length slots - 1) d (omega (arith, before, less)) (omega (arith, lt)) (first ∙ ap (λ (y : NamedInode). y.name) (moved_here k d less here))
              | inr k_ne ↦ apart j k d before (omega (arith, less)) (first ∙ ap (λ (y : NamedInode). y.name) (moved_there k d less k_ne))
            ]
      ]

  pub fits_moved : {version : Version} → All (FitsSlot version) slots → All (FitsSlot version) moved
  fits_moved {version} fits k d small =
      let less : k < length slots - 1 = omega (arith, small, length-moved) in
      elim (cases_eq k i) [
        | inl here ↦ subst (FitsSlot version) (sym (moved_here k d less here)) (fits (length slots - 1) d (omega (arith, lt)))
        | inr ne ↦ subst (FitsSlot version) (sym (moved_there k d less ne)) (fits k d (omega (arith, less)))
      ]

  -- and the names are those of the slots, without that of the one that is removed
  pub names_moved : HaveDistinctNames slots → get_or slots i x ≡ x → names_of_slots moved ≡ without name_cmp (names_of_slots slots) x.name
  unfolding names_of_slots
  names_moved apart is =
      let other : (k : ℕ) (d : NamedInode) → k < length moved → (get_or moved k d).name ≢ x.name =
      λ k d small e. other_names apart k x small
      (ap (λ (y : NamedInode). y.name) (get_or_default moved k x d small) ∙ e ∙ ap (λ (y : NamedInode). y.name) (sym is)) in
      let rest : HaveDistinctNames moved = apart_moved apart in
      let all : names_of_slots slots ≡ with_entry name_cmp (names_of_slots moved) x.name x.ino =
      names_in_any_order slots (x ∷ moved) (IsPermutation-swap_remove slots i x lt (sym is)) apart (apart_first moved x rest other) in
      with_and_without (names_of_slots moved) x.name x.ino (are_names_of moved rest).map_is (unnamed moved x.name rest other)
      ∙ ap (λ (m : Names). without name_cmp m x.name) (sym all)

-- ---- one in the place of another
-- no slot but this one has the name
abbrev pub IsNameOfOne : List NamedInode → ℕ → List ℕ → Type 0
IsNameOfOne slots i name = (k : ℕ) (d : NamedInode) → k < length slots → k ≢ i → (get_or slots k d).name ≢ name

-- the name of a slot
pub its_own_name : (slots : List NamedInode) (i : ℕ) (x : NamedInode) → HaveDistinctNames slots → i < length slots → get_or slots i x ≡ x → IsNameOfOne slots i x.name
its_own_name slots i x apart lt is k d less ne e =
    let here : (get_or slots k d).name ≡ (get_or slots i d).name = e ∙ ap (λ (y : NamedInode). y.name) (sym is ∙ get_or_default slots i x d lt) in
    elim (cases_lt k i) [
      | inl before ↦ apart k i d before lt here
      | inr past ↦ apart i k d (omega (arith, past, ne)) less (sym here)
    ]

module _ (slots : List NamedInode) (i : ℕ) (x y : NamedInode) (lt : i < length slots) (is : get_or slots i x ≡ x) (alone : IsNameOfOne slots i y.name) (apart : HaveDistinctNames slots) where
  abbrev after : List NamedInode
  after = set slots i y

  within : (k : ℕ) → k < length after → k < length slots
  within k small = omega (arith, small, length-set slots i y)

  -- the slot has its new name alone
  set_alone : (k : ℕ) (d : NamedInode) → k < length after → k ≢ i → (get_or after k d).name ≢ y.name
  set_alone k d small ne e = alone k d (within k small) ne (ap (λ (z : NamedInode). z.name) (sym (get_or-set_other slots i k y d ne)) ∙ e)

  set_here : (k : ℕ) (d : NamedInode) → k ≡ i → get_or after k d ≡ y
  set_here k d e = ap (λ (j : ℕ). get_or after j d) e ∙ get_or-set_same slots i y d lt

  pub apart_set : HaveDistinctNames after
  apart_set j k d before small e =
      elim (cases_eq j i) [
        | inl here ↦ set_alone k d small (omega (arith, here, before)) (sym e ∙ ap (λ (z : NamedInode). z.name) (set_here j d here))
        | inr j_ne ↦ elim (cases_eq k i) [
          | inl here ↦ set_alone j d (omega (arith, before, small)) j_ne (e ∙ ap (λ (z : NamedInode). z.name) (set_here k d here))
          | inr k_ne ↦
              apart j k d before (within k small)
              (ap (λ (z : NamedInode). z.name) (sym (get_or-set_other slots i j y d j_ne)) ∙ e ∙ ap (λ (z : NamedInode). z.name) (get_or-set_other slots i k y d k_ne))
        ]
      ]

  -- a slot of a third name stands in both
  stands_in_both : (q : List ℕ) (n : ℕ) → q ≢ y.name → Contains after (record { ino = n; name = q }) → Contains slots (record { ino = n; name = q })
  stands_in_both q n ne (k, small, there) =
      let z : NamedInode = record { ino = n; name = q } in (
        k,
        within k small,
        elim (cases_eq k i) [
          | inl e ↦ absurd (ne (ap (λ (w : NamedInode). w.name) (sym there ∙ set_here k z e)))
          | inr other ↦ sym (get_or-set_other slots i k y z other) ∙ there
        ],
      )

  stood_in_both : (q : List ℕ) (n : ℕ) → q ≢ x.name → Contains slots (record { ino = n; name = q }) → Contains after (record { ino = n; name = q })
  stood_in_both q n ne (k, less, there) =
      let z : NamedInode = record { ino = n; name = q } in (
        k,
        omega (arith, less, length-set slots i y),
        elim (cases_eq k i) [
          | inl e ↦ absurd (ne (ap (λ (w : NamedInode). w.name) (sym there ∙ ap (λ (j : ℕ). get_or slots j z) e ∙ get_or_default slots i z x lt ∙ is)))
          | inr other ↦ get_or-set_other slots i k y z other ∙ there
        ],
      )

  -- the old name is gone, where it is another one
  old_is_gone : x.name ≢ y.name → (k : ℕ) (d : NamedInode) → k < length after → (get_or after k d).name ≢ x.name
  old_is_gone ne k d small e =
      elim (cases_eq k i) [
        | inl here ↦ ne (sym e ∙ ap (λ (z : NamedInode). z.name) (set_here k d here))
        | inr other ↦ its_own_name slots i x apart lt is k d (within k small) other (ap (λ (z : NamedInode). z.name) (sym (get_or-set_other slots i k y d other)) ∙ e)
      ]

  -- each name but the new one leads where it led, and the old one nowhere
  leads_on : (q : List ℕ) → q ≢ y.name → get name_cmp (names_of_slots after) q ≡ get name_cmp (without name_cmp (names_of_slots slots) x.name) q
  leads_on q ne =
      let l = names_have_entries in
      let now = are_names_of after apart_set in
      let was = are_names_of slots apart in
      elim (cases_name q x.name) [
        | inl e ↦
            unnamed after q apart_set (λ k d small f. old_is_gone (λ g. ne (e ∙ g)) k d small (f ∙ e))
            ∙ sym (l.gone (names_of_slots slots) x.name)
            ∙ ap (get name_cmp (without name_cmp (names_of_slots slots) x.name)) (sym e)
        | inr other ↦
            same_there (names_of_slots after) (names_of_slots slots) q
            (λ n f. (was.each q n).1 (stands_in_both q n ne ((now.each q n).0 f)))
            (λ n f. (now.each q n).1 (stood_in_both q n other ((was.each q n).0 f)))
            ∙ sym (l.left (names_of_slots slots) x.name q other)
      ]

  pub names_set : names_of_slots after ≡ with_entry name_cmp (without name_cmp (names_of_slots slots) x.name) y.name y.ino
  names_set =
      let l = names_have_entries in
      let now = are_names_of after apart_set in
      let rest : Names = without name_cmp (names_of_slots slots) x.name in
      let rest_is = l.without_is (names_of_slots slots) x.name (are_names_of slots apart).map_is in
      l.one (names_of_slots after) (with_entry name_cmp rest y.name y.ino) now.map_is (l.with_is rest y.name y.ino rest_is) (λ q.
      elim (cases_name q y.name) [
        | inl e ↦
            ap (get name_cmp (names_of_slots after)) e
            ∙ slot_name_leads after i y apart_set (omega (arith, lt, length-set slots i y)) (get_or-set_same slots i y y lt)
            ∙ sym (l.here rest y.name y.ino)
            ∙ ap (get name_cmp (with_entry name_cmp rest y.name y.ino)) (sym e)
        | inr ne ↦ leads_on q ne ∙ sym (l.others rest y.name q y.ino ne)
      ])
