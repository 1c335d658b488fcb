-- The descriptors of a process are 32 slots.
use Rattle.std.proofs.Common.{◌≡◌, ℕ, ◌+◌, ◌<◌, ◌≤◌, Bool, true, false, ◌||◌, ◌==◌, cond, List, length, set, take, drop, get_or, Option, None, Some, refl, sym, ap, ◌∙◌, arith, zero-add, add-one}
use Rattle.std.specs.Prelude.{nat_le, IfSome}
use Rattle.std.specs.List.{list_any, position}
use Rattle.std.specs.Option.{is_none}
use Rattle.std.specs.Ordering.{nat_cmp}
use Rattle.std.proofs.lemmas.Bool.Decides.{nat_tests}
use Rattle.std.proofs.lemmas.Iterator.Adapters.{position_from-zero}
use Rattle.std.proofs.lemmas.List.{get_or_default, get_or_past, take_all}
use Rattle.std.proofs.lemmas.List.Folds.{list_any_at}
use Rattle.std.proofs.lemmas.List.Quantifiers.{position-Some}
use Rattle.slab.specs.Slab.{entries_from}
use Rattle.fs_layout.specs.Maps.{get, with_entry, without}
use Rattle.fs_model.specs.Limits.{descriptors_limit}
use Rattle.fs_model.specs.Processes.{Descriptor, least_unused}
use Rattle.open_files.specs.Tables.{AreDescriptors, lowest}
use Rattle.open_files.proofs.Slots.{at_slot, slots_rise, filled, emptied, first_empty, within, set_writes, holds, any_slot, any_split}

pub at_fd : (slots : List (Option Descriptor)) (fd : ℕ) → get nat_cmp (entries_from 0 slots) fd ≡ get_or slots fd None
at_fd slots fd = ap (get nat_cmp (entries_from 0 slots)) (sym (zero-add fd)) ∙ at_slot 0 slots fd

-- what is read of a slot
pub read_slot : (slots : List (Option Descriptor)) (fd : ℕ) (x : Option Descriptor) → fd < length slots → get_or slots fd x ≡ get nat_cmp (entries_from 0 slots) fd
read_slot slots fd x lt = get_or_default slots fd x None lt ∙ sym (at_fd slots fd)

pub no_slot : (slots : List (Option Descriptor)) (fd : ℕ) → length slots ≤ fd → get nat_cmp (entries_from 0 slots) fd ≡ None
no_slot slots fd le = at_fd slots fd ∙ get_or_past slots fd None le

pub put_in : (slots : List (Option Descriptor)) (fd : ℕ) (d : Descriptor) → fd < length slots
    → entries_from 0 (set slots fd (Some d)) ≡ with_entry nat_cmp (entries_from 0 slots) fd d
put_in slots fd d lt =
    filled 0 slots (set slots fd (Some d)) fd d (set_writes slots fd (Some d) lt)
    ∙ ap (λ n. with_entry nat_cmp (entries_from 0 slots) n d) (zero-add fd)

pub taken_out : (slots : List (Option Descriptor)) (fd : ℕ) → fd < length slots
    → entries_from 0 (set slots fd None) ≡ without nat_cmp (entries_from 0 slots) fd
taken_out slots fd lt =
    emptied 0 slots (set slots fd None) fd (set_writes slots fd None lt)
    ∙ ap (λ n. without nat_cmp (entries_from 0 slots) n) (zero-add fd)

pub are_descriptors : (slots : List (Option Descriptor)) → length slots ≡ descriptors_limit → AreDescriptors (entries_from 0 slots)
are_descriptors slots many = record {
  rising = slots_rise 0 slots;
  below = λ fd d e. let lt = within slots fd d (sym (at_fd slots fd) ∙ e) in omega (arith, lt, many);
}

-- ---- the first empty slot

pub lowest_in : (slots : List (Option Descriptor)) → length slots ≡ descriptors_limit → position is_none slots ≡ lowest (entries_from 0 slots)
lowest_in slots many =
    position_from-zero is_none slots ∙ first_empty is_none refl (λ d. refl) 0 slots
    ∙ ap (λ n. cond (nat_le n (length (entries_from 0 slots))) None (Some (least_unused 0 (entries_from 0 slots)))) many

nothing : (o : Option Descriptor) → is_none o ≡ true → o ≡ None
nothing None e = refl
nothing (Some d) e = absurd cc

pub empty_below : (slots : List (Option Descriptor)) → length slots ≡ descriptors_limit → (r : Option ℕ) → r ≡ position is_none slots
    → IfSome r (λ fd. fd < descriptors_limit)
empty_below slots many None e = tt
empty_below slots many (Some fd) e =
    let lt : fd < length slots = (position-Some is_none slots fd None (sym e)).0 in
    omega (arith, lt, many)

pub empty_unused : (slots : List (Option Descriptor)) (r : Option ℕ) → r ≡ position is_none slots
    → IfSome r (λ fd. get nat_cmp (entries_from 0 slots) fd ≡ None)
empty_unused slots None e = tt
empty_unused slots (Some fd) e = at_fd slots fd ∙ nothing (get_or slots fd None) (position-Some is_none slots fd None (sym e)).1

-- ---- an inode that is open

abbrev pub has_number : ℕ → Descriptor → Bool
has_number ino d = d.ino == ino

pub found_in : (slots : List (Option Descriptor)) (i : ℕ) (x : Option Descriptor) (d : Descriptor) (ino : ℕ) → i < length slots
    → x ≡ get_or slots i x → x ≡ Some d → d.ino ≡ ino → true ≡ list_any (λ (e : ℕ × Descriptor). e.1.ino == ino) (entries_from 0 slots)
found_in slots i x d ino lt is some same =
    let tests : (d.ino == ino) ≡ true = grind (arith, nat_tests) in
    let here : get_or slots i None ≡ Some d = sym (get_or_default slots i x None lt) ∙ sym is ∙ some in
    let holds_here : holds (has_number ino) (get_or slots i None) ≡ true = ap (holds (has_number ino)) here ∙ tests in
    sym (sym (any_slot (has_number ino) 0 slots) ∙ list_any_at (holds (has_number ino)) slots i None lt holds_here)

pub found_nowhere : (slots : List (Option Descriptor)) (i ino : ℕ) → length slots ≤ i → list_any (holds (has_number ino)) (take i slots) ≡ false
    → false ≡ list_any (λ (e : ℕ × Descriptor). e.1.ino == ino) (entries_from 0 slots)
found_nowhere slots i ino le none =
    sym (sym (any_slot (has_number ino) 0 slots) ∙ ap (list_any (holds (has_number ino))) (sym (take_all i slots le)) ∙ none)

-- before a slot or after it
pub found_besides : (slots : List (Option Descriptor)) (fd ino : ℕ) → fd < length slots
    → (list_any (λ (e : ℕ × Descriptor). e.1.ino == ino) (entries_from 0 (take fd slots))
    || list_any (λ (e : ℕ × Descriptor). e.1.ino == ino) (entries_from 0 (drop (fd + 1) slots)))
    ≡ list_any (λ (e : ℕ × Descriptor). e.1.ino == ino) (without nat_cmp (entries_from 0 slots) fd)
found_besides slots fd ino lt =
    ap (λ b. b || list_any (λ (e : ℕ × Descriptor). e.1.ino == ino) (entries_from 0 (drop (fd + 1) slots)))
    (sym (any_slot (has_number ino) 0 (take fd slots)))
    ∙ ap (λ b. list_any (holds (has_number ino)) (take fd slots) || b) (sym (any_slot (has_number ino) 0 (drop (fd + 1) slots)))
    ∙ ap (λ n. list_any (holds (has_number ino)) (take fd slots) || list_any (holds (has_number ino)) (drop n slots)) (add-one fd)
    ∙ sym (any_split (has_number ino) fd slots lt) ∙ any_slot (has_number ino) 0 (set slots fd None)
    ∙ ap (list_any (λ (e : ℕ × Descriptor). e.1.ino == ino)) (taken_out slots fd lt)

pub besides_before : (a b w r : Bool) → r ≡ a → r ≡ true → (a || b) ≡ w → r ≡ w
besides_before true b w r e t h = e ∙ h
besides_before false b w r e t h = absurd (let no : true ≡ false = sym t ∙ e in cc)

pub besides_after : (a b w q r : Bool) → q ≡ a → q ≡ false → r ≡ b → (a || b) ≡ w → r ≡ w
besides_after false b w q r e t s h = s ∙ h
besides_after true b w q r e t s h = absurd (let no : false ≡ true = sym t ∙ e in cc)
