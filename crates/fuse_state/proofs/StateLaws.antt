-- The laws of nodes.
--     lead_back, lead_nowhere, born_led_nowhere, others_stay        the node of an object, of one before it, of a new one, and of others
use Rattle.std.specs.Prelude.{◌≡◌, ◌≢◌, ◌==◌, ℕ, ◌+◌, ◌*◌, ◌%◌, ◌/◌, ◌^◌, ◌<◌, Bool, true, false, cond, if◌then◌else◌, List, unwrap_or, None, Some, refl}
use Rattle.std.proofs.Common.{sym, ap, ◌∙◌, arith}
use Rattle.std.specs.Ordering.{nat_cmp}
use Rattle.std.proofs.lemmas.Bool.Decides.{nat_tests}
use Rattle.fs_layout.specs.Maps.{get, with_entry}
use Rattle.fs_layout.proofs.FirstEntries.{apart, ties}
use Rattle.fs_layout.proofs.MapLaws.{get-with_entry}
use Rattle.fuse_state.specs.Changes.{with_new_object}
use Rattle.fuse_state.specs.Laws.{NodesLeadBack, StaleNodesLeadNowhere, NewNodesLedNowhere, OtherNodesStay}
use Rattle.fuse_state.specs.Servers.{generation_of, node_of}

chosen : (b : Bool) (m n : ℕ) → b ≡ true → m ≡ n → (if b then Some m else None) ≡ Some n
chosen true m n same is = ap Some is
chosen false m n same is = absurd (let no : false ≡ true = same in cc)

not_chosen : (b : Bool) (m : ℕ) → b ≡ false → (if b then Some m else None) ≡ None
not_chosen true m other = absurd (let no : true ≡ false = other in cc)
not_chosen false m other = refl

low_part : (g n : ℕ) → n < 2 ^ 32 → (2 ^ 32 * g + n) % 2 ^ 32 ≡ n
low_part g n lt = omega arith

high_part : (g n : ℕ) → n < 2 ^ 32 → (2 ^ 32 * g + n) / 2 ^ 32 ≡ g
high_part g n lt = omega arith

equal : (a b : ℕ) → a ≡ b → (a == b) ≡ true
equal a b same = grind (arith, nat_tests)

unequal : (a b : ℕ) → a ≢ b → (a == b) ≡ false
unequal a b other = grind (arith, nat_tests)

pub lead_back : NodesLeadBack
lead_back s n lt =
    let low = low_part (generation_of s n) n lt in
    let high = high_part (generation_of s n) n lt in
    chosen _ (node_of s n % 2 ^ 32) n
    (equal (generation_of s (node_of s n % 2 ^ 32)) (node_of s n / 2 ^ 32) (ap (generation_of s) low ∙ sym high)) low

-- the generation of a number in a map where it has been set
set_same : (m : List (ℕ × ℕ)) (n g : ℕ) → unwrap_or (get nat_cmp (with_entry nat_cmp m n g) n) 0 ≡ g
set_same m n g =
    ap (λ o. unwrap_or o 0) (get-with_entry m n g n ∙ ap (λ b. cond b (Some g) (get nat_cmp m n)) (ties n n refl))

set_other : (m : List (ℕ × ℕ)) (n g q : ℕ) → q ≢ n → get nat_cmp (with_entry nat_cmp m n g) q ≡ get nat_cmp m q
set_other m n g q other = get-with_entry m n g q ∙ ap (λ b. cond b (Some g) (get nat_cmp m q)) (apart q n other)

one_more : (g : ℕ) → (g + 1) % 2 ^ 32 ≢ g
one_more g same = omega arith

pub lead_nowhere : StaleNodesLeadNowhere
lead_nowhere s now d n lt small =
    let t = with_new_object now d n s in
    let g = generation_of s n in
    let low = low_part g n lt in
    let new : generation_of t (node_of s n % 2 ^ 32) ≡ (g + 1) % 2 ^ 32 = ap (generation_of t) low ∙ set_same s.generations n ((g + 1) % 2 ^ 32) in
    let other : generation_of t (node_of s n % 2 ^ 32) ≢ node_of s n / 2 ^ 32 = λ same. one_more g (sym new ∙ same ∙ high_part g n lt) in
    not_chosen _ _ (unequal _ _ other)

pub born_led_nowhere : NewNodesLedNowhere
born_led_nowhere s now d n lt =
    let next = generation_of (with_new_object now d n s) n in
    let node = 2 ^ 32 * next + n in
    let is : next ≡ (generation_of s n + 1) % 2 ^ 32 = set_same s.generations n ((generation_of s n + 1) % 2 ^ 32) in
    let other : generation_of s (node % 2 ^ 32) ≢ node / 2 ^ 32 =
    λ same. one_more (generation_of s n) (sym is ∙ sym (high_part next n lt) ∙ sym same ∙ ap (generation_of s) (low_part next n lt)) in
    not_chosen _ _ (unequal _ _ other)

pub others_stay : OtherNodesStay
others_stay s now d n m other =
    ap (λ o. 2 ^ 32 * unwrap_or o 0 + m) (set_other s.generations n ((generation_of s n + 1) % 2 ^ 32) m other)
