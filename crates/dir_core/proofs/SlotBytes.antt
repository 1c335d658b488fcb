-- The bytes of slots, where one is added, replaced or cut off.
use Rattle.std.specs.Prelude.{◌≡◌, ℕ, suc, ◌+◌, ◌-◌, ◌*◌, ◌<◌, ◌≤◌, List, [], ◌∷◌, ◌++◌, length, take, drop, set, get_or, replicate, All}
use Rattle.std.proofs.Common.{sym, ap, subst, arith, ◌∙◌}
use Rattle.std.proofs.lemmas.List.{append-nil, append_assoc, length-append, length-take, length-take-le, get_or-take, set-get_or, take_at, drop_at, take_all, drop_all, take-append-drop, set_split}
use Rattle.std.proofs.lemmas.List.Concat.{flat_map-cons}
use Rattle.std.proofs.lemmas.Grind.{flat_map-append}
use Rattle.fs_layout.specs.declared.version.Version.{Version}
use Rattle.fs_layout.specs.Version.{slot_size}
use Rattle.fs_layout.specs.Bytes.{splice, window, resized, overwritten}
use Rattle.fs_layout.specs.Directories.{NamedInode, FitsSlot, slot_bytes, slots_bytes}
use Rattle.fs_layout.proofs.ImageSlots.{length-slots}
use Rattle.fs_layout.proofs.SlotLaw.{length-slot_bytes}
use Rattle.dir_core.proofs.SlotPlaces.{slots_fewer}

-- each slot has as many bytes
pub slot_len : (version : Version) (x : NamedInode) → FitsSlot version x → length (slot_bytes version x) ≡ slot_size version
slot_len version x fits = length-slot_bytes version x fits.short

-- ---- one more
no_more : (bytes : List ℕ) (size : ℕ) → size ≡ length bytes → resized bytes size ≡ bytes
no_more bytes size is =
    let none : size - length bytes ≡ 0 = omega (arith, is) in
    ap (λ (k : ℕ). take size bytes ++ replicate k 0) none ∙ append-nil (take size bytes) ∙ take_all size bytes (omega (arith, is))

pub bytes_added : (version : Version) (slots : List NamedInode) (x : NamedInode) (size : ℕ) → size ≡ length (slots_bytes version slots)
    → overwritten (slots_bytes version slots) size (slot_bytes version x) ≡ slots_bytes version (slots ++ x ∷ [])
bytes_added version slots x size is =
    let bytes : List ℕ = slots_bytes version slots in
    let one : slots_bytes version (x ∷ []) ≡ slot_bytes version x = flat_map-cons (slot_bytes version) x [] ∙ append-nil (slot_bytes version x) in
    let end : drop (size + length (slot_bytes version x)) bytes ≡ [] = drop_all (size + length (slot_bytes version x)) bytes (omega (arith, is)) in
    ap (λ (r : List ℕ). (resized bytes size ++ slot_bytes version x) ++ r) end
    ∙ append-nil (resized bytes size ++ slot_bytes version x)
    ∙ ap (λ (r : List ℕ). r ++ slot_bytes version x) (no_more bytes size is)
    ∙ ap (λ (r : List ℕ). bytes ++ r) (sym one)
    ∙ sym (flat_map-append (slot_bytes version) slots (x ∷ []))

-- ---- one in the place of another
take_fits : {version : Version} (slots : List NamedInode) (n : ℕ) → All (FitsSlot version) slots → All (FitsSlot version) (take n slots)
take_fits {version} slots n fits k d lt =
    let few : k < n = omega (arith, lt, length-take n slots) in
    subst (FitsSlot version) (sym (get_or-take n slots k d few)) (fits k d (omega (arith, lt, length-take n slots)))

-- the bytes before a slot
pub bytes_before : (version : Version) (slots : List NamedInode) (i : ℕ) → All (FitsSlot version) slots → i ≤ length slots
    → length (slots_bytes version (take i slots)) ≡ slot_size version * i
bytes_before version slots i fits le =
    length-slots version (take i slots) (take_fits slots i fits) ∙ ap (λ (n : ℕ). slot_size version * n) (length-take-le i slots le)

-- bytes in three parts
spliced_middle : (a x y b : List ℕ) (at : ℕ) → at ≡ length a → length x ≡ length y → splice (a ++ (x ++ b)) at y ≡ a ++ (y ++ b)
unfolding splice
spliced_middle a x y b at is same =
    let past : drop (at + length y) (a ++ (x ++ b)) ≡ b =
    ap (drop (at + length y)) (sym (append_assoc a x b)) ∙ drop_at (a ++ x) b (at + length y) (length-append a x ∙ omega (arith, is, same)) in
    ap (λ (r : List ℕ). r ++ (y ++ drop (at + length y) (a ++ (x ++ b)))) (take_at a (x ++ b) at (sym is)) ∙ ap (λ (r : List ℕ). a ++ (y ++ r)) past

-- slots around one of them
around : (version : Version) (slots : List NamedInode) (i : ℕ) (x : NamedInode) → i < length slots
    → slots_bytes version (set slots i x) ≡ slots_bytes version (take i slots) ++ (slot_bytes version x ++ slots_bytes version (drop (suc i) slots))
around version slots i x lt =
    ap (slots_bytes version) (set_split slots i x lt)
    ∙ flat_map-append (slot_bytes version) (take i slots) (x ∷ drop (suc i) slots)
    ∙ ap (λ (r : List ℕ). slots_bytes version (take i slots) ++ r) (flat_map-cons (slot_bytes version) x (drop (suc i) slots))

pub bytes_replaced : (version : Version) (slots : List NamedInode) (i : ℕ) (x : NamedInode) → All (FitsSlot version) slots → FitsSlot version x → i < length slots
    → splice (slots_bytes version slots) (slot_size version * i) (slot_bytes version x) ≡ slots_bytes version (set slots i x)
bytes_replaced version slots i x fits fit lt =
    let old : NamedInode = get_or slots i x in
    let was : slots_bytes version slots ≡ slots_bytes version (take i slots) ++ (slot_bytes version old ++ slots_bytes version (drop (suc i) slots)) =
    ap (slots_bytes version) (sym (set-get_or slots i x)) ∙ around version slots i old lt in
    ap (λ (r : List ℕ). splice r (slot_size version * i) (slot_bytes version x)) was
    ∙ spliced_middle (slots_bytes version (take i slots)) (slot_bytes version old) (slot_bytes version x) (slots_bytes version (drop (suc i) slots)) (slot_size version * i)
    (sym (bytes_before version slots i fits (omega (arith, lt)))) (slot_len version old (fits i x lt) ∙ sym (slot_len version x fit))
    ∙ sym (around version slots i x lt)

-- a slot stands there
pub bytes_of_slot : (version : Version) (slots : List NamedInode) (i : ℕ) (d : NamedInode) → All (FitsSlot version) slots → i < length slots
    → window (slots_bytes version slots) (slot_size version * i) (slot_size version) ≡ slot_bytes version (get_or slots i d)
bytes_of_slot version slots i d fits lt =
    let x : NamedInode = get_or slots i d in
    let was : slots_bytes version slots ≡ slots_bytes version (take i slots) ++ (slot_bytes version x ++ slots_bytes version (drop (suc i) slots)) =
    ap (slots_bytes version) (sym (set-get_or slots i d)) ∙ around version slots i x lt in
    ap (λ (r : List ℕ). window r (slot_size version * i) (slot_size version)) was
    ∙ ap (take (slot_size version)) (drop_at (slots_bytes version (take i slots)) (slot_bytes version x ++ slots_bytes version (drop (suc i) slots)) (slot_size version * i)
    (bytes_before version slots i fits (omega (arith, lt))))
    ∙ take_at (slot_bytes version x) (slots_bytes version (drop (suc i) slots)) (slot_size version) (slot_len version x (fits i d lt))

-- ---- fewer
pub bytes_cut : (version : Version) (slots : List NamedInode) (n : ℕ) → All (FitsSlot version) slots → n ≤ length slots
    → resized (slots_bytes version slots) (slot_size version * n) ≡ slots_bytes version (take n slots)
bytes_cut version slots n fits le =
    let all : length (slots_bytes version slots) ≡ slot_size version * length slots = length-slots version slots fits in
    let none : slot_size version * n - length (slots_bytes version slots) ≡ 0 = omega (arith, all, slots_fewer version n (length slots) le) in
    let parts : slots_bytes version slots ≡ slots_bytes version (take n slots) ++ slots_bytes version (drop n slots) =
    ap (slots_bytes version) (sym (take-append-drop n slots)) ∙ flat_map-append (slot_bytes version) (take n slots) (drop n slots) in
    ap (λ (k : ℕ). take (slot_size version * n) (slots_bytes version slots) ++ replicate k 0) none
    ∙ append-nil (take (slot_size version * n) (slots_bytes version slots))
    ∙ ap (take (slot_size version * n)) parts
    ∙ take_at (slots_bytes version (take n slots)) (slots_bytes version (drop n slots)) (slot_size version * n) (bytes_before version slots n fits le)
