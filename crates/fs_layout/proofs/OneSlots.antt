-- Bytes are the slots of at most one list of names, and a directory has one map of names.
use Rattle.std.specs.Prelude.{◌≡◌, ℕ, List, [], ◌∷◌, ◌++◌, length, take, drop, All}
use Rattle.std.proofs.Common.{refl, sym, ap, ◌∙◌}
use Rattle.std.proofs.lemmas.List.{take_at, drop_at}
use Rattle.std.proofs.lemmas.List.Concat.{flat_map-cons}
use Rattle.std.proofs.lemmas.List.Elements.{All-head, All-tail}
use Rattle.fs_layout.specs.declared.version.Version.{Version}
use Rattle.fs_layout.specs.Version.{slot_size}
use Rattle.fs_layout.specs.Bytes.{le32}
use Rattle.fs_layout.proofs.SlotLaw.{slot_codec, length-slot_bytes}
use Rattle.fs_layout.proofs.Codecs.{same_spelling}
use Rattle.fs_layout.specs.declared.inode.Inode.{Inode}
use Rattle.fs_layout.specs.Bytes.{SectorMap}
use Rattle.fs_layout.specs.Directories.{slots_bytes, names_of_slots, HasNames, NamedInode, FitsSlot, slot_bytes, slot_of}
use Rattle.fs_layout.proofs.Held.{Holds-unique}

slot_len : (version : Version) (x : NamedInode) → FitsSlot version x → length (slot_bytes version x) ≡ slot_size version
slot_len version x f = length-slot_bytes version x f.short

slot_same : (version : Version) (x y : NamedInode) (r q : List ℕ) → FitsSlot version x → FitsSlot version y → slot_bytes version x ++ r ≡ slot_bytes version y ++ q → (x ≡ y) × (r ≡ q)
slot_same version x y r q fx fy e =
    let heads : slot_bytes version x ≡ slot_bytes version y = sym (take_at (slot_bytes version x) r (slot_size version) (slot_len version x fx)) ∙ ap (take (slot_size version)) e ∙ take_at (slot_bytes version y) q (slot_size version) (slot_len version y fy) in (
      same_spelling (slot_size version) (FitsSlot version) (slot_bytes version) (slot_of version) (slot_codec version) x y fx fy heads,
      sym (drop_at (slot_bytes version x) r (slot_size version) (slot_len version x fx)) ∙ ap (drop (slot_size version)) e ∙ drop_at (slot_bytes version y) q (slot_size version) (slot_len version y fy),
    )

no_slot : (version : Version) (y : NamedInode) (ys : List NamedInode) → [] ≡ slots_bytes version (y ∷ ys) → ⊥
unfolding le32
no_slot version y ys e = cc

pub slots_same : (version : Version) (xs ys : List NamedInode) → All (FitsSlot version) xs → All (FitsSlot version) ys → slots_bytes version xs ≡ slots_bytes version ys → xs ≡ ys
slots_same version [] [] fx fy e = refl
slots_same version [] (y ∷ ys) fx fy e = absurd (no_slot version y ys e)
slots_same version (x ∷ xs) [] fx fy e = absurd (no_slot version x xs (sym e))
slots_same version (x ∷ xs) (y ∷ ys) fx fy e =
    let s = slot_same version x y (slots_bytes version xs) (slots_bytes version ys) (All-head (FitsSlot version) x xs fx) (All-head (FitsSlot version) y ys fy) (sym (flat_map-cons (slot_bytes version) x xs) ∙ e ∙ flat_map-cons (slot_bytes version) y ys) in
    ap (λ z. z ∷ xs) s.0 ∙ ap (λ zs. y ∷ zs) (slots_same version xs ys (All-tail (FitsSlot version) x xs fx) (All-tail (FitsSlot version) y ys fy) s.1)

pub names_same : (version : Version) (image : SectorMap) (v : Inode) (names others : List (List ℕ × ℕ)) → HasNames version image v names → HasNames version image v others → names ≡ others
names_same version image v names others h k =
    let bytes = Holds-unique image v (slots_bytes version h.slots) (slots_bytes version k.slots) h.holds k.holds in
    h.are ∙ ap names_of_slots (slots_same version h.slots k.slots h.each k.each bytes) ∙ sym k.are
