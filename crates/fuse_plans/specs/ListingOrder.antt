-- Where names stand in listings of a directory, and by which offsets a listing goes on. Both follow from the names alone: so whoever lists
-- the directory, a name stands at the same offset, whatever else has come or gone.
--     listing_place        a number that is made of a name
--     insert_by, ordered_by        a list in an order
--     compare_listed, in_order        a listing by the places of its names
--     offset_behind, with_offsets        the offset behind each name: its place, or more where the one before it has that
--     behind        the names that stand behind an offset
use Rattle.std.specs.Prelude.{ℕ, ◌+◌, ◌/◌, max, nat_lt, List, [], ◌∷◌, codes, bytes_eq, if◌then◌else◌}
use Rattle.std.specs.declared.cmp.Ordering.{Ordering}
use Rattle.std.specs.Hash.DefaultHasher as sip
use Rattle.std.specs.List.{filter}
use Rattle.std.specs.Ordering.{nat_cmp, is_lt, ordering_then}
use Rattle.fs_layout.specs.Maps.{name_cmp}

-- The directory itself and its parent come first, as readers of listings may expect. Of the others it is the SipHash, without two bits: an
-- offset is a number of 63.
unfoldable pub listing_place : List ℕ → ℕ
listing_place name =
    if bytes_eq name (codes ".") then 1
    else if bytes_eq name (codes "..") then 2
    else 3 + sip.finish (sip.write sip.initial name) / 4

-- ---- the order

abbrev pub insert_by : {X : Type 0} → (X → X → Ordering) → X → List X → List X
insert_by cmp x [] = x ∷ []
insert_by cmp x (y ∷ ys) = if is_lt (cmp y x) then y ∷ insert_by cmp x ys else x ∷ y ∷ ys

abbrev pub ordered_by : {X : Type 0} → (X → X → Ordering) → List X → List X
ordered_by cmp [] = []
ordered_by cmp (x ∷ xs) = insert_by cmp x (ordered_by cmp xs)

-- by places, and where names have one place by these; each has its inode
abbrev pub compare_listed : List ℕ × ℕ → List ℕ × ℕ → Ordering
compare_listed a b = ordering_then (nat_cmp (listing_place a.0) (listing_place b.0)) (ordering_then (name_cmp a.0 b.0) (nat_cmp a.1 b.1))

abbrev pub in_order : List (List ℕ × ℕ) → List (List ℕ × ℕ)
in_order names = ordered_by compare_listed names

-- ---- offsets

-- behind a name, where this is the one before it
abbrev pub offset_behind : ℕ → List ℕ → ℕ
offset_behind before name = max (before + 1) (listing_place name)

abbrev pub with_offsets : ℕ → List (List ℕ × ℕ) → List (ℕ × (List ℕ × ℕ))
with_offsets before [] = []
with_offsets before (e ∷ es) = (offset_behind before e.0, e) ∷ with_offsets (offset_behind before e.0) es

-- those with a greater one
abbrev pub behind : ℕ → List (List ℕ × ℕ) → List (ℕ × (List ℕ × ℕ))
behind offset names = filter (λ e. nat_lt offset e.0) (with_offsets 0 names)
