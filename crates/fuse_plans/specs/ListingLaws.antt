-- What holds of the offsets in listings, whoever makes them.
--     ListingsGoOn        behind the offset of a name stand just the names that come after it
--     HaveOwnPlaces        no two of the names have one place
--     NamesKeepTheirOffsets        then the offset behind each name follows from it alone, whatever else is listed
use Rattle.std.specs.Prelude.{◌≡◌, ◌≢◌, ℕ, ◌+◌, ◌<◌, List, length, map, drop, slice_get, slice_index_or, Some}
use Rattle.fuse_plans.specs.ListingOrder.{listing_place, in_order, with_offsets, behind}

abbrev pub ListingsGoOn : Type 0
ListingsGoOn = (names : List (List ℕ × ℕ)) (i : ℕ) (e : ℕ × (List ℕ × ℕ)) → slice_get (with_offsets 0 names) i ≡ Some e
    → behind e.0 names ≡ drop (i + 1) (with_offsets 0 names)

abbrev pub HaveOwnPlaces : List (List ℕ × ℕ) → Type 0
HaveOwnPlaces names = (i j : ℕ) (d : List ℕ × ℕ) → i < j → j < length names
    → listing_place (slice_index_or names i d).0 ≢ listing_place (slice_index_or names j d).0

abbrev pub NamesKeepTheirOffsets : Type 0
NamesKeepTheirOffsets = (names : List (List ℕ × ℕ)) → HaveOwnPlaces (in_order names)
    → with_offsets 0 (in_order names) ≡ map (λ e. (listing_place e.0, e)) (in_order names)
