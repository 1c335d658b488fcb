-- Entries of a directory, as far as they fit into a reply.
--     entry-length        how many bytes an entry takes
--     next-name, next-entry, shown-length        the names and entries from a place on, and how many there are
--     told-first, told-more, told-crowded, told-done        before the first entry, with one more, before one that doesn't fit, and behind the last
--     listed-before, listed-anew, listed-first        whether a directory is listed anew
use Rattle.std.specs.Prelude.{◌≡◌, ℕ, suc, ◌+◌, ◌-◌, ◌<◌, ◌≤◌, nat_le, Bool, true, false, List, [], ◌∷◌, ◌++◌, length, get_or, drop, Option, None, Some, if◌then◌else◌}
use Rattle.std.specs.List.{flat_map}
use Rattle.std.proofs.Common.{refl, sym, ap, subst, ◌∙◌, arith, append_assoc}
use Rattle.std.proofs.Math.ListN.{drop_of_length-le}
use Rattle.std.proofs.Math.Numerals.{add-one}
use Rattle.std.proofs.Math.Seq.{drop-cons}
use Rattle.std.proofs.lemmas.Bool.{leb-true, leb-false, le-leb, lt-leb}
use Rattle.std.proofs.lemmas.List.{append-nil, get_or-map, length-append, length-map, length-replicate}
use Rattle.fs_model.specs.declared.listing.Named.{Named}
use Rattle.fs_model.specs.Listings.{pairs}
use Rattle.fuse_protocol.specs.declared.entry.DirectoryEntry.{DirectoryEntry}
use Rattle.fuse_protocol.specs.Bytes.{bytes_of_u32s, bytes_of_u64s, zeros_of}
use Rattle.fuse_protocol.specs.Entries.{padding, entry_size, directory_entry_bytes}
use Rattle.fuse_state.specs.declared.directory.OpenDirectory.{OpenDirectory}
use Rattle.fuse_plans.specs.DirectoryPlans.{listed_entry, fitting, listing_bytes, list_now, listed}
use Rattle.fuse_plans.specs.ListingOrder.{with_offsets, offset_behind}
use Rattle.fuse_plans.specs.Works.{give}
use Rattle.fuse_steps.proofs.Cursors.{next-offset}

pub entry-length : (e : DirectoryEntry) → length (directory_entry_bytes e) ≡ entry_size (length e.name)
unfolding directory_entry_bytes bytes_of_u32s bytes_of_u64s
entry-length e =
    let zeroes : length (zeros_of (padding (length e.name))) ≡ padding (length e.name) = length-replicate {A = ℕ} (padding (length e.name)) 0 in
    omega (arith, length-append e.name (zeros_of (padding (length e.name))), zeroes)

pub next-name : {shown : List (List ℕ × ℕ)} (names : List Named) (i : ℕ) (n : Named) → pairs names ≡ shown → i < length names → n ≡ get_or names i n
    → drop i shown ≡ (n.name, n.ino) ∷ drop (i + 1) shown
next-name {shown} names i n all lt is =
    let pair : Named → List ℕ × ℕ = λ m. (m.name, m.ino) in
    let within : i < length (pairs names) = omega (arith, lt, length-map names pair) in
    let first : get_or (pairs names) i (n.name, n.ino) ≡ (n.name, n.ino) = get_or-map pair names i n (n.name, n.ino) lt ∙ ap pair (sym is) in
    let after : drop i (pairs names) ≡ (n.name, n.ino) ∷ drop (suc i) (pairs names) =
    drop-cons (pairs names) i (n.name, n.ino) within ∙ ap (λ (p : List ℕ × ℕ). p ∷ drop (suc i) (pairs names)) first in
    subst (λ (s : List (List ℕ × ℕ)). drop i s ≡ (n.name, n.ino) ∷ drop (i + 1) s) all
    (subst (λ (k : ℕ). drop i (pairs names) ≡ (n.name, n.ino) ∷ drop k (pairs names)) (sym (add-one i)) after)

-- the entry of the name at a place, and those behind it
pub next-entry : {shown : List (List ℕ × ℕ)} (names : List Named) (i : ℕ) (n : Named) (before offset : ℕ) (bytes : List ℕ)
    → pairs names ≡ shown → i < length names → n ≡ get_or names i n → offset ≡ offset_behind before bytes → bytes ≡ n.name
    → with_offsets before (drop i shown) ≡ (offset, (n.name, n.ino)) ∷ with_offsets offset (drop (i + 1) shown)
next-entry {shown} names i n before offset bytes all lt is of same =
    next-offset before offset (n.name, n.ino) (of ∙ ap (offset_behind before) same) (next-name names i n all lt is)

pub shown-length : {shown : List (List ℕ × ℕ)} (names : List Named) → pairs names ≡ shown → length shown ≡ length names
shown-length {shown} names all =
    let pair : Named → List ℕ × ℕ = λ m. (m.name, m.ino) in
    sym (ap length all) ∙ length-map names pair

fits-left : (len needs size : ℕ) → nat_le (len + needs) size ≡ true → nat_le needs (size - len) ≡ true
fits-left len needs size is = le-leb needs (size - len) (omega (arith, leb-true (len + needs) size is))

crowds-left : (len needs size : ℕ) → len ≤ size → nat_le (len + needs) size ≡ false → nat_le needs (size - len) ≡ false
crowds-left len needs size within is = lt-leb needs (size - len) (omega (arith, within, leb-false (len + needs) size is))

module _ (size : ℕ) (e : ℕ × (List ℕ × ℕ)) (es : List (ℕ × (List ℕ × ℕ))) where
  abbrev with_next : Bool → List ℕ
  with_next b = flat_map directory_entry_bytes (if b then listed_entry e ∷ fitting (size - entry_size (length e.1.0)) es else [])

  entry-first : nat_le (entry_size (length e.1.0)) size ≡ true
      → listing_bytes size (e ∷ es) ≡ directory_entry_bytes (listed_entry e) ++ listing_bytes (size - entry_size (length e.1.0)) es
  entry-first fits = ap with_next fits

  entry-last : nat_le (entry_size (length e.1.0)) size ≡ false → listing_bytes size (e ∷ es) ≡ []
  entry-last crowds = ap with_next crowds

pub told-first : (was : List ℕ) (size len : ℕ) (names : List (ℕ × (List ℕ × ℕ))) → was ≡ [] → len ≡ 0
    → listing_bytes size names ≡ was ++ listing_bytes (size - len) names
told-first was size len names none is =
    let same : size ≡ size - len = omega (arith, is) in
    ap (λ (k : ℕ). listing_bytes k names) same ∙ ap (λ (w : List ℕ). w ++ listing_bytes (size - len) names) (sym none)

pub told-done : {all : List ℕ} (was : List ℕ) (size len before i : ℕ) (names : List (List ℕ × ℕ))
    → length names ≤ i → all ≡ was ++ listing_bytes (size - len) (with_offsets before (drop i names)) → all ≡ was
told-done was size len before i names behind told =
    told ∙ ap (λ (rest : List (List ℕ × ℕ)). was ++ listing_bytes (size - len) (with_offsets before rest)) (drop_of_length-le names behind) ∙ append-nil was

-- the next entry, and whether it was added
module _ {all now : List ℕ} {b : Bool} (was : List ℕ) (size len : ℕ) {names : List (ℕ × (List ℕ × ℕ))} (e : ℕ × (List ℕ × ℕ))
    (rest : List (ℕ × (List ℕ × ℕ)))
    (next : names ≡ e ∷ rest)
    (told : all ≡ was ++ listing_bytes (size - len) names)
    (fits : b ≡ nat_le (len + entry_size (length e.1.0)) size)
    (added : now ≡ was ++ (if b then directory_entry_bytes (listed_entry e) else [])) where
  pub told-crowded : len ≤ size → b ≡ false → now ≡ all
  told-crowded within is =
      let none : listing_bytes (size - len) names ≡ [] =
      ap (listing_bytes (size - len)) next ∙ entry-last (size - len) e rest (crowds-left len (entry_size (length e.1.0)) size within (sym fits ∙ is)) in
      added ∙ ap (λ (c : Bool). was ++ (if c then directory_entry_bytes (listed_entry e) else [])) is
      ∙ ap (λ (bytes : List ℕ). was ++ bytes) (sym none) ∙ sym told

  now-is : b ≡ true → now ≡ was ++ directory_entry_bytes (listed_entry e)
  now-is is = added ∙ ap (λ (c : Bool). was ++ (if c then directory_entry_bytes (listed_entry e) else [])) is

  pub length-more : b ≡ true → length now ≡ length was + entry_size (length e.1.0)
  length-more is =
      ap length (now-is is) ∙ length-append was (directory_entry_bytes (listed_entry e)) ∙ ap (λ (k : ℕ). length was + k) (entry-length (listed_entry e))

  pub within-more : b ≡ true → len + entry_size (length e.1.0) ≤ size
  within-more is = leb-true (len + entry_size (length e.1.0)) size (sym fits ∙ is)

  pub told-more : (later : ℕ) → later ≡ len + entry_size (length e.1.0) → b ≡ true → all ≡ now ++ listing_bytes (size - later) rest
  told-more later after is =
      let left : ℕ = size - len - entry_size (length e.1.0) in
      let told_rest : List ℕ = listing_bytes left rest in
      let same : left ≡ size - later = omega (arith, after) in
      let first : listing_bytes (size - len) names ≡ directory_entry_bytes (listed_entry e) ++ told_rest =
      ap (listing_bytes (size - len)) next ∙ entry-first (size - len) e rest (fits-left len (entry_size (length e.1.0)) size (sym fits ∙ is)) in
      told ∙ ap (λ (r : List ℕ). was ++ r) first ∙ sym (append_assoc was (directory_entry_bytes (listed_entry e)) told_rest)
      ∙ ap (λ (r : List ℕ). r ++ told_rest) (sym (now-is is)) ∙ ap (λ (k : ℕ). now ++ listing_bytes k rest) same

-- ---- whether it is listed anew

module _ (node handle : ℕ) (d : OpenDirectory) where
  pub listed-before : {anew : Bool} {known : Option (List (List ℕ × ℕ))} {names : List (List ℕ × ℕ)}
      → anew ≡ false → known ≡ Some names → listed node handle d anew known ≡ give names
  listed-before {anew} {known} {names} is there = ap (λ (b : Bool). listed node handle d b known) is ∙ ap (listed node handle d false) there

  pub listed-anew : {anew : Bool} (known : Option (List (List ℕ × ℕ))) → anew ≡ true → listed node handle d anew known ≡ list_now node handle d.node
  listed-anew {anew} known is = ap (λ (b : Bool). listed node handle d b known) is

  pub listed-first : (anew : Bool) {known : Option (List (List ℕ × ℕ))} → known ≡ None → listed node handle d anew known ≡ list_now node handle d.node
  listed-first true {known} is = refl
  listed-first false {known} is = ap (listed node handle d false) is
