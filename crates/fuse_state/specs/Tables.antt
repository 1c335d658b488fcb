-- Where a key stands among rising keys, and entries in no order by rising keys.
--     IsAt, IsGap        at this place; or it would stand there
--     rising        the entries by rising keys
use Rattle.std.specs.Prelude.{◌≡◌, ℕ, ◌<◌, ◌≤◌, List, [], ◌∷◌, length, slice_index_or}
use Rattle.std.specs.declared.cmp.Ordering.{Ordering}
use Rattle.std.specs.declared.cmp.Ordering.TheVariants.{Less, Greater}
use Rattle.std.specs.Ordering.{nat_cmp}
use Rattle.fs_layout.specs.Maps.{with_entry}

pub record IsAt {K X : Type 0} (m : List (K × X)) (k : K) (i : ℕ) : Type 0 where
  pub within : i < length m
  pub is : (e : K × X) → (slice_index_or m i e).0 ≡ k

-- lower keys stand before it, and higher ones from there on
pub record IsGap {K X : Type 0} (R : K → K → Ordering) (m : List (K × X)) (k : K) (i : ℕ) : Type 0 where
  pub within : i ≤ length m
  pub lower : (j : ℕ) (e : K × X) → j < i → R k (slice_index_or m j e).0 ≡ Greater
  pub higher : (j : ℕ) (e : K × X) → i ≤ j → j < length m → R k (slice_index_or m j e).0 ≡ Less

-- Of two entries with one key the first counts.
abbrev pub rising : {X : Type 0} → List (ℕ × X) → List (ℕ × X)
rising [] = []
rising (e ∷ es) = with_entry nat_cmp (rising es) e.0 e.1
