-- Capabilities in words and in texts.
use Rattle.std.proofs.Common.{◌≡◌, ◌<◌, ℕ, ◌+◌, ◌==◌, suc, Bool, true, false, List, [], ◌∷◌, ◌++◌, length, map, take, drop, get_or, nat_lt, Option, None, Result, Ok, Err, cond, refl, sym, ap, subst, ◌∙◌, codes, append_assoc}
use Rattle.std.specs.Int.RustNames.{bit_and, bit_or}
use Rattle.std.specs.List.{list_all}
use Rattle.std.specs.Str.{IsUtf8, bytes_eq}
use Rattle.std.proofs.lemmas.Bool.{false_from_ne_true, and_parts}
use Rattle.std.proofs.lemmas.List.{drop_more, get_or_default, map-append}
use Rattle.std.proofs.lemmas.Slice.Eq.{bytes_eq-Decides}
use Rattle.std.proofs.Math.Seq.{split_at}
use Rattle.bitflags.specs.Sets.{Row, find_row}
use Rattle.bitflags.proofs.Tables.{row-at}
use Rattle.fs_cred.specs.declared.caps.Caps.{Caps}
use Rattle.fs_lines.specs.declared.line.LineFault.{LineFault}
use Rattle.fs_lines.specs.declared.line.LineFault.TheVariants.{BadNumber}
use Rattle.fs_cred.specs.Capabilities.{named_caps, no_caps}
use Rattle.fs_lines.specs.Lines.{◌>>=◌}
use Rattle.fs_lines.specs.Words.{of_bits, cap_named, caps_with}
use Rattle.fs_lines.specs.Texts.{caps_text}
use Rattle.fs_lines.proofs.Names.{is_plain_name, is_text}

-- ---- a name

are_plain : List Row → Bool
are_plain rows = list_all (λ row. is_plain_name row.0) rows

other_name : (row : Row) (name : List ℕ) → is_plain_name row.0 ≡ true → (IsUtf8 name → ⊥) → bytes_eq row.0 name ≡ false
other_name row name plain no_text =
    false_from_ne_true (bytes_eq row.0 name) (λ same. no_text (subst IsUtf8 ((bytes_eq-Decides row.0 name).0 same) (is_text row.0 plain)))

no_row : (rows : List Row) (name : List ℕ) → are_plain rows ≡ true → (IsUtf8 name → ⊥) → find_row rows name ≡ None
unfolding find_row are_plain
no_row [] name plain no_text = refl
no_row (row ∷ rows) name plain no_text =
    let parts = and_parts (is_plain_name row.0) (are_plain rows) plain in
    rw (other_name row name parts.0 no_text) (no_row rows name parts.1 no_text)

none_where : (empty : Bool) (row : Option ℕ) → row ≡ None → cond empty None row ≡ None
none_where true row none = refl
none_where false row none = none

-- a name that is no text names none
pub names_no_cap : (name : List ℕ) → (IsUtf8 name → ⊥) → cap_named name ≡ Err BadNumber
unfolding are_plain
names_no_cap name no_text = rw (none_where (length name == 0) (find_row named_caps name) (no_row named_caps name refl no_text)) refl

-- ---- names, one after another

chosen : {A B : Type 0} (b : Bool) (x : Result B LineFault) (y : Result A LineFault) (f : A → Result B LineFault) → x ≡ (y >>= f)
    → cond b x (Err BadNumber) ≡ (cond b y (Err BadNumber) >>= f)
chosen true x y f same = same
chosen false x y f same = refl

step : (caps : Caps) (cap : Result Caps LineFault) (front back : List (List ℕ))
    → ((more : Caps) → caps_with more (front ++ back) ≡ (caps_with more front >>= λ c. caps_with c back))
    → (cap >>= λ c. cond (nat_lt caps.0 c.0) (caps_with (of_bits (bit_or caps.0 c.0)) (front ++ back)) (Err BadNumber))
    ≡ ((cap >>= λ c. cond (nat_lt caps.0 c.0) (caps_with (of_bits (bit_or caps.0 c.0)) front) (Err BadNumber)) >>= λ c. caps_with c back)
step caps (Err fault) front back rest = refl
step caps (Ok c) front back rest =
    chosen (nat_lt caps.0 c.0) (caps_with (of_bits (bit_or caps.0 c.0)) (front ++ back)) (caps_with (of_bits (bit_or caps.0 c.0)) front)
    (λ d. caps_with d back) (rest (of_bits (bit_or caps.0 c.0)))

caps_append : (front back : List (List ℕ)) (caps : Caps) → caps_with caps (front ++ back) ≡ (caps_with caps front >>= λ c. caps_with c back)
caps_append [] back caps = refl
caps_append (name ∷ front) back caps = step caps (cap_named name) front back (caps_append front back)

-- one more is named, above all before it
pub caps_push : {X : Type 0} (see : X → List ℕ) (xs : List X) (x : X) (caps cap new : Caps)
    → caps_with no_caps (map see xs) ≡ Ok caps → cap_named (see x) ≡ Ok cap → nat_lt caps.0 cap.0 ≡ true → new.0 ≡ bit_or caps.0 cap.0
    → caps_with no_caps (map see (xs ++ x ∷ [])) ≡ Ok new
caps_push see xs x caps cap new front named above made =
    rw (map-append see xs (x ∷ []), caps_append (map see xs) (see x ∷ []) no_caps, front, named, above) (ap (λ bits. Ok (of_bits bits)) (sym made))

-- what stands at a place decides, where all before it is right
at_place : (all : List (List ℕ)) (n : ℕ) (d : List ℕ) (caps : Caps) (fault : LineFault)
    → caps_with no_caps (take n all) ≡ Ok caps → n < length all → caps_with caps (get_or all n d ∷ drop (suc n) all) ≡ Err fault
    → caps_with no_caps all ≡ Err fault
at_place all n d caps fault front below bad =
    ap (caps_with no_caps) (split_at all n d below) ∙ caps_append (take n all) (get_or all n d ∷ drop (suc n) all) no_caps
    ∙ ap (λ r. r >>= λ c. caps_with c (get_or all n d ∷ drop (suc n) all)) front ∙ bad

-- no capability is named there
pub caps_unknown : (all : List (List ℕ)) (n : ℕ) (d : List ℕ) (caps : Caps) (fault : LineFault)
    → caps_with no_caps (take n all) ≡ Ok caps → n < length all → cap_named (get_or all n d) ≡ Err fault → caps_with no_caps all ≡ Err fault
caps_unknown all n d caps fault front below unknown = at_place all n d caps fault front below (rw unknown refl)

-- the one there isn't above those before it
pub caps_fall : (all : List (List ℕ)) (n : ℕ) (d : List ℕ) (caps cap : Caps)
    → caps_with no_caps (take n all) ≡ Ok caps → n < length all → cap_named (get_or all n d) ≡ Ok cap → nat_lt caps.0 cap.0 ≡ false
    → caps_with no_caps all ≡ Err BadNumber
caps_fall all n d caps cap front below named falls = at_place all n d caps BadNumber front below (rw (named, falls) refl)

-- ---- texts

module _ {X : Type 0} (view : X → Row) (flags : List X) (rows : List Row) (i : ℕ) (d : X) (before : List ℕ) (bits : ℕ)
    (table : map view flags ≡ rows) (below : i < length flags) where
  abbrev pub flag : X
  flag = get_or flags i d

  row_at : (i < length rows) × (get_or rows i (view flag) ≡ view flag)
  row_at = row-at view flags rows i flag table below (get_or_default flags i d flag below)

  text_with : (bit_and bits (view flag).1 == (view flag).1) ≡ true
      → caps_text before bits (drop i rows) ≡ before ++ ((view flag).0 ++ caps_text (codes ",") bits (drop (i + 1) rows))
  unfolding caps_text
  text_with held = rw (drop_more rows i (view flag) row_at.0, row_at.1, held) refl

  -- one of the set is written
  pub caps_text_with : (text more most : List ℕ) → (bit_and bits (view flag).1 == (view flag).1) ≡ true
      → more ≡ text ++ before → most ≡ more ++ (view flag).0
      → most ++ caps_text (codes ",") bits (drop (i + 1) rows) ≡ text ++ caps_text before bits (drop i rows)
  caps_text_with text more most held begun named =
      rw (text_with held, named, begun)
      (append_assoc (text ++ before) (view flag).0 (caps_text (codes ",") bits (drop (i + 1) rows))
      ∙ append_assoc text before ((view flag).0 ++ caps_text (codes ",") bits (drop (i + 1) rows)))

  -- another one
  pub caps_text_without : (bit_and bits (view flag).1 == (view flag).1) ≡ false
      → caps_text before bits (drop (i + 1) rows) ≡ caps_text before bits (drop i rows)
  unfolding caps_text
  caps_text_without other = rw (drop_more rows i (view flag) row_at.0, row_at.1, other) refl

-- nothing is left
pub caps_text_end : (before : List ℕ) (bits : ℕ) → caps_text before bits [] ≡ []
unfolding caps_text
caps_text_end before bits = refl
