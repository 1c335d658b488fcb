-- A file of which some sectors are in memory: what loading a run keeps, and the disk that this is.
use Rattle.std.proofs.Common.{◌≡◌, ◌≢◌, inl, inr, ℕ, ◌+◌, ◌-◌, ◌<◌, ◌≤◌, List, [], ◌∷◌, length, take, refl, sym, ◌∙◌, ap, subst, arith, get_or, replicate}
use Rattle.std.specs.Prelude.{Option, Some, None, IfSome, slice_set}
use Rattle.std.proofs.lemmas.Bool.{cases_lt, cases_eq}
use Rattle.std.proofs.lemmas.List.{get_or_past, get_or-set_same, get_or-set_other, get_or-take, get_or-replicate, length-replicate, length-set, length-take}
use Rattle.sector_disk.specs.Disk.{Image, sector, IsWholeSector, EndsInZeros, IsFresh}
use Rattle.sector_disk.specs.Record.{Held}
use Rattle.sector_disk.specs.Files.{file_seen, HasFirst, HasRun}
use Rattle.sector_disk.specs.Parts.{IsImageOf, file_image, IsPart, AreZerosElse, HasEnds, part_state}
use Rattle.sector_disk.specs.Whole.{AreSectors}

-- ---- which are in memory
pub none_among : (count n : ℕ) → get_or (replicate {A = ℕ} count 0) n 0 ≡ 0
none_among count n = elim (cases_lt n count) [
  | inl below ↦ get_or-replicate count n 0 0 below
  | inr past ↦ get_or_past (replicate {A = ℕ} count 0) n 0 (omega (arith, past, length-replicate {A = ℕ} count 0))
]

pub none_loaded : (count : ℕ) (loaded : List ℕ) → loaded ≡ replicate count 0 → (n : ℕ) → get_or loaded n 0 ≡ 0
none_loaded count loaded none n = ap (λ (l : List ℕ). get_or l n 0) none ∙ none_among count n

-- those before some number are whole, where all are
first_whole : (most : ℕ) (image : Image) → AreSectors image → AreSectors (take most image)
first_whole most image whole n below =
    let len = length-take most image in
    subst IsWholeSector (sym (get_or-take most image n [] (omega (arith, below, len)))) (whole n (omega (arith, below, len)))

-- at first none is
pub part_first : (count : ℕ) (file : Option Held) (memory : Image) (loaded : List ℕ) → loaded ≡ replicate count 0
    → length memory ≡ count → AreSectors memory → IfSome file (HasFirst 16777217 count) → IsPart file memory loaded
part_first count None memory loaded none len whole has = record { size = refl; whole = whole; same = λ n here. refl }
part_first count (Some held) memory loaded none len whole has = record {
  size = length-take 16777217 (file_seen held) ∙ has.len ∙ sym len;
  whole = first_whole 16777217 (file_seen held) has.whole;
  same = λ n here. absurd (here (none_loaded count loaded none n));
}

-- a sector more
pub part_set : (n : ℕ) (content : List ℕ) (old new : Image) (was is : List ℕ) (file : Option Held) → n < length old
    → new ≡ slice_set old n content → is ≡ slice_set was n 1 → IfSome file (HasRun n (content ∷ [])) → AreSectors new
    → IsPart file old was → IsPart file new is
part_set n content old new was is None below set marked has whole part = record { size = refl; whole = whole; same = λ k here. refl }
part_set n content old new was is (Some held) below set marked has whole part = record {
  size = part.size ∙ sym (ap (λ (i : Image). length i) set ∙ length-set old n content);
  whole = part.whole;
  same = each;
}
  where
    each : (k : ℕ) → get_or is k 0 ≢ 0 → sector new k ≡ sector (take 16777217 (file_seen held)) k
    each k here = elim (cases_eq k n) [
      | inl at ↦
          let size = part.size in
          let len = length-take 16777217 (file_seen held) in
          let start : n - n ≡ 0 = omega arith in
          ap (sector new) at ∙ ap (λ (i : Image). sector i n) set ∙ get_or-set_same old n content [] below
          ∙ sym (has n (omega arith) (omega arith) ∙ ap (sector (content ∷ [])) start)
          ∙ sym (get_or-take 16777217 (file_seen held) n [] (omega (arith, below, size, len)))
          ∙ sym (ap (sector (take 16777217 (file_seen held))) at)
      | inr other ↦
          let same : get_or is k 0 ≡ get_or was k 0 = ap (λ (l : List ℕ). get_or l k 0) marked ∙ get_or-set_other was n k 1 0 other in
          ap (λ (i : Image). sector i k) set ∙ get_or-set_other old n k content [] other ∙ part.same k (λ none. here (same ∙ none))
    ]

-- ---- what is known of those that aren't in memory
pub zeros_first : (count : ℕ) (memory : Image) (loaded : List ℕ) → memory ≡ replicate count (replicate 512 0) → AreZerosElse memory loaded
zeros_first count memory loaded is = λ n below none.
    let len = ap (λ (i : Image). length i) is ∙ length-replicate count (replicate 512 0) in
    ap (λ (i : Image). sector i n) is ∙ get_or-replicate count n (replicate 512 0) [] (omega (arith, below, len))

pub zeros_set : (n : ℕ) (content : List ℕ) (old new : Image) (was is : List ℕ) → n < length was → length was ≡ length old
    → new ≡ slice_set old n content → is ≡ slice_set was n 1 → AreZerosElse old was → AreZerosElse new is
zeros_set n content old new was is below table set marked zero k within none = elim (cases_eq k n) [
  | inl at ↦
      let one : get_or is k 0 ≡ 1 = ap (λ j. get_or is j 0) at ∙ ap (λ (l : List ℕ). get_or l n 0) marked ∙ get_or-set_same was n 1 0 below in
      absurd (omega (arith, one, none))
  | inr other ↦
      let same : get_or is k 0 ≡ get_or was k 0 = ap (λ (l : List ℕ). get_or l k 0) marked ∙ get_or-set_other was n k 1 0 other in
      let len = ap (λ (i : Image). length i) set ∙ length-set old n content in
      ap (λ (i : Image). sector i k) set ∙ get_or-set_other old n k content [] other
      ∙ zero k (omega (arith, within, len)) (sym same ∙ none)
]

-- ---- the ends of sectors
pub none_ended : (file : Option Held) (count : ℕ) (ends : List ℕ) → ends ≡ replicate count 0 → HasEnds file ends
none_ended file count ends none held is n some = absurd (some (none_loaded count ends none n))

-- one more
pub one_ended : (file : Option Held) (n first : ℕ) (content was is : List ℕ) → n < length was → is ≡ slice_set was n first
    → IfSome file (HasRun n (content ∷ [])) → EndsInZeros first content → HasEnds file was → HasEnds file is
one_ended file n first content was is below set has zero ended held known k some = elim (cases_eq k n) [
  | inl here ↦
      let run : HasRun n (content ∷ []) held = subst (λ (f : Option Held). IfSome f (HasRun n (content ∷ []))) known has in
      let at : get_or is k 0 ≡ first = ap (λ j. get_or is j 0) here ∙ ap (λ (l : List ℕ). get_or l n 0) set ∙ get_or-set_same was n first 0 below in
      let start : n - n ≡ 0 = omega arith in
      let there : sector (file_seen held) k ≡ content = ap (sector (file_seen held)) here ∙ run n (omega arith) (omega arith) ∙ ap (sector (content ∷ [])) start in
      λ i from to. ap (λ (l : List ℕ). get_or l i 0) there ∙ zero i (omega (arith, from, at)) to
  | inr other ↦
      let same : get_or is k 0 ≡ get_or was k 0 = ap (λ (l : List ℕ). get_or l k 0) set ∙ get_or-set_other was n k first 0 other in
      λ i from to. ended held known k (λ none. some (same ∙ none)) i (omega (arith, from, same)) to
]

-- one sector of a run
pub one_of_run : (file : Option Held) (first i : ℕ) (run : Image) (content : List ℕ) → sector run i ≡ content → IfSome file (HasRun first run)
    → i < length run → IfSome file (HasRun (first + i) (content ∷ []))
one_of_run None first i run content is has below = tt
one_of_run (Some held) first i run content is has below = λ n from to.
    let at : n - first ≡ i = omega (arith, from, to) in
    let zero : 0 ≡ n - (first + i) = omega (arith, from, to) in
    has n (omega (arith, from)) (omega (arith, to, below)) ∙ ap (sector run) at ∙ is ∙ ap (sector (content ∷ [])) zero

-- what is known of a sector's end is so in the file's image
pub end_known : (file : Option Held) (memory : Image) (loaded ends : List ℕ) (n first : ℕ) → n < length memory → get_or loaded n 0 ≡ 0
    → get_or ends n 0 ≢ 0 → get_or ends n 0 ≤ first → IsPart file memory loaded → AreZerosElse memory loaded → HasEnds file ends
    → EndsInZeros first (sector (file_image file memory) n)
end_known None memory loaded ends n first below none some le part zero ended i from to =
    ap (λ (l : List ℕ). get_or l i 0) (zero n below none) ∙ get_or-replicate 512 i 0 0 to
end_known (Some held) memory loaded ends n first below none some le part zero ended i from to =
    let size = part.size in
    let len = length-take 16777217 (file_seen held) in
    ap (λ (l : List ℕ). get_or l i 0) (get_or-take 16777217 (file_seen held) n [] (omega (arith, below, size, len))) ∙ ended held refl n some i (omega (arith, le, from)) to

-- the file's image, as the disk has it
pub has_image : (file : Option Held) (memory : Image) → IfSome file (IsImageOf (file_image file memory))
has_image None memory = tt
has_image (Some held) memory = refl

-- ---- the disk
pub fresh : (file : Option Held) (memory : Image) → IsFresh (part_state file memory 0 0) (file_image file memory)
fresh file memory = record { size = refl; seen = refl; stable = λ n content below may. only n content may; failures = omega arith }
  where
    only : (n : ℕ) (content : List ℕ) → (part_state file memory 0 0).may_hold n content → content ≡ sector (file_image file memory) n
    only n content (inl is) = is
    only n content (inr found) = absurd (omega (arith, found.1))
