-- What directories name, counted.
use Rattle.std.specs.Prelude.{◌≡◌, ◌≢◌, ℕ, zero, suc, ◌+◌, ◌-◌, ◌*◌, ◌/◌, ◌<◌, ◌≤◌, ◌^◌, ◌==◌, MatchOption, Bool, true, false, cond, List, length, get_or, take}
use Rattle.std.specs.Prelude.{set, count_by, sum_by, Option, Some, None, Ok, Err, IsTrue, ◌↔◌}
use Rattle.std.specs.List.{range_with_len}
use Rattle.std.specs.Option.{is_some}
use Rattle.std.proofs.Common.{refl, sym, ap, arith, ◌∙◌, subst, inl, inr, get_or-set_other, get_or-set_same, length-set}
use Rattle.std.proofs.lemmas.Bool.{cases_eq, eq-eqb, ne_eqb}
use Rattle.std.proofs.lemmas.List.FromFn.{fill_by_all, length-range_with_len}
use Rattle.std.proofs.lemmas.List.Sums.{sum_by_more, count_by-le-length}
use Rattle.fs_layout.specs.declared.inode.TheConstants.{MAX_DIRECTORY_SIZE}
use Rattle.fs_layout.specs.declared.slot.TheConstants.{SLOT_SIZE}
use Rattle.fs_layout.specs.declared.fault.LayoutFault.TheVariants.{BadNumber, NotZero}
use Rattle.fs_layout.specs.declared.inode.Inode.{Inode}
use Rattle.fs_layout.specs.declared.inode.Kind.{Kind}
use Rattle.fs_layout.specs.declared.inode.Kind.TheVariants as kinds
use Rattle.fs_layout.specs.declared.geometry.Geometry.{Geometry}
use Rattle.fs_layout.specs.declared.version.Version.{Version}
use Rattle.fs_layout.specs.declared.version.Version.TheVariants.{One, Two, Three}
use Rattle.fs_layout.specs.Bytes.{SectorMap, u16_of}
use Rattle.fs_layout.specs.Version.{max_inodes}
use Rattle.fs_layout.specs.Inode.{inode_of, inode_if, inode_fits, fields_of, gaps_are_zero, kind_of}
use Rattle.fs_layout.specs.Images.{stored, inode_at}
use Rattle.fs_layout.specs.Directories.{NamedInode, HaveDistinctNames, slot_count, slot_at}
use Rattle.fs_layout.proofs.ImageSlots.{slots_of, naming-slots_of}
use Rattle.fs_layout.proofs.SlotNames.{slots_naming}
use Rattle.fs_model.specs.Rules.{IsGoodInode, NamesApart, Obeys, ObeysEach, IsLeastFailure, namings_in, is_directory_kind}
use Rattle.fs_model.proofs.BuiltNodes.{directory_fits}
use Rattle.fs_layout.proofs.Codecs.{same_ok}
use Rattle.fs_check.proofs.Sums.{sum_more}
use Rattle.fs_check.proofs.Tables.{more_good}
use Rattle.fs_check.proofs.Tests.{free_behind}
use Rattle.fs_check.specs.Checks.{AreInodes, IsNameTable, IsNamedBy}
use Rattle.fs_check.specs.Naming.{AreSlots, AddsSlots, IsTally, IsRepeated, IsNaming, naming}

-- ---- the names in a list of slots

abbrev is_one : ℕ → ℕ → ℕ
is_one i n = cond (i == n) 1 0

is_one-same : (i n : ℕ) → i ≡ n → is_one i n ≡ 1
is_one-same i n e = ap (λ b. cond b 1 0) (eq-eqb i n e)

is_one-other : (i n : ℕ) → i ≢ n → is_one i n ≡ 0
is_one-other i n ne = ap (λ b. cond b 1 0) (ne_eqb i n ne)

naming_more : (n : ℕ) (slots : List NamedInode) (k : ℕ) (x : NamedInode) → k < length slots
    → naming n (take (k + 1) slots) ≡ naming n (take k slots) + is_one (get_or slots k x).ino n
naming_more n slots k x lt = sum_by_more (λ (y : NamedInode). cond (y.ino == n) 1 0) slots k x lt

-- one name more
pub add_one : (d : ℕ) (slots : List NamedInode) (k n : ℕ) (x : NamedInode) (c0 d0 c1 d1 : List ℕ) → k < length slots → (get_or slots k x).ino ≡ n
    → n < length c1 → n < length d1
    → AddsSlots d (take k slots) c0 d0 c1 d1 → AddsSlots d (take (k + 1) slots) c0 d0 (set c1 n (get_or c1 n 0 + 1)) (set d1 n d)
add_one d slots k n x c0 d0 c1 d1 lt is in_counts in_directories h =
    let who = (get_or slots k x).ino in
    record {
      counts_len = length-set c1 n (get_or c1 n 0 + 1) ∙ h.counts_len;
      directories_len = length-set d1 n d ∙ h.directories_len;
      counted = λ j low.
          let more = naming_more j slots k x lt in
          let before = h.counted j low in
          elim (cases_eq j n) [
            | inl e ↦
                let one = is_one-same who j (is ∙ sym e) in
                let here = get_or-set_same c1 n (get_or c1 n 0 + 1) 0 in_counts in
                let at = ap (λ i. get_or (set c1 n (get_or c1 n 0 + 1)) i 0) e in
                let old = ap (λ i. get_or c1 i 0) e in
                omega (arith, more, before, one, here, at, old)
            | inr ne ↦
                let none = is_one-other who j (λ z. ne (sym z ∙ is)) in
                let there = get_or-set_other c1 n j (get_or c1 n 0 + 1) 0 ne in
                omega (arith, more, before, none, there)
          ];
      named = λ j low some. elim (cases_eq j n) [
        | inl e ↦ ap (λ i. get_or (set d1 n d) i 0) e ∙ get_or-set_same d1 n d 0 in_directories
        | inr ne ↦
            let more = naming_more j slots k x lt in
            let none = is_one-other who j (λ z. ne (sym z ∙ is)) in
            get_or-set_other d1 n j d 0 ne ∙ h.named j low (omega (arith, more, none, some))
      ];
      others = λ j no.
          let more = naming_more j slots k x lt in
          elim (cases_eq j n) [
            | inl e ↦ absurd (let one = is_one-same who j (is ∙ sym e) in omega (arith, more, one, no))
            | inr ne ↦ get_or-set_other d1 n j d 0 ne ∙ h.others j (omega (arith, more, no))
          ];
    }

-- ---- the numbers of a directory

held : (kind : Kind) (s : List ℕ) (v : Inode) (b z : Bool) → inode_fits (fields_of kind s) ≡ b
    → cond b (cond z (Ok (fields_of kind s)) (Err NotZero)) (Err BadNumber) ≡ Ok v → IsTrue (inode_fits v)
held kind s v true true fits e = let same : fields_of kind s ≡ v = same_ok (fields_of kind s) v (Ok (fields_of kind s)) refl e in
    sym (ap inode_fits same) ∙ fits
held kind s v true false fits e = absurd cc
held kind s v false z fits e = absurd cc

fits_if : (o : Option Kind) (s : List ℕ) (v : Inode) → inode_if inode_fits gaps_are_zero o s ≡ Ok v → IsTrue (inode_fits v)
fits_if None s v e = absurd cc
fits_if (Some kind) s v e = held kind s v (inode_fits (fields_of kind s)) (gaps_are_zero kind s) refl e

read_fits : (s : List ℕ) (v : Inode) → inode_of s ≡ Ok v → IsTrue (inode_fits v)
unfolding inode_of
read_fits s v e = fits_if (kind_of (u16_of s 0)) s v e

pub directory_size : (p : Geometry) (m : SectorMap) (n : ℕ) → IsGoodInode p m n → (inode_at p m n).kind ≡ kinds.Directory → (inode_at p m n).size ≤ MAX_DIRECTORY_SIZE
directory_size p m n good is = (directory_fits (inode_at p m n) is (read_fits (stored p m n) (inode_at p m n) good.is)).1

-- ---- the names in a directory

are_slots_of : (version : Version) (m : SectorMap) (v : Inode) (slots : List NamedInode) → AreSlots version m v slots → slots ≡ slots_of version m v
unfolding slots_of
are_slots_of version m v slots are =
    let none = slot_at version m v 0 in
    fill_by_all (slot_at version m v) slots (slot_count version v) none are.len (λ k lt. are.each k none lt)

namings_of : (version : Version) (m : SectorMap) (v : Inode) (slots : List NamedInode) (n : ℕ) → v.kind ≡ kinds.Directory → AreSlots version m v slots
    → naming n slots ≡ namings_in version m v n
unfolding slots_naming
namings_of version m v slots n is are =
    ap (naming n) (are_slots_of version m v slots are) ∙ naming-slots_of version m v n
    ∙ sym (ap (λ k. cond (is_directory_kind k) (count_by (λ k. (slot_at version m v k).ino == n) (range_with_len 0 (slot_count version v))) 0) is)

other_kind : (k : Kind) → k ≢ kinds.Directory → is_directory_kind k ≡ false
other_kind kinds.Free ne = refl
other_kind kinds.File ne = refl
other_kind kinds.Directory ne = absurd (ne refl)
other_kind kinds.Link ne = refl

-- a directory has at most as many slots as the largest one has of the smallest
pub few_slots : (version : Version) (v : Inode) → v.size ≤ MAX_DIRECTORY_SIZE → slot_count version v ≤ MAX_DIRECTORY_SIZE / SLOT_SIZE
few_slots One v small = omega (arith, small)
few_slots Two v small = omega (arith, small)
few_slots Three v small = omega (arith, small)

no_namings : (version : Version) (m : SectorMap) (v : Inode) (n : ℕ) → v.kind ≢ kinds.Directory → namings_in version m v n ≡ 0
no_namings version m v n ne = ap (λ b. cond b (count_by (λ k. (slot_at version m v k).ino == n) (range_with_len 0 (slot_count version v))) 0) (other_kind v.kind ne)

few_namings : (version : Version) (m : SectorMap) (v : Inode) (n : ℕ) → (v.kind ≡ kinds.Directory → v.size ≤ MAX_DIRECTORY_SIZE) → namings_in version m v n ≤ MAX_DIRECTORY_SIZE / SLOT_SIZE
few_namings version m v n small = go v.kind refl
  where
    go : (k : Kind) → v.kind ≡ k → namings_in version m v n ≤ MAX_DIRECTORY_SIZE / SLOT_SIZE
    go kinds.Free e = let z = no_namings version m v n (λ d. absurd (let c : kinds.Free ≡ kinds.Directory = sym e ∙ d in cc)) in omega (arith, z)
    go kinds.File e = let z = no_namings version m v n (λ d. absurd (let c : kinds.File ≡ kinds.Directory = sym e ∙ d in cc)) in omega (arith, z)
    go kinds.Link e = let z = no_namings version m v n (λ d. absurd (let c : kinds.Link ≡ kinds.Directory = sym e ∙ d in cc)) in omega (arith, z)
    go kinds.Directory e =
        let size = few_slots version v (small e) in
        let some = ap (λ k. cond (is_directory_kind k) (count_by (λ k. (slot_at version m v k).ino == n) (range_with_len 0 (slot_count version v))) 0) e in
        let few = count_by-le-length (λ k. (slot_at version m v k).ino == n) (range_with_len 0 (slot_count version v)) in
        let long = length-range_with_len 0 (slot_count version v) in
        omega (arith, size, some, few, long)

-- ---- sums

sum_next : (f : ℕ → ℕ) (n : ℕ) → sum_by f (range_with_len 0 (n + 1)) ≡ sum_by f (range_with_len 0 n) + f n
sum_next f n = ap (λ k. sum_by f (range_with_len 0 k)) (let e : n + 1 ≡ suc n = omega arith in e) ∙ sum_more f 0 n
    ∙ ap (λ k. sum_by f (range_with_len 0 n) + f k) (let e : 0 + n ≡ n = omega arith in e)

sum_below : (f : ℕ → ℕ) (b n : ℕ) → ((k : ℕ) → k < n → f k ≤ b) → sum_by f (range_with_len 0 n) ≤ n * b
sum_below f b zero each = omega arith
sum_below f b (suc n) each =
    let more = sum_more f 0 n in
    let last = each n (omega arith) in
    let same = ap f (let e : 0 + n ≡ n = omega arith in e) in
    let rest = sum_below f b n (λ k lt. each k (omega (arith, lt))) in
    omega (arith, more, last, same, rest)

-- ---- the tables

module _ (p : Geometry) (m : SectorMap) where
  abbrev so_far : ℕ → ℕ → ℕ
  so_far upto n = sum_by (λ d. namings_in p.version m (inode_at p m d) n) (range_with_len 0 upto)

  next_tally : (d : ℕ) (slots : List NamedInode) (c0 d0 c1 d1 : List ℕ) → d < p.inodes → (inode_at p m d).kind ≡ kinds.Directory
      → AreSlots p.version m (inode_at p m d) slots → AddsSlots d slots c0 d0 c1 d1 → IsTally p m d c0 d0 → IsTally p m (d + 1) c1 d1
  next_tally d slots c0 d0 c1 d1 below is are more t =
      let width = t.counts_len in
      let depth = t.directories_len in
      let sum : (n : ℕ) → n < p.inodes → get_or c1 n 0 ≡ so_far (d + 1) n = λ n lt.
      let added = more.counted n (omega (arith, lt, width)) in
      let before = t.counted n lt in
      let here = namings_of p.version m (inode_at p m d) slots n is are in
      let next = sum_next (λ d. namings_in p.version m (inode_at p m d) n) d in
      omega (arith, added, before, here, next) in
      record {
        counts_len = more.counts_len ∙ width;
        directories_len = more.directories_len ∙ depth;
        counted = sum;
        named_by = λ n lt some.
            let here = namings_of p.version m (inode_at p m d) slots n is are in
            elim (cases_eq (naming n slots) 0) [
              | inl none ↦
                  let added = more.counted n (omega (arith, lt, width)) in
                  subst (λ k. IsNamedBy p m k n) (sym (more.others n none)) (t.named_by n lt (omega (arith, added, none, some)))
              | inr ne ↦
                  let positive : 1 ≤ naming n slots = (let pos = ne in omega (arith, pos)) in
                  subst (λ k. IsNamedBy p m k n) (sym (more.named n (omega (arith, lt, depth)) positive)) (below, omega (arith, here, positive))
            ];
      }

  same_tally : (d : ℕ) (c0 d0 : List ℕ) → (inode_at p m d).kind ≢ kinds.Directory → IsTally p m d c0 d0 → IsTally p m (d + 1) c0 d0
  same_tally d c0 d0 other t = record {
    counts_len = t.counts_len;
    directories_len = t.directories_len;
    counted = λ n lt.
        let before = t.counted n lt in
        let here = no_namings p.version m (inode_at p m d) n other in
        let next = sum_next (λ d. namings_in p.version m (inode_at p m d) n) d in
        omega (arith, before, here, next);
    named_by = t.named_by;
  }

  -- there is room for one directory more in each count
  pub has_room : (d : ℕ) (slots : List NamedInode) (c0 d0 : List ℕ) → d < max_inodes Three
      → ((k : ℕ) → k < d → (inode_at p m k).kind ≡ kinds.Directory → (inode_at p m k).size ≤ MAX_DIRECTORY_SIZE)
      → length slots ≤ MAX_DIRECTORY_SIZE / SLOT_SIZE → IsTally p m d c0 d0 → (n : ℕ) → n < length c0 → get_or c0 n 0 + length slots < 2 ^ 64
  has_room d slots c0 d0 low small few t n lt =
      let width = t.counts_len in
      let sum = t.counted n (omega (arith, lt, width)) in
      let bound = sum_below (λ d. namings_in p.version m (inode_at p m d) n) (MAX_DIRECTORY_SIZE / SLOT_SIZE) d (λ k less. few_namings p.version m (inode_at p m k) n (small k less)) in
      omega (arith, low, few, sum, bound)

  pub no_tally : (c0 d0 : List ℕ) → length c0 ≡ p.inodes → length d0 ≡ p.inodes → ((n : ℕ) → n < p.inodes → get_or c0 n 0 ≡ 0) → IsTally p m 0 c0 d0
  no_tally c0 d0 a b none = record {
    counts_len = a;
    directories_len = b;
    counted = none;
    named_by = λ n lt some. absurd (let z = none n lt in omega (arith, z, some));
  }

  name_table : (c0 d0 : List ℕ) → IsTally p m p.inodes c0 d0 → IsNameTable p m c0 d0
  name_table c0 d0 t = record {
    counted = record { len = t.counts_len; each = t.counted };
    len = t.directories_len;
    named_by = λ n lt some. let sum = t.counted n lt in t.named_by n lt (omega (arith, sum, some));
  }

  -- ---- a name that stands twice

  pub names_apart : (d : ℕ) (slots : List NamedInode) → d < p.inodes → (inode_at p m d).kind ≡ kinds.Directory → AreSlots p.version m (inode_at p m d) slots
      → HaveDistinctNames slots ↔ Obeys p m NamesApart d
  names_apart d slots below is are =
      let len = are.len in
      let name : (k : ℕ) (x : NamedInode) → k < slot_count p.version (inode_at p m d) → (get_or slots k x).name ≡ (slot_at p.version m (inode_at p m d) k).name =
      λ k x lt. ap (λ (y : NamedInode). y.name) (are.each k x lt) in (
        (λ apart lt kind j k less fits same.
            let none = slot_at p.version m (inode_at p m d) 0 in
            apart j k none less (omega (arith, fits, len)) (name j none (omega (arith, less, fits)) ∙ same ∙ sym (name k none fits))),
        (λ obeys j k x less fits same.
            let within : k < slot_count p.version (inode_at p m d) = omega (arith, fits, len) in
            obeys below is j k less within (sym (name j x (omega (arith, less, within))) ∙ same ∙ name k x within)),
      )

  still_repeated : (d : ℕ) (first : Option ℕ) → Obeys p m NamesApart d → IsRepeated p m d first → IsRepeated p m (d + 1) first
  still_repeated d None here x = more_good (Obeys p m NamesApart) d x here
  still_repeated d (Some k) here x = x

  pub next_naming : (d : ℕ) (slots : List NamedInode) (c0 d0 c1 d1 : List ℕ) (first second : Option ℕ) → d < p.inodes → (inode_at p m d).kind ≡ kinds.Directory
      → AreSlots p.version m (inode_at p m d) slots → AddsSlots d slots c0 d0 c1 d1 → IsNaming p m d c0 d0 first
      → (IsRepeated p m d first → (HaveDistinctNames slots ↔ Obeys p m NamesApart d) → IsRepeated p m (d + 1) second) → IsNaming p m (d + 1) c1 d1 second
  next_naming d slots c0 d0 c1 d1 first second below is are more x next = record {
    tally = next_tally d slots c0 d0 c1 d1 below is are more x.tally;
    repeated = next x.repeated (names_apart d slots below is are);
  }

  pub same_naming : (d : ℕ) (c0 d0 : List ℕ) (first : Option ℕ) → (inode_at p m d).kind ≢ kinds.Directory → IsNaming p m d c0 d0 first
      → IsNaming p m (d + 1) c0 d0 first
  same_naming d c0 d0 first other x = record {
    tally = same_tally d c0 d0 other x.tally;
    repeated = still_repeated d first (λ lt is. absurd (other is)) x.repeated;
  }

-- all of them, where the directories of the list have been: one behind it is free
module _ (p : Geometry) (m : SectorMap) (inodes : List Inode) (table : AreInodes p m inodes) where
  rest_naming : (n more : ℕ) (c0 d0 : List ℕ) (first : Option ℕ) → length inodes ≤ n → n + more ≤ p.inodes → IsNaming p m n c0 d0 first
      → IsNaming p m (n + more) c0 d0 first
  rest_naming n zero c0 d0 first past most x = subst (λ k. IsNaming p m k c0 d0 first) (let e : n ≡ n + 0 = omega arith in e) x
  rest_naming n (suc more) c0 d0 first past most x =
      let free = free_behind p m inodes (n + more) table (omega (arith, past)) (omega (arith, most)) in
      subst (λ k. IsNaming p m k c0 d0 first) (let e : n + more + 1 ≡ n + suc more = omega arith in e)
      (same_naming p m (n + more) c0 d0 first (λ is. let c : kinds.Free ≡ kinds.Directory = sym (ap (λ (v : Inode). v.kind) free) ∙ is in cc)
      (rest_naming n more c0 d0 first past (omega (arith, most)) x))

  pub whole_naming : (n : ℕ) (c0 d0 : List ℕ) (first : Option ℕ) → length inodes ≤ n → n ≤ p.inodes → IsNaming p m n c0 d0 first
      → IsNaming p m p.inodes c0 d0 first
  whole_naming n c0 d0 first past most x =
      subst (λ k. IsNaming p m k c0 d0 first) (let e : n + (p.inodes - n) ≡ p.inodes = omega (arith, most) in e)
      (rest_naming n (p.inodes - n) c0 d0 first past (omega (arith, most)) x)

-- the first such directory, where d is the next
module _ (p : Geometry) (m : SectorMap) (d : ℕ) where
  pub stays_first : (first : Option ℕ) → is_some first ≡ true → IsRepeated p m d first → IsRepeated p m (d + 1) first
  stays_first None some x = absurd cc
  stays_first (Some k) some x = x

  pub none_yet : (first : Option ℕ) → is_some first ≡ false → IsRepeated p m d first → Obeys p m NamesApart d → IsRepeated p m (d + 1) None
  none_yet None none x here = more_good (Obeys p m NamesApart) d x here
  none_yet (Some k) none x here = absurd cc

  pub is_first : (first : Option ℕ) → is_some first ≡ false → IsRepeated p m d first → (Obeys p m NamesApart d → ⊥) → IsRepeated p m (d + 1) (Some d)
  is_first None none x fails = record { fails = fails; least = x }
  is_first (Some k) none x fails = absurd cc

-- the lists are the same, as they were read
pub adds_same : (d : ℕ) (slots seen : List NamedInode) (c0 d0 c1 d1 cs ds : List ℕ) → seen ≡ slots → cs ≡ c0 → ds ≡ d0 → AddsSlots d seen cs ds c1 d1
    → AddsSlots d slots c0 d0 c1 d1
adds_same d slots seen c0 d0 c1 d1 cs ds a b e x =
    subst (λ l. AddsSlots d l c0 d0 c1 d1) a (subst (λ l. AddsSlots d seen l d0 c1 d1) b (subst (λ l. AddsSlots d seen cs l c1 d1) e x))

pub naming_same : (p : Geometry) (m : SectorMap) (upto : ℕ) (c0 d0 c1 d1 : List ℕ) (first : Option ℕ) → c1 ≡ c0 → d1 ≡ d0 → IsNaming p m upto c0 d0 first
    → IsNaming p m upto c1 d1 first
naming_same p m upto c0 d0 c1 d1 first a b x = subst (λ l. IsNaming p m upto l d1 first) (sym a) (subst (λ l. IsNaming p m upto c0 l first) (sym b) x)

-- ---- all directories

pub all_repeated : (p : Geometry) (m : SectorMap) (upto : ℕ) (first : Option ℕ) → p.inodes ≤ upto → IsRepeated p m upto first
    → MatchOption first (ObeysEach p m NamesApart) (λ d. IsLeastFailure p m NamesApart d)
all_repeated p m upto None past x = λ n lt. x n (omega (arith, lt, past)) lt
all_repeated p m upto (Some k) past x = x

pub all_named : (p : Geometry) (m : SectorMap) (upto : ℕ) (c0 d0 : List ℕ) → upto ≡ p.inodes → IsTally p m upto c0 d0 → IsNameTable p m c0 d0
all_named p m upto c0 d0 e t = name_table p m c0 d0 (subst (λ k. IsTally p m k c0 d0) e t)
