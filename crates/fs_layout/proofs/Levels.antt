-- The numbers of levels: where each stands, on what each depends, and what one that changes leaves alone.
use Rattle.std.proofs.Common.{◌≡◌, ◌≢◌, ℕ, zero, suc, ◌+◌, ◌*◌, ◌<◌, ◌≤◌, List, [], ◌∷◌, drop, refl, sym, ap, ◌∙◌, arith, inl, inr, ◌⊎◌}
use Rattle.std.proofs.lemmas.Bool.{cases_eq, cases_lt, lt-ltb, le-ltb}
use Rattle.fs_layout.specs.declared.inode.TheConstants.{SECTOR_POINTERS}
use Rattle.fs_layout.specs.Bytes.{SectorMap, u32_of}
use Rattle.fs_layout.specs.Images.{pointer_in, Level, holder, place_in_holder, number_at}

-- ---- where a number stands
-- a number of a sector of numbers depends on that sector alone
pub entry_kept : (old new : SectorMap) (s i : ℕ) → (s ≢ 0 → new s ≡ old s) → pointer_in new s i ≡ pointer_in old s i
entry_kept old new zero i h = refl
entry_kept old new (suc s) i h = ap (λ (r : List ℕ). u32_of r (4 * i)) (h (λ e. absurd (omega arith)))

-- a number of a sector that there is
pub entry_there : (image : SectorMap) (s i : ℕ) → s ≢ 0 → pointer_in image s i ≡ u32_of (image s) (4 * i)
entry_there image zero i some = absurd (some refl)
entry_there image (suc s) i some = refl

-- the first numbers of a level stand in the inode
pub number_own : (image : SectorMap) (l : Level) (above : List Level) (c i : ℕ) → l.count ≡ c → i < c → number_at image (l ∷ above) i ≡ l.number i
number_own image l above c i e lt = rw (e, lt-ltb i c lt) refl

-- the others in the level above
pub number_held : (image : SectorMap) (l : Level) (above : List Level) (c i : ℕ) → l.count ≡ c → c ≤ i
    → number_at image (l ∷ above) i ≡ pointer_in image (number_at image above (holder c i)) (place_in_holder c i)
number_held image l above c i e ge = rw (e, le-ltb i c ge) refl

-- ---- levels with the same numbers in two inodes
abbrev pub Alike : List Level → List Level → Type 0
Alike [] [] = Unit {0}
Alike [] (b ∷ bs) = ⊥
Alike (a ∷ as') [] = ⊥
Alike (a ∷ as') (b ∷ bs) = (b.count ≡ a.count) × ((i : ℕ) → i < a.count → b.number i ≡ a.number i) × Alike as' bs

-- the numbers in sectors of these levels are the same
abbrev pub KeepsEntries : SectorMap → SectorMap → List Level → Type 0
KeepsEntries old new ls = (n p q : ℕ) → q < SECTOR_POINTERS
    → pointer_in new (number_at old (drop (suc n) ls) p) q ≡ pointer_in old (number_at old (drop (suc n) ls) p) q

-- then each number is the same
pub numbers_alike : (old new : SectorMap) (ls ms : List Level) → Alike ls ms → KeepsEntries old new ls → (i : ℕ)
    → number_at new ms i ≡ number_at old ls i
numbers_alike old new [] [] same kept i = refl
numbers_alike old new [] (b ∷ bs) same kept i = absurd same
numbers_alike old new (a ∷ as') [] same kept i = absurd same
numbers_alike old new (a ∷ as') (b ∷ bs) same kept i = elim (cases_lt i a.count) [
  | inl lt ↦ number_own new b bs a.count i same.0 lt ∙ same.1 i lt ∙ sym (number_own old a as' a.count i refl lt)
  | inr ge ↦
      number_held new b bs a.count i same.0 ge
      ∙ ap (λ (s : ℕ). pointer_in new s (place_in_holder a.count i)) (numbers_alike old new as' bs same.2 (λ n. kept (suc n)) (holder a.count i))
      ∙ kept zero (holder a.count i) (place_in_holder a.count i) (omega arith)
      ∙ sym (number_held old a as' a.count i refl ge)
]

-- and so on each level
pub numbers_alike_above : (old new : SectorMap) (ls ms : List Level) → Alike ls ms → KeepsEntries old new ls → (n i : ℕ)
    → number_at new (drop n ms) i ≡ number_at old (drop n ls) i
numbers_alike_above old new ls ms same kept zero i = numbers_alike old new ls ms same kept i
numbers_alike_above old new [] [] same kept (suc n) i = refl
numbers_alike_above old new [] (b ∷ bs) same kept (suc n) i = absurd same
numbers_alike_above old new (a ∷ as') [] same kept (suc n) i = absurd same
numbers_alike_above old new (a ∷ as') (b ∷ bs) same kept (suc n) i = numbers_alike_above old new as' bs same.2 (λ m. kept (suc m)) n i

-- levels are alike with themselves
pub Alike-refl : (ls : List Level) → Alike ls ls
Alike-refl [] = tt
Alike-refl (a ∷ as') = (refl, λ i lt. refl, Alike-refl as')

-- ---- one number changes
-- alike but for number j of level t, of whose numbers c stand in the inode
abbrev pub AlikeBut : ℕ → ℕ → ℕ → List Level → List Level → Type 0
AlikeBut t j c [] ms = ⊥
AlikeBut t j c (a ∷ as') [] = ⊥
AlikeBut zero j c (a ∷ as') (b ∷ bs) = (a.count ≡ c) × (b.count ≡ c) × ((i : ℕ) → i < c → i ≢ j → b.number i ≡ a.number i) × Alike as' bs
AlikeBut (suc t) j c (a ∷ as') (b ∷ bs) = (b.count ≡ a.count) × ((i : ℕ) → i < a.count → b.number i ≡ a.number i) × AlikeBut t j c as' bs

-- What else is the same where number j of level t changes: its sector has the same numbers, be it none; the other sectors have
-- theirs, but for that number.
pub record KeepsOtherEntries (t j c : ℕ) (old new : SectorMap) (ls ms : List Level) : Type 0 where
  pub below : (n q : ℕ) → suc n ≡ t → q < SECTOR_POINTERS
      → pointer_in new (number_at new (drop (suc n) ms) j) q ≡ pointer_in old (number_at old (drop (suc n) ls) j) q
  pub same : (n p q : ℕ) → q < SECTOR_POINTERS → (suc n ≡ t → p ≢ j) → (n ≡ t → c + SECTOR_POINTERS * p + q ≢ j)
      → pointer_in new (number_at old (drop (suc n) ls) p) q ≡ pointer_in old (number_at old (drop (suc n) ls) p) q

-- in the next level's eyes
above_kept : {t j c : ℕ} {old new : SectorMap} {a b : Level} {as' bs : List Level}
    → KeepsOtherEntries (suc t) j c old new (a ∷ as') (b ∷ bs) → KeepsOtherEntries t j c old new as' bs
above_kept k = record {
  below = λ n q e lt. k.below (suc n) q (ap suc e) lt;
  same = λ n p q lt f g. k.same (suc n) p q lt (λ e. f (let z = e in omega (arith, z))) (λ e. g (let z = e in omega (arith, z)));
}

all_kept : {j c : ℕ} {old new : SectorMap} {a b : Level} {as' bs : List Level}
    → KeepsOtherEntries zero j c old new (a ∷ as') (b ∷ bs) → KeepsEntries old new as'
all_kept k n p q lt = k.same (suc n) p q lt (λ e. absurd (let z = e in omega (arith, z))) (λ e. absurd (let z = e in omega (arith, z)))

-- a number in a sector of the next level, where the others there are the same
entry_turned : {t j c : ℕ} {old new : SectorMap} {a b : Level} {as' bs : List Level} → KeepsOtherEntries (suc t) j c old new (a ∷ as') (b ∷ bs)
    → ((p : ℕ) → (zero ≢ t) ⊎ (p ≢ j) → number_at new bs p ≡ number_at old as' p) → (p q : ℕ) → q < SECTOR_POINTERS
    → pointer_in new (number_at new bs p) q ≡ pointer_in old (number_at old as' p) q
entry_turned {t} {j} {c} {old} {new} {as' = as'} {bs} kept above p q lt = elim (cases_eq t zero) [
  | inl e ↦ elim (cases_eq p j) [
    | inl f ↦
        ap (λ (x : ℕ). pointer_in new (number_at new bs x) q) f
        ∙ kept.below zero q (ap suc (sym e)) lt
        ∙ ap (λ (x : ℕ). pointer_in old (number_at old as' x) q) (sym f)
    | inr away ↦ through (inr away) (λ z. away)
  ]
  | inr up ↦ through (inl (λ z. up (sym z))) (λ z. absurd (up (let y = z in omega (arith, y))))
]
  where
    through : (zero ≢ t) ⊎ (p ≢ j) → (suc zero ≡ suc t → p ≢ j) → pointer_in new (number_at new bs p) q ≡ pointer_in old (number_at old as' p) q
    through ne f =
        ap (λ (s : ℕ). pointer_in new s q) (above p ne)
        ∙ kept.same zero p q lt f (λ z. absurd (let y = z in omega (arith, y)))

-- then each other number is the same
pub numbers_turned : (old new : SectorMap) (t j c : ℕ) (ls ms : List Level) → AlikeBut t j c ls ms → KeepsOtherEntries t j c old new ls ms
    → (n i : ℕ) → (n ≢ t) ⊎ (i ≢ j) → number_at new (drop n ms) i ≡ number_at old (drop n ls) i
numbers_turned old new t j c [] ms same kept n i ne = absurd same
numbers_turned old new t j c (a ∷ as') [] same kept n i ne = absurd same
numbers_turned old new zero j c (a ∷ as') (b ∷ bs) same kept (suc n) i ne = numbers_alike_above old new as' bs same.3 (all_kept kept) n i
numbers_turned old new zero j c (a ∷ as') (b ∷ bs) same kept zero i ne = elim (cases_lt i c) [
  | inl lt ↦ number_own new b bs c i same.1 lt ∙ same.2 i lt (other ne) ∙ sym (number_own old a as' c i same.0 lt)
  | inr ge ↦
      number_held new b bs c i same.1 ge
      ∙ ap (λ (s : ℕ). pointer_in new s (place_in_holder c i)) (numbers_alike old new as' bs same.3 (all_kept kept) (holder c i))
      ∙ kept.same zero (holder c i) (place_in_holder c i) (omega arith) (λ e. absurd (let z = e in omega (arith, z)))
      (λ z e. other ne (let there : c + SECTOR_POINTERS * holder c i + place_in_holder c i ≡ i = omega (arith, ge) in sym there ∙ e))
      ∙ sym (number_held old a as' c i same.0 ge)
]
  where
    other : (zero ≢ zero) ⊎ (i ≢ j) → i ≢ j
    other (inl h) = absurd (h refl)
    other (inr h) = h
numbers_turned old new (suc t) j c (a ∷ as') (b ∷ bs) same kept (suc n) i ne =
    numbers_turned old new t j c as' bs same.2 (above_kept kept) n i (elim ne [ inl h ↦ inl (λ e. h (ap suc e)) | inr h ↦ inr h ])
numbers_turned old new (suc t) j c (a ∷ as') (b ∷ bs) same kept zero i ne = elim (cases_lt i a.count) [
  | inl lt ↦ number_own new b bs a.count i same.0 lt ∙ same.1 i lt ∙ sym (number_own old a as' a.count i refl lt)
  | inr ge ↦
      let above = numbers_turned old new t j c as' bs same.2 (above_kept kept) zero in
      number_held new b bs a.count i same.0 ge
      ∙ entry_turned kept (λ p. above p) (holder a.count i) (place_in_holder a.count i) (omega arith)
      ∙ sym (number_held old a as' a.count i refl ge)
]
