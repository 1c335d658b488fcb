-- The parts of an inode, counted.
use Rattle.std.specs.Prelude.{◌≡◌, ◌≢◌, ℕ, zero, suc, ◌+◌, ◌-◌, ◌*◌, ◌<◌, ◌≤◌, nat_eq, nat_lt, if◌then◌else◌}
use Rattle.std.proofs.Common.{refl, sym, ap, arith, ◌∙◌, inl, inr}
use Rattle.std.proofs.lemmas.Bool.{cases_eq, cases_lt, lt-ltb, le-ltb, ne_eqb}
use Rattle.fs_layout.specs.declared.inode.TheConstants.{POINTER_LEVELS, SECTOR_POINTERS}
use Rattle.fs_layout.specs.declared.inode.Inode.{Inode}
use Rattle.fs_layout.specs.Bytes.{SectorMap}
use Rattle.fs_layout.specs.Images.{own_count, level_end, number_on, Part, AccessAcl, DefaultAcl, OnLevel, part, Owns}
use Rattle.fs_layout.proofs.Pointers.{number_past, no_level}

-- ---- parts, counted: two ACLs, then the levels from the top

-- which part number 0 of a level is
abbrev pub first_part : ℕ → ℕ
first_part zero = 3 + level_end 2 + level_end 1
first_part (suc zero) = 3 + level_end 2
first_part (suc (suc zero)) = 3
first_part (suc (suc (suc level))) = 2

abbrev pub part_at : ℕ → Part
part_at i =
    if nat_eq i 0 then AccessAcl else
    (if nat_eq i 1 then DefaultAcl else
    (if nat_lt i (first_part 2) then OnLevel 3 (i - first_part 3) else
    (if nat_lt i (first_part 1) then OnLevel 2 (i - first_part 2) else
    (if nat_lt i (first_part 0) then OnLevel 1 (i - first_part 1) else OnLevel 0 (i - first_part 0)))))

-- the sector that an inode has for one
abbrev pub owned_part : SectorMap → Inode → ℕ → ℕ
owned_part m v i = part m v (part_at i)

-- how many there are
abbrev pub part_count : ℕ
part_count = first_part 0 + level_end 0

-- ---- levels, one after the other

-- a level has the numbers of the inode, and those that stand in the sectors of pointers of the level above
pub end_above : (level : ℕ) → level ≤ POINTER_LEVELS → level_end level ≡ own_count level + SECTOR_POINTERS * level_end (suc level)
end_above zero few = refl
end_above (suc zero) few = refl
end_above (suc (suc zero)) few = refl
end_above (suc (suc (suc zero))) few = refl
end_above (suc (suc (suc (suc level)))) few = absurd (omega (arith, few))

-- ---- which part it is

at_level_3 : (i : ℕ) → first_part 3 ≤ i → i < first_part 2 → part_at i ≡ OnLevel 3 (i - first_part 3)
at_level_3 i ge lt =
    rw (ne_eqb i 0 (λ z. omega (arith, z, ge)), ne_eqb i 1 (λ z. omega (arith, z, ge)), lt-ltb i (first_part 2) lt) refl

at_level_2 : (i : ℕ) → first_part 2 ≤ i → i < first_part 1 → part_at i ≡ OnLevel 2 (i - first_part 2)
at_level_2 i ge lt =
    rw (ne_eqb i 0 (λ z. omega (arith, z, ge)), ne_eqb i 1 (λ z. omega (arith, z, ge)), le-ltb i (first_part 2) ge, lt-ltb i (first_part 1) lt) refl

at_level_1 : (i : ℕ) → first_part 1 ≤ i → i < first_part 0 → part_at i ≡ OnLevel 1 (i - first_part 1)
at_level_1 i ge lt =
    rw (
      ne_eqb i 0 (λ z. omega (arith, z, ge)),
      ne_eqb i 1 (λ z. omega (arith, z, ge)),
      le-ltb i (first_part 2) (omega (arith, ge)),
      le-ltb i (first_part 1) ge,
      lt-ltb i (first_part 0) lt,
    ) refl

at_level_0 : (i : ℕ) → first_part 0 ≤ i → part_at i ≡ OnLevel 0 (i - first_part 0)
at_level_0 i ge =
    rw (
      ne_eqb i 0 (λ z. omega (arith, z, ge)),
      ne_eqb i 1 (λ z. omega (arith, z, ge)),
      le-ltb i (first_part 2) (omega (arith, ge)),
      le-ltb i (first_part 1) (omega (arith, ge)),
      le-ltb i (first_part 0) ge,
    ) refl

pub part_on : (level i : ℕ) → level ≤ POINTER_LEVELS → i < level_end level → part_at (first_part level + i) ≡ OnLevel level i
part_on zero i few lt =
    let back : first_part 0 + i - first_part 0 ≡ i = omega arith in
    at_level_0 (first_part 0 + i) (omega arith) ∙ ap (OnLevel 0) back
part_on (suc zero) i few lt =
    let back : first_part 1 + i - first_part 1 ≡ i = omega arith in
    at_level_1 (first_part 1 + i) (omega arith) (omega (arith, lt)) ∙ ap (OnLevel 1) back
part_on (suc (suc zero)) i few lt =
    let back : first_part 2 + i - first_part 2 ≡ i = omega arith in
    at_level_2 (first_part 2 + i) (omega arith) (omega (arith, lt)) ∙ ap (OnLevel 2) back
part_on (suc (suc (suc zero))) i few lt =
    let back : first_part 3 + i - first_part 3 ≡ i = omega arith in
    at_level_3 (first_part 3 + i) (omega arith) (omega (arith, lt)) ∙ ap (OnLevel 3) back
part_on (suc (suc (suc (suc level)))) i few lt = absurd (omega (arith, few))

-- ---- which number it is

part_within : (level i : ℕ) → level ≤ POINTER_LEVELS → i < level_end level → first_part level + i < part_count
part_within zero i few lt = omega (arith, lt)
part_within (suc zero) i few lt = omega (arith, lt)
part_within (suc (suc zero)) i few lt = omega (arith, lt)
part_within (suc (suc (suc zero))) i few lt = omega (arith, lt)
part_within (suc (suc (suc (suc level)))) i few lt = absurd (omega (arith, few))

-- what is owned is one of the parts
module _ (m : SectorMap) (v : Inode) where
  pub counted_part : (s : ℕ) → (o : Owns m v s) → (i : ℕ) × (i < part_count) × (part m v (part_at i) ≡ s) × (o.at ≡ part_at i)
  unfolding part
  counted_part s o = go o.at o.is o.some
    where
      on_level : (level i : ℕ) → number_on m v level i ≡ s → s ≢ 0
          → (k : ℕ) × (k < part_count) × (part m v (part_at k) ≡ s) × (OnLevel level i ≡ part_at k)
      on_level level i e some = elim (cases_lt i (level_end level)) [
        | inl lt ↦ elim (cases_lt POINTER_LEVELS level) [
          | inl high ↦ absurd (some (sym e ∙ no_level m v level i high))
          | inr few ↦
              let is = part_on level i (omega (arith, few)) lt in
              (first_part level + i, part_within level i (omega (arith, few)) lt, ap (part m v) is ∙ e, sym is)
        ]
        | inr ge ↦ absurd (some (sym e ∙ number_past m v level i ge))
      ]

      go : (a : Part) → part m v a ≡ s → s ≢ 0 → (i : ℕ) × (i < part_count) × (part m v (part_at i) ≡ s) × (a ≡ part_at i)
      go AccessAcl e some = (0, omega arith, e, refl)
      go DefaultAcl e some = (1, omega arith, e, refl)
      go (OnLevel level i) e some = on_level level i e some

  pub owned_number : (level i : ℕ) → level ≤ POINTER_LEVELS → i < level_end level → owned_part m v (first_part level + i) ≡ number_on m v level i
  unfolding part
  owned_number level i few lt = ap (part m v) (part_on level i few lt)

-- ---- the parts are told apart

index : Part → ℕ
index AccessAcl = 0
index DefaultAcl = 1
index (OnLevel level i) = first_part level + i

index_of : (i : ℕ) → index (part_at i) ≡ i
unfolding index
index_of i = elim (cases_eq i 0) [
  | inl e ↦ ap (λ k. index (part_at k)) e ∙ sym e
  | inr some ↦ elim (cases_eq i 1) [
    | inl e ↦ ap (λ k. index (part_at k)) e ∙ sym e
    | inr more ↦ elim (cases_lt i (first_part 2)) [
      | inl lt ↦ ap index (at_level_3 i (omega (arith, some, more)) lt) ∙ omega (arith, some, more)
      | inr second ↦ elim (cases_lt i (first_part 1)) [
        | inl lt ↦ ap index (at_level_2 i second lt) ∙ omega (arith, second)
        | inr first ↦ elim (cases_lt i (first_part 0)) [
          | inl lt ↦ ap index (at_level_1 i first lt) ∙ omega (arith, first)
          | inr past ↦ ap index (at_level_0 i past) ∙ omega (arith, past)
        ]
      ]
    ]
  ]
]

pub part_at-injective : (i j : ℕ) → part_at i ≡ part_at j → i ≡ j
part_at-injective i j e = sym (index_of i) ∙ ap index e ∙ index_of j
