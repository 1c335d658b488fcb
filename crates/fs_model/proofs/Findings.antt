-- The rules in their order, one after the other; and an image has at most one finding, and stands for no tree then.
use Rattle.std.specs.Prelude.{◌≡◌, ℕ, ◌+◌, ◌-◌, ◌<◌, ◌≤◌, List, [], ◌∷◌, get_or, Some}
use Rattle.std.proofs.Common.{refl, sym, ap, arith, ◌∙◌, subst, inl, inr}
use Rattle.std.proofs.lemmas.Bool.{cases_eq, cases_lt}
use Rattle.fs_layout.specs.declared.superblock.Super.{Super}
use Rattle.fs_layout.specs.declared.geometry.Geometry.{Geometry}
use Rattle.fs_layout.specs.Bytes.{SectorMap}
use Rattle.fs_layout.specs.Geometry.{geometry_in}
use Rattle.fs_layout.specs.Superblock.{super_of}
use Rattle.fs_layout.specs.Recovered.{recovered}
use Rattle.fs_layout.proofs.Codecs.{same_ok}
use Rattle.fs_model.specs.Trees.{Tree, Room}
use Rattle.fs_model.specs.Stands.{Stands}
use Rattle.fs_model.specs.Rules.{IsGeometryOf, ImageRule, InodeBits, Inodes, InData, OwnedOnce, BlockBits, LaidOut, Acls, Slots, NamesApart, Names, Parents, Ways, rule_number, ObeysEach, ObeysBefore, ObeysAll, IsLeastFailure, IsFinding, no_geometry, no_commit, fails}
use Rattle.fs_model.proofs.RulesLaw.{obeys_all}

-- ---- the order of the rules

all_rules : List ImageRule
all_rules = InodeBits ∷ Inodes ∷ InData ∷ OwnedOnce ∷ BlockBits ∷ LaidOut ∷ Acls ∷ Slots ∷ NamesApart ∷ Names ∷ Parents ∷ Ways ∷ []

rule_of : ℕ → ImageRule
rule_of n = get_or all_rules (n - 3) InodeBits

back : (r : ImageRule) → rule_of (rule_number r) ≡ r
unfolding rule_of all_rules
back InodeBits = refl
back Inodes = refl
back InData = refl
back OwnedOnce = refl
back BlockBits = refl
back LaidOut = refl
back Acls = refl
back Slots = refl
back NamesApart = refl
back Names = refl
back Parents = refl
back Ways = refl

same_rule : (r q : ImageRule) → rule_number r ≡ rule_number q → r ≡ q
same_rule r q e = sym (back r) ∙ ap rule_of e ∙ back q

from_three : (r : ImageRule) → 3 ≤ rule_number r
from_three InodeBits = omega arith
from_three Inodes = omega arith
from_three InData = omega arith
from_three OwnedOnce = omega arith
from_three BlockBits = omega arith
from_three LaidOut = omega arith
from_three Acls = omega arith
from_three Slots = omega arith
from_three NamesApart = omega arith
from_three Names = omega arith
from_three Parents = omega arith
from_three Ways = omega arith

to_fourteen : (r : ImageRule) → rule_number r < 15
to_fourteen InodeBits = omega arith
to_fourteen Inodes = omega arith
to_fourteen InData = omega arith
to_fourteen OwnedOnce = omega arith
to_fourteen BlockBits = omega arith
to_fourteen LaidOut = omega arith
to_fourteen Acls = omega arith
to_fourteen Slots = omega arith
to_fourteen NamesApart = omega arith
to_fourteen Names = omega arith
to_fourteen Parents = omega arith
to_fourteen Ways = omega arith

module _ (p : Geometry) (m : SectorMap) where
  -- before the first there is none
  pub none_before : ObeysBefore p m 3
  none_before r lt = absurd (omega (arith, lt, from_three r))

  -- one more
  pub next_obeyed : (q : ImageRule) (k : ℕ) → rule_number q ≡ k → ObeysBefore p m k → ObeysEach p m q → ObeysBefore p m (k + 1)
  next_obeyed q k is before each r lt = elim (cases_eq (rule_number r) (rule_number q)) [
    | inl e ↦ subst (ObeysEach p m) (sym (same_rule r q e)) each
    | inr ne ↦ before r (omega (arith, lt, ne, is))
  ]

  -- all of them
  pub each_obeyed : ObeysBefore p m 15 → (r : ImageRule) → ObeysEach p m r
  each_obeyed before r = before r (to_fourteen r)

-- ---- one finding

same_geometry : (sectors : ℕ) (image : SectorMap) (p q : Geometry) → IsGeometryOf sectors image p → IsGeometryOf sectors image q → p ≡ q
same_geometry sectors image p q x y =
    let super : x.super ≡ y.super = same_ok x.super y.super (super_of (image 0)) x.super_is y.super_is in
    let geometry : Some p ≡ Some q = sym x.has_geometry ∙ ap (λ (s : Super). geometry_in s.version s.header sectors s.inodes) super ∙ y.has_geometry in
    cc

least_is_one : (p : Geometry) (m : SectorMap) (r : ImageRule) (i j : ℕ) → IsLeastFailure p m r i → IsLeastFailure p m r j → i ≡ j
least_is_one p m r i j x y = elim (cases_lt i j) [
  | inl lt ↦ absurd (x.fails (y.least i lt))
  | inr ge ↦ elim (cases_lt j i) [
    | inl lt ↦ absurd (y.fails (x.least j lt))
    | inr le ↦ omega (arith, ge, le)
  ]
]

first_is_one : (p : Geometry) (m : SectorMap) (r q : ImageRule) (i j : ℕ) → ObeysBefore p m (rule_number r) → ObeysBefore p m (rule_number q)
    → IsLeastFailure p m r i → IsLeastFailure p m q j → r ≡ q
first_is_one p m r q i j a b x y = elim (cases_lt (rule_number r) (rule_number q)) [
  | inl lt ↦ absurd (x.fails (b r lt i))
  | inr ge ↦ elim (cases_lt (rule_number q) (rule_number r)) [
    | inl lt ↦ absurd (y.fails (a q lt j))
    | inr le ↦ same_rule r q (omega (arith, ge, le))
  ]
]

pub one_finding : (sectors : ℕ) (image : SectorMap) (k l i j : ℕ) → IsFinding sectors image k i → IsFinding sectors image l j → (k ≡ l) × (i ≡ j)
one_finding sectors image k l i j (no_geometry x) (no_geometry y) = (refl, refl)
one_finding sectors image k l i j (no_geometry x) (no_commit p y) = absurd (x p)
one_finding sectors image k l i j (no_geometry x) (fails p r at is c b f) = absurd (x (record { geometry = p; is = is }))
one_finding sectors image k l i j (no_commit p x) (no_geometry y) = absurd (y p)
one_finding sectors image k l i j (no_commit p x) (no_commit q y) = (refl, refl)
one_finding sectors image k l i j (no_commit p x) (fails q r at is c b f) = absurd (x c)
one_finding sectors image k l i j (fails p r at is c b f) (no_geometry y) = absurd (y (record { geometry = p; is = is }))
one_finding sectors image k l i j (fails p r at is c b f) (no_commit q y) = absurd (y c)
one_finding sectors image k l i j (fails p r at is c b f) (fails q s to js d e g) =
    let m = recovered sectors image in
    let same : q ≡ p = same_geometry sectors image q p js is in
    let e' = subst (λ x. ObeysBefore x m (rule_number s)) same e in
    let g' = subst (λ x. IsLeastFailure x m s to) same g in
    let rules : r ≡ s = first_is_one p m r s at to b e' f g' in
    (ap rule_number rules, least_is_one p m s at to (subst (λ x. IsLeastFailure p m x at) rules f) g')

-- an image that obeys all rules has none
no_finding : (sectors : ℕ) (image : SectorMap) (k i : ℕ) → IsFinding sectors image k i → ObeysAll sectors image → ⊥
no_finding sectors image k i (no_geometry x) o = x (record { geometry = o.geometry; is = o.is_geometry })
no_finding sectors image k i (no_commit p x) o = x o.commit
no_finding sectors image k i (fails p r at is c b f) o =
    let same = same_geometry sectors image o.geometry p o.is_geometry is in
    f.fails (subst (λ q. ObeysEach q (recovered sectors image) r) same (o.rules r) at)

pub finding_refuses : (sectors : ℕ) (image : SectorMap) (k i : ℕ) (room : Room) (t : Tree) (free : ℕ) → IsFinding sectors image k i
    → Stands sectors image room t free → ⊥
finding_refuses sectors image k i room t free finding stands = no_finding sectors image k i finding (obeys_all sectors image room t free stands)
