-- A way up over the inodes: it reaches the root, or it comes back to itself, and then nothing on it does.
use Rattle.std.specs.Prelude.{◌≡◌, ◌≢◌, ℕ, ◌+◌, ◌<◌, ◌≤◌, ◌==◌, nat_eq, Bool, not, cond, List, length, get_or, set, count_by, IsTrue, ◌⊎◌, ◌↔◌}
use Rattle.std.proofs.Common.{refl, sym, ap, arith, ◌∙◌, subst, inl, inr, get_or-set_other, get_or-set_same, length-set}
use Rattle.std.proofs.lemmas.Bool.{cases_eq, cases_lt, ne_eqb}
use Rattle.std.proofs.lemmas.Bool.Decides.{nat_tests}
use Rattle.std.proofs.lemmas.List.Sums.{sum_by-set}
use Rattle.fs_layout.specs.declared.inode.Kind.TheVariants as kinds
use Rattle.fs_layout.specs.declared.inode.Inode.{Inode}
use Rattle.fs_layout.specs.declared.geometry.Geometry.{Geometry}
use Rattle.fs_layout.specs.Bytes.{SectorMap}
use Rattle.fs_layout.specs.Inode.{free_inode}
use Rattle.fs_layout.specs.Images.{inode_at}
use Rattle.fs_model.specs.Limits.{root}
use Rattle.fs_model.specs.Rules.{Inodes, Parents, Ways, GoesUp, at_root, above, Obeys, ObeysBefore, IsLeastFailure}
use Rattle.fs_check.specs.Checks.{AreInodes}
use Rattle.fs_check.specs.Ways.{Climbs, at_top, up, AllClimb}
use Rattle.fs_check.proofs.Namings.{directory_or}
use Rattle.fs_check.proofs.Tests.{free_behind}

-- the parent of an inode of the list
abbrev pub parent_in : List Inode → ℕ → ℕ
parent_in inodes d = (get_or inodes d free_inode).parent

-- what climbs is the root, or an inode of the list whose parent climbs
above_climbs : (inodes : List Inode) (d : ℕ) → Climbs inodes d → d ≢ root → (d < length inodes) × Climbs inodes (parent_in inodes d)
above_climbs inodes d at_top ne = absurd (ne refl)
above_climbs inodes d (up n lt c) ne = (lt, c)

-- The way up from d has come to at, and has left d at the inodes on it.
pub record IsOnWay (inodes : List Inode) (marks : List ℕ) (d at : ℕ) : Type 0 where
  pub len : length marks ≡ length inodes
  pub some : 0 < d
  pub latest : (n : ℕ) → get_or marks n 0 < d + 1
  -- earlier ways climb
  pub earlier : (n : ℕ) → get_or marks n 0 ≢ 0 → get_or marks n 0 ≢ d → Climbs inodes n
  -- from an inode on this way the next is on it too, or it is at
  pub next : (n : ℕ) → get_or marks n 0 ≡ d → (n ≢ root) × ((parent_in inodes n ≡ at) ⊎ (get_or marks (parent_in inodes n) 0 ≡ d))
  -- all of this way climb if at does
  pub rest : (n : ℕ) → get_or marks n 0 ≡ d → Climbs inodes at → Climbs inodes n
  pub same : Climbs inodes d ↔ Climbs inodes at

-- the inodes that have no mark
abbrev pub unmarked : List ℕ → ℕ
unmarked marks = count_by (λ k. k == 0) marks

abbrev is_zero : Bool → ℕ
is_zero b = cond b 1 0

module _ (inodes : List Inode) (marks : List ℕ) (d : ℕ) where
  -- where the way begins
  pub way_begins : length marks ≡ length inodes → ((n : ℕ) → get_or marks n 0 < d) → AllClimb inodes marks → IsOnWay inodes marks d d
  way_begins len below climb = record {
    len = len;
    some = let b = below 0 in omega (arith, b);
    latest = λ n. let b = below n in omega (arith, b);
    earlier = λ n some other. climb n some;
    next = λ n e. absurd (let b = below n in omega (arith, b, e));
    rest = λ n e. absurd (let b = below n in omega (arith, b, e));
    same = ((λ x. x), (λ x. x));
  }

  module _ (at : ℕ) (x : IsOnWay inodes marks d at) where
    -- one inode more
    pub way_goes_on : at ≢ root → at < length inodes → get_or marks at 0 ≡ 0 → IsOnWay inodes (set marks at d) d (parent_in inodes at)
    way_goes_on ne lt free =
        let len = x.len in
        let some = x.some in
        let here : get_or (set marks at d) at 0 ≡ d = get_or-set_same marks at d 0 (omega (arith, lt, len)) in
        let back : Climbs inodes (parent_in inodes at) → Climbs inodes at = λ c. up at lt c in
        record {
          len = length-set marks at d ∙ x.len;
          some = x.some;
          latest = λ n. elim (cases_eq n at) [
            | inl e ↦ (let is = ap (λ k. get_or (set marks at d) k 0) e in omega (arith, is, here))
            | inr other ↦ (let there = get_or-set_other marks at n d 0 other in let before = x.latest n in omega (arith, there, before))
          ];
          earlier = λ n has other. elim (cases_eq n at) [
            | inl e ↦ absurd (other (ap (λ k. get_or (set marks at d) k 0) e ∙ here))
            | inr apart ↦ (let there = get_or-set_other marks at n d 0 apart in x.earlier n (λ z. has (there ∙ z)) (λ z. other (there ∙ z)))
          ];
          next = λ n e. elim (cases_eq n at) [
            | inl is ↦ ((λ top. ne (sym is ∙ top)), inl (ap (parent_in inodes) is))
            | inr apart ↦
                let old = x.next n (sym (get_or-set_other marks at n d 0 apart) ∙ e) in (
                  old.0,
                  inr (elim (cases_eq (parent_in inodes n) at) [
                    | inl to ↦ ap (λ k. get_or (set marks at d) k 0) to ∙ here
                    | inr past ↦ get_or-set_other marks at (parent_in inodes n) d 0 past ∙ elim old.1 [ inl to ↦ absurd (past to) | inr on ↦ on ]
                  ]),
                )
          ];
          rest = λ n e c. elim (cases_eq n at) [
            | inl is ↦ subst (Climbs inodes) (sym is) (back c)
            | inr apart ↦ x.rest n (sym (get_or-set_other marks at n d 0 apart) ∙ e) (back c)
          ];
          same = ((λ c. (above_climbs inodes at (x.same.0 c) ne).1), (λ c. x.same.1 (back c)));
        }

    pub fewer_unmarked : at < length inodes → get_or marks at 0 ≡ 0 → unmarked (set marks at d) < unmarked marks
    fewer_unmarked lt free =
        let len = x.len in
        let some = x.some in
        let one = sum_by-set (λ (k : ℕ). is_zero (k == 0)) marks at d 0 (omega (arith, lt, len)) in
        let before = ap (λ (k : ℕ). is_zero (k == 0)) free in
        let after = ap is_zero (ne_eqb d 0 (omega (arith, some))) in
        omega (arith, one, before, after)

    -- where the way reaches the root, or an earlier way
    pub way_reaches : Climbs inodes at → Climbs inodes d × AllClimb inodes marks
    way_reaches c = (
      x.same.1 c,
      (λ n has. elim (cases_eq (get_or marks n 0) d) [
        | inl e ↦ x.rest n e c
        | inr ne ↦ x.earlier n has ne
      ]),
    )

    -- where it leads out of the list
    pub way_leads_out : at ≢ root → length inodes ≤ at → Climbs inodes d → ⊥
    way_leads_out ne past c = let lt = (above_climbs inodes at (x.same.0 c) ne).0 in omega (arith, lt, past)

    closed : get_or marks at 0 ≡ d → (n : ℕ) → Climbs inodes n → get_or marks n 0 ≡ d → ⊥
    closed on n at_top e = (x.next root e).0 refl
    closed on n (up k lt c) e = elim (x.next k e).1 [
      | inl to ↦ closed on (parent_in inodes k) c (ap (λ j. get_or marks j 0) to ∙ on)
      | inr there ↦ closed on (parent_in inodes k) c there
    ]

    -- where it comes back to itself
    pub way_goes_round : get_or marks at 0 ≡ d → Climbs inodes d → ⊥
    way_goes_round on c = closed on at (x.same.0 c) on

    -- where it meets a way
    pub way_meets : get_or marks at 0 ≢ 0 → IsTrue (not (nat_eq (get_or marks at 0) d)) ↔ Climbs inodes d
    way_meets has = elim (cases_eq (get_or marks at 0) d) [
      | inl e ↦ ((λ t. absurd (grind (arith, nat_tests, e, t))), (λ c. absurd (way_goes_round e c)))
      | inr ne ↦ ((λ t. x.same.1 (x.earlier at has ne)), (λ c. grind (arith, nat_tests, ne)))
    ]

-- ---- the ways of an image

module _ (p : Geometry) (m : SectorMap) (inodes : List Inode) (table : AreInodes p m inodes) where
  pub reaches_root : (d : ℕ) → Climbs inodes d → GoesUp p m d
  reaches_root d at_top = at_root
  reaches_root d (up n lt c) =
      let len = table.len in
      above n (subst (GoesUp p m) (ap (λ (v : Inode). v.parent) (table.each n (omega (arith, lt, len)))) (reaches_root (parent_in inodes n) c))

  module _ (before : ObeysBefore p m 14) where
    parent_below : (d : ℕ) → d < p.inodes → (inode_at p m d).parent < p.inodes
    parent_below d lt =
        let has = before Parents (omega arith) d lt in
        elim (cases_eq d root) [
          | inl e ↦ (let top = has.top e in omega (arith, top, e, lt))
          | inr ne ↦ elim (directory_or (inode_at p m d).kind) [
            | inl is ↦ (has.named is ne).0
            | inr other ↦ (let none = has.none other in omega (arith, none, lt))
          ]
        ]

    -- from inode 0, which is its own parent, no way goes up
    never_up : (d : ℕ) → d ≡ 0 → d < p.inodes → GoesUp p m d → ⊥
    never_up d zero_it lt at_root = cc
    never_up d zero_it lt (above n g) =
        let free = (before Inodes (omega arith) n lt).none zero_it in
        let parent = (before Parents (omega arith) n lt).none (λ is. let c : kinds.Free ≡ kinds.Directory = sym free ∙ is in cc) in
        never_up (inode_at p m n).parent parent (omega (arith, parent, lt)) g

    pub climbs_up : (d : ℕ) → d < p.inodes → GoesUp p m d → Climbs inodes d
    climbs_up d lt at_root = at_top
    climbs_up d lt (above n g) = elim (cases_lt n (length inodes)) [
      | inl here ↦
          let same = ap (λ (v : Inode). v.parent) (table.each n lt) in
          up n here (subst (Climbs inodes) (sym same) (climbs_up (inode_at p m n).parent (parent_below n lt) g))
      | inr past ↦
          let none = ap (λ (v : Inode). v.parent) (free_behind p m inodes n table past lt) in
          absurd (never_up (inode_at p m n).parent none (omega (arith, none, lt)) g)
    ]

    -- the numbers before d that are directories climb
    abbrev pub AreUpTo : ℕ → Type 0
    AreUpTo d = (k : ℕ) → 1 ≤ k → k < d → (get_or inodes k free_inode).kind ≡ kinds.Directory → Climbs inodes k

    pub way_there : (d k : ℕ) → AreUpTo d → k < d → Obeys p m Ways k
    way_there d k so_far lt below is = elim (cases_eq k 0) [
      | inl e ↦ absurd (
          let free = (before Inodes (omega arith) k below).none e in
          let c : kinds.Free ≡ kinds.Directory = sym free ∙ is in cc)
      | inr ne ↦ reaches_root k (so_far k (omega (arith, ne)) lt (ap (λ (v : Inode). v.kind) (table.each k below) ∙ is))
    ]

    -- so do all others, where those before d have been tried and none of the list is left
    pub all_there : (d : ℕ) → AreUpTo d → length inodes ≤ d → (k : ℕ) → Obeys p m Ways k
    all_there d so_far past k below is = elim (cases_lt k d) [
      | inl lt ↦ way_there d k so_far lt below is
      | inr ge ↦ absurd (
          let free = free_behind p m inodes k table (omega (arith, ge, past)) below in
          let c : kinds.Free ≡ kinds.Directory = sym (ap (λ (v : Inode). v.kind) free) ∙ is in cc)
    ]

    pub no_way : (d : ℕ) → AreUpTo d → d < p.inodes → (get_or inodes d free_inode).kind ≡ kinds.Directory → (Climbs inodes d → ⊥) → IsLeastFailure p m Ways d
    no_way d so_far lt is lost = record {
      fails = λ all. lost (climbs_up d lt (all lt (sym (ap (λ (v : Inode). v.kind) (table.each d lt)) ∙ is)));
      least = λ k low. way_there d k so_far low;
    }
