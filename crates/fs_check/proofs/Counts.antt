-- The marks of how often sectors were counted.
use Rattle.std.specs.Prelude.{◌≡◌, ◌≢◌, ℕ, ◌+◌, ◌*◌, ◌-◌, ◌<◌, ◌≤◌, Bool, true, false, List, [], length, get_or, set, IsTrue, ◌↔◌}
use Rattle.std.specs.Prelude.{Option, Some, None, IfSome, IfNone, MatchOption}
use Rattle.std.proofs.Common.{sym, ap, subst, arith, ◌∙◌, inl, inr, get_or-set_other, get_or-set_same, length-set}
use Rattle.std.proofs.lemmas.Bool.{cases_eq, cases_lt}
use Rattle.fs_layout.specs.declared.inode.TheConstants.{POINTER_LEVELS}
use Rattle.fs_layout.specs.declared.inode.Inode.{Inode}
use Rattle.fs_layout.specs.declared.geometry.Geometry.{Geometry}
use Rattle.fs_layout.specs.Bytes.{SectorMap}
use Rattle.fs_layout.specs.Images.{IsData, Owns, inode_at}
use Rattle.fs_model.specs.Rules.{OwnedOnce, IsOwnedOnce, ObeysEach, IsLeastFailure}
use Rattle.fs_check.specs.declared.marks.Marks.{Marks}
use Rattle.fs_check.specs.Checks.{AreInodes, IsOwnerMap}
use Rattle.fs_check.specs.Owning.{OwnsData}
use Rattle.fs_check.specs.Counts.{sum_to, times_reached, times_owned, times_owned_before, AreInDataArea, HaveRoom, IsMarked, AddsOwners}
use Rattle.fs_check.proofs.FreeInodes.{free_owns_nothing}
use Rattle.fs_check.proofs.Tests.{refuses, free_behind}
use Rattle.fs_check.proofs.Sums.{sum_zero, sum_next, sum_split, sum_none}
use Rattle.fs_check.proofs.Reached.{reached_here, reached_elsewhere, reached_is, reached_most, reached_itself, none_reached, owned_some, owned_times, is_owned_if, owned_before_if, twice_not_once, once_if}

-- ---- so many more

module _ (p : Geometry) (m : SectorMap) where
  pub marked_same : (c d : ℕ → ℕ) (marks : Marks) → ((s : ℕ) → c s ≡ d s) → IsMarked p m c marks → IsMarked p m d marks
  marked_same c d marks same x = record {
    room = x.room;
    in_data = λ s some. x.in_data s (let e = same s in omega (arith, e, some));
    owned = λ s lt. subst (λ n. IsTrue (get_or marks.owned s false) ↔ (1 ≤ n)) (same s) (x.owned s lt);
    twice = λ s lt. subst (λ n. IsTrue (get_or marks.twice s false) ↔ (2 ≤ n)) (same s) (x.twice s lt);
    once = λ k q lt is s. subst (λ n. times_reached m (k + 1) q s ≤ n) (same s) (x.once k q lt is s);
    again = λ k q lt is s. subst (λ n. 2 * times_reached m (k + 1) q s ≤ n) (same s) (x.again k q lt is s);
  }

  pub adds_same : (f g : ℕ → ℕ) (old new : Marks) → ((s : ℕ) → f s ≡ g s) → AddsOwners p m f old new → AddsOwners p m g old new
  adds_same f g old new same step counts x =
      marked_same (λ s. counts s + f s) (λ s. counts s + g s) new (λ s. ap (λ n. counts s + n) (same s)) (step counts x)

  pub adds_joined : (f g : ℕ → ℕ) (old mid new : Marks) → AddsOwners p m f old mid → AddsOwners p m g mid new → AddsOwners p m (λ s. f s + g s) old new
  adds_joined f g old mid new first then counts x =
      marked_same (λ s. counts s + f s + g s) (λ s. counts s + (f s + g s)) new (λ s. omega arith) (then (λ s. counts s + f s) (first counts x))

  pub adds_nothing : (f : ℕ → ℕ) (marks : Marks) → ((s : ℕ) → f s ≡ 0) → AddsOwners p m f marks marks
  adds_nothing f marks none counts x = marked_same counts (λ s. counts s + f s) marks (λ s. let z = none s in omega (arith, z)) x

  pub data_within : (f g : ℕ → ℕ) → ((s : ℕ) → f s ≤ g s) → AreInDataArea p g → AreInDataArea p f
  data_within f g less all s some = all s (let le = less s in omega (arith, le, some))

  pub data_joined : (f g : ℕ → ℕ) → AreInDataArea p f → AreInDataArea p g → AreInDataArea p (λ s. f s + g s)
  data_joined f g first then s some = elim (cases_lt 0 (f s)) [ inl here ↦ first s here | inr none ↦ then s (omega (arith, some, none)) ]

  -- ---- one number

  pub none_data : (level q : ℕ) → q ≡ 0 → AreInDataArea p (times_reached m level q)
  none_data level q none s some = absurd (let z = ap (λ k. times_reached m level k s) none ∙ none_reached m level s in omega (arith, z, some))

  pub none_adds : (level q : ℕ) (marks : Marks) → q ≡ 0 → AddsOwners p m (times_reached m level q) marks marks
  none_adds level q marks none = adds_nothing (times_reached m level q) marks (λ s. ap (λ k. times_reached m level k s) none ∙ none_reached m level s)

  pub here_data : (q : ℕ) → IsData p q → AreInDataArea p (times_reached m 0 q)
  here_data q data_sector s some = subst (IsData p) (reached_is m q s some).0 data_sector

  -- a part of what is counted is outside the data area
  pub refused : (f g : ℕ → ℕ) (b : Bool) → ((s : ℕ) → f s ≤ g s) → (IsTrue b ↔ AreInDataArea p f) → b ≡ false → IsTrue false ↔ AreInDataArea p g
  refused f g b less test bad = (
    (λ t. absurd (let c : false ≡ true = t in cc)),
    (λ all. absurd (refuses (AreInDataArea p f) b bad test (data_within f g less all))),
  )

  pub outside : (level q : ℕ) (b : Bool) → q ≢ 0 → (IsTrue b ↔ IsData p q) → b ≡ false → IsTrue false ↔ AreInDataArea p (times_reached m level q)
  outside level q b some test bad = (
    (λ t. absurd (let c : false ≡ true = t in cc)),
    (λ all. absurd (refuses (IsData p q) b bad test (all q (let one = reached_itself m level q some in omega (arith, one))))),
  )

  -- ---- a sum, term by term

  module _ (first : ℕ → ℕ) (term : ℕ → ℕ → ℕ) where
    pub sum_adds_first : (old new : Marks) → AddsOwners p m first old new → AddsOwners p m (λ s. first s + sum_to (λ k. term k s) 0) old new
    sum_adds_first old new =
        adds_same first (λ s. first s + sum_to (λ k. term k s) 0) old new (λ s. let none = sum_zero (λ k. term k s) in omega (arith, none))

    pub sum_adds_more : (i : ℕ) (old mid new : Marks) → AddsOwners p m (λ s. first s + sum_to (λ k. term k s) i) old mid → AddsOwners p m (term i) mid new
        → AddsOwners p m (λ s. first s + sum_to (λ k. term k s) (i + 1)) old new
    sum_adds_more i old mid new so_far more =
        adds_same (λ s. first s + sum_to (λ k. term k s) i + term i s) (λ s. first s + sum_to (λ k. term k s) (i + 1)) old new
        (λ s. let next = sum_next (λ k. term k s) i in omega (arith, next))
        (adds_joined (λ s. first s + sum_to (λ k. term k s) i) (term i) old mid new so_far more)

    pub sum_data_first : AreInDataArea p first → AreInDataArea p (λ s. first s + sum_to (λ k. term k s) 0)
    sum_data_first = data_within (λ s. first s + sum_to (λ k. term k s) 0) first (λ s. let none = sum_zero (λ k. term k s) in omega (arith, none))

    pub sum_data_more : (i : ℕ) → AreInDataArea p (λ s. first s + sum_to (λ k. term k s) i) → AreInDataArea p (term i)
        → AreInDataArea p (λ s. first s + sum_to (λ k. term k s) (i + 1))
    sum_data_more i so_far more =
        data_within (λ s. first s + sum_to (λ k. term k s) (i + 1)) (λ s. first s + sum_to (λ k. term k s) i + term i s)
        (λ s. let next = sum_next (λ k. term k s) i in omega (arith, next))
        (data_joined (λ s. first s + sum_to (λ k. term k s) i) (term i) so_far more)

  -- ---- one sector

  module _ (q : ℕ) (old new : Marks) (some : q ≢ 0) (data_sector : IsData p q) (owned : new.owned ≡ set old.owned q true) (once : new.once ≡ old.once)
      (again : new.again ≡ old.again) where
    owned_then : (counts : ℕ → ℕ) → IsMarked p m counts old → (s : ℕ) → s < p.sectors
        → IsTrue (get_or new.owned s false) ↔ (1 ≤ counts s + times_reached m 0 q s)
    owned_then counts x s lt = elim (cases_eq s q) [
      | inl e ↦
          let one = reached_here m q s (sym e) some in
          let len = x.room.owned in
          let there : get_or new.owned s false ≡ true = ap (λ (l : List Bool). get_or l s false) owned ∙ ap (λ k. get_or (set old.owned q true) k false) e
          ∙ get_or-set_same old.owned q true false (omega (arith, lt, e, len)) in
          ((λ is. omega (arith, one)), (λ n. there))
      | inr ne ↦
          let none = reached_elsewhere m q s (λ k. ne (sym k)) in
          let there : get_or new.owned s false ≡ get_or old.owned s false = ap (λ (l : List Bool). get_or l s false) owned ∙ get_or-set_other old.owned q s true false ne in
          ((λ is. let was = (x.owned s lt).0 (sym there ∙ is) in omega (arith, was)), (λ n. there ∙ (x.owned s lt).1 (omega (arith, n, none))))
    ]

    pub room_then : length new.twice ≡ length old.twice → HaveRoom p.sectors old → HaveRoom p.sectors new
    room_then len room = record {
      owned = ap length owned ∙ length-set old.owned q true ∙ room.owned;
      twice = len ∙ room.twice;
      once = λ k lt. ap (λ (l : List (List Bool)). length (get_or l k [])) once ∙ room.once k lt;
      again = λ k lt. ap (λ (l : List (List Bool)). length (get_or l k [])) again ∙ room.again k lt;
    }

    one_more : length new.twice ≡ length old.twice
        → ((counts : ℕ → ℕ) → IsMarked p m counts old → (s : ℕ) → s < p.sectors → IsTrue (get_or new.twice s false) ↔ (2 ≤ counts s + times_reached m 0 q s))
        → AddsOwners p m (times_reached m 0 q) old new
    one_more len twice counts x = record {
      room = room_then len x.room;
      in_data = λ s many. elim (cases_lt 0 (times_reached m 0 q s)) [
        | inl here ↦ subst (IsData p) (reached_is m q s here).0 data_sector
        | inr none ↦ x.in_data s (omega (arith, many, none))
      ];
      owned = owned_then counts x;
      twice = twice counts x;
      once = λ k r lt is s. let was = x.once k r lt (ap (λ (l : List (List Bool)). get_or (get_or l k []) r false) (sym once) ∙ is) s in omega (arith, was);
      again = λ k r lt is s. let was = x.again k r lt (ap (λ (l : List (List Bool)). get_or (get_or l k []) r false) (sym again) ∙ is) s in omega (arith, was);
    }

    -- a first owner
    pub first_owner : new.twice ≡ old.twice → get_or old.owned q false ≡ false → AddsOwners p m (times_reached m 0 q) old new
    first_owner same free = one_more (ap length same) (λ counts x s lt. (
      (λ is. let was = (x.twice s lt).0 (ap (λ (l : List Bool). get_or l s false) (sym same) ∙ is) in omega (arith, was)),
      (λ many.
          ap (λ (l : List Bool). get_or l s false) same
          ∙ elim (cases_eq s q) [
            | inl e ↦
                let most = reached_most m q s in
                let taken = (x.owned s lt).1 (omega (arith, many, most)) in
                let c : false ≡ true = sym free ∙ ap (λ k. get_or old.owned k false) (sym e) ∙ taken in
                absurd cc
            | inr ne ↦ let none = reached_elsewhere m q s (λ k. ne (sym k)) in (x.twice s lt).1 (omega (arith, many, none))
          ]),
    ))

    -- a second owner
    pub second_owner : new.twice ≡ set old.twice q true → get_or old.owned q false ≡ true → AddsOwners p m (times_reached m 0 q) old new
    second_owner set_there taken = one_more (ap length set_there ∙ length-set old.twice q true) (λ counts x s lt. elim (cases_eq s q) [
      | inl e ↦
          let one = reached_here m q s (sym e) some in
          let len = x.room.twice in
          let was = (x.owned s lt).0 (ap (λ k. get_or old.owned k false) e ∙ taken) in
          let there : get_or new.twice s false ≡ true = ap (λ (l : List Bool). get_or l s false) set_there ∙ ap (λ k. get_or (set old.twice q true) k false) e
          ∙ get_or-set_same old.twice q true false (omega (arith, lt, e, len)) in
          ((λ is. omega (arith, one, was)), (λ n. there))
      | inr ne ↦
          let none = reached_elsewhere m q s (λ k. ne (sym k)) in
          let there : get_or new.twice s false ≡ get_or old.twice s false = ap (λ (l : List Bool). get_or l s false) set_there
          ∙ get_or-set_other old.twice q s true false ne in
          ((λ is. let was = (x.twice s lt).0 (sym there ∙ is) in omega (arith, was)), (λ n. there ∙ (x.twice s lt).1 (omega (arith, n, none))))
    ])

  -- ---- a sector of pointers

  module _ (level k q : ℕ) (is : k + 1 ≡ level) (lt : k < POINTER_LEVELS) where
    -- what it reaches was marked twice
    pub passed_over : (marks : Marks) → IsTrue (get_or (get_or marks.again k []) q false) → AddsOwners p m (times_reached m level q) marks marks
    passed_over marks set_there counts x =
        let twice : (s : ℕ) → 2 * times_reached m level q s ≤ counts s = λ s. subst (λ n. 2 * times_reached m n q s ≤ counts s) is (x.again k q lt set_there s) in
        record {
          room = x.room;
          in_data = λ s some. x.in_data s (let two = twice s in omega (arith, two, some));
          owned = λ s less. (
            (λ t. let was = (x.owned s less).0 t in omega (arith, was)),
            (λ n. (x.owned s less).1 (let two = twice s in omega (arith, two, n))),
          );
          twice = λ s less. (
            (λ t. let was = (x.twice s less).0 t in omega (arith, was)),
            (λ n. (x.twice s less).1 (let two = twice s in omega (arith, two, n))),
          );
          once = λ j r few t s. let was = x.once j r few t s in omega (arith, was);
          again = λ j r few t s. let was = x.again j r few t s in omega (arith, was);
        }

    pub passed_data : (marks : Marks) (counts : ℕ → ℕ) → IsTrue (get_or (get_or marks.again k []) q false) → IsMarked p m counts marks
        → AreInDataArea p (times_reached m level q)
    passed_data marks counts set_there x s some =
        let two = subst (λ n. 2 * times_reached m n q s ≤ counts s) is (x.again k q lt set_there s) in
        x.in_data s (omega (arith, two, some))

    pub passed_before : (marks : Marks) (counts : ℕ → ℕ) → IsTrue (get_or (get_or marks.once k []) q false) → IsMarked p m counts marks
        → (s : ℕ) → times_reached m level q s ≤ counts s
    passed_before marks counts set_there x s = subst (λ n. times_reached m n q s ≤ counts s) is (x.once k q lt set_there s)

-- ---- one inode after the other

module _ (p : Geometry) (m : SectorMap) where
  pub owns_data : (v : Inode) → AreInDataArea p (times_owned m v) → OwnsData p m v
  owns_data v all s o = all s (owned_times m v s o)

  pub owned_data : (v : Inode) → OwnsData p m v → AreInDataArea p (times_owned m v)
  owned_data v all s some = all s (owned_some m v s some)

  -- what an inode owns isn't all in the data area, as a part of it isn't
  pub not_owned_data : (v : Inode) (f : ℕ → ℕ) (b : Bool) → ((s : ℕ) → f s ≤ times_owned m v s) → (IsTrue b ↔ AreInDataArea p f) → b ≡ false
      → IsTrue false ↔ OwnsData p m v
  not_owned_data v f b less test bad =
      let no = refused p m f (times_owned m v) b less test bad in
      ((λ t. owns_data v (no.0 t)), (λ all. no.1 (owned_data v all)))

  pub first_inode : (marks : Marks) → IsMarked p m (λ s. 0) marks → IsMarked p m (times_owned_before p m 0) marks
  first_inode marks = marked_same p m (λ s. 0) (times_owned_before p m 0) marks (λ s. sym (sum_zero (λ k. times_owned m (inode_at p m k) s)))

  pub next_inode : (n : ℕ) (v : Inode) (old new : Marks) → v ≡ inode_at p m n → AddsOwners p m (times_owned m v) old new
      → IsMarked p m (times_owned_before p m n) old → IsMarked p m (times_owned_before p m (n + 1)) new
  next_inode n v old new is step x =
      marked_same p m (λ s. times_owned_before p m n s + times_owned m v s) (times_owned_before p m (n + 1)) new
      (λ s. ap (λ w. times_owned_before p m n s + times_owned m w s) is ∙ sym (sum_next (λ k. times_owned m (inode_at p m k) s) n))
      (step (times_owned_before p m n) x)

  -- one behind the list owns nothing
  pub all_inodes : (inodes : List Inode) (n : ℕ) (marks : Marks) → AreInodes p m inodes → length inodes ≤ n → n ≤ p.inodes
      → IsMarked p m (times_owned_before p m n) marks → IsMarked p m (times_owned_before p m p.inodes) marks
  all_inodes inodes n marks table past most = marked_same p m (times_owned_before p m n) (times_owned_before p m p.inodes) marks (λ s. sym (rest s))
    where
      none : (s k : ℕ) → n ≤ k → k < p.inodes → times_owned m (inode_at p m k) s ≡ 0
      none s k from to = elim (cases_lt 0 (times_owned m (inode_at p m k) s)) [
        | inl some ↦ absurd (free_owns_nothing m s
            (subst (λ v. Owns m v s) (free_behind p m inodes k table (omega (arith, from, past)) to) (owned_some m (inode_at p m k) s some)))
        | inr few ↦ omega (arith, few)
      ]

      rest : (s : ℕ) → times_owned_before p m p.inodes s ≡ times_owned_before p m n s
      rest s =
          let f : ℕ → ℕ = λ k. times_owned m (inode_at p m k) s in
          let whole = ap (sum_to f) (let e : n + (p.inodes - n) ≡ p.inodes = omega (arith, most) in e) in
          let split = sum_split f n (p.inodes - n) in
          let free = sum_none (λ k. f (n + k)) (p.inodes - n) (λ k lt. none s (n + k) (omega arith) (omega (arith, lt))) in
          omega (arith, whole, split, free)

-- ---- what the marks of all inodes say

module _ (p : Geometry) (m : SectorMap) (marks : Marks) (x : IsMarked p m (times_owned_before p m p.inodes) marks) where
  few_times : (s : ℕ) → s < p.sectors → get_or marks.twice s false ≡ false → times_owned_before p m p.inodes s ≤ 1
  few_times s lt clear = elim (cases_lt 1 (times_owned_before p m p.inodes s)) [
    | inl more ↦ absurd (let c : false ≡ true = sym clear ∙ (x.twice s lt).1 more in cc)
    | inr few ↦ few
  ]

  least_twice : (s : ℕ) → s < length marks.twice → get_or marks.twice s false ≡ true → ((k : ℕ) → k < s → get_or marks.twice k false ≡ false)
      → IsLeastFailure p m OwnedOnce s
  least_twice s lt set_there least =
      let size = x.room.twice in
      let below : s < p.sectors = omega (arith, lt, size) in
      record {
        fails = twice_not_once p m s ((x.twice s below).0 set_there);
        least = λ k low. once_if p m k (few_times k (omega (arith, low, below)) (least k low));
      }

  -- a sector outside the data area is owned by none
  none_twice : ((k : ℕ) → k < length marks.twice → get_or marks.twice k false ≡ false) → (s : ℕ) → IsOwnedOnce p m s
  none_twice clear s = elim (cases_lt s p.sectors) [
    | inl lt ↦ let size = x.room.twice in once_if p m s (few_times s lt (clear s (omega (arith, lt, size))))
    | inr ge ↦ once_if p m s (elim (cases_lt 1 (times_owned_before p m p.inodes s)) [
      | inl more ↦ absurd (let data_sector = x.in_data s (omega (arith, more)) in let to = data_sector.1 in omega (arith, ge, to))
      | inr few ↦ few
    ])
  ]

  -- the first that is owned twice, if one is
  pub twice_found : (first : Option ℕ) → IfSome first (λ s. s < length marks.twice) → IfSome first (λ s. get_or marks.twice s false ≡ true)
      → IfSome first (λ s. (k : ℕ) → k < s → get_or marks.twice k false ≡ false) → IfNone first ((k : ℕ) → k < length marks.twice → get_or marks.twice k false ≡ false)
      → MatchOption first (ObeysEach p m OwnedOnce) (IsLeastFailure p m OwnedOnce)
  twice_found (Some s) below is least none = least_twice s below is least
  twice_found None below is least none = none_twice none

  pub owner_map : IsOwnerMap p m marks.owned
  owner_map = record {
    len = x.room.owned;
    each = λ s lt. ((λ t. is_owned_if p m s ((x.owned s lt).0 t)), (λ o. (x.owned s lt).1 (owned_before_if p m s o)));
  }
