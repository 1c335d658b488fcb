-- What is so of those who hold some, as long as none takes more than it may.
--     none_keep, more_keep, fewer_keep        from no holders on, by one more and by one fewer
--     further_may, root_may        who may hold one
use Rattle.std.specs.Prelude.{◌≡◌, ◌≢◌, ℕ, ◌+◌, ◌<◌, ◌≤◌, ◌==◌, nat_lt, suc, Bool, true, false, not, ◌&&◌, ◌||◌, cond, if◌then◌else◌, List, [], ◌∷◌, length, refl}
use Rattle.std.proofs.Common.{sym, ap, ◌∙◌, arith}
use Rattle.std.specs.List.{filter}
use Rattle.std.proofs.lemmas.Bool.Decides.{nat_tests}
use Rattle.std.proofs.lemmas.List.Filters.{length-filter_both}
use Rattle.fuse_state.specs.declared.shares.Shares.{Shares}
use Rattle.fuse_state.specs.Shares.{count_of, root_part, is_open_to, is_kept_for, allows, may_hold, HasEach, KeepsShares, OneMore}

-- ---- users

equal : (a b : ℕ) → (a == b) ≡ true → a ≡ b
equal a b is = grind (arith, nat_tests)

apart : (a b : ℕ) → (a == b) ≡ false → a ≢ b
apart a b is = grind (arith, nat_tests)

are_equal : (a b : ℕ) → a ≡ b → (a == b) ≡ true
are_equal a b is = grind (arith, nat_tests)

are_apart : (a b : ℕ) → a ≢ b → (a == b) ≡ false
are_apart a b is = grind (arith, nat_tests)

one_counted : {X : Type 0} (b : Bool) (x : X) (xs : List X) → length (cond b (x ∷ xs) xs) ≡ cond b (suc (length xs)) (length xs)
one_counted true x xs = refl
one_counted false x xs = refl

pub count_cons : (user : ℕ) (users : List ℕ) (uid : ℕ) → count_of (user ∷ users) uid ≡ cond (user == uid) (suc (count_of users uid)) (count_of users uid)
count_cons user users uid = one_counted (user == uid) user (filter (λ u. u == uid) users)

count_first : (user : ℕ) (users : List ℕ) (uid : ℕ) → user ≡ uid → count_of (user ∷ users) uid ≡ suc (count_of users uid)
count_first user users uid same = count_cons user users uid ∙ ap (λ b. cond b (suc (count_of users uid)) (count_of users uid)) (are_equal user uid same)

count_rest : (user : ℕ) (users : List ℕ) (uid : ℕ) → user ≢ uid → count_of (user ∷ users) uid ≡ count_of users uid
count_rest user users uid other = count_cons user users uid ∙ ap (λ b. cond b (suc (count_of users uid)) (count_of users uid)) (are_apart user uid other)

-- all but one user
abbrev others : ℕ → List ℕ → List ℕ
others uid users = filter (λ user. not (user == uid)) users

others_fewer : (uid : ℕ) (users : List ℕ) → count_of users uid + length (others uid users) ≡ length users
others_fewer uid users = length-filter_both (λ user. user == uid) (λ user. not (user == uid)) (λ user. refl) users

others_stay : (uid user : ℕ) → user ≢ uid → (users : List ℕ) → count_of (others uid users) user ≡ count_of users user
others_stay uid user other [] = refl
others_stay uid user other (u ∷ us) = go (u == uid) refl (others_stay uid user other us)
  where
    go : (b : Bool) → (u == uid) ≡ b → count_of (others uid us) user ≡ count_of us user
        → count_of (cond (not b) (u ∷ others uid us) (others uid us)) user ≡ count_of (u ∷ us) user
    go true is rest = rest ∙ sym (count_rest u us user (λ same. other (sym same ∙ equal u uid is)))
    go false is rest = count_cons u (others uid us) user ∙ ap (λ n. cond (u == user) (suc n) n) rest ∙ sym (count_cons u us user)

-- ---- why a user may hold one more

data Why (shares : Shares) (uid all own of_root : ℕ) : Type 0 where
  open_to_all : all < shares.open_to_all → Why shares uid all own of_root
  for_root : uid ≡ 0 → of_root < shares.of_root → Why shares uid all own of_root
  for_first : 0 < uid → own ≡ 0 → all < shares.open_to_all + shares.firsts + root_part shares of_root → Why shares uid all own of_root

both_left : (a b : Bool) → (a && b) ≡ true → a ≡ true
both_left true b is = refl
both_left false b is = is

both_right : (a b : Bool) → (a && b) ≡ true → b ≡ true
both_right true b is = is
both_right false b is = absurd (let no : false ≡ true = is in cc)

less : (a b : ℕ) → nat_lt a b ≡ true → a < b
less a b is = grind (arith, nat_tests)

why : (shares : Shares) (uid all own of_root : ℕ) → allows shares uid all own of_root ≡ true → Why shares uid all own of_root
why shares uid all own of_root may = choose (is_open_to shares uid all own) refl may
  where
    kept : (b : Bool) → (uid == 0) ≡ b
        → (if b then nat_lt of_root shares.of_root else own == 0 && nat_lt all (shares.open_to_all + shares.firsts + root_part shares of_root)) ≡ true
        → Why shares uid all own of_root
    kept true root is = for_root (equal uid 0 root) (less of_root shares.of_root is)
    kept false other is =
        let not_root : uid ≢ 0 = apart uid 0 other in
        for_first (omega (arith, not_root)) (equal own 0 (both_left _ _ is)) (less all _ (both_right (own == 0) _ is))

    choose : (b : Bool) → is_open_to shares uid all own ≡ b → (b || is_kept_for shares uid all own of_root) ≡ true → Why shares uid all own of_root
    choose true few is = open_to_all (less all shares.open_to_all (both_left _ _ few))
    choose false few is = kept (uid == 0) refl is

-- ---- who holds some

pub none_keep : (shares : Shares) → KeepsShares shares []
none_keep shares = record { all = omega arith; of_users = λ users each. omega arith }

module _ (shares : Shares) (uid : ℕ) (fewer more : List ℕ) (one : OneMore uid fewer more) where
  of_same : (user : ℕ) → uid ≡ user → count_of more user ≡ suc (count_of fewer user)
  of_same user same = one.each user ∙ ap (λ b. cond b (suc (count_of fewer user)) (count_of fewer user)) (are_equal uid user same)

  of_other : (user : ℕ) → uid ≢ user → count_of more user ≡ count_of fewer user
  of_other user other = one.each user ∙ ap (λ b. cond b (suc (count_of fewer user)) (count_of fewer user)) (are_apart uid user other)

  not_fewer : (user : ℕ) → count_of fewer user ≤ count_of more user
  not_fewer user = choose (uid == user) refl
    where
      choose : (b : Bool) → (uid == user) ≡ b → count_of fewer user ≤ count_of more user
      choose true is = omega (arith, of_same user (equal uid user is))
      choose false is = omega (arith, of_other user (apart uid user is))

  -- who hold fewer are among those who hold more
  each_fewer : (users : List ℕ) → HasEach users more → HasEach users fewer
  each_fewer users each user positive holds = each user positive (omega (arith, holds, not_fewer user))

  -- without a user who held none
  each_other : (users : List ℕ) → count_of fewer uid ≡ 0 → HasEach users more → HasEach (others uid users) fewer
  each_other users none each user positive holds =
      let other : user ≢ uid = λ same. let none_there : count_of fewer user ≡ 0 = ap (count_of fewer) same ∙ none in omega (arith, holds, none_there) in
      let there : 0 < count_of users user = each_fewer users each user positive holds in
      omega (arith, there, others_stay uid user other users)

  pub more_keep : KeepsShares shares fewer → may_hold shares fewer uid ≡ true → KeepsShares shares more
  more_keep keeps may = go (why shares uid (length fewer) (count_of fewer uid) (count_of fewer 0) may)
    where
      go : Why shares uid (length fewer) (count_of fewer uid) (count_of fewer 0) → KeepsShares shares more
      go (open_to_all lt) = record { all = omega (arith, one.all, lt); of_users = λ users each. omega (arith, one.all, lt) }
      go (for_root is lt) =
          let roots : count_of more 0 ≡ suc (count_of fewer 0) = of_same 0 is in
          record {
            all = omega (arith, one.all, lt, roots, keeps.all);
            of_users = λ users each. omega (arith, one.all, lt, roots, keeps.of_users users (each_fewer users each));
          }
      go (for_first positive none lt) =
          let roots : count_of more 0 ≡ count_of fewer 0 = of_other 0 (λ same. omega (arith, positive, same)) in
          record {
            all = omega (arith, one.all, lt, roots);
            of_users = λ users each.
                let there : 0 < count_of users uid = each uid positive (omega (arith, of_same uid refl)) in
                omega (arith, one.all, roots, there, others_fewer uid users, keeps.of_users (others uid users) (each_other users none each));
          }

  pub fewer_keep : KeepsShares shares more → KeepsShares shares fewer
  fewer_keep keeps = choose (uid == 0) refl
    where
      choose : (b : Bool) → (uid == 0) ≡ b → KeepsShares shares fewer
      choose true is =
          let roots : count_of more 0 ≡ suc (count_of fewer 0) = of_same 0 (equal uid 0 is) in
          record {
            all = omega (arith, one.all, roots, keeps.all);
            of_users = λ users each.
                omega (
                  arith,
                  one.all,
                  roots,
                  keeps.of_users users (λ user positive holds.
                      let other : uid ≢ user = λ same. omega (arith, positive, same, equal uid 0 is) in
                      each user positive (omega (arith, holds, of_other user other))),
                );
          }
      choose false is =
          let roots : count_of more 0 ≡ count_of fewer 0 = of_other 0 (apart uid 0 is) in
          record {
            all = omega (arith, one.all, roots, keeps.all);
            of_users = λ users each. omega (arith, one.all, roots, keeps.of_users (uid ∷ users) (with_user users each));
          }
        where
          with_user : (users : List ℕ) → HasEach users fewer → HasEach (uid ∷ users) more
          with_user users each user positive holds = decide (uid == user) refl
            where
              decide : (b : Bool) → (uid == user) ≡ b → 0 < count_of (uid ∷ users) user
              decide true same = omega (arith, count_first uid users user (equal uid user same))
              decide false other =
                  let differs : uid ≢ user = apart uid user other in
                  let there : 0 < count_of users user = each user positive (omega (arith, holds, of_other user differs)) in
                  omega (arith, there, count_rest uid users user differs)

-- ---- who may hold one

or_kept : (a b : Bool) → b ≡ true → (a || b) ≡ true
or_kept true b is = refl
or_kept false b is = is

pub further_may : (shares : Shares) (holders : List ℕ) (uid : ℕ) → KeepsShares shares holders → 0 < uid → count_of holders uid ≡ 0 → (users : List ℕ)
    → HasEach users holders → length users < shares.firsts → may_hold shares holders uid ≡ true
further_may shares holders uid keeps positive none users each few =
    or_kept (is_open_to shares uid (length holders) (count_of holders uid)) _
    (kept (uid == 0) (are_apart uid 0 (λ same. omega (arith, positive, same))) (count_of holders uid == 0) (are_equal _ 0 none) _
    (lower (length holders) _ (omega (arith, few, keeps.of_users users each))))
  where
    lower : (a b : ℕ) → a < b → nat_lt a b ≡ true
    lower a b lt = grind (arith, nat_tests)

    kept : (b : Bool) → b ≡ false → (c : Bool) → c ≡ true → (d : Bool) → d ≡ true
        → (if b then nat_lt (count_of holders 0) shares.of_root else c && d) ≡ true
    kept true is c first d less_than = absurd (let no : true ≡ false = is in cc)
    kept false is true first d less_than = less_than
    kept false is false first d less_than = absurd (let no : false ≡ true = first in cc)

pub root_may : (shares : Shares) (holders : List ℕ) → count_of holders 0 < shares.of_root → may_hold shares holders 0 ≡ true
root_may shares holders lt = or_kept (is_open_to shares 0 (length holders) (count_of holders 0)) _ (grind (arith, nat_tests))
