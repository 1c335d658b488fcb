-- Who holds open directories, as a server goes on.
--     same_within        only directories and their listings count
--     new_within        a server that begins
--     opened_within, released_within, listed_within        directories are opened, closed and listed
use Rattle.std.specs.Prelude.{◌≡◌, ◌≢◌, ℕ, ◌<◌, ◌≤◌, ◌==◌, suc, Bool, true, false, not, cond, List, [], ◌∷◌, map, Option, None, Some, unwrap_or, refl}
use Rattle.std.proofs.Common.{sym, ap, subst, ◌∙◌, arith}
use Rattle.std.specs.FinMap.Entries.{by_order}
use Rattle.std.proofs.lemmas.Cmp.{nat_cmp_total}
use Rattle.std.specs.Ordering.{nat_cmp, is_eq}
use Rattle.std.specs.declared.cmp.Ordering.{Ordering}
use Rattle.std.specs.declared.cmp.Ordering.TheVariants.{Less, Equal, Greater}
use Rattle.std.proofs.lemmas.Bool.{or_from, or_parts}
use Rattle.std.proofs.lemmas.Bool.Decides.{nat_tests}
use Rattle.fs_layout.specs.Maps.{get, with_entry, without, IsMap}
use Rattle.fs_layout.proofs.FirstEntries.{above, apart, left, right, tied}
use Rattle.fs_layout.proofs.MapLaws.{get-with_entry, with_entry-IsMap}
use Rattle.fuse_state.specs.Shares.{count_of, directory_shares, KeepsShares, OneMore}
use Rattle.fuse_state.specs.Servers.{Server, directory_of, directory_holders, may_open_directory, is_directory_open, with_opened, with_listing, listings_with, listings_left, without_directory, new_server, WithinShares}
use Rattle.fuse_state.specs.declared.directory.OpenDirectory.{OpenDirectory}
use Rattle.fuse_state.specs.declared.settings.Settings.{Settings}
use Rattle.fuse_state.proofs.Edited.{without-IsMap}
use Rattle.fuse_state.proofs.KeptShares.{count_cons, none_keep, more_keep, fewer_keep}

-- ---- one more

one_first : (user : ℕ) (fewer : List ℕ) → OneMore user fewer (user ∷ fewer)
one_first user fewer = record { all = refl; each = count_cons user fewer }

swapped : (a b : Bool) (c d : ℕ) → d ≡ cond b (suc c) c → cond a (suc d) d ≡ cond b (suc (cond a (suc c) c)) (cond a (suc c) c)
swapped true true c d is = ap suc is
swapped true false c d is = ap suc is
swapped false true c d is = is
swapped false false c d is = is

one_later : (user other : ℕ) (fewer more : List ℕ) → OneMore user fewer more → OneMore user (other ∷ fewer) (other ∷ more)
one_later user other fewer more one = record {
  all = ap suc one.all;
  each = λ u.
      count_cons other more u
      ∙ swapped (other == u) (user == u) (count_of fewer u) (count_of more u) (one.each u)
      ∙ ap (λ n. cond (user == u) (suc n) n) (sym (count_cons other fewer u));
}

-- ---- entries of maps

module _ {X : Type 0} where
  -- of an entry that isn't the first
  rest_of : (e : ℕ × X) (m : List (ℕ × X)) (k : ℕ) (o : Option X) → get nat_cmp (e ∷ m) k ≡ o → is_eq (nat_cmp k e.0) ≡ false → get nat_cmp m k ≡ o
  rest_of e m k o there other = sym (ap (λ b. cond b (Some e.1) (get nat_cmp m k)) other) ∙ there

  -- of the first
  first_of_key : (e : ℕ × X) (m : List (ℕ × X)) (k : ℕ) (o : Option X) → get nat_cmp (e ∷ m) k ≡ o → is_eq (nat_cmp k e.0) ≡ true → Some e.1 ≡ o
  first_of_key e m k o there same = sym (ap (λ b. cond b (Some e.1) (get nat_cmp m k)) same) ∙ there

  -- a key stands once
  lacks_rest : (e : ℕ × X) (m : List (ℕ × X)) (k : ℕ) → IsMap nat_cmp (e ∷ m) → k ≡ e.0 → get nat_cmp m k ≡ None
  lacks_rest e m k rising same = go (get nat_cmp m k) refl
    where
      go : (o : Option X) → get nat_cmp m k ≡ o → o ≡ None
      go None is = refl
      go (Some v) is = absurd (let low : e.0 < k = above e.0 m (left _ _ rising) k v is in omega (arith, low, same))

  without_none : (m : List (ℕ × X)) (k : ℕ) → get nat_cmp m k ≡ None → without nat_cmp m k ≡ m
  without_none [] k none = refl
  without_none (e ∷ m) k none = go (is_eq (nat_cmp k e.0)) refl (without_none m k)
    where
      go : (b : Bool) → is_eq (nat_cmp k e.0) ≡ b → (get nat_cmp m k ≡ None → without nat_cmp m k ≡ m) → cond (not b) (e ∷ without nat_cmp m k) (without nat_cmp m k) ≡ e ∷ m
      go true is later = absurd (let no : Some e.1 ≡ None = first_of_key e m k None none is in cc)
      go false is later = ap (λ rest. e ∷ rest) (later (rest_of e m k None none is))

  still_none : (m : List (ℕ × X)) (k q : ℕ) → get nat_cmp m q ≡ None → get nat_cmp (without nat_cmp m k) q ≡ None
  still_none [] k q none = refl
  still_none (e ∷ m) k q none = go (is_eq (nat_cmp k e.0)) (is_eq (nat_cmp q e.0)) refl (still_none m k q)
    where
      go : (b c : Bool) → is_eq (nat_cmp q e.0) ≡ c → (get nat_cmp m q ≡ None → get nat_cmp (without nat_cmp m k) q ≡ None)
          → get nat_cmp (cond (not b) (e ∷ without nat_cmp m k) (without nat_cmp m k)) q ≡ None
      go b true is later = absurd (let no : Some e.1 ≡ None = first_of_key e m q None none is in cc)
      go true false is later = later (rest_of e m q None none is)
      go false false is later = ap (λ b. cond b (Some e.1) (get nat_cmp (without nat_cmp m k) q)) is ∙ later (rest_of e m q None none is)

  gone : (m : List (ℕ × X)) (k : ℕ) → get nat_cmp (without nat_cmp m k) k ≡ None
  gone [] k = refl
  gone (e ∷ m) k = go (is_eq (nat_cmp k e.0)) refl (gone m k)
    where
      go : (b : Bool) → is_eq (nat_cmp k e.0) ≡ b → get nat_cmp (without nat_cmp m k) k ≡ None
          → get nat_cmp (cond (not b) (e ∷ without nat_cmp m k) (without nat_cmp m k)) k ≡ None
      go true is later = later
      go false is later = ap (λ b. cond b (Some e.1) (get nat_cmp (without nat_cmp m k) k)) is ∙ later

  module _ (user : X → ℕ) where
    abbrev users : List (ℕ × X) → List ℕ
    users m = map (λ e. user e.1) m

    one_put : (k : ℕ) (x : X) (m : List (ℕ × X)) → get nat_cmp m k ≡ None → OneMore (user x) (users m) (users (with_entry nat_cmp m k x))
    one_put k x [] none = one_first (user x) []
    one_put k x (e ∷ m) none = go (nat_cmp k e.0) refl (one_put k x m)
      where
        go : (o : Ordering) → nat_cmp k e.0 ≡ o → (get nat_cmp m k ≡ None → OneMore (user x) (users m) (users (with_entry nat_cmp m k x)))
            → OneMore (user x) (users (e ∷ m)) (users (by_order o ((k, x) ∷ e ∷ m) ((e.0, x) ∷ m) (e ∷ with_entry nat_cmp m k x)))
        go Less is later = one_first (user x) (users (e ∷ m))
        go Equal is later = absurd (let no : Some e.1 ≡ None = first_of_key e m k None none (ap is_eq is) in cc)
        go Greater is later = one_later (user x) (user e.1) _ _ (later (rest_of e m k None none (ap is_eq is)))

    one_taken : (k : ℕ) (x : X) (m : List (ℕ × X)) → IsMap nat_cmp m → get nat_cmp m k ≡ Some x → OneMore (user x) (users (without nat_cmp m k)) (users m)
    one_taken k x [] rising there = absurd (let no : None ≡ Some x = there in cc)
    one_taken k x (e ∷ m) rising there = go (is_eq (nat_cmp k e.0)) refl (one_taken k x m (right _ _ rising))
      where
        go : (b : Bool) → is_eq (nat_cmp k e.0) ≡ b → (get nat_cmp m k ≡ Some x → OneMore (user x) (users (without nat_cmp m k)) (users m))
            → OneMore (user x) (users (cond (not b) (e ∷ without nat_cmp m k) (without nat_cmp m k))) (users (e ∷ m))
        go true is later =
            let first : Some e.1 ≡ Some x = first_of_key e m k (Some x) there is in
            let value : e.1 ≡ x = cc in
            subst (λ l. OneMore (user x) (users l) (users (e ∷ m))) (sym (without_none m k (lacks_rest e m k rising (tied k e.0 is))))
            (subst (λ v. OneMore (user v) (users m) (users (e ∷ m))) value (one_first (user e.1) (users m)))
        go false is later = one_later (user x) (user e.1) _ _ (later (rest_of e m k (Some x) there is))

-- ---- numbers

number_apart : (a b : ℕ) → a ≢ b → (a == b) ≡ false
number_apart a b other = grind (arith, nat_tests)

number_same : (a b : ℕ) → a ≡ b → (a == b) ≡ true
number_same a b same = grind (arith, nat_tests)

same_or_other : (a b : ℕ) {P : Type 0} → (a ≡ b → P) → (a ≢ b → P) → P
same_or_other a b {P} same other = go (a == b) refl
  where
    go : (c : Bool) → (a == b) ≡ c → P
    go true is = same (grind (arith, nat_tests))
    go false is = other (grind (arith, nat_tests))

-- ---- servers

pub new_within : (settings : Settings) → WithinShares (new_server settings)
new_within settings = record { rising = refl; behind = λ handle le. refl; keeps = none_keep directory_shares; listings = λ node closed. refl }

-- all that counts
abbrev pub Holding : Type 0
Holding = List (ℕ × OpenDirectory) × ℕ × List (ℕ × List (List ℕ × ℕ))

abbrev pub holding_of : Server → Holding
holding_of s = (s.directories, s.next_directory, s.listings)

pub same_within : (s t : Server) → holding_of t ≡ holding_of s → WithinShares s → WithinShares t
same_within s t same w = record {
  rising = subst (λ m. IsMap nat_cmp m) (sym (ap (λ k. k.0) same)) w.rising;
  behind = λ handle le. ap (λ k. get nat_cmp k.0 handle) same ∙ w.behind handle (subst (λ n. n ≤ handle) (ap (λ k. k.1) same) le);
  keeps = subst (KeepsShares directory_shares) (sym (ap (λ k. map (λ e. e.1.owner) k.0) same)) w.keeps;
  listings = λ node closed. ap (λ k. get nat_cmp k.2 node) same ∙ w.listings node (sym (ap (λ k. is_directory_open k.0 node) same) ∙ closed);
}

-- ---- directories

-- where one more is opened, each directory that isn't open then wasn't before
not_open_before : (m : List (ℕ × OpenDirectory)) (handle : ℕ) (d : OpenDirectory) (node : ℕ) → get nat_cmp m handle ≡ None
    → is_directory_open (with_entry nat_cmp m handle d) node ≡ false → is_directory_open m node ≡ false
not_open_before [] handle d node new closed = refl
not_open_before (e ∷ m) handle d node new closed = go (nat_cmp handle e.0) refl closed (not_open_before m handle d node)
  where
    go : (o : Ordering) → nat_cmp handle e.0 ≡ o → is_directory_open (by_order o ((handle, d) ∷ e ∷ m) ((e.0, d) ∷ m) (e ∷ with_entry nat_cmp m handle d)) node ≡ false
        → (get nat_cmp m handle ≡ None → is_directory_open (with_entry nat_cmp m handle d) node ≡ false → is_directory_open m node ≡ false) → is_directory_open (e ∷ m) node ≡ false
    go Less is none later = (or_parts (d.node == node) (is_directory_open (e ∷ m) node) none).1
    go Equal is none later = absurd (let no : Some e.1 ≡ None = first_of_key e m handle None new (ap is_eq is) in cc)
    go Greater is none later =
        let parts = or_parts (e.1.node == node) (is_directory_open (with_entry nat_cmp m handle d) node) none in
        or_from (e.1.node == node) (is_directory_open m node) parts.0 (later (rest_of e m handle None new (ap is_eq is)) parts.1)

-- a user opens one
pub opened_within : (s : Server) (uid node : ℕ) → may_open_directory s uid ≡ true → WithinShares s → WithinShares (with_opened uid node s)
opened_within s uid node may w = record {
  rising = with_entry-IsMap s.directories s.next_directory new w.rising;
  behind = λ handle le.
      get-with_entry s.directories s.next_directory new handle
      ∙ ap (λ b. cond b (Some new) (get nat_cmp s.directories handle)) (apart handle s.next_directory (λ same. omega (arith, le, same)))
      ∙ w.behind handle (omega (arith, le));
  keeps =
      more_keep directory_shares uid (directory_holders s) (directory_holders (with_opened uid node s))
      (one_put (λ d. d.owner) s.next_directory new s.directories (w.behind s.next_directory (omega arith)))
      w.keeps may;
  listings = λ other closed. w.listings other (not_open_before s.directories s.next_directory new other (w.behind s.next_directory (omega arith)) closed);
}
  where
    new : OpenDirectory
    new = record { node = node; owner = uid }

-- where one is closed, no other one is
still_open : (m : List (ℕ × OpenDirectory)) (handle : ℕ) (d : OpenDirectory) (node : ℕ) → IsMap nat_cmp m → get nat_cmp m handle ≡ Some d → node ≢ d.node
    → is_directory_open (without nat_cmp m handle) node ≡ false → is_directory_open m node ≡ false
still_open [] handle d node rising there other closed = refl
still_open (e ∷ m) handle d node rising there other closed = go (is_eq (nat_cmp handle e.0)) refl closed (still_open m handle d node)
  where
    go : (b : Bool) → is_eq (nat_cmp handle e.0) ≡ b → is_directory_open (cond (not b) (e ∷ without nat_cmp m handle) (without nat_cmp m handle)) node ≡ false
        → (IsMap nat_cmp m → get nat_cmp m handle ≡ Some d → node ≢ d.node → is_directory_open (without nat_cmp m handle) node ≡ false → is_directory_open m node ≡ false)
        → is_directory_open (e ∷ m) node ≡ false
    go true is none later =
        let same : e.1 ≡ d = ap (λ o. unwrap_or o d) (first_of_key e m handle (Some d) there is) in
        let all : without nat_cmp m handle ≡ m = without_none m handle (lacks_rest e m handle rising (tied handle e.0 is)) in
        or_from (e.1.node == node) (is_directory_open m node) (number_apart e.1.node node (λ is_same. other (sym is_same ∙ ap (λ (o : OpenDirectory). o.node) same)))
        (sym (ap (λ l. is_directory_open l node) all) ∙ none)
    go false is none later =
        let parts = or_parts (e.1.node == node) (is_directory_open (without nat_cmp m handle) node) none in
        or_from (e.1.node == node) (is_directory_open m node) parts.0 (later (right _ _ rising) (rest_of e m handle (Some d) there is) other parts.1)

open_there : (m : List (ℕ × OpenDirectory)) (handle : ℕ) (d : OpenDirectory) → get nat_cmp m handle ≡ Some d → is_directory_open m d.node ≡ false → ⊥
open_there [] handle d there closed = let no : None ≡ Some d = there in cc
open_there (e ∷ m) handle d there closed = go (is_eq (nat_cmp handle e.0)) refl (open_there m handle d)
  where
    parts : ((e.1.node == d.node) ≡ false) × (is_directory_open m d.node ≡ false)
    parts = or_parts (e.1.node == d.node) (is_directory_open m d.node) closed

    go : (b : Bool) → is_eq (nat_cmp handle e.0) ≡ b → (get nat_cmp m handle ≡ Some d → is_directory_open m d.node ≡ false → ⊥) → ⊥
    go true is later =
        let same : e.1 ≡ d = ap (λ o. unwrap_or o d) (first_of_key e m handle (Some d) there is) in
        let no : true ≡ false = sym (number_same d.node d.node refl) ∙ ap (λ (o : OpenDirectory). o.node == d.node) (sym same) ∙ parts.0 in cc
    go false is later = later (rest_of e m handle (Some d) there is) parts.1

pub released_within : (s : Server) (handle : ℕ) → WithinShares s → WithinShares (without_directory handle s)
released_within s handle w = record {
  rising = without-IsMap nat_cmp_total s.directories handle w.rising;
  behind = λ h le. still_none s.directories handle h (w.behind h le);
  keeps = choose (get nat_cmp s.directories handle) refl;
  listings = λ node closed. unlisted node closed (get nat_cmp s.directories handle) refl;
}
  where
    left_open : List (ℕ × OpenDirectory)
    left_open = without nat_cmp s.directories handle

    choose : (o : Option OpenDirectory) → get nat_cmp s.directories handle ≡ o → KeepsShares directory_shares (directory_holders (without_directory handle s))
    choose None none = subst (λ m. KeepsShares directory_shares (map (λ e. e.1.owner) m)) (sym (without_none s.directories handle none)) w.keeps
    choose (Some d) there =
        fewer_keep directory_shares d.owner (directory_holders (without_directory handle s)) (directory_holders s)
        (one_taken (λ o. o.owner) handle d s.directories w.rising there) w.keeps

    of_one : (node : ℕ) → is_directory_open left_open node ≡ false → (d : OpenDirectory) → get nat_cmp s.directories handle ≡ Some d
        → (b : Bool) → is_directory_open left_open d.node ≡ b → get nat_cmp (cond b s.listings (without nat_cmp s.listings d.node)) node ≡ None
    of_one node closed d there true still =
        w.listings node (still_open s.directories handle d node w.rising there
        (λ same. let no : true ≡ false = sym still ∙ ap (is_directory_open left_open) (sym same) ∙ closed in cc) closed)
    of_one node closed d there false none =
        same_or_other node d.node
        (λ same. ap (get nat_cmp (without nat_cmp s.listings d.node)) same ∙ gone s.listings d.node)
        (λ other. still_none s.listings d.node node (w.listings node (still_open s.directories handle d node w.rising there other closed)))

    unlisted : (node : ℕ) → is_directory_open left_open node ≡ false → (o : Option OpenDirectory) → get nat_cmp s.directories handle ≡ o
        → get nat_cmp (listings_left left_open s.listings o) node ≡ None
    unlisted node closed None none = w.listings node (sym (ap (λ m. is_directory_open m node) (without_none s.directories handle none)) ∙ closed)
    unlisted node closed (Some d) there = of_one node closed d there (is_directory_open left_open d.node) refl

pub listed_within : (s : Server) (handle : ℕ) (names : List (List ℕ × ℕ)) → WithinShares s → WithinShares (with_listing handle names s)
listed_within s handle names w = record {
  rising = w.rising;
  behind = w.behind;
  keeps = w.keeps;
  listings = λ node closed. choose node closed (directory_of s handle) refl;
}
  where
    choose : (node : ℕ) → is_directory_open s.directories node ≡ false → (o : Option OpenDirectory) → directory_of s handle ≡ o
        → get nat_cmp (listings_with s.listings o names) node ≡ None
    choose node closed None none = w.listings node closed
    choose node closed (Some d) there =
        get-with_entry s.listings d.node names node
        ∙ ap (λ b. cond b (Some names) (get nat_cmp s.listings node))
        (apart node d.node (λ same. open_there s.directories handle d there (sym (ap (is_directory_open s.directories) same) ∙ closed)))
        ∙ w.listings node closed
