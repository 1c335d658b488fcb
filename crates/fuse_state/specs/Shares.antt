-- How things of which there are few are shared among users.
--     directory_shares        the shares of open directories
--     count_of        how many a user holds
--     allows, may_hold        whether a user may hold one more
--     HasEach, KeepsShares        what is so of those who hold some, as long as none takes more than it may
--     OneMore        a user holds one more
use Rattle.std.specs.Prelude.{◌≡◌, ℕ, ◌+◌, ◌<◌, ◌≤◌, ◌==◌, nat_lt, min, suc, Bool, ◌&&◌, ◌||◌, cond, if◌then◌else◌, List, length}
use Rattle.std.specs.List.{filter}
use Rattle.fuse_state.specs.declared.shares.Shares.{Shares}

-- of open directories
abbrev pub directory_shares : Shares
directory_shares = record { open_to_all = 200; of_one = 128; firsts = 40; of_root = 16 }

-- Who holds things is a list of users, with one entry for each thing.
abbrev pub count_of : List ℕ → ℕ → ℕ
count_of holders uid = length (filter (λ holder. holder == uid) holders)

-- The things of user 0 that take a part which is kept for it.
abbrev pub root_part : Shares → ℕ → ℕ
root_part shares of_root = min of_root shares.of_root

-- as long as few are held
abbrev pub is_open_to : Shares → ℕ → ℕ → ℕ → Bool
is_open_to shares uid all own = nat_lt all shares.open_to_all && (uid == 0 || nat_lt own shares.of_one)

-- one of those that are kept: for user 0, or for the first of another user
abbrev pub is_kept_for : Shares → ℕ → ℕ → ℕ → ℕ → Bool
is_kept_for shares uid all own of_root =
    if uid == 0 then nat_lt of_root shares.of_root else own == 0 && nat_lt all (shares.open_to_all + shares.firsts + root_part shares of_root)

-- Of all that are held the user holds so many, and user 0 so many.
abbrev pub allows : Shares → ℕ → ℕ → ℕ → ℕ → Bool
allows shares uid all own of_root = is_open_to shares uid all own || is_kept_for shares uid all own of_root

abbrev pub may_hold : Shares → List ℕ → ℕ → Bool
may_hold shares holders uid = allows shares uid (length holders) (count_of holders uid) (count_of holders 0)

-- the list has all users who hold some, beside user 0
abbrev pub HasEach : List ℕ → List ℕ → Type 0
HasEach users holders = (uid : ℕ) → 0 < uid → 0 < count_of holders uid → 0 < count_of users uid

-- However many users hold some, there is one for the first of each further user, until so many users hold some.
pub record KeepsShares (shares : Shares) (holders : List ℕ) : Type 0 where
  pub all : length holders ≤ shares.open_to_all + shares.firsts + root_part shares (count_of holders 0)
  pub of_users : (users : List ℕ) → HasEach users holders → length holders ≤ shares.open_to_all + length users + root_part shares (count_of holders 0)

-- one more thing is held, by this user
pub record OneMore (uid : ℕ) (fewer more : List ℕ) : Type 0 where
  pub all : length more ≡ suc (length fewer)
  pub each : (user : ℕ) → count_of more user ≡ cond (uid == user) (suc (count_of fewer user)) (count_of fewer user)
