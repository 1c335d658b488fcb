-- How many sectors numbers lack.
use Rattle.std.proofs.Common.{◌≡◌, ℕ, zero, suc, ◌+◌, ◌-◌, ◌*◌, ◌/◌, ◌<◌, ◌≤◌, Bool, true, false, cond, refl, ap, ◌∙◌, arith}
use Rattle.std.specs.Prelude.{nat_eq, nat_lt, count_by}
use Rattle.std.specs.List.{range_with_len}
use Rattle.std.proofs.lemmas.Bool.{lt-ltb, le-ltb}
use Rattle.fs_layout.specs.declared.inode.Inode.{Inode}
use Rattle.fs_layout.specs.Bytes.{SectorMap}
use Rattle.fs_layout.specs.declared.inode.TheConstants.{DIRECT_BLOCKS, DOUBLE_INDIRECT_END, MAX_BLOCKS, POINTER_LEVELS}
use Rattle.fs_layout.specs.Images.{own_count, holder, level_end, number_on}
use Rattle.fs_layout.specs.Lacking.{lacks_from}
use Rattle.fs_layout.proofs.Counting.{one_if, count_cons, count_split, count_at_most}
use Rattle.block_map.specs.Steps.{lack, lacks_on, holes, lacks_pointers, most_from, most_for, pointer_sectors, blocks_to, taken_by}

-- one number more
pub lacks_more : (image : SectorMap) (v : Inode) (level first n : ℕ) → lacks_on image v level first (n + 1) ≡ lacks_on image v level first n + lack image v level (first + n)
unfolding one_if
lacks_more image v level first n =
    let f : ℕ → Bool = λ k. nat_eq (number_on image v level k) 0 in
    let one : count_by f (range_with_len (first + n) 1) ≡ lack image v level (first + n) + 0 = count_cons f (first + n) 0 in
    omega (arith, count_split f first n 1, one)

-- and the more numbers, the more
pub lacks_further : (image : SectorMap) (v : Inode) (level first n m : ℕ) → n ≤ m → lacks_on image v level first n ≤ lacks_on image v level first m
lacks_further image v level first n m le =
    let on = count_split (λ k. nat_eq (number_on image v level k) 0) first n (m - n) in
    let all : n + (m - n) ≡ m = omega (arith, le) in
    let e : lacks_on image v level first (n + (m - n)) ≡ lacks_on image v level first m = ap (λ (k : ℕ). lacks_on image v level first k) all in
    omega (arith, on, e)

-- no more than there are numbers
pub lacks_few : (image : SectorMap) (v : Inode) (level first n : ℕ) → lacks_on image v level first n ≤ n
lacks_few image v level first n = count_at_most (λ k. nat_eq (number_on image v level k) 0) first n

-- and as many where each number is the same
pub lacks_same : (old new : SectorMap) (v w : Inode) (level : ℕ) → ((i : ℕ) → number_on new w level i ≡ number_on old v level i) → (first n : ℕ)
    → lacks_on new w level first n ≡ lacks_on old v level first n
lacks_same old new v w level same first n = ap (λ (f : ℕ → ℕ). count_by (λ k. nat_eq (f k) 0) (range_with_len first n)) (λ i k. same k i)

-- one number
pub lacks_one : (image : SectorMap) (v : Inode) (level first count : ℕ) → count ≡ 1 → lacks_on image v level first count ≡ lack image v level first
lacks_one image v level first count one =
    let next : count ≡ 0 + 1 = omega (arith, one) in
    let zero : first + 0 ≡ first = omega arith in
    let here : lack image v level (first + 0) ≡ lack image v level first = ap (lack image v level) zero in
    let more : lacks_on image v level first (0 + 1) ≡ 0 + lack image v level (first + 0) = lacks_more image v level first 0 in
    ap (lacks_on image v level first) next ∙ omega (arith, more, here)

pub lack_few : (image : SectorMap) (v : Inode) (level i : ℕ) → lack image v level i ≤ 1
lack_few image v level i = at_most (nat_eq (number_on image v level i) 0)
  where
    at_most : (b : Bool) → cond b 1 0 ≤ 1
    at_most true = omega arith
    at_most false = omega arith

-- ---- the sectors of pointers
chosen : (b : Bool) (k x : ℕ) → b ≡ true → k + cond b x 0 ≡ k + x
chosen b k x e = ap (λ (c : Bool). k + cond c x 0) e

left_out : (b : Bool) (k x : ℕ) → b ≡ false → k + cond b x 0 ≡ k
left_out b k x e = let z = ap (λ (c : Bool). k + cond c x 0) e in omega (arith, z)

if_few : (b : Bool) (x k : ℕ) → x ≤ k → cond b x 0 ≤ k
if_few true x k le = le
if_few false x k le = omega arith

if_fewer : (b : Bool) (x y : ℕ) → x ≤ y → cond b x 0 ≤ cond b y 0
if_fewer true x y le = le
if_fewer false x y le = omega arith

-- numbers of a level lack what they lack on it, and what those above lack
pub lacks_beyond : (image : SectorMap) (v : Inode) (level first end : ℕ) → 1 ≤ level → level < POINTER_LEVELS → 1 < end
    → lacks_from image v (POINTER_LEVELS + 1 - level) level first end
    ≡ lacks_on image v level first (end - first) + lacks_from image v (POINTER_LEVELS + 1 - (level + 1)) (level + 1) (holder 1 first) (holder 1 (end - 1) + 1)
lacks_beyond image v zero first end from to far = absurd (omega (arith, from))
lacks_beyond image v (suc zero) first end from to far =
    chosen (nat_lt 1 end) (lacks_on image v 1 first (end - first)) (lacks_from image v 2 2 (holder 1 first) (holder 1 (end - 1) + 1)) (lt-ltb 1 end far)
lacks_beyond image v (suc (suc zero)) first end from to far =
    chosen (nat_lt 1 end) (lacks_on image v 2 first (end - first)) (lacks_from image v 1 3 (holder 1 first) (holder 1 (end - 1) + 1)) (lt-ltb 1 end far)
lacks_beyond image v (suc (suc (suc level))) first end from to far = absurd (omega (arith, to))

-- and the first alone, which stands in the inode, none above
pub lacks_near : (image : SectorMap) (v : Inode) (more level first end : ℕ) → end ≤ own_count level
    → lacks_from image v (suc more) level first end ≡ lacks_on image v level first (end - first)
lacks_near image v more level first end near =
    left_out (nat_lt (own_count level) end) (lacks_on image v level first (end - first))
    (lacks_from image v more (suc level) (holder (own_count level) first) (holder (own_count level) (end - 1) + 1)) (le-ltb (own_count level) end near)

pub lacks_named : (image : SectorMap) (v : Inode) (level first end : ℕ) → 1 ≤ level → level ≤ POINTER_LEVELS → end ≤ 1
    → lacks_from image v (POINTER_LEVELS + 1 - level) level first end ≡ lacks_on image v level first (end - first)
lacks_named image v zero first end from to near = absurd (omega (arith, from))
lacks_named image v (suc zero) first end from to near = lacks_near image v 2 1 first end near
lacks_named image v (suc (suc zero)) first end from to near = lacks_near image v 1 2 first end near
lacks_named image v (suc (suc (suc zero))) first end from to near = lacks_near image v 0 3 first end near
lacks_named image v (suc (suc (suc (suc level)))) first end from to near = absurd (omega (arith, to))

-- one number, and those by which it is found
pub lacks_of_one : (image : SectorMap) (v : Inode) (more level i : ℕ) → own_count level ≤ i
    → lacks_from image v (suc more) level i (i + 1) ≡ lack image v level i + lacks_from image v more (suc level) (holder (own_count level) i) (holder (own_count level) i + 1)
lacks_of_one image v more level i from =
    let last : i + 1 - 1 ≡ i = omega arith in
    let count = lacks_one image v level i (i + 1 - i) (omega arith) in
    let above = ap (λ (j : ℕ). lacks_from image v more (suc level) (holder (own_count level) i) (holder (own_count level) j + 1)) last in
    let all = chosen (nat_lt (own_count level) (i + 1)) (lacks_on image v level i (i + 1 - i))
    (lacks_from image v more (suc level) (holder (own_count level) i) (holder (own_count level) (i + 1 - 1) + 1)) (lt-ltb (own_count level) (i + 1) (omega (arith, from))) in
    omega (arith, all, count, above)

pub lacks_far : (image : SectorMap) (v : Inode) (first end : ℕ) → DIRECT_BLOCKS < end
    → lacks_pointers image v first end ≡ lacks_from image v POINTER_LEVELS 1 (holder DIRECT_BLOCKS first) (holder DIRECT_BLOCKS (end - 1) + 1)
lacks_far image v first end far =
    ap (λ (b : Bool). cond b (lacks_from image v POINTER_LEVELS 1 (holder DIRECT_BLOCKS first) (holder DIRECT_BLOCKS (end - 1) + 1)) 0) (lt-ltb DIRECT_BLOCKS end far)

pub no_lacks : (image : SectorMap) (v : Inode) (first end : ℕ) → end ≤ DIRECT_BLOCKS → lacks_pointers image v first end ≡ 0
no_lacks image v first end low =
    ap (λ (b : Bool). cond b (lacks_from image v POINTER_LEVELS 1 (holder DIRECT_BLOCKS first) (holder DIRECT_BLOCKS (end - 1) + 1)) 0) (le-ltb DIRECT_BLOCKS end low)

-- the sectors of blocks, and those of their pointers
pub taken_is : (image : SectorMap) (v : Inode) (offset len : ℕ) → taken_by image v offset len
    ≡ holes image v (offset / 512) (blocks_to (offset + len) - offset / 512) + lacks_pointers image v (offset / 512) (blocks_to (offset + len))
taken_is image v offset len = refl

-- ---- how many there are
-- the numbers of a level, and those above
pub most_beyond : (level first end : ℕ) → 1 ≤ level → level < POINTER_LEVELS → 1 < end
    → most_for level first end ≡ end - first + most_for (level + 1) (holder 1 first) (holder 1 (end - 1) + 1)
most_beyond zero first end from to far = absurd (omega (arith, from))
most_beyond (suc zero) first end from to far = chosen (nat_lt 1 end) (end - first) (most_from 2 2 (holder 1 first) (holder 1 (end - 1) + 1)) (lt-ltb 1 end far)
most_beyond (suc (suc zero)) first end from to far = chosen (nat_lt 1 end) (end - first) (most_from 1 3 (holder 1 first) (holder 1 (end - 1) + 1)) (lt-ltb 1 end far)
most_beyond (suc (suc (suc level))) first end from to far = absurd (omega (arith, to))

-- and no fewer than the numbers
numbers_alone : (more level first end : ℕ) → end - first ≤ most_from (suc more) level first end
numbers_alone more level first end = omega arith

pub most_least : (level first end : ℕ) → 1 ≤ level → level ≤ POINTER_LEVELS → end - first ≤ most_for level first end
most_least zero first end from to = absurd (omega (arith, from))
most_least (suc zero) first end from to = numbers_alone 2 1 first end
most_least (suc (suc zero)) first end from to = numbers_alone 1 2 first end
most_least (suc (suc (suc zero))) first end from to = numbers_alone 0 3 first end
most_least (suc (suc (suc (suc level)))) first end from to = absurd (omega (arith, to))

pub most_far : (first end : ℕ) → DIRECT_BLOCKS < end → pointer_sectors first end ≡ most_for 1 (holder DIRECT_BLOCKS first) (holder DIRECT_BLOCKS (end - 1) + 1)
most_far first end far = ap (λ (b : Bool). cond b (most_from POINTER_LEVELS 1 (holder DIRECT_BLOCKS first) (holder DIRECT_BLOCKS (end - 1) + 1)) 0) (lt-ltb DIRECT_BLOCKS end far)

-- no more lack than there are
lacks_most : (image : SectorMap) (v : Inode) (more level first end : ℕ) → lacks_from image v more level first end ≤ most_from more level first end
lacks_most image v zero level first end = omega arith
lacks_most image v (suc more) level first end =
    let c : ℕ = own_count level in
    let here = lacks_few image v level first (end - first) in
    let above = lacks_most image v more (suc level) (holder c first) (holder c (end - 1) + 1) in
    let rest = if_fewer (nat_lt c end) (lacks_from image v more (suc level) (holder c first) (holder c (end - 1) + 1)) (most_from more (suc level) (holder c first) (holder c (end - 1) + 1)) above in
    omega (arith, here, rest)

pub lacks_pointers_most : (image : SectorMap) (v : Inode) (first end : ℕ) → lacks_pointers image v first end ≤ pointer_sectors first end
lacks_pointers_most image v first end =
    if_fewer (nat_lt DIRECT_BLOCKS end) (lacks_from image v POINTER_LEVELS 1 (holder DIRECT_BLOCKS first) (holder DIRECT_BLOCKS (end - 1) + 1))
    (most_from POINTER_LEVELS 1 (holder DIRECT_BLOCKS first) (holder DIRECT_BLOCKS (end - 1) + 1))
    (lacks_most image v POINTER_LEVELS 1 (holder DIRECT_BLOCKS first) (holder DIRECT_BLOCKS (end - 1) + 1))

-- as many as on the level, and those above
most_step : (more level first end k : ℕ) → most_from more (suc level) (holder (own_count level) first) (holder (own_count level) (end - 1) + 1) ≤ k
    → most_from (suc more) level first end ≤ end - first + k
most_step more level first end k few =
    let rest = if_few (nat_lt (own_count level) end) (most_from more (suc level) (holder (own_count level) first) (holder (own_count level) (end - 1) + 1)) k few in
    omega (arith, rest)

-- two numbers, one after the other, have two on each level
most_of_two : (more level first end : ℕ) → end ≤ first + 2 → most_from more level first end ≤ 2 * more
most_of_two zero level first end near = omega arith
most_of_two (suc more) level first end near =
    let all = most_step more level first end (2 * more) (most_of_two more (suc level) (holder (own_count level) first) (holder (own_count level) (end - 1) + 1) (omega (arith, near))) in
    omega (arith, all, near)

-- the first of a level of pointers, which the inode names, is alone
most_named : (more level first end : ℕ) → end ≤ 1 → most_from more (suc level) first end ≤ 1
most_named zero level first end near = omega arith
most_named (suc more) level first end near =
    let all = left_out (nat_lt 1 end) (end - first) (most_from more (suc (suc level)) (holder 1 first) (holder 1 (end - 1) + 1)) (le-ltb 1 end near) in
    omega (arith, all, near)

-- on the highest level there is one
most_on_three : (first end : ℕ) → end ≤ first + 2 → end ≤ level_end 1 → most_from 3 1 first end ≤ 5
most_on_three first end near few =
    let top = most_named 1 2 (holder 1 (holder 1 first)) (holder 1 (holder 1 (end - 1) + 1 - 1) + 1) (omega (arith, few)) in
    let second = most_step 1 2 (holder 1 first) (holder 1 (end - 1) + 1) 1 top in
    let two : holder 1 (end - 1) + 1 ≤ holder 1 first + 2 = omega (arith, near) in
    let all = most_step 2 1 first end 3 (omega (arith, second, two)) in
    omega (arith, all, near)

-- 33 blocks, one after the other, have five sectors of pointers at most
pub pointers_few : (first end : ℕ) → end ≤ first + 33 → end ≤ MAX_BLOCKS → pointer_sectors first end ≤ 5
pointers_few first end near few =
    if_few (nat_lt DIRECT_BLOCKS end) (most_from 3 1 (holder DIRECT_BLOCKS first) (holder DIRECT_BLOCKS (end - 1) + 1)) 5
    (most_on_three (holder DIRECT_BLOCKS first) (holder DIRECT_BLOCKS (end - 1) + 1) (omega (arith, near)) (omega (arith, few)))

-- six, whatever the limit
pub pointers_any : (first end : ℕ) → end ≤ first + 33 → pointer_sectors first end ≤ 6
pointers_any first end near =
    if_few (nat_lt DIRECT_BLOCKS end) (most_from 3 1 (holder DIRECT_BLOCKS first) (holder DIRECT_BLOCKS (end - 1) + 1)) 6
    (most_of_two 3 1 (holder DIRECT_BLOCKS first) (holder DIRECT_BLOCKS (end - 1) + 1) (omega (arith, near)))

-- and one block has two, where the inode names the sector of pointers that has the number of its own
pub pointers_in_block : (first end : ℕ) → end ≤ first + 1 → end ≤ DOUBLE_INDIRECT_END → pointer_sectors first end ≤ 2
pointers_in_block first end near few =
    if_few (nat_lt DIRECT_BLOCKS end) (most_from 3 1 (holder DIRECT_BLOCKS first) (holder DIRECT_BLOCKS (end - 1) + 1)) 2 one
  where
    one : most_from 3 1 (holder DIRECT_BLOCKS first) (holder DIRECT_BLOCKS (end - 1) + 1) ≤ 2
    one =
        let from : ℕ = holder DIRECT_BLOCKS first in
        let to : ℕ = holder DIRECT_BLOCKS (end - 1) + 1 in
        let above = most_named 2 1 (holder 1 from) (holder 1 (to - 1) + 1) (omega (arith, few)) in
        let all = most_step 2 1 from to 1 above in
        omega (arith, all, near)
