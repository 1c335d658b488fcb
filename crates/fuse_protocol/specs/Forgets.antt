-- How often the kernel forgets nodes.
--     forget_count        in the body of a FORGET
--     forgets_in, batch_of        of several nodes, in the body of a BATCH_FORGET
use Rattle.std.specs.Prelude.{ℕ, zero, suc, ◌-◌, ◌/◌, nat_lt, min, List, [], ◌∷◌, length, drop, if◌then◌else◌}
use Rattle.fuse_protocol.specs.Bytes.{word_at, long_at}

-- Nothing is told back, so a body that is too short isn't refused: it forgets nothing.
abbrev pub forget_count : List ℕ → ℕ
forget_count s = if nat_lt (length s) 8 then 0 else long_at s 0

-- so many nodes, each with how often it is forgotten
abbrev pub forgets_in : ℕ → List ℕ → List (ℕ × ℕ)
forgets_in zero s = []
forgets_in (suc k) s = (long_at s 0, long_at s 8) ∷ forgets_in k (drop 16 s)

-- as many as a body says and has, behind the number of them and 4 bytes more
abbrev pub batch_of : List ℕ → List (ℕ × ℕ)
batch_of s = if nat_lt (length s) 8 then [] else forgets_in (min (word_at s 0) ((length s - 8) / 16)) (drop 8 s)
