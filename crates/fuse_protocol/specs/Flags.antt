-- The names of flags, by rising bits.
use Rattle.std.specs.Prelude.{ℕ, List, [], ◌∷◌, codes}

abbrev pub open_flags : List (List ℕ × ℕ)
open_flags = (codes "write-only", 1) ∷ (codes "read-write", 2) ∷ (codes "exec", 32) ∷ (codes "excl", 128) ∷ (codes "trunc", 512) ∷ []

abbrev pub init_flags : List (List ℕ × ℕ)
init_flags =
    (codes "async-read", 1) ∷ (codes "atomic-o-trunc", 8) ∷ (codes "big-writes", 32) ∷ (codes "dont-mask", 64)
    ∷ (codes "do-readdirplus", 8192) ∷ (codes "readdirplus-auto", 16384) ∷ (codes "parallel-dirops", 262144)
    ∷ (codes "handle-killpriv", 524288) ∷ (codes "posix-acl", 1048576) ∷ (codes "max-pages", 4194304) ∷ (codes "cache-symlinks", 8388608)
    ∷ (codes "handle-killpriv-v2", 268435456) ∷ []

abbrev pub opened_flags : List (List ℕ × ℕ)
opened_flags = (codes "keep-cache", 2) ∷ (codes "cache-dir", 8) ∷ []
