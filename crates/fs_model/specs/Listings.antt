-- A listing as a list.
--     pairs        each name with its inode number
use Rattle.std.specs.Prelude.{ℕ, List, map}
use Rattle.fs_model.specs.declared.listing.Named.{Named}

abbrev pub pairs : List Named → List (List ℕ × ℕ)
pairs names = map (λ n. (n.name, n.ino)) names
