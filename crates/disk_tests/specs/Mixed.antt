-- What a caller in the tests makes of a map of sectors.
--     mixed_content        the content of one sector, with the first byte of another one
--     with_mixed        the map with that in a third sector
use Rattle.std.specs.Prelude.{ℕ, List, nat_eq, if◌then◌else◌, slice_set, slice_index}
use Rattle.fs_layout.specs.Bytes.{SectorMap}

abbrev pub mixed_content : SectorMap → ℕ → ℕ → List ℕ
mixed_content sectors first second = slice_set (sectors first) 0 (slice_index (sectors second) 0)

abbrev pub with_mixed : SectorMap → ℕ → ℕ → ℕ → SectorMap
with_mixed sectors first second at n = if nat_eq n at then mixed_content sectors first second else sectors n
