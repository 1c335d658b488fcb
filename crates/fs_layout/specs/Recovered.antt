-- The recovered image: what a disk means, whose commit sector may be sealed.
use Rattle.std.specs.Prelude.{ℕ, ◌+◌, List, [], ◌∷◌, nat_eq, if◌then◌else◌}
use Rattle.fs_layout.specs.Bytes.{SectorMap}
use Rattle.fs_layout.specs.Header.{header_of}
use Rattle.fs_layout.specs.Commit.{named_start, targets_in}

-- the image with these targets replaced by the sectors from `log` on, one after the other
abbrev pub replayed : SectorMap → ℕ → List ℕ → SectorMap
replayed image log [] s = image s
replayed image log (t ∷ ts) s = if nat_eq s t then image log else replayed image (log + 1) ts s

-- the image of a disk of so many sectors as recovery leaves its data: a sealed commit's targets have the contents of
-- the log sectors, in their order, and each other sector its own
unfoldable pub recovered : ℕ → SectorMap → SectorMap
recovered size image s = replayed image (named_start image + header_of (image 0)) (targets_in size image) s
