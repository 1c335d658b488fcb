-- What is said of a finding, for whoever has to act on it.
--     subjects        what a rule's number counts, for each rule
--     demands        what the rule asks, and that it isn't so
--     explanation_text        the line
use Rattle.std.specs.Prelude.{ℕ, ◌-◌, List, [], ◌∷◌, ◌++◌, codes, get_or}
use Rattle.std.specs.Fmt.{decimal}
use Rattle.fs_check.specs.declared.faults.Finding.{Finding}

abbrev pub subjects : List (List ℕ)
subjects =
    codes "sector"
    ∷ codes "sector"
    ∷ codes "inode bit"
    ∷ codes "inode"
    ∷ codes "inode"
    ∷ codes "sector"
    ∷ codes "block bit"
    ∷ codes "inode"
    ∷ codes "inode"
    ∷ codes "inode"
    ∷ codes "inode"
    ∷ codes "inode"
    ∷ codes "inode"
    ∷ codes "inode"
    ∷ []

abbrev pub demands : List (List ℕ)
demands =
    codes "a superblock has to stand here, of a known version, with the image's own number of sectors and numbers in range; none does, so nothing else is found"
    ∷ codes "a commit has to stand here, idle or with distinct targets behind the log and within the image; none does, so what was being written is not known"
    ∷ codes "it has to be set for inodes 0 and 1, for those past the last one, and else where the inode is in use; it is the other way round"
    ∷ codes "its kind, mode, size and unused bytes have to be as the layout's version allows, with inode 0 free and inode 1 a directory; they are not"
    ∷ codes "each of its sectors has to lie in the data area; one lies elsewhere"
    ∷ codes "one inode may own it, for one thing; two own it, or one does for two things"
    ∷ codes "it has to be set where the sector is owned, below the data or past the end, and else clear; it is the other way round"
    ∷ codes "past its size there may be no block and no byte but zeros, a hole in files alone, and no zero byte in a link's target; this does not hold"
    ∷ codes "its lists have to be valid, in order and as its mode says, none on a link and default ones on directories alone; one is not"
    ∷ codes "each slot of this directory has to hold a name and the number of an inode in use other than the root; one does not"
    ∷ codes "no name may stand twice in this directory; one does"
    ∷ codes "its count of names has to be the number of slots that name it, and within the limit; it is not"
    ∷ codes "its parent has to be the directory that names it, the root's the root, and 0 where it is no directory; it is not"
    ∷ codes "going up from this directory by parents has to reach the root; it does not"
    ∷ []

-- of the rule's number in these lists, which begin with the first rule
abbrev pub of_rule : List (List ℕ) → ℕ → List ℕ
of_rule texts rule = get_or texts (rule - 1) []

abbrev pub explanation_text : Finding → List ℕ
explanation_text f =
    of_rule subjects f.rule ++ codes " " ++ decimal f.at ++ codes ": " ++ of_rule demands f.rule
    ++ codes "; nothing is repaired: take the image from a backup\n"
