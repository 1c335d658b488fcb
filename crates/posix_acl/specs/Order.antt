-- The canonical order of entries.
use Rattle.std.specs.Prelude.{ℕ, ◌+◌, ◌*◌, ◌^◌, ◌≤◌, ◌==◌, Bool, ◌&&◌, List, [], ◌∷◌}
use Rattle.std.specs.List.{AllByRecursion}
use Rattle.posix_acl.specs.declared.entry.Entry.{Entry}
use Rattle.posix_acl.specs.Entries.{tag_number, is_tag, is_named}

-- where an entry stands: by tag, and then by id
abbrev pub rank : Entry → ℕ
rank e = tag_number e.tag * 2 ^ 32 + e.id

-- each entry stands before those that follow it
abbrev pub IsOrdered : List Entry → Type 0
IsOrdered [] = Unit {0}
IsOrdered (x ∷ xs) = AllByRecursion (λ y. rank x ≤ rank y) xs × IsOrdered xs

-- both name the same user, or the same group
abbrev pub same_name : Entry → Entry → Bool
same_name x y = is_named x.tag && (is_tag x.tag y.tag && x.id == y.id)
