-- Entries of an access control list: tags, permissions, and what they are as numbers.
use Rattle.std.specs.Prelude.{ℕ, ◌+◌, ◌/◌, ◌%◌, ◌==◌, Bool, true, false, ◌&&◌, List, map, if◌then◌else◌}
use Rattle.posix_acl.specs.declared.entry.Perms.{Perms}
use Rattle.posix_acl.specs.declared.entry.Entry.{Entry}
use Rattle.posix_acl.specs.declared.entry.EntryNumbers.{EntryNumbers}
use Rattle.posix_acl.specs.declared.entry.Tag.{Tag}
use Rattle.posix_acl.specs.declared.entry.Tag.TheVariants.{UserObj, User, GroupObj, Group, Mask, Other}

-- the number that stands for a tag; the numbers rise in canonical order
abbrev pub tag_number : Tag → ℕ
tag_number UserObj = 1
tag_number User = 2
tag_number GroupObj = 4
tag_number Group = 8
tag_number Mask = 16
tag_number Other = 32

abbrev pub is_tag : Tag → Tag → Bool
is_tag a b = tag_number a == tag_number b

-- whether an id qualifies the tag
abbrev pub is_named : Tag → Bool
is_named UserObj = false
is_named User = true
is_named GroupObj = false
is_named Group = true
is_named Mask = false
is_named Other = false

-- the permissions that a digit of mode bits gives, and the digit
abbrev pub perms_of : ℕ → Perms
perms_of d = record { read = d / 4 % 2 == 1; write = d / 2 % 2 == 1; execute = d % 2 == 1 }

abbrev pub digit_of : Perms → ℕ
digit_of p = (if p.read then 4 else 0) + (if p.write then 2 else 0) + (if p.execute then 1 else 0)

-- what both give
abbrev pub meet : Perms → Perms → Perms
meet p q = record { read = p.read && q.read; write = p.write && q.write; execute = p.execute && q.execute }

abbrev pub entry : Tag → ℕ → Perms → Entry
entry tag id perms = record { tag = tag; id = id; perms = perms }

-- the entry with the id that counts: 0 where the tag takes none
abbrev pub plain : Entry → Entry
plain e = entry e.tag (if is_named e.tag then e.id else 0) e.perms

abbrev pub plain_entries : List Entry → List Entry
plain_entries es = map plain es

-- an entry as it is stored
abbrev pub numbers_of : Entry → EntryNumbers
numbers_of e = record { tag = tag_number e.tag; perms = digit_of e.perms; id = e.id }
