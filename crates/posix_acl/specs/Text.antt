-- The text of a list: what is written, and what is read.
--     written_text        the text of a list, in either form
--     IsText        the bytes are a text of these entries, in this order
use Rattle.std.specs.Prelude.{◌≡◌, ℕ, ◌+◌, ◌^◌, ◌<◌, ◌≤◌, ◌==◌, Bool, true, false, ◌||◌, List, [], ◌∷◌, ◌++◌, length, reverse, count_by, codes, if◌then◌else◌, ◌⊎◌, Some, None, Result, Ok, Err}
use Rattle.std.specs.List.{flat_map, slice_split, before_first}
use Rattle.std.specs.Fmt.{decimal}
use Rattle.posix_acl.specs.declared.entry.Perms.{Perms}
use Rattle.posix_acl.specs.declared.entry.Entry.{Entry}
use Rattle.posix_acl.specs.declared.entry.Tag.{Tag}
use Rattle.posix_acl.specs.declared.entry.Tag.TheVariants.{UserObj, User, GroupObj, Group, Mask, Other}
use Rattle.posix_acl.specs.declared.text.TextForm.{TextForm}
use Rattle.posix_acl.specs.declared.text.TextForm.TheVariants.{Long, Short}
use Rattle.posix_acl.specs.declared.fault.AclFault.{AclFault}
use Rattle.posix_acl.specs.declared.fault.AclFault.TheVariants.{OutOfMemory, BadText}
use Rattle.posix_acl.specs.Entries.{is_named, plain_entries}
use Rattle.posix_acl.specs.Faults.{first_fault, IsListOf}
use Rattle.posix_acl.specs.AccessList.{AccessList, entries_of}

-- the word that stands for a tag, and its first letter, which may stand for it too
abbrev pub word_of : Tag → List ℕ
word_of UserObj = codes "user"
word_of User = codes "user"
word_of GroupObj = codes "group"
word_of Group = codes "group"
word_of Mask = codes "mask"
word_of Other = codes "other"

abbrev pub letter_of : Tag → List ℕ
letter_of UserObj = codes "u"
letter_of User = codes "u"
letter_of GroupObj = codes "g"
letter_of Group = codes "g"
letter_of Mask = codes "m"
letter_of Other = codes "o"

-- the name that qualifies a tag: a decimal id, or nothing
abbrev pub qualifier_of : Tag → ℕ → List ℕ
qualifier_of tag id = if is_named tag then decimal id else []

abbrev pub perms_text : Perms → List ℕ
perms_text p = (if p.read then 114 else 45) ∷ (if p.write then 119 else 45) ∷ (if p.execute then 120 else 45) ∷ []

-- an entry as it is written: word, name and permissions, with colons between
abbrev pub entry_text : Entry → List ℕ
entry_text e = word_of e.tag ++ (58 ∷ (qualifier_of e.tag e.id ++ (58 ∷ perms_text e.perms)))

-- each entry with a newline after it
abbrev pub long_text : List Entry → List ℕ
long_text es = flat_map (λ e. entry_text e ++ 10 ∷ []) es

-- the entries with commas between them
abbrev pub short_text : List Entry → List ℕ
short_text [] = []
short_text (e ∷ es) = entry_text e ++ flat_map (λ x. 44 ∷ entry_text x) es

-- The text of a list.
abbrev pub written_text : TextForm → AccessList → List ℕ
written_text Long a = long_text (entries_of a)
written_text Short a = short_text (entries_of a)

-- The texts that are read are more than those that are written. What follows says which they are.

abbrev pub is_newline : ℕ → Bool
is_newline b = b == 10

abbrev pub is_comma : ℕ → Bool
is_comma b = b == 44

abbrev pub is_hash : ℕ → Bool
is_hash b = b == 35

abbrev pub is_colon : ℕ → Bool
is_colon b = b == 58

-- a space or a tab
abbrev pub is_blank : ℕ → Bool
is_blank b = b == 32 || b == 9

abbrev pub without_front_blanks : List ℕ → List ℕ
without_front_blanks [] = []
without_front_blanks (b ∷ bs) = if is_blank b then without_front_blanks bs else b ∷ bs

abbrev pub without_back_blanks : List ℕ → List ℕ
without_back_blanks bs = reverse (without_front_blanks (reverse bs))

abbrev pub without_blanks : List ℕ → List ℕ
without_blanks bs = without_back_blanks (without_front_blanks bs)

abbrev pub is_empty_piece : List ℕ → Bool
is_empty_piece bs = length bs == 0

-- what is left of pieces without the blanks around them, where anything is left
abbrev pub kept_pieces : List (List ℕ) → List (List ℕ)
kept_pieces [] = []
kept_pieces (p ∷ ps) = if is_empty_piece (without_blanks p) then kept_pieces ps else without_blanks p ∷ kept_pieces ps

-- the pieces of a line: what stands between commas, up to a comment
abbrev pub line_pieces : List ℕ → List (List ℕ)
line_pieces line = kept_pieces (slice_split is_comma (before_first is_hash line))

-- the pieces of a text, line by line
abbrev pub text_pieces : List ℕ → List (List ℕ)
text_pieces text = flat_map line_pieces (slice_split is_newline text)

-- the word for a tag, long or short
abbrev pub IsWordOf : Tag → List ℕ → Type 0
IsWordOf tag word = (word ≡ word_of tag) ⊎ (word ≡ letter_of tag)

-- A name is an id of 32 bits in decimal, with no zero in front of other digits, where the tag takes
-- one, and is empty where it doesn't.
pub record IsNameOf (tag : Tag) (id : ℕ) (name : List ℕ) : Type 0 where
  pub text : name ≡ qualifier_of tag id
  pub fits : id < 2 ^ 32
  pub none : is_named tag ≡ false → id ≡ 0

abbrev pub count_letter : ℕ → List ℕ → ℕ
count_letter letter text = count_by (λ b. b == letter) text

-- One to three of the letters r, w, x and -, and none of r, w and x twice.
pub record IsPermsText (letters : List ℕ) (p : Perms) : Type 0 where
  pub some : 1 ≤ length letters
  pub few : length letters ≤ 3
  pub known : count_letter 114 letters + count_letter 119 letters + count_letter 120 letters + count_letter 45 letters ≡ length letters
  pub read : count_letter 114 letters ≡ (if p.read then 1 else 0)
  pub write : count_letter 119 letters ≡ (if p.write then 1 else 0)
  pub execute : count_letter 120 letters ≡ (if p.execute then 1 else 0)

pub record AreFieldsOf (word name letters : List ℕ) (e : Entry) : Type 0 where
  pub word_is : IsWordOf e.tag word
  pub name_is : IsNameOf e.tag e.id name
  pub perms_are : IsPermsText letters e.perms

-- whether the name may be left out together with its colon
abbrev pub may_lack_name : Tag → Bool
may_lack_name UserObj = false
may_lack_name User = false
may_lack_name GroupObj = false
may_lack_name Group = false
may_lack_name Mask = true
may_lack_name Other = true

-- an entry by what stands between colons
abbrev pub AreEntryFields : List (List ℕ) → Entry → Type 0
AreEntryFields (word ∷ name ∷ letters ∷ []) e = AreFieldsOf word name letters e
AreEntryFields (word ∷ letters ∷ []) e = (may_lack_name e.tag ≡ true) × AreFieldsOf word [] letters e
AreEntryFields fields e = ⊥

abbrev pub IsEntryText : List ℕ → Entry → Type 0
IsEntryText text e = AreEntryFields (slice_split is_colon text) e

-- each piece is the entry at its index
abbrev pub AreEntryTexts : List (List ℕ) → List Entry → Type 0
AreEntryTexts [] [] = Unit {0}
AreEntryTexts (p ∷ ps) (e ∷ es) = IsEntryText p e × AreEntryTexts ps es
AreEntryTexts ps es = ⊥

-- The bytes are a text of these entries.
abbrev pub IsText : List ℕ → List Entry → Type 0
IsText text es = AreEntryTexts (text_pieces text) es

-- new is old, and then the entries that the pieces are
abbrev pub AppendsEntries : List Entry → List Entry → List (List ℕ) → Type 0
AppendsEntries old new ps = (es : List Entry) × AreEntryTexts ps es × (new ≡ old ++ es)

-- no entries have this text
abbrev pub IsNoText : List (List ℕ) → Type 0
IsNoText ps = (es : List Entry) → AreEntryTexts ps es → ⊥

-- The text says this list: its entries make it.
pub record SaysList (text : List ℕ) (a : AccessList) : Type 0 where
  pub entries : List Entry
  pub read : IsText text entries
  pub made : IsListOf entries a
  pub faultless : first_fault (plain_entries entries) ≡ None

-- The entries of the text have this fault first.
pub record SaysFaulty (text : List ℕ) (fault : AclFault) : Type 0 where
  pub entries : List Entry
  pub read : IsText text entries
  pub first : first_fault (plain_entries entries) ≡ Some fault

-- Why a text says no list: it has no entries, or these have a fault.
abbrev pub SaysFault : List ℕ → AclFault → Type 0
SaysFault text BadText = IsNoText (text_pieces text)
SaysFault text fault = SaysFaulty text fault

-- What reading a written list comes to: the list, memory aside.
abbrev pub ReadsBack : AccessList → Result AccessList AclFault → Type 0
ReadsBack a (Ok b) = b ≡ a
ReadsBack a (Err fault) = fault ≡ OutOfMemory
