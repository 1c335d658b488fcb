-- The text of replies, one line each without its newline.
--     word_text        bytes as one word, as lines have them
--     mode_text        four octal digits
--     rule_text, need_text        rules of decisions, and what is asked for
--     reply_text, fault_text        what is answered to a line
use Rattle.std.specs.Prelude.{ℕ, ◌+◌, ◌/◌, ◌%◌, ◌==◌, nat_le, Bool, false, ◌&&◌, List, [], ◌∷◌, ◌++◌, codes, Option, None, Some, if◌then◌else◌}
use Rattle.std.specs.List.{flat_map}
use Rattle.std.specs.Fmt.{decimal, digit_glyph}
use Rattle.posix_acl.specs.AccessList.{AccessList}
use Rattle.posix_acl.specs.Text.{written_text, perms_text}
use Rattle.posix_acl.specs.declared.text.TextForm.TheVariants.{Short}
use Rattle.std.specs.Int.RustNames.{bit_and}
use Rattle.fs_cred.specs.Capabilities.{named_caps}
use Rattle.fs_cred.specs.Errnos.{errno_name, errno_number}
use Rattle.fs_cred.specs.declared.errno.Errno.{Errno}
use Rattle.fs_cred.specs.declared.rule.Rule.{Rule}
use Rattle.fs_cred.specs.declared.rule.Rule.TheVariants.{Owner, NamedUser, OwningGroup, NamedGroup, Mask as MaskRule, Other, Capability, NoExecuteBit, NotOwner, NoCapability, NotMember, Sticky}
use Rattle.fs_cred.specs.declared.refusal.Need.{Need}
use Rattle.fs_cred.specs.declared.refusal.Need.TheVariants.{Search, Perm, Own, Chown, Chgrp, Remove}
use Rattle.fs_cred.specs.declared.refusal.Denial.{Denial}
use Rattle.fs_cred.specs.declared.refusal.Refusal.{Refusal}
use Rattle.fs_cred.specs.declared.refusal.Refusal.TheVariants.{Denied, Failed}
use Rattle.fs_model.specs.declared.reply.FileType.{FileType}
use Rattle.fs_model.specs.declared.reply.FileType.TheVariants.{File, Directory, Link}
use Rattle.fs_model.specs.declared.reply.Stamps.{Stamps}
use Rattle.fs_model.specs.declared.reply.Status.{Status}
use Rattle.fs_model.specs.declared.reply.Reply.{Reply}
use Rattle.fs_model.specs.declared.reply.Reply.TheVariants.{Done, Pid, Fd, Data, Wrote, At, Target, Mask, Shown, Granted, Acl, Names, Space, Stamped, Opened, Made, Refused}
use Rattle.fs_lines.specs.declared.line.LineFault.{LineFault}
use Rattle.fs_lines.specs.declared.line.LineFault.TheVariants.{TooLong, BadByte, BadEscape, UnknownCommand, WordCount, BadNumber, BadAcl, OutOfMemory}
use Rattle.fs_lines.specs.Lines.{empty_word, is_plain}

-- ---- words

-- a graphic character of ASCII that is neither `\` nor `"`
abbrev pub stands_for_itself : ℕ → Bool
stands_for_itself b = nat_le 33 b && nat_le b 126 && is_plain b

-- Such a byte is written as it is, and each other one as `\` and two hexadecimal digits.
abbrev pub byte_text : ℕ → List ℕ
byte_text b = if stands_for_itself b then b ∷ [] else 92 ∷ digit_glyph false (b / 16) ∷ digit_glyph false (b % 16) ∷ []

abbrev pub bytes_text : List ℕ → List ℕ
bytes_text bytes = flat_map byte_text bytes

abbrev pub word_text : List ℕ → List ℕ
word_text [] = empty_word
word_text (b ∷ bs) = bytes_text (b ∷ bs)

-- ---- numbers and permissions

abbrev pub octal_digit : ℕ → ℕ
octal_digit d = 48 + d % 8

abbrev pub mode_text : ℕ → List ℕ
mode_text mode = octal_digit (mode / 512) ∷ octal_digit (mode / 64) ∷ octal_digit (mode / 8) ∷ octal_digit mode ∷ []

-- ---- refusals

-- the names of those of a set, behind this and with commas between them
unfoldable pub caps_text : List ℕ → ℕ → List (List ℕ × ℕ) → List ℕ
caps_text before bits [] = []
caps_text before bits (cap ∷ caps) =
    if bit_and bits cap.1 == cap.1 then before ++ (cap.0 ++ caps_text (codes ",") bits caps) else caps_text before bits caps

abbrev pub rule_text : Rule → List ℕ
rule_text Owner = codes "owner"
rule_text (NamedUser id) = codes "user:" ++ decimal id
rule_text OwningGroup = codes "group"
rule_text (NamedGroup id) = codes "group:" ++ decimal id
rule_text MaskRule = codes "mask"
rule_text Other = codes "other"
rule_text (Capability caps) = codes "cap" ++ caps_text (codes ":") caps.0 named_caps
rule_text NoExecuteBit = codes "no-execute-bit"
rule_text NotOwner = codes "not-owner"
rule_text NoCapability = codes "no-capability"
rule_text NotMember = codes "not-member"
rule_text Sticky = codes "sticky"

abbrev pub need_text : Need → List ℕ
need_text Search = codes "search"
need_text (Perm want) = codes "perm " ++ perms_text want
need_text Own = codes "own"
need_text Chown = codes "chown"
need_text Chgrp = codes "chgrp"
need_text Remove = codes "remove"

-- the name and the number
abbrev pub errno_text : Errno → List ℕ
errno_text errno = errno_name errno ++ codes " " ++ decimal (errno_number errno)

abbrev pub denial_text : Denial → List ℕ
denial_text d =
    codes "denied " ++ errno_text d.errno ++ codes " walk " ++ decimal d.walk ++ codes " step " ++ decimal d.step
    ++ codes " need " ++ need_text d.need ++ codes " rule " ++ rule_text d.rule

abbrev pub refusal_text : Refusal → List ℕ
refusal_text (Denied denial) = denial_text denial
refusal_text (Failed errno) = codes "error " ++ errno_text errno

-- ---- what calls show

abbrev pub kind_text : FileType → List ℕ
kind_text File = codes "file"
kind_text Directory = codes "dir"
kind_text Link = codes "link"

abbrev pub counts_text : Status → List ℕ
counts_text s =
    codes " links " ++ decimal s.links ++ codes " uid " ++ decimal s.owner ++ codes " gid " ++ decimal s.group
    ++ codes " size " ++ decimal s.size

abbrev pub status_text : Status → List ℕ
status_text s =
    codes "ino " ++ decimal s.ino ++ codes " " ++ kind_text s.kind ++ codes " " ++ mode_text s.mode ++ counts_text s

abbrev pub acl_text : Option AccessList → List ℕ
acl_text None = codes "none"
acl_text (Some acl) = written_text Short acl

-- a space, the number of the inode and the name
abbrev pub named_text : List ℕ × ℕ → List ℕ
named_text named = codes " " ++ decimal named.1 ++ codes ":" ++ word_text named.0

abbrev pub names_text : List (List ℕ × ℕ) → List ℕ
names_text names = flat_map named_text names

abbrev pub stamps_text : Stamps → List ℕ
stamps_text s = codes "stamps " ++ decimal s.atime ++ codes " " ++ decimal s.mtime ++ codes " " ++ decimal s.ctime

-- ---- replies

-- The text of what the file system answers.
unfoldable pub reply_text : Reply → List ℕ
reply_text Done = codes "ok"
reply_text (Pid pid) = codes "pid " ++ decimal pid
reply_text (Fd fd) = codes "fd " ++ decimal fd
reply_text (Data bytes) = codes "data " ++ word_text bytes
reply_text (Wrote count) = codes "wrote " ++ decimal count
reply_text (At offset) = codes "at " ++ decimal offset
reply_text (Target target) = codes "target " ++ word_text target
reply_text (Mask mask) = codes "umask " ++ mode_text mask
reply_text (Shown status) = status_text status
reply_text (Granted rule) = codes "granted " ++ rule_text rule
reply_text (Acl acl) = codes "acl " ++ acl_text acl
reply_text (Names names) = codes "list" ++ names_text names
reply_text (Space blocks inodes) = codes "free " ++ decimal blocks ++ codes " blocks " ++ decimal inodes ++ codes " inodes"
reply_text (Stamped stamps) = stamps_text stamps
reply_text (Opened handle ino) = codes "handle " ++ decimal handle ++ codes " inode " ++ decimal ino
reply_text (Made ino) = codes "made " ++ decimal ino
reply_text (Refused refusal) = refusal_text refusal

abbrev pub fault_number : LineFault → ℕ
fault_number TooLong = 1
fault_number BadByte = 2
fault_number BadEscape = 3
fault_number UnknownCommand = 4
fault_number WordCount = 5
fault_number BadNumber = 6
fault_number BadAcl = 7
fault_number OutOfMemory = 8

abbrev pub fault_name : LineFault → List ℕ
fault_name TooLong = codes "TooLong"
fault_name BadByte = codes "BadByte"
fault_name BadEscape = codes "BadEscape"
fault_name UnknownCommand = codes "UnknownCommand"
fault_name WordCount = codes "WordCount"
fault_name BadNumber = codes "BadNumber"
fault_name BadAcl = codes "BadAcl"
fault_name OutOfMemory = codes "OutOfMemory"

-- The text of what is wrong with a line.
abbrev pub fault_text : LineFault → List ℕ
fault_text fault = codes "fault " ++ decimal (fault_number fault) ++ codes " " ++ fault_name fault
