-- The commands, and what a line says.
--     Kind, value_of, said_by        the kinds of words, and what a word of each says
--     Words, Says        which words stand behind a command, and what they say together
--     CommandRow, commands        a row of the table, and the table
--     Said        what a line says; which ACL a text makes is asked last
--     none_said to two_or_said, reads        a pid and so many words
--     has_words        whether a line is read word by word
--     line_value        what a line says, or the first thing that is wrong with it
--     IsSaid, LineSays        the same with its ACL
use Rattle.std.specs.Prelude.{◌≡◌, ℕ, ℤ, ◌==◌, nat_le, nat_lt, min, Bool, false, not, ◌&&◌, List, [], ◌∷◌, ◌++◌, length, codes, ok_or, unwrap_or, Option, None, Some, Result, Ok, Err, if◌then◌else◌}
use Rattle.std.specs.List.{find, list_all, slice_get}
use Rattle.std.specs.Str.{bytes_eq}
use Rattle.posix_acl.specs.AccessList.{AccessList}
use Rattle.posix_acl.specs.Text.{SaysList, SaysFault}
use Rattle.posix_acl.specs.declared.entry.Perms.{Perms}
use Rattle.posix_acl.specs.declared.fault.AclFault.{AclFault}
use Rattle.fs_model.specs.declared.call.AclType.{AclType}
use Rattle.fs_model.specs.declared.call.Call.TheVariants as calls
use Rattle.fs_model.specs.declared.call.Flags.{Flags}
use Rattle.fs_model.specs.declared.call.Whence.{Whence}
use Rattle.fs_model.specs.declared.event.Event.{Event}
use Rattle.fs_model.specs.declared.event.Event.TheVariants as events
use Rattle.fs_model.specs.Limits.{move_limit}
use Rattle.fs_lines.specs.declared.line.Line.{Line}
use Rattle.fs_lines.specs.declared.line.Line.TheVariants.{Blank, Event as Asks}
use Rattle.fs_lines.specs.declared.line.LineFault.{LineFault}
use Rattle.fs_lines.specs.declared.line.LineFault.TheVariants.{TooLong, BadByte, UnknownCommand, WordCount, BadAcl}
use Rattle.fs_lines.specs.Lines.{◌>>=◌, is_silent, is_printable, words_of, word_bytes, each}
use Rattle.fs_cred.specs.declared.caps.Caps.{Caps}
use Rattle.fs_cred.specs.Capabilities.{usual_caps}
use Rattle.fs_cred.specs.Credentials.{credential}
use Rattle.fs_lines.specs.Words.{number_of, id_of, kept_id_of, offset_of, groups_of, some_caps_of, begins_with_cap, perms_in, mode_of, flags_of, whence_of, acl_type_of}

-- ---- words

-- The kinds of words; a path and what is written may be any bytes.
pub data Kind : Type 0 where
  bytes : Kind
  number : Kind
  offset : Kind
  id : Kind
  kept_id : Kind
  groups : Kind
  mode : Kind
  perms : Kind
  flags : Kind
  whence : Kind
  acl_type : Kind

abbrev pub value_of : Kind → Type 0
value_of bytes = List ℕ
value_of number = ℕ
value_of offset = ℤ
value_of id = ℕ
value_of kept_id = Option ℕ
value_of groups = List ℕ
value_of mode = ℕ
value_of perms = Perms
value_of flags = Flags
value_of whence = Whence
value_of acl_type = AclType

-- what a word of this kind says
abbrev pub said_by : (kind : Kind) → List ℕ → Result (value_of kind) LineFault
said_by bytes word = Ok word
said_by number word = number_of 64 word
said_by offset word = offset_of word
said_by id word = id_of word
said_by kept_id word = kept_id_of word
said_by groups word = groups_of word
said_by mode word = mode_of word
said_by perms word = perms_in word
said_by flags word = flags_of word
said_by whence word = whence_of word
said_by acl_type word = acl_type_of word

-- Which words stand behind a command, from left to right. The last one may be left out, and has this value then; or it is
-- the text of an ACL, or `none`.
pub data Words : Type 0 where
  no_words : Words
  one : Kind → Words
  two : Kind → Kind → Words
  three : Kind → Kind → Kind → Words
  two_or : Kind → Kind → (kind : Kind) → value_of kind → Words
  two_and_acl : Kind → Kind → Words
  -- two ids, supplementary groups and capabilities, either of which may be left out
  a_credential : Words

-- what they say together
abbrev pub Says : Words → Type 0
Says no_words = Event
Says (one a) = value_of a → Event
Says (two a b) = value_of a → value_of b → Event
Says (three a b c) = value_of a → value_of b → value_of c → Event
Says (two_or a b c missing) = value_of a → value_of b → value_of c → Event
Says (two_and_acl a b) = value_of a → value_of b → Option AccessList → Event
Says a_credential = ℕ → ℕ → List ℕ → Option Caps → Event

-- ---- the table

-- A command stands alone, or behind the pid of a process: its name, its words, and what they say.
pub data CommandRow : Type 0 where
  alone : List ℕ → (words : Words) → Says words → CommandRow
  behind_pid : List ℕ → (words : Words) → (ℕ → Says words) → CommandRow

-- where no capabilities are named they are the user's usual ones
abbrev pub credential_event : ℕ → ℕ → List ℕ → Option Caps → Event
credential_event uid gid supplementary caps = events.Spawn (credential uid gid supplementary (unwrap_or caps (usual_caps uid)))

-- The commands that stand alone.
abbrev pub lone_commands : List CommandRow
lone_commands =
    alone (codes "spawn") a_credential credential_event
    ∷ alone (codes "sync") no_words events.Sync
    ∷ alone (codes "statfs") no_words events.Statfs
    ∷ []

-- The commands whose first word is a path. A file that open makes has the mode 0666 where none is given.
abbrev pub path_commands : List CommandRow
path_commands =
    behind_pid (codes "open") (two_or bytes flags mode 438) (λ pid path how perm. events.Call pid (calls.Open path how perm))
    ∷ behind_pid (codes "stat") (one bytes) (λ pid path. events.Call pid (calls.Stat path))
    ∷ behind_pid (codes "lstat") (one bytes) (λ pid path. events.Call pid (calls.Lstat path))
    ∷ behind_pid (codes "access") (two bytes perms) (λ pid path want. events.Call pid (calls.Access path want))
    ∷ behind_pid (codes "truncate") (two bytes number) (λ pid path size. events.Call pid (calls.Truncate path size))
    ∷ behind_pid (codes "chmod") (two bytes mode) (λ pid path perm. events.Call pid (calls.Chmod path perm))
    ∷ behind_pid (codes "chown") (three bytes kept_id kept_id) (λ pid path owner group. events.Call pid (calls.Chown path owner group))
    ∷ behind_pid (codes "getacl") (two bytes acl_type) (λ pid path which. events.Call pid (calls.GetAcl path which))
    ∷ behind_pid (codes "setacl") (two_and_acl bytes acl_type) (λ pid path which acl. events.Call pid (calls.SetAcl path which acl))
    ∷ []

-- The commands whose first word is a descriptor. A line reads one move at most.
abbrev pub descriptor_commands : List CommandRow
descriptor_commands =
    behind_pid (codes "read") (two number number) (λ pid fd count. events.Call pid (calls.Read fd (min count move_limit)))
    ∷ behind_pid (codes "write") (two number bytes) (λ pid fd content. events.Call pid (calls.Write fd content))
    ∷ behind_pid (codes "lseek") (three number whence offset) (λ pid fd from by. events.Call pid (calls.Lseek fd from by))
    ∷ behind_pid (codes "close") (one number) (λ pid fd. events.Call pid (calls.Close fd))
    ∷ behind_pid (codes "fstat") (one number) (λ pid fd. events.Call pid (calls.Fstat fd))
    ∷ behind_pid (codes "fsync") (one number) (λ pid fd. events.Fsync pid fd)
    ∷ behind_pid (codes "ftruncate") (two number number) (λ pid fd size. events.Call pid (calls.Ftruncate fd size))
    ∷ behind_pid (codes "readdir") (one number) (λ pid fd. events.Call pid (calls.Readdir fd))
    ∷ []

-- The commands on names.
abbrev pub name_commands : List CommandRow
name_commands =
    behind_pid (codes "mkdir") (two bytes mode) (λ pid path perm. events.Call pid (calls.Mkdir path perm))
    ∷ behind_pid (codes "rmdir") (one bytes) (λ pid path. events.Call pid (calls.Rmdir path))
    ∷ behind_pid (codes "link") (two bytes bytes) (λ pid old new. events.Call pid (calls.Link old new))
    ∷ behind_pid (codes "symlink") (two bytes bytes) (λ pid target path. events.Call pid (calls.Symlink target path))
    ∷ behind_pid (codes "readlink") (one bytes) (λ pid path. events.Call pid (calls.Readlink path))
    ∷ behind_pid (codes "unlink") (one bytes) (λ pid path. events.Call pid (calls.Unlink path))
    ∷ behind_pid (codes "rename") (two bytes bytes) (λ pid old new. events.Call pid (calls.Rename old new))
    ∷ behind_pid (codes "chdir") (one bytes) (λ pid path. events.Call pid (calls.Chdir path))
    ∷ []

-- The commands on the process itself.
abbrev pub process_commands : List CommandRow
process_commands =
    behind_pid (codes "umask") (one mode) (λ pid mask. events.Call pid (calls.Umask mask))
    ∷ behind_pid (codes "exit") no_words (λ pid. events.Exit pid)
    ∷ []

-- All that stand behind a pid.
abbrev pub commands : List CommandRow
commands = path_commands ++ (descriptor_commands ++ (name_commands ++ process_commands))

abbrev pub name_of : CommandRow → List ℕ
name_of (alone name _ _) = name
name_of (behind_pid name _ _) = name

-- ---- what words say

-- A line, or the line that an ACL makes, by the ACL's text.
pub data Said : Type 0 where
  plain : Line → Said
  with_acl : List ℕ → (AccessList → Line) → Said

-- a line asks for this event
abbrev pub asked : Event → Said
asked e = plain (Asks e)

-- what the word with this index says
abbrev pub said_at : {A : Type 0} → (List ℕ → Result A LineFault) → List (List ℕ) → ℕ → Result A LineFault
said_at said words n = do
  word ← ok_or (slice_get words n) WordCount
  said word

abbrev pub said_of_or : {A : Type 0} → (List ℕ → Result A LineFault) → A → Option (List ℕ) → Result A LineFault
said_of_or said missing None = Ok missing
said_of_or said missing (Some word) = said word

-- The pid and the words, where there are so many: the pid is read first.
abbrev pub none_said : Result ℕ LineFault → List (List ℕ) → Result ℕ LineFault
none_said pid words = if length words == 0 then pid else Err WordCount

abbrev pub one_said : {A : Type 0} → (List ℕ → Result A LineFault) → Result ℕ LineFault → List (List ℕ) → Result (ℕ × A) LineFault
one_said a pid words =
    if length words == 1 then (do
      pid ← pid
      x ← said_at a words 0
      Ok (pid, x)) else Err WordCount

abbrev pub two_said : {A B : Type 0} → (List ℕ → Result A LineFault) → (List ℕ → Result B LineFault) → Result ℕ LineFault → List (List ℕ) → Result (ℕ × A × B) LineFault
two_said a b pid words =
    if length words == 2 then (do
      pid ← pid
      x ← said_at a words 0
      y ← said_at b words 1
      Ok (pid, x, y)) else Err WordCount

abbrev pub three_said : {A B C : Type 0} → (List ℕ → Result A LineFault) → (List ℕ → Result B LineFault) → (List ℕ → Result C LineFault)
    → Result ℕ LineFault → List (List ℕ) → Result (ℕ × A × B × C) LineFault
three_said a b c pid words =
    if length words == 3 then (do
      pid ← pid
      x ← said_at a words 0
      y ← said_at b words 1
      z ← said_at c words 2
      Ok (pid, x, y, z)) else Err WordCount

abbrev pub two_or_said : {A B C : Type 0} → (List ℕ → Result A LineFault) → (List ℕ → Result B LineFault) → (List ℕ → Result C LineFault) → C
    → Result ℕ LineFault → List (List ℕ) → Result (ℕ × A × B × C) LineFault
two_or_said a b c missing pid words =
    if nat_le 2 (length words) && nat_le (length words) 3 then (do
      pid ← pid
      x ← said_at a words 0
      y ← said_at b words 1
      z ← said_of_or c missing (slice_get words 2)
      Ok (pid, x, y, z)) else Err WordCount

-- The word of capabilities is a fourth one, or a third that begins as such a word.
abbrev pub caps_apart : List (List ℕ) → List (List ℕ) × Option (List ℕ)
caps_apart (uid ∷ gid ∷ supplementary ∷ caps ∷ []) = (uid ∷ gid ∷ supplementary ∷ [], Some caps)
caps_apart (uid ∷ gid ∷ third ∷ []) = if begins_with_cap third then (uid ∷ gid ∷ [], Some third) else (uid ∷ gid ∷ third ∷ [], None)
caps_apart words = (words, None)

abbrev pub credential_said : Result ℕ LineFault → List (List ℕ) × Option (List ℕ) → Result (ℕ × ℕ × List ℕ × Option Caps) LineFault
credential_said pid apart = do
  v ← two_or_said id_of id_of groups_of [] pid apart.0
  caps ← said_of_or some_caps_of None apart.1
  Ok (v.1, v.2, v.3, caps)

-- `none`, or the text of an ACL
abbrev pub acl_said_by : (Option AccessList → Event) → List ℕ → Result Said LineFault
acl_said_by says word = Ok (if bytes_eq word (codes "none") then asked (says None) else with_acl word (λ acl. Asks (says (Some acl))))

-- The words behind a command, each by its kind.
abbrev pub reads : (kinds : Words) → (ℕ → Says kinds) → Result ℕ LineFault → List (List ℕ) → Result Said LineFault
reads no_words says pid words = do
  n ← none_said pid words
  Ok (asked (says n))
reads (one a) says pid words = do
  v ← one_said (said_by a) pid words
  Ok (asked (says v.0 v.1))
reads (two a b) says pid words = do
  v ← two_said (said_by a) (said_by b) pid words
  Ok (asked (says v.0 v.1 v.2))
reads (three a b c) says pid words = do
  v ← three_said (said_by a) (said_by b) (said_by c) pid words
  Ok (asked (says v.0 v.1 v.2 v.3))
reads (two_or a b c missing) says pid words = do
  v ← two_or_said (said_by a) (said_by b) (said_by c) missing pid words
  Ok (asked (says v.0 v.1 v.2 v.3))
reads (two_and_acl a b) says pid words = do
  v ← three_said (said_by a) (said_by b) (said_by bytes) pid words
  acl_said_by (says v.0 v.1 v.2) v.3
reads a_credential says pid words = do
  v ← credential_said pid (caps_apart words)
  Ok (asked (says 0 v.0 v.1 v.2 v.3))

abbrev pub row_says : CommandRow → List ℕ → List (List ℕ) → Result Said LineFault
row_says (alone _ kinds says) pid words = reads kinds (λ _. says) (Ok 0) words
row_says (behind_pid _ kinds says) pid words = reads kinds says (number_of 64 pid) words

-- ---- what a line says

-- the row with this name
abbrev pub row_named : List CommandRow → List ℕ → Option CommandRow
row_named rows name = find (λ r. bytes_eq name (name_of r)) rows

abbrev pub command_says : Option CommandRow → List ℕ → List (List ℕ) → Result Said LineFault
command_says None pid words = Err UnknownCommand
command_says (Some r) pid words = row_says r pid words

abbrev pub begins_with_digit : List ℕ → Bool
begins_with_digit [] = false
begins_with_digit (b ∷ _) = nat_le 48 b && nat_le b 57

abbrev pub words_behind_pid : List ℕ → List (List ℕ) → Result Said LineFault
words_behind_pid pid [] = Err WordCount
words_behind_pid pid (name ∷ words) = command_says (row_named commands name) pid words

-- A first word that begins with a digit is a pid, and the second names the command.
unfoldable pub words_value : List (List ℕ) → Result Said LineFault
words_value [] = Err WordCount
words_value (first ∷ words) =
    if begins_with_digit first then words_behind_pid first words else command_says (row_named lone_commands first) [] words

-- where the bytes of the line may stand in one
abbrev pub clean_value : List ℕ → Result Said LineFault
clean_value line = do
  words ← each word_bytes (words_of line)
  words_value words

-- A line is read word by word: it isn't too long, it says something, and it has only bytes that may stand in a line.
abbrev pub has_words : List ℕ → Bool
has_words line = not (nat_lt 4096 (length line)) && not (is_silent line) && list_all is_printable line

-- What a line says, or the first thing that is wrong with it. A blank line or a comment is wrong only where it is too long.
unfoldable pub line_value : List ℕ → Result Said LineFault
line_value line =
    if nat_lt 4096 (length line) then Err TooLong
    else (if is_silent line then Ok (plain Blank)
    else (if list_all is_printable line then clean_value line else Err BadByte))

-- ---- ACLs

-- the line that the ACL of a text makes; or the text says none
abbrev pub IsSaidByText : List ℕ → (AccessList → Line) → Result Line LineFault → Type 0
IsSaidByText text says (Ok line) = (acl : AccessList) × SaysList text acl × (line ≡ says acl)
IsSaidByText text says (Err fault) = (why : AclFault) × SaysFault text why × (fault ≡ BadAcl)

-- An ACL is the last word of its line, so that its fault is the last that is found.
abbrev pub IsSaid : Result Said LineFault → Result Line LineFault → Type 0
IsSaid (Err fault) result = result ≡ Err fault
IsSaid (Ok (plain line)) result = result ≡ Ok line
IsSaid (Ok (with_acl text says)) result = IsSaidByText text says result

-- What a line says.
abbrev pub LineSays : List ℕ → Result Line LineFault → Type 0
LineSays line result = IsSaid (line_value line) result
