-- What the words of the command line ask for.
--     command_line     `clap`'s definition of the command line
--     AsksFor          a job is what that definition reads from the words
--     Refuses          a fault is one that it gives them
--     words_status     the status of a fault
use Rattle.std.specs.Prelude.{◌≡◌, ◌≢◌, ◌≤◌, ◌⊎◌, ℕ, List, [], ◌∷◌, Option, Some, None, codes, true, false}
use Rattle.std.specs.List.{list_any}
use Rattle.std.specs.Str.{bytes_eq}
use Rattle.std.specs.Str.Parse.{IsNumeral, digits_value, without_leading_plus}
use Rattle.clap.specs.Words.{App, Row, Rule, Text, IsAmong, fault_of, first_of, kind_of, new_app, new_rule, one_of, subcommand_of, with_rule, with_subcommand}
use Rattle.clap.specs.Takes.{is_given}
use Rattle.clap.specs.Values.{bool_text}
use Rattle.clap.specs.declared.builder.action.ArgAction.TheVariants.{SetTrue}
use Rattle.clap.specs.declared.builder.value_parser.ValueParser.TheVariants as vp
use Rattle.clap.specs.declared.error.Error.{Error}
use Rattle.clap.specs.declared.error.kind.ErrorKind.{ErrorKind}
use Rattle.clap.specs.declared.error.kind.ErrorKind.TheVariants as kind
use Rattle.posix_acl.specs.declared.entry.Perms.{Perms}
use Rattle.fs_cred.specs.Credentials.{Credential}
use Rattle.fs_command.specs.Users.{SaysNoCaps, SaysNoUser, SaysUser, perms_said}
use Rattle.fs_command.specs.Sizes.{IsNoSize, IsSize, usual_inodes}
use Rattle.fs_command.specs.declared.words.Job.{Job}
use Rattle.fs_command.specs.declared.words.Job.TheVariants.{Memory, Mkfs, Format, Pack, Unpack, Run, Check, Info, Upgrade, Fuse, Access}
use Rattle.fs_command.specs.declared.words.WordsFault.{WordsFault}
use Rattle.fs_command.specs.declared.words.WordsFault.TheVariants.{Help, BadWords, BadSize, BadPerm, BadUser, BadCaps, OutOfMemory}
use Rattle.fs_command.specs.declared.status.Status.{Status}
use Rattle.fs_command.specs.declared.status.Status.TheVariants as statuses

-- ---- the command line

-- the path of the image has to be given
abbrev pub image : Rule
image = record (new_rule (codes "IMAGE")) { required = true }

-- the path of the directory has to be given
abbrev pub directory : Rule
directory = record (new_rule (codes "DIR")) { required = true }

-- the argument has to be given
abbrev pub must_be_given : Rule → Rule
must_be_given rule = record rule { required = true }

-- `--name N`, which may be given, with a number in its range
abbrev pub number_option : Text → ℕ → ℕ → Rule
number_option name least most = record (new_rule name) { long = Some name; value_names = 1; parser = Some (vp.Unsigned least most) }

-- `--name TEXT`, which may be given
abbrev pub text_option : Text → Rule
text_option name = record (new_rule name) { long = Some name; value_names = 1 }

-- `--name`, which may be given
abbrev pub flag : Text → Rule
flag name = record (new_rule name) { long = Some name; action = Some SetTrue }

-- a command with the size and the inodes of the image that it makes
abbrev pub with_size : App → App
with_size command = with_rule (with_rule command (must_be_given (text_option (codes "size")))) (number_option (codes "inodes") 16 1048576)

abbrev pub mkfs : App
mkfs = with_rule (with_rule (with_rule (new_app (codes "mkfs")) image)
    (must_be_given (number_option (codes "sectors") 1024 65536))) (must_be_given (number_option (codes "inodes") 16 4096))

abbrev pub format : App
format = with_rule (with_rule (with_rule (new_app (codes "format")) image)
    (must_be_given (text_option (codes "size")))) (number_option (codes "inodes") 16 1048576)

abbrev pub pack : App
pack = with_rule (with_rule (with_rule (with_rule (with_rule (with_rule (new_app (codes "pack")) image) directory)
    (must_be_given (text_option (codes "size")))) (number_option (codes "inodes") 16 1048576))
    (number_option (codes "uid") 0 4294967295)) (number_option (codes "gid") 0 4294967295)

abbrev pub unpack : App
unpack = with_rule (with_rule (new_app (codes "unpack")) image) directory

abbrev pub run : App
run = with_rule (with_rule (new_app (codes "run")) image) (new_rule (codes "SCRIPT"))

abbrev pub check : App
check = with_rule (with_rule (new_app (codes "check")) image) (flag (codes "explain"))

abbrev pub info : App
info = with_rule (with_rule (new_app (codes "info")) image) (flag (codes "json"))

abbrev pub upgrade : App
upgrade = with_rule (new_app (codes "upgrade")) image

abbrev pub fuse : App
fuse = with_rule (with_rule (with_rule (with_rule (new_app (codes "fuse")) image) (text_option (codes "denials"))) (flag (codes "own-rules")))
    (number_option (codes "commit") 0 86400)

-- the argument has to be given
abbrev pub required_rule : Text → Rule
required_rule name = record (new_rule name) { required = true }

abbrev pub access : App
access = with_rule (with_rule (with_rule (with_rule (with_rule (with_rule (new_app (codes "access")) image) (required_rule (codes "PATH")))
    (required_rule (codes "PERM"))) (must_be_given (text_option (codes "user")))) (text_option (codes "caps"))) (flag (codes "json"))

-- the program alone, with `--version` and no command `help`
abbrev pub alone : App
alone = record (new_app (codes "inofs")) {
  top = record (new_app (codes "inofs")).top { disable_help_subcommand = true; has_version = true };
}

-- with the commands that make images, with those too that go over what is in one, and with all
abbrev pub with_makers : App
with_makers = with_subcommand (with_subcommand (with_subcommand alone mkfs.top) format.top) pack.top

abbrev pub with_users : App
with_users = with_subcommand (with_subcommand (with_subcommand with_makers unpack.top) run.top) check.top

abbrev pub command_line : App
command_line = with_subcommand (with_subcommand (with_subcommand (with_subcommand with_users info.top) upgrade.top) fuse.top) access.top

-- ---- what it reads

-- the text says n in decimal digits, perhaps behind a plus, and n is in the range
abbrev pub IsNumberFor : ℕ → ℕ → Option Text → ℕ → Type 0
IsNumberFor least most None n = ⊥
IsNumberFor least most (Some text) n =
    IsNumeral 10 (without_leading_plus text) × (n ≡ digits_value 10 (without_leading_plus text)) × (least ≤ n) × (n ≤ most)

-- the text says n so, or there is no text and n is the usual number
abbrev pub IsNumberOr : ℕ → ℕ → ℕ → Option Text → ℕ → Type 0
IsNumberOr usual least most None n = n ≡ usual
IsNumberOr usual least most (Some text) n = IsNumberFor least most (Some text) n

-- there is a text just where there is a number, and it says it
abbrev pub IsNumberIfAny : ℕ → ℕ → Option Text → Option ℕ → Type 0
IsNumberIfAny least most None n = n ≡ None
IsNumberIfAny least most (Some text) None = ⊥
IsNumberIfAny least most (Some text) (Some n) = IsNumberFor least most (Some text) n

-- the text says a size of so many sectors
abbrev pub IsSizeFor : Option Text → ℕ → Type 0
IsSizeFor None sectors = ⊥
IsSizeFor (Some text) sectors = IsSize text sectors

-- the job of each command, by the values of its arguments
abbrev pub SaysMkfs : List Row → Job → Type 0
SaysMkfs rows (Mkfs image sectors inodes) = (first_of (codes "IMAGE") rows ≡ Some image)
    × IsNumberFor 1024 65536 (one_of (codes "sectors") rows) sectors
    × IsNumberFor 16 4096 (one_of (codes "inodes") rows) inodes
SaysMkfs rows job = ⊥

abbrev pub SaysFormat : List Row → Job → Type 0
SaysFormat rows (Format image sectors inodes) = (first_of (codes "IMAGE") rows ≡ Some image)
    × IsSizeFor (first_of (codes "size") rows) sectors
    × IsNumberOr (usual_inodes sectors) 16 1048576 (one_of (codes "inodes") rows) inodes
SaysFormat rows job = ⊥

abbrev pub SaysPack : List Row → Job → Type 0
SaysPack rows (Pack image from sectors inodes user group) = (first_of (codes "IMAGE") rows ≡ Some image) × (first_of (codes "DIR") rows ≡ Some from)
    × IsSizeFor (first_of (codes "size") rows) sectors
    × IsNumberOr (usual_inodes sectors) 16 1048576 (one_of (codes "inodes") rows) inodes
    × IsNumberIfAny 0 4294967295 (one_of (codes "uid") rows) user
    × IsNumberIfAny 0 4294967295 (one_of (codes "gid") rows) group
SaysPack rows job = ⊥

abbrev pub SaysUnpack : List Row → Job → Type 0
SaysUnpack rows (Unpack image to) = (first_of (codes "IMAGE") rows ≡ Some image) × (first_of (codes "DIR") rows ≡ Some to)
SaysUnpack rows job = ⊥

abbrev pub SaysRun : List Row → Job → Type 0
SaysRun rows (Run image script) = (first_of (codes "IMAGE") rows ≡ Some image) × (first_of (codes "SCRIPT") rows ≡ script)
SaysRun rows job = ⊥

abbrev pub SaysCheck : List Row → Job → Type 0
SaysCheck rows (Check image explain) = (first_of (codes "IMAGE") rows ≡ Some image) × (is_given (codes "explain") rows ≡ explain)
SaysCheck rows job = ⊥

abbrev pub SaysInfo : List Row → Job → Type 0
SaysInfo rows (Info image json) = (first_of (codes "IMAGE") rows ≡ Some image) × (is_given (codes "json") rows ≡ json)
SaysInfo rows job = ⊥

abbrev pub SaysUpgrade : List Row → Job → Type 0
SaysUpgrade rows (Upgrade image) = first_of (codes "IMAGE") rows ≡ Some image
SaysUpgrade rows job = ⊥

abbrev pub SaysFuse : List Row → Job → Type 0
SaysFuse rows (Fuse image denials own_rules commit) = (first_of (codes "IMAGE") rows ≡ Some image)
    × (first_of (codes "denials") rows ≡ denials) × (is_given (codes "own-rules") rows ≡ own_rules)
    × IsNumberOr 0 0 86400 (one_of (codes "commit") rows) commit
SaysFuse rows job = ⊥

-- the text says permissions
abbrev pub ArePermsFor : Option Text → Perms → Type 0
ArePermsFor None perms = ⊥
ArePermsFor (Some text) perms = perms_said text ≡ Some perms

-- the text says a user with groups, and the other one capabilities, if there is one
abbrev pub IsUserFor : Option Text → Option Text → Credential → Type 0
IsUserFor None caps cred = ⊥
IsUserFor (Some text) caps cred = SaysUser text caps cred

abbrev pub SaysAccess : List Row → Job → Type 0
SaysAccess rows (Access image path perms cred json) = (first_of (codes "IMAGE") rows ≡ Some image) × (first_of (codes "PATH") rows ≡ Some path)
    × ArePermsFor (first_of (codes "PERM") rows) perms × IsUserFor (first_of (codes "user") rows) (first_of (codes "caps") rows) cred
    × (is_given (codes "json") rows ≡ json)
SaysAccess rows job = ⊥

-- the job of a command and its values, or of none
abbrev pub SaysJob : Option (Text × List Row) → Job → Type 0
SaysJob named Memory = named ≡ None
SaysJob named (Mkfs image sectors inodes) = (rows : List Row) × (named ≡ Some (codes "mkfs", rows)) × SaysMkfs rows (Mkfs image sectors inodes)
SaysJob named (Format image sectors inodes) =
    (rows : List Row) × (named ≡ Some (codes "format", rows)) × SaysFormat rows (Format image sectors inodes)
SaysJob named (Pack image from sectors inodes user group) =
    (rows : List Row) × (named ≡ Some (codes "pack", rows)) × SaysPack rows (Pack image from sectors inodes user group)
SaysJob named (Unpack image to) = (rows : List Row) × (named ≡ Some (codes "unpack", rows)) × SaysUnpack rows (Unpack image to)
SaysJob named (Run image script) = (rows : List Row) × (named ≡ Some (codes "run", rows)) × SaysRun rows (Run image script)
SaysJob named (Check image explain) = (rows : List Row) × (named ≡ Some (codes "check", rows)) × SaysCheck rows (Check image explain)
SaysJob named (Info image json) = (rows : List Row) × (named ≡ Some (codes "info", rows)) × SaysInfo rows (Info image json)
SaysJob named (Upgrade image) = (rows : List Row) × (named ≡ Some (codes "upgrade", rows)) × SaysUpgrade rows (Upgrade image)
SaysJob named (Fuse image denials own_rules commit) =
    (rows : List Row) × (named ≡ Some (codes "fuse", rows)) × SaysFuse rows (Fuse image denials own_rules commit)
SaysJob named (Access image path perms cred json) =
    (rows : List Row) × (named ≡ Some (codes "access", rows)) × SaysAccess rows (Access image path perms cred json)

-- the job is that of the command that the words name, with its values. The first word is the program's name.
abbrev pub AsksFor : List Text → Job → Type 0
AsksFor words = SaysJob (subcommand_of command_line words)

-- ---- what it refuses

-- the error is a text that was asked for
abbrev pub IsShown : ErrorKind → Type 0
IsShown k = (k ≡ kind.DisplayHelp) ⊎ (k ≡ kind.DisplayVersion)

-- the fault that an error of the parser is
abbrev pub IsSortOf : Error → WordsFault → Type 0
IsSortOf error (Help e) = (e ≡ error) × IsShown (kind_of e)
IsSortOf error (BadWords e) = (e ≡ error) × (IsShown (kind_of e) → ⊥) × (kind_of e ≢ kind.OutOfMemory)
IsSortOf error BadSize = ⊥
IsSortOf error BadPerm = ⊥
IsSortOf error BadUser = ⊥
IsSortOf error BadCaps = ⊥
IsSortOf error OutOfMemory = kind_of error ≡ kind.OutOfMemory

-- the size is given and is none in range; memory may run out at any values
abbrev pub HasBadSize : List Row → WordsFault → Type 0
HasBadSize rows BadSize = (text : Text) × (first_of (codes "size") rows ≡ Some text) × IsNoSize text
HasBadSize rows OutOfMemory = Unit {0}
HasBadSize rows fault = ⊥

-- the permissions, the user or the capabilities are given and are none; memory may run out at any values
abbrev pub HasBadAccess : List Row → WordsFault → Type 0
HasBadAccess rows BadPerm = (text : Text) × (first_of (codes "PERM") rows ≡ Some text) × (perms_said text ≡ None)
HasBadAccess rows BadUser = (text : Text) × (first_of (codes "user") rows ≡ Some text) × SaysNoUser text
HasBadAccess rows BadCaps = (text : Text) × (first_of (codes "caps") rows ≡ Some text) × SaysNoCaps text
HasBadAccess rows OutOfMemory = Unit {0}
HasBadAccess rows fault = ⊥

-- the command is `access`, and one of these is bad
abbrev pub IsBadAccess : Option (Text × List Row) → WordsFault → Type 0
IsBadAccess named fault = (rows : List Row) × (named ≡ Some (codes "access", rows)) × HasBadAccess rows fault

-- the command is `format` or `pack`, and its size is none in range, or it is `access`; memory may run out at any command
abbrev pub HasBadValue : Option (Text × List Row) → WordsFault → Type 0
HasBadValue named BadSize =
    (rows : List Row) × ((named ≡ Some (codes "format", rows)) ⊎ (named ≡ Some (codes "pack", rows))) × HasBadSize rows BadSize
HasBadValue named BadPerm = IsBadAccess named BadPerm
HasBadValue named BadUser = IsBadAccess named BadUser
HasBadValue named BadCaps = IsBadAccess named BadCaps
HasBadValue named OutOfMemory = Unit {0}
HasBadValue named fault = ⊥

-- the definition gives the words an error of this kind; or it gives none, and a value is bad; memory may run out at any words
abbrev pub Refuses : List Text → WordsFault → Type 0
Refuses words (Help e) = IsAmong (kind_of e) (fault_of command_line words) × IsShown (kind_of e)
Refuses words (BadWords e) = IsAmong (kind_of e) (fault_of command_line words) × (IsShown (kind_of e) → ⊥)
Refuses words BadSize = (fault_of command_line words ≡ []) × HasBadValue (subcommand_of command_line words) BadSize
Refuses words BadPerm = (fault_of command_line words ≡ []) × HasBadValue (subcommand_of command_line words) BadPerm
Refuses words BadUser = (fault_of command_line words ≡ []) × HasBadValue (subcommand_of command_line words) BadUser
Refuses words BadCaps = (fault_of command_line words ≡ []) × HasBadValue (subcommand_of command_line words) BadCaps
Refuses words OutOfMemory = Unit {0}

-- done where a text was asked for, else bad words
abbrev pub words_status : WordsFault → Status
words_status (Help e) = statuses.Done
words_status (BadWords e) = statuses.BadWords
words_status BadSize = statuses.BadWords
words_status BadPerm = statuses.BadWords
words_status BadUser = statuses.BadWords
words_status BadCaps = statuses.BadWords
words_status OutOfMemory = statuses.BadWords

-- ---- what is met where words are taken

-- the argument has a value
abbrev pub IsGiven : Text → List Row → Type 0
IsGiven id rows = (text : Text) × (first_of id rows ≡ Some text)

-- the argument has a value that is a number in the range
abbrev pub IsNumberGiven : ℕ → ℕ → Text → List Row → Type 0
IsNumberGiven least most id rows = (n : ℕ) × IsNumberFor least most (one_of id rows) n

-- the argument has no value, or one that is a number in the range
abbrev pub IsNumberIfGiven : ℕ → ℕ → Text → List Row → Type 0
IsNumberIfGiven least most id rows = (text : Text) → one_of id rows ≡ Some text → IsNumberGiven least most id rows

-- the flag's value is true where the words have it, and else false or none
abbrev pub IsFlag : Text → List Row → Type 0
IsFlag id rows = (one_of id rows ≡ Some (bool_text (is_given id rows))) ⊎ ((one_of id rows ≡ None) × (is_given id rows ≡ false))

-- the names of the ten commands
abbrev pub command_names : List Text
command_names =
    codes "mkfs" ∷ codes "format" ∷ codes "pack" ∷ codes "unpack" ∷ codes "run" ∷ codes "check" ∷ codes "info" ∷ codes "upgrade" ∷ codes "fuse"
    ∷ codes "access" ∷ []

-- the command is one of the ten, and has the values that have to be given
pub record IsWhole (name : Text) (rows : List Row) : Type 0 where
  pub known : list_any (λ command. bytes_eq name command) command_names ≡ true
  pub image : IsGiven (codes "IMAGE") rows
  pub mkfs : name ≡ codes "mkfs" → IsNumberGiven 1024 65536 (codes "sectors") rows × IsNumberGiven 16 4096 (codes "inodes") rows
  pub format : name ≡ codes "format" → IsGiven (codes "size") rows × IsNumberIfGiven 16 1048576 (codes "inodes") rows
  pub pack : name ≡ codes "pack" → IsGiven (codes "DIR") rows × IsGiven (codes "size") rows × IsNumberIfGiven 16 1048576 (codes "inodes") rows
      × IsNumberIfGiven 0 4294967295 (codes "uid") rows × IsNumberIfGiven 0 4294967295 (codes "gid") rows
  pub unpack : name ≡ codes "unpack" → IsGiven (codes "DIR") rows
  pub check : name ≡ codes "check" → IsFlag (codes "explain") rows
  pub info : name ≡ codes "info" → IsFlag (codes "json") rows
  pub fuse : name ≡ codes "fuse" → IsFlag (codes "own-rules") rows × IsNumberIfGiven 0 86400 (codes "commit") rows
  pub access : name ≡ codes "access" → IsGiven (codes "PATH") rows × IsGiven (codes "PERM") rows × IsGiven (codes "user") rows
      × IsFlag (codes "json") rows

abbrev pub HasValues : Option (Text × List Row) → Type 0
HasValues None = Unit {0}
HasValues (Some named) = IsWhole named.0 named.1
