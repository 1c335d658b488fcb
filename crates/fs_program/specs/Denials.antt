-- The lines of denials.
--     request_name, name_asked, name_text        what was asked for, and for which name
--     who_text, asked_text, denial_words, denial_line        the line
use Rattle.std.specs.Prelude.{ℕ, ◌%◌, ◌^◌, List, ◌++◌, Option, None, Some, codes}
use Rattle.std.specs.Fmt.{decimal}
use Rattle.fs_cred.specs.declared.refusal.Denial.{Denial}
use Rattle.fs_cred.specs.declared.refusal.Refusal.TheVariants.{Denied}
use Rattle.fs_model.specs.declared.reply.Reply.TheVariants.{Refused}
use Rattle.fs_lines.specs.Texts.{word_text, reply_text}
use Rattle.fuse_protocol.specs.declared.operation.Operation.{Operation}
use Rattle.fuse_protocol.specs.declared.operation.Operation.TheVariants.{Lookup, SetAttr, SymLink, MkNod, MkDir, Unlink, RmDir, Rename, Link, Open, SetXAttr, RemoveXAttr, OpenDir, Access, Create}
use Rattle.fuse_protocol.specs.declared.reply.Time.{Time}
use Rattle.fuse_protocol.specs.declared.request.Request.{Request}

-- as the kernel's header calls it; by the others nothing is denied
abbrev pub request_name : Operation → List ℕ
request_name (Lookup name) = codes "LOOKUP"
request_name (SetAttr changes) = codes "SETATTR"
request_name (SymLink name target) = codes "SYMLINK"
request_name (MkNod name mode umask) = codes "MKNOD"
request_name (MkDir name mode umask) = codes "MKDIR"
request_name (Unlink name) = codes "UNLINK"
request_name (RmDir name) = codes "RMDIR"
request_name (Rename name new_directory new_name flags) = codes "RENAME"
request_name (Link node name) = codes "LINK"
request_name (Open flags) = codes "OPEN"
request_name (SetXAttr name value) = codes "SETXATTR"
request_name (RemoveXAttr name) = codes "REMOVEXATTR"
request_name OpenDir = codes "OPENDIR"
request_name (Access mask) = codes "ACCESS"
request_name (Create name flags mode umask) = codes "CREATE"
request_name _ = codes "OTHER"

-- of two the first
abbrev pub name_asked : Operation → Option (List ℕ)
name_asked (Lookup name) = Some name
name_asked (SymLink name target) = Some name
name_asked (MkNod name mode umask) = Some name
name_asked (MkDir name mode umask) = Some name
name_asked (Unlink name) = Some name
name_asked (RmDir name) = Some name
name_asked (Rename name new_directory new_name flags) = Some name
name_asked (Link node name) = Some name
name_asked (SetXAttr name value) = Some name
name_asked (RemoveXAttr name) = Some name
name_asked (Create name flags mode umask) = Some name
name_asked _ = None

abbrev pub word_or_hyphen : Option (List ℕ) → List ℕ
word_or_hyphen None = codes "-"
word_or_hyphen (Some name) = word_text name

abbrev pub name_text : Operation → List ℕ
name_text operation = word_or_hyphen (name_asked operation)

-- the number of the inode that a node names
abbrev pub inode_number : Request → ℕ
inode_number request = request.node % 2 ^ 32

-- when, to which user and to which process
abbrev pub who_text : Time → Request → List ℕ
who_text now request = decimal now.seconds ++ codes " " ++ decimal request.uid ++ codes " " ++ decimal request.pid ++ codes " "

-- what was asked for, and of which object
abbrev pub asked_text : Request → List ℕ
asked_text request = request_name request.operation ++ codes " " ++ decimal (inode_number request) ++ codes " "

-- the shell's words of it
abbrev pub denial_words : Denial → List ℕ
denial_words denial = reply_text (Refused (Denied denial))

-- and for which name; and the shell's words of it
abbrev pub denial_line : Time → Request → Denial → List ℕ
denial_line now request denial =
    who_text now request
    ++ (asked_text request ++ (name_text request.operation ++ (codes " " ++ (denial_words denial ++ codes "\n"))))
