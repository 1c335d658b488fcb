-- Lines and replies that are computed: a row for each kind of word, of replies, and of faults of lines.
use Rattle.std.specs.Prelude.{◌≡◌, ◌++◌, ℕ, List, pos, negsuc, true, false, [], ◌∷◌, codes, map, Some, None, Ok, Err, refl}
use Rattle.std.specs.Fmt.{digits}
use Rattle.posix_acl.specs.declared.entry.Perms.{Perms}
use Rattle.posix_acl.specs.declared.fault.AclFault.TheVariants.{BadText}
use Rattle.posix_acl.specs.Text.{IsNoText}
use Rattle.bitflags.specs.Sets.{find_row}
use Rattle.fs_cred.specs.declared.errno.Errno.TheVariants.{EACCES}
use Rattle.fs_cred.specs.declared.rule.Rule.TheVariants.{Capability, Other}
use Rattle.fs_cred.specs.Capabilities.{cap_dac_override, cap_dac_read_search, no_caps}
use Rattle.fs_cred.specs.declared.refusal.Need.TheVariants.{Perm}
use Rattle.fs_cred.specs.declared.refusal.Refusal.TheVariants.{Denied}
use Rattle.fs_model.specs.declared.call.AclType.TheVariants.{Access, Default}
use Rattle.fs_model.specs.declared.call.Call.TheVariants as calls
use Rattle.fs_model.specs.declared.call.Flags.{Flags}
use Rattle.fs_model.specs.declared.call.Whence.TheVariants.{Set, Cur, End}
use Rattle.fs_model.specs.declared.event.Event.TheVariants.{Exit, Call, Fsync, Sync}
use Rattle.fs_model.specs.declared.reply.FileType.TheVariants.{Directory}
use Rattle.fs_model.specs.declared.reply.Reply.{Reply}
use Rattle.fs_model.specs.declared.reply.Reply.TheVariants.{Pid, Shown, Granted, Refused, Data, Names}
use Rattle.fs_lines.specs.declared.line.Line.TheVariants.{Blank, Event as Asks}
use Rattle.fs_lines.specs.declared.line.LineFault.{LineFault}
use Rattle.fs_lines.specs.declared.line.LineFault.TheVariants.{BadByte, BadEscape, UnknownCommand, WordCount, BadNumber, BadAcl}
use Rattle.fs_lines.specs.Lines.{lines_of, word_bytes}
use Rattle.fs_lines.specs.Words.{number_of, kept_id_of, offset_of, groups_of, caps_of, perms_in, mode_of, flags_of, whence_of, acl_type_of}
use Rattle.fs_lines.specs.Commands.{Said, plain, with_acl, asked, line_value, words_value, credential_event, LineSays}
use Rattle.fs_lines.specs.Texts.{reply_text, fault_text, caps_text}

-- r, w and x, or `-` instead of each
abbrev rwx : Perms
rwx = record { read = true; write = true; execute = true }

abbrev all_but_reading : Flags
all_but_reading =
    record { read = false; write = true; create = true; excl = true; trunc = true; append = true; nofollow = true; directory = true; opens = refl }

abbrev for_both : Flags
for_both =
    record { read = true; write = true; create = false; excl = false; trunc = false; append = false; nofollow = false; directory = false; opens = refl }

cut : lines_of (codes "ab" ++ 10 ∷ 10 ∷ codes "c") ≡ codes "ab" ∷ [] ∷ codes "c" ∷ []
cut = refl

cut_at_the_end : lines_of (codes "ab" ++ 10 ∷ []) ≡ codes "ab" ∷ []
cut_at_the_end = refl

-- ---- what lines say

-- lines, and what they say
abbrev said : List (List ℕ × Said)
said =
    (codes "spawn 0 0", asked (credential_event 0 0 [] None))
    ∷ (codes " spawn  1000 100 5,6 ", asked (credential_event 1000 100 (5 ∷ 6 ∷ []) None))
    ∷ (codes "spawn 0 0 cap=none", asked (credential_event 0 0 [] (Some no_caps)))
    ∷ (codes "spawn 1000 100 7 cap=chown,dac-read-search", asked (credential_event 1000 100 (7 ∷ []) (Some (record { 0 = 5 }))))
    ∷ (codes "sync", asked Sync)
    ∷ (codes "2 exit", asked (Exit 2))
    ∷ (codes "1 umask 22", asked (Call 1 (calls.Umask 18)))
    ∷ (codes "1 stat /", asked (Call 1 (calls.Stat (codes "/"))))
    ∷ (codes "1 access / rwx", asked (Call 1 (calls.Access (codes "/") rwx)))
    ∷ (codes "1 chmod / 711", asked (Call 1 (calls.Chmod (codes "/") 457)))
    -- the mode is 0666 where it is missing
    ∷ (codes "1 open /a wcxtand", asked (Call 1 (calls.Open (codes "/a") all_but_reading 438)))
    ∷ (codes "1 open /a rw 600", asked (Call 1 (calls.Open (codes "/a") for_both 384)))
    ∷ (codes "1 chown /a - 100", asked (Call 1 (calls.Chown (codes "/a") None (Some 100))))
    ∷ (codes "1 truncate /a 18446744073709551615", asked (Call 1 (calls.Truncate (codes "/a") 18446744073709551615)))
    -- a line reads at most 4,096 bytes
    ∷ (codes "1 read 3 4095", asked (Call 1 (calls.Read 3 4095)))
    ∷ (codes "1 read 3 9999", asked (Call 1 (calls.Read 3 4096)))
    ∷ (codes "1 write 3 a" ++ 92 ∷ codes "00b", asked (Call 1 (calls.Write 3 (97 ∷ 0 ∷ 98 ∷ []))))
    ∷ (codes "1 lseek 3 end -10", asked (Call 1 (calls.Lseek 3 End (negsuc 9))))
    ∷ (codes "1 lseek 3 cur -9223372036854775808", asked (Call 1 (calls.Lseek 3 Cur (negsuc 9223372036854775807))))
    ∷ (codes "1 lseek 3 set -0", asked (Call 1 (calls.Lseek 3 Set (pos 0))))
    ∷ (codes "1 fsync 3", asked (Fsync 1 3))
    ∷ (codes "1 getacl / default", asked (Call 1 (calls.GetAcl (codes "/") Default)))
    ∷ (codes "1 setacl / default none", asked (Call 1 (calls.SetAcl (codes "/") Default None)))
    ∷ (
      codes "1 setacl / access u::rw-,g::r--,o::---",
      with_acl (codes "u::rw-,g::r--,o::---") (λ acl. Asks (Call 1 (calls.SetAcl (codes "/") Access (Some acl)))),
    )
    ∷ (codes "1 mkdir /w 1777", asked (Call 1 (calls.Mkdir (codes "/w") 1023)))
    -- the target of a link comes before its path
    ∷ (codes "1 symlink t /l", asked (Call 1 (calls.Symlink (codes "t") (codes "/l"))))
    ∷ (codes "1 link /w /m", asked (Call 1 (calls.Link (codes "/w") (codes "/m"))))
    ∷ (codes "1 readlink /l", asked (Call 1 (calls.Readlink (codes "/l"))))
    ∷ (92 ∷ codes "31 stat " ++ 34 ∷ 34 ∷ [], asked (Call 1 (calls.Stat [])))
    ∷ (codes "# x", plain Blank)
    ∷ (codes "  ", plain Blank)
    ∷ []

each_is_said : map (λ row. line_value row.0) said ≡ map (λ row. Ok row.1) said
unfolding line_value words_value word_bytes number_of kept_id_of offset_of groups_of caps_of perms_in mode_of flags_of whence_of acl_type_of digits find_row
each_is_said = refl

-- ---- replies

-- replies, and their texts
abbrev told : List (Reply × List ℕ)
told =
    (Pid 2, codes "pid 2")
    ∷ (Shown (record { ino = 1; kind = Directory; mode = 493; links = 1; owner = 0; group = 0; size = 0 }), codes "ino 1 dir 0755 links 1 uid 0 gid 0 size 0")
    ∷ (Granted (Capability cap_dac_override), codes "granted cap:dac-override")
    ∷ (Granted (Capability cap_dac_read_search), codes "granted cap:dac-read-search")
    ∷ (
      Refused (Denied (record { errno = EACCES; walk = 1; step = 0; need = Perm rwx; rule = Other })),
      codes "denied EACCES 13 walk 1 step 0 need perm rwx rule other",
    )
    ∷ (Data (0 ∷ 0 ∷ 0 ∷ codes "a"), codes "data " ++ 92 ∷ codes "00" ++ 92 ∷ codes "00" ++ 92 ∷ codes "00a")
    ∷ (Names ((codes ".", 2) ∷ (codes "..", 1) ∷ (codes "a", 3) ∷ []), codes "list 2:. 1:.. 3:a")
    ∷ []

each_is_told : map (λ row. reply_text row.0) told ≡ map (λ row. row.1) told
unfolding reply_text digits caps_text
each_is_told = refl

-- ---- faults of lines

-- lines, and what is wrong with them
abbrev faults : List (List ℕ × LineFault)
faults =
    (codes "spawn 1 1 cap=root", BadNumber)
    -- their bits have to rise
    ∷ (codes "spawn 1 1 cap=fowner,chown", BadNumber)
    ∷ (codes "1 frobnicate", UnknownCommand)
    -- known, but not behind a pid
    ∷ (codes "1 spawn 0 0", UnknownCommand)
    ∷ (codes "spawn 1", WordCount)
    ∷ (codes "1", WordCount)
    ∷ (97 ∷ 9 ∷ 98 ∷ [], BadByte)
    ∷ (codes "1 stat /" ++ 92 ∷ codes "zz", BadEscape)
    -- the pid is read first
    ∷ (codes "01 stat /", BadNumber)
    ∷ (codes "01 access / 77", BadNumber)
    ∷ (codes "spawn 4294967296 0", BadNumber)
    -- one group too many
    ∷ (codes "spawn 0 0 1,2,3,4,5,6,7,8,9,10,11,12,13,14,15,16,17", BadNumber)
    ∷ (codes "1 sync", UnknownCommand)
    ∷ (codes "sync 1", WordCount)
    ∷ (codes "1 umask 9", BadNumber)
    -- the letters have an order, and stand once; the file is read or written
    ∷ (codes "1 open /a wrc", BadNumber)
    ∷ (codes "1 open /a rcc", BadNumber)
    ∷ (codes "1 open /a c", BadNumber)
    ∷ (codes "1 lseek 0 set 9223372036854775808", BadNumber)
    ∷ (codes "1 lseek 0 set -9223372036854775809", BadNumber)
    ∷ (codes "1 lseek 0 to 1", BadNumber)
    ∷ (codes "1 getacl / both", BadNumber)
    ∷ (codes "1 ftruncate 0 -1", BadNumber)
    -- an escape begins no comment
    ∷ (92 ∷ codes "23 x", UnknownCommand)
    ∷ []

each_is_refused : map (λ row. line_value row.0) faults ≡ map (λ row. Err row.1) faults
unfolding line_value words_value word_bytes number_of kept_id_of offset_of groups_of caps_of perms_in mode_of flags_of whence_of acl_type_of digits find_row
each_is_refused = refl

-- no text of an ACL
no_text : IsNoText (codes "u" ∷ [])
no_text [] is = absurd is
no_text (e ∷ es) is = absurd is.0

no_list : LineSays (codes "1 setacl / access u") (Err BadAcl)
unfolding line_value words_value word_bytes number_of acl_type_of digits
no_list = (BadText, no_text, refl)

unknown_text : fault_text UnknownCommand ≡ codes "fault 4 UnknownCommand"
unfolding digits
unknown_text = refl
