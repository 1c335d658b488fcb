-- The sentence that tells people who may do what, and why.
--     keeper_text        whose word a rule is
--     needed_text, place_text        what was needed, and of what
--     failure_text        why a path can't be walked, or leads nowhere
--     sentence        the line
--     told_text        it, or the object for programs
use Rattle.std.specs.Prelude.{ℕ, Bool, List, ◌++◌, codes, Option, None, Some, if◌then◌else◌}
use Rattle.std.specs.Fmt.{decimal}
use Rattle.posix_acl.specs.Text.{perms_text}
use Rattle.fs_cred.specs.Errnos.{errno_name}
use Rattle.fs_cred.specs.declared.errno.Errno.{Errno}
use Rattle.fs_cred.specs.declared.errno.Errno.TheVariants.{ENOENT, EINVAL, ENOTDIR, ENAMETOOLONG, ELOOP}
use Rattle.fs_cred.specs.declared.refusal.Denial.{Denial}
use Rattle.fs_cred.specs.declared.refusal.Need.{Need}
use Rattle.fs_cred.specs.declared.refusal.Need.TheVariants.{Perm}
use Rattle.fs_cred.specs.declared.rule.Rule.{Rule}
use Rattle.fs_cred.specs.declared.rule.Rule.TheVariants.{Owner, NamedUser, OwningGroup, NamedGroup, Mask, Other, NoExecuteBit}
use Rattle.fs_lines.specs.Texts.{word_text, need_text, rule_text}
use Rattle.fs_access.specs.Asking.{Query}
use Rattle.fs_access.specs.Components.{prefix_of}
use Rattle.fs_access.specs.Objects.{object}
use Rattle.fs_access.specs.declared.question.Answer.{Answer}
use Rattle.fs_access.specs.declared.question.Answer.TheVariants.{Granted, Denied, Failed}

-- an entry of the object, or another rule by the shell's word
abbrev pub keeper_text : Rule → List ℕ
keeper_text Owner = codes "its owner's entry"
keeper_text (NamedUser id) = codes "its entry for user " ++ decimal id
keeper_text OwningGroup = codes "its owning group's entry"
keeper_text (NamedGroup id) = codes "its entry for group " ++ decimal id
keeper_text Mask = codes "its mask"
keeper_text Other = codes "its entry for others"
keeper_text NoExecuteBit = codes "a file without execute bits"
keeper_text rule = codes "the rule " ++ rule_text rule

-- permissions by their letters, or the shell's word
abbrev pub needed_text : Need → List ℕ
needed_text (Perm want) = perms_text want
needed_text need = need_text need

-- the component by its path; where the walk went through a link, that, and how far the walk was then
abbrev pub place_text : Query → ℕ → Option ℕ → List ℕ
place_text q step None = word_text (prefix_of q.path step)
place_text q step (Some link) =
    codes "what the symbolic link " ++ (word_text (prefix_of q.path link) ++ (codes " leads to, " ++ (decimal step ++ codes " lookups from the root,")))

abbrev pub failure_text : Errno → List ℕ
failure_text ENOENT = codes " isn't there"
failure_text EINVAL = codes " has a zero byte"
failure_text ENOTDIR = codes " asks for a directory where none is"
failure_text ENAMETOOLONG = codes " is too long, or a name in it is"
failure_text ELOOP = codes " leads through more than 40 symbolic links"
failure_text errno = codes " can't be walked: " ++ errno_name errno

abbrev pub granted_text : Query → Rule → List ℕ
granted_text q rule = codes "granted: " ++ (perms_text q.perms ++ (codes " on " ++ (word_text q.path ++ (codes ", by " ++ (keeper_text rule ++ codes "\n")))))

abbrev pub denied_text : Query → Denial → Option ℕ → List ℕ
denied_text q d link =
    codes "denied: "
    ++ (place_text q d.step link ++ (codes " needs " ++ (needed_text d.need ++ (codes ", and " ++ (keeper_text d.rule ++ codes " doesn't grant it\n")))))

abbrev pub failed_text : Query → Errno → List ℕ
failed_text q errno = codes "denied: " ++ (word_text q.path ++ (failure_text errno ++ codes "\n"))

abbrev pub sentence : Query → Answer → List ℕ
sentence q (Granted rule) = granted_text q rule
sentence q (Denied denial link) = denied_text q denial link
sentence q (Failed errno) = failed_text q errno

abbrev pub told_text : Bool → Query → Answer → List ℕ
told_text json q answer = if json then object q answer else sentence q answer
