-- The JSON object that tells programs who may do what, and why.
--     quoted        bytes as a string, as RFC 8259 asks
--     user_text        a user, its group and its further groups, as the words have them
--     object        the line
use Rattle.std.specs.Prelude.{ℕ, ◌==◌, ◌/◌, ◌%◌, nat_lt, ◌||◌, false, List, [], ◌∷◌, ◌++◌, codes, Option, None, Some, if◌then◌else◌}
use Rattle.std.specs.List.{flat_map}
use Rattle.std.specs.Fmt.{decimal, digit_glyph}
use Rattle.posix_acl.specs.Text.{perms_text}
use Rattle.fs_cred.specs.Credentials.{Credential}
use Rattle.fs_cred.specs.Errnos.{errno_name, errno_number}
use Rattle.fs_cred.specs.declared.errno.Errno.{Errno}
use Rattle.fs_cred.specs.declared.refusal.Denial.{Denial}
use Rattle.fs_cred.specs.declared.rule.Rule.{Rule}
use Rattle.fs_lines.specs.Texts.{need_text, rule_text}
use Rattle.fs_access.specs.Asking.{Query}
use Rattle.fs_access.specs.Components.{prefix_of}
use Rattle.fs_access.specs.declared.question.Answer.{Answer}
use Rattle.fs_access.specs.declared.question.Answer.TheVariants.{Granted, Denied, Failed}

-- Quotation marks and backslashes stand behind a backslash; control characters are written by their numbers; others stand as they are.
abbrev pub quoted_byte : ℕ → List ℕ
quoted_byte b =
    if b == 34 || b == 92 then 92 ∷ b ∷ []
    else (if nat_lt b 32 then codes "\\u00" ++ (digit_glyph false (b / 16) ∷ digit_glyph false (b % 16) ∷ []) else b ∷ [])

abbrev pub quoted : List ℕ → List ℕ
quoted bytes = codes "\"" ++ flat_map quoted_byte bytes ++ codes "\""

abbrev pub groups_text : List ℕ → List ℕ
groups_text groups = flat_map (λ group. codes "," ++ decimal group) groups

abbrev pub user_text : Credential → List ℕ
user_text cred = decimal cred.uid ++ codes ":" ++ decimal cred.gid ++ groups_text cred.groups

-- what was asked
abbrev pub asked_members : Query → List ℕ
asked_members q =
    codes "{\"path\":" ++ quoted q.path ++ (codes ",\"perm\":\"" ++ perms_text q.perms ++ codes "\",\"user\":\"") ++ user_text q.cred ++ codes "\""

abbrev pub granted_members : Rule → List ℕ
granted_members rule = codes ",\"granted\":true,\"rule\":\"" ++ (rule_text rule ++ codes "\"}\n")

abbrev pub error_members : Errno → List ℕ
error_members errno =
    codes ",\"granted\":false,\"error\":\"" ++ (errno_name errno ++ (codes "\",\"errno\":" ++ decimal (errno_number errno)))

abbrev pub reason_members : Denial → List ℕ
reason_members d =
    codes ",\"step\":" ++ (decimal d.step ++ (codes ",\"need\":\"" ++ (need_text d.need ++ (codes "\",\"rule\":\"" ++ (rule_text d.rule ++ codes "\"")))))

-- the component that refused; where the walk went through a symbolic link, that
abbrev pub component_members : Query → ℕ → Option ℕ → List ℕ
component_members q step None = codes ",\"component\":" ++ quoted (prefix_of q.path step)
component_members q step (Some link) = codes ",\"link\":" ++ quoted (prefix_of q.path link)

abbrev pub failure_members : Errno → List ℕ
failure_members errno = error_members errno ++ codes "}\n"

abbrev pub denial_members : Query → Denial → Option ℕ → List ℕ
denial_members q d link = error_members d.errno ++ reason_members d ++ component_members q d.step link ++ codes "}\n"

abbrev pub outcome_members : Query → Answer → List ℕ
outcome_members q (Granted rule) = granted_members rule
outcome_members q (Denied d link) = denial_members q d link
outcome_members q (Failed errno) = failure_members errno

abbrev pub object : Query → Answer → List ℕ
object q answer = asked_members q ++ outcome_members q answer
