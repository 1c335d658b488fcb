-- Calls on what a path leads to, and on a process itself: POSIX.1-2017, stat(), lstat(), access(), truncate(), chmod(),
-- chown(), chdir() and umask(); acl_get_file(3) and acl_set_file(3).
--     stat_row, lstat_row, access_row, truncate_row, chmod_row, chown_row, get_acl_row, set_acl_row        each call
--     chdir_row, umask_row        and these
use Rattle.std.specs.Prelude.{ℕ, ◌/◌, ◌%◌, ◌==◌, nat_lt, Bool, true, false, not, ◌&&◌, ◌||◌, List, [], ◌∷◌, Option, None, Some, is_some, unwrap_or}
use Rattle.posix_acl.specs.declared.entry.Perms.{Perms}
use Rattle.posix_acl.specs.AccessList.{AccessList, with_mode_bits, is_extended}
use Rattle.fs_cred.specs.declared.errno.Errno.TheVariants.{ENOTDIR, EISDIR, EINVAL, EFBIG}
use Rattle.fs_cred.specs.declared.refusal.Need.TheVariants.{Own, Chown, Chgrp}
use Rattle.fs_cred.specs.declared.node.Node.{Node as AccessNode}
use Rattle.fs_cred.specs.Credentials.{Credential}
use Rattle.fs_cred.specs.Verdicts.{verdict}
use Rattle.fs_cred.specs.Ownership.{owns_or_may_chown, may_chown, may_chgrp, keeps_set_group_id}
use Rattle.fs_model.specs.declared.call.AclType.{AclType}
use Rattle.fs_model.specs.declared.call.AclType.TheVariants.{Access, Default}
use Rattle.fs_model.specs.declared.reply.Reply.{Reply}
use Rattle.fs_model.specs.declared.reply.Reply.TheVariants.{Done, Shown, Granted, Acl, Mask}
use Rattle.fs_model.specs.Nodes.{Node, Body, File, Dir, Link, is_directory, acl_in, default_in, with_acl, with_default, accessed}
use Rattle.fs_model.specs.declared.touch.Touch.TheVariants.{Changed, Modified}
use Rattle.fs_model.specs.Demands.{Demand, refuse, only_if, perms, allowed_by, search_on}
use Rattle.fs_model.specs.declared.walk.Form.TheVariants.{Follow, NoFollow}
use Rattle.fs_model.specs.Scenes.{Scene, Effect, Row, found_ino, node_found, body_found, permission_at_end, own_at_end, must_be_there, no_blocks, check_of_mode, nothing_asked, answers, with_process, rewrites, none_early, by_path}
use Rattle.fs_model.specs.DescriptorCalls.{shown, resized_node}
use Rattle.fs_layout.specs.declared.inode.TheConstants.{S_ISGID, S_ISVTX}

-- ---- stat and lstat

abbrev pub stat_demands : Scene → List Demand
stat_demands s = must_be_there s.first ∷ []

abbrev pub stat_effect : Scene → ℕ → Effect
stat_effect s new = answers s (Shown (shown s.state.tree (found_ino s.first)))

abbrev pub stat_row : List ℕ → Row
stat_row path = by_path [] Follow path stat_demands stat_effect

abbrev pub lstat_row : List ℕ → Row
lstat_row path = by_path [] NoFollow path stat_demands stat_effect

-- ---- access: by the ids of the process, and answers the rule that grants; no permission at all may be asked for

abbrev pub access_demands : Perms → Scene → List Demand
access_demands want s = must_be_there s.first ∷ permission_at_end s s.first 1 want ∷ []

abbrev pub granted_by : Credential → Perms → Option AccessNode → Reply
granted_by cred want None = Done
granted_by cred want (Some node) = Granted (verdict cred node want).rule

abbrev pub access_effect : Perms → Scene → ℕ → Effect
access_effect want s new = answers s (granted_by s.process.cred want (accessed (node_found s s.first)))

abbrev pub access_row : List ℕ → Perms → Row
access_row path want = by_path [] Follow path (access_demands want) (access_effect want)

-- ---- truncate

abbrev pub truncate_demands : ℕ → Scene → List Demand
truncate_demands size s =
    must_be_there s.first
    ∷ refuse EISDIR (is_directory (body_found s s.first))
    ∷ permission_at_end s s.first 1 (perms false true false)
    ∷ refuse EFBIG (nat_lt s.state.room.file_limit size)
    ∷ []

abbrev pub truncate_effect : ℕ → Scene → ℕ → Effect
truncate_effect size s new = rewrites s Modified (found_ino s.first) (resized_node size)

abbrev pub truncate_row : List ℕ → ℕ → Row
truncate_row path size = by_path [] Follow path (truncate_demands size) (truncate_effect size)

-- ---- chmod: who may not set S_ISGID of a directory is told nothing of it

abbrev pub chmod_demands : Scene → List Demand
chmod_demands s = must_be_there s.first ∷ own_at_end s ∷ []

abbrev pub with_mode : Credential → ℕ → ℕ → Body → Body
with_mode cred group mode (File a bytes) = File (with_mode_bits a mode) bytes
with_mode cred group mode (Dir a d) =
    Dir (with_mode_bits a mode) (record d {
      sticky = mode / S_ISVTX % 2 == 1;
      set_group_id = mode / S_ISGID % 2 == 1 && keeps_set_group_id cred group;
    })
with_mode cred group mode (Link target) = Link target

abbrev pub moded : Credential → ℕ → Node → Node
moded cred mode node = record node { body = with_mode cred node.group mode node.body }

abbrev pub chmod_effect : ℕ → Scene → ℕ → Effect
chmod_effect mode s new = rewrites s Changed (found_ino s.first) (moded s.process.cred mode)

abbrev pub chmod_row : List ℕ → ℕ → Row
chmod_row path mode = by_path (check_of_mode mode ∷ []) Follow path chmod_demands (chmod_effect mode)

-- ---- chown: an owner or group that isn't given stays

abbrev pub chown_demands : Option ℕ → Option ℕ → Scene → List Demand
chown_demands owner group s =
    let node = node_found s s.first in
    must_be_there s.first
    ∷ allowed_by 1 s.first.step Own (owns_or_may_chown s.process.cred node.owner)
    ∷ allowed_by 1 s.first.step Chown (may_chown s.process.cred node.owner (unwrap_or owner node.owner))
    ∷ allowed_by 1 s.first.step Chgrp (may_chgrp s.process.cred node.group (unwrap_or group node.group))
    ∷ []

abbrev pub owned : Option ℕ → Option ℕ → Node → Node
owned owner group node = record node { owner = unwrap_or owner node.owner; group = unwrap_or group node.group }

abbrev pub chown_effect : Option ℕ → Option ℕ → Scene → ℕ → Effect
chown_effect owner group s new = rewrites s Changed (found_ino s.first) (owned owner group)

abbrev pub chown_row : List ℕ → Option ℕ → Option ℕ → Row
chown_row path owner group = by_path [] Follow path (chown_demands owner group) (chown_effect owner group)

-- ---- get_acl and set_acl: an access ACL can't be removed, and a default one is a directory's

abbrev pub acl_shown : AclType → Body → Option AccessList
acl_shown Access b = acl_in b
acl_shown Default b = default_in b

abbrev pub get_acl_effect : AclType → Scene → ℕ → Effect
get_acl_effect which s new = answers s (Acl (acl_shown which (body_found s s.first)))

abbrev pub get_acl_row : List ℕ → AclType → Row
get_acl_row path which = by_path [] Follow path stat_demands (get_acl_effect which)

abbrev pub is_default : AclType → Bool
is_default Access = false
is_default Default = true

-- the ACL that is given needs a sector
abbrev pub needs_sector : AclType → Option AccessList → Bool
needs_sector which None = false
needs_sector which (Some acl) = is_default which || is_extended acl

abbrev pub set_acl_arguments : AclType → Option AccessList → List Demand
set_acl_arguments which acl = refuse EINVAL (not (is_default which) && not (is_some acl)) ∷ []

abbrev pub set_acl_demands : AclType → Option AccessList → Scene → List Demand
set_acl_demands which acl s =
    must_be_there s.first
    ∷ own_at_end s
    ∷ refuse ENOTDIR (is_default which && not (is_directory (body_found s s.first)))
    ∷ only_if (needs_sector which acl) (no_blocks s ∷ [])

abbrev pub with_set_acl : AclType → Option AccessList → Body → Body
with_set_acl Default acl b = with_default acl b
with_set_acl Access None b = b
with_set_acl Access (Some acl) b = with_acl acl b

abbrev pub set_acl_effect : AclType → Option AccessList → Scene → ℕ → Effect
set_acl_effect which acl s new = rewrites s Changed (found_ino s.first) (λ node. record node { body = with_set_acl which acl node.body })

abbrev pub set_acl_row : List ℕ → AclType → Option AccessList → Row
set_acl_row path which acl =
    by_path (set_acl_arguments which acl) Follow path (set_acl_demands which acl) (set_acl_effect which acl)

-- ---- chdir

abbrev pub chdir_demands : Scene → List Demand
chdir_demands s =
    must_be_there s.first
    ∷ refuse ENOTDIR (not (is_directory (body_found s s.first)))
    ∷ search_on s.process.cred s.state.tree (found_ino s.first) 1 s.first.step
    ∷ []

abbrev pub chdir_effect : Scene → ℕ → Effect
chdir_effect s new = with_process (record s.process { cwd = found_ino s.first }) Done

abbrev pub chdir_row : List ℕ → Row
chdir_row path = by_path [] Follow path chdir_demands chdir_effect

-- ---- umask: takes 0777 of the mask

abbrev pub umask_effect : ℕ → Scene → ℕ → Effect
umask_effect mask s new = with_process (record s.process { umask = mask % 512 }) (Mask s.process.umask)

abbrev pub umask_row : ℕ → Row
umask_row mask = record {
  arguments = [];
  walks = [];
  early = none_early;
  demands = nothing_asked;
  effect = umask_effect mask;
}
