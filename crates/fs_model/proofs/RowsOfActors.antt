-- Calls by someone who is no process, from objects that are given, computed.
use Rattle.std.specs.Prelude.{◌≡◌, ℕ, [], ◌∷◌, ◌++◌, codes, None, Some}
use Rattle.std.proofs.Common.{refl}
use Rattle.posix_acl.specs.Entries.{perms_of}
use Rattle.fs_cred.specs.declared.errno.Errno.TheVariants.{ENOENT, EPERM, EBADF, EBUSY, EEXIST, ENOTDIR, EINVAL, ELOOP}
use Rattle.fs_cred.specs.declared.refusal.Need.TheVariants.{Search, Perm, Own}
use Rattle.fs_cred.specs.declared.rule.Rule.TheVariants.{Owner, Other, NotOwner}
use Rattle.fs_cred.specs.Credentials.{usual_credential}
use Rattle.fs_cred.specs.Verdicts.{verdict}
use Rattle.fs_model.specs.declared.call.Call.{Call}
use Rattle.fs_model.specs.declared.call.Call.TheVariants.{Close, Chdir, Stat, Chmod, Chown, Mkdir, Link, Symlink, Readlink, Unlink, Rename}
use Rattle.fs_model.specs.declared.reply.Reply.TheVariants.{Done, Target}
use Rattle.fs_model.specs.declared.event.Event.{Event}
use Rattle.fs_model.specs.declared.event.Event.TheVariants.{Call as Calls, CallAt}
use Rattle.fs_model.specs.Trails.{trail_of}
use Rattle.fs_model.specs.Walks.{first_refusal, found_of}
use Rattle.fs_model.specs.Rows.{row_of}
use Rattle.fs_model.specs.Steps.{firm_refusal, other_refusal, after}
use Rattle.fs_model.proofs.Machine.{two_directories, they_come, then_replies, denied, failed, shows_file}

-- user, group, and where the first path and the second start
abbrev pub at : ℕ → ℕ → ℕ → ℕ → Call → Event
at uid gid start second call = CallAt (record { cred = usual_credential uid gid []; umask = 0; start = start; second_start = second }) call

-- A file's owner gives it a mode below a directory that is closed to it, by the file itself; by the directory it doesn't. Another user
-- is denied after no lookup. First comes what is asked of the call, then whether both starts are there; an actor has no
-- descriptor, and goes nowhere.
pub chmod_of_an_object : then_replies (two_directories ++
    Calls 2 (Chmod (codes "/w/a") 0o000) ∷ at 1000 100 5 5 (Chmod [] 0o640) ∷ at 1000 100 5 5 (Stat []) ∷ at 1001 101 5 5 (Chmod [] 0o666)
    ∷ at 1000 100 3 3 (Chmod (codes "f") 0o600) ∷ at 1000 100 5 5 (Chmod (codes "f") 0o600)
    ∷ at 1000 100 60 5 (Chmod [] 0o10000) ∷ at 1000 100 60 5 (Chmod [] 0o600) ∷ at 1000 100 5 60 (Chmod [] 0o600)
    ∷ at 1000 100 5 5 (Close 0) ∷ at 1000 100 5 5 (Chdir []) ∷ []) ≡
    they_come
    ++ Done ∷ Done ∷ shows_file 5 0o640 1 1000 100 0 ∷ denied 1 0 Own NotOwner
    ∷ denied 1 0 Search Owner ∷ failed ENOTDIR
    ∷ failed EINVAL ∷ failed ENOENT ∷ failed ENOENT
    ∷ failed EBADF ∷ failed EBADF ∷ []
unfolding verdict trail_of first_refusal found_of row_of firm_refusal other_refusal after
chmod_of_an_object = refl

-- What a link leads to isn't reached by it, and its owner changes. A file without a name gets a mode and is shown, and gets no name.
pub links_and_nameless_files : then_replies (two_directories ++
    Calls 2 (Symlink (codes "f") (codes "/w/a/l")) ∷ at 1000 100 6 6 (Chmod [] 0o600) ∷ at 1000 100 6 6 (Readlink [])
    ∷ at 0 0 6 6 (Chown [] (Some 1001) None)
    ∷ Calls 2 (Unlink (codes "/w/a/f")) ∷ at 1000 100 5 5 (Chmod [] 0o600) ∷ at 1000 100 5 5 (Stat [])
    ∷ at 1000 100 5 4 (Link [] (codes "again")) ∷ at 1000 100 4 4 (Stat (codes "again")) ∷ []) ≡
    they_come
    ++ Done ∷ failed ELOOP ∷ Target (codes "f")
    ∷ Done
    ∷ Done ∷ Done ∷ shows_file 5 0o600 0 1000 100 0
    ∷ failed ENOENT ∷ failed ENOENT ∷ []
unfolding verdict trail_of first_refusal found_of row_of firm_refusal other_refusal after
links_and_nameless_files = refl

-- from directory to directory: each is asked before any lookup
pub rename_between_directories : then_replies (two_directories ++
    at 1001 101 3 4 (Rename (codes "f") (codes "g")) ∷ at 1000 100 3 4 (Rename (codes "f") (codes "g")) ∷ at 1000 100 4 4 (Stat (codes "g"))
    ∷ at 1000 100 3 3 (Stat (codes "f")) ∷ at 1000 100 3 4 (Rename [] (codes "g"))
    ∷ Calls 2 (Mkdir (codes "/w/a/d") 0o755) ∷ Calls 2 (Chmod (codes "/w/b") 0o555) ∷ at 1000 100 3 4 (Rename (codes "d") (codes "d")) ∷ []) ≡
    they_come
    ++ denied 1 0 (Perm (perms_of 3)) Other ∷ Done ∷ shows_file 5 0o644 1 1000 100 0
    ∷ failed ENOENT ∷ failed EBUSY
    ∷ Done ∷ Done ∷ denied 2 0 (Perm (perms_of 3)) Owner ∷ []
unfolding verdict trail_of first_refusal found_of row_of firm_refusal other_refusal after
rename_between_directories = refl

-- an object gets another name; a directory gets none
pub link_of_an_object : then_replies (two_directories ++
    at 1001 101 5 4 (Link [] (codes "h")) ∷ at 1000 100 5 4 (Link [] (codes "h")) ∷ at 1000 100 4 4 (Stat (codes "h"))
    ∷ at 1000 100 5 4 (Link [] (codes "h")) ∷ at 1000 100 5 4 (Link [] []) ∷ at 1000 100 3 4 (Link [] (codes "d")) ∷ []) ≡
    they_come
    ++ denied 2 0 (Perm (perms_of 3)) Other ∷ Done ∷ shows_file 5 0o644 2 1000 100 0
    ∷ failed EEXIST ∷ failed EEXIST ∷ failed EPERM ∷ []
unfolding verdict trail_of first_refusal found_of row_of firm_refusal other_refusal after
link_of_an_object = refl
