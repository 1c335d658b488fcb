-- How paths are followed, and names made and moved, computed.
use Rattle.std.specs.Prelude.{◌≡◌, ℕ, zero, suc, ◌+◌, List, [], ◌∷◌, ◌++◌, codes, replicate, true}
use Rattle.std.proofs.Common.{refl}
use Rattle.fs_cred.specs.declared.errno.Errno.TheVariants.{EPERM, ENOENT, EBUSY, EEXIST, ENOTDIR, EISDIR, EINVAL, ENAMETOOLONG, ENOTEMPTY, ELOOP}
use Rattle.fs_cred.specs.declared.refusal.Need.TheVariants.{Search}
use Rattle.fs_cred.specs.declared.rule.Rule.TheVariants.{Other}
use Rattle.fs_cred.specs.Verdicts.{verdict}
use Rattle.fs_model.specs.declared.call.Call.TheVariants.{Open, Stat, Lstat, Readdir, Mkdir, Rmdir, Link, Symlink, Readlink, Unlink, Rename, Chdir}
use Rattle.fs_model.specs.declared.reply.Reply.TheVariants.{Done, Pid, Fd, Target, Names}
use Rattle.fs_model.specs.declared.event.Event.{Event}
use Rattle.fs_model.specs.declared.event.Event.TheVariants.{Call as Calls}
use Rattle.fs_model.specs.Trails.{trail_of}
use Rattle.fs_model.specs.Walks.{first_refusal, found_of}
use Rattle.fs_model.specs.Rows.{row_of}
use Rattle.fs_model.specs.Steps.{firm_refusal, other_refusal, after}
use Rattle.fs_model.proofs.Machine.{fresh, replies, then_replies, user, to_read, to_write, denied, failed, shows_file, shows_directory, last_two}

-- behind a directory that may not be searched nothing is told of what is missing
pub unsearchable_directory : then_replies (
    Calls 1 (Mkdir (codes "/a") 0o755) ∷ Calls 1 (Mkdir (codes "/a/b") 0o700) ∷ Calls 2 (Stat (codes "/a/b/c/d")) ∷ Calls 1 (Stat (codes "/a/b/c/d")) ∷ []) ≡
    Done ∷ Done ∷ denied 1 2 Search Other ∷ failed ENOENT ∷ []
unfolding verdict trail_of first_refusal found_of row_of firm_refusal other_refusal after
unsearchable_directory = refl

-- links, each to the one before: l, la, laa ..
abbrev letters : ℕ → List ℕ
letters n = 108 ∷ replicate n 97

abbrev links : ℕ → ℕ → List Event
links zero n = []
links (suc more) n = Calls 2 (Symlink (letters n) (codes "/w/" ++ letters (n + 1))) ∷ links more (n + 1)

-- forty links are followed, and forty-one are not
pub forty_links : last_two (then_replies (
    Calls 2 (Open (codes "/w/l") to_write 0o644) ∷ links 41 0
    ++ Calls 2 (Stat (codes "/w/" ++ letters 40)) ∷ Calls 2 (Stat (codes "/w/" ++ letters 41)) ∷ [])) ≡
    shows_file 3 0o644 1 1000 100 0 ∷ failed ELOOP ∷ []
unfolding verdict trail_of first_refusal found_of row_of firm_refusal other_refusal after
forty_links = refl

pub dots_and_slashes : then_replies (
    Calls 1 (Stat (codes "/../..//w/.")) ∷ Calls 2 (Open (codes "/w/x") to_write 0o644) ∷ Calls 2 (Stat (codes "/w/x/"))
    ∷ Calls 2 (Stat []) ∷ Calls 2 (Open (codes "/w/y/") to_write 0o644) ∷ []) ≡
    shows_directory 2 0o1777 0 0 0 ∷ Fd 0 ∷ failed ENOTDIR ∷ failed ENOENT ∷ failed EISDIR ∷ []
unfolding verdict trail_of first_refusal found_of row_of firm_refusal other_refusal after
dots_and_slashes = refl

-- a name has at most 120 bytes
pub long_names : then_replies (
    Calls 2 (Mkdir (codes "/w/" ++ replicate 121 97) 0o755) ∷ Calls 2 (Mkdir (codes "/w/" ++ replicate 120 97) 0o755) ∷ []) ≡
    failed ENAMETOOLONG ∷ Done ∷ []
unfolding verdict trail_of first_refusal found_of row_of firm_refusal other_refusal after
long_names = refl

-- a final link: with O_CREAT and O_EXCL it is there, with O_NOFOLLOW it is refused, and else what it names is made
pub exclusive_creation : replies fresh (
    user 0 0 [] ∷ Calls 1 (Symlink (codes "t") (codes "/l")) ∷ Calls 1 (Open (codes "/l") (record to_read { create = true; excl = true }) 0o666)
    ∷ Calls 1 (Open (codes "/l") (record to_read { nofollow = true }) 0) ∷ Calls 1 (Readlink (codes "/l")) ∷ Calls 1 (Open (codes "/l") to_write 0o644)
    ∷ Calls 1 (Lstat (codes "/t")) ∷ Calls 1 (Unlink (codes "/")) ∷ Calls 1 (Symlink [] (codes "/m")) ∷ Calls 1 (Link (codes "/") (codes "/m")) ∷ []) ≡
    Pid 1 ∷ Done ∷ failed EEXIST ∷ failed ELOOP ∷ Target (codes "t") ∷ Fd 0
    ∷ shows_file 3 0o644 1 0 0 0 ∷ failed EISDIR ∷ failed ENOENT ∷ failed EPERM ∷ []
unfolding verdict trail_of first_refusal found_of row_of firm_refusal other_refusal after
exclusive_creation = refl

-- two names of one file are renamed to one another; a directory doesn't go below itself, nor over one that has names or is in use
pub rename_and_link : then_replies (
    Calls 2 (Open (codes "/w/a") to_write 0o644) ∷ Calls 2 (Link (codes "/w/a") (codes "/w/b")) ∷ Calls 2 (Rename (codes "/w/a") (codes "/w/b"))
    ∷ Calls 2 (Open (codes "/w") to_read 0) ∷ Calls 2 (Readdir 1) ∷ Calls 2 (Mkdir (codes "/w/p") 0o755) ∷ Calls 2 (Mkdir (codes "/w/p/q") 0o755)
    ∷ Calls 2 (Rename (codes "/w/p") (codes "/w/p/q/r")) ∷ Calls 2 (Mkdir (codes "/w/z") 0o755) ∷ Calls 2 (Rename (codes "/w/z") (codes "/w/p"))
    ∷ Calls 2 (Mkdir (codes "/w/e") 0o755) ∷ Calls 3 (Chdir (codes "/w/e")) ∷ Calls 2 (Rename (codes "/w/z") (codes "/w/e"))
    ∷ Calls 2 (Rmdir (codes "/w/e")) ∷ Calls 2 (Rmdir (codes "/w/z")) ∷ []) ≡
    Fd 0 ∷ Done ∷ Done ∷ Fd 1 ∷ Names ((codes ".", 2) ∷ (codes "..", 1) ∷ (codes "a", 3) ∷ (codes "b", 3) ∷ []) ∷ Done ∷ Done
    ∷ failed EINVAL ∷ Done ∷ failed ENOTEMPTY ∷ Done ∷ Done ∷ failed EBUSY ∷ failed EBUSY ∷ Done ∷ []
unfolding verdict trail_of first_refusal found_of row_of firm_refusal other_refusal after
rename_and_link = refl
