-- What the laws over all calls need of each: the one place in proofs that names every call.
--     IsLawful        what they need
--     each_call        each call's case
use Rattle.std.specs.Prelude.{◌≡◌, ℕ, ◌+◌, nat_le, min, Bool, true, false, not, ◌&&◌, cond, List, [], ◌∷◌, Option, None, Some, take, if◌then◌else◌, is_some, length, ◌⊎◌, unwrap_or}
use Rattle.std.proofs.Common.{refl, ap, sym, ◌∙◌, inl, inr}
use Rattle.posix_acl.specs.declared.entry.Perms.{Perms}
use Rattle.fs_cred.specs.declared.errno.Errno.TheVariants.{EPERM, ENOENT, EBADF, EBUSY, ENOTDIR, EISDIR, EINVAL, EFBIG, ENOSPC, ENAMETOOLONG, ENOTEMPTY}
use Rattle.fs_cred.specs.declared.node.Node.{Node as AccessNode}
use Rattle.fs_cred.specs.declared.refusal.Need.TheVariants.{Own, Chown as ChownNeed, Chgrp}
use Rattle.fs_cred.specs.Credentials.{Credential}
use Rattle.fs_model.specs.declared.walk.Form.{Form}
use Rattle.fs_model.specs.declared.walk.Form.TheVariants.{Follow, NoFollow, Parent}
use Rattle.fs_model.specs.declared.call.Flags.{Flags}
use Rattle.fs_model.specs.declared.call.Call.{Call}
use Rattle.fs_model.specs.declared.call.Call.TheVariants.{Open, Read, Write, Lseek, Close, Fstat, Stat, Lstat, Access, Truncate, Ftruncate, Chmod, Chown, GetAcl, SetAcl, Readdir, Mkdir, Rmdir, Link as LinkCall, Symlink, Readlink, Unlink, Rename, Chdir, Umask}
use Rattle.fs_model.specs.Nodes.{Node, with_bytes}
use Rattle.fs_model.specs.Processes.{the_descriptor, with_offset, least_unused}
use Rattle.fs_model.specs.Demands.{refuse, perms}
use Rattle.fs_model.specs.Parts.{is_empty}
use Rattle.fs_model.specs.Scenes.{Scene, Effect, found_ino, no_blocks, check_of_mode, is_bad, is_bad_to_read, is_bad_to_write, nothing_asked, answers, node_open, node_found, body_found, dir_node}
use Rattle.fs_model.specs.OpenCall.{open_form, open_process}
use Rattle.fs_model.specs.DescriptorCalls.{read_demands, read_effect, write_offset, no_blocks_for, write_demands, write_effect, lseek_demands, lseek_effect, close_effect, fstat_effect, ftruncate_demands, ftruncate_effect, readdir_demands, readdir_effect, write_count, written}
use Rattle.fs_model.specs.AttributeCalls.{stat_demands, stat_effect, access_demands, access_effect, truncate_demands, truncate_effect, chmod_demands, chmod_effect, chown_demands, chown_effect, get_acl_effect, needs_sector, set_acl_arguments, set_acl_demands, set_acl_effect, chdir_demands, chdir_effect, granted_by}
use Rattle.fs_model.specs.NameCalls.{mkdir_demands, mkdir_effect, rmdir_demands, takes_name, link_demands, link_effect, symlink_arguments, symlink_demands, symlink_effect, readlink_demands, readlink_effect, unlink_demands}
use Rattle.fs_model.specs.RenameCall.{rename_demands, rename_effect}
use Rattle.fs_model.specs.Limits.{move_limit}
use Rattle.fs_model.specs.Rows.{row_of}
use Rattle.fs_model.specs.Steps.{HasNewNumber}
use Rattle.fs_model.specs.declared.reply.Reply.TheVariants.{Wrote, Fd}
use Rattle.fs_model.specs.declared.touch.Touch.TheVariants.{Modified}
use Rattle.fs_model.specs.TreeChanges.{Rewrite, Same, Make}
use Rattle.fs_model.specs.Stops.{is_io_error}
use Rattle.fs_model.specs.Births.{born_file, born_directory, born_link}
use Rattle.fs_model.specs.Ranges.{IsCall}
use Rattle.fs_model.proofs.StepsFit.{IsScene, IsCaller}
use Rattle.fs_model.proofs.StepsFound.{IsWalked, IsNameAt}
use Rattle.fs_model.proofs.StepsOfDescriptors.{read_fits, write_fits, lseek_fits, close_fits, ftruncate_fits}
use Rattle.fs_model.proofs.StepsOfMaking.{is_new_if, mkdir_fits, symlink_fits, target_is, link_fits}
use Rattle.fs_model.proofs.StepsOfPaths.{truncate_fits, chmod_fits, chown_fits, set_acl_fits, chdir_fits, umask_fits}
use Rattle.fs_model.proofs.StepsOfRemoving.{unlink_leaves, rmdir_leaves}
use Rattle.fs_model.proofs.VeiledScenes.{veiled_scene}
use Rattle.fs_model.proofs.ConfinedLooks.{stat_confined, lstat_confined, fstat_confined, access_confined, get_acl_confined, readlink_confined, readdir_confined, chdir_confined, umask_confined}
use Rattle.fs_model.proofs.ConfinedReads.{lseek_confined, close_confined, read_confined}
use Rattle.fs_model.proofs.ConfinedRewrites.{ftruncate_confined, truncate_confined, write_confined, chmod_confined, chown_confined, set_acl_confined}
use Rattle.fs_model.proofs.ConfinedNames.{unlink_confined, rmdir_confined, link_confined, rename_confined, mkdir_confined, symlink_confined}
use Rattle.fs_model.proofs.ConfinedOpens.{open_confined}
use Rattle.fs_model.proofs.NoIoDemands.{RowSpares, refused, counted, only, answered, searched, by_fd, of_path, of_paths, there, fresh, at_end, at_dir, sticky, own, space, open_spares, rename_spares}
use Rattle.fs_model.proofs.StepsLeaves.{AreBytes, Leaves, fits_leave, answer_leaves, open_leaves, renames_leave, IsUnrefused}
use Rattle.fs_model.proofs.VeiledDemands.{access_asks, chdir_asks, chmod_asks, chown_asks, link_asks, lseek_asks, mkdir_asks, open_asks, read_asks, readdir_asks, readlink_asks, rename_asks, rmdir_asks, set_acl_asks, symlink_asks, truncate_asks, unlink_asks, write_asks}
use Rattle.fs_model.proofs.ConfinedSteps.{Confines}

-- ---- what it does with the number of a new node

-- a call doesn't take the number, or it makes a node there, under a name that is new
abbrev pub UsesNumber : Scene → (ℕ → Effect) → Type 0
UsesNumber c effect =
    ((n m : ℕ) → effect n ≡ effect m)
    ⊎ (IsNameAt c.state.room c.state.tree c.first.dir_ino c.first.name None × ((node : Node) × ((n : ℕ) → (effect n).change ≡ Make c.first.dir_ino c.first.name n node)))

module _ (c : Scene) where
  abbrev open_as : Flags → ℕ → Option ℕ → ℕ → Effect
  open_as flags mode o n = record {
    change =
        cond (not (is_some o)) (Make c.first.dir_ino c.first.name n (born_file c.process.cred c.process.umask mode (dir_node c c.first)))
        (cond (flags.trunc && flags.write) (Rewrite Modified (found_ino c.first) (record (node_found c c.first) { body = with_bytes [] (body_found c c.first) })) Same);
    process = open_process c.process flags (unwrap_or o n);
    reply = Fd (least_unused 0 c.process.descriptors);
  }

  open_uses : (flags : Flags) (mode : ℕ) (form : Form) → IsWalked c.state.room c.state.tree form c.first → (o : Option ℕ) → c.first.ino ≡ o
      → UsesNumber c (open_as flags mode c.first.ino)
  open_uses flags mode form walked None e =
      inr (walked.new e, (born_file c.process.cred c.process.umask mode (dir_node c c.first), λ n. ap (λ o. (open_as flags mode o n).change) e))
  open_uses flags mode form walked (Some k) e = inl (λ n m. ap (λ o. open_as flags mode o n) e ∙ sym (ap (λ o. open_as flags mode o m) e))

-- ---- the record

pub record IsLawful (call : Call) : Type 0 where
  -- the paths of the call are bytes
  pub paths : IsCall call → AreBytes (row_of call).walks
  -- the call refuses nothing with EIO, and answers no EIO
  pub spares : RowSpares (row_of call)
  pub replies : (c : Scene) (new : ℕ) → is_io_error ((row_of call).effect c new).reply ≡ false
  -- what it asks depends on no byte of a file
  pub asks : (c : Scene) → (row_of call).demands (veiled_scene c) ≡ (row_of call).demands c
  -- what it leaves may be left
  pub leaves : (c : Scene) (is : IsScene c) (caller : Option ℕ) (here : IsCaller c.state.processes caller c.process) (new : ℕ) → IsUnrefused c call
      → HasNewNumber c.state ((row_of call).effect c new).change → Leaves c is caller here ((row_of call).effect c new)
  -- the process keeps its credential
  pub keeps : (c : Scene) (new : ℕ) → ((row_of call).effect c new).process.cred ≡ c.process.cred
  -- what it takes the number of a new node for
  pub uses : (c : Scene) → IsUnrefused c call → UsesNumber c ((row_of call).effect c)
  -- bytes that the process can't see into have no part in what it does
  pub confines : Confines call

-- ---- what takes more than a line

granted_spares : (cred : Credential) (want : Perms) (o : Option AccessNode) → is_io_error (granted_by cred want o) ≡ false
granted_spares cred want None = refl
granted_spares cred want (Some node) = refl

pub write_spares : (most fd : ℕ) (bytes : List ℕ) (s : Scene) → is_io_error (write_effect most fd bytes s).reply ≡ false
write_spares most fd bytes s = go (is_empty bytes)
  where
    go : (b : Bool) → is_io_error (if b then answers s (Wrote 0) else record {
      change = Rewrite Modified (the_descriptor s.process fd).ino (written (node_open s fd) (write_offset s fd) (take (write_count most s fd bytes) bytes));
      process = with_offset s.process fd (write_offset s fd + write_count most s fd bytes);
      reply = Wrote (write_count most s fd bytes);
    }).reply ≡ false
    go true = refl
    go false = refl

write_keeps : (fd : ℕ) (bytes : List ℕ) (c : Scene) (new : ℕ) → (write_effect move_limit fd bytes c).process.cred ≡ c.process.cred
write_keeps fd [] c new = refl
write_keeps fd (b ∷ bytes) c new = refl

write_uses : (fd : ℕ) (bytes : List ℕ) (c : Scene) (n m : ℕ) → (row_of (Write fd bytes)).effect c n ≡ (row_of (Write fd bytes)).effect c m
unfolding row_of
write_uses fd [] c n m = refl
write_uses fd (b ∷ bytes) c n m = refl

-- ---- each call

pub each_call : (call : Call) → IsLawful call
unfolding row_of
each_call (Open path flags mode) = record {
  paths = λ is. (is.0, tt);
  spares = open_spares path flags mode;
  replies = λ c new. refl;
  asks = λ c. open_asks c flags;
  leaves = λ c is who here new met fresh. open_leaves c is who here path flags mode new met.early met.demands met.first fresh;
  keeps = λ c new. refl;
  uses = λ c met. open_uses c flags mode (open_form flags) met.first c.first.ino refl;
  confines = open_confined path flags mode;
}
each_call (Read fd len) = record {
  paths = λ is. tt;
  spares = by_fd (is_bad_to_read fd) (read_demands fd) (read_effect move_limit fd len) (λ p. refused EBADF _ refl) (λ s. (refused EISDIR _ refl, tt));
  replies = λ c new. refl;
  asks = λ c. read_asks c fd;
  leaves = λ c is who here new met fresh. fits_leave c is who here _ (read_fits c is move_limit fd len met.early);
  keeps = λ c new. refl;
  uses = λ c met. inl (λ n m. refl);
  confines = read_confined move_limit fd len;
}
each_call (Write fd bytes) = record {
  paths = λ is. tt;
  spares = by_fd (is_bad_to_write fd) (write_demands move_limit fd bytes) (write_effect move_limit fd bytes) (λ p. refused EBADF _ refl) (λ s. only (not (is_empty bytes)) (refuse EFBIG (nat_le s.state.room.file_limit (write_offset s fd)) ∷ no_blocks_for (min (length bytes) move_limit) s ∷ []) (refused EFBIG _ refl, (refused ENOSPC _ refl, tt)));
  replies = λ c new. write_spares move_limit fd bytes c;
  asks = λ c. write_asks c move_limit fd bytes;
  leaves = λ c is who here new met fresh. fits_leave c is who here _ (write_fits c is move_limit fd bytes met.fits.1 met.early met.demands);
  keeps = write_keeps fd bytes;
  uses = λ c met. inl (write_uses fd bytes c);
  confines = write_confined move_limit fd bytes;
}
each_call (Lseek fd whence by) = record {
  paths = λ is. tt;
  spares = by_fd (is_bad fd) (lseek_demands fd whence by) (lseek_effect fd whence by) (λ p. refused EBADF _ refl) (λ s. (refused EISDIR _ refl, (refused EINVAL _ refl, tt)));
  replies = λ c new. refl;
  asks = λ c. lseek_asks c fd whence by;
  leaves = λ c is who here new met fresh. fits_leave c is who here _ (lseek_fits c is fd whence by met.early);
  keeps = λ c new. refl;
  uses = λ c met. inl (λ n m. refl);
  confines = lseek_confined fd whence by;
}
each_call (Close fd) = record {
  paths = λ is. tt;
  spares = by_fd (is_bad fd) nothing_asked (close_effect fd) (λ p. refused EBADF _ refl) (λ s. tt);
  replies = λ c new. refl;
  asks = λ c. refl;
  leaves = λ c is who here new met fresh. fits_leave c is who here _ (close_fits c is fd);
  keeps = λ c new. refl;
  uses = λ c met. inl (λ n m. refl);
  confines = close_confined fd;
}
each_call (Fstat fd) = record {
  paths = λ is. tt;
  spares = by_fd (is_bad fd) nothing_asked (fstat_effect fd) (λ p. refused EBADF _ refl) (λ s. tt);
  replies = λ c new. refl;
  asks = λ c. refl;
  leaves = λ c is who here new met fresh. answer_leaves c is who here;
  keeps = λ c new. refl;
  uses = λ c met. inl (λ n m. refl);
  confines = fstat_confined fd;
}
each_call (Stat path) = record {
  paths = λ is. (is, tt);
  spares = of_path [] Follow path stat_demands stat_effect tt (λ s. (there s.first, tt));
  replies = λ c new. refl;
  asks = λ c. refl;
  leaves = λ c is who here new met fresh. answer_leaves c is who here;
  keeps = λ c new. refl;
  uses = λ c met. inl (λ n m. refl);
  confines = stat_confined path;
}
each_call (Lstat path) = record {
  paths = λ is. (is, tt);
  spares = of_path [] NoFollow path stat_demands stat_effect tt (λ s. (there s.first, tt));
  replies = λ c new. refl;
  asks = λ c. refl;
  leaves = λ c is who here new met fresh. answer_leaves c is who here;
  keeps = λ c new. refl;
  uses = λ c met. inl (λ n m. refl);
  confines = lstat_confined path;
}
each_call (Access path want) = record {
  paths = λ is. (is, tt);
  spares = of_path [] Follow path (access_demands want) (access_effect want) tt (λ s. (there s.first, (at_end s 1 want, tt)));
  replies = λ c new. granted_spares _ want _;
  asks = λ c. access_asks c want;
  leaves = λ c is who here new met fresh. answer_leaves c is who here;
  keeps = λ c new. refl;
  uses = λ c met. inl (λ n m. refl);
  confines = access_confined path want;
}
each_call (Truncate path size) = record {
  paths = λ is. (is.0, tt);
  spares = of_path [] Follow path (truncate_demands size) (truncate_effect size) tt (λ s. (there s.first, (refused EISDIR _ refl, (at_end s 1 (perms false true false), (refused EFBIG _ refl, tt)))));
  replies = λ c new. refl;
  asks = λ c. truncate_asks c size;
  leaves = λ c is who here new met fresh. fits_leave c is who here _ (truncate_fits c is size new met.demands);
  keeps = λ c new. refl;
  uses = λ c met. inl (λ n m. refl);
  confines = truncate_confined path size;
}
each_call (Ftruncate fd size) = record {
  paths = λ is. tt;
  spares = by_fd (is_bad_to_write fd) (ftruncate_demands size) (ftruncate_effect fd size) (λ p. refused EBADF _ refl) (λ s. (refused EFBIG _ refl, tt));
  replies = λ c new. refl;
  asks = λ c. refl;
  leaves = λ c is who here new met fresh. fits_leave c is who here _ (ftruncate_fits c is fd size met.early met.demands);
  keeps = λ c new. refl;
  uses = λ c met. inl (λ n m. refl);
  confines = ftruncate_confined fd size;
}
each_call (Chmod path mode) = record {
  paths = λ is. (is.0, tt);
  spares = of_path (check_of_mode mode ∷ []) Follow path chmod_demands (chmod_effect mode) (refused EINVAL _ refl, tt) (λ s. (there s.first, (own s, tt)));
  replies = λ c new. refl;
  asks = λ c. chmod_asks c;
  leaves = λ c is who here new met fresh. fits_leave c is who here _ (chmod_fits c is mode new met.demands);
  keeps = λ c new. refl;
  uses = λ c met. inl (λ n m. refl);
  confines = chmod_confined path mode;
}
each_call (Chown path owner group) = record {
  paths = λ is. (is.0, tt);
  spares = of_path [] Follow path (chown_demands owner group) (chown_effect owner group) tt (λ s. (there s.first, (answered 1 s.first.step Own _, (answered 1 s.first.step ChownNeed _, (answered 1 s.first.step Chgrp _, tt)))));
  replies = λ c new. refl;
  asks = λ c. chown_asks c owner group;
  leaves = λ c is who here new met fresh. fits_leave c is who here _ (chown_fits c is owner group new met.fits.1 met.fits.2 met.demands);
  keeps = λ c new. refl;
  uses = λ c met. inl (λ n m. refl);
  confines = chown_confined path owner group;
}
each_call (GetAcl path which) = record {
  paths = λ is. (is, tt);
  spares = of_path [] Follow path stat_demands (get_acl_effect which) tt (λ s. (there s.first, tt));
  replies = λ c new. refl;
  asks = λ c. refl;
  leaves = λ c is who here new met fresh. answer_leaves c is who here;
  keeps = λ c new. refl;
  uses = λ c met. inl (λ n m. refl);
  confines = get_acl_confined path which;
}
each_call (SetAcl path which acl) = record {
  paths = λ is. (is.0, tt);
  spares = of_path (set_acl_arguments which acl) Follow path (set_acl_demands which acl) (set_acl_effect which acl) (refused EINVAL _ refl, tt) (λ s. (there s.first, (own s, (refused ENOTDIR _ refl, only (needs_sector which acl) (no_blocks s ∷ []) (refused ENOSPC _ refl, tt)))));
  replies = λ c new. refl;
  asks = λ c. set_acl_asks c which acl;
  leaves = λ c is who here new met fresh. fits_leave c is who here _ (set_acl_fits c is which acl new met.fits.1 met.demands);
  keeps = λ c new. refl;
  uses = λ c met. inl (λ n m. refl);
  confines = set_acl_confined path which acl;
}
each_call (Readdir fd) = record {
  paths = λ is. tt;
  spares = by_fd (is_bad_to_read fd) (readdir_demands fd) (readdir_effect fd) (λ p. refused EBADF _ refl) (λ s. (refused ENOTDIR _ refl, tt));
  replies = λ c new. refl;
  asks = λ c. readdir_asks c fd;
  leaves = λ c is who here new met fresh. answer_leaves c is who here;
  keeps = λ c new. refl;
  uses = λ c met. inl (λ n m. refl);
  confines = readdir_confined fd;
}
each_call (Mkdir path mode) = record {
  paths = λ is. (is.0, tt);
  spares = of_path (check_of_mode mode ∷ []) Parent path mkdir_demands (mkdir_effect mode) (refused EINVAL _ refl, tt) (λ s. (fresh s.first, (at_dir s s.first 1, space s)));
  replies = λ c new. refl;
  asks = λ c. mkdir_asks c;
  leaves = λ c is who here new met fresh. fits_leave c is who here _ (mkdir_fits c is (met.first.new (is_new_if c.first met.demands.0)) met.demands.1.1.1.1.0 new fresh.0 fresh.1 fresh.2 mode);
  keeps = λ c new. refl;
  uses = λ c met. inr (met.first.new (is_new_if c.first met.demands.0), (born_directory c.process.cred c.process.umask mode (dir_node c c.first), λ n. refl));
  confines = mkdir_confined path mode;
}
each_call (Rmdir path) = record {
  paths = λ is. (is, tt);
  spares = of_path [] Parent path rmdir_demands takes_name tt (λ s. (refused EBUSY _ refl, (refused EINVAL _ refl, (refused ENOTEMPTY _ refl, (there s.first, (refused ENOTDIR _ refl, (at_dir s s.first 1, (sticky s s.first 1, (refused ENOTDIR _ refl, (refused EBUSY _ refl, (refused ENOTEMPTY _ refl, tt)))))))))));
  replies = λ c new. refl;
  asks = λ c. rmdir_asks c;
  leaves = λ c is who here new met fresh. rmdir_leaves c is who here met.first met.demands;
  keeps = λ c new. refl;
  uses = λ c met. inl (λ n m. refl);
  confines = rmdir_confined path;
}
each_call (LinkCall old to) = record {
  paths = λ is. (is.0, (is.1, tt));
  spares = of_paths old to link_demands link_effect (λ s. (there s.first, (refused ENOTDIR _ refl, (refused EPERM _ refl, (fresh s.second, (refused ENOENT _ refl, (at_dir s s.second 2, (counted s, (refused ENOSPC _ refl, (refused ENOSPC _ refl, tt))))))))));
  replies = λ c new. refl;
  asks = λ c. link_asks c;
  leaves = λ c is who here new met fresh. fits_leave c is who here _ (link_fits c is (met.second.new (is_new_if c.second met.demands.1.1.1.0)) met.demands);
  keeps = λ c new. refl;
  uses = λ c met. inl (λ n m. refl);
  confines = link_confined old to;
}
each_call (Symlink target path) = record {
  paths = λ is. (is.1, tt);
  spares = of_path (symlink_arguments target) Parent path symlink_demands (symlink_effect target) (refused ENOENT _ refl, (refused EINVAL _ refl, (refused ENAMETOOLONG _ refl, tt))) (λ s. (fresh s.first, (refused ENOENT _ refl, (at_dir s s.first 1, space s))));
  replies = λ c new. refl;
  asks = λ c. symlink_asks c;
  leaves = λ c is who here new met fresh. fits_leave c is who here _ (symlink_fits c is (met.first.new (is_new_if c.first met.demands.0)) met.demands.1.1.1.1.1.0 new fresh.0 fresh.1 fresh.2 target (target_is target met.fits.0 met.arguments));
  keeps = λ c new. refl;
  uses = λ c met. inr (met.first.new (is_new_if c.first met.demands.0), (born_link c.process.cred target (dir_node c c.first), λ n. refl));
  confines = symlink_confined target path;
}
each_call (Readlink path) = record {
  paths = λ is. (is, tt);
  spares = of_path [] NoFollow path readlink_demands readlink_effect tt (λ s. (there s.first, (refused EINVAL _ refl, tt)));
  replies = λ c new. refl;
  asks = λ c. readlink_asks c;
  leaves = λ c is who here new met fresh. answer_leaves c is who here;
  keeps = λ c new. refl;
  uses = λ c met. inl (λ n m. refl);
  confines = readlink_confined path;
}
each_call (Unlink path) = record {
  paths = λ is. (is, tt);
  spares = of_path [] Parent path unlink_demands takes_name tt (λ s. (refused EISDIR _ refl, (there s.first, (refused ENOTDIR _ refl, (at_dir s s.first 1, (sticky s s.first 1, (refused EISDIR _ refl, tt)))))));
  replies = λ c new. refl;
  asks = λ c. unlink_asks c;
  leaves = λ c is who here new met fresh. unlink_leaves c is who here met.first met.demands;
  keeps = λ c new. refl;
  uses = λ c met. inl (λ n m. refl);
  confines = unlink_confined path;
}
each_call (Rename old to) = record {
  paths = λ is. (is.0, (is.1, tt));
  spares = of_paths old to rename_demands rename_effect rename_spares;
  replies = λ c new. refl;
  asks = λ c. rename_asks c;
  leaves = λ c is who here new met fresh. renames_leave c is who here met.first met.second met.demands;
  keeps = λ c new. refl;
  uses = λ c met. inl (λ n m. refl);
  confines = rename_confined old to;
}
each_call (Chdir path) = record {
  paths = λ is. (is, tt);
  spares = of_path [] Follow path chdir_demands chdir_effect tt (λ s. (there s.first, (refused ENOTDIR _ refl, (searched s.process.cred s.state.tree (found_ino s.first) 1 s.first.step, tt))));
  replies = λ c new. refl;
  asks = λ c. chdir_asks c;
  leaves = λ c is who here new met fresh. fits_leave c is who here _ (chdir_fits c is new met.demands);
  keeps = λ c new. refl;
  uses = λ c met. inl (λ n m. refl);
  confines = chdir_confined path;
}
each_call (Umask mask) = record {
  paths = λ is. tt;
  spares = record { arguments = tt; early = λ p. tt; demands = λ s. tt };
  replies = λ c new. refl;
  asks = λ c. refl;
  leaves = λ c is who here new met fresh. fits_leave c is who here _ (umask_fits c is mask new);
  keeps = λ c new. refl;
  uses = λ c met. inl (λ n m. refl);
  confines = umask_confined mask;
}
