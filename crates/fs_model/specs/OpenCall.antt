-- open: POSIX.1-2017, open(), with the flags of open(2).
--     open_form, open_arguments, open_early, open_demands        what it asks
--     open_effect        what it does
use Rattle.std.specs.Prelude.{ℕ, nat_le, false, not, ◌&&◌, ◌||◌, List, [], ◌∷◌, length, if◌then◌else◌, unwrap_or}
use Rattle.fs_cred.specs.declared.errno.Errno.TheVariants.{ENOENT, EEXIST, ENOTDIR, EISDIR, EINVAL, EMFILE, ELOOP}
use Rattle.fs_model.specs.declared.call.Flags.{Flags}
use Rattle.fs_model.specs.declared.reply.Reply.TheVariants.{Fd}
use Rattle.fs_model.specs.Limits.{descriptors_limit}
use Rattle.fs_model.specs.Nodes.{is_directory, is_link, with_bytes}
use Rattle.fs_model.specs.Processes.{Process, with_descriptor, least_unused}
use Rattle.fs_model.specs.Births.{born_file}
use Rattle.fs_model.specs.declared.touch.Touch.TheVariants.{Modified}
use Rattle.fs_model.specs.TreeChanges.{Change, Same, Rewrite, Make}
use Rattle.fs_model.specs.Demands.{Demand, refuse, perms}
use Rattle.fs_model.specs.Parts.{ends_with_slash}
use Rattle.fs_model.specs.declared.walk.Form.{Form}
use Rattle.fs_model.specs.declared.walk.Form.TheVariants.{Follow, NoFollow}
use Rattle.fs_model.specs.Scenes.{Scene, Effect, Row, is_found, found_ino, node_found, body_found, dir_node, permission_at_end, permission_at_dir, space_to_make, check_of_mode}

-- with O_CREAT and O_EXCL a final link isn't followed
abbrev pub open_form : Flags → Form
open_form f = if f.nofollow || (f.create && f.excl) then NoFollow else Follow

abbrev pub open_arguments : Flags → ℕ → List Demand
open_arguments f mode = refuse EINVAL (f.create && f.directory) ∷ check_of_mode mode ∷ []

abbrev pub open_early : Flags → List ℕ → Process → List Demand
open_early f path p =
    refuse EISDIR (f.create && ends_with_slash path)
    ∷ refuse EMFILE (nat_le descriptors_limit (length p.descriptors))
    ∷ []

-- a new file
abbrev pub open_new_demands : Flags → Scene → List Demand
open_new_demands f s =
    refuse ENOENT (not f.create || s.first.slash)
    ∷ permission_at_dir s s.first 1
    ∷ space_to_make s

-- what is there
abbrev pub open_found_demands : Flags → Scene → List Demand
open_found_demands f s =
    refuse EEXIST (f.create && f.excl)
    ∷ refuse ELOOP (is_link (body_found s s.first))
    ∷ refuse ENOTDIR (f.directory && not (is_directory (body_found s s.first)))
    ∷ refuse EISDIR (is_directory (body_found s s.first) && (f.write || f.create))
    ∷ permission_at_end s s.first 1 (perms f.read f.write false)
    ∷ []

abbrev pub open_demands : Flags → Scene → List Demand
open_demands f s = if is_found s.first then open_found_demands f s else open_new_demands f s

abbrev pub open_change : Flags → ℕ → Scene → ℕ → Change
open_change f mode s new =
    if not (is_found s.first)
    then Make s.first.dir_ino s.first.name new (born_file s.process.cred s.process.umask mode (dir_node s s.first))
    else (if f.trunc && f.write
    then Rewrite Modified (found_ino s.first) (record (node_found s s.first) { body = with_bytes [] (body_found s s.first) })
    else Same)

-- the least unused descriptor, at offset 0
abbrev pub open_process : Process → Flags → ℕ → Process
open_process p f n =
    with_descriptor p (least_unused 0 p.descriptors)
    (record { ino = n; offset = 0; read = f.read; write = f.write; append = f.append })

abbrev pub open_effect : Flags → ℕ → Scene → ℕ → Effect
open_effect f mode s new = record {
  change = open_change f mode s new;
  process = open_process s.process f (unwrap_or s.first.ino new);
  reply = Fd (least_unused 0 s.process.descriptors);
}

abbrev pub open_row : List ℕ → Flags → ℕ → Row
open_row path f mode = record {
  arguments = open_arguments f mode;
  walks = (open_form f, path) ∷ [];
  early = open_early f path;
  demands = open_demands f;
  effect = open_effect f mode;
}
