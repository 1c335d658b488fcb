-- The machine run: the least new numbers, and files without holes.
--     fresh        the state of a disk of 1,024 sectors and 64 inodes that was just made
--     replies        what it answers to events, one after another
--     then_replies        the same after `three_users`: a directory /w that everyone may write, and processes of user 0,
--                         of user 1000 and of user 1001
use Rattle.std.specs.Prelude.{◌≡◌, ℕ, ◌-◌, true, false, List, [], ◌∷◌, codes, None, Some}
use Rattle.std.proofs.Common.{refl}
use Rattle.fs_cred.specs.declared.errno.Errno.{Errno}
use Rattle.fs_cred.specs.declared.refusal.Need.{Need}
use Rattle.fs_cred.specs.declared.refusal.Refusal.TheVariants.{Denied, Failed}
use Rattle.fs_cred.specs.declared.rule.Rule.{Rule}
use Rattle.fs_cred.specs.declared.caps.Caps.{Caps}
use Rattle.fs_cred.specs.Credentials.{credential, usual_credential}
use Rattle.fs_cred.specs.Refusals.{need_errno}
use Rattle.fs_cred.specs.Verdicts.{verdict}
use Rattle.fs_model.specs.declared.call.Flags.{Flags}
use Rattle.fs_model.specs.declared.call.Call.TheVariants.{Open, Mkdir, Umask}
use Rattle.fs_model.specs.declared.reply.Reply.{Reply}
use Rattle.fs_model.specs.declared.reply.Reply.TheVariants.{Done, Pid, Fd, Mask, Shown, Refused}
use Rattle.fs_model.specs.declared.reply.FileType.TheVariants.{File, Directory}
use Rattle.fs_model.specs.declared.event.Event.{Event}
use Rattle.fs_model.specs.declared.event.Event.TheVariants.{Spawn, Call as Calls}
use Rattle.fs_model.specs.Trees.{sectors_needed}
use Rattle.fs_model.specs.NewDisk.{empty_tree}
use Rattle.fs_model.specs.Processes.{least_unused}
use Rattle.fs_model.specs.States.{State}
use Rattle.fs_model.specs.Demands.{Demand}
use Rattle.fs_model.specs.Trails.{trail_of}
use Rattle.fs_model.specs.Walks.{first_refusal, found_of}
use Rattle.fs_model.specs.Rows.{row_of}
use Rattle.fs_model.specs.Steps.{Choice, firm_refusal, other_refusal, after, state_after}
use Rattle.fs_layout.specs.declared.version.Version.TheVariants.{One}
use Rattle.fs_model.specs.Stands.{room_with}

abbrev pub fresh : State
fresh = record {
  room = room_with One 64 878;
  tree = empty_tree;
  processes = [];
  openings = [];
  free = 878;
  now = 0;
  halted = false;
}

abbrev pub least_choice : State → Choice
least_choice s = record { ino = least_unused 1 s.tree; pid = least_unused 1 s.processes; handle = least_unused 1 s.openings; free = 0 }

abbrev pub filled : State → State
filled s = record s { free = s.room.sectors - sectors_needed s.room s.tree }

abbrev pub went : State → Event → Demand → Demand → Reply × State
went s e (Some r) _ = (Refused r, s)
went s e None (Some r) = (Refused r, s)
went s e None None =
    let a = after s e (least_choice s) in
    (a.reply, filled (state_after s a 0))

abbrev pub replies : State → List Event → List Reply
replies s [] = []
replies s (e ∷ es) = let r = went s e (firm_refusal s e) (other_refusal s e) in r.0 ∷ replies r.1 es

abbrev pub state_of : State → List Event → State
state_of s [] = s
state_of s (e ∷ es) = let r = went s e (firm_refusal s e) (other_refusal s e) in state_of r.1 es

-- ---- words for events and replies

abbrev pub user : ℕ → ℕ → List ℕ → Event
user uid gid groups = Spawn (usual_credential uid gid groups)

abbrev pub capable : ℕ → ℕ → Caps → Event
capable uid gid caps = Spawn (credential uid gid [] caps)

abbrev pub to_read : Flags
to_read = record { read = true; write = false; create = false; excl = false; trunc = false; append = false; nofollow = false; directory = false; opens = refl }

-- made where it isn't there
abbrev pub to_write : Flags
to_write = record to_read { read = false; write = true; create = true; opens = refl }

abbrev pub to_read_write : Flags
to_read_write = record to_write { read = true }

abbrev pub denied : ℕ → ℕ → Need → Rule → Reply
denied walk step need rule = Refused (Denied (record { errno = need_errno need; walk = walk; step = step; need = need; rule = rule }))

abbrev pub failed : Errno → Reply
failed e = Refused (Failed e)

-- inode, mode, links, owner, group, size
abbrev pub shows_file : ℕ → ℕ → ℕ → ℕ → ℕ → ℕ → Reply
shows_file ino mode links owner group size =
    Shown (record { ino = ino; kind = File; mode = mode; links = links; owner = owner; group = group; size = size })

-- inode, mode, owner, group, size
abbrev pub shows_directory : ℕ → ℕ → ℕ → ℕ → ℕ → Reply
shows_directory ino mode owner group size =
    Shown (record { ino = ino; kind = Directory; mode = mode; links = 1; owner = owner; group = group; size = size })

abbrev pub last_one : List Reply → List Reply
last_one [] = []
last_one (a ∷ []) = a ∷ []
last_one (a ∷ b ∷ rs) = last_one (b ∷ rs)

abbrev pub last_two : List Reply → List Reply
last_two [] = []
last_two (a ∷ []) = a ∷ []
last_two (a ∷ b ∷ []) = a ∷ b ∷ []
last_two (a ∷ b ∷ c ∷ rs) = last_two (b ∷ c ∷ rs)

-- ---- three users

abbrev pub three_users : List Event
three_users =
    user 0 0 [] ∷ Calls 1 (Umask 0) ∷ Calls 1 (Mkdir (codes "/w") 0o1777)
    ∷ user 1000 100 [] ∷ Calls 2 (Umask 0) ∷ user 1001 101 [] ∷ Calls 3 (Umask 0) ∷ []

abbrev pub then_replies : List Event → List Reply
then_replies es = replies (state_of fresh three_users) es

pub three_users_come : replies fresh three_users ≡ Pid 1 ∷ Mask 0o22 ∷ Done ∷ Pid 2 ∷ Mask 0o22 ∷ Pid 3 ∷ Mask 0o22 ∷ []
unfolding verdict trail_of first_refusal found_of row_of firm_refusal other_refusal after
three_users_come = refl

-- of user 1000 the directories 3 and 4, /w/a and /w/b, and the file 5, /w/a/f
abbrev pub two_directories : List Event
two_directories =
    Calls 2 (Mkdir (codes "/w/a") 0o755) ∷ Calls 2 (Mkdir (codes "/w/b") 0o755) ∷ Calls 2 (Open (codes "/w/a/f") to_write 0o644) ∷ []

abbrev pub they_come : List Reply
they_come = Done ∷ Done ∷ Fd 0 ∷ []
