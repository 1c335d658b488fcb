-- A directory that is made.
--     new_directory, directory_fits        its inode
--     acls_few, directory_taken        an inode was taken for it
--     mkdir_by_path, directory_name_asked, is_new_name, directory_changes        mkdir
--     directory_may_touch, directory_was_made        and its end
use Rattle.call_parts.specs.BothTables.{Tables}
use Rattle.std.specs.Prelude.{false}
use Rattle.call_parts.specs.Callers.{Who, ByCaller, told_by, made_reply, ByProcess, ByActor}
use Rattle.call_parts.proofs.Starts.{may_make}
use Rattle.std.specs.Prelude.{◌≡◌, ℕ, ◌+◌, ◌-◌, ◌/◌, ◌%◌, ◌^◌, ◌<◌, ◌≤◌, ◌==◌, nat_eq, nat_le, ◌&&◌, cond, Bool, true, false, List, [], ◌∷◌, Option, None, IsTrue, Ok}
use Rattle.std.proofs.Common.{refl, sym, ap, arith, ◌∙◌}
use Rattle.std.proofs.lemmas.Bool.Decides.{nat_tests}
use Rattle.posix_acl.specs.AccessList.{AccessList}
use Rattle.fs_layout.specs.declared.slot.TheConstants.{SLOT_SIZE}
use Rattle.fs_layout.specs.declared.inode.Inode.{Inode}
use Rattle.fs_layout.specs.declared.inode.Kind.TheVariants as kinds
use Rattle.fs_layout.specs.declared.inode.TheConstants.{MAX_DIRECTORY_SIZE, S_ISGID, S_ISVTX}
use Rattle.fs_layout.specs.declared.geometry.Geometry.{Geometry}
use Rattle.fs_layout.specs.AclSector.{kept_acl}
use Rattle.fs_layout.specs.Bytes.{SectorMap, IsBytes}
use Rattle.fs_layout.specs.Inode.{FitsInode, free_inode}
use Rattle.fs_layout.specs.Images.{Holds, bit, inode_at}
use Rattle.fs_layout.proofs.UsedInodes.{made_fits}
use Rattle.sector_txn.specs.Sectors.{TxnState, IsUnchanged}
use Rattle.bit_alloc.specs.declared.bitmap.Bitmap.TheVariants.{Inodes}
use Rattle.bit_alloc.specs.Bitmaps.{IsFreeNumber}
use Rattle.bit_alloc.specs.Inodes.{KeepsFields, Touches}
use Rattle.inode_table.specs.Acls.{HasAcl, HasDefaultAcl, with_acl_bits, acls_take}
use Rattle.fs_model.specs.declared.call.Call.TheVariants.{Mkdir}
use Rattle.fs_model.specs.declared.reply.Reply.{Reply}
use Rattle.fs_model.specs.declared.reply.Reply.TheVariants.{Done}
use Rattle.fs_model.specs.declared.touch.Touch.TheVariants.{Modified, Born}
use Rattle.fs_model.specs.declared.walk.Form.TheVariants.{Parent}
use Rattle.fs_model.specs.declared.walk.Found.{Found}
use Rattle.fs_model.specs.Births.{the_node, born_directory}
use Rattle.fs_model.specs.Demands.{Demand, first_of}
use Rattle.fs_model.specs.NameCalls.{mkdir_row, mkdir_demands, mkdir_effect}
use Rattle.fs_model.specs.Processes.{Process}
use Rattle.fs_model.specs.Rows.{row_of}
use Rattle.fs_model.specs.Scenes.{must_be_new, check_of_mode}
use Rattle.fs_model.specs.States.{State}
use Rattle.fs_model.specs.Trees.{Tree}
use Rattle.fs_model.proofs.StepsMaking.{directory_is_born}
use Rattle.fs_model.proofs.StepsOfMaking.{is_new_if}
use Rattle.call_parts.specs.Telling.{Checked, checked}
use Rattle.call_parts.specs.Reaching.{WalksPath, HasWalked}
use Rattle.path_walk.specs.Answers.{refused_or}
use Rattle.call_parts.specs.Paths.{scene_at, HasFound}
use Rattle.call_parts.specs.Performing.{IsStateOf, Performs}
use Rattle.call_parts.specs.Times.{MayMoveTimes, MovesTimes}
use Rattle.call_parts.proofs.Calling.{or_else-none, met_ok}
use Rattle.call_parts.proofs.HeldChanges.{new_directory_held}
use Rattle.call_parts.specs.Makings.{make_asked}
use Rattle.call_parts.proofs.Changed.{IsChange}
use Rattle.call_parts.proofs.NewFile.{takes_one}
use Rattle.call_parts.specs.NewNodes.{MakesNode, TakesInode, directory_made}
use Rattle.call_parts.proofs.NewNames.{caller_fits, parent_fits, space_met, node_made, made_may_touch, made_done}
use Rattle.name_calls.specs.Making.{Makes}

-- named once, in directory dir
abbrev pub new_directory : ℕ → ℕ → ℕ → ℕ → Inode
new_directory dir_ino uid gid bits = record free_inode { kind = kinds.Directory; mode = bits; uid = uid; gid = gid; names = 1; parent = dir_ino }

pub directory_fits : (dir_ino uid gid bits : ℕ) → dir_ino < 2 ^ 32 → uid < 2 ^ 32 → gid < 2 ^ 32 → bits < 2048 → FitsInode (new_directory dir_ino uid gid bits)
directory_fits dir_ino uid gid bits small_dir small_uid small_gid few =
    let low : nat_le bits 0o3777 ≡ true = grind (arith, nat_tests) in
    made_fits (λ e. cc) (ap (λ (b : Bool). (b && nat_le 0 MAX_DIRECTORY_SIZE) && nat_eq (0 % SLOT_SIZE) 0) low) small_uid small_gid (omega arith) small_dir

pub acls_few : (a : AccessList) (default : Option AccessList) → acls_take a default ≤ 2
acls_few a default = let one = takes_one (kept_acl a) in let other = takes_one default in omega (arith, one, other)

both_bits : (bits : ℕ) → bits < 2048 → bits / 512 ≡ cond (bits / S_ISVTX % 2 == 1) 1 0 + cond (bits / S_ISGID % 2 == 1) 2 0
both_bits bits few = go (bits / S_ISVTX % 2 == 1) (bits / S_ISGID % 2 == 1) refl refl
  where
    go : (a b : Bool) → (bits / S_ISVTX % 2 == 1) ≡ a → (bits / S_ISGID % 2 == 1) ≡ b → bits / 512 ≡ cond a 1 0 + cond b 2 0
    go true true x y = let s : bits / S_ISVTX % 2 ≡ 1 = grind (arith, nat_tests) in let g : bits / S_ISGID % 2 ≡ 1 = grind (arith, nat_tests) in omega (arith, few, s, g)
    go true false x y = let s : bits / S_ISVTX % 2 ≡ 1 = grind (arith, nat_tests) in let g : bits / S_ISGID % 2 ≡ 0 = grind (arith, nat_tests) in omega (arith, few, s, g)
    go false true x y = let s : bits / S_ISVTX % 2 ≡ 0 = grind (arith, nat_tests) in let g : bits / S_ISGID % 2 ≡ 1 = grind (arith, nat_tests) in omega (arith, few, s, g)
    go false false x y = let s : bits / S_ISVTX % 2 ≡ 0 = grind (arith, nat_tests) in let g : bits / S_ISGID % 2 ≡ 0 = grind (arith, nat_tests) in omega (arith, few, s, g)

module _ {p : Geometry} {n taken more : ℕ} {old new : TxnState} (free : IsFreeNumber p Inodes old.sectors n) (touches : Touches p n taken more old new)
    (used : IsTrue (bit new.sectors p.inode_bitmap n)) where
  pub directory_taken : (dir_ino uid gid bits : ℕ) → bits < 2048 → (a : AccessList) (default : Option AccessList)
      → KeepsFields (with_acl_bits (new_directory dir_ino uid gid bits) a) (inode_at p new.sectors n) → Holds new.sectors (inode_at p new.sectors n) []
      → HasAcl new.sectors (inode_at p new.sectors n) a → HasDefaultAcl new.sectors (inode_at p new.sectors n) default
      → TakesInode p n (record { node = directory_made uid gid bits a default; names = 1; parent = dir_ino }) old.sectors new.sectors
  directory_taken dir_ino uid gid bits few a default fields empty access has = record {
    super = touches.super;
    free = free;
    change = touches.inode;
    taken = used;
    holds = new_directory_held new.sectors (new_directory dir_ino uid gid bits) (inode_at p new.sectors n) uid gid refl refl refl (refl, refl, refl) a fields empty access dir_ino default
        (bits / S_ISVTX % 2 == 1) (bits / S_ISGID % 2 == 1) refl (both_bits bits few) refl has;
  }

-- ---- mkdir

mkdir_is : (path : List ℕ) (mode : ℕ) → row_of (Mkdir path mode) ≡ mkdir_row path mode
unfolding row_of
mkdir_is path mode = refl

-- the mode of mkdir is checked
pub mkdir_by_path : {who : Who} → (path : List ℕ) (mode : ℕ) (checks : Checked) → checks ≡ checked (check_of_mode mode) → WalksPath who (Mkdir path mode) checks false Parent path mkdir_demands (mkdir_effect mode)
mkdir_by_path {who} path mode checks are = record {
  arguments = check_of_mode mode ∷ [];
  row = mkdir_is path mode;
  are_checked = are ∙ ap checked (sym (or_else-none (check_of_mode mode)));
  asks = refl;
  opens = refl;
  may = may_make who _ refl refl;
}

-- who makes a directory is told so
pub told_directory : (who : Who) (path : List ℕ) (mode n : ℕ) → told_by who (Mkdir path mode) n Done ≡ made_reply who n Done
told_directory (ByProcess pid) path mode n = refl
told_directory (ByActor actor) path mode n = refl

-- asked of the name
abbrev pub directory_name_asked : Found → List Demand
directory_name_asked f = must_be_new f ∷ []

-- what was found is new
pub is_new_name : (f : Found) → refused_or {A = Unit {0}} (must_be_new f) (Ok tt) ≡ Ok tt → (first_of (must_be_new f ∷ []) ≡ None) × (f.ino ≡ None)
is_new_name f is =
    let met = (met_ok {A = Unit {0}} (must_be_new f) tt tt is).0 in
    (or_else-none (must_be_new f) ∙ met, is_new_if f met)

module _ {p : Geometry} {map : SectorMap} {tables : Tables} {s : State} (at : IsStateOf p map tables s) (q : Process) (f : Found) {who : Who} {path : List ℕ}
    (has : HasFound s who q false Parent path f) (bytes : IsBytes path) (is : refused_or {A = Unit {0}} (must_be_new f) (Ok tt) ≡ Ok tt) where
  pub directory_changes : (mode : ℕ) (new : SectorMap) (n : ℕ) → first_of (make_asked p map q.cred s.tree f.dir_ino (f.step - 1)) ≡ None
      → MakesNode p f.dir_ino f.name n (born_directory q.cred q.umask mode (the_node s.tree f.dir_ino)) map new
      → (c : IsChange p new tables s q (mkdir_demands (scene_at s q f)) (mkdir_effect mode (scene_at s q f)) Done ((f.dir_ino, Modified) ∷ (n, Born) ∷ [])) × (c.number ≡ n)
  directory_changes mode new n allows made =
      let x = is_new_name f is in
      let fits = parent_fits at q f has bytes x.1 in
      node_made at q f has bytes x.1 (born_directory q.cred q.umask mode (the_node s.tree f.dir_ino))
      (directory_is_born s.room s.tree q.cred (caller_fits at has).cred (the_node s.tree f.dir_ino) fits.group q.umask mode fits.body)
      new made (mkdir_demands (scene_at s q f)) (space_met at q f (must_be_new f ∷ []) x.0 allows) allows

-- the directory was made
module _ {p : Geometry} {old mid last : TxnState} {tables : Tables} {who : Who} {checks : Checked} {path : List ℕ} {q : Process} {f : Found} {n : ℕ} (mode : ℕ)
    (are : checks ≡ checked (check_of_mode mode)) (same : IsUnchanged old mid) (w : HasWalked p mid tables who checks false Parent path q f)
    (is : refused_or {A = Unit {0}} (must_be_new f) (Ok tt) ≡ Ok tt)
    (made : Makes p q.cred f (λ (t : Tree). born_directory q.cred q.umask mode (the_node t f.dir_ino)) mid last (Ok n)) where
  pub directory_may_touch : MayMoveTimes p ((f.dir_ino, Modified) ∷ (n, Born) ∷ []) last
  directory_may_touch = made_may_touch directory_name_asked (mkdir_by_path path mode checks are) same w (is_new_name f is).1 last n (λ (t : Tree). born_directory q.cred q.umask mode (the_node t f.dir_ino)) made.each
      (λ s has at. directory_changes at q f has w.bytes is mode last.sectors n) made.store 7 (omega arith) made.taken

  pub directory_was_made : {time : ℕ} {new : TxnState} (answer : Reply) → told_by who (Mkdir path mode) n Done ≡ answer → MovesTimes p time ((f.dir_ino, Modified) ∷ (n, Born) ∷ []) last new → Performs p time (ByCaller who (Mkdir path mode)) old new tables tables (Ok answer)
  directory_was_made answer tells moved = made_done directory_name_asked (mkdir_by_path path mode checks are) same w (is_new_name f is).1 last n (λ (t : Tree). born_directory q.cred q.umask mode (the_node t f.dir_ino)) made.each
      (λ s has at. directory_changes at q f has w.bytes is mode last.sectors n) answer tells made.store moved
