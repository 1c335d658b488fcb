-- A symbolic link that is made.
--     link_taken        an inode was taken for it
--     none_free        no sector is free
--     target_size        its target has a size that a link may have
--     symlink_by_path, is_target, is_link_name, link_changes        symlink
--     link_may_touch, link_was_made        and its end
use Rattle.call_parts.specs.BothTables.{Tables}
use Rattle.std.specs.Prelude.{false}
use Rattle.call_parts.specs.Callers.{Who, ByCaller, told_by, made_reply, ByProcess, ByActor}
use Rattle.call_parts.proofs.Starts.{may_make}
use Rattle.std.specs.Prelude.{◌≡◌, ◌⊎◌, ℕ, ◌-◌, ◌<◌, ◌/◌, ◌%◌, ◌==◌, nat_lt, if◌then◌else◌, List, [], ◌∷◌, length, None, IsTrue, Ok}
use Rattle.std.proofs.Common.{refl, sym, subst, arith, inl, inr, ◌∙◌}
use Rattle.std.specs.List.{list_any}
use Rattle.fs_cred.specs.declared.errno.Errno.TheVariants.{ENOENT, EINVAL, ENAMETOOLONG}
use Rattle.fs_cred.specs.Credentials.{Credential}
use Rattle.fs_layout.specs.declared.inode.TheConstants.{S_ISGID}
use Rattle.fs_layout.specs.declared.inode.Inode.{Inode}
use Rattle.fs_layout.specs.declared.inode.Kind.TheVariants.{Link}
use Rattle.fs_layout.specs.declared.geometry.Geometry.{Geometry}
use Rattle.fs_layout.specs.Bytes.{SectorMap, IsBytes}
use Rattle.fs_layout.specs.Images.{Holds, HasNoHole, bit, inode_at}
use Rattle.sector_txn.specs.Sectors.{TxnState, IsUnchanged}
use Rattle.bit_alloc.specs.declared.bitmap.Bitmap.TheVariants.{Inodes}
use Rattle.bit_alloc.specs.Bitmaps.{IsFreeNumber}
use Rattle.bit_alloc.specs.Inodes.{Touches}
use Rattle.block_map.specs.Contents.{AllowsSize}
use Rattle.block_map.specs.Links.{IsNewLink, HasNoAcls}
use Rattle.fs_model.specs.declared.call.Call.TheVariants.{Symlink}
use Rattle.fs_model.specs.declared.reply.Reply.{Reply}
use Rattle.fs_model.specs.declared.reply.Reply.TheVariants.{Done}
use Rattle.fs_model.specs.declared.touch.Touch.TheVariants.{Modified, Born}
use Rattle.fs_model.specs.declared.walk.Form.TheVariants.{Parent}
use Rattle.fs_model.specs.declared.walk.Found.{Found}
use Rattle.fs_model.specs.Births.{the_node, born_link}
use Rattle.fs_model.specs.Demands.{refuse, first_of}
use Rattle.fs_model.specs.Limits.{target_limit}
use Rattle.fs_model.specs.NameCalls.{symlink_row, symlink_arguments, symlink_demands, symlink_effect}
use Rattle.fs_model.specs.Parts.{is_empty}
use Rattle.fs_model.specs.Processes.{Process}
use Rattle.fs_model.specs.Rows.{row_of}
use Rattle.fs_model.specs.Scenes.{must_be_new}
use Rattle.fs_model.specs.States.{State}
use Rattle.fs_model.specs.Trees.{Tree, IsTarget}
use Rattle.fs_model.proofs.StepsDemands.{first_met, then_met}
use Rattle.fs_model.proofs.StepsMaking.{link_is_born}
use Rattle.fs_model.proofs.StepsOfMaking.{is_new_if, target_is}
use Rattle.call_parts.specs.Telling.{Checked, checked}
use Rattle.call_parts.specs.Reaching.{WalksPath, HasWalked}
use Rattle.path_walk.specs.Answers.{refused_or}
use Rattle.call_parts.specs.Paths.{scene_at, HasFound}
use Rattle.call_parts.specs.Performing.{IsStateOf, Performs}
use Rattle.call_parts.specs.Times.{MayMoveTimes, MovesTimes}
use Rattle.call_parts.proofs.Calling.{met_ok}
use Rattle.call_parts.proofs.HeldChanges.{new_link_held}
use Rattle.call_parts.specs.Makings.{make_asked}
use Rattle.call_parts.proofs.Changed.{IsChange}
use Rattle.call_parts.specs.NewNodes.{MakesNode, TakesInode, link_made, link_name_asked}
use Rattle.call_parts.proofs.NewNames.{caller_fits, parent_fits, space_met, node_made, made_may_touch, made_done}
use Rattle.name_calls.specs.Making.{Makes}

pub target_size : (target : List ℕ) → IsTarget target → AllowsSize Link (length target)
target_size target is = (is.some, is.short)

-- none is free: fewer than one
pub none_free : {a : Type 0} {k : ℕ} → a ⊎ (k ≡ 0) → a ⊎ (k < 1)
none_free why = elim why [ inl x ↦ inl x | inr none ↦ inr (omega (arith, none)) ]

module _ {p : Geometry} {n taken more : ℕ} {old new : TxnState} (free : IsFreeNumber p Inodes old.sectors n) (touches : Touches p n taken more old new)
    (used : IsTrue (bit new.sectors p.inode_bitmap n)) where
  pub link_taken : (dir_ino uid gid : ℕ) (directory : Inode) (cred : Credential) (target : List ℕ) → uid ≡ cred.uid
      → gid ≡ (if directory.mode / S_ISGID % 2 == 1 then directory.gid else cred.gid) → IsNewLink uid gid (inode_at p new.sectors n)
      → HasNoAcls (inode_at p new.sectors n) → Holds new.sectors (inode_at p new.sectors n) target → HasNoHole new.sectors (inode_at p new.sectors n)
      → TakesInode p n (record { node = link_made directory cred target; names = 1; parent = dir_ino }) old.sectors new.sectors
  link_taken dir_ino uid gid directory cred target owner group is acls holds whole =
      let group_made : ℕ = if directory.mode / S_ISGID % 2 == 1 then directory.gid else cred.gid in
      record {
        super = touches.super;
        free = free;
        change = touches.inode;
        taken = used;
        holds = new_link_held new.sectors (inode_at p new.sectors n) cred.uid group_made dir_ino target
            (subst (λ (k : ℕ). IsNewLink cred.uid k (inode_at p new.sectors n)) group (subst (λ (k : ℕ). IsNewLink k gid (inode_at p new.sectors n)) owner is))
            acls holds whole;
      }

-- ---- symlink

symlink_is : (target path : List ℕ) → row_of (Symlink target path) ≡ symlink_row target path
unfolding row_of
symlink_is target path = refl

-- the target of symlink is checked
pub symlink_by_path : {who : Who} → (target path : List ℕ) (checks : Checked) → checks ≡ checked (first_of (symlink_arguments target))
    → WalksPath who (Symlink target path) checks false Parent path symlink_demands (symlink_effect target)
symlink_by_path {who} target path checks are = record { arguments = symlink_arguments target; row = symlink_is target path; are_checked = are; asks = refl; opens = refl; may = may_make who _ refl refl }

-- who makes a link is told so
pub told_link : (who : Who) (target path : List ℕ) (n : ℕ) → told_by who (Symlink target path) n Done ≡ made_reply who n Done
told_link (ByProcess pid) target path n = refl
told_link (ByActor actor) target path n = refl

-- and is one
pub is_target : (target : List ℕ) (checks : Checked) → checks ≡ checked (first_of (symlink_arguments target)) → checks ≡ Ok tt → IsBytes target → IsTarget target
is_target target checks are fine bytes =
    let met = (met_ok {A = Unit {0}} (first_of (symlink_arguments target)) tt tt (sym are ∙ fine)).0 in
    let empty = refuse ENOENT (is_empty target) in
    let zero = refuse EINVAL (list_any (λ b. b == 0) target) in
    let long = refuse ENAMETOOLONG (nat_lt target_limit (length target)) in
    let after = then_met empty (first_of (zero ∷ long ∷ [])) met in
    let last = then_met zero (first_of (long ∷ [])) after in
    target_is target bytes (first_met empty (first_of (zero ∷ long ∷ [])) met, (first_met zero (first_of (long ∷ [])) after, (first_met long (first_of []) last, tt)))

-- what was found is new
pub is_link_name : (f : Found) → refused_or {A = Unit {0}} (first_of (link_name_asked f)) (Ok tt) ≡ Ok tt → (first_of (link_name_asked f) ≡ None) × (f.ino ≡ None)
is_link_name f is =
    let met = (met_ok {A = Unit {0}} (first_of (link_name_asked f)) tt tt is).0 in
    (met, is_new_if f (first_met (must_be_new f) (first_of (refuse ENOENT f.slash ∷ [])) met))

module _ {p : Geometry} {map : SectorMap} {tables : Tables} {s : State} (at : IsStateOf p map tables s) (q : Process) (f : Found) {who : Who} {path : List ℕ}
    (has : HasFound s who q false Parent path f) (bytes : IsBytes path) (is : refused_or {A = Unit {0}} (first_of (link_name_asked f)) (Ok tt) ≡ Ok tt) where
  pub link_changes : (target : List ℕ) → IsTarget target → (new : SectorMap) (n : ℕ) → first_of (make_asked p map q.cred s.tree f.dir_ino (f.step - 1)) ≡ None
      → MakesNode p f.dir_ino f.name n (born_link q.cred target (the_node s.tree f.dir_ino)) map new
      → (c : IsChange p new tables s q (symlink_demands (scene_at s q f)) (symlink_effect target (scene_at s q f)) Done ((f.dir_ino, Modified) ∷ (n, Born) ∷ [])) × (c.number ≡ n)
  link_changes target valid new n allows made =
      let x = is_link_name f is in
      let fits = parent_fits at q f has bytes x.1 in
      node_made at q f has bytes x.1 (born_link q.cred target (the_node s.tree f.dir_ino))
      (link_is_born s.room s.tree q.cred (caller_fits at has).cred (the_node s.tree f.dir_ino) fits.group target valid)
      new made (symlink_demands (scene_at s q f)) (space_met at q f (link_name_asked f) x.0 allows) allows

-- the link was made
module _ {p : Geometry} {old mid last : TxnState} {tables : Tables} {who : Who} {checks : Checked} {path : List ℕ} {q : Process} {f : Found} {n : ℕ} (target : List ℕ)
    (bytes : IsBytes target) (are : checks ≡ checked (first_of (symlink_arguments target))) (same : IsUnchanged old mid) (w : HasWalked p mid tables who checks false Parent path q f)
    (is : refused_or {A = Unit {0}} (first_of (link_name_asked f)) (Ok tt) ≡ Ok tt)
    (made : Makes p q.cred f (λ (t : Tree). born_link q.cred target (the_node t f.dir_ino)) mid last (Ok n)) where
  pub link_may_touch : MayMoveTimes p ((f.dir_ino, Modified) ∷ (n, Born) ∷ []) last
  link_may_touch = made_may_touch link_name_asked (symlink_by_path target path checks are) same w (is_link_name f is).1 last n (λ (t : Tree). born_link q.cred target (the_node t f.dir_ino)) made.each
      (λ s has at. link_changes at q f has w.bytes is target (is_target target checks are w.fine bytes) last.sectors n) made.store 7 (omega arith) made.taken

  pub link_was_made : {time : ℕ} {new : TxnState} (answer : Reply) → told_by who (Symlink target path) n Done ≡ answer → MovesTimes p time ((f.dir_ino, Modified) ∷ (n, Born) ∷ []) last new → Performs p time (ByCaller who (Symlink target path)) old new tables tables (Ok answer)
  link_was_made answer tells moved = made_done link_name_asked (symlink_by_path target path checks are) same w (is_link_name f is).1 last n (λ (t : Tree). born_link q.cred target (the_node t f.dir_ino)) made.each
      (λ s has at. link_changes at q f has w.bytes is target (is_target target checks are w.fine bytes) last.sectors n) answer tells made.store moved
