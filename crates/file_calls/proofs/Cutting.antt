-- What ftruncate asks and does.
--     ftruncate_by, resizes_keep        its row
--     size_asked        what it asks
--     cuts        the tree afterwards
use Rattle.call_parts.specs.declared.reaching.OpenAt.{OpenAt}
use Rattle.call_parts.specs.declared.reaching.OpenAt.TheVariants.{Descriptor as AtDescriptor, Handle as AtHandle}
use Rattle.fs_model.specs.declared.event.HandleCall.TheVariants.{Resize}
use Rattle.fs_model.specs.HandleCalls.{handle_call_row}
use Rattle.call_parts.specs.BothTables.{Tables, users_of}
use Rattle.file_calls.specs.Places.{offset_at, resize_through}
use Rattle.std.specs.Prelude.{◌≡◌, ℕ, ◌≤◌, Bool, true, [], ◌∷◌, nat_lt, None, Some, IsTrue, Ok, Err}
use Rattle.std.proofs.Common.{refl, sym, ap, subst, arith, ◌∙◌}
use Rattle.std.proofs.lemmas.Bool.{le-ltb}
use Rattle.fs_cred.specs.declared.errno.Errno.TheVariants.{EFBIG}
use Rattle.fs_cred.specs.declared.refusal.Refusal.{Refusal}
use Rattle.fs_layout.specs.declared.geometry.Geometry.{Geometry}
use Rattle.fs_layout.specs.Bytes.{resized}
use Rattle.fs_layout.specs.Version.{max_file_size}
use Rattle.sector_txn.specs.Sectors.{TxnState}
use Rattle.fs_model.specs.declared.call.Call.TheVariants.{Ftruncate}
use Rattle.fs_model.specs.declared.reply.Reply.TheVariants.{Done}
use Rattle.fs_model.specs.Births.{the_node}
use Rattle.fs_model.specs.declared.touch.Touch.TheVariants.{Modified}
use Rattle.fs_model.specs.TreeChanges.{Rewrite}
use Rattle.fs_model.specs.Demands.{refuse, first_of}
use Rattle.fs_model.specs.DescriptorCalls.{ftruncate_row, ftruncate_demands, ftruncate_effect, resized_node}
use Rattle.fs_model.specs.Nodes.{Node, bytes_in}
use Rattle.fs_model.specs.Processes.{Descriptor, is_open}
use Rattle.fs_model.specs.Rows.{row_of}
use Rattle.fs_model.specs.Scenes.{Effect}
use Rattle.fs_model.specs.States.{State}
use Rattle.fs_model.specs.Trees.{Room}
use Rattle.fs_model.proofs.StepsBodies.{bytes_are_bytes, length-resized, IsBytes-resized}
use Rattle.path_walk.specs.Answers.{refused_or}
use Rattle.call_parts.specs.Performing.{IsStateOf}
use Rattle.call_parts.specs.declared.reaching.OpenFor.TheVariants.{Writing}
use Rattle.call_parts.specs.Reaching.{fd_of, ActsOn, IsOpened}
use Rattle.call_parts.proofs.Calling.{first_refuses}
use Rattle.call_parts.specs.ByteChanges.{ChangesBytes}
use Rattle.call_parts.proofs.ByDescriptor.{KeepsHandles, open_scene, the_opened, open_fits, open_node}
use Rattle.call_parts.proofs.Changed.{IsChange}
use Rattle.file_calls.proofs.Rewritten.{bytes_rewritten}
use Rattle.file_calls.proofs.Writing.{file_kind}

ftruncate_is : (fd size : ℕ) → row_of (Ftruncate fd size) ≡ ftruncate_row fd size
unfolding row_of
ftruncate_is fd size = refl

resize_is : (size : ℕ) → handle_call_row (Resize size) ≡ ftruncate_row 0 size
unfolding handle_call_row
resize_is size = refl

pub ftruncate_by : (place : OpenAt) (size : ℕ) → offset_at place ≡ 0 → ActsOn place (resize_through place size) Writing (ftruncate_demands size) (ftruncate_effect (fd_of place) size)
ftruncate_by (AtDescriptor pid fd) size start = record { asked = refl; row = ftruncate_is fd size }
ftruncate_by (AtHandle handle offset) size start = record { asked = (refl, sym start); row = resize_is size }

pub resizes_keep : (place : OpenAt) (size : ℕ) → KeepsHandles (resize_through place size)
resizes_keep (AtDescriptor pid fd) size = λ openings. refl
resizes_keep (AtHandle handle offset) size = λ openings. refl

module _ {p : Geometry} (old : TxnState) {tables : Tables} {place : OpenAt} {d : Descriptor} (o : IsOpened tables place d) (size : ℕ) (s : State)
    (at : IsStateOf p old.sectors tables s) where
  asked_is : first_of (ftruncate_demands size (open_scene s o.process)) ≡ first_of (refuse EFBIG (nat_lt (max_file_size p.version) size) ∷ [])
  asked_is =
      ap (λ (r : Room). first_of (refuse EFBIG (nat_lt r.file_limit size) ∷ [])) at.same_room

  pub size_asked : (e : Refusal) → refused_or {A = Unit {0}} (refuse EFBIG (nat_lt (max_file_size p.version) size)) (Ok tt) ≡ Err e
      → first_of (ftruncate_demands size (open_scene s o.process)) ≡ Some e
  size_asked e is = asked_is ∙ first_refuses (refuse EFBIG (nat_lt (max_file_size p.version) size)) [] e is

  size_met : size ≤ max_file_size p.version → first_of (ftruncate_demands size (open_scene s o.process)) ≡ None
  size_met fits = asked_is ∙ ap (λ (b : Bool). first_of (refuse EFBIG b ∷ [])) (le-ltb (max_file_size p.version) size fits)

  pub cuts : (new : TxnState) → d.write ≡ true → size ≤ max_file_size p.version
      → ChangesBytes p d.ino (λ held. resized held size) old.sectors new.sectors
      → IsChange p new.sectors tables s o.process (ftruncate_demands size (open_scene s o.process)) (λ k. ftruncate_effect (fd_of place) size (open_scene s o.process)) Done
      ((d.ino, Modified) ∷ [])
  cuts new open_to_write fits c =
      let x = open_fits o s at in
      let body = (at.is_state.tree.each d.ino x.node x.is_there).body in
      let limit : s.room.file_limit ≡ max_file_size p.version = ap (λ (r : Room). r.file_limit) at.same_room in
      let len = length-resized (bytes_in x.node.body) size in
      record {
        met = size_met fits;
        number = 0;
        change = Rewrite Modified d.ino (resized_node size x.node);
        is = ap (λ (y : Descriptor). change_of y.ino (the_node s.tree y.ino)) (the_opened o)
            ∙ ap (change_of d.ino) (sym (ap (λ (y : Descriptor). the_node s.tree y.ino) (the_opened o)) ∙ open_node o s at);
        new_number = tt;
        times = refl;
        holds = bytes_rewritten at (users_of tables) (λ n was. subst (λ (k : Tables). IsTrue (is_open (users_of k) n)) at.same_tables was) d.ino x.node x.is_there
            (file_kind o s at open_to_write) (λ held. resized held size) c
            (omega (arith, len, limit, fits)) (IsBytes-resized (bytes_in x.node.body) size (bytes_are_bytes s.room s.tree x.node.body body));
      }
    where
      change_of : ℕ → Node → Effect
      change_of n node = record { change = Rewrite Modified n (resized_node size node); process = o.process; reply = Done }
