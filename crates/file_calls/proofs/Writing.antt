-- What write asks and does.
--     write_by, writes_keep        its row
--     open_to_write        what is open for that
--     enough_for_some, enough_free        how many sectors have to be free
--     asks_nothing        to write nothing is never refused
--     too_far, too_full, all_met        what it asks
--     writes        the tree and the process afterwards
use Rattle.call_parts.specs.declared.reaching.OpenAt.{OpenAt}
use Rattle.call_parts.specs.declared.reaching.OpenAt.TheVariants.{Descriptor as AtDescriptor, Handle as AtHandle}
use Rattle.fs_model.specs.declared.event.HandleCall.TheVariants.{Write as WriteBy}
use Rattle.fs_model.specs.HandleCalls.{handle_call_row}
use Rattle.call_parts.specs.BothTables.{Tables, tables_in, users_of}
use Rattle.file_calls.specs.Places.{write_through, write_most}
use Rattle.std.specs.Prelude.{◌≡◌, ℕ, ◌+◌, ◌-◌, ◌<◌, ◌≤◌, ◌==◌, min, Bool, true, false, not, List, [], ◌∷◌, length, take, nat_lt, nat_le, if◌then◌else◌, None, Some, IsTrue, IsFalse, Ok}
use Rattle.std.proofs.Common.{refl, sym, ap, subst, arith, ◌∙◌, inl, inr}
use Rattle.std.proofs.lemmas.Bool.{cases_lt, eqb-true, ltb-false, lt-ltb, le-ltb, le-leb, lt-leb}
use Rattle.std.proofs.lemmas.List.{length-take}
use Rattle.fs_cred.specs.declared.errno.Errno.TheVariants.{EBADF, EFBIG, ENOSPC}
use Rattle.fs_cred.specs.declared.refusal.Refusal.TheVariants.{Failed}
use Rattle.fs_layout.specs.declared.inode.Inode.{Inode}
use Rattle.fs_layout.specs.declared.inode.Kind.TheVariants as kinds
use Rattle.fs_layout.specs.declared.geometry.Geometry.{Geometry}
use Rattle.fs_layout.specs.declared.version.Version.{Version}
use Rattle.fs_layout.specs.Bytes.{SectorMap, IsBytes, overwritten}
use Rattle.fs_layout.specs.Images.{inode_at, free_sectors}
use Rattle.fs_layout.specs.Version.{max_file_size}
use Rattle.fs_layout.proofs.Sectors.{IsBytes-take}
use Rattle.sector_txn.specs.Sectors.{TxnState, IsUnchanged}
use Rattle.bit_alloc.proofs.Transactions.{unchanged_joined}
use Rattle.fs_model.specs.declared.call.Call.TheVariants.{Write}
use Rattle.fs_model.specs.declared.reply.Reply.TheVariants.{Wrote}
use Rattle.fs_model.specs.declared.touch.Touch.TheVariants.{Modified}
use Rattle.fs_model.specs.TreeChanges.{Rewrite}
use Rattle.fs_model.specs.Demands.{refuse, first_of}
use Rattle.fs_model.specs.DescriptorCalls.{write_row, write_within, write_demands, write_effect, write_offset, written}
use Rattle.fs_model.specs.Limits.{move_limit, handle_write_limit, least_free, much_free, free_for}
use Rattle.fs_model.specs.Nodes.{Node, Body, File, Dir, Link, bytes_in, is_directory, is_link}
use Rattle.fs_model.specs.Parts.{is_empty}
use Rattle.fs_model.specs.Processes.{Descriptor, the_descriptor, with_offset, is_open}
use Rattle.fs_model.specs.Rows.{row_of}
use Rattle.fs_model.specs.Scenes.{Scene, Effect, node_open, answers}
use Rattle.fs_model.specs.States.{State}
use Rattle.fs_model.specs.StoredNodes.{HoldsBody}
use Rattle.fs_model.specs.Trees.{Room}
use Rattle.fs_model.proofs.StepsBodies.{bytes_are_few, bytes_are_bytes, length-overwritten, IsBytes-overwritten}
use Rattle.call_parts.specs.Performing.{IsStateOf}
use Rattle.fs_model.proofs.StepsDemands.{unrefused}
use Rattle.path_walk.specs.Answers.{refused_or}
use Rattle.call_parts.proofs.Calling.{state_tree, met_ok}
use Rattle.path_walk.proofs.HeldNodes.{held_node, bytes_say}
use Rattle.path_walk.proofs.Kept.{kept}
use Rattle.call_parts.specs.ByteChanges.{ChangesBytes}
use Rattle.call_parts.specs.declared.reaching.OpenFor.TheVariants.{Writing}
use Rattle.call_parts.specs.Reaching.{fd_of, ActsOn, IsOpened, IsOpenFor}
use Rattle.call_parts.proofs.Changed.{IsChange}
use Rattle.call_parts.proofs.ByDescriptor.{KeepsHandles, open_scene, the_opened, open_fits, open_node}
use Rattle.file_calls.proofs.Rewritten.{bytes_rewritten}

write_is : (fd : ℕ) (bytes : List ℕ) → row_of (Write fd bytes) ≡ write_row fd bytes
unfolding row_of
write_is fd bytes = refl

write_from : (offset : ℕ) (bytes : List ℕ) → handle_call_row (WriteBy offset bytes) ≡ write_within handle_write_limit 0 bytes
unfolding handle_call_row
write_from offset bytes = refl

pub write_by : (place : OpenAt) (bytes : List ℕ)
    → ActsOn place (write_through place bytes) Writing (write_demands (write_most place) (fd_of place) bytes) (write_effect (write_most place) (fd_of place) bytes)
write_by (AtDescriptor pid fd) bytes = record { asked = refl; row = write_is fd bytes }
write_by (AtHandle handle offset) bytes = record { asked = (refl, refl); row = write_from offset bytes }

pub writes_keep : (place : OpenAt) (bytes : List ℕ) → KeepsHandles (write_through place bytes)
writes_keep (AtDescriptor pid fd) bytes = λ openings. refl
writes_keep (AtHandle handle offset) bytes = λ openings. refl

met_only : (b : Bool) → refuse EBADF (not b) ≡ None → b ≡ true
met_only true e = refl
met_only false e = absurd (cc)

-- what is open for writing was opened so
pub open_to_write : {tables : Tables} {place : OpenAt} {d : Descriptor} → IsOpenFor tables place Writing d → d.write ≡ true
open_to_write {d = d} w = met_only d.write (ap (λ (x : Descriptor). refuse EBADF (not x.write)) (sym (the_opened w.opened)) ∙ w.fine)

pub is_enough : (free least : ℕ) → refused_or {A = Unit {0}} (refuse ENOSPC (nat_lt free least)) (Ok tt) ≡ Ok tt → least ≤ free
is_enough free least e =
    let met = met_ok {A = Unit {0}} (refuse ENOSPC (nat_lt free least)) tt tt e in
    ltb-false free least (unrefused ENOSPC (nat_lt free least) met.0)

-- ---- how many sectors have to be free
-- for no more bytes than a move has, and for more
free_for_few : (len : ℕ) → len ≤ move_limit → free_for len ≡ least_free
free_for_few len few = ap (λ (b : Bool). if b then least_free else much_free) (le-leb len move_limit few)

free_for_more : (len : ℕ) → move_limit < len → free_for len ≡ much_free
free_for_more len more = ap (λ (b : Bool). if b then least_free else much_free) (lt-leb len move_limit more)

free_for_least : (len : ℕ) → least_free ≤ free_for len
free_for_least len = elim (cases_lt move_limit len) [
  | inl more ↦ let e = free_for_more len more in omega (arith, e)
  | inr few ↦ let e = free_for_few len few in omega (arith, e)
]

-- what is enough for all of the bytes is so for some of them
pub enough_for_some : (count len free : ℕ) → count ≤ len → free_for len ≤ free → free_for count ≤ free
enough_for_some count len free some enough = elim (cases_lt move_limit count) [
  | inl more ↦ let e = free_for_more count more in let f = free_for_more len (omega (arith, more, some)) in omega (arith, e, f, enough)
  | inr few ↦ let e = free_for_few count few in let least = free_for_least len in omega (arith, e, least, enough)
]

-- and where so many are free, no fewer are than the bytes take
pub enough_free : (len taken free : ℕ) → free_for len ≤ free → taken ≤ 38 → (len ≤ move_limit → taken ≤ 14) → taken ≤ free
enough_free len taken free enough most few_taken = elim (cases_lt move_limit len) [
  | inl more ↦ let e = free_for_more len more in omega (arith, e, enough, most)
  | inr few ↦ let e = free_for_few len few in let least = few_taken few in omega (arith, e, enough, least)
]

-- how many are written of what was asked for
pub counted_so : (count asked len most left : ℕ) → asked ≡ min len most → count ≡ min asked left → count ≡ min len (min most left)
counted_so count asked len most left asked_is is = omega (arith, asked_is, is)

-- by the length of what is given
pub empty_if : (bytes given : List ℕ) → given ≡ bytes → true ≡ (length given == 0) → is_empty bytes ≡ true
empty_if [] given same is = refl
empty_if (b ∷ bytes) given same is =
    let none = eqb-true (length given) 0 (sym is) in
    absurd (omega (arith, none, ap length same))

pub some_if : (bytes given : List ℕ) → given ≡ bytes → false ≡ (length given == 0) → is_empty bytes ≡ false
some_if [] given same is = absurd (let e : false ≡ true = is ∙ ap (λ (l : List ℕ). length l == 0) same in cc)
some_if (b ∷ bytes) given same is = refl

-- a file is open for writing
written_kind : (version : Version) (map : SectorMap) (v : Inode) (b : Body) → HoldsBody version map v b → IsFalse (is_link b) → IsFalse (is_directory b) → v.kind ≡ kinds.File
written_kind version map v (File a bytes) h no_link no_directory = h.kind
written_kind version map v (Dir a d) h no_link no_directory = absurd (cc)
written_kind version map v (Link target) h no_link no_directory = absurd (cc)

no_directory_written : (b w : Bool) → (IsTrue b → IsFalse w) → w ≡ true → IsFalse b
no_directory_written true w never is = absurd (let e = never refl in let f : true ≡ false = sym is ∙ e in cc)
no_directory_written false w never is = refl

module _ {tables : Tables} {place : OpenAt} {d : Descriptor} (o : IsOpened tables place d) where
  pub asks_nothing : (most : ℕ) (s : State) (bytes : List ℕ) → is_empty bytes ≡ true
      → (first_of (write_demands most (fd_of place) bytes (open_scene s o.process)) ≡ None)
      × (write_effect most (fd_of place) bytes (open_scene s o.process) ≡ answers (open_scene s o.process) (Wrote 0))
  asks_nothing most s [] e = (refl, refl)
  asks_nothing most s (b ∷ bytes) e = absurd (cc)

module _ {p : Geometry} {map : SectorMap} {tables : Tables} {place : OpenAt} {d : Descriptor} (o : IsOpened tables place d) (s : State) (at : IsStateOf p map tables s)
    (wrote : d.write ≡ true) where
  pub file_kind : (inode_at p map d.ino).kind ≡ kinds.File
  file_kind =
      let x = open_fits o s at in
      written_kind p.version map (inode_at p map d.ino) x.node.body (held_node (state_tree at) d.ino x.node x.is_there).body x.no_link
      (no_directory_written (is_directory x.node.body) d.write x.no_writes wrote)

  file_size : (inode_at p map d.ino).size ≡ length (bytes_in (open_fits o s at).node.body)
  file_size =
      let x = open_fits o s at in
      (bytes_say p.version map (inode_at p map d.ino) x.node.body file_kind (held_node (state_tree at) d.ino x.node x.is_there).body).size

  abbrev scene : Scene
  scene = open_scene s o.process

  module _ (v : Inode) (is : v ≡ inode_at p map d.ino) (offset : ℕ) (offset_is : offset ≡ (if d.append then v.size else d.offset)) where
    abbrev geometry_of : Descriptor → Node → ℕ
    geometry_of x node = if x.append then length (bytes_in node.body) else x.offset

    starts_at : geometry_of d (open_fits o s at).node ≡ offset
    starts_at =
        ap (λ (n : ℕ). if d.append then n else d.offset) (sym (ap (λ (i : Inode). i.size) is ∙ file_size)) ∙ sym offset_is

    offset_same : write_offset (open_scene s o.process) (fd_of place) ≡ offset
    offset_same =
        ap (λ (x : Descriptor). geometry_of x (node_open (open_scene s o.process) (fd_of place))) (the_opened o)
        ∙ ap (geometry_of d) (open_node o s at)
        ∙ starts_at

    limit_is : s.room.file_limit ≡ max_file_size p.version
    limit_is = ap (λ (r : Room). r.file_limit) at.same_room

    module _ (most : ℕ) (bytes : List ℕ) (some : is_empty bytes ≡ false) where
      demands_are : first_of (write_demands most (fd_of place) bytes (open_scene s o.process))
          ≡ first_of (refuse EFBIG (nat_le (max_file_size p.version) offset) ∷ refuse ENOSPC (nat_lt s.free (free_for (min (length bytes) most))) ∷ [])
      demands_are =
          ap (λ (b : Bool). first_of (if not b then (refuse EFBIG (nat_le s.room.file_limit (write_offset (open_scene s o.process) (fd_of place))) ∷ refuse ENOSPC (nat_lt s.free (free_for (min (length bytes) most))) ∷ []) else [])) some
          ∙ ap (λ (n : ℕ). first_of (refuse EFBIG (nat_le n (write_offset (open_scene s o.process) (fd_of place))) ∷ refuse ENOSPC (nat_lt s.free (free_for (min (length bytes) most))) ∷ [])) limit_is
          ∙ ap (λ (n : ℕ). first_of (refuse EFBIG (nat_le (max_file_size p.version) n) ∷ refuse ENOSPC (nat_lt s.free (free_for (min (length bytes) most))) ∷ [])) offset_same

      pub too_far : max_file_size p.version ≤ offset → first_of (write_demands most (fd_of place) bytes (open_scene s o.process)) ≡ Some (Failed EFBIG)
      too_far far =
          demands_are ∙ ap (λ (b : Bool). first_of (refuse EFBIG b ∷ refuse ENOSPC (nat_lt s.free (free_for (min (length bytes) most))) ∷ [])) (le-leb (max_file_size p.version) offset far)

      module _ (near : offset < max_file_size p.version) where
        near_is : first_of (write_demands most (fd_of place) bytes (open_scene s o.process)) ≡ first_of (refuse ENOSPC (nat_lt s.free (free_for (min (length bytes) most))) ∷ [])
        near_is =
            demands_are ∙ ap (λ (b : Bool). first_of (refuse EFBIG b ∷ refuse ENOSPC (nat_lt s.free (free_for (min (length bytes) most))) ∷ [])) (lt-leb (max_file_size p.version) offset near)

        pub too_full : free_sectors p map < free_for (min (length bytes) most) → first_of (write_demands most (fd_of place) bytes (open_scene s o.process)) ≡ Some (Failed ENOSPC)
        too_full few =
            near_is ∙ ap (λ (b : Bool). first_of (refuse ENOSPC b ∷ []))
            (ap (λ (n : ℕ). nat_lt n (free_for (min (length bytes) most))) at.free_is ∙ lt-ltb (free_sectors p map) (free_for (min (length bytes) most)) few)

        pub all_met : free_for (min (length bytes) most) ≤ free_sectors p map → first_of (write_demands most (fd_of place) bytes (open_scene s o.process)) ≡ None
        all_met enough =
            near_is ∙ ap (λ (b : Bool). first_of (refuse ENOSPC b ∷ []))
            (ap (λ (n : ℕ). nat_lt n (free_for (min (length bytes) most))) at.free_is ∙ le-ltb (free_sectors p map) (free_for (min (length bytes) most)) enough)

        abbrev pub effect_at : ℕ → Node → ℕ → ℕ → Effect
        effect_at n node geometry limit =
            let count = min (length bytes) (min most (limit - geometry)) in
            record {
              change = Rewrite Modified n (written node geometry (take count bytes));
              process = with_offset o.process (fd_of place) (geometry + count);
              reply = Wrote count;
            }

        pub effect_is : write_effect most (fd_of place) bytes (open_scene s o.process) ≡ effect_at d.ino (open_fits o s at).node offset (max_file_size p.version)
        effect_is =
            ap (λ (b : Bool). if b then answers (open_scene s o.process) (Wrote 0) else effect_at (the_descriptor o.process (fd_of place)).ino
            (node_open (open_scene s o.process) (fd_of place)) (write_offset (open_scene s o.process) (fd_of place)) s.room.file_limit) some
            ∙ ap (λ (x : Descriptor). effect_at x.ino (node_open (open_scene s o.process) (fd_of place)) (write_offset (open_scene s o.process) (fd_of place)) s.room.file_limit) (the_opened o)
            ∙ ap (λ (x : Node). effect_at d.ino x (write_offset (open_scene s o.process) (fd_of place)) s.room.file_limit) (open_node o s at)
            ∙ ap (λ (x : ℕ). effect_at d.ino (open_fits o s at).node x s.room.file_limit) offset_same
            ∙ ap (effect_at d.ino (open_fits o s at).node offset) limit_is

-- ---- what is written

module _ {p : Geometry} {old new : SectorMap} {tables : Tables} {place : OpenAt} {d : Descriptor} (o : IsOpened tables place d) (s : State) (at : IsStateOf p old tables s)
    (wrote : d.write ≡ true) (v : Inode) (is : v ≡ inode_at p old d.ino) (offset : ℕ) (offset_is : offset ≡ (if d.append then v.size else d.offset))
    (most : ℕ) (bytes : List ℕ) (some : is_empty bytes ≡ false) (near : offset < max_file_size p.version) (enough : free_for (min (length bytes) most) ≤ free_sectors p old) (fresh : IsBytes bytes) (count : ℕ)
    (counted : count ≡ min (length bytes) (min most (max_file_size p.version - offset)))
    (now : Tables) (still : (n : ℕ) → IsTrue (is_open (users_of (tables_in s)) n) → IsTrue (is_open (users_of now) n))
    (c : ChangesBytes p d.ino (λ held. overwritten held offset (take count bytes)) old new) where
  pub writes : IsChange p new now s (with_offset o.process (fd_of place) (offset + count)) (write_demands most (fd_of place) bytes (open_scene s o.process))
      (λ k. write_effect most (fd_of place) bytes (open_scene s o.process)) (Wrote count) ((d.ino, Modified) ∷ [])
  writes =
      let x = open_fits o s at in
      let body = (at.is_state.tree.each d.ino x.node x.is_there).body in
      let limit : s.room.file_limit ≡ max_file_size p.version = ap (λ (r : Room). r.file_limit) at.same_room in
      let len = length-take count bytes in
      record {
        met = all_met o s at wrote v is offset offset_is most bytes some near enough;
        number = 0;
        change = Rewrite Modified d.ino (written x.node offset (take count bytes));
        is = effect_is o s at wrote v is offset offset_is most bytes some near
            ∙ ap (λ (k : ℕ). record { change = Rewrite Modified d.ino (written x.node offset (take k bytes)); process = with_offset o.process (fd_of place) (offset + k); reply = Wrote k }) (sym counted);
        new_number = tt;
        times = refl;
        holds = bytes_rewritten at (users_of now) still d.ino x.node x.is_there (file_kind o s at wrote) (λ held. overwritten held offset (take count bytes)) c
            (length-overwritten (bytes_in x.node.body) offset (take count bytes) s.room.file_limit (bytes_are_few s.room s.tree x.node.body body) (omega (arith, len, counted, limit, near)))
            (IsBytes-overwritten (bytes_in x.node.body) offset (take count bytes) (bytes_are_bytes s.room s.tree x.node.body body) (IsBytes-take count bytes fresh));
      }

-- the same, once the inode was read and space was asked for
module _ {p : Geometry} {old mid asked : TxnState} {new : SectorMap} {tables : Tables} {place : OpenAt} {d : Descriptor} (w : IsOpenFor tables place Writing d) (first : IsUnchanged old mid)
    (second : IsUnchanged mid asked) {v : Inode} (found : v ≡ inode_at p old.sectors d.ino) {offset : ℕ} (offset_is : offset ≡ (if d.append then v.size else d.offset))
    (near : offset < max_file_size p.version) (most : ℕ) {bytes given : List ℕ} (all : given ≡ bytes) (some : is_empty bytes ≡ false) (fresh : IsBytes bytes)
    (enough : refused_or {A = Unit {0}} (refuse ENOSPC (nat_lt (free_sectors p mid.sectors) (free_for (min (length given) most)))) (Ok tt) ≡ Ok tt)
    {count : ℕ} (counted : count ≡ min (length given) (min most (max_file_size p.version - offset)))
    (c : ChangesBytes p d.ino (λ held. overwritten held offset (take count given)) asked.sectors new) where
  pub wrote : (s : State) → IsStateOf p asked.sectors tables s → (now : Tables) → ((n : ℕ) → IsTrue (is_open (users_of (tables_in s)) n) → IsTrue (is_open (users_of now) n))
      → IsChange p new now s (with_offset w.opened.process (fd_of place) (offset + count)) (write_demands most (fd_of place) bytes (open_scene s w.opened.process))
      (λ k. write_effect most (fd_of place) bytes (open_scene s w.opened.process)) (Wrote count) ((d.ino, Modified) ∷ [])
  wrote s at now still =
      let is = kept (λ (m : SectorMap). v ≡ inode_at p m d.ino) (unchanged_joined first second) found in
      let free = subst (λ (l : List ℕ). free_for (min (length l) most) ≤ free_sectors p asked.sectors) all
      (kept (λ (m : SectorMap). free_for (min (length given) most) ≤ free_sectors p m) second (is_enough (free_sectors p mid.sectors) (free_for (min (length given) most)) enough)) in
      writes w.opened s at (open_to_write w) v is offset offset_is most bytes some near free fresh count
      (counted ∙ ap (λ (l : List ℕ). min (length l) (min most (max_file_size p.version - offset))) all) now still
      (subst (λ (l : List ℕ). ChangesBytes p d.ino (λ held. overwritten held offset (take count l)) asked.sectors new) all c)
