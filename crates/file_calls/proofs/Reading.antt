-- What read gives.
--     read_part, written_back        the bytes that are read
--     read_by, reads_keep, reads_asks        its row
--     read_refused, read_told, read_ends        what it answers, and where it ends
--     end_fits        the offset behind them fits
use Rattle.call_parts.specs.BothTables.{Tables}
use Rattle.call_parts.specs.declared.reaching.OpenAt.{OpenAt}
use Rattle.call_parts.specs.declared.reaching.OpenAt.TheVariants.{Descriptor as AtDescriptor, Handle as AtHandle}
use Rattle.fs_model.specs.declared.event.HandleCall.TheVariants.{Read as ReadBy}
use Rattle.fs_model.specs.HandleCalls.{handle_call_row}
use Rattle.call_parts.specs.Callers.{asks_of}
use Rattle.file_calls.specs.Places.{read_through, read_most}
use Rattle.std.specs.Prelude.{◌≡◌, ◌≢◌, ℕ, ◌+◌, ◌-◌, ◌^◌, ◌<◌, ◌≤◌, min, Bool, List, [], ◌∷◌, ◌++◌, length, take, drop, None, Some, Err, IsTrue}
use Rattle.std.proofs.Common.{refl, sym, ap, subst, arith, ◌∙◌, Fits, w64}
use Rattle.std.proofs.lemmas.List.{length-take, length-drop, append-nil, take-append-le, take_all, take_min, drop_all}
use Rattle.fs_cred.specs.declared.errno.Errno.TheVariants.{EISDIR}
use Rattle.fs_cred.specs.declared.refusal.Refusal.{Refusal}
use Rattle.fs_layout.specs.declared.inode.Inode.{Inode}
use Rattle.fs_layout.specs.declared.inode.Kind.TheVariants as kinds
use Rattle.fs_layout.specs.declared.geometry.Geometry.{Geometry}
use Rattle.fs_layout.specs.Bytes.{SectorMap}
use Rattle.fs_layout.specs.Images.{inode_at, Holds}
use Rattle.block_map.specs.Blocks.{IsReadOf}
use Rattle.fs_model.specs.declared.call.Call.TheVariants.{Read}
use Rattle.fs_model.specs.declared.reply.Reply.TheVariants.{Data}
use Rattle.fs_model.specs.Demands.{refuse, first_of}
use Rattle.fs_model.specs.Limits.{handle_read_limit}
use Rattle.fs_model.specs.Nodes.{Node, bytes_in}
use Rattle.fs_model.specs.Processes.{Descriptor, with_offset}
use Rattle.fs_model.specs.Rows.{row_of}
use Rattle.fs_model.specs.Rules.{is_directory_kind}
use Rattle.fs_model.specs.Scenes.{Scene, node_open, with_process}
use Rattle.fs_model.specs.States.{State}
use Rattle.fs_model.specs.DescriptorCalls.{read_row, read_within, read_demands, read_effect}
use Rattle.fs_model.proofs.StepsBodies.{bytes_are_few}
use Rattle.call_parts.specs.Performing.{IsStateOf}
use Rattle.call_parts.specs.declared.reaching.OpenFor.TheVariants.{Reading}
use Rattle.call_parts.specs.Reaching.{fd_of, ActsOn, IsOpened}
use Rattle.call_parts.specs.Telling.{checked}
use Rattle.call_parts.proofs.Calling.{first_refuses}
use Rattle.call_parts.proofs.ByDescriptor.{KeepsHandles, open_scene, the_opened, open_fits, open_node, open_kind}
use Rattle.file_calls.proofs.HeldFiles.{open_file}

-- a buffer that is no longer than what is left is read full
pub read_part : (bytes old new : List ℕ) (offset most size count : ℕ) → length old ≡ min most (size - offset) → size ≡ length bytes
    → IsReadOf bytes offset old new count → new ≡ take most (drop offset bytes)
read_part bytes old new offset most size count len is_size is =
    let left : length (drop offset bytes) ≡ length bytes - offset = length-drop offset bytes in
    let full : count ≡ length old = omega (arith, is.len, len, is_size) in
    let whole : count ≡ min most (length (drop offset bytes)) = omega (arith, full, len, is_size, left) in
    is.content
    ∙ ap (λ (l : List ℕ). take count (drop offset bytes) ++ l) (drop_all count old (omega (arith, full)))
    ∙ append-nil (take count (drop offset bytes))
    ∙ ap (λ (n : ℕ). take n (drop offset bytes)) whole
    ∙ take_min most (drop offset bytes)

-- a buffer that is written back whole
pub written_back : (all to rest : List ℕ) (len : ℕ) → all ≡ take len (to ++ rest) → length to ≡ len → all ≡ to
written_back all to rest len is same =
    is ∙ take-append-le len to rest (omega (arith, same)) ∙ take_all len to (omega (arith, same))

-- of at most so many as are read at once
pub read_of_most : {map : SectorMap} {v : Inode} (offset len count most : ℕ) {read : List ℕ} → count ≡ min len most
    → ((bytes : List ℕ) → Holds map v bytes → read ≡ take count (drop offset bytes)) → (bytes : List ℕ) → Holds map v bytes → read ≡ take (min len most) (drop offset bytes)
read_of_most offset len count most same found bytes holds = found bytes holds ∙ ap (λ n. take n (drop offset bytes)) same

-- ---- its row

read_is : (fd len : ℕ) → row_of (Read fd len) ≡ read_row fd len
unfolding row_of
read_is fd len = refl

read_from : (offset len : ℕ) → handle_call_row (ReadBy offset len) ≡ read_within handle_read_limit 0 len
unfolding handle_call_row
read_from offset len = refl

pub read_by : (place : OpenAt) (len : ℕ) → ActsOn place (read_through place len) Reading (read_demands (fd_of place)) (read_effect (read_most place) (fd_of place) len)
read_by (AtDescriptor pid fd) len = record { asked = refl; row = read_is fd len }
read_by (AtHandle handle offset) len = record { asked = (refl, refl); row = read_from offset len }

pub reads_keep : (place : OpenAt) (len : ℕ) → KeepsHandles (read_through place len)
reads_keep (AtDescriptor pid fd) len = λ openings. refl
reads_keep (AtHandle handle offset) len = λ openings. refl

pub reads_asks : (place : OpenAt) (len : ℕ) → IsTrue (asks_of (read_through place len))
reads_asks (AtDescriptor pid fd) len = refl
reads_asks (AtHandle handle offset) len = refl

-- ---- what it answers

module _ {p : Geometry} {map : SectorMap} {tables : Tables} {place : OpenAt} {d : Descriptor} (o : IsOpened tables place d) (s : State) (at : IsStateOf p map tables s) where
  abbrev scene : Scene
  scene = open_scene s o.process

  pub read_refused : (v : Inode) → v ≡ inode_at p map d.ino → (e : Refusal) → checked (refuse EISDIR (is_directory_kind v.kind)) ≡ Err e
      → first_of (read_demands (fd_of place) scene) ≡ Some e
  read_refused v is e refuses =
      ap (λ (b : Bool). first_of (refuse EISDIR b ∷ [])) (open_kind o s at v is) ∙ first_refuses (refuse EISDIR (is_directory_kind v.kind)) [] e refuses

  module _ (v : Inode) (is : v ≡ inode_at p map d.ino) (no_directory : v.kind ≢ kinds.Directory) (most len : ℕ) (read : List ℕ)
      (found : (bytes : List ℕ) → Holds map v bytes → read ≡ take (min len most) (drop d.offset bytes)) where
    read_is_part : read ≡ take (min len most) (drop d.offset (bytes_in (node_open scene (fd_of place)).body))
    read_is_part = found (bytes_in (node_open scene (fd_of place)).body) (open_file o s at v is no_directory).holds

    pub read_told : (first_of (read_demands (fd_of place) scene) ≡ None) × (read_effect most (fd_of place) len scene ≡ with_process (with_offset o.process (fd_of place) (d.offset + length read)) (Data read))
    read_told =
        let bytes = bytes_in (node_open scene (fd_of place)).body in (
          ap (λ (b : Bool). first_of (refuse EISDIR b ∷ [])) (open_file o s at v is no_directory).no_directory,
          ap (λ (x : Descriptor). with_process (with_offset o.process (fd_of place) (x.offset + length (take (min len most) (drop x.offset bytes))))
              (Data (take (min len most) (drop x.offset bytes)))) (the_opened o)
              ∙ ap (λ (l : List ℕ). with_process (with_offset o.process (fd_of place) (d.offset + length l)) (Data l)) (sym read_is_part),
        )

    -- the offset stays one of 64 bits
    pub read_ends : d.offset < 2 ^ 64 → d.offset + length read < 2 ^ 64
    read_ends fits =
        let x = open_fits o s at in
        let bytes = bytes_in (node_open scene (fd_of place)).body in
        let few : length bytes ≤ s.room.file_limit =
        subst (λ (n : Node). length (bytes_in n.body) ≤ s.room.file_limit) (sym (open_node o s at))
        (bytes_are_few s.room s.tree x.node.body (at.is_state.tree.each d.ino x.node x.is_there).body) in
        let limit : s.room.file_limit < 2 ^ 63 = at.is_state.room.file_limit in
        let part : length read ≡ length (take (min len most) (drop d.offset bytes)) = ap length read_is_part in
        omega (arith, part, length-take (min len most) (drop d.offset bytes), length-drop d.offset bytes, few, limit, fits)

pub end_fits : (offset read len : ℕ) → offset + read < 2 ^ 64 → len ≡ read → Fits w64 (offset + len)
end_fits offset read len few same = omega (arith, few, same)
