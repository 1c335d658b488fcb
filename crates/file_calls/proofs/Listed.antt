-- What readdir lists.
--     listing_begun, listing_grown, listed_as        a listing that grows
--     readdir_by, lists_keep, lists_asks        its row
--     readdir_refused, readdir_told        what it answers
use Rattle.call_parts.specs.BothTables.{Tables}
use Rattle.call_parts.specs.declared.reaching.OpenAt.{OpenAt}
use Rattle.call_parts.specs.declared.reaching.OpenAt.TheVariants.{Descriptor as AtDescriptor, Handle as AtHandle}
use Rattle.fs_model.specs.declared.event.HandleCall.TheVariants.{List as ListBy}
use Rattle.fs_model.specs.HandleCalls.{handle_call_row}
use Rattle.call_parts.specs.Callers.{asks_of}
use Rattle.file_calls.specs.Places.{offset_at, list_through}
use Rattle.std.specs.Prelude.{◌≡◌, ℕ, ◌+◌, ◌<◌, Bool, not, List, [], ◌∷◌, ◌++◌, length, map, take, get_or, None, Some, Result, Ok, Err, IfOk, IsTrue}
use Rattle.std.proofs.Common.{refl, sym, ap, ◌∙◌}
use Rattle.std.proofs.lemmas.List.{map-append, take_more}
use Rattle.fs_cred.specs.declared.errno.Errno.TheVariants.{ENOTDIR}
use Rattle.fs_cred.specs.declared.refusal.Refusal.{Refusal}
use Rattle.fs_layout.specs.declared.inode.Inode.{Inode}
use Rattle.fs_layout.specs.declared.inode.Kind.TheVariants as kinds
use Rattle.fs_layout.specs.declared.geometry.Geometry.{Geometry}
use Rattle.fs_layout.specs.Bytes.{SectorMap}
use Rattle.fs_layout.specs.Directories.{NamedInode, HasNames}
use Rattle.fs_layout.specs.Images.{inode_at}
use Rattle.dir_core.specs.Slots.{name_entry}
use Rattle.fs_model.specs.declared.call.Call.TheVariants.{Readdir}
use Rattle.fs_model.specs.declared.reply.Reply.TheVariants.{Names}
use Rattle.fs_model.specs.Demands.{refuse, first_of}
use Rattle.fs_model.specs.Nodes.{names_of_body}
use Rattle.fs_model.specs.Processes.{Descriptor}
use Rattle.fs_model.specs.Rows.{row_of}
use Rattle.fs_model.specs.Rules.{is_directory_kind}
use Rattle.fs_model.specs.Scenes.{Scene, node_open, answers}
use Rattle.fs_model.specs.States.{State}
use Rattle.fs_model.specs.Trees.{parent}
use Rattle.fs_model.specs.DescriptorCalls.{readdir_row, readdir_demands, readdir_effect}
use Rattle.call_parts.specs.Performing.{IsStateOf}
use Rattle.call_parts.specs.declared.reaching.OpenFor.TheVariants.{Reading}
use Rattle.call_parts.specs.Reaching.{fd_of, ActsOn, IsOpened}
use Rattle.call_parts.specs.Telling.{checked}
use Rattle.call_parts.proofs.Calling.{first_refuses}
use Rattle.call_parts.proofs.ByDescriptor.{KeepsHandles, open_scene, the_opened, open_kind}
use Rattle.file_calls.proofs.HeldFiles.{open_directory, open_names, open_parent}

-- ---- a listing that grows

abbrev pub Entries : Type 0
Entries = List (List ℕ × ℕ)

pub listing_begun : (none one two : Entries) (a b : List ℕ × ℕ) → none ≡ [] → one ≡ none ++ a ∷ [] → two ≡ one ++ b ∷ [] → two ≡ a ∷ b ∷ []
listing_begun none one two a b empty first second =
    second ∙ ap (λ (l : Entries). l ++ b ∷ []) (first ∙ ap (λ (l : Entries). l ++ a ∷ []) empty)

pub listing_grown : (a b : List ℕ × ℕ) (now new : Entries) (slots : List NamedInode) (k : ℕ) (slot : NamedInode) (name : List ℕ) (inode : ℕ)
    → now ≡ a ∷ b ∷ map name_entry (take k slots) → new ≡ now ++ (name, inode) ∷ [] → name ≡ slot.name → inode ≡ slot.ino
    → slot ≡ get_or slots k slot → k < length slots → new ≡ a ∷ b ∷ map name_entry (take (k + 1) slots)
listing_grown a b now new slots k slot name inode so_far push same_name same_inode is lt =
    push
    ∙ ap (λ (l : Entries). l ++ (name, inode) ∷ []) so_far
    ∙ ap (λ (x : List ℕ). a ∷ b ∷ (map name_entry (take k slots) ++ (x, inode) ∷ [])) same_name
    ∙ ap (λ (n : ℕ). a ∷ b ∷ (map name_entry (take k slots) ++ (slot.name, n) ∷ [])) same_inode
    ∙ ap (λ (l : Entries). a ∷ b ∷ l) (sym (map-append name_entry (take k slots) (slot ∷ [])))
    ∙ ap (λ (l : List NamedInode). a ∷ b ∷ map name_entry l) (ap (λ (x : NamedInode). take k slots ++ x ∷ []) is ∙ sym (take_more slots k slot lt))

-- the slots of a directory are its names
pub listed_as : (r : Result Entries Refusal) (a b : List ℕ × ℕ) (entries : Entries) (H : Entries → Type 0) → IfOk r (λ l. l ≡ a ∷ b ∷ entries)
    → ((names : Entries) → H names → entries ≡ names) → IfOk r (λ l. (names : Entries) → H names → l ≡ a ∷ b ∷ names)
listed_as (Ok l) a b entries H is names_are = λ names h. is ∙ ap (λ (x : Entries). a ∷ b ∷ x) (names_are names h)
listed_as (Err e) a b entries H is names_are = tt

-- ---- its row

readdir_is : (fd : ℕ) → row_of (Readdir fd) ≡ readdir_row fd
unfolding row_of
readdir_is fd = refl

list_is : handle_call_row ListBy ≡ readdir_row 0
unfolding handle_call_row
list_is = refl

pub readdir_by : (place : OpenAt) → offset_at place ≡ 0 → ActsOn place (list_through place) Reading (readdir_demands (fd_of place)) (readdir_effect (fd_of place))
readdir_by (AtDescriptor pid fd) start = record { asked = refl; row = readdir_is fd }
readdir_by (AtHandle handle offset) start = record { asked = (refl, sym start); row = list_is }

pub lists_keep : (place : OpenAt) → KeepsHandles (list_through place)
lists_keep (AtDescriptor pid fd) = λ openings. refl
lists_keep (AtHandle handle offset) = λ openings. refl

pub lists_asks : (place : OpenAt) → IsTrue (asks_of (list_through place))
lists_asks (AtDescriptor pid fd) = refl
lists_asks (AtHandle handle offset) = refl

-- ---- what it answers

module _ {p : Geometry} {map : SectorMap} {tables : Tables} {place : OpenAt} {d : Descriptor} (o : IsOpened tables place d) (s : State) (at : IsStateOf p map tables s) where
  abbrev scene : Scene
  scene = open_scene s o.process

  pub readdir_refused : (v : Inode) → v ≡ inode_at p map d.ino → (e : Refusal) → checked (refuse ENOTDIR (not (is_directory_kind v.kind))) ≡ Err e
      → first_of (readdir_demands (fd_of place) scene) ≡ Some e
  readdir_refused v is e refuses =
      ap (λ (b : Bool). first_of (refuse ENOTDIR (not b) ∷ [])) (open_kind o s at v is)
      ∙ first_refuses (refuse ENOTDIR (not (is_directory_kind v.kind))) [] e refuses

  pub readdir_told : (v : Inode) → v ≡ inode_at p map d.ino → v.kind ≡ kinds.Directory → (found : List (List ℕ × ℕ))
      → ((names : List (List ℕ × ℕ)) → HasNames p.version map v names → found ≡ (46 ∷ [], d.ino) ∷ (46 ∷ 46 ∷ [], v.parent) ∷ names)
      → (first_of (readdir_demands (fd_of place) scene) ≡ None) × (readdir_effect (fd_of place) scene ≡ answers scene (Names found))
  readdir_told v is directory found lists =
      let names = names_of_body (node_open scene (fd_of place)).body in (
        ap (λ (b : Bool). first_of (refuse ENOTDIR (not b) ∷ [])) (open_directory o s at (sym (ap (λ (w : Inode). w.kind) is) ∙ directory)),
        ap (λ (x : Descriptor). answers scene (Names ((46 ∷ [], x.ino) ∷ (46 ∷ 46 ∷ [], parent s.tree x.ino) ∷ names))) (the_opened o)
            ∙ ap (λ (m : ℕ). answers scene (Names ((46 ∷ [], d.ino) ∷ (46 ∷ 46 ∷ [], m) ∷ names))) (sym (open_parent o s at v is directory))
            ∙ ap (λ (l : List (List ℕ × ℕ)). answers scene (Names l)) (sym (lists names (open_names o s at v is directory))),
      )
