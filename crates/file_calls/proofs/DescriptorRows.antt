-- What fstat answers.
--     fstat_by, shows_keep, fstat_told        its row, and what it answers
use Rattle.call_parts.specs.BothTables.{Tables}
use Rattle.call_parts.specs.declared.reaching.OpenAt.{OpenAt}
use Rattle.call_parts.specs.declared.reaching.OpenAt.TheVariants.{Descriptor as AtDescriptor, Handle as AtHandle}
use Rattle.fs_model.specs.declared.event.HandleCall.TheVariants.{Show}
use Rattle.fs_model.specs.HandleCalls.{handle_call_row}
use Rattle.file_calls.specs.Places.{offset_at, show_through}
use Rattle.std.specs.Prelude.{◌≡◌, ℕ, None, Some}
use Rattle.std.proofs.Common.{refl, sym, ap, ◌∙◌}
use Rattle.fs_layout.specs.declared.inode.Inode.{Inode}
use Rattle.fs_layout.specs.declared.geometry.Geometry.{Geometry}
use Rattle.fs_layout.specs.Bytes.{SectorMap}
use Rattle.fs_layout.specs.Images.{inode_at}
use Rattle.fs_model.specs.declared.call.Call.TheVariants.{Fstat}
use Rattle.fs_model.specs.declared.reply.Reply.TheVariants.{Shown}
use Rattle.fs_model.specs.declared.reply.FileType.{FileType}
use Rattle.fs_model.specs.declared.reply.Status.{Status}
use Rattle.fs_model.specs.Demands.{first_of}
use Rattle.fs_model.specs.Kinds.{type_of_kind}
use Rattle.fs_model.specs.Processes.{Descriptor}
use Rattle.fs_model.specs.Rows.{row_of}
use Rattle.fs_model.specs.Scenes.{answers, nothing_asked}
use Rattle.fs_model.specs.States.{State}
use Rattle.fs_model.specs.DescriptorCalls.{fstat_row, fstat_effect, shown}
use Rattle.call_parts.specs.Performing.{IsStateOf}
use Rattle.call_parts.proofs.Calling.{state_tree}
use Rattle.call_parts.specs.declared.reaching.OpenFor.TheVariants.{Anything}
use Rattle.call_parts.specs.Reaching.{fd_of, ActsOn, IsOpened}
use Rattle.call_parts.proofs.ByDescriptor.{KeepsHandles, open_scene, the_opened, open_there}
use Rattle.call_parts.specs.Given.{size_shown}
use Rattle.call_parts.proofs.Shown.{shown_is}

fstat_is : (fd : ℕ) → row_of (Fstat fd) ≡ fstat_row fd
unfolding row_of
fstat_is fd = refl

show_is : handle_call_row Show ≡ fstat_row 0
unfolding handle_call_row
show_is = refl

pub fstat_by : (place : OpenAt) → offset_at place ≡ 0 → ActsOn place (show_through place) Anything nothing_asked (fstat_effect (fd_of place))
fstat_by (AtDescriptor pid fd) start = record { asked = refl; row = fstat_is fd }
fstat_by (AtHandle handle offset) start = record { asked = (refl, sym start); row = show_is }

pub shows_keep : (place : OpenAt) → KeepsHandles (show_through place)
shows_keep (AtDescriptor pid fd) = λ openings. refl
shows_keep (AtHandle handle offset) = λ openings. refl

pub fstat_told : {p : Geometry} {map : SectorMap} {tables : Tables} {place : OpenAt} {d : Descriptor} (o : IsOpened tables place d) (v : Inode) (status : Status)
    → v ≡ inode_at p map d.ino
    → ((kind : FileType) → type_of_kind v.kind ≡ Some kind → status
    ≡ record { ino = d.ino; kind = kind; mode = v.mode; links = v.names; owner = v.uid; group = v.gid; size = size_shown p.version v })
    → (s : State) → IsStateOf p map tables s
    → (first_of (nothing_asked (open_scene s o.process)) ≡ None) × (fstat_effect (fd_of place) (open_scene s o.process) ≡ answers (open_scene s o.process) (Shown status))
fstat_told {p} {map} {tables} {place} {d} o v status is says s at = (
  refl,
  ap (λ (x : Descriptor). answers (open_scene s o.process) (Shown (shown s.tree x.ino))) (the_opened o)
      ∙ ap (λ (x : Status). answers (open_scene s o.process) (Shown x)) (sym (shown_is (state_tree at) d.ino (open_there o s at) v status is says)),
)
