use Rattle.std.proofs.Common.{◌≡◌, ◌+◌, ◌<◌, ◌≤◌, ℕ, List, Err, Some, refl, sym, ap, subst, arith, rules, ◌∙◌, inl, inr, length, take}
use Rattle.std.specs.Prelude.{if◌then◌else◌, min, nat_lt, Ok}
use Rattle.std.proofs.lemmas.List.{length-take}
use Rattle.fs_cred.specs.declared.errno.Errno.TheVariants.{EFBIG, ENOSPC}
use Rattle.fs_model.specs.Demands.{refuse}
use Rattle.path_walk.specs.Answers.{refused_or}
use Rattle.call_parts.specs.BothTables.{Tables, both, tables_in}
use Rattle.call_parts.specs.Performing.{Performs}
use Rattle.call_parts.specs.Reaching.{fd_of, moved_in}
use Rattle.file_calls.specs.Places.{write_through, write_most}
use Rattle.fs_cred.specs.declared.refusal.Refusal.{Refusal}
use Rattle.fs_cred.specs.declared.refusal.Refusal.TheVariants.{Failed}
use Rattle.fs_layout.specs.declared.inode.Inode.{Inode}
use Rattle.fs_layout.specs.Bytes.{SectorMap, IsBytes}
use Rattle.fs_layout.specs.Images.{inode_at, free_sectors}
use Rattle.fs_model.specs.Limits.{free_for}
use Rattle.bit_alloc.proofs.Transactions.{spare_unchanged, unchanged_nothing}
use Rattle.fs_model.specs.declared.reply.Reply.TheVariants.{Wrote}
use Rattle.fs_model.specs.Processes.{Descriptor, with_offset}
use Rattle.block_map.proofs.Runs.{unchanged_joined}
use Rattle.path_walk.proofs.Kept.{sound_kept, kept}
use Rattle.call_parts.proofs.ByDescriptor.{open_as, opened_ok, open_below, closed_refused, unread_performs, asked_performs, broken_later, told, changed_tree, moved_left, still_moved}
use Rattle.call_parts.proofs.Changed.{may_touch}
use Rattle.call_parts.proofs.Reachings.{ready_kept}
use Rattle.file_calls.proofs.Writing.{writes_keep, counted_so, open_to_write, is_enough, enough_for_some, write_by, asks_nothing, empty_if, some_if, file_kind, too_far, too_full, wrote}
use Rattle.file_calls.proofs.transfer.write.Goals as goal

pub returns-in_err-descriptor : goal.returns-in_err-descriptor
returns-in_err-descriptor g c =
    let r = c.from_residual.ensures in
    closed_refused (write_by c.args.place c.args.bytes.now) c.from_residual.result c.in_err-descriptor.field-0.0 r.0 r.1 c.in_err-descriptor.ensures.refused

pub returns-then-is_empty : goal.returns-then-is_empty
returns-then-is_empty g c =
    let w = c.in_ok-descriptor.ensures.is_open in
    told (write_by c.args.place c.args.bytes.now) unchanged_nothing w (writes_keep c.args.place c.args.bytes.now) (g.S.Sectors.state c.args.s.now) unchanged_nothing (Wrote 0)
    (λ s at. asks_nothing w.opened (write_most c.args.place) s c.args.bytes.now (empty_if c.args.bytes.now c.args.bytes.now refl c.if-is_empty.ensures))

pub load_inode-requires-clause-below : goal.load_inode-requires-clause-below
load_inode-requires-clause-below g c =
    let w = open_as c.descriptor.view_is c.in_ok-descriptor.ensures.is_open in
    open_below w.opened c.requires.ready.state c.requires.ready.is_state

pub returns-in_err-inode : goal.returns-in_err-inode
returns-in_err-inode g c =
    let r = c.from_residual-in_err-inode.ensures in
    let failed = c.in_err-inode.ensures in
    unread_performs (write_by c.args.place c.args.bytes.now) unchanged_nothing c.in_ok-descriptor.ensures.is_open (g.S.Sectors.state c.load_inode.new.s)
    c.from_residual-in_err-inode.result c.in_err-inode.field-0.0 r.0 r.1 failed.same.store (λ s at. inr failed.fault)

pub returns-then-offset-limit : goal.returns-then-offset-limit
returns-then-offset-limit g c =
    let far = subst (λ (x : ℕ). x ≤ c.write_offset-offset.result) c.max_file_size-limit.ensures.value c.if-offset-limit.true in
    let w = open_as c.descriptor.view_is c.in_ok-descriptor.ensures.is_open in
    let some = some_if c.args.bytes.now c.args.bytes.now refl c.if-is_empty.ensures in
    let v = c.in_ok-inode.inode in
    let offset = c.write_offset-offset.result in
    let from = subst (λ (x : Descriptor). offset ≡ (if x.append then v.size else x.offset)) (sym c.descriptor.view_is) c.write_offset-offset.ensures in
    asked_performs (write_by c.args.place c.args.bytes.now) unchanged_nothing w (g.S.Sectors.state c.load_inode.new.s) (Err (Failed EFBIG)) (Failed EFBIG) refl refl
    c.in_ok-inode.ensures.same.store
    (λ s at. too_far w.opened s at (open_to_write w) v c.in_ok-inode.ensures.found offset from (write_most c.args.place) c.args.bytes.now some far)

pub ask_to_write-requires : goal.ask_to_write-requires
ask_to_write-requires g c = (sound_kept c.in_ok-inode.ensures.same c.requires.ready.sound).bitmaps

pub returns-in_err-ask_to_write : goal.returns-in_err-ask_to_write
returns-in_err-ask_to_write g c =
    let most = write_most c.args.place in
    let asked_is : c.min-asked.result ≡ min (length c.args.bytes.now) most = c.min-asked.ensures ∙ ap (min (length c.args.bytes.now)) c.write_most-most.ensures.most in
    let near = subst (λ (x : ℕ). c.write_offset-offset.result < x) c.max_file_size-limit.ensures.value c.if-offset-limit.false in
    let w = open_as c.descriptor.view_is c.in_ok-descriptor.ensures.is_open in
    let some = some_if c.args.bytes.now c.args.bytes.now refl c.if-is_empty.ensures in
    let v = c.in_ok-inode.inode in
    let first = c.in_ok-inode.ensures.same in
    let is = kept (λ (m : SectorMap). v ≡ inode_at c.args.site.geometry m c.descriptor.inside.ino) first c.in_ok-inode.ensures.found in
    let offset = c.write_offset-offset.result in
    let from = subst (λ (x : Descriptor). offset ≡ (if x.append then v.size else x.offset)) (sym c.descriptor.view_is) c.write_offset-offset.ensures in
    let r = c.from_residual-in_err-ask_to_write.ensures in
    let failed = c.in_err-ask_to_write.ensures in
    unread_performs (write_by c.args.place c.args.bytes.now) first w (g.S.Sectors.state c.ask_to_write.new.s)
    c.from_residual-in_err-ask_to_write.result c.in_err-ask_to_write.field-0.0 r.0 r.1 failed.same.store
    (λ s at. elim failed.fault [
      | inl full ↦ inl (too_full w.opened s at (open_to_write w) v is offset from most c.args.bytes.now some near (subst (λ (n : ℕ). free_sectors c.args.site.geometry (g.S.Sectors.state c.load_inode.new.s).sectors < free_for n)
          (asked_is ∙ ap (λ (l : List ℕ). min (length l) most) refl) full.1)
          ∙ ap (λ (x : Refusal). Some x) (sym full.0))
      | inr read ↦ inr read
    ])

pub write_bytes-requires : goal.write_bytes-requires
write_bytes-requires g c =
    let w = open_as c.descriptor.view_is c.in_ok-descriptor.ensures.is_open in
    let v = c.in_ok-inode.inode in
    let is = c.in_ok-inode.ensures.found in
    let old = g.S.Sectors.state c.args.s.now in
    let mid = g.S.Sectors.state c.load_inode.new.s in
    let new = g.S.Sectors.state c.ask_to_write.new.s in
    let same = unchanged_joined c.in_ok-inode.ensures.same c.in_ok-ask_to_write.ensures.same in
    let counted = c.write_count-count.ensures in
    let near = subst (λ (x : ℕ). c.write_offset-offset.result < x) c.max_file_size-limit.ensures.value c.if-offset-limit.false in
    let len = length-take c.write_count-count.result c.args.bytes.now in
    record {
      ready = record {
        sound = sound_kept same c.requires.ready.sound;
        spare = spare_unchanged c.args.site.geometry 47 old new c.requires.ready.spare same;
      };
      below = open_below w.opened c.requires.ready.state c.requires.ready.is_state;
      inode = kept (λ (m : SectorMap). v ≡ inode_at c.args.site.geometry m c.descriptor.inside.ino) same is;
      file = ap (λ (i : Inode). i.kind) is ∙ file_kind w.opened c.requires.ready.state c.requires.ready.is_state (open_to_write w);
      few = omega (arith, len, counted, c.min-asked.ensures, c.write_most-most.ensures.few);
      fits = omega (arith, len, counted, near);
      space = kept (λ (m : SectorMap). free_for (length (take c.write_count-count.result c.args.bytes.now)) ≤ free_sectors c.args.site.geometry m) c.in_ok-ask_to_write.ensures.same
          (enough_for_some (length (take c.write_count-count.result c.args.bytes.now)) c.min-asked.result (free_sectors c.args.site.geometry mid.sectors) (omega (arith, len, counted))
          (is_enough (free_sectors c.args.site.geometry mid.sectors) (free_for c.min-asked.result) c.in_ok-ask_to_write.ensures.each));
    }

pub returns-in_err-write_bytes : goal.returns-in_err-write_bytes
returns-in_err-write_bytes g c =
    let r = c.from_residual-in_err-write_bytes.ensures in
    let same = unchanged_joined c.in_ok-inode.ensures.same c.in_ok-ask_to_write.ensures.same in
    let failed = c.in_err-write_bytes.ensures in
    unread_performs (write_by c.args.place c.args.bytes.now) same c.in_ok-descriptor.ensures.is_open (g.S.Sectors.state c.write_bytes.new.s)
    c.from_residual-in_err-write_bytes.result c.in_err-write_bytes.field-0.0 r.0 r.1 failed.store (λ s at. inr failed.fault)

pub touch-requires : goal.touch-requires
touch-requires g c =
    let valid : IsBytes c.args.bytes.now = search rules in
    let most = write_most c.args.place in
    let asked_is : c.min-asked.result ≡ min (length c.args.bytes.now) most = c.min-asked.ensures ∙ ap (min (length c.args.bytes.now)) c.write_most-most.ensures.most in
    let near = subst (λ (x : ℕ). c.write_offset-offset.result < x) c.max_file_size-limit.ensures.value c.if-offset-limit.false in
    let w = open_as c.descriptor.view_is c.in_ok-descriptor.ensures.is_open in
    let all = refl in
    let some = some_if c.args.bytes.now c.args.bytes.now all c.if-is_empty.ensures in
    let offset = c.write_offset-offset.result in
    let v = c.in_ok-inode.inode in
    let from = subst (λ (x : Descriptor). offset ≡ (if x.append then v.size else x.offset)) (sym c.descriptor.view_is) c.write_offset-offset.ensures in
    let first = c.in_ok-inode.ensures in
    let second = c.in_ok-ask_to_write.ensures in
    let done = c.in_ok-write_bytes.ensures in
    let enough = subst (λ (n : ℕ). refused_or {A = Unit {0}} (refuse ENOSPC (nat_lt (free_sectors c.args.site.geometry (g.S.Sectors.state c.load_inode.new.s).sectors) (free_for n))) (Ok tt) ≡ Ok tt) asked_is second.each in
    let counted = counted_so c.write_count-count.result c.min-asked.result (length c.args.bytes.now) most _ asked_is c.write_count-count.ensures in
    let ready = ready_kept (unchanged_joined first.same second.same) c.requires.ready in
    let s = ready.state in
    may_touch ready done.store
    (wrote w first.same second.same first.found from near most all some valid enough counted done.made s ready.is_state (tables_in s) (λ n was. was))
    (open_below w.opened s ready.is_state, tt) 40 done.taken (omega arith)

pub returns-in_err-touch : goal.returns-in_err-touch
returns-in_err-touch g c =
    let same = unchanged_joined c.in_ok-inode.ensures.same c.in_ok-ask_to_write.ensures.same in
    broken_later (write_by c.args.place c.args.bytes.now) same c.in_ok-descriptor.ensures.is_open (g.S.Sectors.state c.touch.new.s) _ _ c.from_residual-in_err-touch.ensures
    c.in_ok-write_bytes.ensures.store c.in_err-touch.ensures.store c.in_err-touch.ensures.fault

pub seek_at-requires : goal.seek_at-requires
seek_at-requires g c = opened_ok c.in_ok-descriptor.ensures.is_open.opened

pub returns : goal.returns
returns g c =
    let valid : IsBytes c.args.bytes.now = search rules in
    let most = write_most c.args.place in
    let asked_is : c.min-asked.result ≡ min (length c.args.bytes.now) most = c.min-asked.ensures ∙ ap (min (length c.args.bytes.now)) c.write_most-most.ensures.most in
    let place = c.args.place in
    let tables = both c.args.procs.now c.args.openings.now.0 in
    let w = open_as c.descriptor.view_is c.in_ok-descriptor.ensures.is_open in
    let all = refl in
    let some = some_if c.args.bytes.now c.args.bytes.now all c.if-is_empty.ensures in
    let near = subst (λ (x : ℕ). c.write_offset-offset.result < x) c.max_file_size-limit.ensures.value c.if-offset-limit.false in
    let offset = c.write_offset-offset.result in
    let from = subst (λ (x : Descriptor). offset ≡ (if x.append then c.in_ok-inode.inode.size else x.offset)) (sym c.descriptor.view_is) c.write_offset-offset.ensures in
    let first = c.in_ok-inode.ensures in
    let second = c.in_ok-ask_to_write.ensures in
    let done = c.in_ok-write_bytes.ensures in
    let enough = subst (λ (n : ℕ). refused_or {A = Unit {0}} (refuse ENOSPC (nat_lt (free_sectors c.args.site.geometry (g.S.Sectors.state c.load_inode.new.s).sectors) (free_for n))) (Ok tt) ≡ Ok tt) asked_is second.each in
    let counted = counted_so c.write_count-count.result c.min-asked.result (length c.args.bytes.now) most _ asked_is c.write_count-count.ensures in
    let count = c.write_count-count.result in
    let to = offset + count in
    let table = c.in_ok-descriptor.ensures.table in
    subst (λ (t : Tables). Performs c.args.site.geometry c.args.site.time (write_through place c.args.bytes.now) (g.S.Sectors.state c.args.s.now) (g.S.Sectors.state c.touch.new.s) tables t (Ok (Wrote count))) (sym c.seek_at.ensures)
    (changed_tree (write_by place c.args.bytes.now) (unchanged_joined first.same second.same) w (g.S.Sectors.state c.write_bytes.new.s) (moved_in tables place to) done.store done.made.super
    c.in_ok-touch.ensures.made (with_offset w.opened.process (fd_of place) to) (Wrote count)
    (moved_left tables place (write_through place c.args.bytes.now) w.opened.process w.opened.there (writes_keep place c.args.bytes.now) to)
    (λ s at. wrote w first.same second.same first.found from near most all some valid enough counted done.made s at
    (moved_in tables place to) (still_moved w.opened table s at to)))
