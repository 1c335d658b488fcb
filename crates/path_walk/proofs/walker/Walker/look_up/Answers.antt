use Rattle.std.proofs.Common.{◌≡◌, length, true, false, refl, sym, ap, subst, ◌∙◌, inl, inr, arith}
use Rattle.std.specs.Prelude.{nat_lt}
use Rattle.std.proofs.lemmas.Bool.Decides.{nat_tests}
use Rattle.fs_cred.specs.declared.node.NodeKind.TheVariants as nodes
use Rattle.fs_layout.specs.declared.inode.Inode.{Inode}
use Rattle.fs_layout.specs.Bytes.{SectorMap}
use Rattle.fs_layout.specs.Images.{inode_at}
use Rattle.fs_layout.specs.Version.{max_name}
use Rattle.fs_model.specs.Nodes.{names_of_body}
use Rattle.fs_model.specs.Stands.{room_of}
use Rattle.fs_model.specs.Trails.{named_inode}
use Rattle.path_walk.specs.HeldTrees.{HoldsTree}
use Rattle.path_walk.specs.SoundInodes.{LeadsOn, IsSoundInode}
use Rattle.path_walk.specs.Lookups.{lookup_of}
use Rattle.path_walk.proofs.Kept.{same_map, kept, sound_kept, interrupts_later, answered_err, interrupted, same_ok, failed_with, if_err, caused_behind}
use Rattle.path_walk.proofs.HeldInodes.{directory_kind}
use Rattle.path_walk.proofs.Finding.{no_directory, searched, directory_at, search_refused, too_long, is_named}
use Rattle.block_map.proofs.Runs.{unchanged_joined}
use Rattle.path_walk.proofs.walker.Walker.look_up.Goals as goal

pub returns-clause-each : goal.returns-clause-each
returns-clause-each g c = λ t h there.
    let w = c.args.self.now in
    let is = sym c.is_directory.ensures ∙ c.if-not-is_directory.false in
    let x = searched h w.here there w.inode c.requires.at.inode is in
    let d = directory_at h w.here there w.inode c.requires.at.inode is in
    let short : nat_lt (max_name c.args.geometry.version) (length w.name.items) ≡ false = grind (arith, nat_tests) in
    let named = c.in_ok-found.ensures.each t (kept (λ m. HoldsTree c.args.geometry m t) c.in_ok-search.ensures.same h) d in
    is_named h w.here there w.inode c.requires.at.inode c.args.cred.now w.number w.step w.name.items is x (c.in_ok-search.ensures.each x.node x.has) short c.in_ok-found.found
    (ap (named_inode t w.here (names_of_body d.node.body)) (sym c.deref.ensures.value) ∙ same_ok _ _ named)

pub returns-then-not-is_directory-clause-each : goal.returns-then-not-is_directory-clause-each
returns-then-not-is_directory-clause-each g c = λ t h there.
    let w = c.args.self.now in
    inl (no_directory h w.here there w.inode c.requires.at.inode c.args.cred.now w.number w.step w.name.items (sym c.is_directory.ensures ∙ c.if-not-is_directory.true))

pub search-requires-clause-there : goal.search-requires-clause-there
search-requires-clause-there g c = (c.args.self.now.here, c.requires.at.below, c.requires.at.inode)

pub search-requires-clause-has : goal.search-requires-clause-has
search-requires-clause-has g c =
    let w = c.args.self.now in
    let inode = subst (λ (v : Inode). IsSoundInode c.args.geometry (g.S.Sectors.state c.args.s.now).sectors v) (sym c.requires.at.inode) (c.requires.inodes w.here c.requires.at.below) in
    let is = directory_kind w.inode.kind (sym c.is_directory.ensures ∙ c.if-not-is_directory.false) in
    let a = inode.acl (inr is) in
    (record { kind = nodes.Directory; owner = w.inode.uid; group = w.inode.gid; acl = a.0 }, record { kind = is; owner = refl; group = refl; acl = a.1 })

pub returns-in_err-search-clause-each : goal.returns-in_err-search-clause-each
returns-in_err-search-clause-each g c = λ t h there.
    let w = c.args.self.now in
    let old = g.S.Sectors.state c.args.s.now in
    let new = g.S.Sectors.state c.search.new.s in
    let x = searched h w.here there w.inode c.requires.at.inode (sym c.is_directory.ensures ∙ c.if-not-is_directory.false) in
    let r = c.from_residual.ensures in
    answered_err old.disk new.disk (lookup_of (room_of c.args.geometry) t c.args.cred.now w.number w.step w.here w.name.items) c.from_residual.result c.in_err-search.field-0.0 r.0 r.1
    (elim (c.in_err-search.ensures.each x.node x.has) [
      | inl e ↦ inl (search_refused h w.here there w.inode c.requires.at.inode c.args.cred.now w.number w.step w.name.items x c.in_err-search.field-0.0 e)
      | inr way ↦ inr way
    ])

pub returns-then-len-longest-clause-each : goal.returns-then-len-longest-clause-each
returns-then-len-longest-clause-each g c = λ t h there.
    let w = c.args.self.now in
    let is = sym c.is_directory.ensures ∙ c.if-not-is_directory.false in
    let x = searched h w.here there w.inode c.requires.at.inode is in
    let long : nat_lt (max_name c.args.geometry.version) (length w.name.items) ≡ true = grind (arith, nat_tests) in
    inl (too_long h w.here there w.inode c.requires.at.inode c.args.cred.now w.number w.step w.name.items is x (c.in_ok-search.ensures.each x.node x.has) long)

pub find-requires-clause-sound : goal.find-requires-clause-sound
find-requires-clause-sound g c = sound_kept c.in_ok-search.ensures.same c.requires.sound

pub find-requires-clause-inode : goal.find-requires-clause-inode
find-requires-clause-inode g c =
    c.requires.at.inode ∙ sym (ap (λ (m : SectorMap). inode_at c.args.geometry m c.args.self.now.here) (same_map c.in_ok-search.ensures.same))

pub find-requires-clause-leads : goal.find-requires-clause-leads
find-requires-clause-leads g c =
    let w = c.args.self.now in
    let inode = subst (λ (v : Inode). IsSoundInode c.args.geometry (g.S.Sectors.state c.args.s.now).sectors v) (sym c.requires.at.inode) (c.requires.inodes w.here c.requires.at.below) in
    let is = directory_kind w.inode.kind (sym c.is_directory.ensures ∙ c.if-not-is_directory.false) in
    kept (λ m. LeadsOn c.args.geometry m w.inode) c.in_ok-search.ensures.same (inode.directory is)

pub returns-in_err-search-clause-cause : goal.returns-in_err-search-clause-cause
returns-in_err-search-clause-cause g c =
    let r = c.from_residual.ensures in
    failed_with c.from_residual.result c.in_err-search.field-0.0 _ r.0 r.1 c.in_err-search.ensures.cause

pub returns-in_err-search-clause-below : goal.returns-in_err-search-clause-below
returns-in_err-search-clause-below g c = if_err _ c.from_residual.result c.from_residual.ensures.0

pub returns-in_err-found-clause-below : goal.returns-in_err-found-clause-below
returns-in_err-found-clause-below g c = if_err _ c.from_residual-in_err-found.result c.from_residual-in_err-found.ensures.0

pub returns-in_err-found-clause-cause : goal.returns-in_err-found-clause-cause
returns-in_err-found-clause-cause g c =
    let r = c.from_residual-in_err-found.ensures in
    caused_behind (g.S.Sectors.state c.find.new.s).disk c.from_residual-in_err-found.result c.in_err-found.field-0.0 c.in_ok-search.ensures.same r.0 r.1
    c.in_err-found.ensures.err

pub returns-in_err-found-clause-each : goal.returns-in_err-found-clause-each
returns-in_err-found-clause-each g c = λ t h there.
    let w = c.args.self.now in
    let old = g.S.Sectors.state c.args.s.now in
    let mid = g.S.Sectors.state c.search.new.s in
    let new = g.S.Sectors.state c.find.new.s in
    let d = directory_at h w.here there w.inode c.requires.at.inode (sym c.is_directory.ensures ∙ c.if-not-is_directory.false) in
    let r = c.from_residual-in_err-found.ensures in
    answered_err old.disk new.disk (lookup_of (room_of c.args.geometry) t c.args.cred.now w.number w.step w.here w.name.items) c.from_residual-in_err-found.result c.in_err-found.field-0.0 r.0 r.1
    (inr (interrupts_later new.disk c.in_ok-search.ensures.same (interrupted mid.disk new.disk _ c.in_err-found.field-0.0
    (c.in_err-found.ensures.each t (kept (λ m. HoldsTree c.args.geometry m t) c.in_ok-search.ensures.same h) d))))

pub returns-in_err-found-clause-same : goal.returns-in_err-found-clause-same
returns-in_err-found-clause-same g c = unchanged_joined c.in_ok-search.ensures.same c.in_err-found.ensures.same

pub returns-clause-same : goal.returns-clause-same
returns-clause-same g c = unchanged_joined c.in_ok-search.ensures.same c.in_ok-found.ensures.same
