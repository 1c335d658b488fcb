use Rattle.std.proofs.Common.{◌≡◌, ◌<◌, ◌/◌, ◌%◌, ◌==◌, ℕ, sym, ap, subst, inl, inr, ◌∙◌}
use Rattle.std.specs.Option.{option_copied}
use Rattle.std.specs.Prelude.{if◌then◌else◌}
use Rattle.fs_cred.specs.Credentials.{Credential}
use Rattle.fs_layout.specs.declared.inode.TheConstants.{S_ISGID, S_ISVTX}
use Rattle.fs_layout.specs.Bytes.{SectorMap}
use Rattle.fs_layout.specs.Images.{inode_at}
use Rattle.sector_txn.proofs.TransactionRuns.{store_joined}
use Rattle.bit_alloc.proofs.Transactions.{spare_unchanged, unchanged_joined}
use Rattle.inode_table.specs.Acls.{HasDefaultAcl}
use Rattle.fs_model.specs.Births.{born_acl}
use Rattle.fs_model.specs.Nodes.{default_in}
use Rattle.path_walk.proofs.HeldNodes.{number_below, is_there}
use Rattle.path_walk.proofs.Kept.{kept, sound_kept, interrupts_later}
use Rattle.name_calls.proofs.Makings.{makes_broken, makes_refused, makes_node}
use Rattle.name_calls.proofs.Inherited.{bits_below, default_held, directory_is, may_then}
use Rattle.call_parts.proofs.NewNames.{allowed}
use Rattle.name_calls.proofs.making.make_directory.Goals as goal

pub check_make-requires : goal.check_make-requires
check_make-requires g c = let x = c.requires.name in record { sound = c.requires.sound; there = (x.0, x.1, x.2.directory) }

pub returns-in_err-directory : goal.returns-in_err-directory
returns-in_err-directory g c =
    makes_refused _ _ c.from_residual.ensures c.in_err-directory.ensures.same.store c.cred-cred.ensures c.saturating_sub-step.ensures _ c.in_err-directory.ensures.each

pub default_of-requires : goal.default_of-requires
default_of-requires g c =
    let p = c.args.caller.now.geometry in
    let old = g.S.Sectors.state c.args.s.now in
    let same = c.in_ok-directory.ensures.same in
    let v = c.in_ok-directory.directory in
    let f = c.args.walked.now.found in
    let x = c.requires.name in
    let is = (allowed p old.sectors x.0 f c.cred-cred.ensures c.saturating_sub-step.ensures (inode_at p old.sectors f.dir_ino) v (c.in_ok-directory.ensures.each x.0 x.1 x.2.directory)).1 in
    record {
      sound = sound_kept same c.requires.sound;
      there = (f.dir_ino, number_below x.1 f.dir_ino (is_there x.0 f.dir_ino x.2.directory.node x.2.directory.is_there), kept (λ (m : SectorMap). v ≡ inode_at p m f.dir_ino) same is);
      has = (default_in x.2.directory.node.body, kept (λ (m : SectorMap). HasDefaultAcl m v (default_in x.2.directory.node.body)) same (default_held x.1 x.2 v is));
    }

pub returns-in_err-inherits : goal.returns-in_err-inherits
returns-in_err-inherits g c =
    let same = c.in_ok-directory.ensures.same in
    makes_broken _ _ c.from_residual-in_err-inherits.ensures (store_joined same.store c.in_err-inherits.ensures.same.store)
    (interrupts_later (g.S.Sectors.state c.default_of.new.s).disk same c.in_err-inherits.ensures.interrupts)

pub returns-in_err-access : goal.returns-in_err-access
returns-in_err-access g c =
    makes_broken _ _ c.from_residual-in_err-access.ensures (store_joined c.in_ok-directory.ensures.same.store c.in_ok-inherits.ensures.same.store) (inl c.in_err-access.ensures.memory)

pub place_directory-requires : goal.place_directory-requires
place_directory-requires g c =
    let x = c.requires.name in
    let v = c.in_ok-directory.directory in
    let joined = unchanged_joined c.in_ok-directory.ensures.same c.in_ok-inherits.ensures.same in
    let met = allowed c.args.caller.now.geometry (g.S.Sectors.state c.args.s.now).sectors x.0 c.args.walked.now.found c.cred-cred.ensures c.saturating_sub-step.ensures _ _ (c.in_ok-directory.ensures.each x.0 x.1 x.2.directory) in
    record {
      ready = record {
        sound = sound_kept joined c.requires.sound;
        spare = spare_unchanged c.args.caller.now.geometry 47 (g.S.Sectors.state c.args.s.now) (g.S.Sectors.state c.default_of.new.s) c.requires.spare joined;
      };
      directory = kept (λ (m : SectorMap). v ≡ inode_at c.args.caller.now.geometry m c.args.walked.now.found.dir_ino) joined met.1;
      may = may_then c.args.caller.now.geometry x.1 c.args.walked.now.found x.2 joined c.args.walked.now.process.cred met.0;
      bits = subst (λ (k : ℕ). k < 2048) (sym c.special_bits-bits.ensures) (bits_below (c.args.mode / S_ISVTX % 2 == 1) (v.mode / S_ISGID % 2 == 1));
    }

pub returns-in_err-ino : goal.returns-in_err-ino
returns-in_err-ino g c =
    let joined = unchanged_joined c.in_ok-directory.ensures.same c.in_ok-inherits.ensures.same in
    makes_broken _ _ c.from_residual-in_err-ino.ensures (store_joined joined.store c.in_err-ino.ensures.store)
    (interrupts_later (g.S.Sectors.state c.place_directory.new.s).disk joined (inr c.in_err-ino.ensures.fault))

pub returns : goal.returns
returns g c =
    makes_node c.in_ok-ino.ino (unchanged_joined c.in_ok-directory.ensures.same c.in_ok-inherits.ensures.same) c.in_ok-ino.ensures
    (λ t h i.
    let p = c.args.caller.now.geometry in
    let old = g.S.Sectors.state c.args.s.now in
    let v = c.in_ok-directory.directory in
    let f = c.args.walked.now.found in
    let q = c.args.walked.now.process in
    let mode = c.args.mode in
    let a = c.in_ok-access.access in
    let met = allowed p old.sectors t f c.cred-cred.ensures c.saturating_sub-step.ensures (inode_at p old.sectors f.dir_ino) v (c.in_ok-directory.ensures.each t h i.directory) in
    let d = option_copied c.as_ref-default.result in
    let has = kept (λ (m : SectorMap). HasDefaultAcl m v (default_in i.directory.node.body)) c.in_ok-directory.ensures.same (default_held h i v met.1) in
    let given : d ≡ default_in i.directory.node.body = c.as_ref-default.ensures.value ∙ c.in_ok-inherits.ensures.found (default_in i.directory.node.body) has in (
      met.0,
      directory_is h i v met.1 q.cred q.umask mode c.uid-uid.result c.new_group-gid.result c.special_bits-bits.result a d
          (c.uid-uid.ensures ∙ ap (λ (k : Credential). k.uid) c.cred-cred.ensures)
          (c.new_group-gid.ensures ∙ ap (λ (k : Credential). if v.mode / S_ISGID % 2 == 1 then v.gid else k.gid) c.cred-cred.ensures) c.special_bits-bits.ensures
          given (c.in_ok-access.ensures.born ∙ ap (born_acl d mode) c.umask.ensures),
    ))
