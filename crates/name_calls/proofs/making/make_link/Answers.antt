use Rattle.std.proofs.Common.{◌≡◌, sym, subst, inr}
use Rattle.fs_layout.specs.Bytes.{SectorMap}
use Rattle.fs_layout.specs.Images.{inode_at}
use Rattle.sector_txn.proofs.TransactionRuns.{store_joined}
use Rattle.bit_alloc.proofs.Transactions.{spare_unchanged}
use Rattle.fs_model.specs.Trees.{IsTarget}
use Rattle.path_walk.proofs.Kept.{kept, sound_kept, interrupts_later}
use Rattle.name_calls.proofs.Makings.{makes_broken, makes_refused, makes_node}
use Rattle.name_calls.proofs.Inherited.{link_is, may_then}
use Rattle.call_parts.proofs.NewNames.{allowed}
use Rattle.name_calls.proofs.making.make_link.Goals as goal

pub check_make-requires : goal.check_make-requires
check_make-requires g c = let x = c.requires.ready.name in record { sound = c.requires.ready.sound; there = (x.0, x.1, x.2.directory) }

pub returns-in_err-directory : goal.returns-in_err-directory
returns-in_err-directory g c =
    makes_refused _ _ c.from_residual.ensures c.in_err-directory.ensures.same.store c.cred-cred.ensures c.saturating_sub-step.ensures _ c.in_err-directory.ensures.each

pub place_link-requires : goal.place_link-requires
place_link-requires g c =
    let ready = c.requires.ready in
    let x = ready.name in
    let p = c.args.caller.now.geometry in
    let same = c.in_ok-directory.ensures.same in
    let f = c.args.walked.now.found in
    let met = allowed p (g.S.Sectors.state c.args.s.now).sectors x.0 f c.cred-cred.ensures c.saturating_sub-step.ensures _ _ (c.in_ok-directory.ensures.each x.0 x.1 x.2.directory) in
    record {
      ready = record { sound = sound_kept same ready.sound; spare = spare_unchanged p 47 (g.S.Sectors.state c.args.s.now) (g.S.Sectors.state c.check_make.new.s) ready.spare same };
      directory = kept (λ (m : SectorMap). c.in_ok-directory.directory ≡ inode_at p m f.dir_ino) same met.1;
      may = may_then p x.1 f x.2 same c.args.walked.now.process.cred met.0;
      target = subst IsTarget (sym c.bytes-bytes.ensures.all) c.requires.target;
    }

pub returns-in_err-ino : goal.returns-in_err-ino
returns-in_err-ino g c =
    let same = c.in_ok-directory.ensures.same in
    makes_broken _ _ c.from_residual-in_err-ino.ensures (store_joined same.store c.in_err-ino.ensures.store)
    (interrupts_later (g.S.Sectors.state c.place_link.new.s).disk same (inr c.in_err-ino.ensures.fault))

pub returns : goal.returns
returns g c = makes_node c.in_ok-ino.ino c.in_ok-directory.ensures.same c.in_ok-ino.ensures
    (λ t h i.
    let p = c.args.caller.now.geometry in
    let f = c.args.walked.now.found in
    let met = allowed p (g.S.Sectors.state c.args.s.now).sectors t f c.cred-cred.ensures c.saturating_sub-step.ensures _ _ (c.in_ok-directory.ensures.each t h i.directory) in (
      met.0,
      link_is h i c.in_ok-directory.directory met.1 c.args.walked.now.process.cred c.cred-cred.result.now c.args.target.now c.bytes-bytes.result.now
          c.cred-cred.ensures c.bytes-bytes.ensures.all,
    ))
