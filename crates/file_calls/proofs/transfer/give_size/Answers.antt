use Rattle.std.proofs.Common.{Err, ap, sym, subst, arith}
use Rattle.fs_layout.specs.Bytes.{resized}
use Rattle.block_map.specs.Contents.{AllowsSize}
use Rattle.block_map.proofs.Wrote.{put_to_few}
use Rattle.call_parts.proofs.Alterings.{fails}
use Rattle.file_calls.proofs.Rewritten.{content_altered, fails_alone}
use Rattle.file_calls.proofs.transfer.give_size.Goals as goal

pub set_size-requires-clause-kind : goal.set_size-requires-clause-kind
set_size-requires-clause-kind g c = subst (λ k. AllowsSize k c.args.size) (sym c.requires.file) tt

pub set_size-requires-clause-spare : goal.set_size-requires-clause-spare
set_size-requires-clause-spare g c = let few = put_to_few c.args.size in let room = c.requires.ready.spare in omega (arith, few, room)

pub returns-in-Ok : goal.returns-in-Ok
returns-in-Ok g c =
    let e = c.in-Ok.ensures in
    content_altered (λ held. resized held c.args.size) (put_to_few c.args.size) e.store c.requires.inode e.change e.held

pub returns-in-Err : goal.returns-in-Err
returns-in-Err g c =
    let e = c.in-Err.ensures in
    fails e.store
    (fails_alone (g.S.Sectors.state c.args.s.now).disk (g.S.Sectors.state c.set_size.new.s).disk c.in-Err.field-0
    (λ big. let far = e.too_big.0 (ap (λ x. Err x) big) in let fits = c.requires.fits in omega (arith, far, fits))
    (λ full. e.never_full (ap (λ x. Err x) full))
    e.cause.failed)
