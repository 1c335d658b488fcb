use Rattle.std.proofs.Common.{◌+◌, Err, ap, sym, subst, arith, length, max}
use Rattle.fs_layout.specs.Bytes.{overwritten}
use Rattle.block_map.specs.Contents.{AllowsSize}
use Rattle.block_map.proofs.Wrote.{put_most}
use Rattle.call_parts.proofs.Alterings.{fails}
use Rattle.file_calls.proofs.Rewritten.{content_altered, fails_alone}
use Rattle.file_calls.proofs.Writing.{enough_free}
use Rattle.file_calls.proofs.transfer.write_bytes.Goals as goal

pub write_at-requires-clause-size : goal.write_at-requires-clause-size
write_at-requires-clause-size g c =
    subst (λ k. AllowsSize k (max c.args.inode.size (c.args.offset + length c.args.bytes.now))) (sym c.requires.file) tt

pub write_at-requires-clause-spare : goal.write_at-requires-clause-spare
write_at-requires-clause-spare g c =
    let few = put_most c.args.offset (length c.args.bytes.now) c.requires.few in
    let room = c.requires.ready.spare in
    omega (arith, few, room)

pub returns-in-Ok : goal.returns-in-Ok
returns-in-Ok g c =
    let e = c.in-Ok.ensures in
    content_altered (λ held. overwritten held c.args.offset c.args.bytes.now) (put_most c.args.offset (length c.args.bytes.now) c.requires.few) e.store c.requires.inode e.change e.held

pub returns-in-Err : goal.returns-in-Err
returns-in-Err g c =
    let e = c.in-Err.ensures in
    fails e.store
    (fails_alone (g.S.Sectors.state c.args.s.now).disk (g.S.Sectors.state c.write_at.new.s).disk c.in-Err.field-0
    (λ big. let far = e.too_big.0 (ap (λ x. Err x) big) in let fits = c.requires.fits in omega (arith, far, fits))
    (λ full. let few = e.full (ap (λ x. Err x) full) in let less = few.0 in let enough = enough_free (length c.args.bytes.now) _ _ c.requires.space few.1 few.2 in omega (arith, less, enough))
    e.cause.failed)
