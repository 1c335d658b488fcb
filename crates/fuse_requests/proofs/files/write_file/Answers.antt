use Rattle.fuse_sessions.proofs.Doings.{attempts, gives, of-result, on-machine, then-fails, then-ok}
use Rattle.fuse_requests.proofs.files.write_file.Goals as goal

pub returns-in_err-within_offsets : goal.returns-in_err-within_offsets
returns-in_err-within_offsets g c = then-fails _ c.from_residual.ensures (of-result c.in_err-within_offsets.ensures.within)

pub returns-in_err-count : goal.returns-in_err-count
returns-in_err-count g c =
    then-ok _ (of-result c.in_ok-within_offsets.ensures.within)
    (then-fails _ c.from_residual-in_err-count.ensures (on-machine c.in_err-count.ensures))

pub returns : goal.returns
returns g c =
    then-ok _ (of-result c.in_ok-within_offsets.ensures.within) (then-ok _ (on-machine c.in_ok-count.ensures)
    (then-ok _ (attempts _ c.touch_open-touched.ensures) (gives _ _)))
