use Rattle.fs_model.specs.declared.reply.Reply.TheVariants.{Shown}
use Rattle.bit_alloc.proofs.Transactions.{unchanged_nothing}
use Rattle.call_parts.proofs.Calling.{state_tree}
use Rattle.call_parts.proofs.Reachings.{reach_refused, told, reached_used, reached_there}
use Rattle.call_parts.proofs.Shown.{stat_told}
use Rattle.file_calls.proofs.show.show_path.Goals as goal

pub returns-in_err-reached-clause-performs : goal.returns-in_err-reached-clause-performs
returns-in_err-reached-clause-performs g c = λ call is quiet.
    let r = c.from_residual.ensures in
    let x = c.in_err-reached.ensures in
    reach_refused is c.from_residual.result c.in_err-reached.field-0.0 r.0 r.1 x.same x.refused

pub status-requires : goal.status-requires
status-requires g c = record { used = reached_used c.in_ok-reached.ensures.reached }

pub returns-clause-performs : goal.returns-clause-performs
returns-clause-performs g c = λ call is quiet.
    let x = c.in_ok-reached.ensures in
    let v = c.in_ok-reached.reached in
    told is x.same x.reached.walked quiet (g.S.Sectors.state c.reach.new.s) unchanged_nothing (Shown c.status.result)
    (λ s has at. stat_told s v.process v.found v.ino v.inode c.status.result x.reached.inode (state_tree at) (reached_there x.reached s at) c.status.ensures)
