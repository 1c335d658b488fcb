use Rattle.fs_system.proofs.Played.{all_played, none_played}
use Rattle.fs_system.proofs.playing.play.Goals as goal

pub returns-in-Ok-clause-played : goal.returns-in-Ok-clause-played
returns-in-Ok-clause-played g c =
    let m = c.in-Ok.ensures.mounted in
    all_played g.D.Disk.state g.met.D.Disk.counts_now c.args.disk c.in-Ok.fs m.0 m.1 m.2 c.answer_all-served.result.0 c.into_disk.result c.into_disk.ensures.disk
    (λ v. v.items) c.args.events.now c.answer_all-served.result.1 c.answer_all-served.ensures.answers

pub returns-in-Ok-clause-unplayed : goal.returns-in-Ok-clause-unplayed
returns-in-Ok-clause-unplayed g c =
    let m = c.in-Ok.ensures.mounted in
    none_played g.D.Disk.state g.met.D.Disk.counts_now c.args.disk c.in-Ok.fs m.0 m.1 m.2 c.answer_all-served.result.0 c.into_disk.result c.into_disk.ensures.disk
    c.answer_all-served.result.1 c.answer_all-served.ensures.lacks
