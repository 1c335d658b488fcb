use Rattle.std.proofs.Common.{[], subst, sym, arith}
use Rattle.std.proofs.lemmas.List.{take_all}
use Rattle.fs_system.specs.Playing.{Plays}
use Rattle.fs_system.proofs.Played.{plays_nothing, plays_more}
use Rattle.fs_system.proofs.playing.answer_all.Goals as goal

pub loop-event-init : goal.loop-event-init
loop-event-init g c = record {
  answers = subst (λ replies. Plays g.D.Disk.state c.args.served [] replies c.args.served) (sym c.in-Ok.ensures.items) (plays_nothing g.D.Disk.state c.args.served);
  may = c.requires;
  len = c.in-Ok.ensures.len;
  room = c.in-Ok.ensures.capacity;
}

pub loop-event-preserved : goal.loop-event-preserved
loop-event-preserved g c =
    let so_far = c.loop-event.invariant in
    record {
      answers = plays_more g.D.Disk.state c.args.served c.loop-event.served c.answer-now.result.0 c.args.events.now c.loop-event.event-index c.event-item.result
          c.loop-event.replies.items c.push_reserved.new.self.items c.answer-now.result.1
          c.event-item.is c.loop-event-test.true c.push_reserved.ensures.items so_far.answers c.answer-now.ensures.answers;
      may = c.answer-now.ensures.again;
      len = omega (arith, so_far.len, c.push_reserved.ensures.len);
      room = omega (arith, so_far.room, c.push_reserved.ensures.capacity);
    }

pub returns-clause-answers : goal.returns-clause-answers
returns-clause-answers g c =
    subst (λ events. Plays g.D.Disk.state c.args.served events c.loop-event.replies.items c.loop-event.served)
    (take_all c.loop-event.event-index c.args.events.now c.loop-event-test.false) c.loop-event.invariant.answers
