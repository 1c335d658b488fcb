use Rattle.fs_system.proofs.Played.{stops, stops_armed, stop_stands, armed_stands}
use Rattle.fs_system.proofs.playing.stop.Goals as goal

pub returns-in_default-clause-stopped : goal.returns-in_default-clause-stopped
returns-in_default-clause-stopped g c =
    let stop = c.crash.ensures in
    stops g.D.Disk.state c.args.disk c.crash.new.self stop.image stop.stable stop.failures (g.met.D.Disk.seen_is_image c.crash.new.self)

pub returns-in-Some-clause-stopped : goal.returns-in-Some-clause-stopped
returns-in-Some-clause-stopped g c =
    let stop = c.crash.ensures in
    stops_armed g.D.Disk.state c.args.disk c.crash.new.self stop.image stop.stable stop.failures (g.met.D.Disk.seen_is_image c.crash.new.self)
    c.arm.new.self c.arm.ensures.same c.arm.ensures.failures

pub returns-in_default-clause-stands : goal.returns-in_default-clause-stands
returns-in_default-clause-stands g c =
    let stop = c.crash.ensures in
    stop_stands g.D.Disk.state c.args.disk c.crash.new.self stop.image stop.stable stop.failures (g.met.D.Disk.seen_is_image c.crash.new.self) c.requires

pub returns-in-Some-clause-stands : goal.returns-in-Some-clause-stands
returns-in-Some-clause-stands g c =
    let stop = c.crash.ensures in
    armed_stands g.D.Disk.state c.crash.new.self c.arm.new.self c.arm.ensures.same
    (stop_stands g.D.Disk.state c.args.disk c.crash.new.self stop.image stop.stable stop.failures (g.met.D.Disk.seen_is_image c.crash.new.self) c.requires)
