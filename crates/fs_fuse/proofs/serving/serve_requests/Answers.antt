use Rattle.std.proofs.Common.{rules, ◌≡◌, refl}
use Rattle.fs_system.specs.Seen.{System}
use Rattle.fuse_state.specs.Servers.{new_server}
use Rattle.fuse_serving.specs.Rounds.{Parties}
use Rattle.fs_fuse.specs.Performing.{has_not_begun}
use Rattle.fs_fuse.proofs.Performings.{serves_between}
use Rattle.fs_fuse.proofs.serving.serve_requests.Goals as goal

pub returns : goal.returns
returns g c =
    let session = c.in-Ok.session in
    let after = c.serve-served.new.performer in
    let old : Parties (System g.row.D.Denot) g.row.K.Denot =
    record { machine = session.machine; server = session.server.server; kernel = c.args.kernel.now } in
    let new : Parties (System g.row.D.Denot) g.row.K.Denot =
    record { machine = after.machine; server = after.server.server; kernel = c.serve-served.new.kernel } in
    let is : session.machine ≡ c.args.fs = search rules in
    let begun : session.server.server ≡ new_server c.args.settings = search rules in
    let end : after.machine ≡ c.into_fs-2.result = search rules in
    serves_between g.D.Disk.state g.K.Kernel.Does c.args.settings old new c.args.fs c.into_fs-2.result c.serve-served.result is begun end c.serve-served.ensures.served c.serve-served.ensures.broken

pub returns-in-Err : goal.returns-in-Err
returns-in-Err g c =
    let is : c.into_fs.result ≡ c.args.fs = search rules in
    has_not_begun refl is
