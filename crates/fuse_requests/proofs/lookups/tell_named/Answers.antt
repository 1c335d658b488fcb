use Rattle.std.specs.Prelude.{◌≡◌, ◌+◌, ◌≤◌, ℕ, List, length}
use Rattle.std.proofs.Common.{refl, ap, arith}
use Rattle.fuse_protocol.specs.Entries.{record_size}
use Rattle.fuse_requests.proofs.Listings.{length-told, still-fits}
use Rattle.fuse_requests.proofs.lookups.tell_named.Goals as goal

pub push_looked_up-requires-clause-name : goal.push_looked_up-requires-clause-name
push_looked_up-requires-clause-name g c =
    let fits = still-fits c.args.session.now.server.server c.find_copy-looked_up.new.session.server.server c.args.extent.handle c.args.cursor.at c.len.result c.args.extent.size
    (c.in-Some.named.now.name, c.in-Some.named.now.ino) c.in-Some.ensures.named (ap (λ s. s.server) c.find_copy-looked_up.ensures.kept) c.in_ok-copy.ensures.fits refl in
    omega (arith, fits, c.in_ok-copy.ensures.small refl)

pub push_looked_up-requires-clause-room : goal.push_looked_up-requires-clause-room
push_looked_up-requires-clause-room g c =
    let fits = still-fits c.args.session.now.server.server c.find_copy-looked_up.new.session.server.server c.args.extent.handle c.args.cursor.at c.len.result c.args.extent.size
    (c.in-Some.named.now.name, c.in-Some.named.now.ino) c.in-Some.ensures.named (ap (λ s. s.server) c.find_copy-looked_up.ensures.kept) c.in_ok-copy.ensures.fits refl in
    omega (arith, fits, c.len.ensures, c.requires.capacity)

pub returns-clause-longer : goal.returns-clause-longer
returns-clause-longer g c told =
    let e : List ℕ × ℕ = (c.in-Some.named.now.name, c.in-Some.named.now.ino) in
    let more : length c.push_looked_up.new.to.items ≡ length c.args.bytes.now.items + record_size (length e.0) =
    length-told ((c.after-next.result.before, e), c.find_copy-looked_up.result) c.args.bytes.now.items c.push_looked_up.ensures.bytes in
    omega (arith, more, c.push_looked_up.new.to.ok.0, c.args.bytes.now.ok.0)

pub returns-clause-within : goal.returns-clause-within
returns-clause-within g c told =
    let e : List ℕ × ℕ = (c.in-Some.named.now.name, c.in-Some.named.now.ino) in
    let fits : c.len.result + record_size (length e.0) ≤ c.args.extent.size =
    still-fits c.args.session.now.server.server c.find_copy-looked_up.new.session.server.server c.args.extent.handle c.args.cursor.at c.len.result c.args.extent.size e
    c.in-Some.ensures.named (ap (λ s. s.server) c.find_copy-looked_up.ensures.kept) c.in_ok-copy.ensures.fits refl in
    let more : length c.push_looked_up.new.to.items ≡ length c.args.bytes.now.items + record_size (length e.0) =
    length-told ((c.after-next.result.before, e), c.find_copy-looked_up.result) c.args.bytes.now.items c.push_looked_up.ensures.bytes in
    omega (arith, more, fits, c.len.ensures, c.push_looked_up.new.to.ok.0, c.args.bytes.now.ok.0)
