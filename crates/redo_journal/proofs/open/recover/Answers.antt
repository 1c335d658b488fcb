use Rattle.redo_journal.proofs.Meaning.{has_stays, header_same, read_then, same_map, still_means}
use Rattle.redo_journal.proofs.Reading.{found_valid}
use Rattle.redo_journal.proofs.open.recover.Goals as goal

pub returns-in_err-header-clause-any_moment : goal.returns-in_err-header-clause-any_moment
returns-in_err-header-clause-any_moment g c =
    still_means (g.D.Disk.state c.args.disk.now) (g.D.Disk.state c.find_commit.new.disk) (g.met.D.Disk.only_now c.args.disk.now) c.requires.stable (g.met.D.Disk.seen_is_image c.args.disk.now).size c.find_commit.ensures.reads

pub returns-in-None-clause-any_moment : goal.returns-in-None-clause-any_moment
returns-in-None-clause-any_moment g c =
    still_means (g.D.Disk.state c.args.disk.now) (g.D.Disk.state c.find_commit.new.disk) (g.met.D.Disk.only_now c.args.disk.now) c.requires.stable (g.met.D.Disk.seen_is_image c.args.disk.now).size c.find_commit.ensures.reads

pub returns-in_err-install_log-in-Some-clause-any_moment : goal.returns-in_err-install_log-in-Some-clause-any_moment
returns-in_err-install_log-in-Some-clause-any_moment g c =
    read_then (g.D.Disk.state c.args.disk.now) (g.D.Disk.state c.find_commit.new.disk) (g.D.Disk.state c.install_log.new.disk) (g.met.D.Disk.only_now c.args.disk.now) c.requires.stable
    (g.met.D.Disk.seen_is_image c.args.disk.now).size c.find_commit.ensures.reads
    (found_valid c.in_ok-header.found c.in-Some.commit _ _ c.in-Some.is c.in_ok-header.ensures.commit) c.install_log.ensures.any_moment

pub returns-in_ok-install_log-in-Some-clause-any_moment : goal.returns-in_ok-install_log-in-Some-clause-any_moment
returns-in_ok-install_log-in-Some-clause-any_moment g c =
    read_then (g.D.Disk.state c.args.disk.now) (g.D.Disk.state c.find_commit.new.disk) (g.D.Disk.state c.install_log.new.disk) (g.met.D.Disk.only_now c.args.disk.now) c.requires.stable
    (g.met.D.Disk.seen_is_image c.args.disk.now).size c.find_commit.ensures.reads
    (found_valid c.in_ok-header.found c.in-Some.commit _ _ c.in-Some.is c.in_ok-header.ensures.commit) c.install_log.ensures.any_moment

pub returns-in_ok-install_log-in-Some-clause-header : goal.returns-in_ok-install_log-in-Some-clause-header
returns-in_ok-install_log-in-Some-clause-header g c =
    let read = g.D.Disk.state c.find_commit.new.disk in
    let new = g.D.Disk.state c.install_log.new.disk in
    header_same read new _
    (same_map read new (g.met.D.Disk.counts_now c.install_log.new.disk) (g.met.D.Disk.seen_is_image c.install_log.new.disk) c.install_log.ensures.size c.install_log.ensures.any_moment)
    (has_stays (g.D.Disk.state c.args.disk.now) read _ c.find_commit.ensures.reads.narrowed c.in_ok-header.ensures.header)
