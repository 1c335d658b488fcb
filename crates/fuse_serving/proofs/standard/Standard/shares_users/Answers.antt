use Rattle.std.proofs.Common.{◌≡◌, ℕ, List, Bool, IsTrue, Result, Ok, Err, IfOk, subst}
use Rattle.std.specs.Path.{path_buf_bytes}
use Rattle.fuse_serving.specs.Processes.{Showing, Users, OwnUsers, HasShown, SharesUsers}
use Rattle.fuse_serving.proofs.standard.Standard.shares_users.Goals as goal

shares : {P E : Type 0} (Shows : P → Showing → P → Type 0) (now reached : P) (pid : ℕ) (name text : List ℕ) (result : Result Bool E) → text ≡ name
    → Shows now (Users pid name) reached → IfOk result (λ is. IsTrue is → HasShown Shows (OwnUsers text))
    → IfOk result (λ is. IsTrue is → SharesUsers Shows now pid)
shares Shows now reached pid name text (Ok is) same theirs own = λ yes. record {
  name = name;
  reached = reached;
  theirs = theirs;
  own = subst (λ (n : List ℕ). HasShown Shows (OwnUsers n)) same (own yes);
}
shares Shows now reached pid name text (Err e) same theirs own = tt

pub returns : goal.returns
returns g c =
    shares g.P.Processes.Shows c.args.self.now.processes c.users.new.self c.args.pid (path_buf_bytes c.in_ok-theirs.theirs) c.as_str.result.now
    c.is_own.result c.as_str.ensures c.in_ok-theirs.ensures c.is_own.ensures
