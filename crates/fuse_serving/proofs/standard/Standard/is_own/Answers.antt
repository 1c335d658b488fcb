use Rattle.std.proofs.Common.{◌≡◌, ◌∙◌, sym, subst, ℕ, List}
use Rattle.std.specs.Path.{path_buf_bytes}
use Rattle.std.proofs.lemmas.Slice.Eq.{bytes_eq-Decides}
use Rattle.fuse_serving.specs.Processes.{HasShown, OwnUsers}
use Rattle.fuse_serving.proofs.standard.Standard.is_own.Goals as goal

pub returns-in-Some : goal.returns-in-Some
returns-in-Some g c = λ is.
    let same : path_buf_bytes c.in-Some.own ≡ c.args.users.now =
    sym c.as_str.ensures ∙ (bytes_eq-Decides c.as_str.result.now c.args.users.now).0 (sym c.eq.ensures ∙ is) in
    subst (λ (name : List ℕ). HasShown g.P.Processes.Shows (OwnUsers name)) same (c.if-is_none.self.own_shown c.in-Some.own c.in-Some.is)
