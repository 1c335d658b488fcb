use Rattle.std.proofs.Common.{◌≡◌, ℕ, ◌<◌, Ok, Some, refl, sym, ap, subst, ◌∙◌, inr}
use Rattle.std.specs.Prelude.{Option}
use Rattle.fs_layout.specs.declared.inode.Inode.{Inode}
use Rattle.fs_layout.specs.Directories.{HasNames}
use Rattle.fs_model.specs.Nodes.{names_of_body}
use Rattle.path_walk.proofs.HeldNodes.{held_names, held_parent}
use Rattle.path_walk.proofs.Finding.{dot_is, dots_are, name_is}
use Rattle.path_walk.proofs.walker.find.Goals as goal

pub returns-then-is_dot-clause-each : goal.returns-then-is_dot-clause-each
returns-then-is_dot-clause-each g c = λ t h d.
    ap (λ (o : Option ℕ). Ok o) (dot_is t c.args.ino (names_of_body d.node.body) c.args.name.now (sym c.is_dot.ensures ∙ c.if-is_dot.true))

pub returns-then-is_dot_dot-clause-each : goal.returns-then-is_dot_dot-clause-each
returns-then-is_dot_dot-clause-each g c = λ t h d.
    ap (λ (o : Option ℕ). Ok o)
    (dots_are t c.args.ino (names_of_body d.node.body) c.args.name.now (sym c.is_dot.ensures ∙ c.if-is_dot.false) (sym c.is_dot_dot.ensures ∙ c.if-is_dot_dot.true)
    ∙ ap (λ (n : ℕ). Some n) (sym (held_parent h c.args.ino d) ∙ ap (λ (v : Inode). v.parent) (sym c.requires.inode)))

pub lookup-requires-clause-there : goal.lookup-requires-clause-there
lookup-requires-clause-there g c = (c.args.ino, c.requires.below, c.requires.inode)

pub lookup-requires-clause-directory : goal.lookup-requires-clause-directory
lookup-requires-clause-directory g c = (c.requires.leads.names, c.requires.leads.has)

pub returns-then-is_dot-clause-below : goal.returns-then-is_dot-clause-below
returns-then-is_dot-clause-below g c = λ m e. let same : c.args.ino ≡ m = cc in subst (λ (k : ℕ). k < c.args.geometry.inodes) same c.requires.below

pub returns-then-is_dot_dot-clause-below : goal.returns-then-is_dot_dot-clause-below
returns-then-is_dot_dot-clause-below g c = λ m e.
    let same : c.args.inode.now.parent ≡ m = cc in subst (λ (k : ℕ). k < c.args.geometry.inodes) same c.requires.leads.parent

pub returns-in-Ok-clause-below : goal.returns-in-Ok-clause-below
returns-in-Ok-clause-below g c = λ m e.
    let leads = c.requires.leads in
    leads.inside c.args.name.now m (sym (c.in-Ok.ensures.found leads.names leads.has) ∙ e)

pub returns-in-Err-clause-err : goal.returns-in-Err-clause-err
returns-in-Err-clause-err g c = inr (refl, c.in-Err.ensures.cause.fault)

pub returns-in-Ok-clause-each : goal.returns-in-Ok-clause-each
returns-in-Ok-clause-each g c = λ t h d.
    let image = (g.S.Sectors.state c.args.s.now).sectors in
    let names = subst (λ (v : Inode). HasNames c.args.geometry.version image v (names_of_body d.node.body)) (sym c.requires.inode) (held_names h c.args.ino d) in
    ap (λ (o : Option ℕ). Ok o)
    (name_is t c.args.ino (names_of_body d.node.body) c.args.name.now (sym c.is_dot.ensures ∙ c.if-is_dot.false) (sym c.is_dot_dot.ensures ∙ c.if-is_dot_dot.false)
    ∙ sym (c.in-Ok.ensures.found (names_of_body d.node.body) names))

pub returns-in-Err-clause-each : goal.returns-in-Err-clause-each
returns-in-Err-clause-each g c = λ t h d. inr (inr (refl, c.in-Err.ensures.cause.fault))
