use Rattle.std.proofs.Common.{◌≡◌, ℕ, Ok, refl, sym, ap, ◌∙◌}
use Rattle.posix_acl.specs.declared.entry.Perms.{Perms}
use Rattle.posix_acl.specs.AccessList.{AccessList, minimal}
use Rattle.fs_cred.specs.declared.node.Node.{Node as AccessNode}
use Rattle.fs_cred.specs.declared.node.NodeKind.{NodeKind}
use Rattle.fs_cred.specs.declared.rule.Verdict.{Verdict}
use Rattle.fs_cred.specs.Credentials.{Credential}
use Rattle.fs_cred.specs.Verdicts.{verdict}
use Rattle.inode_table.proofs.StoredAcls.{told_by_mode}
use Rattle.path_walk.proofs.walker.permission.Goals as goal

-- a verdict on what an inode says is that on the node
same_verdict : (cred : Credential) (want : Perms) (k : NodeKind) (o g : ℕ) (a : AccessList) (v : Verdict)
    → v ≡ verdict cred (record { kind = k; owner = o; group = g; acl = a }) want
    → (x : AccessNode) → k ≡ x.kind → o ≡ x.owner → g ≡ x.group → a ≡ x.acl → verdict cred x want ≡ v
same_verdict cred want k o g a v is x e f h i = sym (is ∙ ap (λ (n : AccessNode). verdict cred n want) (rw (e, f, h, i) refl))

pub returns-then-inode-eq0-clause-each : goal.returns-then-inode-eq0-clause-each
returns-then-inode-eq0-clause-each g c = λ node has.
    let v = c.args.inode.now in
    ap (λ (u : Verdict). Ok u) (same_verdict c.args.cred.now c.args.want _ v.uid v.gid (minimal v.mode) _ c.decide_by_mode-verdict.ensures.computed
    node (c.node_kind-kind.ensures node.kind has.kind) has.owner has.group
    (told_by_mode (g.S.Sectors.state c.args.s.now).sectors v node.acl (minimal v.mode) has.acl c.if-inode-eq0.true refl))

pub returns-clause-each : goal.returns-clause-each
returns-clause-each g c = λ node has.
    let v = c.args.inode.now in
    ap (λ (u : Verdict). Ok u) (same_verdict c.args.cred.now c.args.want _ v.uid v.gid c.in-Ok.acl _ c.decide.ensures.computed
    node (c.node_kind-kind.ensures node.kind has.kind) has.owner has.group (c.in-Ok.ensures.found node.acl has.acl))
