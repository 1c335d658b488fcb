use Rattle.std.proofs.Common.{rules}
use Rattle.posix_acl.proofs.Classes.{classes_written}
use Rattle.posix_acl.proofs.acl.Acl.with_classes.Goals as goal

pub invariant_of-self : goal.invariant_of-self
invariant_of-self c =
    (classes_written _ _ _ _ _ _ _ _ _ c.self.view_is c.self.invariant (search rules) c.index_mut.ensures.value c.index_mut-2.ensures.value c.index_mut-3.ensures.value).0

pub returns : goal.returns
returns c =
    (classes_written _ _ _ _ _ _ _ _ _ c.self.view_is c.self.invariant (search rules) c.index_mut.ensures.value c.index_mut-2.ensures.value c.index_mut-3.ensures.value).1
