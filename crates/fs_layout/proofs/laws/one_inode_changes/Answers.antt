use Rattle.fs_layout.proofs.Consistent.{stays_consistent, other_inode, other_keeps}
use Rattle.fs_layout.proofs.laws.one_inode_changes.Goals as goal

pub returns : goal.returns
returns c = λ p n old new h lt changes. record {
  consistent = stays_consistent h lt changes;
  others = λ m below ne. other_inode h lt changes m below ne;
  kept = λ m below ne. other_keeps h lt changes m below ne;
}
