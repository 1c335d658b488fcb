use Rattle.std.proofs.Common.{rules}
use Rattle.fs_info.proofs.printing.print_limit_lines.Goals as goal

pub returns : goal.returns
returns g c = rw (← c.max_name.ensures, ← c.max_names.ensures, ← c.max_inode_names.ensures, ← c.max_file_size.ensures) (search rules)
