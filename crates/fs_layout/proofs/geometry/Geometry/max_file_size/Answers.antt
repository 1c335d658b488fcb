use Rattle.std.proofs.Common.{arith}
use Rattle.fs_layout.proofs.Versions.{file_bounds, file_least}
use Rattle.fs_layout.proofs.geometry.Geometry.max_file_size.Goals as goal

pub returns-clause-least : goal.returns-clause-least
returns-clause-least c = let b = file_least c.args.self.version in omega (arith, b, c.max_file_size.ensures)

pub returns-clause-most : goal.returns-clause-most
returns-clause-most c = let b = (file_bounds c.args.self.version).1 in omega (arith, b, c.max_file_size.ensures)
