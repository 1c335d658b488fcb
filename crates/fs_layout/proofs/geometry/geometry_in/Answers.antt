use Rattle.std.proofs.Common.{rules, arith, sym}
use Rattle.fs_layout.specs.Geometry.{geometry_in}
use Rattle.fs_layout.proofs.Places.{numbers_allowed, parts_small, is_a_geometry}
use Rattle.fs_layout.proofs.geometry.geometry_in.Goals as goal

pub log_end-inode_bitmap-requires : goal.log_end-inode_bitmap-requires
log_end-inode_bitmap-requires c =
    (numbers_allowed c.args.version c.args.header c.args.sectors c.args.inodes (sym c.if-not-are_in_range.ensures) (sym c.if-not-allows_header.ensures)).0

pub overflow_add-block_bitmap : goal.overflow_add-block_bitmap
overflow_add-block_bitmap c =
    let small = parts_small c.args.version c.args.header c.args.sectors c.args.inodes (sym c.if-not-are_in_range.ensures) (sym c.if-not-allows_header.ensures) in
    omega (arith, small, c.log_end-inode_bitmap.ensures, c.div_ceil.ensures)

pub overflow_add-table : goal.overflow_add-table
overflow_add-table c =
    let small = parts_small c.args.version c.args.header c.args.sectors c.args.inodes (sym c.if-not-are_in_range.ensures) (sym c.if-not-allows_header.ensures) in
    omega (arith, small, c.log_end-inode_bitmap.ensures, c.div_ceil.ensures, c.div_ceil-2.ensures)

pub overflow_add-first_data : goal.overflow_add-first_data
overflow_add-first_data c =
    let small = parts_small c.args.version c.args.header c.args.sectors c.args.inodes (sym c.if-not-are_in_range.ensures) (sym c.if-not-allows_header.ensures) in
    omega (arith, small, c.log_end-inode_bitmap.ensures, c.div_ceil.ensures, c.div_ceil-2.ensures, c.div_ceil-3.ensures)

pub overflow_add-first_data-2 : goal.overflow_add-first_data-2
overflow_add-first_data-2 c =
    let small = parts_small c.args.version c.args.header c.args.sectors c.args.inodes (sym c.if-not-are_in_range.ensures) (sym c.if-not-allows_header.ensures) in
    omega (arith, small, c.log_end-inode_bitmap.ensures, c.div_ceil.ensures, c.div_ceil-2.ensures, c.div_ceil-3.ensures)

pub returns-clause-value : goal.returns-clause-value
unfolding geometry_in
returns-clause-value c = search rules

pub returns-clause-room : goal.returns-clause-room
returns-clause-room c = is_a_geometry c.args.version c.args.header c.args.sectors c.args.inodes (sym (returns-clause-value c))
