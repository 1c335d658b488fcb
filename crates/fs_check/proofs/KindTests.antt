-- What a test of an inode's kind tells.
use Rattle.std.specs.Prelude.{◌≡◌, ◌≢◌, Bool, true, false, not}
use Rattle.std.proofs.Common.{refl}
use denote.Enum.Bare.{sameb}
use Rattle.fs_layout.specs.contracts.inode.Kind.{the_type}
use Rattle.fs_layout.specs.declared.inode.Kind.{Kind}
use Rattle.fs_layout.specs.declared.inode.Kind.TheVariants as kinds

pub is_directory : (k : Kind) → true ≡ sameb the_type k kinds.Directory → k ≡ kinds.Directory
is_directory kinds.Free e = let c : true ≡ false = e in absurd cc
is_directory kinds.File e = let c : true ≡ false = e in absurd cc
is_directory kinds.Directory e = refl
is_directory kinds.Link e = let c : true ≡ false = e in absurd cc

pub no_directory : (k : Kind) → false ≡ sameb the_type k kinds.Directory → k ≢ kinds.Directory
no_directory kinds.Free e is = absurd cc
no_directory kinds.File e is = absurd cc
no_directory kinds.Directory e is = let c : false ≡ true = e in absurd cc
no_directory kinds.Link e is = absurd cc

pub where_not : (b : Bool) → true ≡ not b → false ≡ b
where_not true e = let c : true ≡ false = e in absurd cc
where_not false e = refl

pub where_so : (b : Bool) → false ≡ not b → true ≡ b
where_so true e = refl
where_so false e = let c : false ≡ true = e in absurd cc
