use Rattle.fs_layout.proofs.Places.{new_header_allowed, too_few_headers}
use Rattle.fs_layout.proofs.laws.new_headers_are_allowed.Goals as goal

pub returns : goal.returns
returns c = λ version sectors inodes range. record {
  allowed = new_header_allowed version sectors inodes range;
  least = λ header few. too_few_headers header sectors inodes few;
}
