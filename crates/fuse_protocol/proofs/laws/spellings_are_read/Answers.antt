use Rattle.fuse_protocol.proofs.SpelledRequests.{read_16, read_32, read_64, read_name, read_request}
use Rattle.fuse_protocol.proofs.laws.spellings_are_read.Goals as goal

pub returns-clause-numbers_of_16_bits : goal.returns-clause-numbers_of_16_bits
returns-clause-numbers_of_16_bits c = read_16

pub returns-clause-numbers_of_32_bits : goal.returns-clause-numbers_of_32_bits
returns-clause-numbers_of_32_bits c = read_32

pub returns-clause-numbers_of_64_bits : goal.returns-clause-numbers_of_64_bits
returns-clause-numbers_of_64_bits c = read_64

pub returns-clause-names : goal.returns-clause-names
returns-clause-names c = read_name

pub returns-clause-requests : goal.returns-clause-requests
returns-clause-requests c = read_request
