use Rattle.fs_layout.proofs.MapEntries.{names_have_entries, numbers_have_entries}
use Rattle.fs_layout.proofs.laws.maps_have_entries.Goals as goal

pub returns-clause-names : goal.returns-clause-names
returns-clause-names c = names_have_entries

pub returns-clause-numbers : goal.returns-clause-numbers
returns-clause-numbers c = numbers_have_entries
