use Rattle.fs_model.proofs.FreeInodes.{free_are_clear}
use Rattle.fs_model.proofs.Summaries.{files_counted, nameless_counted, directories_counted, links_counted, nodes_counted}
use Rattle.fs_model.proofs.laws.numbers_are_counts.Goals as goal

pub returns : goal.returns
returns c = record {
  numbers = λ p image t held is. record {
    files = files_counted p image t held is;
    nameless = nameless_counted p image t held is;
    directories = directories_counted p image t held is;
    links = links_counted p image t held is;
    nodes = nodes_counted p image t held is;
  };
  free = free_are_clear;
}
