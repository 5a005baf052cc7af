use Rattle.law_answers.proofs.SortedLists.{sorted_is_the_sorting}
use Rattle.law_answers.proofs.sorted_lists.sorted_is_the_sorting.Goals as goal

pub returns : goal.returns
returns c = sorted_is_the_sorting
