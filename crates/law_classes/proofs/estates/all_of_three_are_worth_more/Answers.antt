use Rattle.law_classes.proofs.AllOfThree.{all_of_three_are_worth_more}
use Rattle.law_classes.proofs.estates.all_of_three_are_worth_more.Goals as goal

pub returns : goal.returns
returns c = all_of_three_are_worth_more
