use Rattle.airport_scheme.proofs.Sizes.{product_small, times_value}
use Rattle.airport_scheme.proofs.rates.times.Goals as goal

pub returns-clause-value : goal.returns-clause-value
returns-clause-value c = times_value c.args.a c.args.b c.requires.left c.requires.right

pub returns-clause-small : goal.returns-clause-small
returns-clause-small c = rw (times_value c.args.a c.args.b c.requires.left c.requires.right)
    (product_small c.args.a c.args.b c.requires.left c.requires.right)
