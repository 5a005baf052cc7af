use Rattle.airport_scheme.proofs.Sizes.{cost_fits, rest_fits, rest_small, rest_value}
use Rattle.airport_scheme.proofs.rates.rest.Goals as goal

pub returns-clause-value : goal.returns-clause-value
returns-clause-value c =
    rest_value c.args.den c.args.cost c.args.paid c.requires.positive c.requires.common c.requires.cost_low
    c.requires.cost_high c.requires.paid

pub returns-clause-small : goal.returns-clause-small
returns-clause-small c =
    rw
    (rest_value c.args.den c.args.cost c.args.paid c.requires.positive c.requires.common c.requires.cost_low
    c.requires.cost_high c.requires.paid)
    (rest_small c.args.den c.args.cost c.args.paid c.requires.positive c.requires.common c.requires.cost_low
    c.requires.cost_high c.requires.paid)

pub overflow_mul-result : goal.overflow_mul-result
overflow_mul-result c =
    cost_fits c.args.den c.args.cost c.requires.positive c.requires.common c.requires.cost_low c.requires.cost_high

pub overflow_sub-result : goal.overflow_sub-result
overflow_sub-result c =
    rest_fits c.args.den c.args.cost c.args.paid c.requires.positive c.requires.common c.requires.cost_low
    c.requires.cost_high c.requires.paid
