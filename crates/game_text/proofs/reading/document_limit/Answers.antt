use Rattle.std.proofs.Common.{◌<◌, ◌^◌, sym, subst, arith}
use Rattle.game_text.specs.Text.{document_limit}
use Rattle.game_text.specs.declared.command.Command.{Command}
use Rattle.game_text.specs.declared.command.Command.TheVariants as command
use Rattle.game_text.proofs.reading.document_limit.Goals as goal

limit_is_small : (given : Command) → document_limit given < 2 ^ 40
limit_is_small command.Nucleolus = omega arith
limit_is_small command.Prenucleolus = omega arith
limit_is_small command.Propose = omega arith
limit_is_small command.Core = omega arith
limit_is_small command.Check = omega arith
limit_is_small command.Shapley = omega arith
limit_is_small command.Bird = omega arith
limit_is_small command.Convex = omega arith
limit_is_small command.Kernel = omega arith
limit_is_small command.Matching = omega arith

pub returns-clause-small : goal.returns-clause-small
returns-clause-small c = subst (λ inputs. inputs.limit < 2 ^ 40) (sym c.needs.ensures) (limit_is_small c.args.command)
