use Rattle.std.proofs.Common.{rules, ◌≡◌, true, false}
use Rattle.std.proofs.lemmas.Iterator.{first_from_Range}
use Rattle.definitions.specs.Coalitions.{has_player}
use Rattle.assignment_games.proofs.Table.{least_player}
use Rattle.assignment_games.proofs.values.first_buyer.Goals as goal

pub returns : goal.returns
returns c =
    let s = c.args.s in
    least_player s c.args.buyers c.find.result
    (first_from_Range _ _ _ _ (λ i. has_player s i ≡ true) (λ i. has_player s i ≡ false) c.find.ensures.ran
    (λ x q k. search rules)
    (λ x q k. (search rules, search rules)))
