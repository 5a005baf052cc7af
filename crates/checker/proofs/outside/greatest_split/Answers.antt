use Rattle.std.proofs.Common.{ℕ, sym, subst}
use Rattle.std.proofs.lemmas.Bool.{false≢true}
use Rattle.definitions.specs.Games.{HasTwo}
use Rattle.checker.proofs.Free.{split_found, none_outside}
use Rattle.checker.proofs.outside.greatest_split.Goals as goal

pub returns-then-has_two : goal.returns-then-has_two
returns-then-has_two g c =
    λ levels h. split_found c.args.measure (g.W.Worth.game c.args.game.now) c.args.shares.now levels c.args.free
    c.measured_bound.result h c.measured_bound.ensures

pub returns-else-has_two : goal.returns-else-has_two
returns-else-has_two g c =
    let game = g.W.Worth.game c.args.game.now in
    λ levels h s lt. none_outside game.players levels c.args.free h
    (λ two. false≢true
    (c.if-has_two.ensures.1 (subst (λ (k : ℕ). HasTwo k c.args.free) (sym c.players.ensures.count) two))) s
