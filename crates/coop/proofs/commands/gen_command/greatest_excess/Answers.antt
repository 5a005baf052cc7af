use Rattle.std.proofs.Common.{◌≤◌, ◌^◌, ℕ, ℤ, pos, ◌≤ℤ◌, sym, ap, subst, ◌∙◌}
use Rattle.definitions.specs.Coalitions.{grand_coalition}
use Rattle.definitions.specs.Games.{HasTwo}
use Rattle.coop.proofs.TwoPlayers.{all_have_two, more_than_one}
use Rattle.definitions.specs.declared.Measure.TheVariants.{Plain}
use Rattle.coop.proofs.PrintableAnswers.{value_fine}
use Rattle.coop.proofs.commands.gen_command.greatest_excess.Goals as goal

pub measured_bound-greatest-requires-clause-two : goal.measured_bound-greatest-requires-clause-two
measured_bound-greatest-requires-clause-two g c =
    let n = (g.W.Worth.game c.args.game.now).players in
    let same = c.players-players.ensures.count in
    let two : 2 ≤ n =
    more_than_one n c.players-players.ensures.laws.some (λ e. c.if-players-eq1.false (same ∙ e)) in
    subst (λ (s : ℕ). HasTwo n s) (sym (c.all-all.ensures ∙ ap grand_coalition same)) (all_have_two n two)

pub returns-clause-fine : goal.returns-clause-fine
returns-clause-fine g c =
    let bound = c.measured_bound-greatest.ensures in
    let positive = subst (λ (d : ℤ). pos 1 ≤ℤ d) c.den-2.ensures.value c.den-2.ensures.positive in
    let common = subst (λ (d : ℤ). d ≤ℤ pos (2 ^ 63)) c.den-2.ensures.value c.den-2.ensures.common in
    value_fine Plain c.args.shares.now bound.0 c.measured_bound-greatest.result c.den.ensures.reduced positive
    common bound.2
