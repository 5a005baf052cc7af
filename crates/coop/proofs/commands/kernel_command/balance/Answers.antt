use Rattle.std.proofs.Common.{◌^◌, ℤ, pos, ◌≤ℤ◌, subst}
use Rattle.coop.proofs.PrintableAnswers.{differs_not_balanced, surplus_fine}
use Rattle.real_shares.proofs.ForReals.{in_prekernel_for_reals}
use Rattle.coop.proofs.commands.kernel_command.balance.Goals as goal

pub returns-in-Balanced-clause-balances : goal.returns-in-Balanced-clause-balances
returns-in-Balanced-clause-balances g c =
    let inside = c.in-Balanced.ensures.answer in
    (inside, in_prekernel_for_reals (g.W.Worth.game c.args.game.now) c.args.shares.now inside)

pub returns-in-Differs-clause-prenucleolus : goal.returns-in-Differs-clause-prenucleolus
returns-in-Differs-clause-prenucleolus g c = λ h.
    absurd
    (differs_not_balanced c.in-Differs.i c.in-Differs.j c.in-Differs.ij c.in-Differs.ji
    (c.in-Differs.ensures.prenucleolus_is_balanced h))

pub returns-in-Differs-clause-printable : goal.returns-in-Differs-clause-printable
returns-in-Differs-clause-printable g c =
    let game = g.W.Worth.game c.args.game.now in
    let x = c.args.shares.now in
    let positive = subst (λ (d : ℤ). pos 1 ≤ℤ d) c.den.ensures.value c.den.ensures.positive in
    let common = subst (λ (d : ℤ). d ≤ℤ pos (2 ^ 63)) c.den.ensures.value c.den.ensures.common in
    let differs = c.in-Differs.ensures.answer in
    record {
      fine = (
        surplus_fine game x c.in-Differs.i c.in-Differs.j c.in-Differs.ij positive common differs.2,
        surplus_fine game x c.in-Differs.j c.in-Differs.i c.in-Differs.ji positive common differs.3,
      );
      form = tt;
    }
