use Rattle.std.proofs.Common.{rules, ℤ, of_z, ◌*ℤ◌, sym, ap, subst, ◌∙◌, arith}
use Rattle.std.proofs.Math.Pow.{pow-sub-lt}
use Rattle.std.specs.Int.{w64, w128}
use Rattle.std.proofs.lemmas.Int.{ints, to_z-of_z}
use Rattle.definitions.specs.Coalitions.{grand_coalition}
use Rattle.definitions.specs.Games.{amount, InCore}
use Rattle.real_shares.proofs.ForReals.{core_point_for_reals}
use Rattle.fractions.specs.Fraction.{IsRatio}
use Rattle.coop.specs.Judgement.{printed}
use Rattle.coop.proofs.FineLevels.{ratio_is_fine}
use Rattle.coop.proofs.commands.propose_command.judge.Goals as goal
use Rattle.definitions.proofs.Casts.{cast_kept}

pub returns-then-sum-scaled-clause-judges : goal.returns-then-sum-scaled-clause-judges
returns-then-sum-scaled-clause-judges g c =
    let game = g.W.Worth.game c.args.game.now in
    let x = c.args.shares.now in
    let scale_kept =
    cast_kept w128 c.den.result (omega (arith, ints, c.den.ensures.positive, c.den.ensures.common)) in
    let amount_kept = cast_kept w128 c.printed_amount.result (omega (arith, c.printed_amount.ensures.small)) in
    let all = c.all-everyone.ensures ∙ ap grand_coalition c.players.ensures.count in
    let sum = c.sum_of-sum.ensures.value ∙ ap (amount x) all in
    let worth = c.worth-total.ensures ∙ ap game.worth all in
    let sum_kept = cast_kept w128 c.sum_of-sum.result (omega (arith, c.sum_of-sum.ensures.small)) in
    let total_kept =
    cast_kept w64 c.worth-total.result
    (rw worth
    (omega (
      arith,
      c.players.ensures.laws.small (grand_coalition game.players)
          (pow-sub-lt game.players (omega arith)),
    ))) in
    let den_kept =
    cast_kept w128 c.den-then-sum-scaled.result
    (omega (arith, ints, c.den-then-sum-scaled.ensures.positive, c.den-then-sum-scaled.ensures.common)) in
    let num = c.printed_amount.ensures.value ∙ ap (printed c.args.are_costs) (sum_kept ∙ sum) in
    let scaled = rw (scale_kept, total_kept) at c.scaled.ensures.value in
    let ratio : IsRatio c.over.result c.printed_amount.result c.den-then-sum-scaled.result =
    rw (amount_kept, den_kept) at c.over.ensures in
    record {
      differs = λ h. c.if-sum-scaled.true
          (ap (λ (z : ℤ). of_z w128 z)
          (sum ∙ h
          ∙ sym
          (scaled ∙ ap (λ (d : ℤ). d *ℤ c.worth-total.result) c.den.ensures.value
          ∙ ap (λ (w : ℤ). x.den *ℤ w) worth)));
      adds =
          subst (λ (n : ℤ). IsRatio c.over.result n x.den) num
          (subst (λ (d : ℤ). IsRatio c.over.result c.printed_amount.result d) c.den-then-sum-scaled.ensures.value
          ratio);
      worth_of_all =
          to_z-of_z w64 c.printed_worth.result (omega (arith, ints, c.printed_worth.ensures.small))
          ∙ c.printed_worth.ensures.value ∙ ap (printed c.args.are_costs) (total_kept ∙ worth);
    }

pub returns-then-sum-scaled-clause-printable : goal.returns-then-sum-scaled-clause-printable
returns-then-sum-scaled-clause-printable g c =
    let den_kept =
    cast_kept w128 c.den-then-sum-scaled.result
    (omega (arith, ints, c.den-then-sum-scaled.ensures.positive, c.den-then-sum-scaled.ensures.common)) in
    let ratio : IsRatio c.over.result _ c.den-then-sum-scaled.result = rw den_kept at c.over.ensures in
    record {
      fine =
          ratio_is_fine c.over.result _ c.den-then-sum-scaled.result ratio c.den-then-sum-scaled.ensures.positive
          c.den-then-sum-scaled.ensures.common;
      form = tt;
    }

pub returns-in-Some-clause-printable : goal.returns-in-Some-clause-printable
returns-in-Some-clause-printable g c =
    let den_kept =
    cast_kept w128 c.den-in-Some.result
    (omega (arith, ints, c.den-in-Some.ensures.positive, c.den-in-Some.ensures.common)) in
    let ratio : IsRatio c.over-in-Some.result _ c.den-in-Some.result = rw den_kept at c.over-in-Some.ensures in
    record {
      fine =
          ratio_is_fine c.over-in-Some.result _ c.den-in-Some.result ratio c.den-in-Some.ensures.positive
          c.den-in-Some.ensures.common;
      form = tt;
    }

pub returns-in-None-clause-judges : goal.returns-in-None-clause-judges
returns-in-None-clause-judges g c =
    let game = g.W.Worth.game c.args.game.now in
    let core : InCore game c.args.shares.now = search rules in
    (core, core_point_for_reals game c.args.shares.now core)
