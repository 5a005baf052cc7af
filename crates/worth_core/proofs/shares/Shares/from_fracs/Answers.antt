use Rattle.std.proofs.Common.{◌≡◌, ◌<◌, ◌^◌, ◌++◌, ◌∷◌, [], ℤ, List, map, All}
use Rattle.std.proofs.Common.{unsigned_abs, FitsSigned, ap, ◌∙◌, sym, subst, rules}
use Rattle.std.proofs.lemmas.Int.{to_z-of_z}
use Rattle.std.proofs.lemmas.List.{take_all}
use Rattle.std.proofs.lemmas.List.Elements.{All-push}
use mir.Syntax.{w128}
use Rattle.definitions.specs.Games.{IsShares}
use Rattle.worth_core.specs.Allocations.{allocation}
use Rattle.worth_core.specs.LeastDenominators.{IsLeastDenominator, numerator_over}
use Rattle.worth_core.proofs.FineShares.{fine_shares, too_fine_numerator, over_more}
use Rattle.worth_core.proofs.shares.Shares.from_fracs.Goals as goal

pub returns-in_err-z-clause-too_fine : goal.returns-in_err-z-clause-too_fine
returns-in_err-z-clause-too_fine c = λ _.
    let fd : FitsSigned w128 c.in_ok-den.den = search rules in
    let least = rw (c.in_ok-den.ensures {u = tt}).ok_part at c.least_common_denominator.ensures in
    let none = simp to_z-of_z at (rw (c.in_err-z.ensures {u = tt}).ok_part at c.numerator_over.ensures) in
    too_fine_numerator c.args.shares.now c.in_ok-den.den c.loop-f.f-index c.f-item.result least.0 c.loop-f-test.true
    c.f-item.is none

pub loop-f-preserved : goal.loop-f-preserved
loop-f-preserved c =
    let fd : FitsSigned w128 c.in_ok-den.den = search rules in
    let fz : FitsSigned w128 c.in_ok-z.z = search rules in
    let made = simp to_z-of_z at (rw (c.in_ok-z.ensures {u = tt}).ok_part at c.numerator_over.ensures) in
    let before = simp to_z-of_z at c.loop-f.invariant.over in
    let items : c.push.new.self.items ≡ c.loop-f.num.items ++ c.in_ok-z.z ∷ [] = search rules in
    let small : unsigned_abs c.in_ok-z.z < 2 ^ 110 =
    subst (λ (z : ℤ). unsigned_abs z < 2 ^ 110) (sym made.1) made.0 in
    simp to_z-of_z (record {
      over =
          items
          ∙ over_more c.in_ok-den.den c.args.shares.now c.loop-f.f-index c.f-item.result c.loop-f.num.items
          c.in_ok-z.z c.loop-f-test.true c.f-item.is before made.1;
      small =
          subst (All (λ z. unsigned_abs z < 2 ^ 110)) (sym items)
          (All-push (λ z. unsigned_abs z < 2 ^ 110) c.loop-f.num.items c.in_ok-z.z c.loop-f.invariant.small small);
    })

whole : (c : goal.After-loop-f)
    → IsLeastDenominator c.args.shares.now c.in_ok-den.den
    × (c.loop-f.num.items ≡ map (numerator_over c.in_ok-den.den) c.args.shares.now)
    × IsShares (allocation c.loop-f.num.items c.in_ok-den.den)
whole c =
    let fd : FitsSigned w128 c.in_ok-den.den = search rules in
    let least = rw (c.in_ok-den.ensures {u = tt}).ok_part at c.least_common_denominator.ensures in
    let front = simp to_z-of_z at c.loop-f.invariant.over in
    let items : c.loop-f.num.items ≡ map (numerator_over c.in_ok-den.den) c.args.shares.now =
    front
    ∙ ap (map (numerator_over c.in_ok-den.den))
    (take_all c.loop-f.f-index c.args.shares.now c.loop-f-test.false) in (
      least.0,
      items,
      fine_shares c.args.shares.now c.in_ok-den.den c.loop-f.num.items items c.requires.some c.requires.few
          least.0.positive least.1 c.loop-f.invariant.small,
    )

pub invariant_of-result : goal.invariant_of-result
invariant_of-result c =
    let fd : FitsSigned w128 c.in_ok-den.den = search rules in
    simp to_z-of_z (whole c).2

pub returns-clause-value : goal.returns-clause-value
returns-clause-value c =
    let fd : FitsSigned w128 c.in_ok-den.den = search rules in
    let w = whole c in
    simp to_z-of_z (w.0, ap (λ (zs : List ℤ). allocation zs c.in_ok-den.den) w.1, w.2)
