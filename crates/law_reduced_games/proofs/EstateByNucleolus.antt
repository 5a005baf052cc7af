-- Every nucleolus of an estate has the shares of the Talmud rule, so nobody gets more than the claim, nor less than
-- nothing; so its reduced game is that of the estate that is left.
use Rattle.std.proofs.Common.{ℤ, pos, ◌*ℤ◌, ◌≤ℤ◌, arith, ◌≡◌, ◌∙◌}
use lib.IntN.{*ℤ_comm}
use Rattle.definitions.proofs.Ring.{linear, mul-leℤ, mul-le_cancelℤ}
use Rattle.definitions.proofs.Families.{allocation_of, efficient_of}
use Rattle.law_answers.specs.ClassGames.{bankruptcy_game}
use Rattle.law_answers.proofs.EachTwoAreAGarment.{nobody_more}
use Rattle.law_answers.proofs.EveryNucleolus.{every_nucleolus, rule_in_core}
use Rattle.law_answers.proofs.TalmudSharesExist.{talmud_exists}
use Rattle.law_reduced_games.specs.EstatesLeft.{EstateByNucleolus}
use Rattle.law_reduced_games.proofs.NucleolusReduces.{both_reduce}
use Rattle.law_reduced_games.proofs.ReducedEstate.{reduced_estate}
use Rattle.theorems.proofs.Products.{products, sorted_products}

-- between 0 and the claim c, over another denominator
between : (q d a b c : ℤ) → pos 1 ≤ℤ q → pos 1 ≤ℤ d → a *ℤ q ≡ b *ℤ d → pos 0 ≤ℤ a → a ≤ℤ (d *ℤ c)
    → (pos 0 ≤ℤ b) × (b ≤ℤ (q *ℤ c))
between q d a b c one two e low high =
    let e1 = *ℤ_comm q a ∙ e ∙ *ℤ_comm b d in
    let up = mul-leℤ q a (d *ℤ c) (omega (arith, linear, one)) high in
    let down = mul-leℤ q (pos 0) a (omega (arith, linear, one)) low in (
      mul-le_cancelℤ d (pos 0) b (omega (arith, linear, two))
          (omega (products, down, e1)),
      mul-le_cancelℤ d b (q *ℤ c) (omega (arith, linear, two)) (omega (sorted_products, up, e1)),
    )

pub estate_by_nucleolus : EstateByNucleolus
estate_by_nucleolus family m who estate left claims left_claims x covered a e is =
    let g = bankruptcy_game estate claims in
    let rule = talmud_exists estate claims covered in
    let same = every_nucleolus family estate claims rule.0 x rule.1 is in
    let allocation = allocation_of family g x is.0 in
    both_reduce family m who g (bankruptcy_game left left_claims) x rule.0 a
    (reduced_estate m who estate left claims left_claims x a
    (record {
      all = (allocation, efficient_of family g x is.0);
      each = λ i lt.
          let bounds = nobody_more estate claims rule.0 rule.1 i lt in
          between x.den rule.0.den _ _ _ allocation.1 rule.1.positive (same i lt) bounds.0 bounds.1;
    })
    e)
    (rule_in_core estate claims rule.0 rule.1) is
