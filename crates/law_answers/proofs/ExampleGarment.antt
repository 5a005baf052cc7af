-- The garment of the Mishnah, and the three estates of Ketubot 93a: what the definitions say of them.
use Rattle.std.proofs.Common.{pos, refl, arith}
use Rattle.std.proofs.lemmas.Int.{ints}
use Rattle.law_answers.specs.TalmudRule.{IsGarment}

-- who claims all of a garment gets three quarters, who claims half of it gets one
garment_of_the_mishnah : IsGarment (pos 4) (pos 2) (pos 3) (pos 1)
garment_of_the_mishnah = refl

-- of 100 with claims of 100, 200 and 300 each gets a third: shares over 3
each_a_third : IsGarment (pos 300) (pos 600) (pos 100) (pos 100) × IsGarment (pos 600) (pos 900) (pos 100) (pos 100)
each_a_third = (refl, refl)

-- of 200 they get 50, 75 and 75, and of 300 they get 50, 100 and 150
of_two_hundred : IsGarment (pos 100) (pos 200) (pos 50) (pos 75) × IsGarment (pos 100) (pos 300) (pos 50) (pos 75)
    × IsGarment (pos 200) (pos 300) (pos 75) (pos 75)
of_two_hundred = (refl, refl, refl)

of_three_hundred : IsGarment (pos 100) (pos 200) (pos 50) (pos 100)
    × IsGarment (pos 100) (pos 300) (pos 50) (pos 150) × IsGarment (pos 200) (pos 300) (pos 100) (pos 150)
of_three_hundred = (refl, refl, refl)

-- in proportion to the claims they would get a sixth, a third and a half of 300, which agrees; of 200 they wouldn't
not_in_proportion : ¬ IsGarment (pos 300) (pos 600) (pos 100) (pos 200)
not_in_proportion h = omega (arith, ints, h)
