use Rattle.std.proofs.lemmas.Int.{to_z-of_z}
use Rattle.fractions.proofs.LowestTerms.{whole_reduced}
use Rattle.fractions.proofs.frac.Frac.from_int.Goals as goal

pub invariant_of-result : goal.invariant_of-result
invariant_of-result c = let f = c.ranges.value in simp to_z-of_z (whole_reduced c.args.value)
