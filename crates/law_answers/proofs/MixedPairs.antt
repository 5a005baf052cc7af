-- The example: by computation, with the levels mixed as the games and the shares are.
use Rattle.std.proofs.Common.{[], ◌∷◌, pos, neg_ℤ, refl, inl, arith}
use Rattle.std.proofs.lemmas.Int.{ints}
use Rattle.theorems.proofs.Certified.{IsNucleolus-from_test}
use Rattle.definitions.specs.Coalitions.{members}
use Rattle.definitions.specs.declared.Measure.TheVariants.{Plain}
use Rattle.law_answers.specs.Mixtures.{mixed_game, mixed_shares, mixed_levels, agree, runway, halves, ones, level}
use Rattle.law_answers.specs.Mixtures.{MixedPairs}

pub mixed_pairs : MixedPairs
unfolding members
mixed_pairs = (
  (
    (record { coalitions = refl; earlier = refl; bounds = refl; total = refl }, tt),
    λ h. (let same = h.0.total in omega (arith, ints, same)),
  ),
  λ family. IsNucleolus-from_test family Plain (mixed_game (pos 2) (pos 1) agree runway)
      (mixed_shares (pos 2) (pos 1) halves ones)
      (mixed_levels (pos 2) (pos 1) (level (pos 1) (neg_ℤ (pos 1)) ∷ []) (level (pos 1) (neg_ℤ (pos 2)) ∷ []))
      (inl refl) refl,
)
