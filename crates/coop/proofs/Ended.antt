-- What stands when the line of a right answer was printed.
use Rattle.std.proofs.Common.{ℕ, ℤ, List, Option, refl}
use Rattle.std.specs.Io.KnownBytes.{Appends}
use Rattle.kohlberg.specs.declared.verdicts.Verdict.TheVariants.{Yes, No}
use Rattle.report.specs.Lines.{line}
use Rattle.report.specs.declared.answer.Answer.{Answer}
use Rattle.convexity.specs.declared.answers.ConvexAnswer.TheVariants.{Convex as ConvexShares, Not as NotConvex}
use Rattle.report.specs.declared.answer.Answer.TheVariants.{Convex, Verdict}
use Rattle.coop.specs.Outcome.{IsRight, Answered, Ends, status_of}
use Rattle.coop.specs.ReadBack.{IsReadBack}

module _ (words : List (List ℕ)) (old new taken_old taken_new : Option (List ℕ)) (k : ℤ) where
  printed : (a : Answer) → IsRight words old new k a → Appends taken_old taken_new (line k a) → IsReadBack k a
      → Answered words old new taken_old taken_new (status_of a)
  printed a right took again = (k, (a, right, refl, took, again))

  pub ended : (a : Answer) → IsRight words old new k a → Appends taken_old taken_new (line k a) → IsReadBack k a
      → Ends words old new taken_old taken_new (status_of a)
  ended (Verdict Yes) right took again = printed (Verdict Yes) right took again
  ended (Verdict (No r)) right took again = printed (Verdict (No r)) right took again
  ended (Convex are_costs (ConvexShares shapley marginal)) right took again =
      printed (Convex are_costs (ConvexShares shapley marginal)) right took again
  ended (Convex are_costs (NotConvex s i j deficit)) right took again =
      printed (Convex are_costs (NotConvex s i j deficit)) right took again
  ended a right took again = printed a right took again
