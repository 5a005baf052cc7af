-- No answer's tree has a float.
use Rattle.std.proofs.Common.{◌≡◌, ℕ, true, false, refl}
use Rattle.serde_json.specs.View.{view}
use Rattle.serde_json.specs.Written.{has_float}
use Rattle.kohlberg.specs.declared.verdicts.Verdict.{Verdict}
use Rattle.kohlberg.specs.declared.verdicts.Verdict.TheVariants.{Yes, No}
use Rattle.kohlberg.specs.declared.verdicts.Place.TheVariants.{Coalition, Player}
use Rattle.kohlberg.specs.declared.verdicts.Reason.TheVariants.{NotEfficient as not_efficient, NotIndividual}
use Rattle.kohlberg.specs.declared.verdicts.Reason.TheVariants.{WrongExcess, WeightSign, Unbalanced}
use Rattle.kohlberg.specs.declared.verdicts.Reason.TheVariants.{BoundNotTight, OutsideAbove, NotAll}
use Rattle.report.specs.Verdicts.{verdict_tree}
use Rattle.report.specs.Limits.{HasPrintableForm}
use Rattle.report.specs.Lines.{answer_tree}
use Rattle.report.specs.declared.answer.Answer.{Answer}
use Rattle.report.specs.declared.answer.Answer.TheVariants.{Nucleolus, NoImputation, InCore, NotEfficient}
use Rattle.report.specs.declared.answer.Answer.TheVariants.{Blocked, CorePoint, EmptyCore, Shapley, Bird, Convex}
use Rattle.report.specs.declared.answer.Answer.TheVariants.{Prekernel, NotPrekernel, Matching, Verdict as verdict}
use Rattle.report.specs.declared.answer.Answer.TheVariants.{Usage, Refused, Summary}
use Rattle.report.proofs.Summaries.{summary_whole}
use Rattle.report.proofs.BirdEdges.{edges_whole}
use Rattle.report.proofs.ConvexAnswers.{convex_whole}
use Rattle.report.proofs.Matchings.{matching_whole}
use Rattle.report.proofs.CertificateNumbers.{coalition_whole, shares_whole, empty_core_whole, nucleolus_whole}

verdict_has_float : (k : ℕ) (v : Verdict) → has_float (verdict_tree k v) ≡ false
verdict_has_float k Yes = refl
verdict_has_float k (No not_efficient) = refl
verdict_has_float k (No (NotIndividual i)) = refl
verdict_has_float k (No (WrongExcess j s)) = rw (coalition_whole s) refl
verdict_has_float k (No (WeightSign j (Coalition s))) = rw (coalition_whole s) refl
verdict_has_float k (No (WeightSign j (Player i))) = refl
verdict_has_float k (No (Unbalanced j i)) = refl
verdict_has_float k (No (BoundNotTight j i)) = refl
verdict_has_float k (No (OutsideAbove j e)) = refl
verdict_has_float k (No (NotAll i)) = refl

pub no_float : (k : ℕ) (a : Answer) → HasPrintableForm a → has_float (answer_tree k a) ≡ false
no_float k (Nucleolus family tree is_cost x c) h = nucleolus_whole k family (view tree) is_cost x c h.0
no_float k (NoImputation singles total) h = refl
no_float k InCore h = refl
no_float k (NotEfficient sum total) h = refl
no_float k (Blocked s e) h = rw (coalition_whole s) refl
no_float k (CorePoint is_cost x) h = rw (shares_whole k is_cost x) refl
no_float k (EmptyCore c value against) h = empty_core_whole k c value against
no_float k (Shapley is_cost x) h = rw (shares_whole k is_cost x) refl
no_float k (Bird x edges) h = rw (shares_whole k true x, edges_whole k edges) refl
no_float k (Convex is_cost answer) h = convex_whole k is_cost answer
no_float k Prekernel h = refl
no_float k (NotPrekernel i j ij ji) h = refl
no_float k (Matching solution) h = matching_whole k solution
no_float k (verdict v) h = verdict_has_float k v
no_float k (Usage kind) h = refl
no_float k (Refused r) h = refl
no_float k (Summary s) h = summary_whole k s
