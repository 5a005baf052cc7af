-- No answer's tree is nested deeper than is read.
use Rattle.std.proofs.Common.{ℕ, ◌≤◌, true, arith}
use Rattle.serde_json.specs.Data.{depth}
use Rattle.serde_json.specs.Read.{max_depth}
use Rattle.serde_json.specs.View.{view}
use Rattle.kohlberg.specs.declared.verdicts.Verdict.{Verdict}
use Rattle.kohlberg.specs.declared.verdicts.Verdict.TheVariants.{Yes, No}
use Rattle.kohlberg.specs.declared.verdicts.Place.TheVariants.{Coalition, Player}
use Rattle.kohlberg.specs.declared.verdicts.Reason.TheVariants.{NotEfficient as not_efficient, NotIndividual}
use Rattle.kohlberg.specs.declared.verdicts.Reason.TheVariants.{WrongExcess, WeightSign, Unbalanced}
use Rattle.kohlberg.specs.declared.verdicts.Reason.TheVariants.{BoundNotTight, OutsideAbove, NotAll}
use Rattle.report.specs.Verdicts.{verdict_tree}
use Rattle.report.specs.Limits.{HasPrintableForm}
use Rattle.report.specs.Lines.{answer_tree}
use Rattle.report.specs.declared.answer.Answer.{Answer}
use Rattle.report.specs.declared.answer.Answer.TheVariants.{Nucleolus, NoImputation, InCore, NotEfficient}
use Rattle.report.specs.declared.answer.Answer.TheVariants.{Blocked, CorePoint, EmptyCore, Shapley, Bird, Convex}
use Rattle.report.specs.declared.answer.Answer.TheVariants.{Prekernel, NotPrekernel, Matching, Verdict as verdict}
use Rattle.report.specs.declared.answer.Answer.TheVariants.{Usage, Refused, Summary}
use Rattle.report.proofs.Summaries.{summary_depth}
use Rattle.report.proofs.BirdEdges.{edges_depth}
use Rattle.report.proofs.ConvexAnswers.{convex_depth}
use Rattle.report.proofs.Matchings.{matching_depth}
use Rattle.report.proofs.CertificateDepths.{coalition_depth, pairs_depth, shares_depth, nucleolus_depth}

verdict_depth : (k : ℕ) (v : Verdict) → depth (verdict_tree k v) ≤ max_depth
verdict_depth k Yes = omega arith
verdict_depth k (No not_efficient) = omega arith
verdict_depth k (No (NotIndividual i)) = omega arith
verdict_depth k (No (WrongExcess j s)) = omega (arith, coalition_depth s)
verdict_depth k (No (WeightSign j (Coalition s))) = omega (arith, coalition_depth s)
verdict_depth k (No (WeightSign j (Player i))) = omega arith
verdict_depth k (No (Unbalanced j i)) = omega arith
verdict_depth k (No (BoundNotTight j i)) = omega arith
verdict_depth k (No (OutsideAbove j e)) = omega arith
verdict_depth k (No (NotAll i)) = omega arith

pub shallow : (k : ℕ) (a : Answer) → HasPrintableForm a → depth (answer_tree k a) ≤ max_depth
shallow k (Nucleolus family tree is_cost x c) h =
    omega (arith, nucleolus_depth k family (view tree) is_cost x c h.1)
shallow k (NoImputation singles total) h = omega arith
shallow k InCore h = omega arith
shallow k (NotEfficient sum total) h = omega arith
shallow k (Blocked s e) h = omega (arith, coalition_depth s)
shallow k (CorePoint is_cost x) h = omega (arith, shares_depth k is_cost x)
shallow k (EmptyCore c value against) h = omega (arith, pairs_depth c.weights)
shallow k (Shapley is_cost x) h = omega (arith, shares_depth k is_cost x)
shallow k (Bird x edges) h = omega (arith, shares_depth k true x, edges_depth k edges)
shallow k (Convex is_cost answer) h = omega (arith, convex_depth k is_cost answer)
shallow k Prekernel h = omega arith
shallow k (NotPrekernel i j ij ji) h = omega arith
shallow k (Matching solution) h = omega (arith, matching_depth k solution)
shallow k (verdict v) h = verdict_depth k v
shallow k (Usage kind) h = omega arith
shallow k (Refused r) h = omega arith
shallow k (Summary s) h = summary_depth k s
