-- The line that is printed for an answer.
--
--   nucleolus_tree  the JSON tree of a nucleolus, its keys ascending
--   answer_tree     the JSON tree of an answer, its keys ascending
--   line            its compact text, and a newline
use Rattle.std.specs.Prelude.{ℕ, ℤ, Bool, List, [], ◌∷◌, ◌++◌, codes, unsigned_abs}
use Rattle.serde_json.specs.Data.{Data, string, object, member, no_members}
use Rattle.serde_json.specs.View.{view}
use Rattle.serde_json.specs.Written.{compact_text}
use Rattle.definitions.specs.Games.{Allocation}
use Rattle.definitions.specs.declared.Family.{Family}
use Rattle.kinds.specs.Numbers.{refusal_number}
use Rattle.kohlberg.specs.Certificate.{CertificateData}
use Rattle.report.specs.Values.{scaled_data, integer_data, count_data, player_numbers}
use Rattle.report.specs.Verdicts.{verdict_tree}
use Rattle.report.specs.Certificates.{certificate_tree}
use Rattle.report.specs.ShareLists.{share_list}
use Rattle.report.specs.CoreTrees.{core_point_tree, empty_core_tree}
use Rattle.report.specs.ShapleyTrees.{shapley_tree}
use Rattle.report.specs.BirdTrees.{bird_tree}
use Rattle.report.specs.SummaryTrees.{summary_tree}
use Rattle.report.specs.ConvexTrees.{convex_tree}
use Rattle.report.specs.KernelTrees.{prekernel_tree, not_prekernel_tree}
use Rattle.report.specs.MatchingTrees.{matching_tree}
use Rattle.report.specs.Words.{refusal_name, usage_word, family_word}
use Rattle.report.specs.declared.answer.Answer.{Answer}
use Rattle.report.specs.declared.answer.Answer.TheVariants.{Nucleolus, NoImputation, InCore, NotEfficient}
use Rattle.report.specs.declared.answer.Answer.TheVariants.{Blocked, CorePoint, EmptyCore, Shapley, Bird}
use Rattle.report.specs.declared.answer.Answer.TheVariants.{Convex, Prekernel, NotPrekernel, Matching, Verdict}
use Rattle.report.specs.declared.answer.Answer.TheVariants.{Usage, Refused, Summary}

-- the object that is printed for the nucleolus or prenucleolus of a game, over the scale k, its keys ascending
abbrev pub nucleolus_tree : ℕ → Family → Data → Bool → Allocation → CertificateData → Data
nucleolus_tree k family game is_cost x c =
    object
    (member (codes "answer") (string (family_word family))
    (member (codes "certificate") (certificate_tree k c)
    (member (codes "game") game
    (member (codes "shares") (share_list k is_cost x) no_members))))

-- the object that is printed for an answer, each number over the scale k, its keys ascending
abbrev pub answer_tree : ℕ → Answer → Data
answer_tree k (Nucleolus family tree is_cost x c) = nucleolus_tree k family (view tree) is_cost x c
answer_tree k (NoImputation singles total) =
    object
    (member (codes "answer") (string (codes "no imputation"))
    (member (codes "singles") (integer_data k singles)
    (member (codes "total") (integer_data k total) no_members)))
answer_tree k InCore = object (member (codes "answer") (string (codes "core")) no_members)
answer_tree k (NotEfficient sum total) =
    object
    (member (codes "answer") (string (codes "not efficient"))
    (member (codes "sum") (scaled_data k sum) (member (codes "total") (integer_data k total) no_members)))
answer_tree k (Blocked s e) =
    object
    (member (codes "answer") (string (codes "blocked"))
    (member (codes "coalition") (player_numbers s) (member (codes "excess") (scaled_data k e) no_members)))
answer_tree k (CorePoint is_cost x) = core_point_tree k is_cost x
answer_tree k (EmptyCore c value against) = empty_core_tree k c value against
answer_tree k (Shapley is_cost x) = shapley_tree k is_cost x
answer_tree k (Bird x edges) = bird_tree k x edges
answer_tree k (Convex is_cost answer) = convex_tree k is_cost answer
answer_tree k Prekernel = prekernel_tree
answer_tree k (NotPrekernel i j ij ji) = not_prekernel_tree k i j ij ji
answer_tree k (Matching solution) = matching_tree k solution
answer_tree k (Verdict v) = verdict_tree k v
answer_tree k (Usage kind) = object (member (codes "usage") (string (usage_word kind)) no_members)
answer_tree k (Refused r) =
    object
    (member (codes "number") (count_data (refusal_number r))
    (member (codes "refused") (string (refusal_name r)) no_members))
answer_tree k (Summary s) = summary_tree k s

-- compact JSON of the answer over the scale k, and a newline
abbrev pub line : ℤ → Answer → List ℕ
line k answer = compact_text (answer_tree (unsigned_abs k) answer) ++ 10 ∷ []
