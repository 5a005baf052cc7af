-- What holds when a run has ended: the status, what was printed, how far the input was read, and which call failed.
--
--   IsLeft                       what the source had left, if it tells
--   ReadsPastLimit, ReadsAll     how far the input was read
--   ReadsForRefusal, ReadsFor    how far it was read for an answer
--   status_number                the number of a status
--   verdict_status, convex_status, status_of
--                                the status of an answer
--   IsRight                      the answer is right for the words and for what the source had left
--   Answered, CutShort           its line was printed, or a proper front of it
--   Ends                         what holds after each status
--   IsCauseOf                    which count of failures rose, and that the first failure was the last call
use Rattle.std.specs.Prelude.{◌≡◌, ◌≢◌, ◌<◌, ◌+◌, ℕ, ℤ, Bool, true, List, length}
use Rattle.std.specs.Prelude.{take, Option, Some, None, ⊤}
use Rattle.std.specs.Io.KnownBytes.{Appends, Consumes, IsAtEnd}
use Rattle.ports.specs.Causes.{CountRose}
use Rattle.coop.specs.Headline.{Answers}
use Rattle.coop.specs.ReadBack.{IsReadBack}
use Rattle.game_text.specs.Text.{document_limit}
use Rattle.game_text.specs.declared.command.Command.{Command}
use Rattle.kinds.specs.declared.refusal.Refusal.{Refusal}
use Rattle.kinds.specs.declared.refusal.Refusal.TheVariants.{TooLong}
use Rattle.report.specs.Lines.{line}
use Rattle.report.specs.declared.answer.Answer.{Answer}
use Rattle.report.specs.declared.answer.Answer.TheVariants.{Nucleolus, NoImputation, InCore, NotEfficient}
use Rattle.report.specs.declared.answer.Answer.TheVariants.{Blocked, CorePoint, EmptyCore, Shapley, Bird}
use Rattle.report.specs.declared.answer.Answer.TheVariants.{Convex, Prekernel, NotPrekernel, Matching, Verdict}
use Rattle.report.specs.declared.answer.Answer.TheVariants.{Usage, Refused, Summary}
use Rattle.report.specs.declared.answer.UsageKind.TheVariants.{Words}
use Rattle.kohlberg.specs.declared.verdicts.Verdict.{Verdict as CheckVerdict}
use Rattle.kohlberg.specs.declared.verdicts.Verdict.TheVariants.{Yes, No}
use Rattle.convexity.specs.declared.answers.ConvexAnswer.{ConvexAnswer}
use Rattle.convexity.specs.declared.answers.ConvexAnswer.TheVariants.{Convex as ConvexShares, Not as NotConvex}
use Rattle.coop.specs.Words.{IsCommand}
use Rattle.coop.specs.declared.status.Status.{Status}
use Rattle.coop.specs.declared.status.Status.TheVariants as status

-- these are the bytes that were left, if the source tells them
abbrev pub IsLeft : Option (List ℕ) → List ℕ → Type 0
IsLeft None bytes = ⊤
IsLeft (Some told) bytes = told ≡ bytes

-- one byte more than a document of the command may have was read
abbrev pub ReadsPastLimit : Command → Option (List ℕ) → Option (List ℕ) → Type 0
ReadsPastLimit command old new =
    (bytes : List ℕ) × Consumes old new bytes × (length bytes ≡ document_limit command + 1)

-- all was read
abbrev pub ReadsAll : Option (List ℕ) → Option (List ℕ) → Type 0
ReadsAll old new = ((bytes : List ℕ) × Consumes old new bytes) × IsAtEnd new

-- how far the input was read for a refusal
abbrev pub ReadsForRefusal : Refusal → List (List ℕ) → Option (List ℕ) → Option (List ℕ) → Type 0
ReadsForRefusal TooLong words old new =
    (command : Command) × (IsCommand words command × ReadsPastLimit command old new)
ReadsForRefusal r words old new = ReadsAll old new

-- how far the input was read for an answer
abbrev pub ReadsFor : Answer → List (List ℕ) → Option (List ℕ) → Option (List ℕ) → Type 0
ReadsFor (Usage Words) words old new = new ≡ old
ReadsFor (Summary s) words old new = new ≡ old
ReadsFor (Refused r) words old new = ReadsForRefusal r words old new
ReadsFor _ words old new = ReadsAll old new

-- the number that the program ends with
abbrev pub status_number : Status → ℕ
status_number status.Done = 0
status_number status.Negative = 1
status_number status.Usage = 2
status_number status.Refused = 3
status_number status.ReadFault = 5
status_number status.WriteFault = 6
status_number status.OutOfMemory = 7

-- the status after a verdict was printed
abbrev pub verdict_status : CheckVerdict → Status
verdict_status Yes = status.Done
verdict_status (No r) = status.Negative

-- the status after it was printed whether a game is convex
abbrev pub convex_status : ConvexAnswer → Status
convex_status (ConvexShares shapley marginal) = status.Done
convex_status (NotConvex s i j deficit) = status.Negative

-- the status after an answer was printed
abbrev pub status_of : Answer → Status
status_of (Nucleolus family tree are_costs x c) = status.Done
status_of (NoImputation singles total) = status.Negative
status_of InCore = status.Done
status_of (NotEfficient sum total) = status.Negative
status_of (Blocked s e) = status.Negative
status_of (CorePoint are_costs x) = status.Done
status_of (EmptyCore c value against) = status.Negative
status_of (Shapley are_costs x) = status.Done
status_of (Bird x edges) = status.Done
status_of (Convex are_costs answer) = convex_status answer
status_of Prekernel = status.Done
status_of (NotPrekernel i j ij ji) = status.Negative
status_of (Matching solution) = status.Done
status_of (Verdict v) = verdict_status v
status_of (Usage kind) = status.Usage
status_of (Refused r) = status.Refused
status_of (Summary s) = status.Done

-- the answer, printed over the scale k, is right for the words and for the bytes that were left
pub record IsRight (words : List (List ℕ)) (old new : Option (List ℕ)) (k : ℤ) (answer : Answer) : Type 0 where
  pub bytes : List ℕ
  pub left : IsLeft old bytes
  pub answers : Answers words bytes k answer
  pub reads : ReadsFor answer words old new

-- the line of a right answer was printed, and the status goes with it; the line of a nucleolus is read back
abbrev pub Answered : List (List ℕ) → Option (List ℕ) → Option (List ℕ)
    → Option (List ℕ) → Option (List ℕ) → Status → Type 0
Answered words old new taken_old taken_new s =
    (k : ℤ) × ((answer : Answer) × IsRight words old new k answer × (s ≡ status_of answer)
    × Appends taken_old taken_new (line k answer) × IsReadBack k answer)

-- a proper front of the line of a right answer was printed
abbrev pub CutShort : List (List ℕ) → Option (List ℕ) → Option (List ℕ) → Option (List ℕ) → Option (List ℕ) → Type 0
CutShort words old new taken_old taken_new =
    (k : ℤ) × ((answer : Answer) × IsRight words old new k answer
    × ((n : ℕ) × (n < length (line k answer)) × Appends taken_old taken_new (take n (line k answer))))

abbrev pub Ends : List (List ℕ) → Option (List ℕ) → Option (List ℕ)
    → Option (List ℕ) → Option (List ℕ) → Status → Type 0
Ends words old new taken_old taken_new status.Done = Answered words old new taken_old taken_new status.Done
Ends words old new taken_old taken_new status.Negative = Answered words old new taken_old taken_new status.Negative
Ends words old new taken_old taken_new status.Usage = Answered words old new taken_old taken_new status.Usage
Ends words old new taken_old taken_new status.Refused = Answered words old new taken_old taken_new status.Refused
Ends words old new taken_old taken_new status.ReadFault = taken_new ≡ taken_old
Ends words old new taken_old taken_new status.WriteFault = CutShort words old new taken_old taken_new
Ends words old new taken_old taken_new status.OutOfMemory = taken_new ≡ taken_old

-- at this status the count rose by one, or stands at its last value, and the last call failed: so, below that value, no
-- call came after the first that failed; after every other status the count is as before
pub record IsCauseOf (fault : Status) (before now : ℕ) (failed : Bool) (s : Status) : Type 0 where
  pub rose : s ≡ fault → CountRose before now
  pub last : s ≡ fault → failed ≡ true
  pub unchanged : s ≢ fault → now ≡ before
