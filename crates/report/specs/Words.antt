-- The words that stand in a line.
--
--   refusal_name   the name of a refusal
--   usage_word     the word for what is wrong with the words of a command line
--   family_word    the nucleolus, or the prenucleolus
--   mode_word      the word for what the levels of a certificate fix
--   kind_word      the kind of a generated game
use Rattle.std.specs.Prelude.{ℕ, List, codes}
use Rattle.definitions.specs.declared.Family.{Family}
use Rattle.definitions.specs.declared.Family.TheVariants.{Imputations, Preimputations}
use Rattle.definitions.specs.declared.Mode.{Mode}
use Rattle.definitions.specs.declared.Mode.TheVariants as mode
use Rattle.kinds.specs.declared.kind.Kind.{Kind}
use Rattle.kinds.specs.declared.kind.Kind.TheVariants as kind
use Rattle.kinds.specs.declared.refusal.Refusal.{Refusal}
use Rattle.kinds.specs.declared.refusal.Refusal.TheVariants.{TooLong, NotJson, Shape, Players, Number}
use Rattle.kinds.specs.declared.refusal.Refusal.TheVariants.{Names, Coalition, Estate, Matrix, Proposal}
use Rattle.kinds.specs.declared.refusal.Refusal.TheVariants.{TooFine, Certificate, Quota}
use Rattle.report.specs.declared.answer.UsageKind.{UsageKind}
use Rattle.report.specs.declared.answer.UsageKind.TheVariants as usage

abbrev pub refusal_name : Refusal → List ℕ
refusal_name TooLong = codes "TooLong"
refusal_name NotJson = codes "NotJson"
refusal_name Shape = codes "Shape"
refusal_name Players = codes "Players"
refusal_name Number = codes "Number"
refusal_name Names = codes "Names"
refusal_name Coalition = codes "Coalition"
refusal_name Estate = codes "Estate"
refusal_name Matrix = codes "Matrix"
refusal_name Proposal = codes "Proposal"
refusal_name TooFine = codes "TooFine"
refusal_name Certificate = codes "Certificate"
refusal_name Quota = codes "Quota"

abbrev pub usage_word : UsageKind → List ℕ
usage_word usage.Words = codes "words"
usage_word usage.Class = codes "class"
usage_word usage.Players = codes "players"

-- the word for the allocations among which an answer is the best: the imputations, or all preimputations
abbrev pub family_word : Family → List ℕ
family_word Imputations = codes "nucleolus"
family_word Preimputations = codes "prenucleolus"

abbrev pub mode_word : Mode → List ℕ
mode_word mode.Players = codes "players"
mode_word mode.Span = codes "span"

-- the word for a kind of generated games
abbrev pub kind_word : Kind → List ℕ
kind_word kind.Table = codes "table"
kind_word kind.Airport = codes "airport"
kind_word kind.Bankruptcy = codes "bankruptcy"
kind_word kind.Tree = codes "tree"
kind_word kind.Assignment = codes "assignment"
