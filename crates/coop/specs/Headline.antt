-- THE HEADLINE, of every game that was read. If a nucleolus is printed, it is an imputation; list its excesses over
-- all coalitions from the greatest on, and those of any other imputation alike: at the first place where the lists
-- differ, its own is the smaller. An excess is plain or per head, as the document says. The printed certificate meets
-- conditions that are written in Certificates.antt of `definitions`, that `check` decides without the solver, and that
-- imply all this by themselves. Such an answer comes whenever there is an imputation, unless memory runs out or a port
-- fails: with plain excess for airports and bankruptcies of up to 64 players and all other games of up to sixteen, and
-- with excess per head for all games of up to eight; except games of the class market, which only `matching` answers.
--
-- "Every other imputation" is every other one in fractions; every other one in real shares, whose order is taken to be
-- decided, as excluded middle has it; and every other one over any linearly ordered abelian group that comes with a
-- test of its order and whose numbers have sequences of integers for names.
--
-- It is the clause `ends` of `run`: after a status of an answer there is an answer that `Answers` the words and the
-- bytes, and the sink took its line (`Ends` in Outcome.antt). That an answer comes is the clause `complete`
-- (Completeness.antt). What is below says what is right, from the inside out:
--
--   IsWithinLimit         the game has no more players than are answered by its measure
--   IsSolution            the nucleolus of the game of a document, with its certificate, as it is printed
--   IsWithoutImputation   the players alone are worth more than all, and both numbers as they are printed
--   Solves                the answer is right for the family and the game of a document
--   IsRightAnswer         the answer is right for a command and a document of a class that it serves
--   AnswersTo             the answer is right for a command and its document
--   IsAnsweredFor         the words are a command, and the answer is right for it and the document of the bytes
--   IsRefusedFor          the words are a command, and this is the first refusal that applies to the bytes
--   Answers               the answer is right for the words and the bytes, and is printed over this scale
--
-- What is right for the other commands is said in Judgement.antt (`propose`), CoreClaims.antt (`core`), Checks.antt
-- (`check`), ShapleyClaims.antt (`shapley`), BirdClaims.antt (`bird`), ConvexClaims.antt (`convex`), KernelClaims.antt
-- (`kernel`), MatchingClaims.antt (`matching`) and GeneratorClaims.antt (`gen`); which classes a command serves, and
-- which certificate is printed for a class with a scheme of its own, in Classes.antt.
--
-- The game, the shares and the certificate of a document of version 2 are those that it writes, times its scale, and
-- the line is printed over that scale. One positive factor on all worths and shares changes no comparison
-- (`scales_change_nothing`), so what is said of shares in fractions holds of the game of fractional worths too.
--
-- No answer that isn't named is right, and the answers exclude one another: a nucleolus is an imputation, which gives
-- each player at least what it is worth alone, so it can't come if the players alone are worth more than all.
use Rattle.std.specs.Prelude.{◌≡◌, ◌<◌, ◌≤◌, ℕ, List, Bool, true, false, ℤ, pos}
use Rattle.std.specs.Prelude.{◌<ℤ◌}
use Rattle.std.specs.List.{AllByRecursion}
use Rattle.serde_json.specs.Data.{Data}
use Rattle.serde_json.specs.View.{view}
use Rattle.definitions.specs.Coalitions.{grand_coalition}
use Rattle.definitions.specs.Games.{Game, Allocation, InFamily, IsNucleolus}
use Rattle.definitions.specs.Certificates.{HasForm, Certifies}
use Rattle.definitions.specs.declared.Family.{Family}
use Rattle.definitions.specs.declared.Family.TheVariants.{Imputations, Preimputations}
use Rattle.kohlberg.specs.Certificate.{CertificateData}
use Rattle.kohlberg.specs.Solved.{HasFew}
use Rattle.real_shares.specs.Claims.{IsNucleolusForReals, IsNucleolusOverGroups}
use Rattle.game_text.specs.Classes.{game_of, is_cost, IsOfClass}
use Rattle.game_text.specs.Documents.{Contents}
use Rattle.game_text.specs.Refusals.{IsDocument, IsRefused}
use Rattle.game_text.specs.declared.command.Command.{Command}
use Rattle.game_text.specs.declared.command.Command.TheVariants.{Nucleolus as NucleolusWord}
use Rattle.game_text.specs.declared.command.Command.TheVariants.{Prenucleolus as PrenucleolusWord}
use Rattle.game_text.specs.declared.command.Command.TheVariants.{Propose, Core, Check, Shapley, Bird}
use Rattle.game_text.specs.declared.command.Command.TheVariants.{Convex, Kernel, Matching}
use Rattle.kinds.specs.declared.refusal.Refusal.{Refusal}
use Rattle.nested_programs.specs.Answer.{singles}
use Rattle.report.specs.declared.answer.Answer.{Answer}
use Rattle.report.specs.declared.answer.Answer.TheVariants.{Nucleolus, NoImputation, Usage, Refused, Summary}
use Rattle.report.specs.declared.answer.UsageKind.TheVariants.{Words, Class, Players}
use Rattle.coop.specs.Words.{IsCommand, IsNoCommand}
use Rattle.coop.specs.Classes.{serves_class}
use Rattle.coop.specs.Classes.{nucleolus_limit, IsChosen}
use Rattle.coop.specs.Judgement.{printed, JudgesAll}
use Rattle.coop.specs.Checks.{Checks}
use Rattle.coop.specs.CoreClaims.{SaysOfCore}
use Rattle.coop.specs.ShapleyClaims.{SaysOfShapley}
use Rattle.coop.specs.BirdClaims.{SaysOfBird}
use Rattle.coop.specs.GeneratorClaims.{IsSummaryFor}
use Rattle.coop.specs.ConvexClaims.{SaysOfConvex}
use Rattle.coop.specs.KernelClaims.{SaysOfKernel}
use Rattle.coop.specs.MatchingClaims.{SaysOfMatching}

abbrev pub IsWithinLimit : Contents → Type 0
IsWithinLimit d = (game_of d.game).players ≤ nucleolus_limit d.measure d.game

-- The shares are a member of the family whose excesses over all coalitions, by the measure of the document and listed
-- from the greatest, come before those of every other member: of those in fractions, of those in real shares, and of
-- those over any linearly ordered abelian group. The certificate has its form for the game's players and meets all
-- conditions for the shares, which alone imply this (`certificates_are_sound` and, of `real_shares`,
-- `certificates_are_sound_for_reals` and `certificates_are_sound_over_groups`), and each of its levels is short: it has
-- at most twice as many entries as there are players. With plain excess that of an airport or bankruptcy game is its
-- scheme's. They stand beside the tree of the game that was read.
pub record IsSolution (family : Family) (d : Contents) (printed : Data) (are_costs : Bool)
    (x : Allocation) (c : CertificateData) : Type 0 where
  pub taken : IsWithinLimit d
  pub nucleolus : IsNucleolus family d.measure (game_of d.game) x
  pub for_reals : IsNucleolusForReals family d.measure (game_of d.game) x
  pub over_groups : IsNucleolusOverGroups family d.measure (game_of d.game) x
  pub players : c.players ≡ (game_of d.game).players
  pub form : HasForm c.mode (game_of d.game).players c.levels
  pub certifies : Certifies c.mode family d.measure (game_of d.game) x c.levels
  pub short : AllByRecursion (HasFew (game_of d.game).players) c.levels
  pub chosen : IsChosen d.measure d.game x c
  pub tree : printed ≡ d.tree
  pub signs : are_costs ≡ is_cost d.game

-- imputations are asked for and there are none, since the worths of the players alone add to more than the worth of
-- all; both are given as they are printed
pub record IsWithoutImputation (family : Family) (g : Game) (are_costs : Bool) (alone total : ℤ) : Type 0 where
  pub imputations : family ≡ Imputations
  pub alone_is : alone ≡ printed are_costs (singles g)
  pub total_is : total ≡ printed are_costs (g.worth (grand_coalition g.players))
  pub above : g.worth (grand_coalition g.players) <ℤ singles g
  pub none : (y : Allocation) → ¬ InFamily Imputations g y

-- the answer is right for the family and the game of a document: its nucleolus, that there is no imputation, or that it
-- has more players than are answered
abbrev pub Solves : Family → Contents → Answer → Type 0
Solves family d (Nucleolus f tree are_costs x c) = (f ≡ family) × IsSolution family d (view tree) are_costs x c
Solves family d (NoImputation alone total) =
    IsWithinLimit d × IsWithoutImputation family (game_of d.game) (is_cost d.game) alone total
Solves family d (Usage Players) = nucleolus_limit d.measure d.game < (game_of d.game).players
Solves family d _ = ⊥

abbrev pub IsRightAnswer : Command → Contents → Answer → Type 0
IsRightAnswer NucleolusWord d answer = Solves Imputations d answer
IsRightAnswer PrenucleolusWord d answer = Solves Preimputations d answer
IsRightAnswer Propose d answer = JudgesAll d answer
IsRightAnswer Core d answer = SaysOfCore d answer
IsRightAnswer Check d answer = Checks d answer
IsRightAnswer Shapley d answer = SaysOfShapley d answer
IsRightAnswer Bird d answer = SaysOfBird d answer
IsRightAnswer Convex d answer = SaysOfConvex d answer
IsRightAnswer Kernel d answer = SaysOfKernel d answer
IsRightAnswer Matching d answer = SaysOfMatching d answer

-- the answer is right for a command and what its document says: the usage of the class exactly when the command
-- doesn't serve it
abbrev pub AnswersTo : Command → Contents → Answer → Type 0
AnswersTo command d (Usage Class) = serves_class command d.game ≡ false
AnswersTo command d answer = (serves_class command d.game ≡ true) × IsRightAnswer command d answer

-- the words are a command, the bytes are a document of it with this scale, whose game has the worths of its class, and
-- the answer is right for both
abbrev pub IsAnsweredFor : List (List ℕ) → List ℕ → ℤ → Answer → Type 0
IsAnsweredFor words bytes k answer =
    (command : Command) × (IsCommand words command × ((d : Contents)
    × (IsDocument command bytes d × IsOfClass d.game × (k ≡ d.scale) × AnswersTo command d answer)))

abbrev pub IsRefusedFor : List (List ℕ) → List ℕ → Refusal → Type 0
IsRefusedFor words bytes r = (command : Command) × (IsCommand words command × IsRefused command bytes r)

-- the answer is right for the words and the bytes: for words that are no command, the usage of words; for a generated
-- game its summary; else the first refusal that applies; else what the command says to the document; it is printed over
-- the scale k, which is the document's, and 1 if there is none
abbrev pub Answers : List (List ℕ) → List ℕ → ℤ → Answer → Type 0
Answers words bytes k (Usage Words) = (k ≡ pos 1) × IsNoCommand words
Answers words bytes k (Refused r) = (k ≡ pos 1) × IsRefusedFor words bytes r
Answers words bytes k (Summary s) = (k ≡ pos 1) × IsSummaryFor words s
Answers words bytes k answer = IsAnsweredFor words bytes k answer
