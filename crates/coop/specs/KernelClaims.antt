-- The right answer on whether the shares of a document are in the prekernel of its game.
--
--   kernel_limit   the most players of a game whose prekernel is tested
--   IsPrekernel    the allocation is in the prekernel, among fractions and among real shares
--   Balances       the answer is right for an allocation of a game
--   IsBalanceOf    the answer is right for the shares of a document
--   SaysOfKernel   the answer is right for a document: for its shares, or that its game has more players
use Rattle.std.specs.Prelude.{◌≡◌, ◌<◌, ◌≤◌, ℕ, Bool, Some}
use Rattle.definitions.specs.Games.{Game, Allocation, IsNucleolus}
use Rattle.definitions.specs.Prekernel.{InPrekernel}
use Rattle.definitions.specs.declared.Family.TheVariants.{Preimputations}
use Rattle.definitions.specs.declared.Measure.TheVariants.{Plain}
use Rattle.real_shares.specs.Claims.{InPrekernelForReals}
use Rattle.kernel_test.specs.Answers.{IsKernelAnswer}
use Rattle.kernel_test.specs.declared.KernelAnswer.TheVariants.{Differs}
use Rattle.game_text.specs.Classes.{game_of, is_cost}
use Rattle.game_text.specs.Documents.{Contents}
use Rattle.report.specs.declared.answer.Answer.{Answer}
use Rattle.report.specs.declared.answer.Answer.TheVariants.{NotEfficient, Prekernel, NotPrekernel, Usage}
use Rattle.report.specs.declared.answer.UsageKind.TheVariants.{Players}
use Rattle.coop.specs.Judgement.{IsInefficient}

-- the most players of a game whose prekernel is tested: all its coalitions are looked at
abbrev pub kernel_limit : ℕ
kernel_limit = 16

-- the allocation is in the prekernel, and, written as real numbers, in that of real shares
abbrev pub IsPrekernel : Game → Allocation → Type 0
IsPrekernel g x = InPrekernel g x × InPrekernelForReals g x

-- the allocation is in the prekernel; or it isn't efficient, with both sums; or it is, and these are the first two
-- players that aren't balanced, with both surpluses
abbrev pub Balances : Bool → Game → Allocation → Answer → Type 0
Balances are_costs g x Prekernel = IsPrekernel g x
Balances are_costs g x (NotEfficient sum total) = IsInefficient are_costs g x sum total
Balances are_costs g x (NotPrekernel i j ij ji) = IsKernelAnswer g x (Differs i j ij ji)
Balances are_costs g x _ = ⊥

-- there are these shares, for players that aren't too many, and the answer is right for them. To the prenucleolus it is
-- that it is in the prekernel (Schmeidler 1969; Maschler, Peleg and Shapley 1979)
-- (a part of every right answer, as for `core` that the core is empty: so the clause of `run` says it, and no other)
pub record IsBalanceOf (d : Contents) (answer : Answer) : Type 0 where
  pub shares : Allocation
  pub given : d.shares ≡ Some shares
  pub taken : (game_of d.game).players ≤ kernel_limit
  pub says : Balances (is_cost d.game) (game_of d.game) shares answer
  pub prenucleolus : IsNucleolus Preimputations Plain (game_of d.game) shares → answer ≡ Prekernel

abbrev pub SaysOfKernel : Contents → Answer → Type 0
SaysOfKernel d (Usage Players) = kernel_limit < (game_of d.game).players
SaysOfKernel d answer = IsBalanceOf d answer
