-- The right judgement on what a document proposes.
--
--   IsAmount        a sum of worths, which is below 2^117 in size
--   printed         a number as it is printed: costs and payments are negative worth
--   IsInefficient   the shares don't add to the worth of all; with both sums
--   IsBlockedBy     they add to it, and this coalition blocks them
--   IsCore          the allocation is in the core, among fractions and among real shares
--   Judges          the answer is right for an allocation of a game
--   JudgesAll       the answer is right for the game and the shares of a document
--   HasShares       there is a share for each player
use Rattle.std.specs.Prelude.{◌≡◌, ◌^◌, ◌<◌, ℕ, ℤ, neg_ℤ, unsigned_abs, Bool, Some, length}
use Rattle.std.specs.Prelude.{if◌then◌else◌}
use Rattle.definitions.specs.Coalitions.{grand_coalition}
use Rattle.definitions.specs.Games.{Game, Allocation, amount, excess, IsEfficient, IsChosenBlocker, InCore}
use Rattle.real_shares.specs.Claims.{InCoreForReals}
use Rattle.fractions.specs.Fraction.{Fraction, IsRatio}
use Rattle.game_text.specs.Classes.{game_of, is_cost}
use Rattle.game_text.specs.Documents.{Contents}
use Rattle.report.specs.declared.answer.Answer.{Answer}
use Rattle.report.specs.declared.answer.Answer.TheVariants.{InCore as Core, NotEfficient, Blocked}

-- a sum of worths, as the shares of a coalition add to
abbrev pub IsAmount : ℤ → Type 0
IsAmount z = unsigned_abs z < 2 ^ 117

-- a number of worth as it is printed: its sign is turned if the numbers of the game are costs
abbrev pub printed : Bool → ℤ → ℤ
printed are_costs z = if are_costs then neg_ℤ z else z

-- what all players get together, in lowest terms, and what they are worth, each as it is printed
pub record IsInefficient (are_costs : Bool) (g : Game) (x : Allocation) (sum : Fraction) (total : ℤ) : Type 0 where
  pub differs : ¬ IsEfficient g x
  pub adds : IsRatio sum (printed are_costs (amount x (grand_coalition g.players))) x.den
  pub worth_of_all : total ≡ printed are_costs (g.worth (grand_coalition g.players))

-- the shares add to the worth of all, this coalition is chosen of those that block, and e is its excess in lowest
-- terms
abbrev pub IsBlockedBy : Game → Allocation → ℕ → Fraction → Type 0
IsBlockedBy g x s e = IsEfficient g x × IsChosenBlocker g x s × IsRatio e (excess g x s) x.den

-- the allocation is in the core, and, written as real numbers, in that of real shares
abbrev pub IsCore : Game → Allocation → Type 0
IsCore g x = InCore g x × InCoreForReals g x

-- the answer is the right judgement on an allocation
abbrev pub Judges : Bool → Game → Allocation → Answer → Type 0
Judges are_costs g x Core = IsCore g x
Judges are_costs g x (NotEfficient sum total) = IsInefficient are_costs g x sum total
Judges are_costs g x (Blocked s e) = IsBlockedBy g x s e
Judges are_costs g x _ = ⊥

-- there are these shares, and the answer is the right judgement on them
abbrev pub JudgesAll : Contents → Answer → Type 0
JudgesAll c answer = (x : Allocation) × (c.shares ≡ Some x) × Judges (is_cost c.game) (game_of c.game) x answer

abbrev pub HasShares : Contents → Type 0
HasShares c = (x : Allocation) × (c.shares ≡ Some x) × (length x.shares ≡ (game_of c.game).players)
