-- What the nested programs find for a game of at most 16 players.
--
--   singles           the worths of the players alone, added
--   HasMember         the family of the game has a member
--   LacksImputation   the players alone are worth more than all, so there is no imputation
--   IsShort           a level has fewer than twice as many entries as there are players
--   SettlesMore       a level has a coalition, and none of its coalitions is fixed by the levels in front of it
--   SettleMore        each level settles more than those in front of it
--   IsPoint           shares, and a short certificate in mode span that they are the nucleolus or the prenucleolus
--   IsFound           what an answer says
--   IsFault           what a refusal says
use Rattle.std.specs.Prelude.{◌≡◌, ⊤, ℕ, ◌+◌, ◌*◌, ◌<◌, ◌≤◌, List, [], ◌∷◌}
use Rattle.std.specs.Prelude.{◌++◌, length, ℤ, ◌<ℤ◌}
use Rattle.std.specs.List.{AllByRecursion}
use Rattle.definitions.specs.Sums.{sum_below}
use Rattle.definitions.specs.Coalitions.{singleton, grand_coalition}
use Rattle.definitions.specs.Games.{Game, Allocation, InFamily}
use Rattle.definitions.specs.Certificates.{Level, IsOutside}
use Rattle.definitions.specs.declared.Family.{Family}
use Rattle.definitions.specs.declared.Measure.{Measure}
use Rattle.definitions.specs.declared.Family.TheVariants.{Imputations}
use Rattle.definitions.specs.declared.Mode.TheVariants.{Span}
use Rattle.kohlberg.specs.Certificate.{CertificateData}
use Rattle.kohlberg.specs.Solved.{IsSolved}
use Rattle.nested_programs.specs.declared.found.Found.{Found}
use Rattle.nested_programs.specs.declared.found.Found.TheVariants.{Point, NoImputation}
use Rattle.nested_programs.specs.declared.found.NestedFault.{NestedFault}
use Rattle.nested_programs.specs.declared.found.NestedFault.TheVariants.{TooMany, Memory}

abbrev pub singles : Game → ℤ
singles g = sum_below g.players (λ i. g.worth (singleton i))

abbrev pub HasMember : Family → Game → Type 0
HasMember family g = (y : Allocation) × InFamily family g y

-- the family is the imputations, and the worths of the players alone add to more than the worth of all
pub record LacksImputation (family : Family) (g : Game) (alone total : ℤ) : Type 0 where
  pub imputations : family ≡ Imputations
  pub alone_is : alone ≡ singles g
  pub total_is : total ≡ g.worth (grand_coalition g.players)
  pub above : total <ℤ alone

-- the three lists of a level have together fewer than twice as many entries as there are players
abbrev pub IsShort : ℕ → Level → Type 0
IsShort n l = length l.coalitions + length l.earlier + length l.bounds < 2 * n

-- a level settles more than the levels in front of it: it has at least one coalition, and they fix none of its
-- coalitions
pub record SettlesMore (n : ℕ) (front : List Level) (l : Level) : Type 0 where
  pub some : 1 ≤ length l.coalitions
  pub outside : AllByRecursion (λ c. IsOutside Span n front c.0) l.coalitions

-- each level settles more than the levels in front of it
abbrev pub SettleMore : ℕ → List Level → List Level → Type 0
SettleMore n front [] = Unit {0}
SettleMore n front (l ∷ levels) = SettlesMore n front l × SettleMore n (front ++ l ∷ []) levels

-- shares, and a certificate in mode span that certifies them, in which each level is short and settles more
pub record IsPoint (family : Family) (measure : Measure) (g : Game) (x : Allocation) (c : CertificateData) : Type 0
  where
    pub solved : IsSolved Span family measure g x c
    pub short : AllByRecursion (IsShort g.players) c.levels
    pub more : SettleMore g.players [] c.levels

abbrev pub IsFound : Family → Measure → Game → Found → Type 0
IsFound family measure g (Point x c) = IsPoint family measure g x c
IsFound family measure g (NoImputation alone total) = LacksImputation family g alone total

abbrev pub IsFault : Game → NestedFault → Type 0
IsFault g TooMany = 16 < g.players
IsFault g Memory = ⊤
