-- What is said of the core of a game of at most 16 players.
--
--   IsFound   what an answer says
--   IsFault   what a refusal says
use Rattle.std.specs.Prelude.{⊤, ◌<◌}
use Rattle.definitions.specs.Games.{Game, InCore}
use Rattle.balanced_collections.specs.Collections.{ShowsEmpty}
use Rattle.balanced.specs.declared.CoreAnswer.{CoreAnswer}
use Rattle.balanced.specs.declared.CoreAnswer.TheVariants.{Point, Empty}
use Rattle.balanced.specs.declared.CoreFault.{CoreFault}
use Rattle.balanced.specs.declared.CoreFault.TheVariants.{TooMany, Memory}

abbrev pub IsFound : Game → CoreAnswer → Type 0
IsFound g (Point x) = InCore g x
IsFound g (Empty c) = ShowsEmpty g c

abbrev pub IsFault : Game → CoreFault → Type 0
IsFault g TooMany = 16 < g.players
IsFault g Memory = ⊤
