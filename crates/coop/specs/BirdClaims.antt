-- The right answer on Bird's shares of the game of a document.
--
--   IsBirdOf     the shares and the plan are Bird's, of a tree game
--   SaysOfBird   the answer is right for the game of a document
use Rattle.std.specs.Prelude.{ℕ, ℤ, List}
use Rattle.definitions.specs.Games.{Allocation}
use Rattle.tree_games.specs.Trees.{IsBird}
use Rattle.game_text.specs.Classes.{Description, tree}
use Rattle.game_text.specs.Documents.{Contents}
use Rattle.report.specs.declared.answer.Answer.{Answer}
use Rattle.report.specs.declared.answer.Answer.TheVariants.{Bird}

-- the edges are the Bird plan of a tree game, which costs least, each player pays for its own, and these shares lie in
-- the core
abbrev pub IsBirdOf : Description → Allocation → List (ℕ × ℕ × ℤ) → Type 0
IsBirdOf (tree rows) x edges = IsBird rows x edges
IsBirdOf _ x edges = ⊥

abbrev pub SaysOfBird : Contents → Answer → Type 0
SaysOfBird d (Bird x edges) = IsBirdOf d.game x edges
SaysOfBird d _ = ⊥
