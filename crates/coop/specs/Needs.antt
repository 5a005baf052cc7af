-- What the document of a command gives beside its game.
--
--   IsAccepted  no test refused the document of a game, and its tree can be printed again
--   HasNeeded   what the command needs
use Rattle.std.specs.Prelude.{◌≡◌, ◌≤◌, ⊤, pos, length, false, None}
use Rattle.serde_json.specs.Data.{Data, depth}
use Rattle.serde_json.specs.Written.{compact_text, has_float}
use Rattle.json_texts.specs.Exact.{IsExact}
use Rattle.game_text.specs.Classes.{description_of}
use Rattle.game_text.specs.Documents.{Contents, game_tree}
use Rattle.document_parts.specs.Excess.{measure_of}
use Rattle.document_parts.specs.Scales.{scale_of}
use Rattle.game_text.specs.Denominators.{tree_refusal}
use Rattle.game_text.specs.Text.{document_limit}
use Rattle.game_text.specs.declared.command.Command.{Command}
use Rattle.game_text.specs.declared.command.Command.TheVariants.{Nucleolus, Prenucleolus, Propose, Core, Check}
use Rattle.game_text.specs.declared.command.Command.TheVariants.{Shapley, Bird, Convex, Kernel, Matching}
use Rattle.coop.specs.Judgement.{HasShares}
use Rattle.coop.specs.Checks.{IsCheckable}

-- no test of a command refused the document of the game, whose tree has no number but integers, is nested at most 8
-- deep, and is written within the limit
pub record IsAccepted (d : Contents) : Type 0 where
  pub command : Command
  pub document : Data
  pub passed : tree_refusal command document ≡ None
  pub described : d.game ≡ description_of (game_tree document)
  pub same : d.tree ≡ game_tree document
  pub measured : d.measure ≡ measure_of (game_tree document)
  pub scaled : d.scale ≡ pos (scale_of (game_tree document))
  pub exact : IsExact d.tree
  pub whole : has_float d.tree ≡ false
  pub shallow : depth d.tree ≤ 8
  pub short : length (compact_text d.tree) ≤ document_limit Nucleolus

abbrev pub HasNeeded : Command → Contents → Type 0
HasNeeded Nucleolus d = IsAccepted d
HasNeeded Prenucleolus d = IsAccepted d
HasNeeded Propose d = HasShares d
HasNeeded Core d = IsAccepted d
HasNeeded Check d = IsCheckable d
HasNeeded Shapley d = ⊤
HasNeeded Bird d = ⊤
HasNeeded Convex d = ⊤
HasNeeded Kernel d = HasShares d
HasNeeded Matching d = ⊤
