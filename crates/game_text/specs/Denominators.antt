-- What the private functions of reading say by the least common denominator as a number that is computed. The public
-- clauses speak of the least common denominator itself (`IsDenominatorOf` in Shares.antt of `document_parts`), of
-- which there is one.
--
--   share_denominator    the least common denominator of the shares that are written, times the scale of the game
--   needed_keep_limits   over it, the shares that a command needs keep within the limits of shares
--   shares_of            the proposed shares as worth
--   shares_for           the shares that a command needs
--   contents_of          what the tree of a document says to a command
--   tree_refusal         the first test that a tree doesn't pass
use Rattle.std.specs.Prelude.{ℕ, Bool, Option}
use Rattle.serde_json.specs.Data.{Data}
use Rattle.definitions.specs.Games.{Allocation}
use Rattle.document_parts.specs.CommonMultiples.{least_denominator}
use Rattle.document_parts.specs.Scales.{scale_of}
use Rattle.document_parts.specs.Shares.{scaled_shares}
use Rattle.game_text.specs.Documents.{Contents, game_tree, shares_over, proposed_over, contents_over}
use Rattle.game_text.specs.Refusals.{has_needed_terms, refusal_over}
use Rattle.game_text.specs.declared.command.Command.{Command}
use Rattle.kinds.specs.declared.refusal.Refusal.{Refusal}

abbrev pub share_denominator : Data → Data → ℕ
share_denominator game tree = least_denominator (scaled_shares (scale_of game) tree)

abbrev pub needed_keep_limits : Command → Data → Data → Bool
needed_keep_limits command game tree = has_needed_terms (share_denominator game tree) command game tree

abbrev pub shares_of : Data → Data → Allocation
shares_of game tree = shares_over (share_denominator game tree) game tree

abbrev pub shares_for : Command → Data → Data → Option Allocation
shares_for command game tree = proposed_over (share_denominator game tree) command game tree

abbrev pub contents_of : Command → Data → Contents
contents_of command tree = contents_over (share_denominator (game_tree tree) tree) command tree

abbrev pub tree_refusal : Command → Data → Option Refusal
tree_refusal command tree = refusal_over (share_denominator (game_tree tree) tree) command tree
