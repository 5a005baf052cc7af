-- The tests of a tree from one of them on, as the steps of reading go through them.
--
--   size_refusal          the tests of the players and the numbers of a game, and then the rest
--   number_refusal        the test that the shares which a command needs are numbers, and then the rest
--   own_refusal           the test of its own that the class of the game makes, and then the rest
--   game_refusal          the test of the names, then that of the class, and then the rest
--   proposal_refusal      as many shares as players, over a denominator that isn't too large, and then the rest
--   share_refusal         the tests of the shares that a command needs, and then the rest
--   certificate_refusal   the test of the certificate that a command needs
--   needed_refusal        the tests of what a command needs beside the game
--   late_refusal          the tests after those of the shape, the players and the numbers
use Rattle.std.specs.Prelude.{Option, None}
use Rattle.serde_json.specs.Data.{Data}
use Rattle.game_text.specs.Names.{has_names}
use Rattle.game_text.specs.Classes.{own_test, players, has_players, has_numbers}
use Rattle.document_parts.specs.Scales.{scale_of}
use Rattle.document_parts.specs.Shares.{has_shares_for, scaled_shares}
use Rattle.document_parts.specs.Denominators.{keep_limits}
use Rattle.game_text.specs.Denominators.{needed_keep_limits}
use Rattle.game_text.specs.Refusals.{unless, has_needed_numbers, has_needed_shares, has_needed_form}
use Rattle.game_text.specs.declared.command.Command.{Command}
use Rattle.kinds.specs.declared.refusal.Refusal.{Refusal}
use Rattle.kinds.specs.declared.refusal.Refusal.TheVariants.{Players, Number, Names, Proposal, TooFine, Certificate}

abbrev pub size_refusal : Data → Option Refusal → Option Refusal
size_refusal game rest = unless (has_players game) Players (unless (has_numbers game) Number rest)

abbrev pub number_refusal : Command → Data → Option Refusal → Option Refusal
number_refusal command tree rest = unless (has_needed_numbers command tree) Number rest

abbrev pub own_refusal : Data → Option Refusal → Option Refusal
own_refusal game rest = unless (own_test game).1 (own_test game).0 rest

-- the test of the names and that of the class, and then the rest
abbrev pub game_refusal : Data → Option Refusal → Option Refusal
game_refusal game rest = unless (has_names game) Names (own_refusal game rest)

abbrev pub proposal_refusal : Data → Data → Option Refusal → Option Refusal
proposal_refusal game tree rest =
    unless (has_shares_for (players game) tree) Proposal (
    unless (keep_limits (scaled_shares (scale_of game) tree)) TooFine rest)

abbrev pub share_refusal : Command → Data → Data → Option Refusal → Option Refusal
share_refusal command game tree rest =
    unless (has_needed_shares command game tree) Proposal (
    unless (needed_keep_limits command game tree) TooFine rest)

abbrev pub certificate_refusal : Command → Data → Data → Option Refusal
certificate_refusal command game tree = unless (has_needed_form command game tree) Certificate None

abbrev pub needed_refusal : Command → Data → Data → Option Refusal
needed_refusal command game tree = share_refusal command game tree (certificate_refusal command game tree)

abbrev pub late_refusal : Command → Data → Data → Option Refusal
late_refusal command game tree = game_refusal game (needed_refusal command game tree)
