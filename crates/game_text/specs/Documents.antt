-- What a document that isn't refused says.
--
--   Contents           a game, how it is described and measured, and what a command needs beside it
--   game_tree          the tree of the game
--   certificate_tree   the tree of the certificate
--   family_for         the family that a command needs
--   fractions_for      the fractions of the shares that a command needs
--   shares_over        the shares as worth, over a denominator
--   proposed_over      the shares that a command needs, over the denominator d
--   certificate_for    the certificate that a command needs
--   contents_over      what the tree of a document says to a command, with the shares over the denominator d
use Rattle.std.specs.Prelude.{ℕ, ℤ, pos, codes, List, Option, unwrap_or}
use Rattle.serde_json.specs.Data.{Data, null}
use Rattle.serde_json.specs.Find.{get}
use Rattle.definitions.specs.Games.{Allocation}
use Rattle.definitions.specs.declared.Family.{Family}
use Rattle.definitions.specs.declared.Family.TheVariants.{Imputations}
use Rattle.definitions.specs.declared.Measure.{Measure}
use Rattle.fractions.specs.Fraction.{Fraction}
use Rattle.worth_core.specs.LeastDenominators.{over}
use Rattle.kohlberg.specs.Certificate.{CertificateData}
use Rattle.document_parts.specs.Excess.{measure_of}
use Rattle.document_parts.specs.Scales.{scale_of}
use Rattle.game_text.specs.Classes.{players, Description, description_of, is_cost}
use Rattle.document_parts.specs.Shares.{written_shares, scaled_shares, as_worth}
use Rattle.certificate_texts.specs.Shape.{family_of}
use Rattle.certificate_texts.specs.Certificates.{certificate_of}
use Rattle.game_text.specs.declared.command.Command.{Command}
use Rattle.game_text.specs.Needs.{needs, given}

-- a game, the JSON tree that describes it, the measure of its excesses, its scale, and the family, the shares and the
-- certificate, if the command needs them; the numbers of the game, the shares and the excesses of the certificate
-- are those of the document times the scale
pub record Contents : Type 0 where
  pub game : Description
  pub tree : Data
  pub measure : Measure
  pub scale : ℤ
  pub family : Option Family
  pub shares : Option Allocation
  pub certificate : Option CertificateData

abbrev pub game_tree : Data → Data
game_tree tree = unwrap_or (get (codes "game") tree) null

abbrev pub certificate_tree : Data → Data
certificate_tree tree = unwrap_or (get (codes "certificate") tree) null

abbrev pub family_for : Command → Data → Option Family
family_for command tree = given (needs command).answer (unwrap_or (family_of tree) Imputations)

abbrev pub fractions_for : Command → Data → Option (List Fraction)
fractions_for command tree = given (needs command).shares (written_shares tree)

-- the proposed shares as worth and times the scale of the game, over the denominator d
abbrev pub shares_over : ℕ → Data → Data → Allocation
shares_over d game tree =
    as_worth (is_cost (description_of game)) (over (pos d) (scaled_shares (scale_of game) tree))

abbrev pub proposed_over : ℕ → Command → Data → Data → Option Allocation
proposed_over d command game tree = given (needs command).shares (shares_over d game tree)

abbrev pub certificate_for : Command → Data → Data → Option CertificateData
certificate_for command game tree =
    given (needs command).certificate (certificate_of (scale_of game) (players game) (certificate_tree tree))

abbrev pub contents_over : ℕ → Command → Data → Contents
contents_over d command tree = record {
  game = description_of (game_tree tree);
  tree = game_tree tree;
  measure = measure_of (game_tree tree);
  scale = pos (scale_of (game_tree tree));
  family = family_for command tree;
  shares = proposed_over d command (game_tree tree) tree;
  certificate = certificate_for command (game_tree tree) tree;
}
