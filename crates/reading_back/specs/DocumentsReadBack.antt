-- What is read of a printed nucleolus or prenucleolus when it is checked.
--
--   IsReadOf                      what a document is read as
--   PrintedNucleolusIsADocument   its game, family, shares and certificate are those that were printed
use Rattle.std.specs.Prelude.{◌≡◌, pos, length, Some, None}
use Rattle.serde_json.specs.Data.{Data}
use Rattle.definitions.specs.Games.{Allocation, IsShares}
use Rattle.definitions.specs.declared.Family.{Family}
use Rattle.kohlberg.specs.Certificate.{CertificateData, IsCertificate}
use Rattle.game_text.specs.Classes.{game_of, is_cost, description_of}
use Rattle.game_text.specs.Documents.{Contents, game_tree}
use Rattle.document_parts.specs.Excess.{measure_of}
use Rattle.document_parts.specs.Scales.{scale_of}
use Rattle.game_text.specs.Denominators.{contents_of, tree_refusal}
use Rattle.game_text.specs.declared.command.Command.{Command}
use Rattle.game_text.specs.declared.command.Command.TheVariants.{Check}
use Rattle.report.specs.Lines.{nucleolus_tree}
use Rattle.reading_back.specs.ReadBack.{IsAgain}
use Rattle.reading_back.specs.CertificatesReadBack.{AreInLowestTerms}

-- the contents are the game, the measure and the scale of the tree g, the family f, the shares of x and the
-- certificate c
pub record IsReadOf (f : Family) (g : Data) (x : Allocation) (c : CertificateData) (contents : Contents) : Type 0
  where
    pub game : contents.game ≡ description_of g
    pub tree : contents.tree ≡ g
    pub measure : contents.measure ≡ measure_of g
    pub scale : contents.scale ≡ pos (scale_of g)
    pub family : contents.family ≡ Some f
    pub shares : (y : Allocation) × (contents.shares ≡ Some y) × IsAgain x y
    pub certificate : contents.certificate ≡ Some c

-- a game whose document no test refused, with a share for each player and a certificate for them: what is printed of
-- them is not refused when it is checked, and is read with the game, the measure, the family, the shares and the
-- certificate that were printed
abbrev pub PrintedNucleolusIsADocument : Type 0
PrintedNucleolusIsADocument =
    (command : Command) (document : Data) (family : Family) (x : Allocation) (c : CertificateData)
    → tree_refusal command document ≡ None
    → IsShares x → length x.shares ≡ (game_of (description_of (game_tree document))).players
    → IsCertificate c → c.players ≡ (game_of (description_of (game_tree document))).players
    → AreInLowestTerms c.levels
    → (tree_refusal Check
    (nucleolus_tree (scale_of (game_tree document)) family (game_tree document)
    (is_cost (description_of (game_tree document))) x c) ≡ None)
    × IsReadOf family (game_tree document) x c
    (contents_of Check
    (nucleolus_tree (scale_of (game_tree document)) family (game_tree document)
    (is_cost (description_of (game_tree document))) x c))
