-- What the steps of reading a document give.
--
--   HasSizes                                   the game passed the tests of its shape, players and numbers
--   IsSizeFault                                the refusal of its players or its numbers
--   AreNeededFractions, IsFractionFault        the fractions of the shares that a command needs; their refusal
--   IsTableClass                               a class that a table describes
--   IsBuilt, IsBuildFault                      the described game; the refusal of its class
--   IsGameReading, IsGameFault                 the same after the test of the names; the refusal of these too
--   IsProposal, IsProposalFault                the shares that are proposed; their refusal
--   IsShareReading, IsShareFault               the shares that a command needs; their refusal
--   IsCertificateReading, IsCertificateFault   the certificate that a command needs; its refusal
--   contents_in                                what a document in memory says
--   IsLateReading, IsLateFault                 what a document says of a game with its sizes; the first refusal then
--   IsTreeReading, IsTreeFault                 the document of a tree; the first refusal of a tree
--   IsReading, IsFault                         the document of the bytes; the first refusal of the bytes
use Rattle.std.specs.Prelude.{◌≡◌, ◌⊎◌, ⊤, true, ℕ, List, Option, Some, None}
use Rattle.serde_json.specs.Data.{Data}
use Rattle.serde_json.specs.View.{view}
use Rattle.definitions.specs.Games.{Allocation}
use Rattle.fractions.specs.Fraction.{Fraction}
use Rattle.kohlberg.specs.Certificate.{CertificateData}
use Rattle.document_parts.specs.Excess.{measure_of}
use Rattle.game_text.specs.Shape.{is_game_shaped}
use Rattle.game_text.specs.Classes.{has_players, has_numbers, description_of, description_in}
use Rattle.game_text.specs.Denominators.{shares_of, shares_for, contents_of, tree_refusal}
use Rattle.game_text.specs.Documents.{Contents, family_for, fractions_for, certificate_for}
use Rattle.game_text.specs.Refusals.{IsRefused, IsDocument}
use Rattle.game_text.specs.Steps.{size_refusal, number_refusal, own_refusal, game_refusal, proposal_refusal}
use Rattle.game_text.specs.Steps.{share_refusal, certificate_refusal, late_refusal}
use Rattle.game_text.specs.declared.classes.Class.{Class}
use Rattle.game_text.specs.declared.classes.Class.TheVariants.{Table, Cost}
use Rattle.game_text.specs.declared.command.Command.{Command}
use Rattle.game_text.specs.declared.document.Document.{Document}
use Rattle.game_text.specs.declared.document.TextFault.{TextFault}
use Rattle.game_text.specs.declared.document.TextFault.TheVariants.{Refused, Memory}
use Rattle.game_text.specs.declared.classes.Game.{Game}
use Rattle.game_text.specs.declared.reading.Said.{Said}
use Rattle.kinds.specs.declared.refusal.Refusal.{Refusal}

pub record HasSizes (game : Data) : Type 0 where
  pub shaped : is_game_shaped game ≡ true
  pub players : has_players game ≡ true
  pub numbers : has_numbers game ≡ true

-- the tests of the players and the numbers refuse it so; want of memory is free
abbrev pub IsSizeFault : Data → TextFault → Type 0
IsSizeFault game (Refused r) = (rest : Option Refusal) → size_refusal game rest ≡ Some r
IsSizeFault game Memory = ⊤

-- the shares that the command needs are numbers, and these are the fractions that it needs
pub record AreNeededFractions (command : Command) (tree : Data) (written : Option (List Fraction)) : Type 0 where
  pub passed : (rest : Option Refusal) → number_refusal command tree rest ≡ rest
  pub same : written ≡ fractions_for command tree

-- a share that the command needs is no number; want of memory is free
abbrev pub IsFractionFault : Command → Data → TextFault → Type 0
IsFractionFault command tree (Refused r) = (rest : Option Refusal) → number_refusal command tree rest ≡ Some r
IsFractionFault command tree Memory = ⊤

abbrev pub IsTableClass : Option Class → Type 0
IsTableClass c = (c ≡ Some Table) ⊎ (c ≡ Some Cost)

-- the test of the class passes, and this is the game that is described
pub record IsBuilt (game : Data) (g : Game) : Type 0 where
  pub passed : (rest : Option Refusal) → own_refusal game rest ≡ rest
  pub same : description_in g ≡ description_of game

-- the test of the class refuses it so; want of memory is free
abbrev pub IsBuildFault : Data → TextFault → Type 0
IsBuildFault game (Refused r) = (rest : Option Refusal) → own_refusal game rest ≡ Some r
IsBuildFault game Memory = ⊤

-- the tests of the names and of the class pass, and this is the game that is described
pub record IsGameReading (game : Data) (g : Game) : Type 0 where
  pub passed : (rest : Option Refusal) → game_refusal game rest ≡ rest
  pub same : description_in g ≡ description_of game

-- the tests of the names and of the class refuse it so; want of memory is free
abbrev pub IsGameFault : Data → TextFault → Type 0
IsGameFault game (Refused r) = (rest : Option Refusal) → game_refusal game rest ≡ Some r
IsGameFault game Memory = ⊤

-- the tests of the shares pass, and these are the shares
pub record IsProposal (game tree : Data) (x : Allocation) : Type 0 where
  pub passed : (rest : Option Refusal) → proposal_refusal game tree rest ≡ rest
  pub same : x ≡ shares_of game tree

-- the tests of the shares refuse it so; want of memory is free
abbrev pub IsProposalFault : Data → Data → TextFault → Type 0
IsProposalFault game tree (Refused r) = (rest : Option Refusal) → proposal_refusal game tree rest ≡ Some r
IsProposalFault game tree Memory = ⊤

-- the tests of the shares that the command needs pass, and these are the shares that it needs
pub record IsShareReading (command : Command) (game tree : Data) (shares : Option Allocation) : Type 0 where
  pub passed : (rest : Option Refusal) → share_refusal command game tree rest ≡ rest
  pub same : shares ≡ shares_for command game tree

-- the tests of the shares that the command needs refuse it so; want of memory is free
abbrev pub IsShareFault : Command → Data → Data → TextFault → Type 0
IsShareFault command game tree (Refused r) = (rest : Option Refusal) → share_refusal command game tree rest ≡ Some r
IsShareFault command game tree Memory = ⊤

-- the test of the certificate that the command needs passes, and this is the certificate that it needs
pub record IsCertificateReading (command : Command) (game tree : Data) (certificate : Option CertificateData) : Type
    0 where
  pub passed : certificate_refusal command game tree ≡ None
  pub same : certificate ≡ certificate_for command game tree

-- the test of the certificate that the command needs refuses it so; want of memory is free
abbrev pub IsCertificateFault : Command → Data → Data → TextFault → Type 0
IsCertificateFault command game tree (Refused r) = certificate_refusal command game tree ≡ Some r
IsCertificateFault command game tree Memory = ⊤

abbrev pub contents_in : Document → Contents
contents_in d = record {
  game = description_in d.game;
  tree = view d.tree;
  measure = d.measure;
  scale = d.scale;
  family = d.family;
  shares = d.shares;
  certificate = d.certificate;
}

-- the tests behind those of the shape, the players and the numbers pass, and this is what the tree says beside the tree
-- and the scale of the game
pub record IsLateReading (command : Command) (game tree : Data) (s : Said) : Type 0 where
  pub passed : late_refusal command game tree ≡ None
  pub described : description_in s.game ≡ description_of game
  pub measure : s.measure ≡ measure_of game
  pub family : s.family ≡ family_for command tree
  pub shares : s.shares ≡ shares_for command game tree
  pub certificate : s.certificate ≡ certificate_for command game tree

-- the tests behind those of the shape, the players and the numbers refuse it so; want of memory is free
abbrev pub IsLateFault : Command → Data → Data → TextFault → Type 0
IsLateFault command game tree (Refused r) = late_refusal command game tree ≡ Some r
IsLateFault command game tree Memory = ⊤

-- no test refuses the tree, and this is what it says
pub record IsTreeReading (command : Command) (tree : Data) (d : Document) : Type 0 where
  pub passed : tree_refusal command tree ≡ None
  pub says : contents_in d ≡ contents_of command tree

-- the first test that the tree doesn't pass refuses it so; want of memory is free
abbrev pub IsTreeFault : Command → Data → TextFault → Type 0
IsTreeFault command tree (Refused r) = tree_refusal command tree ≡ Some r
IsTreeFault command tree Memory = ⊤

-- no refusal applies to the bytes, and this is the document that they are the text of
abbrev pub IsReading : Command → List ℕ → Document → Type 0
IsReading command bytes d = IsDocument command bytes (contents_in d)

-- the first refusal that applies to the bytes; want of memory is free
abbrev pub IsFault : Command → List ℕ → TextFault → Type 0
IsFault command bytes (Refused r) = IsRefused command bytes r
IsFault command bytes Memory = ⊤
