-- The words of a command line.
--
--   word_of            the word of a command that reads a document
--   number_text        the decimal digits of a number
--   generation_words   the words that ask for a generated game
--   IsCommand          the words are the one word of a command
--   IsGeneration       the words ask for the game of a kind, of so many players and a seed
--   IsNoCommand        they are neither
--   IsRequest          what the words ask for
--   IsFit              a request that words can make
--   Names              what the words ask for, or that they are those of no command
use Rattle.std.specs.Prelude.{◌≡◌, ⊤, ◌<◌, ◌^◌, ℕ, pos, List, [], ◌∷◌, codes}
use Rattle.std.specs.Prelude.{Option, Some, None}
use Rattle.fractions.specs.FractionTexts.{fraction_text}
use Rattle.game_text.specs.declared.command.Command.{Command}
use Rattle.game_text.specs.declared.command.Command.TheVariants.{Nucleolus, Prenucleolus, Propose, Core, Check}
use Rattle.game_text.specs.declared.command.Command.TheVariants.{Shapley, Bird, Convex, Kernel, Matching}
use Rattle.kinds.specs.declared.kind.Kind.{Kind}
use Rattle.coop_gen.specs.Generated.{HasKindSize}
use Rattle.report.specs.Words.{kind_word}
use Rattle.coop.specs.declared.words.Request.{Request}
use Rattle.coop.specs.declared.words.Request.TheVariants.{Read, Generate}

abbrev pub word_of : Command → List ℕ
word_of Nucleolus = codes "nucleolus"
word_of Prenucleolus = codes "prenucleolus"
word_of Propose = codes "propose"
word_of Core = codes "core"
word_of Check = codes "check"
word_of Shapley = codes "shapley"
word_of Bird = codes "bird"
word_of Convex = codes "convex"
word_of Kernel = codes "kernel"
word_of Matching = codes "matching"

-- a whole number's digits: no sign, and a leading zero only if the number is 0
abbrev pub number_text : ℕ → List ℕ
number_text n = fraction_text (record { num = pos n; den = pos 1 })

-- four words: `gen`, the kind, the number of players and the seed
abbrev pub generation_words : Kind → ℕ → ℕ → List (List ℕ)
generation_words kind n seed = codes "gen" ∷ kind_word kind ∷ number_text n ∷ number_text seed ∷ []

abbrev pub IsCommand : List (List ℕ) → Command → Type 0
IsCommand words command = words ≡ word_of command ∷ []

-- the words are those of a kind, of so many players as it has, and of a seed
pub record IsGeneration (words : List (List ℕ)) (kind : Kind) (n seed : ℕ) : Type 0 where
  pub said : words ≡ generation_words kind n seed
  pub size : HasKindSize kind n
  pub small : seed < 2 ^ 31

-- the words are those of no command
pub record IsNoCommand (words : List (List ℕ)) : Type 0 where
  pub reads : (command : Command) → ¬ IsCommand words command
  pub makes : (kind : Kind) (n seed : ℕ) → ¬ IsGeneration words kind n seed

abbrev pub IsRequest : List (List ℕ) → Request → Type 0
IsRequest words (Read command) = IsCommand words command
IsRequest words (Generate kind n seed) = IsGeneration words kind n seed

-- a kind has games of so many players, and the seed is below 2^31
abbrev pub IsFit : Request → Type 0
IsFit (Read command) = ⊤
IsFit (Generate kind n seed) = HasKindSize kind n × (seed < 2 ^ 31)

abbrev pub Names : List (List ℕ) → Option Request → Type 0
Names words None = IsNoCommand words
Names words (Some request) = IsRequest words request
