-- What is proved of generated games.
use Rattle.std.specs.Prelude.{◌≡◌, ℕ}
use Rattle.game_text.specs.Classes.{game_of, IsOfClass}
use Rattle.kinds.specs.declared.kind.Kind.{Kind}
use Rattle.coop_gen.specs.Generated.{HasKindSize, generated}
use Rattle.drawn_games.specs.Imputations.{HasImputations}

-- every generated game has imputations, so a nucleolus of it is found
abbrev pub GeneratedHaveImputations : Type 0
GeneratedHaveImputations =
    (kind : Kind) (n seed : ℕ) → HasKindSize kind n → HasImputations (game_of (generated kind n seed))

-- every generated game has the players that were asked for, and the worths of its class
abbrev pub GeneratedAreOfClass : Type 0
GeneratedAreOfClass =
    (kind : Kind) (n seed : ℕ) → HasKindSize kind n
    → ((game_of (generated kind n seed)).players ≡ n) × IsOfClass (generated kind n seed)
