-- The numbers that were read of a game are its own.
use Rattle.std.proofs.Common.{◌≡◌, ℕ, ℤ, List, map, true, ap, ◌∙◌}
use Rattle.std.proofs.lemmas.Bool.{and_parts}
use Rattle.serde_json.specs.Data.{Data}
use Rattle.document_parts.specs.Numbers.{AreWorths}
use Rattle.document_parts.specs.Scales.{scale_of}
use Rattle.document_parts.specs.ScaledNumbers.{number_or_zero}
use Rattle.game_text.specs.Classes.{class_of, is_shaped_as, has_numbers, are_numbers_as, own_values, own_numbers}
use Rattle.game_text.specs.Shape.{is_game_shaped}
use Rattle.game_text.proofs.Laws.{laws_of}
use Rattle.game_text.proofs.OwnValues.{OwnsNumbers}

its_own : (game : Data) → is_game_shaped game ≡ true → OwnsNumbers (class_of game) game
its_own game h = (laws_of (class_of game)).own game (and_parts _ (is_shaped_as (class_of game) game) h).1

pub own_tested : (game : Data) → is_game_shaped game ≡ true
    → has_numbers game ≡ are_numbers_as (class_of game) (own_values game)
own_tested game h = (its_own game h).tested

-- numbers that were read are those of the game
pub record AreOwn (game : Data) (k : ℕ) (zs : List ℤ) : Type 0 where
  pub within : has_numbers game ≡ true
  pub scale : k ≡ scale_of game
  pub numbers : zs ≡ own_numbers game

pub are_own : (game : Data) (k : ℕ) (zs : List ℤ) → is_game_shaped game ≡ true
    → are_numbers_as (class_of game) (own_values game) ≡ true → AreWorths (own_values game) k zs → AreOwn game k zs
are_own game k zs h w read =
    let same = read.scale ∙ (its_own game h).scale in
    record {
      within = own_tested game h ∙ w;
      scale = same;
      numbers = read.numbers ∙ ap (λ n. map (number_or_zero n) (own_values game)) same;
    }
