-- The game that is built of a class, and its refusal.
use Rattle.std.proofs.Common.{◌≡◌, ℕ, Bool, true, false, Option, Some, None, if◌then◌else◌, sym}
use Rattle.std.proofs.Common.{ap, ◌∙◌}
use Rattle.serde_json.specs.Data.{Data}
use Rattle.document_parts.specs.Scales.{scale_of}
use Rattle.game_text.specs.Classes.{class_of, own_as, own_test, description_as, description_of, description_in}
use Rattle.game_text.specs.Readings.{IsBuilt}
use Rattle.game_text.specs.Refusals.{unless}
use Rattle.game_text.specs.Steps.{own_refusal}
use Rattle.game_text.specs.declared.classes.Class.{Class}
use Rattle.game_text.specs.declared.classes.Game.{Game}
use Rattle.kinds.specs.declared.refusal.Refusal.{Refusal}
use Rattle.game_text.proofs.Choices.{passed_if, failed_if}

-- a game of the class c, with the scale k
module _ (c : Option Class) (k : ℕ) (game : Data) (is : class_of game ≡ c) (over : k ≡ scale_of game) where
  own_test_as : own_test game ≡ own_as k c game
  own_test_as = ap (λ d. own_as (scale_of game) d game) is ∙ ap (λ j. own_as j c game) (sym over)

  description_of_as : description_of game ≡ description_as k c game
  description_of_as =
      ap (λ d. description_as (scale_of game) d game) is ∙ ap (λ j. description_as j c game) (sym over)

  -- what the test of the class says decides
  refusal_by : (b : Bool) → (own_as k c game).1 ≡ b → (rest : Option Refusal)
      → own_refusal game rest ≡ unless b (own_as k c game).0 rest
  refusal_by b e rest =
      ap (λ (t : Refusal × Bool). unless t.1 t.0 rest) own_test_as
      ∙ ap (λ t. unless t (own_as k c game).0 rest) e

  -- the test passed, and this was made
  pub built : (g : Game) → (own_as k c game).1 ≡ true → description_in g ≡ description_as k c game → IsBuilt game g
  built g passed same = record { passed = refusal_by true passed; same = same ∙ sym description_of_as }

  -- the test passed, and gave what the game is made of
  pub built_if : {A : Type 0} (make : A → Game) (x y : A)
      → Some y ≡ (if (own_as k c game).1 then Some x else None)
      → description_in (make x) ≡ description_as k c game → IsBuilt game (make y)
  built_if make x y e same =
      let h = passed_if (own_as k c game).1 x y e in
      built (make y) h.0 (ap (λ z. description_in (make z)) h.1 ∙ same)

  -- it failed
  pub refused_if : {A : Type 0} (x : A) → None ≡ (if (own_as k c game).1 then Some x else None)
      → (rest : Option Refusal) → own_refusal game rest ≡ Some (own_as k c game).0
  refused_if x e = refusal_by false (failed_if (own_as k c game).1 x e)
