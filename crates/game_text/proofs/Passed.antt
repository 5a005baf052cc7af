-- A tree that no test refuses passes each of them.
use Rattle.std.proofs.Common.{◌≡◌, Bool, true, false, ◌&&◌, Option, Some, None, refl, sym}
use Rattle.std.proofs.Common.{subst}
use Rattle.std.specs.Prelude.{⊤}
use Rattle.serde_json.specs.Data.{Data}
use Rattle.game_text.specs.Shape.{is_shaped}
use Rattle.game_text.specs.Classes.{has_players, has_numbers, own_test}
use Rattle.game_text.specs.Names.{has_names}
use Rattle.game_text.specs.Documents.{game_tree}
use Rattle.game_text.specs.Refusals.{unless, has_needed_numbers}
use Rattle.game_text.specs.Denominators.{tree_refusal}
use Rattle.game_text.specs.Steps.{needed_refusal}
use Rattle.game_text.specs.declared.command.Command.{Command}
use Rattle.kinds.specs.declared.refusal.Refusal.{Refusal}
use Rattle.kinds.specs.declared.refusal.Refusal.TheVariants.{Shape, Players, Number, Names}

-- no test refuses
abbrev pub IsPassed : Option Refusal → Type 0
IsPassed None = ⊤
IsPassed (Some r) = ⊥

pub behind : (b : Bool) (r : Refusal) (x : Option Refusal) → IsPassed (unless b r x) → (b ≡ true) × IsPassed x
behind true r x h = (refl, h)
behind false r x h = absurd h

-- what holds of a tree that isn't refused
pub record Passes (command : Command) (tree : Data) : Type 0 where
  pub shaped : is_shaped command tree ≡ true
  pub players : has_players (game_tree tree) ≡ true
  pub numbers : (has_numbers (game_tree tree) && has_needed_numbers command tree) ≡ true
  pub names : has_names (game_tree tree) ≡ true
  pub own : (own_test (game_tree tree)).1 ≡ true
  pub needed : IsPassed (needed_refusal command (game_tree tree) tree)

pub passed_tests : (command : Command) (tree : Data) → tree_refusal command tree ≡ None → Passes command tree
passed_tests command tree e =
    let game = game_tree tree in
    let needed = needed_refusal command game tree in
    let own = unless (own_test game).1 (own_test game).0 needed in
    let names = unless (has_names game) Names own in
    let numbers = has_numbers game && has_needed_numbers command tree in
    let number = unless numbers Number names in
    let a =
    behind (is_shaped command tree) Shape (unless (has_players game) Players number)
    (subst IsPassed (sym e) tt) in
    let b = behind (has_players game) Players number a.1 in
    let c = behind numbers Number names b.1 in
    let d = behind (has_names game) Names own c.1 in
    let f = behind (own_test game).1 (own_test game).0 needed d.1 in
    record { shaped = a.0; players = b.0; numbers = c.0; names = d.0; own = f.0; needed = f.1 }
