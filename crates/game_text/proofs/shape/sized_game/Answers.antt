use Rattle.std.proofs.Common.{◌≡◌, true, false}
use Rattle.std.proofs.Common.{rules, ap, ap₂, ◌∙◌}
use Rattle.serde_json.specs.View.{view}
use Rattle.document_parts.specs.Numbers.{AreWorths}
use Rattle.kinds.specs.declared.refusal.Refusal.TheVariants.{Players, Number}
use Rattle.game_text.specs.Classes.{class_of, has_players, players, has_numbers, are_numbers_as, own_values}
use Rattle.game_text.specs.Refusals.{unless}
use Rattle.game_text.proofs.Choices.{passed_if, failed_if}
use Rattle.game_text.proofs.OwnNumbers.{own_tested, are_own}
use Rattle.game_text.proofs.shape.sized_game.Goals as goal

pub returns-in_default : goal.returns-in_default
returns-in_default c =
    let game = view c.args.game.now.tree.now in
    let few = failed_if (has_players game) (players game) c.in_default.ensures in
    λ rest. ap (λ b. unless b Players (unless (has_numbers game) Number rest)) few

pub invariant_of-sized : goal.invariant_of-sized
invariant_of-sized c =
    let game = view c.args.game.now.tree.now in
    let within : are_numbers_as (class_of game) (own_values game) ≡ true = search rules in
    let read : AreWorths (own_values game) c.in-Some-2.numbers.scale c.in-Some-2.numbers.items.items =
    search rules in
    let counted = passed_if (has_players game) (players game) c.in-Some.count c.in-Some.ensures in
    let own =
    are_own game c.in-Some-2.numbers.scale c.in-Some-2.numbers.items.items c.args.game.now.shaped within read in
    record {
      named = c.args.game.now.named;
      sizes = record { shaped = c.args.game.now.shaped; players = counted.0; numbers = own.within };
      count_is = counted.1;
      scale_is = own.scale;
    }

pub returns-in_default-2 : goal.returns-in_default-2
returns-in_default-2 c =
    let game = view c.args.game.now.tree.now in
    let counted = passed_if (has_players game) (players game) c.in-Some.count c.in-Some.ensures in
    let none : are_numbers_as (class_of game) (own_values game) ≡ false = search rules in
    let bad = own_tested game c.args.game.now.shaped ∙ none in
    λ rest. ap₂ (λ a b. unless a Players (unless b Number rest)) counted.0 bad
