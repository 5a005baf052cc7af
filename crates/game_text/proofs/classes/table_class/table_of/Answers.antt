use Rattle.std.proofs.Common.{option_map, sym, ap, ◌∙◌, arith}
use Rattle.serde_json.specs.View.{view}
use Rattle.game_text.specs.Classes.{class_of}
use Rattle.document_parts.specs.Scales.{scale_of}
use Rattle.game_text.proofs.Laws.{table_counted}
use Rattle.game_text.proofs.Sizes.{table_made}
use Rattle.game_text.proofs.GivenNumbers.{table_shape, table_given}
use Rattle.game_text.proofs.classes.table_class.table_of.Goals as goal

pub returns-in-Err-Players : goal.returns-in-Err-Players
returns-in-Err-Players c =
    let made =
    table_made (scale_of (view c.args.game.now)) (view c.args.game.now) c.requires.class c.requires.sizes c.args.count
    c.args.names.now c.in-Some.worths.items c.requires.count c.requires.names
    (ap (option_map (λ v. v.items)) (sym c.in-Some.is) ∙ c.in_ok-worths.ensures) in
    absurd ((rw c.in-Err-Players.field-0-is at c.in-Err-Players.ensures) made.whole)

pub returns-in-Err-Number : goal.returns-in-Err-Number
returns-in-Err-Number c =
    let made =
    table_made (scale_of (view c.args.game.now)) (view c.args.game.now) c.requires.class c.requires.sizes c.args.count
    c.args.names.now c.in-Some.worths.items c.requires.count c.requires.names
    (ap (option_map (λ v. v.items)) (sym c.in-Some.is) ∙ c.in_ok-worths.ensures) in
    absurd ((rw c.in-Err-Number.field-0-is at c.in-Err-Number.ensures).1 made.small)

pub overflow_cast-count : goal.overflow_cast-count
overflow_cast-count c =
    omega (
      arith,
      c.requires.count,
      table_counted (class_of (view c.args.game.now)) (view c.args.game.now) c.requires.class
          c.requires.sizes.players,
    )

pub table_numbers-requires-clause-few : goal.table_numbers-requires-clause-few
table_numbers-requires-clause-few c =
    omega (
      arith,
      c.requires.count,
      table_counted (class_of (view c.args.game.now)) (view c.args.game.now) c.requires.class
          c.requires.sizes.players,
    )

pub table_numbers-requires-clause-shaped : goal.table_numbers-requires-clause-shaped
table_numbers-requires-clause-shaped c = table_shape (view c.args.game.now) c.requires.class c.requires.sizes

pub table_numbers-requires-clause-numbers : goal.table_numbers-requires-clause-numbers
table_numbers-requires-clause-numbers c =
    table_given (view c.args.game.now) c.args.numbers.items c.requires.class c.requires.numbers
