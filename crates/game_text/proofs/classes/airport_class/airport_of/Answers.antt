use Rattle.std.proofs.Common.{map, unsigned_abs, Some, refl, sym, ap, ◌∙◌, subst}
use Rattle.serde_json.specs.View.{view}
use Rattle.game_text.specs.Classes.{airport}
use Rattle.game_text.specs.declared.classes.Class.TheVariants as class
use Rattle.game_text.specs.declared.classes.Game.TheVariants as games
use Rattle.document_parts.specs.Scales.{scale_of}
use Rattle.game_text.proofs.Built.{built}
use Rattle.game_text.proofs.GivenNumbers.{of_class}
use Rattle.game_text.proofs.Sizes.{AreCosts, airport_sizes, kept_sizes}
use Rattle.game_text.proofs.classes.airport_class.airport_of.Goals as goal

pub returns-in-Err-Players : goal.returns-in-Err-Players
returns-in-Err-Players c =
    let sizes : AreCosts c.args.costs.items =
    subst AreCosts
    (sym (of_class class.Airport (view c.args.game.now) c.args.costs.items c.requires.class c.requires.numbers))
    (airport_sizes (scale_of (view c.args.game.now)) (view c.args.game.now) refl c.requires.class
    c.requires.sizes) in
    absurd ((rw c.in-Err-Players.field-0-is at c.in-Err-Players.ensures) (sizes.some, sizes.few))

pub returns-in-Err-Number : goal.returns-in-Err-Number
returns-in-Err-Number c =
    let sizes : AreCosts c.args.costs.items =
    subst AreCosts
    (sym (of_class class.Airport (view c.args.game.now) c.args.costs.items c.requires.class c.requires.numbers))
    (airport_sizes (scale_of (view c.args.game.now)) (view c.args.game.now) refl c.requires.class
    c.requires.sizes) in
    absurd ((rw c.in-Err-Number.field-0-is at c.in-Err-Number.ensures).2 sizes.small)

pub returns-in-Ok : goal.returns-in-Ok
returns-in-Ok c =
    built (Some class.Airport) (scale_of (view c.args.game.now)) (view c.args.game.now) c.requires.class refl
    (games.Airport c.in-Ok.costs) refl
    (ap airport
    (kept_sizes c.in-Ok.costs.costs c.args.costs.items c.in-Ok.ensures
    ∙ ap (map unsigned_abs)
    (of_class class.Airport (view c.args.game.now) c.args.costs.items c.requires.class c.requires.numbers)))
