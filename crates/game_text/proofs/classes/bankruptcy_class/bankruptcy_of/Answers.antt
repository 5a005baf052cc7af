use Rattle.std.proofs.Common.{◌≡◌, length, to_z, of_z, w64, Some, rules, refl, sym, ap, ◌∙◌, subst, arith}
use Rattle.serde_json.specs.View.{view}
use Rattle.airport.specs.Costs.{IsCost}
use Rattle.document_parts.specs.Scales.{scale_of}
use Rattle.game_text.specs.declared.classes.Class.TheVariants as class
use Rattle.game_text.specs.declared.classes.Game.TheVariants as games
use Rattle.game_text.proofs.GivenNumbers.{bankruptcy_numbers, first_is, rest_is}
use Rattle.game_text.proofs.Built.{built_if}
use Rattle.game_text.proofs.Sizes.{AreCosts, bankruptcy_sizes, claims_made}
use Rattle.game_text.proofs.classes.bankruptcy_class.bankruptcy_of.Goals as goal

pub returns-in-Err-Players : goal.returns-in-Err-Players
returns-in-Err-Players c =
    let sizes =
    bankruptcy_sizes (scale_of (view c.args.game.now)) (view c.args.game.now) refl c.requires.class
    c.requires.sizes in
    let claims : AreCosts c.remove-estate.new.self.items =
    subst AreCosts
    (sym
    (rest_is _ _ _ _
    (bankruptcy_numbers (view c.args.game.now) c.args.numbers.items c.requires.class c.requires.sizes
    c.requires.numbers) c.remove-estate.ensures.items)) sizes.claims_small in
    absurd ((rw c.in-Err-Players.field-0-is at c.in-Err-Players.ensures) (claims.some, claims.few))

pub returns-in-Err-Number : goal.returns-in-Err-Number
returns-in-Err-Number c =
    let sizes =
    bankruptcy_sizes (scale_of (view c.args.game.now)) (view c.args.game.now) refl c.requires.class
    c.requires.sizes in
    let claims : AreCosts c.remove-estate.new.self.items =
    subst AreCosts
    (sym
    (rest_is _ _ _ _
    (bankruptcy_numbers (view c.args.game.now) c.args.numbers.items c.requires.class c.requires.sizes
    c.requires.numbers) c.remove-estate.ensures.items)) sizes.claims_small in
    let kept : to_z w64 (of_z w64 c.remove-estate.result) ≡ c.remove-estate.result = search rules in
    let estate : IsCost (to_z w64 (of_z w64 c.remove-estate.result)) =
    subst IsCost
    (sym
    (kept
    ∙ (first_is _ _ _ _
    (bankruptcy_numbers (view c.args.game.now) c.args.numbers.items c.requires.class c.requires.sizes
    c.requires.numbers) c.remove-estate.ensures.value))) sizes.estate_small in
    absurd ((rw c.in-Err-Number.field-0-is at c.in-Err-Number.ensures).1 (estate, claims.small))

pub returns-in-Ok : goal.returns-in-Ok
returns-in-Ok c =
    let kept : to_z w64 (of_z w64 c.remove-estate.result) ≡ c.remove-estate.result = search rules in
    built_if (Some class.Bankruptcy) (scale_of (view c.args.game.now)) (view c.args.game.now) c.requires.class
    refl
    games.Bankruptcy _ c.in-Ok.game
    (claims_made c.in-Ok.game _ _
    (c.in-Ok.ensures.0 ∙ kept
    ∙ (first_is _ _ _ _
    (bankruptcy_numbers (view c.args.game.now) c.args.numbers.items c.requires.class c.requires.sizes
    c.requires.numbers) c.remove-estate.ensures.value))
    (c.in-Ok.ensures.1
    ∙ (rest_is _ _ _ _
    (bankruptcy_numbers (view c.args.game.now) c.args.numbers.items c.requires.class c.requires.sizes
    c.requires.numbers) c.remove-estate.ensures.items)) c.estate.ensures.laws.enough) refl

pub remove-estate-requires : goal.remove-estate-requires
remove-estate-requires c =
    let n =
    ap length
    (bankruptcy_numbers (view c.args.game.now) c.args.numbers.items c.requires.class c.requires.sizes
    c.requires.numbers) in
    omega (arith, n)
