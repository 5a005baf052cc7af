use Rattle.std.proofs.Common.{◌≡◌, ◌<◌, ◌^◌, ℕ, Bool, true, false, Option, ℤ, ◌<ℤ◌}
use Rattle.std.proofs.Common.{◌*ℤ◌, unsigned_abs, to_z, of_z, ap, ◌∙◌, arith}
use Rattle.std.proofs.lemmas.Int.{ints}
use mir.Syntax.{w64, w128}
use lib.Signed.{lt_z, mag}
use Rattle.definitions.specs.Games.{Game, IsGame}
use Rattle.definitions.proofs.Casts.{cast_kept}
use Rattle.kohlberg.proofs.Kept.{kept}
use Rattle.separation.specs.Making.{plain}
use Rattle.separation.specs.Values.{column_value, counted}
use Rattle.separation.specs.declared.column.Column.{Column}
use Rattle.separation.proofs.InFront.{second_up, none_up}
use Rattle.separation.proofs.front.first_of_both.Goals as goal

-- tests of two numbers of 128 bits
less : (a b x y : ℤ) → mag a < 2 ^ 127 → mag b < 2 ^ 127 → a ≡ x → b ≡ y
    → lt_z (to_z w128 (of_z w128 a)) (to_z w128 (of_z w128 b)) ≡ true → x <ℤ y
less a b x y ha hb e f t = rw (← e, ← f) (let h = rw (kept a ha, kept b hb) at t in omega (arith, ints, h))

not_less : (a b x y : ℤ) → mag a < 2 ^ 127 → mag b < 2 ^ 127 → a ≡ x → b ≡ y
    → lt_z (to_z w128 (of_z w128 a)) (to_z w128 (of_z w128 b)) ≡ false → ¬ (x <ℤ y)
not_less a b x y ha hb e f t =
    rw (← e, ← f) (let h = rw (kept a ha, kept b hb) at t in λ lt. omega (arith, ints))

-- what the worth of a coalition counts for, over the denominator
cost_is : (g : Game) (n s : ℕ) (level : Option ℕ) (column : Column) (den : ℤ) (w : Bool) → IsGame g → n ≡ g.players
    → s < 2 ^ n → column ≡ plain g s level
    → den *ℤ counted w (to_z w64 (of_z w64 column.cost)) ≡ den *ℤ counted w (g.worth s)
cost_is g n s level column den w game same within is =
    let small : unsigned_abs (g.worth s) < 2 ^ 46 = game.small s (rw same at within) in
    cc (cast_kept w64 (g.worth s) (omega arith))

pub returns-then-cost-value : goal.returns-then-cost-value
returns-then-cost-value g c =
    let scan = c.args.scan.now in
    let p = scan.program.now in
    let m = scan.m.now in
    let game = g.W.Worth.game p.game.now in
    let value = c.value-value.ensures ∙ ap (column_value p.measure m.num.items p.players) c.plain-column.ensures in
    let cost : c.bar-cost.result ≡ m.den *ℤ counted scan.with_costs (game.worth c.args.s) =
    c.bar-cost.ensures
    ∙ cost_is game p.players c.args.s c.args.level c.plain-column.result m.den scan.with_costs p.laws p.count
    c.requires.within c.plain-column.ensures in
    second_up c.args.scan.now c.args.s c.args.level
    (not_less _ _ _ _ c.value-value.type_inv c.bar-cost.type_inv value cost c.if-value-cost.false)
    (less _ _ _ _ c.bar-cost.type_inv c.value-value.type_inv cost value c.if-cost-value.true)

pub returns-else-cost-value : goal.returns-else-cost-value
returns-else-cost-value g c =
    let scan = c.args.scan.now in
    let p = scan.program.now in
    let m = scan.m.now in
    let game = g.W.Worth.game p.game.now in
    let value = c.value-value.ensures ∙ ap (column_value p.measure m.num.items p.players) c.plain-column.ensures in
    let cost : c.bar-cost.result ≡ m.den *ℤ counted scan.with_costs (game.worth c.args.s) =
    c.bar-cost.ensures
    ∙ cost_is game p.players c.args.s c.args.level c.plain-column.result m.den scan.with_costs p.laws p.count
    c.requires.within c.plain-column.ensures in
    none_up c.args.scan.now c.args.s c.args.level
    (not_less _ _ _ _ c.value-value.type_inv c.bar-cost.type_inv value cost c.if-value-cost.false)
    (not_less _ _ _ _ c.bar-cost.type_inv c.value-value.type_inv cost value c.if-cost-value.false)
