use Rattle.std.proofs.Common.{◌≡◌, ◌≤◌, ◌%◌, ◌^◌, ℕ, ℤ, pos, ◌+ℤ◌, Option, length}
use Rattle.std.proofs.Common.{slice_index_or, unsigned_abs, to_z, of_z, refl, ap, ◌∙◌, arith}
use mir.Syntax.{w128}
use Rattle.definitions.proofs.Casts.{cast_kept}
use Rattle.separation.specs.Values.{low_of, high_of, level_multiplier}
use Rattle.separation.proofs.Blocks.{front_within, block_value}
use Rattle.separation.proofs.scan.Scan.base.Goals as goal

pub returns-clause-values : goal.returns-clause-values
returns-clause-values g c = λ s lower upper.
    let scan = c.args.self.now in
    let p = scan.program.now in
    let game = g.W.Worth.game p.game.now in
    let num = scan.m.now.num.items in
    let based =
    c.base.ensures.value
    ∙ ap
    (λ (l : Option ℕ). slice_index_or (high_of scan.sums) c.args.block (pos 0) +ℤ level_multiplier num p.players l)
    c.level.ensures in
    let le : p.players ≤ length num = omega (arith, scan.rows) in
    let within = front_within p.front p.players p.levels (length num) p.rows scan.rows in
    let small : unsigned_abs c.base.result ≤ 2 ^ 114 = c.base.ensures.small in
    let kept : to_z w128 (of_z w128 c.base.result) ≡ c.base.result =
    cast_kept w128 c.base.result (omega (arith, small)) in
    ap (λ (z : ℤ). z +ℤ slice_index_or (low_of scan.sums) (s % 256) (pos 0)) kept
    ∙ rw c.requires.plain
    (block_value num p.players s c.args.block _ scan.sums (game.worth s) c.base.result _ le within scan.are_sums lower
    upper c.requires.block based refl)
