use Rattle.std.proofs.Common.{ap, ◌∙◌, subst, ℕ, List, ℤ, length, get_or, pos, ◌+◌}
use Rattle.std.proofs.Common.{◌^◌}
use Rattle.std.proofs.lemmas.Int.{fits_signed_from_abs}
use mir.Syntax.{w64}
use Rattle.matrices.specs.Rows.{entries_of}
use Rattle.assignment_games.specs.Assignments.{IsAssignment, IsFilled, seller_count}
use Rattle.assignment_games.proofs.Games.{worth_read}
use Rattle.assignment_games.proofs.assignment_game.AssignmentGameWorth.worth.Goals as goal

pub overflow_cast-result : goal.overflow_cast-result
overflow_cast-result c =
    let x = c.index.result.now in
    let values = c.self.inside.values.items in
    let inside =
    subst
    (λ (rows : List (List ℤ)). IsAssignment rows
    × IsFilled (entries_of rows) (length rows) values (2 ^ (length rows + seller_count rows)))
    c.self.view_is c.self.invariant in
    let is = c.index.ensures ∙ ap (λ (k : ℕ). get_or values k x) c.s.view_is in
    fits_signed_from_abs w64 (pos x)
    (worth_read c.args.self.now values c.args.s x inside.0 inside.1 c.requires is).1

pub returns : goal.returns
returns c =
    let x = c.index.result.now in
    let values = c.self.inside.values.items in
    let inside =
    subst
    (λ (rows : List (List ℤ)). IsAssignment rows
    × IsFilled (entries_of rows) (length rows) values (2 ^ (length rows + seller_count rows)))
    c.self.view_is c.self.invariant in
    let is = c.index.ensures ∙ ap (λ (k : ℕ). get_or values k x) c.s.view_is in
    (worth_read c.args.self.now values c.args.s x inside.0 inside.1 c.requires is).0
