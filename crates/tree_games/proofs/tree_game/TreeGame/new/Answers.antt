use Rattle.std.proofs.Common.{rules, ◌≤◌, length, map, refl}
use Rattle.tree_games.specs.Trees.{IsTree}
use Rattle.tree_games.proofs.Nearest.{tree_is_game}
use Rattle.tree_games.proofs.Squares.{tree_made}
use Rattle.tree_games.proofs.tree_game.TreeGame.new.Goals as goal

pub returns : goal.returns
returns c =
    let xs = c.args.matrix.items in
    let some : 2 ≤ length xs = search rules in
    let few : length xs ≤ 17 = search rules in
    let tree : IsTree (map (λ row. row.items) c.args.matrix.items) =
    tree_made (λ row. row.items) xs c.deref.result.now c.deref-2.result.now c.have_entries.result
    c.are_links.result some few c.deref.ensures.value c.if-not-have_entries.false c.have_entries.ensures.0
    c.deref-2.ensures.value c.if-not-are_links.false c.are_links.ensures.0 in
    (refl, tree, tree_is_game (map (λ row. row.items) c.args.matrix.items) tree)
