use Rattle.std.proofs.Common.{rules, ◌≡◌, ◌⊎◌, ◌-◌, ◌<◌, ◌≤◌, length, map, refl, ap}
use Rattle.std.proofs.Common.{inl, inr}
use Rattle.assignment_games.proofs.Games.{assignment_is_game}
use Rattle.assignment_games.proofs.Evenness.{AreFew, buyers_fail, few_players, filled_whole, no_buyers, no_entries}
use Rattle.assignment_games.proofs.Evenness.{no_sellers, rows_tested, sellers_fail, sides_made, uneven}
use Rattle.assignment_games.proofs.assignment_game.AssignmentGame.new.Goals as goal
use Rattle.assignment_games.proofs.assignment_game.AssignmentGame.new.Goals.{
  then-sellers-lt1-via-then-sellers-lt1,
  then-sellers-lt1-via-else-sellers-lt1+then-sellers-buyers,
}

pub invariant_of-result : goal.invariant_of-result
invariant_of-result c =
    let xs = c.args.matrix.items in
    let p = c.len-buyers.result in
    let q = c.len-sellers.result in
    let rows : p ≡ length xs = search rules in
    let some : 1 ≤ p = search rules in
    let columns : q ≡ length c.index.result.now.items = search rules in
    let tested =
    rows_tested AreFew (λ row. row.items) xs p rows some c.index.result.now q c.index.ensures columns
    (few_players p q some (search rules) (search rules) (search rules)) c.have_entries.result c.have_length.result
    c.deref.result.now c.deref-2.result.now
    c.deref.ensures.value c.if-not-have_entries.false c.have_entries.ensures.0 c.deref-2.ensures.value
    c.if-not-have_length.false c.have_length.ensures.0 in
    let sides = sides_made (map (λ row. row.items) xs) p q tested in (
      sides.game,
      filled_whole (map (λ row. row.items) xs) (map (λ row. row.items) c.deref-3.result.now)
          c.in-Ok.values.items p q (ap (map (λ row. row.items)) c.deref-3.ensures.value) sides c.in-Ok.ensures,
    )

pub returns : goal.returns
returns c =
    let xs = c.args.matrix.items in
    let p = c.len-buyers.result in
    let q = c.len-sellers.result in
    let rows : p ≡ length xs = search rules in
    let some : 1 ≤ p = search rules in
    let columns : q ≡ length c.index.result.now.items = search rules in
    let tested =
    rows_tested AreFew (λ row. row.items) xs p rows some c.index.result.now q c.index.ensures columns
    (few_players p q some (search rules) (search rules) (search rules)) c.have_entries.result c.have_length.result
    c.deref.result.now c.deref-2.result.now
    c.deref.ensures.value c.if-not-have_entries.false c.have_entries.ensures.0 c.deref-2.ensures.value
    c.if-not-have_length.false c.have_length.ensures.0 in
    (refl, (sides_made (map (λ row. row.items) xs) p q tested).game, assignment_is_game (map (λ row. row.items) xs))

pub returns-then-buyers-lt1 : goal.returns-then-buyers-lt1
returns-then-buyers-lt1 c =
    no_buyers AreFew (λ row. row.items) c.args.matrix.items c.len-buyers.result (search rules)
    (buyers_fail c.len-buyers.result c.then-buyers-lt1.either)

pub returns-then-sellers-lt1 : goal.returns-then-sellers-lt1
returns-then-sellers-lt1 c =
    let p = c.len-buyers.result in
    let q = c.len-sellers.result in
    let fails : (q < 1) ⊎ ((1 ≤ q) × (16 - p < q)) = elim c.then-sellers-lt1.branch [
      | then-sellers-lt1-via-then-sellers-lt1 w ↦ inl w.if-sellers-lt1.true
      | then-sellers-lt1-via-else-sellers-lt1+then-sellers-buyers w ↦ inr
          (w.if-sellers-lt1.false, w.if-sellers-buyers.true)
    ] in
    no_sellers AreFew (λ row. row.items) c.args.matrix.items p (search rules) c.if-buyers-lt1.false c.index.result.now
    q
    c.index.ensures (search rules) (sellers_fail p q c.if-buyers-gt15.false fails)

pub returns-then-not-have_entries : goal.returns-then-not-have_entries
returns-then-not-have_entries c =
    let p = c.len-buyers.result in
    let q = c.len-sellers.result in
    no_entries AreFew (λ row. row.items) c.args.matrix.items p (search rules) c.if-buyers-lt1.false c.index.result.now
    q
    c.index.ensures (search rules)
    (few_players p q c.if-buyers-lt1.false c.if-buyers-gt15.false c.if-sellers-lt1.false c.if-sellers-buyers.false)
    c.have_entries.result c.deref.result.now c.deref.ensures.value c.if-not-have_entries.true
    c.have_entries.ensures.1

pub returns-then-not-have_length : goal.returns-then-not-have_length
returns-then-not-have_length c =
    let p = c.len-buyers.result in
    let q = c.len-sellers.result in
    uneven AreFew (λ row. row.items) c.args.matrix.items p (search rules) c.if-buyers-lt1.false c.index.result.now q
    c.index.ensures (search rules)
    (few_players p q c.if-buyers-lt1.false c.if-buyers-gt15.false c.if-sellers-lt1.false c.if-sellers-buyers.false)
    c.have_entries.result c.have_length.result c.deref.result.now c.deref-2.result.now c.deref.ensures.value
    c.if-not-have_entries.false c.have_entries.ensures.0 c.deref-2.ensures.value c.if-not-have_length.true
    c.have_length.ensures.1

pub returns-in_default : goal.returns-in_default
returns-in_default c =
    let xs = c.args.matrix.items in
    let p = c.len-buyers.result in
    let q = c.len-sellers.result in
    let rows : p ≡ length xs = search rules in
    let some = c.if-buyers-lt1.false in
    let columns : q ≡ length c.index.result.now.items = search rules in
    let tested =
    rows_tested AreFew (λ row. row.items) xs p rows some c.index.result.now q c.index.ensures columns
    (few_players p q some c.if-buyers-gt15.false c.if-sellers-lt1.false c.if-sellers-buyers.false)
    c.have_entries.result c.have_length.result c.deref.result.now c.deref-2.result.now
    c.deref.ensures.value c.if-not-have_entries.false c.have_entries.ensures.0 c.deref-2.ensures.value
    c.if-not-have_length.false c.have_length.ensures.0 in
    (sides_made (map (λ row. row.items) xs) p q tested).game
