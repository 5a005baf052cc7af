use Rattle.std.proofs.Common.{rules, ◌≡◌, ◌≤◌, length, map, refl}
use Rattle.assignment_games.proofs.Games.{assignment_is_game}
use Rattle.assignment_games.proofs.Evenness.{no_buyers, no_entries, no_sellers, rows_tested, uneven}
use Rattle.big_assignment.proofs.Evenness.{AreFew, buyers_fail, market_made, sellers_fail}
use Rattle.big_assignment.proofs.market_game.MarketGame.new.Goals as goal

pub invariant_of-result : goal.invariant_of-result
invariant_of-result c =
    let xs = c.args.matrix.items in
    let p = c.len-buyers.result in
    let q = c.len-sellers.result in
    let rows : p ≡ length xs = search rules in
    let some : 1 ≤ p = search rules in
    let columns : q ≡ length c.index.result.now.items = search rules in
    let tested =
    rows_tested AreFew (λ row. row.items) xs p rows some c.index.result.now q c.index.ensures columns
    (some, search rules, search rules, search rules) c.have_entries.result c.have_length.result c.deref.result.now
    c.deref-2.result.now
    c.deref.ensures.value c.if-not-have_entries.false c.have_entries.ensures.0 c.deref-2.ensures.value
    c.if-not-have_length.false c.have_length.ensures.0 in
    market_made (map (λ row. row.items) xs) p q tested

pub returns : goal.returns
returns c =
    let xs = c.args.matrix.items in
    let p = c.len-buyers.result in
    let q = c.len-sellers.result in
    let rows : p ≡ length xs = search rules in
    let some : 1 ≤ p = search rules in
    let columns : q ≡ length c.index.result.now.items = search rules in
    let tested =
    rows_tested AreFew (λ row. row.items) xs p rows some c.index.result.now q c.index.ensures columns
    (some, search rules, search rules, search rules) c.have_entries.result c.have_length.result c.deref.result.now
    c.deref-2.result.now
    c.deref.ensures.value c.if-not-have_entries.false c.have_entries.ensures.0 c.deref-2.ensures.value
    c.if-not-have_length.false c.have_length.ensures.0 in
    (refl, market_made (map (λ row. row.items) xs) p q tested, assignment_is_game (map (λ row. row.items) xs))

pub returns-then-buyers-lt1 : goal.returns-then-buyers-lt1
returns-then-buyers-lt1 c =
    no_buyers AreFew (λ row. row.items) c.args.matrix.items c.len-buyers.result (search rules)
    (buyers_fail c.len-buyers.result c.then-buyers-lt1.either)

pub returns-then-sellers-lt1 : goal.returns-then-sellers-lt1
returns-then-sellers-lt1 c =
    let p = c.len-buyers.result in
    let q = c.len-sellers.result in
    no_sellers AreFew (λ row. row.items) c.args.matrix.items p (search rules) c.if-buyers-lt1.false c.index.result.now
    q
    c.index.ensures (search rules) (sellers_fail p q c.then-sellers-lt1.either)

pub returns-then-not-have_entries : goal.returns-then-not-have_entries
returns-then-not-have_entries c =
    no_entries AreFew (λ row. row.items) c.args.matrix.items c.len-buyers.result (search rules) c.if-buyers-lt1.false
    c.index.result.now c.len-sellers.result c.index.ensures (search rules)
    (c.if-buyers-lt1.false, c.if-buyers-gt-SIDE.false, c.if-sellers-lt1.false, c.if-sellers-gt-SIDE.false)
    c.have_entries.result c.deref.result.now c.deref.ensures.value c.if-not-have_entries.true
    c.have_entries.ensures.1

pub returns-then-not-have_length : goal.returns-then-not-have_length
returns-then-not-have_length c =
    uneven AreFew (λ row. row.items) c.args.matrix.items c.len-buyers.result (search rules) c.if-buyers-lt1.false
    c.index.result.now c.len-sellers.result c.index.ensures (search rules)
    (c.if-buyers-lt1.false, c.if-buyers-gt-SIDE.false, c.if-sellers-lt1.false, c.if-sellers-gt-SIDE.false)
    c.have_entries.result c.have_length.result c.deref.result.now c.deref-2.result.now c.deref.ensures.value
    c.if-not-have_entries.false c.have_entries.ensures.0 c.deref-2.ensures.value c.if-not-have_length.true
    c.have_length.ensures.1
